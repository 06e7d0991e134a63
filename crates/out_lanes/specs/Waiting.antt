-- What waits to leave.
use Rattle.std.specs.Prelude.{◌≡◌, ℕ, ◌⊎◌, List, refl}
use Rattle.std.proofs.Common.{inl, inr}
use Rattle.std.specs.Coded.{Coded, code_by, coded×, coded⊎, coded_list, coded_ℕ}
use Rattle.std.specs.FinMap.{FinMap, code}
use Rattle.std.specs.Ordering.{nat_cmp}
use Rattle.cell_codec.specs.Roomy.{Roomy}
use Rattle.cell_codec.specs.declared.cell.Body.{Body}
use Rattle.cell_codec.specs.declared.cell.Body.TheVariants.{Fixed, Var}
use Rattle.cell_codec.specs.declared.cell.Cell.{Cell}
use Rattle.hashed_maps.specs.Pairs.{Pair, pair_cmp}
use Rattle.out_lanes.specs.declared.destroy.Destroy.{Destroy}
use Rattle.out_lanes.specs.Lines.{line_at, roomy_code, OthersStay}

-- A circuit's number and the number of one of its legs.
abbrev pub LegName : Type 0
LegName = Pair

-- The cells that wait, by leg.
abbrev pub CellQueues : Type 0
CellQueues = FinMap pair_cmp (Roomy Cell)

-- The DESTROYs that wait, by channel.
abbrev pub ChannelLanes : Type 0
ChannelLanes = FinMap nat_cmp (Roomy Destroy)

pub record LanesState : Type 0 where
  pub queues : CellQueues
  pub lanes : ChannelLanes

-- The cells that wait on a leg, oldest first.
abbrev pub queue_on : LanesState → ℕ → ℕ → Roomy Cell
queue_on w circ leg = line_at w.queues (circ, leg)

-- The DESTROYs that wait on a channel, oldest first.
abbrev pub lane_on : LanesState → ℕ → Roomy Destroy
lane_on w chan = line_at w.lanes chan

-- Only this leg's queue changes.
pub record QueueChanges (old new : LanesState) (circ leg : ℕ) : Type 0 where
  pub queues : OthersStay old.queues new.queues (circ, leg)
  pub lanes : new.lanes ≡ old.lanes

-- Only this channel's lane changes.
pub record LaneChanges (old new : LanesState) (chan : ℕ) : Type 0 where
  pub lanes : OthersStay old.lanes new.lanes chan
  pub queues : new.queues ≡ old.queues

-- How these values are told apart.

abbrev pub body_parts : Body → List ℕ ⊎ Roomy ℕ
body_parts (Fixed payload) = inl payload
body_parts (Var payload) = inr payload

abbrev pub body_of : List ℕ ⊎ Roomy ℕ → Body
body_of (inl payload) = Fixed payload
body_of (inr payload) = Var payload

pub body_of-parts : (body : Body) → body_of (body_parts body) ≡ body
body_of-parts (Fixed payload) = refl
body_of-parts (Var payload) = refl

abbrev body_code : Coded Body
body_code = code_by (List ℕ ⊎ Roomy ℕ) (coded⊎ (coded_list coded_ℕ) (roomy_code coded_ℕ)) body_parts body_of body_of-parts

abbrev cell_code : Coded Cell
cell_code =
    code_by
    (ℕ × (ℕ × Body))
    (coded× coded_ℕ (coded× coded_ℕ body_code))
    (λ cell. (cell.circ, (cell.command, cell.body)))
    (λ p. record { circ = p.0; command = p.1.0; body = p.1.1 })
    (λ _. refl)

abbrev destroy_code : Coded Destroy
destroy_code =
    code_by (ℕ × ℕ) (coded× coded_ℕ coded_ℕ) (λ d. (d.id, d.reason)) (λ p. record { id = p.0; reason = p.1 }) (λ _. refl)

abbrev pub cell_queues_code : Coded CellQueues
cell_queues_code = code (coded× coded_ℕ coded_ℕ) (roomy_code cell_code)

abbrev pub channel_lanes_code : Coded ChannelLanes
channel_lanes_code = code coded_ℕ (roomy_code destroy_code)

abbrev pub lanes_state_code : Coded LanesState
lanes_state_code =
    code_by (CellQueues × ChannelLanes) (coded× cell_queues_code channel_lanes_code) (λ w. (w.queues, w.lanes))
    (λ p. record { queues = p.0; lanes = p.1 }) (λ _. refl)
