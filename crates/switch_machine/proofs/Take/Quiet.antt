-- What a cell with which a circuit goes down adds to its log: nothing, or a CREATED2 that closes. Neither gives a
-- leg cells, nor the circuit bodies.
use Rattle.std.proofs.Common.{Bool, List, None, Option, Some, [], false, if◌then◌else◌, inl, inr, is_some, length, nat_le, refl, subst, suc, true, zero, ℕ, ◌&&◌, ◌++◌, ◌==◌, ◌∷◌, ◌≡◌}
use Rattle.std.proofs.Math.Dec.{eqb-suc-zero}
use Rattle.std.proofs.lemmas.Bool.Decides.{eqb_tells}
use Rattle.std.proofs.lemmas.List.{append-nil}
use Rattle.cell_codec.specs.declared.cell.Cell.{Cell}
use Rattle.circuit_model.specs.Effects.{effects_after, open_effects}
use Rattle.circuit_model.specs.Events.{CircuitCell, Event}
use Rattle.circuit_model.specs.Extending.{answered_effects, extending}
use Rattle.circuit_model.specs.Log.{Effects, Log, Message, closing, is_closed, no_effects}
use Rattle.circuit_model.specs.NextHop.{leg_count}
use Rattle.circuit_model.specs.Packaged.{back_bodies}
use Rattle.circuit_model.specs.Rules.{Rules}
use Rattle.circuit_model.specs.Sent.{sent_to_hop}
use Rattle.circuit_model.specs.Words.{closes, log}
use Rattle.circuit_model.specs.declared.event.Event.TheVariants.{Answered}
use Rattle.switch_model.proofs.Common.{and-second, self_eq}
use Rattle.switch_model.specs.History.Circuit.{events, is_awaited, with_event}
use Rattle.switch_model.specs.History.Legs.{at}
use Rattle.switch_model.specs.Names.{chan_no, circ_no, circuit_cell}
use Rattle.switch_model.specs.Waiting.Queues.{sendable}
use Rattle.tor_spec.specs.Extend.{handshake_reply}
use Rattle.tor_spec.specs.Reasons.{destroy_protocol}
use Rattle.tr_io.specs.declared.answers.TakeAnswer.TheVariants.{Down}
use Rattle.tr_io.specs.declared.names.CircNo.{CircNo}
use Rattle.tr_io.specs.declared.step.Step.{Step}
use Rattle.tr_io.specs.declared.step.Step.TheVariants.{Take}
use Rattle.switch_machine.proofs.Take.Frames.{events-first}
use Rattle.switch_machine.specs.Calls.Take.{events_taken}

pub record IsQuiet (before after : Log) : Type 0 where
  pub may_leave : (bodies k : ℕ) → sendable after bodies k ≡ sendable before bodies k
  pub bodies : back_bodies after ≡ back_bodies before

quiet-same : (l : Log) → IsQuiet l l
quiet-same l = record { may_leave = λ n k. refl; bodies = refl }

-- an answer that closes has no other effect
closing-if : (b : Bool) (one other : Effects) → one.close ≡ None → is_some (if b then one else other).close ≡ true →
    (if b then one else other) ≡ other
closing-if true one other none some = let no : false ≡ true = rw none at some in absurd cc
closing-if false one other none some = refl

extending-closes : (l : Log) (o : Option (List ℕ)) → is_some (extending l o).close ≡ true →
    extending l o ≡ closing destroy_protocol
extending-closes l None some = refl
extending-closes l (Some handshake) some = closing-if (nat_le (length handshake) 496) _ (closing destroy_protocol) refl some

answered-by : (l : Log) (payload : List ℕ) (b : Bool) →
    is_some (if b then no_effects else answered_effects l payload).close ≡ true →
    (if b then no_effects else answered_effects l payload) ≡ closing destroy_protocol
answered-by l payload true some = absurd cc
answered-by l payload false some = extending-closes l (handshake_reply payload) some

answered-closes : (rules : Rules) (l : Log) (payload : List ℕ) → is_some (effects_after rules l (Answered payload)).close ≡ true →
    effects_after rules l (Answered payload) ≡ closing destroy_protocol
unfolding open_effects
answered-closes rules l payload some = answered-by l payload (is_closed l) some

if-none : (b : Bool) (xs : List CircuitCell) → xs ++ (if b then [] else []) ≡ xs
if-none true xs = append-nil xs
if-none false xs = append-nil xs

may-leave : (l : Log) (payload : List ℕ) (m : Option Message) (r n k : ℕ) →
    sendable (record { event = Answered payload; message = m; effects = closing r } ∷ l) n k ≡ sendable l n k
may-leave l payload m r n zero = refl
may-leave l payload m r n (suc k) = rw (eqb-suc-zero k) (if-none (leg_count l == suc k) (sent_to_hop l (suc k)))

quiet-closing : (l : Log) (payload : List ℕ) (m : Option Message) (fx : Effects) (r : ℕ) → fx ≡ closing r →
    IsQuiet l (record { event = Answered payload; message = m; effects = fx } ∷ l)
quiet-closing l payload m fx r is = rw is (record { may_leave = λ n k. may-leave l payload m r n k; bodies = refl })

with-quiet : (rules : Rules) (ev : List Event) (payload : List ℕ) (b : Bool) → (b ≡ true →
    is_some (closes rules ev (Answered payload)) ≡ true) →
    IsQuiet (log rules ev) (log rules (with_event b (Answered payload) ev))
with-quiet rules ev payload true some =
    quiet-closing (log rules ev) payload _ (effects_after rules (log rules ev) (Answered payload)) destroy_protocol
    (answered-closes rules (log rules ev) payload (some refl))
with-quiet rules ev payload false some = quiet-same (log rules ev)

pub quiet-taken : (rules : Rules) (k : ℕ) (cell : CircuitCell) (circ : CircNo) (r : ℕ) (ev : List Event) →
    IsQuiet (log rules ev) (log rules (events_taken rules k cell (Down circ r) ev))
quiet-taken rules zero cell circ r ev = quiet-same (log rules ev)
quiet-taken rules (suc k) cell circ r ev =
    with-quiet rules ev cell.body (is_awaited (log rules ev) cell && is_some (closes rules ev (Answered cell.body))) (λ is.
    and-second (is_awaited (log rules ev) cell) _ is)

-- the events of the circuit, and of the others
pub events-down : (rules : Rules) (h : List Step) (chan c k r : ℕ) (cell : Cell) →
    at h chan cell.circ ≡ Some (record { circ = c; number = k }) →
    events rules (Take (chan_no chan) cell (Down (circ_no c) r) ∷ h) c ≡ events_taken rules k (circuit_cell cell) (Down
    (circ_no c) r) (events rules h c)
events-down rules h chan c zero r cell here = events-first rules h chan cell (Down (circ_no c) r) c c here
events-down rules h chan c (suc k) r cell here = rw (here, self_eq c) refl

pub behind-down : (rules : Rules) (h : List Step) (chan c k r : ℕ) (cell : Cell) →
    at h chan cell.circ ≡ Some (record { circ = c; number = k }) →
    back_bodies (log rules (events rules (Take (chan_no chan) cell (Down (circ_no c) r) ∷ h) c)) ≡ back_bodies (log rules
    (events rules h c)) → (d : ℕ) →
    back_bodies (log rules (events rules (Take (chan_no chan) cell (Down (circ_no c) r) ∷ h) d)) ≡ back_bodies (log rules
    (events rules h d))
behind-down rules h chan c k r cell here own d = elim (eqb_tells c d) [
  | inl (is, same) ↦ subst (λ e. back_bodies (log rules (events rules (Take (chan_no chan) cell (Down (circ_no c) r) ∷
      h) e)) ≡ back_bodies (log rules (events rules h e))) same own
  | inr (is, other) ↦ rw (here, is) refl
]
