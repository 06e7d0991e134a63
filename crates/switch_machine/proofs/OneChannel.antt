-- One channel of the switch changes.
use Rattle.std.proofs.Common.{◌≡◌, ℕ, ◌==◌, false, List, Option, Some, sym, subst, arith, inl, inr}
use Rattle.std.proofs.lemmas.Bool.Decides.{eqb_tells}
use Rattle.switch_machine.specs.State.{ChannelState, slot_at, with_slot}
use Rattle.switch_machine.specs.Stands.Channels.{ChannelPast, ChannelAt, ChannelStands, ChannelsStand}
use Rattle.switch_model.proofs.Common.{not_equal}
use Rattle.switch_machine.proofs.Slots.{slot_at-with, length-with, slot_at-inside}

-- what the state has of a live channel
pub channel-own : (slots : List (Option ChannelState)) (p : ℕ → ChannelPast) (n : ℕ) (x : ChannelState) → slot_at slots n ≡ Some x
    → ChannelsStand slots p → ChannelStands x (p n)
channel-own slots p n x found own = subst (λ y. ChannelAt y (p n)) found (own.channel n)

-- channel n has a new state, and the others' past is the same
pub channel-changed : (slots : List (Option ChannelState)) (p q : ℕ → ChannelPast) (n : ℕ) (x y : ChannelState)
    → slot_at slots n ≡ Some x →
    ((m : ℕ) → (n == m) ≡ false → q m ≡ p m) → ChannelStands y (q n) → ChannelsStand slots p
    → ChannelsStand (with_slot slots n (Some y)) q
channel-changed slots p q n x y found others new own =
    let inside = slot_at-inside slots n x found in
    record {
      channel = λ m. elim (eqb_tells m n) [
        | inl (is, same) ↦ rw (slot_at-with slots n (Some y) m inside, is) (subst (λ k. ChannelStands y (q k)) (sym same) new)
        | inr (is, other) ↦ rw (slot_at-with slots n (Some y) m inside, is, others m (not_equal n m other)) (own.channel m)
      ];
      no_channel = λ m beyond.
          let size = length-with slots n (Some y) in
          rw (others m (not_equal n m (λ same. absurd (omega (arith, beyond, size, inside, same)))))
          (own.no_channel m (omega (arith, beyond, size)));
    }
