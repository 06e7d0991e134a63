use Rattle.std.proofs.Common.{◌≡◌, ℕ, ◌+◌, List, slice_index_or, subst, add-one, arith}
use Rattle.crypto_spec.specs.Aes.{add, mix_columns, shift_rows, sub_bytes, expanded, round_key, state_after, aes}
use Rattle.aes_lanes.specs.Sliced.{IsState, masked}
use Rattle.aes_lanes.proofs.Masks.{whole_key}
use Rattle.aes_lanes.proofs.keys.LaneKeys.passed.Goals as goal

pub loop-round-init : goal.loop-round-init
unfolding state_after
loop-round-init c = λ b s h e. c.keyed-state.ensures b s _ e (c.self.invariant.first_key b h)

pub loop-round-preserved : goal.loop-round-preserved
unfolding state_after
loop-round-preserved c = λ b s h e.
    let keys = expanded c.self.inside.key 40 in
    let r = c.loop-round.round in
    let before = state_after keys s r in
    let k = round_key keys (r + 1) in
    let key : IsState (slice_index_or c.self.inside.others r _) b (masked k) =
    c.self.invariant.other_keys r b _ (omega (arith, c.loop-round-test.true)) h in
    let next : IsState c.rounded-state.result b (add (mix_columns (shift_rows (sub_bytes before))) k) =
    c.rounded-state.ensures b before k h (whole_key k key.long) (c.loop-round.invariant b s h e) key in
    rw (add-one r)
    (subst (λ (n : ℕ). IsState c.rounded-state.result b
    (add (mix_columns (shift_rows (sub_bytes before))) (round_key keys n))) (add-one r) next)

pub returns : goal.returns
unfolding aes
returns c = λ b s h e.
    let own = c.self.inside.key in
    let keys = expanded own 40 in
    let r = c.loop-round.round in
    let before = state_after keys s r in
    let last : r ≡ 9 = omega arith in
    let k = round_key keys 10 in
    let key : IsState (slice_index_or c.self.inside.others 9 _) b (masked k) =
    c.self.invariant.other_keys 9 b _ (omega arith) h in
    let end : IsState c.finished.result b (add (shift_rows (sub_bytes before)) k) =
    c.finished.ensures b before k h (whole_key k key.long) (c.loop-round.invariant b s h e) key in
    subst (λ (own : List ℕ). IsState c.finished.result b
    (add (shift_rows (sub_bytes (state_after (expanded own 40) s 9))) (round_key (expanded own 40) 10))) c.self.view_is
    (subst (λ (n : ℕ). IsState c.finished.result b (add (shift_rows (sub_bytes (state_after keys s n))) k)) last end)
