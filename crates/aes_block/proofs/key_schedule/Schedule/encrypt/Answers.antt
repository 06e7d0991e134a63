use Rattle.std.proofs.Common.{List, ℕ, ap, ◌∙◌, add-one, arith, ◌≡◌}
use Rattle.crypto_spec.specs.Aes.{add, mix_columns, shift_rows, sub_bytes, expanded, round_key, state_after, aes}
use Rattle.aes_block.proofs.Words.{same_two}
use Rattle.aes_block.proofs.key_schedule.Schedule.encrypt.Goals as goal

pub loop-round-init : goal.loop-round-init
unfolding state_after
loop-round-init c = c.add_round_key-state.ensures ∙ same_two add _ _ _ _ c.load.ensures c.round_key.ensures

pub loop-round-preserved : goal.loop-round-preserved
unfolding state_after
loop-round-preserved c =
    rw (add-one c.loop-round.round)
    (c.round-state.ensures
    ∙ same_two (λ (s k : List ℕ). add (mix_columns (shift_rows (sub_bytes s))) k) _ _ _ _ c.loop-round.invariant
    (c.round_key-in-loop-round.ensures ∙ ap (round_key (expanded c.args.self.now 40)) (add-one c.loop-round.round)))

pub returns : goal.returns
unfolding aes
returns c =
    let last : c.loop-round.round ≡ 9 = omega arith in
    c.store.ensures ∙ c.last_round.ensures
    ∙ same_two (λ (s k : List ℕ). add (shift_rows (sub_bytes s)) k) _ _ _ _
    (c.loop-round.invariant ∙ ap (state_after (expanded c.args.self.now 40) c.args.block.now) last) c.round_key-2.ensures
