use Rattle.std.proofs.Common.{ℕ, ◌∙◌, List, ap, sym, arith}
use Rattle.sha1.specs.Sha1.{add_state, schedule}
use Rattle.run_digest.proofs.RoundSteps.{compress_is, five_words, rounds_start}
use Rattle.run_digest.proofs.compress.compress.Goals as goal

pub returns : goal.returns
returns c =
    let hash : List ℕ = c.args.hash.now in
    let block : List ℕ = c.args.block.now in
    let words_32 = c.extend.ensures block c.begin.ensures in
    let words_48 = c.extend-2.ensures block words_32 in
    let words_64 = c.extend-3.ensures block words_48 in
    let words_80 = c.extend-4.ensures block words_64 in
    let start = five_words hash c.told-hash ∙ sym (rounds_start hash (schedule block 64)) in
    let rounds_20 = c.after_stage-v.ensures hash block (λ t lt. words_32 t (omega arith)) start in
    let rounds_40 = c.after_stage-v-2.ensures hash block (λ t lt. words_48 t (omega arith)) rounds_20 in
    let rounds_60 = c.after_stage-v-3.ensures hash block (λ t lt. words_64 t (omega arith)) rounds_40 in
    let rounds_80 = c.after_stage-v-4.ensures hash block words_80 rounds_60 in
    c.add_to.ensures ∙ ap (add_state hash) rounds_80 ∙ sym (compress_is hash block)
