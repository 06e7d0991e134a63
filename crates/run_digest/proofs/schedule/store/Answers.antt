use Rattle.std.proofs.Common.{◌+◌, ◌-◌, ◌∙◌, take, drop, arith, length-drop}
use Rattle.std.proofs.lemmas.List.{length-take}
use Rattle.std.proofs.lemmas.Simd.{put_chunk_whole}
use Rattle.run_digest.proofs.WordsInPlace.{stored}
use Rattle.run_digest.proofs.schedule.store.Goals as goal

pub returns : goal.returns
returns c = λ block has is.
    let at = c.args.at in
    let part = take (at + 4 - at) (drop at c.args.words.now) in
    stored block c.args.words.now _ _ at (omega arith) has
    (put_chunk_whole part c.args.four (simp (length-take, length-drop) (omega arith)) ∙ is)
