use Rattle.std.proofs.Common.{sym, refl, arith}
use Rattle.tape.proofs.Turns.{made_so, ahead_of}
use Rattle.tape.proofs.PlayingEnds.{ends_whole, ends_cut, ends_broken, ends_early}
use Rattle.tape.proofs.run.play_under.Goals as goal

pub returns-in_default-clause-play : goal.returns-in_default-clause-play
returns-in_default-clause-play g c = ends_early _ _ _ _ _ (sym c.requires.ahead) refl

pub play_records-requires-clause-start : goal.play_records-requires-clause-start
play_records-requires-clause-start g c = made_so _ _ c.in-Ok.ensures.start

pub returns-in-Ok-write_rest-clause-play : goal.returns-in-Ok-write_rest-clause-play
returns-in-Ok-write_rest-clause-play g c =
    ends_whole _ _ _ _ _ _ _ _ _ (ahead_of _ _ _ _ c.in-Ok.ensures.start c.requires.ahead) c.in-Ok-play_records.ensures.stopped
    c.answers.ensures c.in-Ok-write_rest.ensures.ok c.in-Ok-write_rest.ensures.flushed

pub returns-clause-play : goal.returns-clause-play
returns-clause-play g c =
    ends_broken _ _ _ _ _ _ _ _ _ (ahead_of _ _ _ _ c.in-Ok.ensures.start c.requires.ahead) c.in-Ok-play_records.ensures.stopped
    c.answers.ensures c.in-Err-write_rest.ensures.err
    (omega (arith, c.in-Ok-play_records.ensures.counted, c.in-Err-write_rest.ensures.cause))

pub returns-in-Err-clause-play : goal.returns-in-Err-clause-play
returns-in-Err-clause-play g c =
    ends_cut _ _ _ _ _ _ (ahead_of _ _ _ _ c.in-Ok.ensures.start c.requires.ahead) refl c.in-Err.ensures.broken
