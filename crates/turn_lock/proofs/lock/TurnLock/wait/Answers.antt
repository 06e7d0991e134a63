use Rattle.std.proofs.Common.{rules, refl, sym, subst}
use Rattle.turn_lock.specs.Plays.{Looked}
use Rattle.turn_lock.proofs.Keeps.{meets}
use Rattle.turn_lock.proofs.Turns.{look_start, look_turn, look_parts, look_bare, look_on, took_on, full_on}
use Rattle.turn_lock.proofs.lock.TurnLock.wait.Goals as goal

pub loop-init : goal.loop-init
loop-init g c = (refl, refl, look_start _)

pub load-word-requires : goal.load-word-requires
load-word-requires g c = let k = c.loop.invariant.2 in let m = c.args.seat.now.me in let n = c.loop.seat.me in (
  search rules,
  search rules,
  meets g.T.Kept.stands g.T.Kept.is_legal _ _ _ _ n (look_turn m n k c.requires.rests.1)
      (look_parts m n k c.requires.rests.2),
)

pub returns-then-word-ge-FULL-clause-own : goal.returns-then-word-ge-FULL-clause-own
returns-then-word-ge-FULL-clause-own g c = search rules

pub returns-then-word-ge-FULL-clause-taken : goal.returns-then-word-ge-FULL-clause-taken
returns-then-word-ge-FULL-clause-taken g c =
    full_on g.T.Kept.stands g.T.Kept.is_legal c.args.seat.now.me c.loop.seat.me c.load-word.new.seat.me _ c.loop.invariant.2
    c.load-word.ensures.2 c.requires.rests.0 c.if-word-ge-FULL.true

pub seize-requires-clause-rests : goal.seize-requires-clause-rests
seize-requires-clause-rests g c = let m = c.args.seat.now.me in let o = c.load-word.new.seat.me in
    let k : Looked m o =
    look_on g.T.Kept.stands g.T.Kept.is_legal m c.loop.seat.me o _ c.loop.invariant.2 c.load-word.ensures.2 in
    (look_bare m o k c.requires.rests.0, look_turn m o k c.requires.rests.1, look_parts m o k c.requires.rests.2)

pub returns-then-seize-clause-taken : goal.returns-then-seize-clause-taken
returns-then-seize-clause-taken g c = let m = c.args.seat.now.me in let o = c.load-word.new.seat.me in
    let k : Looked m o =
    look_on g.T.Kept.stands g.T.Kept.is_legal m c.loop.seat.me o _ c.loop.invariant.2 c.load-word.ensures.2 in
    (search rules, took_on g.T.Kept.stands g.T.Kept.is_legal m o c.seize.new.seat.me _ k c.if-seize.ensures.taken)

pub loop-preserved : goal.loop-preserved
loop-preserved g c = let m = c.args.seat.now.me in let o = c.load-word.new.seat.me in (
  search rules,
  search rules,
  subst (Looked m) (sym c.if-seize.ensures.taken)
      (look_on g.T.Kept.stands g.T.Kept.is_legal m c.loop.seat.me o _ c.loop.invariant.2 c.load-word.ensures.2),
)
