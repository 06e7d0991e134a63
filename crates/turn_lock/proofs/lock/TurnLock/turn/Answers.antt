use Rattle.std.proofs.Common.{ap, arith, subst, ◌≡◌, [], Option, length, ◌∙◌}
use Rattle.turn_lock.specs.Views.{step_if, released}
use Rattle.turn_lock.proofs.Turns.{turned_on, rests_on, placed_on, rising_on, caught_on}
use Rattle.turn_lock.proofs.lock.TurnLock.turn.Goals as goal

pub returns-in_default-clause-turn : goal.returns-in_default-clause-turn
returns-in_default-clause-turn g c = let t = c.in_default.ensures.taken in
    let is =
    ap (λ x. x.0) t.after in (
      caught_on g.T.Kept.stands g.T.Kept.is_legal c.args.pass.now.seat.me.0 c.take.new.seat.me.0 t.log is t.older t.legal_is
          c.args.pass.now.placed,
      ap (λ v. length v.seen) is ∙ t.full,
    )

pub invariant_of-pass-2 : goal.invariant_of-pass-2
invariant_of-pass-2 g c =
    let t = c.in-Some.ensures.taken in let m = c.args.pass.now in let o = c.run-is_counted.new.seat.me in let p =
    c.wake_parked.new.seat.me in
    let a =
    c.run-is_counted.result.1 in let st : Option g.row.T-Step.Denot =
    step_if (g.S.Stepping.counts a) (g.S.Stepping.step_of c.args.step.now a) in let same = c.wake_parked.ensures.same.2
    ∙ c.wake_next.ensures.same.2 in
    let last : p ≡ (released o.0 st, []) =
    same
    ∙ subst (λ s. c.release.new.seat.me ≡ (released o.0 (step_if (g.S.Stepping.counts a) (g.S.Stepping.step_of s a)), []))
    c.of-step_snapshot.ensures c.release.ensures.gave in
    let count = ap (λ x. length x.0.seen) same in let w = c.release.ensures.word in record {
      rests =
          rests_on g.T.Kept.stands g.T.Kept.is_legal g.met.T.Kept.only_legal m.seat.me c.take.new.seat.me o p st c.in-Some.word
          t.1 c.run-is_counted.ensures.ran last m.placed m.rests.2;
      counted = let n = w.0 in omega arith;
      low = let n = w.1 in omega arith;
      placed =
          placed_on g.T.Kept.stands g.T.Kept.is_legal g.met.T.Kept.only_legal m.seat.me c.take.new.seat.me o p st c.in-Some.word
          t.1 c.run-is_counted.ensures.ran last m.placed;
      rising =
          rising_on g.T.Kept.stands g.T.Kept.is_legal g.met.T.Kept.only_legal m.seat.me c.take.new.seat.me o p st c.in-Some.word
          t.1 c.run-is_counted.ensures.ran last m.placed m.rising;
    }

pub returns-clause-turn : goal.returns-clause-turn
returns-clause-turn g c =
    let t = c.in-Some.ensures.taken in let m = c.args.pass.now in let o = c.run-is_counted.new.seat.me in let p =
    c.wake_parked.new.seat.me in
    let a =
    c.run-is_counted.result.1 in let st : Option g.row.T-Step.Denot =
    step_if (g.S.Stepping.counts a) (g.S.Stepping.step_of c.args.step.now a) in
    let last : p ≡ (released o.0 st, []) =
    c.wake_parked.ensures.same.2 ∙ c.wake_next.ensures.same.2
    ∙ subst (λ s. c.release.new.seat.me ≡ (released o.0 (step_if (g.S.Stepping.counts a) (g.S.Stepping.step_of s a)), []))
    c.of-step_snapshot.ensures c.release.ensures.gave in
    turned_on g.T.Kept.stands g.T.Kept.is_legal g.met.T.Kept.only_legal m.seat.me c.take.new.seat.me o p st c.in-Some.word t.1
    c.run-is_counted.ensures.ran last m.placed t.0
