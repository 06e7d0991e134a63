use Rattle.std.proofs.Common.{◌≡◌, ◌∙◌, rules, ap, subst, sym}
use Rattle.turn_lock.specs.Views.{StandsForHistory, HasAllSteps, witness}
use Rattle.turn_lock.proofs.Keeps.{witnesses, leaves}
use Rattle.turn_lock.proofs.lock.TurnLock.close.Goals as goal

pub split_seat-witness-requires : goal.split_seat-witness-requires
split_seat-witness-requires g c = (
  search rules,
  search rules,
  witnesses g.T.Kept.stands g.T.Kept.is_legal _ _ _ c.shut.new.pass.seat.me.0
      (ap (λ v. v.is_closed) c.shut.ensures.pass),
)

pub returns-clause-state : goal.returns-clause-state
returns-clause-state g c =
    let S = StandsForHistory g.T.Kept.stands g.T.Kept.is_legal in let w = c.split_seat-witness.result.me.0 in let v =
    c.shut.new.pass.seat.me.0 in
    let is : w ≡ witness v = ap (λ x. x.0) c.split_seat-witness.ensures.4 in
    let fit =
    leaves g.T.Kept.stands g.T.Kept.is_legal _ _ _ w _ _ c.take-state.result c.close_with-closed_table.ensures.values.2
    (ap (λ x. x.is_closed) is ∙ ap (λ x. x.is_closed) c.shut.ensures.pass) c.take-state.ensures.value in
    subst (λ x. S x.0.opening c.take-state.result x.0.seen) (sym c.split_seat-witness.ensures.2)
    (subst (λ x. S x.opening c.take-state.result x.seen) is fit)

pub returns-clause-legal : goal.returns-clause-legal
returns-clause-legal g c = λ b begins. g.met.T.Kept.only_legal c.take-state.result b _ ((returns-clause-state g c).1 b begins)

pub returns-clause-all : goal.returns-clause-all
returns-clause-all g c = subst (λ x. HasAllSteps x.0) (sym c.split_seat-witness.ensures.2) c.shut.ensures.all
