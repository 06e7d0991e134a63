use Rattle.berth.specs.declared.note.BoxStep.TheVariants.{Take}
use Rattle.berth.specs.Ends.{AnswersStep}
use Rattle.berth.proofs.Pairs.{answers_step, TurnCase-map}
use Rattle.berth.proofs.berth.Berth.take.Goals as goal

pub returns-clause-answer : goal.returns-clause-answer
returns-clause-answer g c = let v = c.args.self.now.pass.seat.me.0 in let w = c.turn.new.pass.seat.me.0 in
    TurnCase-map c.turn.result _ _ _ (λ a. AnswersStep v (Take a) w) (λ f. f.1)
    (λ a t. answers_step v w (Take a) c.args.self.now.end.opening t) c.turn.ensures.turn
