use Rattle.tape.proofs.RuleSpellings.{rules_are_spelled}
use Rattle.tape.proofs.rules_reader.read_rules.Goals as goal

pub returns-clause-spelled : goal.returns-clause-spelled
returns-clause-spelled c rules rest read =
    rules_are_spelled _ _ rules rest (λ i. (c.type_inv.tape i).fits) c.rules_front.ensures.front read
