use Rattle.std.proofs.Common.{◌∙◌, ap, refl}
use Rattle.tape.specs.Runs.{cut_status}
use Rattle.tape.specs.TapeRules.{rules_ahead}
use Rattle.tape.proofs.PlayingEnds.{ends_cut_short, ends_ruleless}
use Rattle.tape.proofs.run.play.Goals as goal

pub returns-in-Cut-clause-play : goal.returns-in-Cut-clause-play
returns-in-Cut-clause-play g c =
    ends_cut_short _ _ _ _ (c.in-Cut.ensures.front ∙ ap rules_ahead c.as_slice-tape.ensures.value)
    (c.cut_status.ensures ∙ ap (λ tape. cut_status c.args.input.now.ending 0 tape) c.as_slice-tape.ensures.value) refl

pub returns-in-Bad-clause-play : goal.returns-in-Bad-clause-play
returns-in-Bad-clause-play g c = ends_ruleless _ _ _ (c.in-Bad.ensures.front ∙ ap rules_ahead c.as_slice-tape.ensures.value) refl
