use Rattle.std.proofs.Common.{rules, [], ◌∷◌, true, refl, sym, ◌∙◌}
use Rattle.std.proofs.lemmas.List.{append-nil}
use Rattle.tr_io.specs.declared.step.Step.TheVariants.{Halted}
use Rattle.tr_io.proofs.PieceLaws.{wrote_nothing}
use Rattle.channel_loops.specs.Writing.LastPart.{NoRoom, NoHalted, IsHalted}
use Rattle.channel_loops.proofs.Rounds.{adds_as}
use Rattle.channel_loops.proofs.round.round.Goals as goal

pub returns-then-is_err-clause-made : goal.returns-then-is_err-clause-made
returns-then-is_err-clause-made g c = record {
  last = NoRoom;
  rest = [];
  end_is = refl;
  whole = refl;
  made = sym (append-nil _);
  written = wrote_nothing _ _;
  cause = λ cut. search rules;
}

pub returns-in-Did-true-clause-made : goal.returns-in-Did-true-clause-made
returns-in-Did-true-clause-made g c = record {
  last = IsHalted;
  rest = Halted true ∷ [];
  end_is = refl;
  whole = refl;
  made = (adds_as _ _ (Halted true ∷ []) _ c.in-Did-true.ensures.step (search rules)).behind;
  written = wrote_nothing _ _;
  cause = λ cut. search rules;
}

pub returns-in-Spent-clause-made : goal.returns-in-Spent-clause-made
returns-in-Spent-clause-made g c = record {
  last = NoHalted;
  rest = [];
  end_is = refl;
  whole = refl;
  made = c.in-Spent.ensures.step ∙ sym (append-nil _);
  written = wrote_nothing _ _;
  cause = λ cut. search rules;
}
