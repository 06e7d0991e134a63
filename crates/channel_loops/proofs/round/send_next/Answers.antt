use Rattle.std.proofs.Common.{rules, [], ◌∷◌, Some, None, true, false, refl, sym, ◌∙◌}
use Rattle.std.proofs.lemmas.List.{append-nil}
use Rattle.tr_io.specs.declared.step.Step.TheVariants.{NextCell, Live, ChannelDown}
use Rattle.tr_io.proofs.PieceLaws.{wrote_nothing}
use Rattle.channel_loops.specs.Writing.WriterRound.{Sent, Idle}
use Rattle.channel_loops.specs.Writing.LastPart.{NoNext, NoLive, NotLive, Cut, CutOnly}
use Rattle.channel_loops.proofs.Rounds.{adds_as, adds_both}
use Rattle.channel_loops.proofs.round.send_next.Goals as goal

pub returns-then-write-clause-made : goal.returns-then-write-clause-made
returns-then-write-clause-made g c = record {
  round = Sent c.tick.result c.in-Did-Some.cell;
  rest = NextCell c.args.line.now.chan c.tick.result (Some c.in-Did-Some.cell) ∷ [];
  whole = refl;
  made = adds_as _ _ _ _ c.in-Did-Some.ensures.step (search rules);
  written = search rules;
}

pub returns-in-Did-clause-made : goal.returns-in-Did-clause-made
returns-in-Did-clause-made g c = let part = c.if-write.ensures.part (search rules) in record {
  last = Cut c.tick.result c.in-Did-Some.cell part.0 c.in-Did.field-0;
  rest = NextCell c.args.line.now.chan c.tick.result (Some c.in-Did-Some.cell) ∷ ChannelDown c.args.line.now.chan c.in-Did.field-0
      ∷ [];
  end_is = refl;
  whole = refl;
  made = (adds_both _ _ _ (NextCell c.args.line.now.chan c.tick.result (Some c.in-Did-Some.cell) ∷ [])
      (ChannelDown c.args.line.now.chan c.in-Did.field-0 ∷ []) (adds_as _ _ _ _ c.in-Did-Some.ensures.step (search rules))
      (adds_as _ _ _ _ c.in-Did.ensures.step (search rules))).behind;
  written = part.1;
  cause = λ _. search rules;
}

pub returns-in-Did-Some-clause-made : goal.returns-in-Did-Some-clause-made
returns-in-Did-Some-clause-made g c = let part = c.if-write.ensures.part (search rules) in record {
  last = CutOnly c.tick.result c.in-Did-Some.cell part.0;
  rest = NextCell c.args.line.now.chan c.tick.result (Some c.in-Did-Some.cell) ∷ [];
  end_is = refl;
  whole = refl;
  made = c.in-Spent-channel_down.ensures.step
      ∙ (adds_as _ _ (NextCell c.args.line.now.chan c.tick.result (Some c.in-Did-Some.cell) ∷ []) _ c.in-Did-Some.ensures.step
      (search rules)).behind;
  written = part.1;
  cause = λ _. search rules;
}

pub returns-in-Did-true-clause-made : goal.returns-in-Did-true-clause-made
returns-in-Did-true-clause-made g c = record {
  round = Idle c.tick.result;
  rest = NextCell c.args.line.now.chan c.tick.result None ∷ Live c.args.line.now.chan true ∷ [];
  whole = refl;
  made = adds_both _ _ _ (NextCell c.args.line.now.chan c.tick.result None ∷ []) (Live c.args.line.now.chan true ∷ [])
      (adds_as _ _ _ _ c.in-Did-None.ensures.step (search rules)) (adds_as _ _ _ _ c.in-Did-true.ensures.step (search rules));
  written = wrote_nothing _ _;
}

pub returns-in-Did-false-clause-made : goal.returns-in-Did-false-clause-made
returns-in-Did-false-clause-made g c = record {
  last = NotLive c.tick.result;
  rest = NextCell c.args.line.now.chan c.tick.result None ∷ Live c.args.line.now.chan false ∷ [];
  end_is = refl;
  whole = refl;
  made = (adds_both _ _ _ (NextCell c.args.line.now.chan c.tick.result None ∷ []) (Live c.args.line.now.chan false ∷ [])
      (adds_as _ _ _ _ c.in-Did-None.ensures.step (search rules))
      (adds_as _ _ _ _ c.in-Did-false.ensures.step (search rules))).behind;
  written = wrote_nothing _ _;
  cause = λ cut. search rules;
}

pub returns-in-Did-None-clause-made : goal.returns-in-Did-None-clause-made
returns-in-Did-None-clause-made g c = record {
  last = NoLive c.tick.result;
  rest = NextCell c.args.line.now.chan c.tick.result None ∷ [];
  end_is = refl;
  whole = refl;
  made = c.in-Spent-live.ensures.step
      ∙ (adds_as _ _ (NextCell c.args.line.now.chan c.tick.result None ∷ []) _ c.in-Did-None.ensures.step (search rules)).behind;
  written = wrote_nothing _ _;
  cause = λ cut. search rules;
}

pub returns-clause-made : goal.returns-clause-made
returns-clause-made g c = record {
  last = NoNext;
  rest = [];
  end_is = refl;
  whole = refl;
  made = c.in-Spent.ensures.step ∙ sym (append-nil _);
  written = wrote_nothing _ _;
  cause = λ cut. search rules;
}
