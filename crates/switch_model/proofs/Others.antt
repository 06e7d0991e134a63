-- A step leaves the past of each circuit that it doesn't concern.
use Rattle.std.proofs.Common.{◌≡◌, ℕ, false, List, ◌∷◌, Some, None, is_some, refl}
use Rattle.circuit_model.specs.Rules.{Rules}
use Rattle.tr_io.specs.declared.answers.BackAnswer.{BackAnswer}
use Rattle.tr_io.specs.declared.answers.DialAnswer.{DialAnswer}
use Rattle.tr_io.specs.declared.answers.EdgeAnswer.{EdgeAnswer}
use Rattle.tr_io.specs.declared.answers.OpenAnswer.TheVariants.{Opened}
use Rattle.tr_io.specs.declared.answers.TakeAnswer.{TakeAnswer}
use Rattle.tr_io.specs.declared.step.OrderStep.{OrderStep}
use Rattle.tr_io.specs.declared.step.Step.{Step}
use Rattle.tr_io.specs.declared.step.Step.TheVariants.{ChannelUp, ChannelDown, OpenCircuit, Take, Claim, GiveBack, Abandon, NextCell, EdgeIn, EdgeOut, Drained, DialOrder, DialDone, TearDown, Live, Halt, Halted}
use Rattle.switch_model.specs.History.Legs.{at}
use Rattle.switch_model.specs.History.Teardowns.{teardown, reason_of}
use Rattle.switch_model.specs.History.Circuit.{lies_on}
use Rattle.switch_model.specs.Waiting.Queues.{circuit_log}
use Rattle.switch_model.specs.History.Past.{past, concerns, names_circuit}
use Rattle.switch_model.proofs.Common.{or-first, or-second, is_leg-other, is_hop_leg-other}

others : (rules : Rules) (h : List Step) (s : Step) (d : ℕ) → names_circuit h s d ≡ false →
    is_some (reason_of d (λ chan. lies_on h d (circuit_log rules h d) chan) (teardown s)) ≡ false
    → past rules (s ∷ h) d ≡ past rules h d
others rules h (ChannelUp slot side a) d named torn = refl
others rules h (ChannelDown chan a) d named torn = simp torn
others rules h (OpenCircuit chan id reply keys pad (Opened n)) d named torn = simp named
others rules h (OpenCircuit chan id reply keys pad a) d named torn = refl
others rules h (Take chan cell TakeAnswer.Queued) d named torn =
    simp (is_leg-other (at h chan.0 cell.circ) d named 0, is_hop_leg-other (at h chan.0 cell.circ) d named)
others rules h (Take chan cell (TakeAnswer.Down circ reason)) d named torn =
    simp (torn, is_hop_leg-other (at h chan.0 cell.circ) d named)
others rules h (Take chan cell a) d named torn = simp (is_hop_leg-other (at h chan.0 cell.circ) d named)
others rules h (Claim worker (Some note)) d named torn = simp named
others rules h (Claim worker None) d named torn = refl
others rules h (GiveBack note place BackAnswer.Settled) d named torn = simp named
others rules h (GiveBack note place (BackAnswer.Down reason)) d named torn = simp named
others rules h (GiveBack note place a) d named torn = simp named
others rules h (Abandon note place a) d named torn = simp torn
others rules h (NextCell chan tick (Some cell)) d named torn = simp (is_leg-other (at h chan.0 cell.circ) d named)
others rules h (NextCell chan tick None) d named torn = refl
others rules h (EdgeIn key event EdgeAnswer.Packed) d named torn = simp named
others rules h (EdgeIn key event (EdgeAnswer.Down reason)) d named torn = simp torn
others rules h (EdgeIn key event a) d named torn = refl
others rules h (EdgeOut slot (Some (OrderStep.Close key reason))) d named torn = simp named
others rules h (EdgeOut slot a) d named torn = refl
others rules h (Drained key EdgeAnswer.Packed) d named torn = simp named
others rules h (Drained key EdgeAnswer.Counted) d named torn = simp named
others rules h (Drained key (EdgeAnswer.Down reason)) d named torn = simp torn
others rules h (Drained key a) d named torn = refl
others rules h (DialOrder a) d named torn = refl
others rules h (DialDone order outcome DialAnswer.Gone) d named torn = refl
others rules h (DialDone order outcome DialAnswer.Memory) d named torn = refl
others rules h (DialDone order outcome a) d named torn = simp named
others rules h (TearDown circ reason a) d named torn = simp torn
others rules h (Live chan a) d named torn = refl
others rules h (Halt of) d named torn = refl
others rules h (Halted a) d named torn = refl

pub other_pasts : (rules : Rules) (h : List Step) (s : Step) (c : ℕ) → concerns rules h s c ≡ false
    → past rules (s ∷ h) c ≡ past rules h c
other_pasts rules h s c other = others rules h s c (or-first _ _ other) (or-second _ _ other)
