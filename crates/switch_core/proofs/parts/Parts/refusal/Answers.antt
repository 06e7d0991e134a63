use Rattle.std.proofs.Common.{◌≡◌, ◌==◌, ◌<◌, nat_lt, true, length, sym, ap, ◌∙◌, arith}
use Rattle.std.proofs.lemmas.Bool.Decides.{nat_tests}
use Rattle.switch_machine.specs.State.{slot_at}
use Rattle.switch_core.specs.Returning.{refusal_on}
use Rattle.switch_core.proofs.Gone.{slot-get}
use Rattle.switch_core.proofs.Returns.{refusal_live}
use Rattle.switch_core.proofs.parts.Parts.refusal.Goals as goal

pub returns : goal.returns
returns c =
    let below : c.args.note.circ.0 < length c.self.inside.circuits.items =
    omega (arith, c.len.ensures, c.if-note-len.false, c.self.inside.circuits.ok) in
    let slot : slot_at c.args.self.now.circuits c.args.note.circ.0 ≡ c.index.result.now =
    ap (λ s. slot_at s.circuits c.args.note.circ.0) (sym c.self.view_is)
    ∙ slot-get c.self.inside.circuits.items c.args.note.circ.0 c.index.result.now below ∙ sym c.index.ensures in
    let count : length c.args.self.now.circuits ≡ length c.self.inside.circuits.items =
    ap (λ s. length s.circuits) (sym c.self.view_is) in
    let here : (c.args.note.switch == c.args.switch) ≡ true = grind (arith, nat_tests, c.if-note-switch.false) in
    let opened : nat_lt c.args.note.circ.0 (length c.args.self.now.circuits) ≡ true = grind (arith, nat_tests, below, count) in
    c.slot_refusal.ensures ∙ ap (refusal_on c.args.note c.args.place) (sym slot)
    ∙ sym (refusal_live c.args.switch c.args.self.now c.args.note c.args.place here opened)
