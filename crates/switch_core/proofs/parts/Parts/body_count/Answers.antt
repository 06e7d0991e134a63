use Rattle.std.proofs.Common.{◌<◌, ◌≤◌, length, sym, ap, ◌∙◌, arith}
use Rattle.switch_machine.specs.State.{slot_at}
use Rattle.switch_core.specs.Taking.{body_count}
use Rattle.switch_core.proofs.Gone.{slot-get}
use Rattle.switch_core.proofs.TearDown.{out_far}
use Rattle.switch_core.proofs.parts.Parts.body_count.Goals as goal

pub returns-then-number-len : goal.returns-then-number-len
returns-then-number-len c =
    let far : length c.self.inside.circuits.items ≤ c.args.number =
    omega (arith, c.len.ensures, c.if-number-len.true, c.self.inside.circuits.ok) in
    sym (ap body_count (out_far _ _ c.self.inside.circuits.items c.args.self.now c.args.number c.self.view_is far))

pub returns : goal.returns
returns c =
    let below : c.args.number < length c.self.inside.circuits.items =
    omega (arith, c.len.ensures, c.if-number-len.false, c.self.inside.circuits.ok) in
    c.slot_body_count.ensures
    ∙ ap body_count (c.index.ensures ∙ sym (slot-get c.self.inside.circuits.items c.args.number c.index.result.now below)
    ∙ ap (λ s. slot_at s.circuits c.args.number) c.self.view_is)
