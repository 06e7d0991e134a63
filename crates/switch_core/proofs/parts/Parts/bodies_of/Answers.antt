use Rattle.std.proofs.Common.{◌≡◌, ◌<◌, length, Option, IfOk, ap, sym, subst, ◌∙◌, arith}
use Rattle.switch_machine.specs.State.{CircuitState, State, slot_at}
use Rattle.switch_core.specs.Claiming.{MayClaim, note_bodies}
use Rattle.switch_core.proofs.Leaves.{circuit_at, inside}
use Rattle.switch_core.proofs.parts.Parts.bodies_of.Goals as goal

pub index-requires : goal.index-requires
index-requires c =
    let here : c.args.note.circ.0 < length c.args.self.now.circuits =
    inside c.args.self.now.circuits c.args.note.circ.0 c.requires.circuit c.requires.live in
    let all : length c.self.inside.circuits.items ≡ length c.args.self.now.circuits =
    ap (λ (s : State). length s.circuits) c.self.view_is in
    omega (arith, here, all, c.self.inside.circuits.ok)

pub slot_bodies-requires : goal.slot_bodies-requires
slot_bodies-requires c =
    let here : c.args.note.circ.0 < length c.args.self.now.circuits =
    inside c.args.self.now.circuits c.args.note.circ.0 c.requires.circuit c.requires.live in
    let live : slot_at c.args.self.now.circuits c.args.note.circ.0 ≡ c.index.result.now =
    circuit_at _ _ _ c.args.self.now c.args.note.circ.0 c.index.result.now c.self.view_is here ∙ sym c.index.ensures in
    subst (λ (x : Option CircuitState). MayClaim x c.args.note) live c.requires

pub returns : goal.returns
returns c =
    let here : c.args.note.circ.0 < length c.args.self.now.circuits =
    inside c.args.self.now.circuits c.args.note.circ.0 c.requires.circuit c.requires.live in
    let live : slot_at c.args.self.now.circuits c.args.note.circ.0 ≡ c.index.result.now =
    circuit_at _ _ _ c.args.self.now c.args.note.circ.0 c.index.result.now c.self.view_is here ∙ sym c.index.ensures in
    subst (λ (x : Option CircuitState). IfOk c.slot_bodies.result (λ bodies. bodies.items ≡ note_bodies c.args.note x)) (sym live)
    c.slot_bodies.ensures
