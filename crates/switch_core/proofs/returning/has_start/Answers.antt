use Rattle.std.proofs.Common.{◌≡◌, ◌↔◌, ◌<◌, ◌≤◌, length, Option, Some, sym, ◌∙◌, subst, arith}
use Rattle.std.specs.Prelude.{IsTrue}
use Rattle.switch_machine.specs.State.{slot_at}
use Rattle.switch_machine.proofs.Slots.{slot_at-past}
use Rattle.switch_core.specs.Returning.{start_out}
use Rattle.switch_core.specs.declared.relay.Relay.{Relay}
use Rattle.switch_core.proofs.Gone.{slot-get}
use Rattle.switch_core.proofs.Returns.{no_start}
use Rattle.switch_core.proofs.returning.has_start.Goals as goal

pub returns-then-note-len : goal.returns-then-note-len
returns-then-note-len c =
    let beyond : length c.args.relays.now.items ≤ c.args.note.circ.0 =
    omega (arith, c.len.ensures, c.if-note-len.true, c.args.relays.now.ok) in
    no_start (slot_at c.args.relays.now.items c.args.note.circ.0) c.args.note.dir c.args.start.now
    (slot_at-past c.args.relays.now.items c.args.note.circ.0 beyond)

pub returns : goal.returns
returns c =
    let below : c.args.note.circ.0 < length c.args.relays.now.items =
    omega (arith, c.len.ensures, c.if-note-len.false, c.args.relays.now.ok) in
    subst (λ (x : Option Relay). IsTrue c.is_start.result ↔ (Some c.args.start.now ≡ start_out x c.args.note.dir))
    (c.index.ensures ∙ sym (slot-get c.args.relays.now.items c.args.note.circ.0 c.index.result.now below)) c.is_start.ensures
