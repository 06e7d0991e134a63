use Rattle.std.proofs.Common.{◌<◌, is_some, length, Option, ◌∙◌, subst, arith}
use Rattle.std.specs.Prelude.{IsTrue}
use Rattle.switch_machine.specs.State.{slot_at}
use Rattle.switch_core.specs.Homecoming.{slot_calls}
use Rattle.switch_core.specs.declared.relay.Relay.{Relay}
use Rattle.switch_core.proofs.Homes.{home_by, puts_set, relay_slot}
use Rattle.switch_core.proofs.Settled.{is_inside}
use Rattle.switch_core.proofs.homecoming.settle_home.Goals as goal

pub index_mut-slot-requires : goal.index_mut-slot-requires
index_mut-slot-requires c =
    let inside : c.args.circ.0 < length c.args.relays.now.items =
    is_inside c.args.relays.now.items c.args.circ.0 c.requires.relay in
    omega (arith, inside, c.args.relays.now.ok)

pub settle_with-answer-requires-clause-relay : goal.settle_with-answer-requires-clause-relay
settle_with-answer-requires-clause-relay c =
    subst (λ (x : Option Relay). IsTrue (is_some x))
    (relay_slot c.args.relays.now.items c.args.circ.0 c.index_mut-slot.result.now c.requires.relay
    c.index_mut-slot.ensures.value) c.requires.relay

pub settle_with-answer-requires-clause-calls : goal.settle_with-answer-requires-clause-calls
settle_with-answer-requires-clause-calls c =
    subst (λ (x : Option Relay). slot_calls x (slot_at c.args.parts.now.circuits c.args.circ.0))
    (relay_slot c.args.relays.now.items c.args.circ.0 c.index_mut-slot.result.now c.requires.relay c.index_mut-slot.ensures.value)
    c.requires.calls

pub returns : goal.returns
returns c =
    let inside : c.args.circ.0 < length c.args.relays.now.items =
    is_inside c.args.relays.now.items c.args.circ.0 c.requires.relay in
    let home = c.settle_with-answer.ensures.home in
    record {
      home = record {
        relay = home.relay;
        next = home.next;
        there = relay_slot c.args.relays.now.items c.args.circ.0 c.index_mut-slot.result.now c.requires.relay
            c.index_mut-slot.ensures.value ∙ home.there;
        settles = home.settles;
        steps = home.steps;
        grown = home.grown;
        forth = home.forth;
        back = home.back;
        home =
            home_by c.settle_with-answer.result c.args.relays.now.items _ c.forget_torn.new.relays.items c.args.circ.0 home.next
            (puts_set c.args.relays.now.items c.args.circ.0 c.settle_with-answer.new.slot home.next inside home.put)
            c.forget_torn.ensures;
      };
    }
