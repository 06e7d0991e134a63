use Rattle.std.proofs.Common.{◌<◌, length, sym, ◌∙◌, ap, arith}
use Rattle.switch_core.specs.Homecoming.{with_back}
use Rattle.switch_core.proofs.Homes.{is_there, puts_set, relay_slot}
use Rattle.switch_core.proofs.Settled.{is_inside}
use Rattle.switch_core.proofs.homecoming.seal_home.Goals as goal

pub index_mut-slot-requires : goal.index_mut-slot-requires
index_mut-slot-requires c =
    let inside : c.args.circ.0 < length c.args.relays.now.items =
    is_inside c.args.relays.now.items c.args.circ.0 c.requires.relay in
    omega (arith, inside, c.args.relays.now.ok)

pub returns : goal.returns
returns c =
    let inside : c.args.circ.0 < length c.args.relays.now.items =
    is_inside c.args.relays.now.items c.args.circ.0 c.requires.relay in
    let slot = relay_slot c.args.relays.now.items c.args.circ.0 c.index_mut-slot.result.now c.requires.relay
    c.index_mut-slot.ensures.value in
    let there = is_there c.args.relays.now.items c.args.circ.0 c.requires.relay in
    record {
      home = record {
        relay = there.relay;
        there = there.there;
        state = c.seal_back.ensures;
        puts = puts_set c.args.relays.now.items c.args.circ.0 c.put_back.new.slot _ inside
            (c.put_back.ensures ∙ ap (with_back c.args.end) (sym slot ∙ there.there));
      };
    }
