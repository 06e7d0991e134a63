use Rattle.std.proofs.Common.{◌≡◌, ◌<◌, ◌≤◌, length, sym, ap, ◌∙◌, arith, Some}
use Rattle.switch_core.proofs.Lanes.{lanes_at, lanes_same, freed_shorter}
use Rattle.switch_core.proofs.Leaves.{channel_put}
use Rattle.switch_core.proofs.Plain.{there, beyond}
use Rattle.switch_machine.specs.State.{slot_at}
use Rattle.switch_core.proofs.TakeSteps.{no_lane_to_free, lane_freed}
use Rattle.switch_core.proofs.parts.Parts.free_by.Goals as goal

pub returns-then-chan-len : goal.returns-then-chan-len
returns-then-chan-len c =
    let far : length c.self.inside.channels.items ≤ c.args.chan.0 =
    omega (arith, c.len.ensures, c.if-chan-len.true, c.self.inside.channels.ok) in
    no_lane_to_free c.args.self.now c.args.chan.0 c.args.cell.now
    (sym (ap (λ s. slot_at s.channels c.args.chan.0) c.self.view_is) ∙ beyond c.self.inside.channels.items c.args.chan.0 far)

pub free-requires : goal.free-requires
free-requires c =
    let below : c.args.chan.0 < length c.self.inside.channels.items =
    omega (arith, c.len.ensures, c.if-chan-len.false, c.self.inside.channels.ok) in
    let short : length c.index_mut-channel.result.now.lane ≤ c.self.inside.counters.steps =
    lanes_at c.self.inside.counters.steps c.self.inside.channels.items c.args.chan.0 c.index_mut-channel.result.now
    c.index_mut-channel.result.now c.self.invariant.lanes below c.index_mut-channel.ensures.value in
    omega (arith, short, c.requires, ap (λ s. s.steps) c.self.view_is)

pub invariant_of-self : goal.invariant_of-self
invariant_of-self c =
    let below : c.args.chan.0 < length c.self.inside.channels.items =
    omega (arith, c.len.ensures, c.if-chan-len.false, c.self.inside.channels.ok) in
    record {
      lanes =
          lanes_same c.self.inside.counters.steps c.self.inside.channels.items c.args.chan.0 c.index_mut-channel.result.now
          c.index_mut-channel.result.now c.free.new.self c.self.invariant.lanes
          below c.index_mut-channel.ensures.value
          (freed_shorter c.args.cell.now.circ c.index_mut-channel.result.now c.free.new.self c.free.ensures);
      taken = c.self.invariant.taken;
      bodies_fit = c.self.invariant.bodies_fit;
      claims_fit = c.self.invariant.claims_fit;
      dials_fit = c.self.invariant.dials_fit;
    }

pub returns : goal.returns
returns c =
    let below : c.args.chan.0 < length c.self.inside.channels.items =
    omega (arith, c.len.ensures, c.if-chan-len.false, c.self.inside.channels.ok) in
    let live : slot_at c.args.self.now.channels c.args.chan.0 ≡ Some c.index_mut-channel.result.now =
    sym (ap (λ s. slot_at s.channels c.args.chan.0) c.self.view_is)
    ∙ there c.self.inside.channels.items c.args.chan.0 c.index_mut-channel.result.now below
    ∙ ap Some (sym c.index_mut-channel.ensures.value) in
    lane_freed c.args.self.now _ c.args.chan.0 c.args.cell.now c.index_mut-channel.result.now c.free.new.self
    c.if-cell-ne-DESTROY.false live c.free.ensures
    (channel_put _ _ _ c.args.self.now c.args.chan.0 c.free.new.self c.self.view_is)
