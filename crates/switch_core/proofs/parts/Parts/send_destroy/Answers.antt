use Rattle.std.proofs.Common.{ap, sym, ◌∙◌, Some}
use Rattle.switch_core.proofs.Lanes.{below_in, lanes_same}
use Rattle.switch_core.proofs.Leaves.{channel_at, channel_put, destroy_leaves}
use Rattle.switch_core.proofs.parts.Parts.send_destroy.Goals as goal

pub returns-clause-some : goal.returns-clause-some
returns-clause-some c =
    destroy_leaves c.args.self.now _ c.args.chan.0 c.index_mut-channel.result.now c.next_destroy.new.self c.next_destroy.result
    (channel_at _ _ _ c.args.self.now c.args.chan.0 _ c.self.view_is c.requires.live
    ∙ ap Some (sym c.index_mut-channel.ensures.value))
    (channel_put _ _ _ c.args.self.now c.args.chan.0 c.next_destroy.new.self c.self.view_is)
    c.next_destroy.ensures.some

pub invariant_of-self : goal.invariant_of-self
invariant_of-self c = record {
  lanes =
      lanes_same c.self.inside.counters.steps c.self.inside.channels.items c.args.chan.0 c.index_mut-channel.result.now
      c.index_mut-channel.result.now c.next_destroy.new.self c.self.invariant.lanes
      (below_in _ _ _ c.args.self.now c.args.chan.0 c.self.view_is c.requires.live) c.index_mut-channel.ensures.value
      c.next_destroy.ensures.shorter;
  taken = c.self.invariant.taken;
  bodies_fit = c.self.invariant.bodies_fit;
  claims_fit = c.self.invariant.claims_fit;
  dials_fit = c.self.invariant.dials_fit;
}
