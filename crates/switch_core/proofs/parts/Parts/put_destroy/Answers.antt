use Rattle.std.proofs.Common.{◌+◌, ◌<◌, ◌≤◌, length, get_or, sym, ap, ◌∙◌, arith}
use Rattle.switch_core.proofs.Lanes.{lanes_at, lanes_step}
use Rattle.switch_core.proofs.Taken.{taken_more}
use Rattle.switch_core.proofs.TearDown.{with_more, put_none, put_one, longer_by}
use Rattle.switch_core.proofs.parts.Parts.put_destroy.Goals as goal

pub returns-then-chan-len : goal.returns-then-chan-len
returns-then-chan-len c =
    let far : length c.self.inside.channels.items ≤ c.args.leg.state.chan =
    omega (arith, c.chan-chan.ensures, c.len.ensures, c.if-chan-len.true, c.self.inside.channels.ok) in
    put_none c.self.inside.counters c.self.inside.channels.items c.self.inside.circuits.items c.args.self.now c.args.leg.state
    c.args.reason c.self.view_is far

pub append-requires-clause-lane : goal.append-requires-clause-lane
append-requires-clause-lane c =
    let below : c.chan-chan.result.0 < length c.self.inside.channels.items =
    omega (arith, c.len.ensures, c.if-chan-len.false, c.self.inside.channels.ok) in
    let short : length c.index_mut-channel.result.now.lane ≤ c.self.inside.counters.steps =
    lanes_at c.self.inside.counters.steps c.self.inside.channels.items c.chan-chan.result.0 c.index_mut-channel.result.now
    c.index_mut-channel.result.now c.self.invariant.lanes below c.index_mut-channel.ensures.value in
    omega (arith, short, c.requires, ap (λ s. s.steps) c.self.view_is)

pub invariant_of-self-2 : goal.invariant_of-self-2
invariant_of-self-2 c =
    let below : c.chan-chan.result.0 < length c.self.inside.channels.items =
    omega (arith, c.len.ensures, c.if-chan-len.false, c.self.inside.channels.ok) in
    record {
      lanes =
          lanes_step c.self.inside.counters.steps c.self.inside.channels.items c.chan-chan.result.0 c.index_mut-channel.result.now
          c.index_mut-channel.result.now c.append.new.self c.self.invariant.lanes below c.index_mut-channel.ensures.value
          (longer_by c.index_mut-channel.result.now c.append.new.self c.into_destroy.result c.args.leg.state c.args.reason
          c.append.ensures c.into_destroy.ensures);
      taken = taken_more c.self.inside.counters.steps (c.self.inside.counters.steps + 1) c.self.inside.circuits.items
          (omega arith) c.self.invariant.taken;
      bodies_fit = omega (arith, c.self.invariant.bodies_fit);
      claims_fit = omega (arith, c.self.invariant.claims_fit);
      dials_fit = omega (arith, c.self.invariant.dials_fit);
    }

pub returns : goal.returns
returns c =
    let below : c.chan-chan.result.0 < length c.self.inside.channels.items =
    omega (arith, c.len.ensures, c.if-chan-len.false, c.self.inside.channels.ok) in
    put_one c.self.inside.counters c.self.inside.channels.items c.self.inside.circuits.items c.args.self.now c.args.leg.state
    c.args.reason c.chan-chan.result.0 c.index_mut-channel.result.now c.append.new.self c.self.view_is
    (sym c.chan-chan.ensures) below
    (c.append.ensures ∙ ap (λ x. with_more x c.into_destroy.result) c.index_mut-channel.ensures.value
    ∙ ap (λ more. with_more (get_or c.self.inside.channels.items c.chan-chan.result.0 c.index_mut-channel.result.now) more)
    c.into_destroy.ensures)
