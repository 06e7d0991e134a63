use Rattle.std.proofs.Common.{sym, ◌∙◌}
use Rattle.circ_relay.proofs.Edges.{at_found}
use Rattle.circ_relay.proofs.Shut.{stream_shuts, circuit_shuts, none_shuts}
use Rattle.circ_relay.proofs.circuit.Circuit.shut.Goals as goal

pub returns-then-not-may_pack-clause-window : goal.returns-then-not-may_pack-clause-window
returns-then-not-may_pack-clause-window c = λ rules h is.
    let self = c.args.self.now in
    let place = c.taken_place-place.result.0 in
    let stream = c.requires.stream in
    let at = at_found self c.args.key c.requires.place place stream c.requires.at c.taken_place-place.ensures.first in
    stream_shuts self rules h c.args.key place stream c.count.result at
    (sym (c.may_pack.ensures stream at.held) ∙ c.if-not-may_pack.true) (c.count.ensures stream at.held) is

pub returns-then-not-may_pack-2-clause-window : goal.returns-then-not-may_pack-2-clause-window
returns-then-not-may_pack-2-clause-window c = λ rules h is.
    let self = c.args.self.now in
    let place = c.taken_place-place.result.0 in
    let stream = c.requires.stream in
    let at = at_found self c.args.key c.requires.place place stream c.requires.at c.taken_place-place.ensures.first in
    circuit_shuts self rules h c.args.key place stream c.may_pack-2.result c.count-then-not-may_pack-2.result at
    (sym (c.may_pack.ensures stream at.held) ∙ c.if-not-may_pack.false)
    c.may_pack-2.ensures c.if-not-may_pack-2.true c.count-then-not-may_pack-2.ensures is

pub returns-clause-window : goal.returns-clause-window
returns-clause-window c = λ rules h is.
    let self = c.args.self.now in
    let place = c.taken_place-place.result.0 in
    let stream = c.requires.stream in
    let at = at_found self c.args.key c.requires.place place stream c.requires.at c.taken_place-place.ensures.first in
    none_shuts self rules h c.args.key place stream c.may_pack-2.result at
    (sym (c.may_pack.ensures stream at.held) ∙ c.if-not-may_pack.false) c.may_pack-2.ensures c.if-not-may_pack-2.false is
