use Rattle.tape.proofs.Plays.{on_ok, plays_as, up_plays, opens_by, id_by, open_plays, take_plays, next_plays, dial_order_plays, tear_down_plays}
use Rattle.tape.proofs.player.Player.play.Goals as goal

pub returns-in-ChannelUp-clause-ok : goal.returns-in-ChannelUp-clause-ok
returns-in-ChannelUp-clause-ok c =
    on_ok _ _ c.write_up.result c.write_up.ensures.ok
    (λ written. plays_as _ _ _ _ _ _ _ c.in-ChannelUp.is
    (up_plays _ _ _ _ c.in-ChannelUp.slot c.in-ChannelUp.side c.channel_up.result _ _ c.requires.start c.in_default.not-Memory
    c.channel_up.ensures.whole
    written))

pub returns-in-OpenCircuit-clause-ok : goal.returns-in-OpenCircuit-clause-ok
returns-in-OpenCircuit-clause-ok c =
    on_ok _ _ c.write_open.result c.write_open.ensures.ok
    (λ written. plays_as _ _ _ _ _ _ _ c.in-OpenCircuit.is
    (open_plays _ _ _ _ c.in-OpenCircuit.chan c.in-OpenCircuit.y c.in-OpenCircuit.pad c.in-OpenCircuit.request
    c.cell-cell.result.circ c.in_ok-opening-in-OpenCircuit.opening c.open_circuit.result c.opening_kind.result _ _
    c.requires.start
    (id_by c.in-OpenCircuit.request c.cell-cell.result c.cell-cell.ensures.cell)
    (opens_by _ c.in-OpenCircuit.request c.in-OpenCircuit.y c.in-OpenCircuit.pad _ c.in_ok-opening-in-OpenCircuit.ensures.opening
    c.cell-cell.ensures.cell)
    c.in_default-open_circuit.not-Memory c.open_circuit.ensures.whole c.opening_kind.ensures
    written))

pub returns-in-Take-clause-ok : goal.returns-in-Take-clause-ok
returns-in-Take-clause-ok c =
    on_ok _ _ c.write_take.result c.write_take.ensures.ok
    (λ written. plays_as _ _ _ _ _ _ _ c.in-Take.is
    (take_plays _ _ _ _ c.in-Take.chan c.in-Take.cell c.take.result _ _ c.requires.start c.in_default-take.not-Memory
    c.take.ensures.whole written))

pub returns-in-NextCell-clause-ok : goal.returns-in-NextCell-clause-ok
returns-in-NextCell-clause-ok c =
    on_ok _ _ c.write_next.result c.write_next.ensures.ok
    (λ written. plays_as _ _ _ _ _ _ _ c.in-NextCell.is
    (next_plays _ _ _ _ c.in-NextCell.chan c.in-NextCell.tick c.next_cell-answer.result _ _ c.requires.start
    c.next_cell-answer.ensures.whole written))

pub returns-in-DialOrder-clause-ok : goal.returns-in-DialOrder-clause-ok
returns-in-DialOrder-clause-ok c =
    on_ok _ _ c.write_dial_order.result c.write_dial_order.ensures.ok
    (λ written. plays_as _ _ _ _ _ _ _ c.in-DialOrder.is
    (dial_order_plays _ _ _ _ _ _ _ c.requires.start c.dial_order-answer.ensures.whole c.dial_order-answer.ensures.oldest
    written))

pub returns-clause-ok : goal.returns-clause-ok
returns-clause-ok c =
    on_ok _ _ c.write_tear_down.result c.write_tear_down.ensures.ok
    (λ written. plays_as _ _ _ _ _ _ _ c.in-TearDown.is
    (tear_down_plays _ _ _ _ c.in-TearDown.circ c.in-TearDown.reason c.tear_down-answer.result _ _ c.requires.start
    c.tear_down-answer.ensures.whole written))
