use Rattle.std.proofs.Common.{ap, sym}
use Rattle.aes_lanes.specs.Bits.{exchanged}
use Rattle.aes_lanes.specs.Sliced.{plane}
use Rattle.aes_lanes.proofs.Lanes.{IsBit-at}
use Rattle.aes_lanes.proofs.Layers.{exchanged_4_below, exchanged_2_below, all_exchanged_is}
use Rattle.aes_lanes.proofs.planes.Planes.transposed.Goals as goal

pub returns : goal.returns
returns c = λ i j k v h m l e.
    let j4 = exchanged 4 k j in
    let k4 = exchanged 4 j k in
    let j2 = exchanged 2 j4 k4 in
    let k2 = exchanged 2 k4 j4 in
    c.halves_exchanged.ensures i k j v h l m
    (c.pairs_exchanged.ensures i j4 k4 v h (exchanged_4_below k j l m) (exchanged_4_below j k m l)
    (c.neighbours_exchanged.ensures i j2 k2 v h
    (exchanged_2_below j4 k4 (exchanged_4_below k j l m) (exchanged_4_below j k m l))
    (exchanged_2_below k4 j4 (exchanged_4_below j k m l) (exchanged_4_below k j l m))
    (IsBit-at (ap (plane c.args.self) (sym (all_exchanged_is k j l m))) (sym (all_exchanged_is j k m l)) e)))
