use Rattle.aes_lanes.specs.Bits.{IsBit, exchanged}
use Rattle.aes_lanes.specs.Sliced.{plane}
use Rattle.aes_lanes.specs.declared.planes.Planes.{Planes}
use Rattle.aes_lanes.proofs.Eight.{below_eight}
use Rattle.aes_lanes.proofs.Layers.{first_plane, second_plane}
use Rattle.aes_lanes.proofs.planes.Planes.halves_exchanged.Goals as goal

pub returns : goal.returns
returns c = λ i j k v h m l.
    let x = c.args.self in
    let out : Planes = record {
      bit0 = c.exchange_halves.result.0;
      bit1 = c.exchange_halves-2.result.0;
      bit2 = c.exchange_halves-3.result.0;
      bit3 = c.exchange_halves-4.result.0;
      bit4 = c.exchange_halves.result.1;
      bit5 = c.exchange_halves-2.result.1;
      bit6 = c.exchange_halves-3.result.1;
      bit7 = c.exchange_halves-4.result.1;
    } in
    below_eight (λ j. IsBit (plane x (exchanged 4 j k)) i (exchanged 4 k j) v → IsBit (plane out j) i k v)
    (first_plane x 4 0 c.exchange_halves.result.0 c.exchange_halves.ensures.first i k v h l)
    (first_plane x 4 1 c.exchange_halves-2.result.0 c.exchange_halves-2.ensures.first i k v h l)
    (first_plane x 4 2 c.exchange_halves-3.result.0 c.exchange_halves-3.ensures.first i k v h l)
    (first_plane x 4 3 c.exchange_halves-4.result.0 c.exchange_halves-4.ensures.first i k v h l)
    (second_plane x 4 0 c.exchange_halves.result.1 c.exchange_halves.ensures.second i k v h l)
    (second_plane x 4 1 c.exchange_halves-2.result.1 c.exchange_halves-2.ensures.second i k v h l)
    (second_plane x 4 2 c.exchange_halves-3.result.1 c.exchange_halves-3.ensures.second i k v h l)
    (second_plane x 4 3 c.exchange_halves-4.result.1 c.exchange_halves-4.ensures.second i k v h l)
    j m
