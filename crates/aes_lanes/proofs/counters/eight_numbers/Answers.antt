use Rattle.aes_lanes.proofs.Numbers.{numbers_state}
use Rattle.aes_lanes.proofs.counters.eight_numbers.Goals as goal

pub returns : goal.returns
returns c = λ b h.
    numbers_state c.of_key-all.result c.number_row.result c.last_lane.result c.last_lane-2.result c.last_lane-3.result
    c.args.first b
    c.requires.eighth h c.number_row.ensures (λ l m. c.of_key-all.ensures l b m h)
    (λ l m. c.last_lane.ensures l b m h) (λ l m. c.last_lane-2.ensures l b m h) (λ l m. c.last_lane-3.ensures l b m h)
