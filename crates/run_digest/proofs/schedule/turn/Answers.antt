use Rattle.std.proofs.Common.{◌*◌, ◌/◌, ◌%◌, ◌^◌, bit_or}
use Rattle.std.proofs.lemmas.Simd.{zip2_splat, zip2_of_maps}
use Rattle.run_digest.proofs.schedule.turn.Goals as goal

pub returns : goal.returns
returns c = zip2_of_maps bit_or (λ w. w * 2 % 2 ^ 32) (λ w. w / 2 ^ 31) c.args.words
    (zip2_splat (λ x n. x * 2 ^ n % 2 ^ 32) c.args.words 4 1 c.requires)
    (zip2_splat (λ x n. x / 2 ^ n) c.args.words 4 31 c.requires)
