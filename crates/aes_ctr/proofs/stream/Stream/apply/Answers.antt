use Rattle.std.proofs.Common.{ℕ, List, ap, ◌∙◌}
use Rattle.std.specs.Prelude.{bit_xor}
use Rattle.std.specs.Simd.Lanes.{zip2}
use Rattle.crypto_spec.specs.Keystream.{keystream_part}
use Rattle.aes_ctr.proofs.stream.Stream.apply.Goals as goal

pub returns-clause-body : goal.returns-clause-body
returns-clause-body c =
    c.take_from_store.ensures.body
    ∙ ap (λ (key : List ℕ). zip2 bit_xor c.args.body.now (keystream_part key c.make_enough.new.self.position 509))
    c.make_enough.ensures.key
    ∙ ap (λ (n : ℕ). zip2 bit_xor c.args.body.now (keystream_part c.args.self.now.key n 509)) c.make_enough.ensures.position
