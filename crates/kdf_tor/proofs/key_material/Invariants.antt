use Rattle.std.proofs.Common.{◌≡◌, ◌++◌, ◌*◌, take, length}
use Rattle.crypto_spec.specs.KeyDerivation.{kdf_blocks}
use Rattle.kdf_tor.proofs.key_material.Given as goal

abbrev pub invariant-loop-number : goal.invariant-loop-number
invariant-loop-number l =
    (length l.material ≡ 100) × (take (20 * l.number) l.material ≡ kdf_blocks (l.x ++ l.y) l.number)
