use Rattle.std.proofs.Common.{◌≡◌, ℕ, ◌-◌, ◌%◌, ◌++◌, ◌∷◌, [], ◌∙◌, List, take, replicate, refl}
use Rattle.run_digest.specs.HashState.{hash_state}
use Rattle.run_digest.specs.Hasher.{value_of}
use Rattle.run_digest.proofs.Blocks.{digest_is, total_is}
use Rattle.run_digest.proofs.hasher.Hasher.finish.Goals as goal

pub returns : goal.returns
returns c = λ message stands.
    let zeros : List ℕ = take ((119 - c.filled.result) % 64) (replicate 64 0) in
    let one : value_of c.update.new.self ≡ hash_state (message ++ 0x80 ∷ []) = c.update.ensures message stands in
    let two : value_of c.update-2.new.self ≡ hash_state ((message ++ 0x80 ∷ []) ++ zeros) =
    c.update-2.ensures (message ++ 0x80 ∷ []) one in
    let three = c.update-3.ensures ((message ++ 0x80 ∷ []) ++ zeros) two in
    c.bytes_of.ensures
    ∙ digest_is (value_of c.update-3.new.self) message zeros c.to_be_bytes.result c.args.self.total c.filled.result
    (total_is (value_of c.args.self) message stands) c.filled.ensures refl c.to_be_bytes.ensures three
