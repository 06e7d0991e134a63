use Rattle.std.proofs.Common.{◌≡◌, ℕ, ◌+◌, ◌*◌, List, drop}
use Rattle.sha1.specs.Sha1.{hash_after}
use Rattle.run_digest.proofs.hasher.take_blocks.Given as goal

abbrev pub invariant-loop-i : goal.invariant-loop-i
invariant-loop-i l =
    (message : List ℕ) (n : ℕ) → drop (n * 64) message ≡ l.bytes → l.fn.hash ≡ hash_after message n →
    l.hash ≡ hash_after message (n + l.i)
