use Rattle.std.proofs.Common.{◌≡◌, ℕ, ◌<◌, ◌≤◌, length, get_or}
use Rattle.std.specs.Prelude.{bit_xor}
use Rattle.aes_ctr.proofs.pad.xor.Given as goal

abbrev pub invariant-loop-k : goal.invariant-loop-k
invariant-loop-k l = record {
  long : length l.body ≡ 509;
  done : (j : ℕ) → j < l.k → get_or l.body j 0 ≡ bit_xor (get_or l.fn.body j 0) (get_or l.pad j 0);
  rest : (j : ℕ) → l.k ≤ j → get_or l.body j 0 ≡ get_or l.fn.body j 0;
}
