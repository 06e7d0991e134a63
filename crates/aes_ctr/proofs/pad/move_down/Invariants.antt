use Rattle.std.proofs.Common.{◌≡◌, ◌*◌, length, take, drop}
use Rattle.aes_ctr.proofs.pad.move_down.Given as goal

abbrev pub invariant-loop-n : goal.invariant-loop-n
invariant-loop-n l = record {
  long : length l.store ≡ 1152;
  moved : take (128 * l.n) l.store ≡ take (128 * l.n) (drop l.by l.fn.store);
  rest : drop (128 * l.n) l.store ≡ drop (128 * l.n) l.fn.store;
}
