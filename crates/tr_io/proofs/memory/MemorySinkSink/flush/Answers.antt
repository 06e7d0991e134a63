use Rattle.std.proofs.Common.{◌≡◌, ℕ, List, ◌++◌, take, length, subst, ap}
use Rattle.tr_io.proofs.Flushed.{front_of_all}
use Rattle.tr_io.specs.Memory.{SinkState}
use Rattle.tr_io.proofs.memory.MemorySinkSink.flush.Goals as goal

pub returns-clause-flushed : goal.returns-clause-flushed
returns-clause-flushed c =
    let Behind : SinkState → Type 0 =
    λ s. (more : List ℕ)
    × (take (length c.as_slice.result.now) c.self.inside.bytes.items ≡ take s.flushed_count s.written ++ more) in
    subst Behind c.self.view_is (front_of_all _ _ _ (ap length c.as_slice.ensures.value))
