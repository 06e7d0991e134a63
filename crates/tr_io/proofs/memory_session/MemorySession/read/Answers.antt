use Rattle.std.proofs.Common.{rules, ◌+◌, ap, length}
use Rattle.std.specs.Prelude.{◌==◌}
use Rattle.tr_io.proofs.Taking.{goes_on}
use Rattle.tr_io.proofs.memory_session.MemorySession.read.Goals as goal

pub returns-clause-session : goal.returns-clause-session
returns-clause-session c = (
  search rules,
  ap (λ xs. record {
    number = c.args.self.now.number;
    to = c.args.self.now.to;
    input = xs;
    is_at_end = length c.args.self.now.bytes.items == (c.args.self.now.read_count + c.min-count.result);
    greeting =
        c.args.self.now.greeting.items;
  })
      (goes_on c.args.self.now.bytes.items c.deref.result.now c.copy_from_slice.new.self _ c.args.self.now.read_count
      c.min-count.result (search rules) (search rules) (search rules)),
)
