use Rattle.std.proofs.Common.{arith}
use Rattle.aes_lanes.proofs.Exchanges.{first_halves, second_halves}
use Rattle.aes_lanes.proofs.exchange.exchange_halves.Goals as goal

pub returns-clause-first : goal.returns-clause-first
returns-clause-first c = λ i k v h l e. first_halves c.args.a c.args.b i k v h l (omega (arith, h)) (omega (arith, h)) e

pub returns-clause-second : goal.returns-clause-second
returns-clause-second c = λ i k v h l e. second_halves c.args.a c.args.b i k v h l (omega (arith, h)) (omega (arith, h)) e
