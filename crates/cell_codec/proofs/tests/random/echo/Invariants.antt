use Rattle.std.proofs.Common.{length}
use Rattle.cell_codec.proofs.tests.random.echo.Given as goal

abbrev pub decreases-loop-rest_bytes : goal.decreases-loop-rest_bytes
decreases-loop-rest_bytes l = length l.rest_bytes
