use Rattle.std.proofs.Common.{◌≡◌, take}
use Rattle.switch_core.specs.Returning.{bodies_out_of}
use Rattle.switch_core.proofs.way.Way.different_body.Given as goal

abbrev pub invariant-loop-number : goal.invariant-loop-number
invariant-loop-number l = take l.number l.bodies ≡ take l.number (bodies_out_of l.self.state)
