use Rattle.std.proofs.Common.{◌≡◌, option_map}
use Rattle.switch_machine.specs.Calls.Claim.{soonest_below}
use Rattle.switch_core.specs.Claiming.{offer_of}
use Rattle.switch_core.proofs.parts.Parts.soonest.Given as goal

abbrev pub invariant-loop-number : goal.invariant-loop-number
invariant-loop-number l = option_map offer_of l.best ≡ soonest_below l.self l.number
