use Rattle.std.proofs.Common.{◌∙◌, arith}
use Rattle.plain_circuit.proofs.PlaceLists.{copied-is}
use Rattle.plain_circuit.proofs.places.place_among.Goals as goal

pub returns : goal.returns
returns c =
    c.copied.ensures
    ∙ copied-is c.args.places.now c.args.serial c.get.result c.get.ensures.lookup.0 (c.get.ensures.lookup.4 (omega arith))
