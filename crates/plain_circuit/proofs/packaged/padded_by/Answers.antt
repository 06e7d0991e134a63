use Rattle.std.proofs.Common.{◌∙◌, sym, ap, List, ℕ, Option}
use Rattle.tor_spec.specs.RelayCell.{with_padding}
use Rattle.circuit_model.specs.Packaged.{padded_by}
use Rattle.plain_circuit.proofs.packaged.padded_by.Goals as goal

pub returns-in-Some : goal.returns-in-Some
returns-in-Some c =
    c.put_padding.ensures
    ∙ ap (λ (from : List ℕ). with_padding c.args.body.now from) c.keystream_for.ensures
    ∙ sym (ap (λ (pad : Option (List ℕ)). padded_by pad c.args.n c.args.body.now) c.in-Some.is)
