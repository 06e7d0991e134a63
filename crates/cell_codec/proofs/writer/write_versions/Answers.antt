use Rattle.std.proofs.Common.{◌≡◌, ◌*◌, take, length, arith}
use Rattle.std.proofs.lemmas.List.{take_all}
use Rattle.tor_spec.specs.Versions.{versions_payload}
use Rattle.tor_spec.proofs.VersionsLength.{length_versions_payload}
use Rattle.cell_codec.proofs.writer.write_versions.Goals as goal

pub returns-clause-ok : goal.returns-clause-ok
returns-clause-ok c =
    let size : length (versions_payload c.args.versions.now) ≡ 2 * length c.args.versions.now =
    length_versions_payload c.args.versions.now in
    let all : take c.loop-version.version-index c.args.versions.now ≡ c.args.versions.now = take_all _ _ (omega arith) in
    rw size (rw all at c.loop-version.invariant.written)
