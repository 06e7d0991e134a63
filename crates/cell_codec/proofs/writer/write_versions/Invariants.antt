use Rattle.std.proofs.Common.{◌≡◌, ◌++◌, ◌∷◌, ◌+◌, ◌*◌, ◌-◌, ◌≤◌, length, take, vec_len, vec_capacity}
use Rattle.std.specs.Int.{w16, to_be_bytes}
use Rattle.tor_spec.specs.Versions.{versions_payload}
use Rattle.cell_codec.proofs.writer.write_versions.Given as goal

abbrev pub invariant-loop-version : goal.invariant-loop-version
invariant-loop-version l = record {
  written : l.out.items ≡ l.fn.out.items
      ++ (0 ∷ 0 ∷ 7 ∷ to_be_bytes w16 l.size ++ versions_payload (take l.version-index l.versions));
  room : vec_len l.out + 2 * (length l.versions - l.version-index) ≤ vec_capacity l.out;
}
