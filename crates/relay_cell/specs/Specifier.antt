-- A `Specifier` as tor-spec's.
use Rattle.relay_cell.specs.declared.specifier.Specifier.{Specifier as CodeSpecifier}
use Rattle.tor_spec.specs.Extend.{Specifier}

abbrev pub specifier_of : CodeSpecifier → Specifier
specifier_of s = record { kind = s.kind; value = s.value.now }
