-- The bytes of a `SocksRefusal`.
use Rattle.std.specs.Prelude.{ℕ, [], List}
use Rattle.socks_front.specs.declared.fault.SocksRefusal.{SocksRefusal}
use Rattle.socks_front.specs.declared.fault.SocksRefusal.TheVariants.{Silence, Method, Reply}

abbrev pub told_bytes : SocksRefusal → List ℕ
told_bytes Silence = []
told_bytes (Method bytes) = bytes
told_bytes (Reply bytes) = bytes
