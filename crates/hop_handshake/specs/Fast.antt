-- The handshake of CREATE_FAST (tor-spec, "CREATE_FAST/CREATED_FAST cells"), carried by EXTEND2 and
-- CREATE2.
use Rattle.std.specs.Prelude.{ℕ, ◌++◌, List, length, ◌==◌, ◌&&◌, if◌then◌else◌, Some, None}
use Rattle.crypto_spec.specs.KeyDerivation.{kdf_tor}
use Rattle.kdf_tor.specs.HopKeys.{layer_keys_of}
use Rattle.hop_handshake.specs.Answers.{HandshakeAnswer, AnswerRule}

-- To the client's X the relay answers with its own Y and with KH, and both derive the circuit's keys
-- from X and Y.
abbrev pub fast_answer : List ℕ → List ℕ → HandshakeAnswer
fast_answer x y = record { reply = y ++ (kdf_tor x y).kh; keys = layer_keys_of (kdf_tor x y) }

-- The HTYPE under which it is carried. The standard gives it none.
abbrev pub fast_type : ℕ
fast_type = 0xff01

-- HDATA is X (20 bytes); all else is bad.
unfoldable pub fast_rule : AnswerRule
fast_rule htype hdata y =
    if (htype == fast_type) && (length hdata == 20) then Some (fast_answer hdata y) else None
