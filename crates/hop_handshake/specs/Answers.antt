-- What a handshake answers.
use Rattle.std.specs.Prelude.{ℕ, List, Option}
use Rattle.kdf_tor.specs.declared.LayerKeys.{LayerKeys}
use Rattle.hop_handshake.specs.declared.handshake.Answered.{Answered}

-- The relay's half of a handshake, and the keys that both sides have from it.
pub record HandshakeAnswer : Type 0 where
  pub reply : List ℕ
  pub keys : LayerKeys

-- What a handshake answers to the client's half, of the type HTYPE and with the data HDATA, under
-- the relay's Y, in this order; nothing where the client's half is bad.
abbrev pub AnswerRule : Type 0
AnswerRule = ℕ → List ℕ → List ℕ → Option HandshakeAnswer

abbrev pub answer_of : Answered → HandshakeAnswer
answer_of answer = record { reply = answer.reply.items; keys = answer.keys }
