-- What a tape's opening answers with may be a reply.
use Rattle.std.proofs.Common.{ℕ, Bool, true, false, nat_le, if◌then◌else◌, ◌==◌, List, length, Option, Some, None, option_and_then, refl}
use Rattle.cell_codec.specs.declared.cell.Cell.{Cell}
use Rattle.cell_codec.specs.Cells.{payload_of}
use Rattle.hop_handshake.specs.declared.opening.Opening.{Opening}
use Rattle.hop_handshake.specs.Answers.{HandshakeAnswer, AnswerRule}
use Rattle.hop_handshake.specs.Opening.{refusal, accepted_opening, answered_opening, opening_under, answer_to_request}
use Rattle.tor_spec.specs.CellCommands.{create_fast_command, create2_command}
use Rattle.tor_spec.specs.Extend.{handshake_request}
use Rattle.switch_model.specs.Conditions.{IsReply}

abbrev MayAnswer : Opening → Type 0
MayAnswer opening = IsReply opening.reply opening.keys

either : (b : Bool) (x y : Opening) → MayAnswer x → MayAnswer y → MayAnswer (if b then x else y)
either true x y first second = first
either false x y first second = second

refuses : (pad : Option (List ℕ)) (circuit : ℕ) → MayAnswer (refusal pad circuit)
refuses pad circuit = record { fixed = refl; command = tt }

answers : (pad : Option (List ℕ)) (circuit : ℕ) (answer : Option HandshakeAnswer)
    → MayAnswer (answered_opening pad circuit answer)
answers pad circuit (Some answer) =
    either (nat_le (length answer.reply) 496) (accepted_opening pad circuit answer) (refusal pad circuit)
    (record { fixed = refl; command = refl }) (refuses pad circuit)
answers pad circuit None = refuses pad circuit

pub may_answer : (rule : AnswerRule) (y : List ℕ) (pad : Option (List ℕ)) (cell : Cell)
    → IsReply (opening_under rule y pad cell).reply (opening_under rule y pad cell).keys
unfolding opening_under
may_answer rule y pad cell =
    either (cell.command == create_fast_command) _ _ (record { fixed = refl; command = refl })
    (either (cell.command == create2_command) _ _
    (answers pad cell.circ (option_and_then (answer_to_request rule y) (handshake_request (payload_of cell.body))))
    (refuses pad cell.circ))
