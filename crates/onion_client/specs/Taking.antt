-- What a path does with a cell of its link: the table, the first row that fits (tor-spec, "CREATE_FAST/
-- CREATED_FAST cells", "EXTEND and EXTENDED cells", "Relay cells", "Tearing down circuits", "Flow control").
use Rattle.std.specs.Prelude.{ℕ, ◌+◌, ◌==◌, [], ◌∷◌, ◌++◌, List, length, true, not, if◌then◌else◌, Option, Some, None, is_some, take, drop, slice_index, bytes_eq}
use Rattle.crypto_spec.specs.KeyDerivation.{KeyMaterial, kdf_tor}
use Rattle.crypto_spec.specs.RunningDigest.{running_digest}
use Rattle.kdf_tor.specs.HopKeys.{layer_keys_of}
use Rattle.cell_codec.specs.declared.cell.Cell.{Cell}
use Rattle.cell_codec.specs.declared.cell.Body.{Body}
use Rattle.cell_codec.specs.declared.cell.Body.TheVariants.{Fixed, Var}
use Rattle.tor_spec.specs.CellCommands.{relay_command, destroy_command, created_fast_command}
use Rattle.tor_spec.specs.CircuitWindow.{after_accepting as circuit_after_accepting, is_sendme_due}
use Rattle.tor_spec.specs.Connected.{connected_address}
use Rattle.tor_spec.specs.Ends.{end_reason, truncated_reason}
use Rattle.tor_spec.specs.Extend.{handshake_reply}
use Rattle.tor_spec.specs.RelayCell.{relay_head, fits_length, payload_of, relay_body, data_command, connected_command, end_command, sendme_command, truncated_command, extended2_command}
use Rattle.tor_spec.specs.Sendme.{sendme_payload}
use Rattle.stream_edge.specs.declared.placed_stream.PlacedStream.{PlacedStream}
use Rattle.stream_edge.specs.declared.placed_stream.Phase.{Phase}
use Rattle.stream_edge.specs.declared.placed_stream.Phase.TheVariants.{Reaching, Joined}
use Rattle.stream_edge.specs.Streams.{may_accept, after_accepting, may_credit, after_credit}
use Rattle.sendme_windows.specs.declared.proof_answer.ProofAnswer.{ProofAnswer}
use Rattle.sendme_windows.specs.declared.proof_answer.ProofAnswer.TheVariants.{Good}
use Rattle.sendme_windows.specs.Answers.{answer_to, window_after}
use Rattle.circuit_model.specs.PathLayers.{PathHop, FromHop, recognised_as, after_coming}
use Rattle.onion_client.specs.declared.close_cause.CloseCause.{CloseCause}
use Rattle.onion_client.specs.declared.close_cause.CloseCause.TheVariants.{Destroyed, BadKeys, Unrecognised, Proof, Overrun, BadForm}
use Rattle.onion_client.specs.Calls.Answer.{Hop, Connected, Carried, Ended, Credit, Truncated, PassedOver, Closed, Gone}
use Rattle.onion_client.specs.LayerState.{fresh_hop}
use Rattle.onion_client.specs.PathState.{PathState, Outcome, stream_of, with_stream, without}
use Rattle.onion_client.specs.Making.{last_of, cell_for, after_making}
use Rattle.onion_client.specs.Asked.{only}

abbrev pub closing : PathState → CloseCause → Outcome
closing p cause = record { answer = Closed cause; state = record p { is_closed = true } }

-- ---- a hop answers

-- Y and KH of the answer to the client's X: the hop is there where KH is that of the keys that both derive.
abbrev pub joining : PathState → List ℕ → KeyMaterial → Outcome
joining p kh k =
    if bytes_eq kh k.kh
    then record {
      answer = Hop (length p.hops + 1);
      state = record p { hops = p.hops ++ fresh_hop (layer_keys_of k) ∷ []; awaited_x = None };
    }
    else closing p (BadKeys k.kh kh)

abbrev pub answered : PathState → List ℕ → List ℕ → Outcome
answered p x reply = joining p (take 20 (drop 20 reply)) (kdf_tor x (take 20 reply))

-- CREATED_FAST is awaited until there is a hop.
abbrev pub created : PathState → List ℕ → List PathHop → Option (List ℕ) → Outcome
created p payload [] (Some x) = answered p x payload
created p payload hops awaited_x = only p PassedOver

-- EXTENDED2 of the last hop has HDATA of 40 bytes, as CREATED_FAST has.
abbrev pub extended_by : PathState → List ℕ → Option (List ℕ) → Outcome
extended_by p x None = closing p BadForm
extended_by p x (Some reply) = if length reply == 40 then answered p x reply else closing p BadForm

abbrev pub extended : PathState → List ℕ → Option (List ℕ) → Outcome
extended p payload None = only p PassedOver
extended p payload (Some x) = extended_by p x (handshake_reply payload)

-- ---- DATA

-- Each 100th that the circuit accepts is acknowledged with the digest after it.
abbrev pub carrying : PathState → ℕ → List ℕ → List ℕ → Outcome
carrying p stream bytes digest =
    let q = record p { window = circuit_after_accepting p.window } in
    let reply = relay_body sendme_command 0 (sendme_payload digest) in
    if is_sendme_due q.window.accepted
    then record { answer = Carried stream bytes (Some (cell_for q relay_command reply)); state = after_making q reply }
    else record { answer = Carried stream bytes None; state = q }

-- DATA on no live stream is carried with no bytes.
abbrev pub data_on : PathState → ℕ → List ℕ → List ℕ → Option PlacedStream → Outcome
data_on p id payload digest None = carrying p id [] digest
data_on p id payload digest (Some stream) =
    if may_accept stream
    then carrying (record p { streams = with_stream id (after_accepting stream) p.streams }) id payload digest
    else closing p (Overrun id)

-- ---- streams

abbrev pub connecting : PathState → PlacedStream → List ℕ → Outcome
connecting p stream payload =
    if is_some (connected_address payload)
    then record {
      answer = Connected stream.stream;
      state = record p { streams = with_stream stream.stream (record stream { phase = Joined }) p.streams };
    }
    else closing p BadForm

-- A begun stream is one for which CONNECTED has not come.
abbrev pub connected_in : PathState → PlacedStream → List ℕ → Phase → Outcome
connected_in p stream payload Reaching = connecting p stream payload
connected_in p stream payload phase = only p PassedOver

abbrev pub connected_on : PathState → List ℕ → Option PlacedStream → Outcome
connected_on p payload None = only p PassedOver
connected_on p payload (Some stream) = connected_in p stream payload stream.phase

abbrev pub ended_on : PathState → List ℕ → Option PlacedStream → Outcome
ended_on p payload None = only p PassedOver
ended_on p payload (Some stream) = record {
  answer = Ended stream.stream (end_reason payload);
  state = record p { streams = without stream.stream p.streams };
}

-- ---- SENDME

-- That of the circuit proves what it acknowledges; version 0 is not accepted.
abbrev pub proved : PathState → ProofAnswer → Outcome
proved p Good = record { answer = Credit; state = record p { window = window_after Good p.window } }
proved p answer = closing p (Proof answer)

abbrev pub credit_on : PathState → Option PlacedStream → Outcome
credit_on p None = only p PassedOver
credit_on p (Some stream) =
    if may_credit stream
    then record { answer = Credit; state = record p { streams = with_stream stream.stream (after_credit stream) p.streams } }
    else closing p (Overrun stream.stream)

abbrev pub sendme : PathState → ℕ → List ℕ → Outcome
sendme p id payload =
    if id == 0 then proved p (answer_to 1 p.window payload) else credit_on p (stream_of id p.streams)

-- ---- relay cells

-- A message of the last hop, by its relay command.
unfoldable pub message_of_last : PathState → List ℕ → List ℕ → Outcome
message_of_last p body digest =
    let command = (relay_head body).command in
    let id = (relay_head body).stream in
    let payload = payload_of body in
    if command == data_command then data_on p id payload digest (stream_of id p.streams)
    else (if command == connected_command then connected_on p payload (stream_of id p.streams)
    else (if command == end_command then ended_on p payload (stream_of id p.streams)
    else (if command == sendme_command then sendme p id payload
    else (if command == extended2_command then extended p payload p.awaited_x
    else only p PassedOver))))

-- The 20 bytes of the running digest of all that the client recognised as the last hop's, with this body.
abbrev pub digest_from : List PathHop → List ℕ → List ℕ
digest_from [] body = []
digest_from (hop ∷ hops) body =
    let last = last_of hop hops in running_digest last.keys.db (last.hop_bodies ++ body ∷ [])

-- A body that was recognised, of any hop; `hops` are the hops before it came.
unfoldable pub message_from : List PathHop → PathState → FromHop → Outcome
message_from hops p from =
    if not (fits_length from.body) then closing p BadForm
    else (if (relay_head from.body).command == truncated_command then only p (Truncated (truncated_reason (payload_of from.body)))
    else (if not (from.hop == length hops) then only p PassedOver
    else message_of_last p from.body (digest_from hops from.body)))

abbrev pub origin_outcome : List PathHop → PathState → Option FromHop → Outcome
origin_outcome hops p None = closing p Unrecognised
origin_outcome hops p (Some from) = message_from hops p from

abbrev pub relayed : PathState → List ℕ → Outcome
relayed p body = origin_outcome p.hops (record p { hops = after_coming p.hops body }) (recognised_as p.hops body)

-- ---- any cell

-- A cell of this circuit by its command. All but three are passed over.
unfoldable pub taking_on : PathState → ℕ → List ℕ → Outcome
taking_on p command payload =
    if command == destroy_command then closing p (Destroyed (slice_index payload 0))
    else (if command == created_fast_command then created p payload p.hops p.awaited_x
    else (if command == relay_command then relayed p payload
    else only p PassedOver))

abbrev pub taking_fixed : PathState → ℕ → Body → Outcome
taking_fixed p command (Fixed payload) = taking_on p command payload
taking_fixed p command (Var payload) = only p PassedOver

abbrev pub taking : PathState → Cell → Outcome
taking p cell =
    if p.is_closed then only p Gone
    else (if cell.circ == p.circuit then taking_fixed p cell.command cell.body
    else only p PassedOver)
