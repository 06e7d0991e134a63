-- What is due to the next forward body of a log, by the list of entries that the log is.
use Rattle.std.proofs.Common.{◌≡◌, ℕ, ◌+◌, ◌*◌, ◌^◌, ◌<◌, ◌≤◌, ◌∷◌, List, Bool, arith, length, take, get_or, count_by, refl}
use Rattle.std.proofs.lemmas.List.Sums.{count_by-le-length}
use Rattle.aes_ctr.specs.StreamState.{StreamState}
use Rattle.run_digest.specs.HashState.{HashState}
use Rattle.circuit_model.specs.Log.{Entry as ModelEntry}
use Rattle.circuit_model.specs.Opened.{forward_count, is_forward, recognised_with, recognised_bodies}
use Rattle.plain_circuit.specs.declared.log.Entry.{Entry}
use Rattle.plain_circuit.specs.Reading.{IsReader}
use Rattle.plain_circuit.specs.Values.{entry_of, log_of}
use Rattle.plain_circuit.proofs.Logs.{count_of-log_of, log_of_more}

pub position_within : (stream : StreamState) (running : HashState) (entries : List Entry)
    → IsReader stream running (log_of entries) → length entries < 2 ^ 64 → stream.position < 2 ^ 100
position_within stream running entries reader short =
    let test : (Entry → Bool) = λ e. is_forward (entry_of e).event in
    let count : forward_count (log_of entries) ≡ count_by test entries = count_of-log_of (λ e. is_forward e.event) entries in
    let most : count_by test entries ≤ length entries = count_by-le-length test entries in
    let place : stream.position ≡ 509 * forward_count (log_of entries) = reader.position in
    omega (arith, count, most, place, short)

-- One more entry was read.
pub read_on : (entries : List Entry) (i : ℕ) (d : Entry) → i < length entries
    → (bodies : List (List ℕ)) (stream : StreamState) (running : HashState)
    → bodies ≡ recognised_with (log_of (take i entries)) (recognised_bodies (log_of (take i entries)))
    (get_or entries i d).event.now
    → ((entry : ModelEntry) → entry.event ≡ (get_or entries i d).event.now
    → IsReader stream running (entry ∷ log_of (take i entries)))
    → (bodies ≡ recognised_bodies (log_of (take (i + 1) entries))) × IsReader stream running (log_of (take (i + 1) entries))
read_on entries i d inside bodies stream running adds next =
    rw ((log_of_more entries i d inside).1) (adds, next (entry_of (get_or entries i d)) refl)
