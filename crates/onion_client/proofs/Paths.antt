-- What a path's answers follow from.
use Rattle.std.proofs.Common.{◌≡◌, ℕ, ◌==◌, [], ◌∷◌, List, true, false, Some, None, take, drop, refl, ap, length}
use Rattle.std.proofs.lemmas.Bool.{eq-eqb}
use Rattle.std.specs.Prelude.{bytes_eq}
use Rattle.crypto_spec.specs.KeyDerivation.{kdf_tor}
use Rattle.kdf_tor.specs.HopKeys.{layer_keys_of}
use Rattle.tor_spec.specs.CellCommands.{relay_command, created_fast_command}
use Rattle.tor_spec.specs.CircuitWindow.{circuit_start, may_package as circuit_may_package}
use Rattle.tr_io.specs.declared.answers.ShutWhy.TheVariants.{Stream, Circuit}
use Rattle.circuit_model.specs.PathLayers.{PathHop, sealed_for}
use Rattle.hop_handshake.specs.Opening.{cell_with}
use Rattle.stream_edge.specs.declared.placed_stream.PlacedStream.{PlacedStream}
use Rattle.stream_edge.specs.Streams.{may_package}
use Rattle.onion_client.specs.declared.close_cause.CloseCause.TheVariants.{BadKeys, Unrecognised}
use Rattle.onion_client.specs.Calls.{Start, Call}
use Rattle.onion_client.specs.Calls.Call.{Take, Extend, Begin, Send, Finish, Drained}
use Rattle.onion_client.specs.Calls.Answer.{Hop, Closed, Gone, Shut}
use Rattle.onion_client.specs.LayerState.{fresh_hop}
use Rattle.onion_client.specs.PathState.{PathState, Outcome, started, stream_of}
use Rattle.onion_client.specs.Making.{cell_for}
use Rattle.onion_client.specs.Taking.{taking_on, closing}
use Rattle.onion_client.specs.Words.{outcome, path, answer}

closed_outcome : (p : PathState) (call : Call) → p.is_closed ≡ true → outcome p call ≡ record { answer = Gone; state = p }
closed_outcome p (Take cell) shut = rw shut refl
closed_outcome p (Extend to x) shut = rw shut refl
closed_outcome p (Begin stream host port) shut = rw shut refl
closed_outcome p (Send stream bytes) shut = rw shut refl
closed_outcome p (Finish stream reason) shut = rw shut refl
closed_outcome p (Drained stream) shut = rw shut refl

pub closed_answers_gone : (start : Start) (h : List Call) (call : Call) → (path start h).is_closed ≡ true
    → answer start h call ≡ Gone
closed_answers_gone start h call shut = ap (λ (o : Outcome). o.answer) (closed_outcome (path start h) call shut)

pub closed_stays : (start : Start) (h : List Call) (call : Call) → (path start h).is_closed ≡ true
    → path start (call ∷ h) ≡ path start h
closed_stays start h call shut = ap (λ (o : Outcome). o.state) (closed_outcome (path start h) call shut)

same_number : (n : ℕ) → (n == n) ≡ true
same_number n = eq-eqb n n refl

first_cell : Start → ℕ → List ℕ → Outcome
first_cell start command payload = outcome (started start) (Take (cell_with start.circuit command payload))

first_outcome : (start : Start) (payload : List ℕ) → bytes_eq (take 20 (drop 20 payload)) (kdf_tor start.x (take 20 payload)).kh
    ≡ true →
    first_cell start created_fast_command payload
    ≡ record {
      answer = Hop 1;
      state =
          record (started start) { hops = fresh_hop (layer_keys_of (kdf_tor start.x (take 20 payload))) ∷ []; awaited_x = None };
    }
unfolding first_cell taking_on
first_outcome start payload same = rw (same_number start.circuit, same) refl

bad_first_outcome : (start : Start) (payload : List ℕ)
    → bytes_eq (take 20 (drop 20 payload)) (kdf_tor start.x (take 20 payload)).kh ≡ false →
    first_cell start created_fast_command payload
    ≡ closing (started start) (BadKeys (kdf_tor start.x (take 20 payload)).kh (take 20 (drop 20 payload)))
unfolding first_cell taking_on
bad_first_outcome start payload other = rw (same_number start.circuit, other) refl

early_outcome : (start : Start) (body : List ℕ) → first_cell start relay_command body ≡ closing (started start) Unrecognised
unfolding first_cell taking_on
early_outcome start body = rw (same_number start.circuit) refl

pub first_hop : (start : Start) (payload : List ℕ) → bytes_eq (take 20 (drop 20 payload)) (kdf_tor start.x (take 20 payload)).kh
    ≡ true →
    answer start [] (Take (cell_with start.circuit created_fast_command payload)) ≡ Hop 1
unfolding first_cell
first_hop start payload same = ap (λ (o : Outcome). o.answer) (first_outcome start payload same)

pub bad_first_hop : (start : Start) (payload : List ℕ)
    → bytes_eq (take 20 (drop 20 payload)) (kdf_tor start.x (take 20 payload)).kh ≡ false →
    answer start [] (Take (cell_with start.circuit created_fast_command payload))
    ≡ Closed (BadKeys (kdf_tor start.x (take 20 payload)).kh (take 20 (drop 20 payload)))
unfolding first_cell
bad_first_hop start payload other = ap (λ (o : Outcome). o.answer) (bad_first_outcome start payload other)

pub relay_before_hop : (start : Start) (body : List ℕ)
    → answer start [] (Take (cell_with start.circuit relay_command body)) ≡ Closed Unrecognised
unfolding first_cell
relay_before_hop start body = ap (λ (o : Outcome). o.answer) (early_outcome start body)

stream_outcome : (p : PathState) (id : ℕ) (bytes : List ℕ) (stream : PlacedStream) →
    p.is_closed ≡ false → stream_of id p.streams ≡ Some stream → may_package stream ≡ false →
    outcome p (Send id bytes) ≡ record { answer = Shut Stream stream.packed; state = p }
stream_outcome p id bytes stream unclosed live full = rw (unclosed, live, full) refl

circuit_outcome : (p : PathState) (id : ℕ) (bytes : List ℕ) (stream : PlacedStream) →
    p.is_closed ≡ false → stream_of id p.streams ≡ Some stream → may_package stream ≡ true
    → circuit_may_package circuit_start p.window ≡ false →
    outcome p (Send id bytes) ≡ record { answer = Shut Circuit (length p.window.packaged); state = p }
circuit_outcome p id bytes stream unclosed live may full = rw (unclosed, live, may, full) refl

pub stream_shut : (start : Start) (h : List Call) (id : ℕ) (bytes : List ℕ) (stream : PlacedStream) →
    (path start h).is_closed ≡ false → stream_of id (path start h).streams ≡ Some stream → may_package stream ≡ false →
    answer start h (Send id bytes) ≡ Shut Stream stream.packed
stream_shut start h id bytes stream unclosed live full =
    ap (λ (o : Outcome). o.answer) (stream_outcome (path start h) id bytes stream unclosed live full)

pub circuit_shut : (start : Start) (h : List Call) (id : ℕ) (bytes : List ℕ) (stream : PlacedStream) →
    (path start h).is_closed ≡ false → stream_of id (path start h).streams ≡ Some stream → may_package stream ≡ true →
    circuit_may_package circuit_start (path start h).window ≡ false →
    answer start h (Send id bytes) ≡ Shut Circuit (length (path start h).window.packaged)
circuit_shut start h id bytes stream unclosed live may full =
    ap (λ (o : Outcome). o.answer) (circuit_outcome (path start h) id bytes stream unclosed live may full)

pub one_hop_cell : (p : PathState) (hop : PathHop) (command : ℕ) (body : List ℕ) → p.hops ≡ hop ∷ [] → p.pad ≡ None →
    cell_for p command body ≡ cell_with p.circuit command (sealed_for [] hop body)
one_hop_cell p hop command body alone unpadded = rw (alone, unpadded) refl
