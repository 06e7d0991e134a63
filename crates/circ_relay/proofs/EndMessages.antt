-- The parts of a circuit behind an END.
use Rattle.std.proofs.Common.{◌≡◌, ℕ, ◌==◌, List, Some, None, refl, sym, ap, subst, ◌∙◌}
use Rattle.tor_spec.specs.RelayCell.{begin_command, data_command, end_command, sendme_command}
use Rattle.stream_edge.specs.declared.placed_stream.Phase.TheVariants.{Ending}
use Rattle.stream_edge.specs.PlacesState.{PlacesState, held_at, with_held}
use Rattle.stream_edge.specs.declared.placed_stream.PlacedStream.{PlacedStream}
use Rattle.circuit_model.specs.declared.event.Event.TheVariants.{Forward}
use Rattle.circuit_model.specs.Rules.{Rules}
use Rattle.circuit_model.specs.Log.{Log, Message, Effects, no_effects, ordering}
use Rattle.circuit_model.specs.declared.effects.Order.TheVariants.{Close}
use Rattle.circ_relay.specs.declared.circuit.Circuit.{Circuit}
use Rattle.circ_relay.specs.BroughtMessages.{after_cell, IsBrought}
use Rattle.circ_relay.specs.CircuitOfLog.{HasParts}
use Rattle.circ_relay.specs.PlacesOfLog.{ArePlaces}
use Rattle.circ_relay.specs.WindowOfLog.{window_of}
use Rattle.tor_spec.specs.Ends.{end_reason}
use Rattle.tr_io.specs.declared.names.StreamKey.{StreamKey as CodeKey}
use Rattle.tr_io.specs.declared.edges.EdgeOrder.TheVariants.{Close as CodeClose}
use Rattle.circuit_model.specs.Streams.{end_effects}
use Rattle.circ_relay.specs.declared.message.Message.{Message as CodeMessage}
use Rattle.circ_relay.specs.declared.effects.Effects.{Effects as CodeEffects}
use Rattle.circ_relay.specs.Values.{effects_of, key_of}
use Rattle.circ_relay.proofs.Messages.{end_ends}
use Rattle.circ_relay.proofs.AfterCells.{cell_parts}
use Rattle.circ_relay.proofs.Longer.{none_packaged, KeepsStreams, changed_streams, same_held, stands_still}
use Rattle.circ_relay.proofs.MessageKinds.{found, does, of_end, other_window, unmoved_parts, placeless_places}

pub ended_effects : (outcome : CodeEffects) (key : CodeKey) (reason : ℕ) (stream : ℕ) (payload : List ℕ) (m : Message)
    (h : PlacedStream)
    → effects_of outcome ≡ no_effects
    → key_of key ≡ record { stream = stream; serial = h.serial } → reason ≡ end_reason payload → stream ≡ m.stream
    → payload ≡ m.payload → m.place ≡ Some h.serial
    → effects_of (record outcome { edge = Some (CodeClose key reason) }) ≡ end_effects m
ended_effects outcome key reason stream payload m h none named reasoned streamed paid place =
    ap (λ (e : Effects). record e { edge = Some (Close (key_of key) reason) }) none
    ∙ rw (named, reasoned, streamed, paid, place) refl

pub placeless_end : (m : Message) → m.place ≡ None → end_effects m ≡ no_effects
placeless_end m none = rw none refl

end_does : (m : Message) (serial : ℕ) → m.place ≡ Some serial
    → end_effects m ≡ ordering (Close (record { stream = m.stream; serial = serial }) (end_reason m.payload))
end_does m serial is = rw is refl

pub ended_parts : (c : Circuit) (new : PlacesState) (message : CodeMessage) (rules : Rules) (log : Log) (command : ℕ)
    (body : List ℕ) (m : Message) (place : ℕ) (h : PlacedStream)
    → IsBrought message log command body m → HasParts c log → m.command ≡ end_command → m.place ≡ Some h.serial
    → held_at c.places place ≡ Some h
    → new ≡ with_held c.places place (Some (record h { phase = Ending }))
    → HasParts (record c { places = new }) (after_cell rules log command body)
ended_parts c new message rules log command body m place h b has is named holds becomes =
    let given = does message rules log command body m b ∙ of_end rules log m is ∙ end_does m h.serial named in
    let are : ArePlaces new (after_cell rules log command body) =
    subst (λ s. ArePlaces s (after_cell rules log command body)) (sym becomes)
    (end_ends c.places rules log (Forward command body) m place h has.places (found message log command body m b) is named
    holds) in
    let keeps : KeepsStreams c.places new =
    subst (λ s. KeepsStreams c.places s) (sym becomes)
    (changed_streams c.places place h (Some (record h { phase = Ending })) holds
    (same_held h (record h { phase = Ending }) refl)) in
    let window : window_of (after_cell rules log command body) ≡ window_of log =
    other_window message rules log command body m b (ap (λ k. k == data_command) is) (ap (λ k. k == sendme_command) is) in
    cell_parts c (record c { places = new }) rules log command body
    (ordering (Close (record { stream = m.stream; serial = h.serial }) (end_reason m.payload))) has given refl refl refl refl
    refl refl
    (none_packaged c.packager log has.packager)
    (stands_still c.windows log (after_cell rules log command body) has.windows window) are keeps

pub unended_parts : (c : Circuit) (message : CodeMessage) (rules : Rules) (log : Log) (command : ℕ) (body : List ℕ) (m : Message)
    → IsBrought message log command body m → HasParts c log → m.command ≡ end_command → m.place ≡ None
    → HasParts c (after_cell rules log command body)
unended_parts c message rules log command body m b has is none =
    unmoved_parts c message rules log command body m b has (of_end rules log m is ∙ placeless_end m none)
    (other_window message rules log command body m b (ap (λ k. k == data_command) is) (ap (λ k. k == sendme_command) is))
    (placeless_places c.places message rules log command body m b (ap (λ k. k == begin_command) is) none has.places)
