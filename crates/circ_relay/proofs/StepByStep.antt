-- The steps of places in a form that the check's tactics find by themselves: the new state by an
-- equation, and a word in place of the record.
use Rattle.std.proofs.Common.{◌≡◌, ◌≢◌, ◌<◌, ◌+◌, ◌∷◌, ℕ, List, length, Some, None, true, false, sym, subst}
use Rattle.std.specs.Prelude.{position}
use Rattle.tor_spec.specs.RelayCell.{begin_command, data_command, end_command, sendme_command}
use Rattle.tor_spec.specs.Extend.{Address}
use Rattle.circuit_model.specs.Events.{Event}
use Rattle.circuit_model.specs.declared.event.Event.TheVariants.{Connected, Data, Drained, Ended, Freed}
use Rattle.circuit_model.specs.Rules.{Rules}
use Rattle.circuit_model.specs.Log.{Log, Message, closing, is_closed}
use Rattle.circuit_model.specs.declared.effects.Order.TheVariants.{Reach}
use Rattle.circuit_model.specs.Places.{places}
use Rattle.circuit_model.specs.Received.{message_at}
use Rattle.circuit_model.specs.Effects.{effects_after}
use Rattle.circuit_model.specs.Words.{entry_after}
use Rattle.stream_edge.specs.declared.placed_stream.PlacedStream.{PlacedStream}
use Rattle.stream_edge.specs.declared.placed_stream.Phase.TheVariants.{Reaching, Joined, Ending}
use Rattle.stream_edge.specs.PlacesState.{PlacesState, held_at, with_held}
use Rattle.stream_edge.specs.Streams.{after_accepting, after_credit, after_draining, after_packaging, begun, is_free, may_drain}
use Rattle.circ_relay.specs.PlacesOfLog.{ArePlaces, PlacesGoOn, is_edge_report}
use Rattle.circ_relay.proofs.Begun.{begin_takes_a_place}
use Rattle.circ_relay.proofs.Messages.{data_accepts, end_ends}
use Rattle.circ_relay.proofs.StreamSendmes.{sendme_credits}
use Rattle.circ_relay.proofs.Others.{closing_leaves_places, no_message_leaves_places, ordinary_leaves_places, placeless_leaves_places, refused_leaves_places}
use Rattle.circ_relay.proofs.Reports.{bytes_package, connected_joins, drained_drains, freed_frees}
use Rattle.circ_relay.proofs.Closes.{ended_ends}

to_equal : (made new : PlacesState) (rules : Rules) (log : Log) (e : Event) → new ≡ made
    → ArePlaces made (entry_after rules log e ∷ log) → ArePlaces new (entry_after rules log e ∷ log)
to_equal made new rules log e is are = subst (λ s. ArePlaces s (entry_after rules log e ∷ log)) (sym is) are

pub begin_goes_on : (state new : PlacesState) (rules : Rules) (log : Log) (e : Event) (m : Message) (place id : ℕ) (to : Address)
    →
    message_at log e ≡ Some m → m.command ≡ begin_command
    → (effects_after rules log e).edge ≡ Some (Reach (record { stream = id; serial = length (places log) }) to) →
    position is_free state.streams ≡ Some place →
    new ≡ record (with_held state place (Some (begun id state.next_serial))) { next_serial = state.next_serial + 1 }
    → PlacesGoOn state new rules log e
unfolding PlacesGoOn
begin_goes_on state new rules log e m place id to found command order first is are =
    to_equal (record (with_held state place (Some (begun id state.next_serial))) { next_serial = state.next_serial + 1 }) new
    rules log e is (begin_takes_a_place state rules log e m place id to are found command order first)

pub connected_goes_on : (state new : PlacesState) (rules : Rules) (log : Log) (place : ℕ) (h : PlacedStream) →
    held_at state place ≡ Some h → h.phase ≡ Reaching → new ≡ with_held state place (Some (record h { phase = Joined }))
    → PlacesGoOn state new rules log (Connected h.serial)
unfolding PlacesGoOn
connected_goes_on state new rules log place h at reaching is are =
    to_equal (with_held state place (Some (record h { phase = Joined }))) new rules log (Connected h.serial) is
    (connected_joins state rules log place h are at reaching)

pub bytes_go_on : (state new : PlacesState) (rules : Rules) (log : Log) (place : ℕ) (h : PlacedStream) (bytes : List ℕ) →
    held_at state place ≡ Some h → new ≡ with_held state place (Some (after_packaging h))
    → PlacesGoOn state new rules log (Data h.serial bytes)
unfolding PlacesGoOn
bytes_go_on state new rules log place h bytes at is are =
    to_equal (with_held state place (Some (after_packaging h))) new rules log (Data h.serial bytes) is
    (bytes_package state rules log place h bytes are at)

pub drained_goes_on : (state new : PlacesState) (rules : Rules) (log : Log) (place : ℕ) (h : PlacedStream) →
    held_at state place ≡ Some h → may_drain h ≡ true → new ≡ with_held state place (Some (after_draining h))
    → PlacesGoOn state new rules log (Drained h.serial)
unfolding PlacesGoOn
drained_goes_on state new rules log place h at may is are =
    to_equal (with_held state place (Some (after_draining h))) new rules log (Drained h.serial) is
    (drained_drains state rules log place h are at may)

pub ended_goes_on : (state new : PlacesState) (rules : Rules) (log : Log) (place : ℕ) (h : PlacedStream) (reason : ℕ) →
    is_closed log ≡ false → held_at state place ≡ Some h → new ≡ with_held state place (Some (record h { phase = Ending }))
    → PlacesGoOn state new rules log (Ended h.serial reason)
unfolding PlacesGoOn
ended_goes_on state new rules log place h reason live at is are =
    to_equal (with_held state place (Some (record h { phase = Ending }))) new rules log (Ended h.serial reason) is
    (ended_ends state rules log place h reason are live at)

pub freed_goes_on : (state new : PlacesState) (rules : Rules) (log : Log) (place : ℕ) (h : PlacedStream) →
    held_at state place ≡ Some h → new ≡ with_held state place None → PlacesGoOn state new rules log (Freed h.serial)
unfolding PlacesGoOn
freed_goes_on state new rules log place h at is are =
    to_equal (with_held state place None) new rules log (Freed h.serial) is (freed_frees state rules log place h are at)

pub end_goes_on : (state new : PlacesState) (rules : Rules) (log : Log) (e : Event) (m : Message) (place : ℕ) (h : PlacedStream) →
    held_at state place ≡ Some h → message_at log e ≡ Some m → m.command ≡ end_command → m.place ≡ Some h.serial →
    new ≡ with_held state place (Some (record h { phase = Ending })) → PlacesGoOn state new rules log e
unfolding PlacesGoOn
end_goes_on state new rules log e m place h at found command named is are =
    to_equal (with_held state place (Some (record h { phase = Ending }))) new rules log e is
    (end_ends state rules log e m place h are found command named at)

pub data_goes_on : (state new : PlacesState) (rules : Rules) (log : Log) (e : Event) (m : Message) (place : ℕ) (h : PlacedStream)
    →
    held_at state place ≡ Some h → message_at log e ≡ Some m → m.command ≡ data_command → m.place ≡ Some h.serial →
    new ≡ with_held state place (Some (after_accepting h)) → PlacesGoOn state new rules log e
unfolding PlacesGoOn
data_goes_on state new rules log e m place h at found command named is are =
    to_equal (with_held state place (Some (after_accepting h))) new rules log e is
    (data_accepts state rules log e m place h are found command named at)

pub sendme_goes_on : (state new : PlacesState) (rules : Rules) (log : Log) (e : Event) (m : Message) (place : ℕ)
    (h : PlacedStream) →
    held_at state place ≡ Some h → message_at log e ≡ Some m → m.command ≡ sendme_command → 0 < m.stream
    → m.place ≡ Some h.serial →
    new ≡ with_held state place (Some (after_credit h)) → PlacesGoOn state new rules log e
unfolding PlacesGoOn
sendme_goes_on state new rules log e m place h at found command stream named is are =
    to_equal (with_held state place (Some (after_credit h))) new rules log e is
    (sendme_credits state rules log e m place h are found command stream named at)

-- Every other event.

pub no_message_goes_on : (state : PlacesState) (rules : Rules) (log : Log) (e : Event) → message_at log e ≡ None
    → is_edge_report e ≡ false → PlacesGoOn state state rules log e
unfolding PlacesGoOn
no_message_goes_on state rules log e none other are = no_message_leaves_places state rules log e are none other

pub placeless_goes_on : (state : PlacesState) (rules : Rules) (log : Log) (e : Event) (m : Message) → message_at log e ≡ Some m
    → m.command ≢ begin_command → m.place ≡ None → PlacesGoOn state state rules log e
unfolding PlacesGoOn
placeless_goes_on state rules log e m found other none are = placeless_leaves_places state rules log e m are found other none

pub ordinary_goes_on : (state : PlacesState) (rules : Rules) (log : Log) (e : Event) (m : Message) → message_at log e ≡ Some m →
    m.command ≢ begin_command → m.command ≢ data_command → m.command ≢ end_command → m.command ≢ sendme_command
    → PlacesGoOn state state rules log e
unfolding PlacesGoOn
ordinary_goes_on state rules log e m found begin data_ end sendme are =
    ordinary_leaves_places state rules log e m are found begin data_ end sendme

pub refused_goes_on : (state : PlacesState) (rules : Rules) (log : Log) (e : Event) (m : Message) → message_at log e ≡ Some m
    → m.command ≡ begin_command →
    (effects_after rules log e).edge ≡ None → PlacesGoOn state state rules log e
unfolding PlacesGoOn
refused_goes_on state rules log e m found command none are = refused_leaves_places state rules log e m are found command none

pub closing_goes_on : (state : PlacesState) (rules : Rules) (log : Log) (e : Event) (m : Message) (reason : ℕ)
    → message_at log e ≡ Some m →
    effects_after rules log e ≡ closing reason → PlacesGoOn state state rules log e
unfolding PlacesGoOn
closing_goes_on state rules log e m reason found does are = closing_leaves_places state rules log e m reason are found does
