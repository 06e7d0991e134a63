-- What the table of effects has the relay do, by what the places hold.
use Rattle.std.proofs.Common.{◌≡◌, ◌<◌, ℕ, ◌+◌, ◌%◌, ◌==◌, List, [], ◌∷◌, length, Bool, true, false, if◌then◌else◌, not, Option, Some, None, refl, sym, ap, ◌∙◌, arith, nat_le}
use Rattle.std.specs.Prelude.{slice_get, position, is_none}
use Rattle.tor_spec.specs.RelayCell.{begin_command, data_command, end_command, sendme_command, connected_command}
use Rattle.tor_spec.specs.Begin.{Target, begin_target}
use Rattle.tor_spec.specs.Connected.{connected_payload}
use Rattle.tor_spec.specs.Ends.{end_reason}
use Rattle.tor_spec.specs.Extend.{Address}
use Rattle.circuit_model.specs.Events.{Event}
use Rattle.circuit_model.specs.declared.event.Event.TheVariants.{Connected, Data, Ended, Drained}
use Rattle.circuit_model.specs.Rules.{Rules, allowed_address}
use Rattle.circuit_model.specs.Log.{Entry, Log, Message, Effects, StreamKey, no_effects, closing, ordering, is_closed, pushed}
use Rattle.circuit_model.specs.declared.effects.Order.TheVariants.{Reach, Carry, Close}
use Rattle.circuit_model.specs.Places.{Place, places, place_at, place_of, taken_places}
use Rattle.circuit_model.specs.Packaged.{packaging}
use Rattle.circuit_model.specs.Windows.{carried_count, drained_count, accept_grant as log_accept_grant}
use Rattle.circuit_model.specs.Received.{message_at}
use Rattle.circuit_model.specs.Streams.{place_limit, time_to_live, ending, beginning, acknowledging, data_at, drained_effects, ended_effects, connected_effects, edge_data_effects}
use Rattle.circuit_model.specs.Effects.{message_effects, open_effects, effects_after}
use Rattle.circuit_model.proofs.Reading.{read-effects}
use Rattle.stream_edge.specs.declared.placed_stream.PlacedStream.{PlacedStream}
use Rattle.stream_edge.specs.PlacesState.{PlacesState, held_at}
use Rattle.stream_edge.specs.Streams.{is_free, may_accept, may_credit, may_drain, sendme_due}
use Rattle.circ_relay.specs.PlacesOfLog.{stream_key, IsOfLog, ArePlaces, AreNamed}
use Rattle.circ_relay.proofs.Lists.{got_before, got_last, same_some}
use Rattle.circ_relay.proofs.Begun.{places_more}
use Rattle.circ_relay.proofs.Messages.{data-does, data-overrun, end-does}
use Rattle.circ_relay.proofs.StreamSendmes.{sendme-does, sendme-closes, sendme-raises, too_much}
use Rattle.circ_relay.proofs.Reading.{may_accept_by_the_log, may_credit_by_the_log}
use Rattle.circ_relay.proofs.Taken.{full_by_the_log}

-- Reports of the edge.

pub when_open : (closed : Bool) (x : Effects) → closed ≡ false → (if closed then no_effects else x) ≡ x
when_open true x live = cc
when_open false x live = refl

pub connected_does : (state : PlacesState) (rules : Rules) (log : Log) (place : ℕ) (h : PlacedStream) (p : Place)
    → ArePlaces state log
    → is_closed log ≡ false →
    held_at state place ≡ Some h → place_at log h.serial ≡ Some p →
    effects_after rules log (Connected h.serial) ≡ packaging log connected_command h.stream
    (connected_payload p.to.ip time_to_live)
unfolding open_effects
connected_does state rules log place h p are live at found =
    let is : IsOfLog log h = are.streams place h at in
    let same : is.place ≡ p = same_some is.place p (sym is.found ∙ found) in
    let key : p.key ≡ stream_key h = ap (λ (q : Place). q.key) (sym same) ∙ is.key in
    when_open (is_closed log) (connected_effects log (place_at log h.serial)) live
    ∙ ap (connected_effects log) found
    ∙ ap (λ (k : StreamKey). packaging log connected_command k.stream (connected_payload p.to.ip time_to_live)) key

pub bytes_do : (state : PlacesState) (rules : Rules) (log : Log) (place : ℕ) (h : PlacedStream) (bytes : List ℕ)
    → ArePlaces state log
    → is_closed log ≡ false →
    held_at state place ≡ Some h → effects_after rules log (Data h.serial bytes) ≡ packaging log data_command h.stream bytes
unfolding open_effects
bytes_do state rules log place h bytes are live at =
    let is : IsOfLog log h = are.streams place h at in
    when_open (is_closed log) (edge_data_effects log bytes (place_at log h.serial)) live
    ∙ ap (edge_data_effects log bytes) is.found
    ∙ ap (λ (k : StreamKey). packaging log data_command k.stream bytes) is.key

pub ended_does : (state : PlacesState) (rules : Rules) (log : Log) (place : ℕ) (h : PlacedStream) (reason : ℕ)
    → ArePlaces state log
    → is_closed log ≡ false →
    held_at state place ≡ Some h
    → effects_after rules log (Ended h.serial reason) ≡ record (ending log h.stream reason)
    { edge = Some (Close (stream_key h) reason) }
unfolding open_effects
ended_does state rules log place h reason are live at =
    let is : IsOfLog log h = are.streams place h at in
    when_open (is_closed log) (ended_effects log reason (place_at log h.serial)) live
    ∙ ap (ended_effects log reason) is.found
    ∙ ap (λ (k : StreamKey). record (ending log k.stream reason) { edge = Some (Close k reason) }) is.key

due-by : (may due other : Bool) → ◌≡◌ {A = Option Bool} (if may then Some due else None) (Some other) → due ≡ other
due-by true due other is = same_some due other is
due-by false due other is = cc

due-is : (h : PlacedStream) (due : Bool) → sendme_due h ≡ Some due → ((h.drained + 1) % 50 == 0) ≡ due
due-is h due is = due-by (may_drain h) ((h.drained + 1) % 50 == 0) due is

pub drained_does : (state : PlacesState) (rules : Rules) (log : Log) (place : ℕ) (h : PlacedStream) (due : Bool)
    → ArePlaces state log
    → is_closed log ≡ false →
    held_at state place ≡ Some h → sendme_due h ≡ Some due →
    effects_after rules log (Drained h.serial) ≡ (if due then packaging log sendme_command h.stream [] else no_effects)
unfolding open_effects
drained_does state rules log place h due are live at is_due =
    let is : IsOfLog log h = are.streams place h at in
    when_open (is_closed log) (drained_effects log (place_at log h.serial)) live
    ∙ ap (drained_effects log) is.found
    ∙ ap (λ (k : StreamKey). if ((drained_count log k.serial + 1) % 50) == 0 then packaging log sendme_command k.stream []
    else no_effects) is.key
    ∙ ap (λ n. if ((n + 1) % 50) == 0 then packaging log sendme_command h.stream [] else no_effects) (sym is.drained)
    ∙ ap (λ (b : Bool). if b then packaging log sendme_command h.stream [] else no_effects) (due-is h due is_due)

-- Messages.

pub end_does : (rules : Rules) (log : Log) (e : Event) (m : Message) (serial : ℕ) → message_at log e ≡ Some m
    → m.command ≡ end_command → m.place ≡ Some serial →
    effects_after rules log e ≡ ordering (Close (record { stream = m.stream; serial = serial }) (end_reason m.payload))
end_does rules log e m serial found command named = read-effects rules log e m found ∙ end-does rules log m serial command named

not-not : (a b c : Bool) → a ≡ not b → a ≡ c → b ≡ not c
not-not true true c is same = cc
not-not true false true is same = refl
not-not true false false is same = cc
not-not false true true is same = cc
not-not false true false is same = refl
not-not false false c is same = cc

data-carries : (log : Log) (m : Message) (serial : ℕ) → nat_le (log_accept_grant log serial) (carried_count log serial) ≡ false →
    data_at log m (Some serial)
    ≡ record (acknowledging log m) { edge = Some (Carry (record { stream = m.stream; serial = serial }) m.payload) }
data-carries log m serial room = rw room refl

pub data_does : (state : PlacesState) (rules : Rules) (log : Log) (e : Event) (m : Message) (place : ℕ) (h : PlacedStream)
    → ArePlaces state log →
    message_at log e ≡ Some m → m.command ≡ data_command → m.place ≡ Some h.serial → held_at state place ≡ Some h
    → may_accept h ≡ true →
    effects_after rules log e
    ≡ record (acknowledging log m) { edge = Some (Carry (record { stream = m.stream; serial = h.serial }) m.payload) }
data_does state rules log e m place h are found command named at may =
    read-effects rules log e m found ∙ data-does rules log m h.serial command named
    ∙ data-carries log m h.serial
    (not-not (may_accept h) (nat_le (log_accept_grant log h.serial) (carried_count log h.serial)) true
    (may_accept_by_the_log state log place h are at) may)

pub overrun_does : (state : PlacesState) (rules : Rules) (log : Log) (e : Event) (m : Message) (place : ℕ) (h : PlacedStream)
    → ArePlaces state log →
    message_at log e ≡ Some m → m.command ≡ data_command → m.place ≡ Some h.serial → held_at state place ≡ Some h
    → may_accept h ≡ false →
    effects_after rules log e ≡ closing 1
overrun_does state rules log e m place h are found command named at may =
    read-effects rules log e m found ∙ data-does rules log m h.serial command named
    ∙ data-overrun log m h.serial
    (not-not (may_accept h) (nat_le (log_accept_grant log h.serial) (carried_count log h.serial)) false
    (may_accept_by_the_log state log place h are at) may)

pub sendme_does : (state : PlacesState) (rules : Rules) (log : Log) (e : Event) (m : Message) (place : ℕ) (h : PlacedStream)
    → ArePlaces state log →
    message_at log e ≡ Some m → m.command ≡ sendme_command → 0 < m.stream → m.place ≡ Some h.serial
    → held_at state place ≡ Some h → may_credit h ≡ true →
    effects_after rules log e ≡ no_effects
sendme_does state rules log e m place h are found command stream named at may =
    let nonzero : (m.stream == 0) ≡ false = grind arith in
    read-effects rules log e m found ∙ sendme-does rules log m h.serial command nonzero named
    ∙ sendme-raises log h.serial
    (not-not (may_credit h) (too_much log h.serial) true (may_credit_by_the_log state log place h are at) may)

pub too_much_does : (state : PlacesState) (rules : Rules) (log : Log) (e : Event) (m : Message) (place : ℕ) (h : PlacedStream)
    → ArePlaces state log →
    message_at log e ≡ Some m → m.command ≡ sendme_command → 0 < m.stream → m.place ≡ Some h.serial
    → held_at state place ≡ Some h → may_credit h ≡ false →
    effects_after rules log e ≡ closing 1
too_much_does state rules log e m place h are found command stream named at may =
    let nonzero : (m.stream == 0) ≡ false = grind arith in
    read-effects rules log e m found ∙ sendme-does rules log m h.serial command nonzero named
    ∙ sendme-closes log h.serial
    (not-not (may_credit h) (too_much log h.serial) false (may_credit_by_the_log state log place h are at) may)

-- BEGIN.

begin-is : (rules : Rules) (log : Log) (m : Message) (target : Target) → m.command ≡ begin_command → (m.stream == 0) ≡ false
    → m.place ≡ None → begin_target m.payload ≡ Some target →
    message_effects rules log m ≡ beginning rules log m.stream (Some target)
unfolding message_effects
begin-is rules log m target command nonzero free asked = rw (command, nonzero, free, asked) refl

full-begins : (rules : Rules) (log : Log) (stream : ℕ) (target : Target) → nat_le place_limit (taken_places log) ≡ true
    → beginning rules log stream (Some target) ≡ ending log stream 11
full-begins rules log stream target full = rw full refl

room-begins : (rules : Rules) (log : Log) (stream : ℕ) (target : Target) (to : Address)
    → nat_le place_limit (taken_places log) ≡ false → allowed_address rules target ≡ Some to →
    beginning rules log stream (Some target) ≡ ordering (Reach (record { stream = stream; serial = length (places log) }) to)
room-begins rules log stream target to room allowed = rw (room, allowed) refl

unallowed-begins : (rules : Rules) (log : Log) (stream : ℕ) (target : Target) → nat_le place_limit (taken_places log) ≡ false
    → allowed_address rules target ≡ None →
    beginning rules log stream (Some target) ≡ ending log stream 4
unallowed-begins rules log stream target room unallowed = rw (room, unallowed) refl

pub full_does : (state : PlacesState) (rules : Rules) (log : Log) (e : Event) (m : Message) (target : Target)
    → ArePlaces state log → AreNamed log → length state.streams ≡ 32 →
    message_at log e ≡ Some m → m.command ≡ begin_command → 0 < m.stream → m.place ≡ None → begin_target m.payload ≡ Some target
    → position is_free state.streams ≡ None →
    effects_after rules log e ≡ ending log m.stream 11
full_does state rules log e m target are named whole found command stream free asked none =
    let nonzero : (m.stream == 0) ≡ false = grind arith in
    read-effects rules log e m found ∙ begin-is rules log m target command nonzero free asked
    ∙ full-begins rules log m.stream target
    (sym (full_by_the_log state log are named whole) ∙ ap (λ (x : Option ℕ). is_none x) none)

pub begin_does : (state : PlacesState) (rules : Rules) (log : Log) (e : Event) (m : Message) (target : Target) (place : ℕ)
    (to : Address)
    → ArePlaces state log → AreNamed log → length state.streams ≡ 32 →
    message_at log e ≡ Some m → m.command ≡ begin_command → 0 < m.stream → m.place ≡ None → begin_target m.payload ≡ Some target
    → position is_free state.streams ≡ Some place → allowed_address rules target ≡ Some to →
    effects_after rules log e ≡ ordering (Reach (record { stream = m.stream; serial = state.next_serial }) to)
begin_does state rules log e m target place to are named whole found command stream free asked some allowed =
    let nonzero : (m.stream == 0) ≡ false = grind arith in
    read-effects rules log e m found ∙ begin-is rules log m target command nonzero free asked
    ∙ room-begins rules log m.stream target to
    (sym (full_by_the_log state log are named whole) ∙ ap (λ (x : Option ℕ). is_none x) some) allowed
    ∙ ap (λ (n : ℕ). ordering (Reach (record { stream = m.stream; serial = n }) to)) (sym are.next)

pub unallowed_does : (state : PlacesState) (rules : Rules) (log : Log) (e : Event) (m : Message) (target : Target) (place : ℕ)
    → ArePlaces state log → AreNamed log → length state.streams ≡ 32 →
    message_at log e ≡ Some m → m.command ≡ begin_command → 0 < m.stream → m.place ≡ None → begin_target m.payload ≡ Some target
    → position is_free state.streams ≡ Some place → allowed_address rules target ≡ None →
    effects_after rules log e ≡ ending log m.stream 4
unallowed_does state rules log e m target place are named whole found command stream free asked some unallowed =
    let nonzero : (m.stream == 0) ≡ false = grind arith in
    read-effects rules log e m found ∙ begin-is rules log m target command nonzero free asked
    ∙ unallowed-begins rules log m.stream target
    (sym (full_by_the_log state log are named whole) ∙ ap (λ (x : Option ℕ). is_none x) some) unallowed

-- A place that was made stays, and the address that its stream is connected to.

stays-by : (log : Log) (entry : Entry) (serial : ℕ) (place : Place) (x : Option Place) → place_of entry.effects.edge ≡ x
    → place_at log serial ≡ Some place → place_at (entry ∷ log) serial ≡ Some place
stays-by log entry serial place None is found =
    ap (λ (y : Option Place). slice_get (pushed (places log) y) serial) is ∙ found
stays-by log entry serial place (Some made) is found =
    ap (λ (xs : List Place). slice_get xs serial) (places_more entry log made is)
    ∙ got_before (places log) made place serial found

pub place_lasts : (log : Log) (entry : Entry) (serial : ℕ) (place : Place) → place_at log serial ≡ Some place
    → place_at (entry ∷ log) serial ≡ Some place
place_lasts log entry serial place found = stays-by log entry serial place (place_of entry.effects.edge) refl found

pub place_begins : (log : Log) (entry : Entry) (key : StreamKey) (to : Address) → entry.effects.edge ≡ Some (Reach key to) →
    place_at (entry ∷ log) (length (places log)) ≡ Some (record { key = key; to = to })
place_begins log entry key to order =
    ap (λ (xs : List Place). slice_get xs (length (places log)))
    (places_more entry log (record { key = key; to = to }) (ap place_of order))
    ∙ got_last (places log) (record { key = key; to = to })
