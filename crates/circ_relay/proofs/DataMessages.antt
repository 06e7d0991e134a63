-- The parts of a circuit behind a DATA.
use Rattle.std.proofs.Common.{◌+◌, if◌then◌else◌, ◌≡◌, ℕ, ◌==◌, List, Bool, true, false, Some, None, refl, sym, ap, subst, ◌∙◌, nat_le}
use Rattle.tor_spec.specs.RelayCell.{begin_command, data_command, sendme_command}
use Rattle.sendme_windows.specs.WindowsState.{HasCountsOf}
use Rattle.tor_spec.specs.CircuitWindow.{after_accepting, is_sendme_due}
use Rattle.tor_spec.specs.Sendme.{sendme_payload}
use Rattle.circuit_model.specs.Packaged.{packaging}
use Rattle.circuit_model.specs.Streams.{acknowledging, data_at, data_effects}
use Rattle.circuit_model.specs.Windows.{accepted_data, carried_count, accept_grant}
use Rattle.circ_relay.proofs.WindowMoves.{due_by_log}
use Rattle.stream_edge.specs.PlacesState.{PlacesState, held_at, with_held}
use Rattle.stream_edge.specs.declared.placed_stream.PlacedStream.{PlacedStream}
use Rattle.circuit_model.specs.declared.event.Event.TheVariants.{Forward}
use Rattle.circuit_model.specs.Rules.{Rules}
use Rattle.circuit_model.specs.Log.{Log, Message, Effects, no_effects, closing}
use Rattle.circuit_model.specs.declared.effects.Order.TheVariants.{Carry}
use Rattle.circuit_model.specs.Places.{place_of}
use Rattle.circuit_model.specs.Effects.{effects_after}
use Rattle.circ_relay.specs.declared.circuit.Circuit.{Circuit}
use Rattle.circ_relay.specs.Packaging.{IsPackagedNext}
use Rattle.circ_relay.specs.BroughtMessages.{after_cell, IsBrought}
use Rattle.circ_relay.specs.CircuitOfLog.{HasParts}
use Rattle.circ_relay.specs.PlacesOfLog.{ArePlaces}
use Rattle.circ_relay.specs.WindowOfLog.{window_of}
use Rattle.cell_codec.specs.Roomy.{Roomy}
use Rattle.stream_edge.specs.declared.places.AcceptAnswer.{AcceptAnswer}
use Rattle.tr_io.specs.declared.names.StreamKey.{StreamKey as CodeKey}
use Rattle.tr_io.specs.declared.edges.EdgeOrder.TheVariants.{Carry as CodeCarry}
use Rattle.stream_edge.specs.Streams.{after_accepting as after_one_more, may_accept}
use Rattle.circ_relay.specs.declared.message.Message.{Message as CodeMessage}
use Rattle.circ_relay.specs.declared.effects.Effects.{Effects as CodeEffects}
use Rattle.circ_relay.specs.Values.{effects_of, key_of}
use Rattle.circ_relay.proofs.WindowByEvent.{data_message_moves}
use Rattle.circ_relay.proofs.Messages.{data_accepts}
use Rattle.circ_relay.proofs.Others.{acknowledging-edge}
use Rattle.circ_relay.proofs.Reading.{may_accept_by_the_log}
use Rattle.circ_relay.proofs.AfterCells.{cell_parts}
use Rattle.circ_relay.proofs.Longer.{KeepsStreams, same_streams, changed_streams, same_held}
use Rattle.circ_relay.proofs.MessageKinds.{found, does, of_data, placeless_places, unnot, not-true}

-- A SENDME of the circuit is due.

pub acknowledged : (log : Log) (m : Message) (due : Bool) (digest : List ℕ)
    → due ≡ is_sendme_due (after_accepting (window_of log)).accepted → due ≡ true → m.digest ≡ digest
    → acknowledging log m ≡ packaging log sendme_command 0 (sendme_payload digest)
acknowledged log m due digest says is same =
    let test : is_sendme_due (accepted_data log + 1) ≡ true = sym (due_by_log log) ∙ sym says ∙ is in
    rw (test, same) refl

pub unacknowledged : (log : Log) (m : Message) (due : Bool) → due ≡ is_sendme_due (after_accepting (window_of log)).accepted
    → due ≡ false → acknowledging log m ≡ no_effects
unacknowledged log m due says is =
    let test : is_sendme_due (accepted_data log + 1) ≡ false = sym (due_by_log log) ∙ sym says ∙ is in
    rw test refl

-- DATA.

if-dial : (b : Bool) (x y : Effects) → x.dial ≡ None → y.dial ≡ None → (if b then x else y).dial ≡ None
if-dial true x y p q = p
if-dial false x y p q = q

if-cut : (b : Bool) (x y : Effects) → x.cut ≡ false → y.cut ≡ false → (if b then x else y).cut ≡ false
if-cut true x y p q = p
if-cut false x y p q = q

if-close : (b : Bool) (x y : Effects) → x.close ≡ None → y.close ≡ None → (if b then x else y).close ≡ None
if-close true x y p q = p
if-close false x y p q = q

abbrev is_due : Log → Bool
is_due log = is_sendme_due (accepted_data log + 1)

acknowledging-dial : (log : Log) (m : Message) → (acknowledging log m).dial ≡ None
acknowledging-dial log m = if-dial (is_due log) (packaging log sendme_command 0 (sendme_payload m.digest)) no_effects refl refl

acknowledging-cut : (log : Log) (m : Message) → (acknowledging log m).cut ≡ false
acknowledging-cut log m = if-cut (is_due log) (packaging log sendme_command 0 (sendme_payload m.digest)) no_effects refl refl

acknowledging-close : (log : Log) (m : Message) → (acknowledging log m).close ≡ None
acknowledging-close log m = if-close (is_due log) (packaging log sendme_command 0 (sendme_payload m.digest)) no_effects refl refl

pub placeless_data_does : (log : Log) (m : Message) → m.place ≡ None → data_effects log m ≡ acknowledging log m
placeless_data_does log m none = ap (λ p. data_at log m p) none

-- The circuit's window behind a DATA that is accepted.
data_window : (message : CodeMessage) (rules : Rules) (log : Log) (command : ℕ) (body : List ℕ) (m : Message) (outcome : Effects)
    → IsBrought message log command body m
    → m.command ≡ data_command → effects_after rules log (Forward command body) ≡ outcome → outcome.close ≡ None
    → window_of (after_cell rules log command body) ≡ after_accepting (window_of log)
data_window message rules log command body m outcome b is does_ open_ =
    data_message_moves rules log (Forward command body) m (found message log command body m b) is
    (ap (λ (e : Effects). e.close) does_ ∙ open_)

pub placeless_data_parts : (c d : Circuit) (message : CodeMessage) (rules : Rules) (log : Log) (command : ℕ) (body : List ℕ)
    (m : Message)
    → IsBrought message log command body m → HasParts c log → m.command ≡ data_command → m.place ≡ None
    → IsPackagedNext d.packager log (acknowledging log m).back → HasCountsOf d.windows (after_accepting (window_of log))
    → d ≡ record c { packager = d.packager; windows = d.windows } → HasParts d (after_cell rules log command body)
placeless_data_parts c d message rules log command body m b has is none packages stands rest =
    let given = does message rules log command body m b ∙ of_data rules log m is ∙ placeless_data_does log m none in
    let window = data_window message rules log command body m (acknowledging log m) b is given (acknowledging-close log m) in
    subst (λ e. HasParts e (after_cell rules log command body)) (sym rest)
    (cell_parts c (record c { packager = d.packager; windows = d.windows }) rules log command body (acknowledging log m) has given
    (acknowledging-dial log m) (acknowledging-cut log m) (ap place_of (acknowledging-edge log m)) refl refl refl packages
    (subst (λ w. HasCountsOf d.windows w) (sym window) stands)
    (placeless_places c.places message rules log command body m b (ap (λ k. k == begin_command) is) none has.places)
    (same_streams c.places))

accepted_by : (may : Bool) (answer : AcceptAnswer) → answer ≡ (if may then AcceptAnswer.Accepted else AcceptAnswer.Overrun)
    → answer ≡ AcceptAnswer.Accepted → may ≡ true
accepted_by true answer by is = refl
accepted_by false answer by is =
    (let never : ◌≡◌ {A = AcceptAnswer} AcceptAnswer.Overrun AcceptAnswer.Accepted = sym by ∙ is in cc)

overrun_by : (may : Bool) (answer : AcceptAnswer) → answer ≡ (if may then AcceptAnswer.Accepted else AcceptAnswer.Overrun)
    → answer ≡ AcceptAnswer.Overrun → may ≡ false
overrun_by false answer by is = refl
overrun_by true answer by is = (let never : ◌≡◌ {A = AcceptAnswer} AcceptAnswer.Accepted AcceptAnswer.Overrun = sym by ∙ is in cc)

pub overrun_does : (s : PlacesState) (log : Log) (m : Message) (place : ℕ) (h : PlacedStream) (answer : AcceptAnswer)
    → ArePlaces s log
    → held_at s place ≡ Some h → m.place ≡ Some h.serial
    → answer ≡ (if may_accept h then AcceptAnswer.Accepted else AcceptAnswer.Overrun) → answer ≡ AcceptAnswer.Overrun
    → data_effects log m ≡ closing 1
overrun_does s log m place h answer are holds named by is =
    let test : nat_le (accept_grant log h.serial) (carried_count log h.serial) ≡ true =
    unnot (nat_le (accept_grant log h.serial) (carried_count log h.serial))
    (sym (may_accept_by_the_log s log place h are holds) ∙ overrun_by (may_accept h) answer by is) in
    ap (λ p. data_at log m p) named
    ∙ ap (λ (b : Bool). if b then closing 1
    else record (acknowledging log m) { edge = Some (Carry (record { stream = m.stream; serial = h.serial }) m.payload) })
    test

pub accepted_does : (s : PlacesState) (log : Log) (m : Message) (place : ℕ) (h : PlacedStream) (answer : AcceptAnswer)
    → ArePlaces s log
    → held_at s place ≡ Some h → m.place ≡ Some h.serial
    → answer ≡ (if may_accept h then AcceptAnswer.Accepted else AcceptAnswer.Overrun) → answer ≡ AcceptAnswer.Accepted
    → data_effects log m
    ≡ record (acknowledging log m) { edge = Some (Carry (record { stream = m.stream; serial = h.serial }) m.payload) }
accepted_does s log m place h answer are holds named by is =
    let test : nat_le (accept_grant log h.serial) (carried_count log h.serial) ≡ false =
    not-true (nat_le (accept_grant log h.serial) (carried_count log h.serial))
    (sym (may_accept_by_the_log s log place h are holds) ∙ accepted_by (may_accept h) answer by is) in
    ap (λ p. data_at log m p) named
    ∙ ap (λ (b : Bool). if b then closing 1
    else record (acknowledging log m) { edge = Some (Carry (record { stream = m.stream; serial = h.serial }) m.payload) })
    test

pub carried_effects : (outcome : CodeEffects) (acknowledged : Effects) (key : CodeKey) (bytes : Roomy ℕ) (stream : ℕ)
    (payload : List ℕ) (m : Message) (serial : ℕ)
    → effects_of outcome ≡ acknowledged
    → key_of key ≡ record { stream = stream; serial = serial } → bytes.items ≡ payload → stream ≡ m.stream → payload ≡ m.payload
    → effects_of (record outcome { edge = Some (CodeCarry key bytes) })
    ≡ record acknowledged { edge = Some (Carry (record { stream = m.stream; serial = serial }) m.payload) }
carried_effects outcome acknowledged key bytes stream payload m serial is named carried_ streamed paid =
    ap (λ (e : Effects). record e { edge = Some (Carry (key_of key) bytes.items) }) is
    ∙ rw (named, carried_, streamed, paid) refl

accepted_serial : (h : PlacedStream) (may : Bool) → h.serial ≡ (if may then record h { accepted = h.accepted + 1 } else h).serial
accepted_serial h true = refl
accepted_serial h false = refl

pub accepted_parts : (c d : Circuit) (new : PlacesState) (message : CodeMessage) (rules : Rules) (log : Log) (command : ℕ)
    (body : List ℕ) (m : Message) (place : ℕ) (h : PlacedStream) (answer : AcceptAnswer)
    → IsBrought message log command body m → HasParts c log → m.command ≡ data_command → m.place ≡ Some h.serial
    → held_at c.places place ≡ Some h
    → answer ≡ (if may_accept h then AcceptAnswer.Accepted else AcceptAnswer.Overrun) → answer ≡ AcceptAnswer.Accepted
    → new ≡ with_held c.places place (Some (after_one_more h))
    → IsPackagedNext d.packager log (acknowledging log m).back → HasCountsOf d.windows (after_accepting (window_of log))
    → d ≡ record c { packager = d.packager; windows = d.windows; places = new } → HasParts d (after_cell rules log command body)
accepted_parts c d new message rules log command body m place h answer b has is named holds by accepts becomes packages stands
    rest =
    let order : Effects =
    record (acknowledging log m) { edge = Some (Carry (record { stream = m.stream; serial = h.serial }) m.payload) } in
    let given : effects_after rules log (Forward command body) ≡ order =
    does message rules log command body m b ∙ of_data rules log m is
    ∙ accepted_does c.places log m place h answer has.places holds named by accepts in
    let window = data_window message rules log command body m order b is given (acknowledging-close log m) in
    let are : ArePlaces new (after_cell rules log command body) =
    subst (λ s. ArePlaces s (after_cell rules log command body)) (sym becomes)
    (data_accepts c.places rules log (Forward command body) m place h has.places (found message log command body m b) is named
    holds) in
    let keeps : KeepsStreams c.places new =
    subst (λ s. KeepsStreams c.places s) (sym becomes)
    (changed_streams c.places place h (Some (after_one_more h)) holds
    (same_held h (after_one_more h) (sym (accepted_serial h (may_accept h))))) in
    subst (λ e. HasParts e (after_cell rules log command body)) (sym rest)
    (cell_parts c (record c { packager = d.packager; windows = d.windows; places = new }) rules log command body order has given
    (acknowledging-dial log m) (acknowledging-cut log m) refl refl refl refl packages
    (subst (λ w. HasCountsOf d.windows w) (sym window) stands) are keeps)
