-- The parts of a circuit behind a SENDME.
use Rattle.std.proofs.Common.{◌+◌, if◌then◌else◌, ◌≡◌, ◌<◌, ℕ, ◌==◌, ◌&&◌, List, Bool, true, false, Option, Some, None, refl, sym, ap, subst, ◌∙◌, arith, nat_lt}
use Rattle.tor_spec.specs.RelayCell.{begin_command, data_command, sendme_command}
use Rattle.sendme_windows.specs.WindowsState.{HasCountsOf, WindowsState}
use Rattle.tor_spec.specs.StreamWindow.{stream_start, stream_step}
use Rattle.circuit_model.specs.Places.{live_place}
use Rattle.stream_edge.specs.PlacesState.{PlacesState, held_at, with_held}
use Rattle.stream_edge.specs.declared.placed_stream.PlacedStream.{PlacedStream}
use Rattle.circuit_model.specs.declared.event.Event.TheVariants.{Forward}
use Rattle.circuit_model.specs.Rules.{Rules}
use Rattle.circuit_model.specs.Log.{Log, Message, Effects, no_effects, closing}
use Rattle.circ_relay.specs.declared.circuit.Circuit.{Circuit}
use Rattle.circ_relay.specs.BroughtMessages.{after_cell, IsBrought}
use Rattle.circ_relay.specs.CircuitOfLog.{HasParts}
use Rattle.circ_relay.specs.PlacesOfLog.{ArePlaces}
use Rattle.circ_relay.specs.WindowOfLog.{window_of, is_good}
use Rattle.circ_relay.proofs.WindowByEvent.{other_message_leaves, circuit_sendme_moves}
use Rattle.stream_edge.specs.declared.places.CreditAnswer.{CreditAnswer}
use Rattle.sendme_windows.specs.Answers.{answer_to, window_after}
use Rattle.sendme_windows.specs.declared.proof_answer.ProofAnswer.{ProofAnswer}
use Rattle.sendme_windows.specs.declared.proof_answer.ProofAnswer.TheVariants.{Good, Wrong, NoneOwed, BadForm}
use Rattle.stream_edge.specs.Streams.{after_credit, may_credit}
use Rattle.circuit_model.specs.Windows.{stream_packaged, stream_grant}
use Rattle.circuit_model.specs.SendmeProof.{is_right_sendme}
use Rattle.circuit_model.specs.Streams.{stream_sendme_at, sendme_effects}
use Rattle.circ_relay.specs.declared.message.Message.{Message as CodeMessage}
use Rattle.circ_relay.specs.declared.effects.Effects.{Effects as CodeEffects}
use Rattle.circ_relay.specs.Values.{effects_of}
use Rattle.circ_relay.proofs.ProofOwed.{right_by_answer}
use Rattle.circ_relay.proofs.Named.{zero_is_not_live}
use Rattle.circ_relay.proofs.StreamSendmes.{sendme_credits}
use Rattle.circ_relay.proofs.Reading.{may_credit_by_the_log}
use Rattle.circ_relay.proofs.AfterCells.{cell_parts}
use Rattle.circ_relay.proofs.Longer.{none_packaged, KeepsStreams, same_streams, changed_streams, same_held, stands_still}
use Rattle.circ_relay.proofs.MessageKinds.{found, does, brought_place, of_sendme, unmoved_parts, placeless_places, unnot, not-true}

-- A circuit's SENDME.

pub apart_false : (n m : ℕ) → (n ≡ m → ⊥) → (n == m) ≡ false
apart_false n m apart = grind arith

and_none : (a : Bool) → (a && false) ≡ false
and_none true = refl
and_none false = refl

above_zero : (n : ℕ) → (n ≡ 0 → ⊥) → 0 < n
above_zero n some = grind arith

circuit_sendme_does : (rules : Rules) (log : Log) (m : Message) (payload : List ℕ) (answer : ProofAnswer) (good : Bool)
    → m.stream ≡ 0 → payload ≡ m.payload
    → answer ≡ answer_to rules.least (window_of log) payload → is_good answer ≡ good
    → sendme_effects rules log m ≡ (if good then no_effects else closing 1)
circuit_sendme_does rules log m payload answer good zero_ paid judged is =
    let right : is_right_sendme rules log m.payload ≡ good =
    right_by_answer rules log m.payload ∙ ap (λ p. is_good (answer_to rules.least (window_of log) p)) (sym paid)
    ∙ ap is_good (sym judged) ∙ is in
    rw (zero_, right) refl

pub good_sendme_does : (rules : Rules) (log : Log) (m : Message) (payload : List ℕ) (answer : ProofAnswer) → m.stream ≡ 0
    → payload ≡ m.payload
    → answer ≡ answer_to rules.least (window_of log) payload → answer ≡ Good → sendme_effects rules log m ≡ no_effects
good_sendme_does rules log m payload answer zero_ paid judged is =
    circuit_sendme_does rules log m payload answer true zero_ paid judged (ap is_good is)

not_good : (answer : ProofAnswer) → (answer ≡ Good → ⊥) → is_good answer ≡ false
not_good Good other = absurd (other refl)
not_good (Wrong expected sent_proof) other = refl
not_good NoneOwed other = refl
not_good BadForm other = refl

pub other_sendme_does : (rules : Rules) (log : Log) (m : Message) (payload : List ℕ) (answer : ProofAnswer) → m.stream ≡ 0
    → payload ≡ m.payload
    → answer ≡ answer_to rules.least (window_of log) payload → (answer ≡ Good → ⊥) → sendme_effects rules log m ≡ closing 1
other_sendme_does rules log m payload answer zero_ paid judged other =
    circuit_sendme_does rules log m payload answer false zero_ paid judged (not_good answer other)

pub unclosing : (outcome : CodeEffects) → effects_of outcome ≡ closing 1 → outcome.close ≡ None → ⊥
unclosing outcome is none = (let never : ◌≡◌ {A = Option ℕ} None (Some 1) = sym none ∙ ap (λ (e : Effects). e.close) is in cc)

pub zero_place : (message : CodeMessage) (log : Log) (command : ℕ) (body : List ℕ) (m : Message)
    → IsBrought message log command body m → message.stream ≡ 0 → m.place ≡ None
zero_place message log command body m b zero_ =
    brought_place message log command body m None b (ap (λ n. live_place log n) zero_ ∙ zero_is_not_live log b.named)

pub good_sendme_parts : (c : Circuit) (new : WindowsState) (message : CodeMessage) (rules : Rules) (log : Log) (command : ℕ)
    (body : List ℕ) (m : Message) (answer : ProofAnswer)
    → IsBrought message log command body m → HasParts c log → m.command ≡ sendme_command → message.stream ≡ 0
    → answer ≡ answer_to rules.least (window_of log) message.payload.now → answer ≡ Good
    → HasCountsOf new (window_after answer (window_of log))
    → HasParts (record c { windows = new }) (after_cell rules log command body)
good_sendme_parts c new message rules log command body m answer b has is zero_ judged good stands =
    let window : window_of (after_cell rules log command body) ≡ window_after answer (window_of log) =
    circuit_sendme_moves rules log (Forward command body) m (found message log command body m b) is (sym b.stream ∙ zero_)
    ∙ ap (λ p. window_after (answer_to rules.least (window_of log) p) (window_of log)) (sym b.payload)
    ∙ ap (λ a. window_after a (window_of log)) (sym judged) in
    let given =
    does message rules log command body m b ∙ of_sendme rules log m is
    ∙ good_sendme_does rules log m message.payload.now answer (sym b.stream ∙ zero_) b.payload judged good in
    cell_parts c (record c { windows = new }) rules log command body no_effects has given refl refl refl refl refl refl
    (none_packaged c.packager log has.packager) (subst (λ w. HasCountsOf new w) (sym window) stands)
    (placeless_places c.places message rules log command body m b (ap (λ k. k == begin_command) is)
    (zero_place message log command body m b zero_) has.places) (same_streams c.places)

-- A stream's SENDME.

pub stream_sendme_does : (rules : Rules) (log : Log) (m : Message) → (m.stream ≡ 0 → ⊥)
    → sendme_effects rules log m ≡ stream_sendme_at log m.place
stream_sendme_does rules log m some = rw (apart_false m.stream 0 some) refl

pub placeless_sendme_does : (rules : Rules) (log : Log) (m : Message) → (m.stream ≡ 0 → ⊥) → m.place ≡ None
    → sendme_effects rules log m ≡ no_effects
placeless_sendme_does rules log m some none = stream_sendme_does rules log m some ∙ ap (λ p. stream_sendme_at log p) none

streams_window : (message : CodeMessage) (rules : Rules) (log : Log) (command : ℕ) (body : List ℕ) (m : Message)
    → IsBrought message log command body m
    → m.command ≡ sendme_command → (m.stream ≡ 0 → ⊥) → window_of (after_cell rules log command body) ≡ window_of log
streams_window message rules log command body m b is some =
    other_message_leaves rules log (Forward command body) m (found message log command body m b) (ap (λ k. k == data_command) is)
    (rw (apart_false m.stream 0 some) (and_none (m.command == sendme_command)))

pub placeless_sendme_parts : (c : Circuit) (message : CodeMessage) (rules : Rules) (log : Log) (command : ℕ) (body : List ℕ)
    (m : Message)
    → IsBrought message log command body m → HasParts c log → m.command ≡ sendme_command → (m.stream ≡ 0 → ⊥) → m.place ≡ None
    → HasParts c (after_cell rules log command body)
placeless_sendme_parts c message rules log command body m b has is some none =
    unmoved_parts c message rules log command body m b has
    (of_sendme rules log m is ∙ placeless_sendme_does rules log m some none)
    (streams_window message rules log command body m b is some)
    (placeless_places c.places message rules log command body m b (ap (λ k. k == begin_command) is) none has.places)

raised : (may : Bool) (answer : CreditAnswer) → answer ≡ (if may then CreditAnswer.Raised else CreditAnswer.TooMuch)
    → answer ≡ CreditAnswer.Raised → may ≡ true
raised true answer by is = refl
raised false answer by is = (let never : ◌≡◌ {A = CreditAnswer} CreditAnswer.TooMuch CreditAnswer.Raised = sym by ∙ is in cc)

too_much : (may : Bool) (answer : CreditAnswer) → answer ≡ (if may then CreditAnswer.Raised else CreditAnswer.TooMuch)
    → answer ≡ CreditAnswer.TooMuch → may ≡ false
too_much false answer by is = refl
too_much true answer by is = (let never : ◌≡◌ {A = CreditAnswer} CreditAnswer.Raised CreditAnswer.TooMuch = sym by ∙ is in cc)

pub raised_does : (rules : Rules) (s : PlacesState) (log : Log) (m : Message) (place : ℕ) (h : PlacedStream)
    (answer : CreditAnswer)
    → ArePlaces s log → held_at s place ≡ Some h → (m.stream ≡ 0 → ⊥) → m.place ≡ Some h.serial
    → answer ≡ (if may_credit h then CreditAnswer.Raised else CreditAnswer.TooMuch) → answer ≡ CreditAnswer.Raised
    → sendme_effects rules log m ≡ no_effects
raised_does rules s log m place h answer are holds some named by is =
    let test : nat_lt (stream_start + stream_packaged log h.serial) (stream_grant log h.serial + stream_step) ≡ false =
    not-true (nat_lt (stream_start + stream_packaged log h.serial) (stream_grant log h.serial + stream_step))
    (sym (may_credit_by_the_log s log place h are holds) ∙ raised (may_credit h) answer by is) in
    stream_sendme_does rules log m some ∙ ap (λ p. stream_sendme_at log p) named
    ∙ ap (λ (b : Bool). if b then closing 1 else no_effects) test

pub too_much_does : (rules : Rules) (s : PlacesState) (log : Log) (m : Message) (place : ℕ) (h : PlacedStream)
    (answer : CreditAnswer)
    → ArePlaces s log → held_at s place ≡ Some h → (m.stream ≡ 0 → ⊥) → m.place ≡ Some h.serial
    → answer ≡ (if may_credit h then CreditAnswer.Raised else CreditAnswer.TooMuch) → answer ≡ CreditAnswer.TooMuch
    → sendme_effects rules log m ≡ closing 1
too_much_does rules s log m place h answer are holds some named by is =
    let test : nat_lt (stream_start + stream_packaged log h.serial) (stream_grant log h.serial + stream_step) ≡ true =
    unnot (nat_lt (stream_start + stream_packaged log h.serial) (stream_grant log h.serial + stream_step))
    (sym (may_credit_by_the_log s log place h are holds) ∙ too_much (may_credit h) answer by is) in
    stream_sendme_does rules log m some ∙ ap (λ p. stream_sendme_at log p) named
    ∙ ap (λ (b : Bool). if b then closing 1 else no_effects) test

credited_serial : (h : PlacedStream) (may : Bool) → h.serial ≡ (if may then record h { credits = h.credits + 1 } else h).serial
credited_serial h true = refl
credited_serial h false = refl

pub raised_parts : (c : Circuit) (new : PlacesState) (message : CodeMessage) (rules : Rules) (log : Log) (command : ℕ)
    (body : List ℕ) (m : Message) (place : ℕ) (h : PlacedStream) (answer : CreditAnswer)
    → IsBrought message log command body m → HasParts c log → m.command ≡ sendme_command → (m.stream ≡ 0 → ⊥)
    → m.place ≡ Some h.serial → held_at c.places place ≡ Some h
    → answer ≡ (if may_credit h then CreditAnswer.Raised else CreditAnswer.TooMuch) → answer ≡ CreditAnswer.Raised
    → new ≡ with_held c.places place (Some (after_credit h))
    → HasParts (record c { places = new }) (after_cell rules log command body)
raised_parts c new message rules log command body m place h answer b has is some named holds by raises becomes =
    let given =
    does message rules log command body m b ∙ of_sendme rules log m is
    ∙ raised_does rules c.places log m place h answer has.places holds some named by raises in
    let are : ArePlaces new (after_cell rules log command body) =
    subst (λ s. ArePlaces s (after_cell rules log command body)) (sym becomes)
    (sendme_credits c.places rules log (Forward command body) m place h has.places (found message log command body m b) is
    (above_zero m.stream some) named holds) in
    let keeps : KeepsStreams c.places new =
    subst (λ s. KeepsStreams c.places s) (sym becomes)
    (changed_streams c.places place h (Some (after_credit h)) holds
    (same_held h (after_credit h) (sym (credited_serial h (may_credit h))))) in
    cell_parts c (record c { places = new }) rules log command body no_effects has given refl refl refl refl refl refl
    (none_packaged c.packager log has.packager)
    (stands_still c.windows log (after_cell rules log command body) has.windows
    (streams_window message rules log command body m b is some)) are keeps
