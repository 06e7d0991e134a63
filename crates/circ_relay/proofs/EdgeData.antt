-- What the edge reports of a stream's DATA, and that its place was freed, by the circuit's log.
use Rattle.std.proofs.Common.{◌≡◌, ℕ, ◌+◌, ◌%◌, ◌==◌, ◌<◌, List, ◌∷◌, ◌++◌, [], Bool, true, false, Some, None, if◌then◌else◌, unwrap_or, refl, sym, ap, subst, ◌∙◌, arith}
use Rattle.std.proofs.lemmas.Bool.Decides.{nat_tests}
use Rattle.tr_io.specs.declared.names.StreamKey.{StreamKey}
use Rattle.tor_spec.specs.RelayCell.{relay_body, data_command, sendme_command}
use Rattle.tor_spec.specs.CircuitWindow.{CircuitWindow, after_packaging}
use Rattle.sendme_windows.specs.WindowsState.{KeepsLimits, WindowsState, HasCountsOf}
use Rattle.stream_edge.specs.declared.placed_stream.PlacedStream.{PlacedStream}
use Rattle.stream_edge.specs.PlacesState.{PlacesState, with_held}
use Rattle.stream_edge.specs.Streams.{after_packaging as one_packaged, after_draining, may_drain, sendme_due}
use Rattle.circuit_model.specs.Events.{Event}
use Rattle.circuit_model.specs.declared.event.Event.TheVariants.{Data, Drained, Freed}
use Rattle.circuit_model.specs.Rules.{Rules}
use Rattle.circuit_model.specs.Log.{Log, StreamKey as ModelKey, Effects, no_effects, is_closed}
use Rattle.circuit_model.specs.Packaged.{own_bodies, finished, back_digest, package_of}
use Rattle.circuit_model.specs.Effects.{open_effects, effects_after}
use Rattle.circuit_model.specs.Words.{entry_after, log, effects}
use Rattle.circ_relay.specs.declared.circuit.Circuit.{Circuit}
use Rattle.circ_relay.specs.CircuitOfLog.{IsAt, IsCircuit}
use Rattle.circ_relay.specs.Packaging.{IsPackager, IsPackagedNext}
use Rattle.circ_relay.specs.PlacesOfLog.{ArePlaces, IsOfLog}
use Rattle.circ_relay.specs.WindowOfLog.{window_of}
use Rattle.circ_relay.proofs.Doing.{bytes_do, drained_does}
use Rattle.circ_relay.proofs.Longer.{none_packaged, same_held, none_held, step_goes_on}
use Rattle.circ_relay.proofs.QuietEvents.{drained_leaves, freed_leaves}
use Rattle.circ_relay.proofs.Reports.{bytes_package, drained_drains, freed_frees}
use Rattle.circ_relay.proofs.WindowByEvent.{edge_data_moves}
use Rattle.circ_relay.proofs.Edges.{named, packs, IsPlainReport, report_is_aside, packager_after_report, report_goes_on, plain_packs, plain_nothing}

may_drain_is : (stream : PlacedStream) → stream.drained < stream.accepted → may_drain stream ≡ true
may_drain_is stream undrained = grind (arith, nat_tests)

due_is : (stream : PlacedStream) (due : Bool) → may_drain stream ≡ true → due ≡ unwrap_or (sendme_due stream) false
    → sendme_due stream ≡ Some due
due_is stream due may is =
    let test : sendme_due stream ≡ Some (((stream.drained + 1) % 50) == 0) = rw may refl in
    test ∙ ap (λ (b : Bool). Some b) (sym (is ∙ ap (λ o. unwrap_or o false) test))

pub drained_packs : (c : Circuit) (rules : Rules) (h : List Event) (key : StreamKey) (place : ℕ) (stream : PlacedStream)
    (due : Bool)
    → IsAt c key place stream → stream.drained < stream.accepted → due ≡ unwrap_or (sendme_due stream) false
    → IsCircuit c rules h
    → effects rules h (Drained key.serial)
    ≡ (if due then packs (log rules h) (relay_body sendme_command key.id []) else no_effects)
drained_packs c rules h key place stream due at undrained due_by is =
    let names = named c key place stream at in
    ap (λ n. effects rules h (Drained n)) (sym names.1)
    ∙ drained_does c.places rules (log rules h) place stream due is.parts.places is.unclosed at.held
    (due_is stream due (may_drain_is stream undrained) due_by)
    ∙ ap (λ id. if due then packs (log rules h) (relay_body sendme_command id []) else no_effects) names.0

drained_serial : (stream : PlacedStream) → may_drain stream ≡ true → (after_draining stream).serial ≡ stream.serial
drained_serial stream may = rw may refl

pub drained_goes_on : (c new : Circuit) (rules : Rules) (h : List Event) (key : StreamKey) (place : ℕ) (stream : PlacedStream)
    (x : Effects)
    → IsAt c key place stream → stream.drained < stream.accepted
    → new ≡ record c { packager = new.packager; places = with_held c.places place (Some (after_draining stream)) }
    → IsPlainReport rules (log rules h) (Drained key.serial) x → IsPackagedNext new.packager (log rules h) x.back
    → IsCircuit c rules h → IsCircuit new rules (Drained key.serial ∷ h)
drained_goes_on c new rules h key place stream x at undrained rest report next is =
    let names = named c key place stream at in
    report_goes_on c new rules h (Drained key.serial) x place stream (Some (after_draining stream)) record {
      before = is;
      is = report;
      at = at.held;
      same = same_held stream (after_draining stream) (drained_serial stream (may_drain_is stream undrained));
      rest = rest;
      packager = packager_after_report new.packager rules (log rules h) (Drained key.serial) x report next;
      leaves = drained_leaves rules (log rules h) key.serial;
      places =
          subst (λ n. ArePlaces (with_held c.places place (Some (after_draining stream)))
          (entry_after rules (log rules h) (Drained n) ∷ log rules h)) names.1
          (drained_drains c.places rules (log rules h) place stream is.parts.places at.held (may_drain_is stream undrained));
    }

pub due_goes_on : (c new : Circuit) (rules : Rules) (h : List Event) (key : StreamKey) (place : ℕ) (stream : PlacedStream)
    (body : List ℕ)
    → IsAt c key place stream → stream.drained < stream.accepted
    → new ≡ record c { packager = new.packager; places = with_held c.places place (Some (after_draining stream)) }
    → (IsPackager c.packager (log rules h) → IsPackagedNext new.packager (log rules h) (Some (finished (log rules h) body)))
    → effects rules h (Drained key.serial) ≡ packs (log rules h) body
    → IsCircuit c rules h → IsCircuit new rules (Drained key.serial ∷ h)
due_goes_on c new rules h key place stream body at undrained rest next gives is =
    drained_goes_on c new rules h key place stream (packs (log rules h) body) at undrained rest
    (record { report = refl; gives = gives; plain = plain_packs (log rules h) body; close = refl }) (next is.parts.packager) is

pub undue_goes_on : (c new : Circuit) (rules : Rules) (h : List Event) (key : StreamKey) (place : ℕ) (stream : PlacedStream)
    → IsAt c key place stream → stream.drained < stream.accepted
    → new ≡ record c { places = with_held c.places place (Some (after_draining stream)) }
    → effects rules h (Drained key.serial) ≡ no_effects
    → IsCircuit c rules h → IsCircuit new rules (Drained key.serial ∷ h)
undue_goes_on c new rules h key place stream at undrained rest gives is =
    let same : new.packager ≡ c.packager = ap (λ (y : Circuit). y.packager) rest in
    let after : PlacesState = with_held c.places place (Some (after_draining stream)) in
    drained_goes_on c new rules h key place stream no_effects at undrained
    (rest ∙ (λ i. record c { packager = sym same i; places = after }))
    (record { report = refl; gives = gives; plain = plain_nothing; close = refl })
    (none_packaged new.packager (log rules h) (subst (λ s. IsPackager s (log rules h)) (sym same) is.parts.packager)) is

-- Freed.

freed-gives : (rules : Rules) (log : Log) (serial : ℕ) → is_closed log ≡ false
    → effects_after rules log (Freed serial) ≡ no_effects
unfolding open_effects
freed-gives rules log serial live = rw live refl

pub freed_goes_on : (c new : Circuit) (rules : Rules) (h : List Event) (key : StreamKey) (place : ℕ) (stream : PlacedStream)
    → IsAt c key place stream
    → new ≡ record c { places = with_held c.places place None }
    → IsCircuit c rules h → IsCircuit new rules (Freed key.serial ∷ h)
freed_goes_on c new rules h key place stream at rest is =
    let names = named c key place stream at in
    let same : new.packager ≡ c.packager = ap (λ (y : Circuit). y.packager) rest in
    let report : IsPlainReport rules (log rules h) (Freed key.serial) no_effects =
    record {
      report = refl;
      gives = freed-gives rules (log rules h) key.serial is.unclosed;
      plain = plain_nothing;
      close =
          refl;
    } in
    report_goes_on c new rules h (Freed key.serial) no_effects place stream None record {
      before = is;
      is = report;
      at = at.held;
      same = none_held stream;
      rest = rest ∙ (λ i. record c { packager = sym same i; places = with_held c.places place None });
      packager = packager_after_report new.packager rules (log rules h) (Freed key.serial) no_effects report
          (none_packaged new.packager (log rules h) (subst (λ s. IsPackager s (log rules h)) (sym same) is.parts.packager));
      leaves = freed_leaves rules (log rules h) key.serial;
      places =
          subst (λ n. ArePlaces (with_held c.places place None) (entry_after rules (log rules h) (Freed n) ∷ log rules h)) names.1
          (freed_frees c.places rules (log rules h) place stream is.parts.places at.held);
    }

-- Bytes.

pub data_packs : (c : Circuit) (rules : Rules) (h : List Event) (key : StreamKey) (place : ℕ) (stream : PlacedStream)
    (bytes body : List ℕ)
    → IsAt c key place stream → body ≡ relay_body data_command key.id bytes
    → IsCircuit c rules h → effects rules h (Data key.serial bytes) ≡ packs (log rules h) body
data_packs c rules h key place stream bytes body at body_is is =
    let names = named c key place stream at in
    ap (λ n. effects rules h (Data n bytes)) (sym names.1)
    ∙ bytes_do c.places rules (log rules h) place stream bytes is.parts.places is.unclosed at.held
    ∙ ap (λ id. packs (log rules h) (relay_body data_command id bytes)) names.0
    ∙ ap (packs (log rules h)) (sym body_is)

pub data_windows : (c : Circuit) (state : WindowsState) (rules : Rules) (h : List Event) (key : StreamKey) (place : ℕ)
    (stream : PlacedStream) (bytes body sent digest : List ℕ)
    → IsAt c key place stream → body ≡ relay_body data_command key.id bytes → sent ≡ finished (log rules h) body
    → digest ≡ back_digest (log rules h) (own_bodies (log rules h) ++ sent ∷ [])
    → ((w : CircuitWindow) → HasCountsOf c.windows w → HasCountsOf state (after_packaging w digest))
    → IsCircuit c rules h → HasCountsOf state (window_of (log rules (Data key.serial bytes ∷ h)))
data_windows c state rules h key place stream bytes body sent digest at body_is sent_is digest_is stands is =
    let names = named c key place stream at in
    let of_log : IsOfLog (log rules h) stream = is.parts.places.streams place stream at.held in
    let id : key.id ≡ of_log.place.key.stream = sym (ap (λ (k : ModelKey). k.stream) of_log.key ∙ names.0) in
    let body_of_log : body ≡ relay_body data_command of_log.place.key.stream bytes =
    body_is ∙ ap (λ n. relay_body data_command n bytes) id in
    let digest_of_log : digest ≡ back_digest (log rules h)
    (own_bodies (log rules h) ++ package_of (log rules h) data_command of_log.place.key.stream bytes ∷ []) =
    digest_is
    ∙ ap (λ (b : List ℕ). back_digest (log rules h) (own_bodies (log rules h) ++ b ∷ []))
    (sent_is ∙ ap (finished (log rules h)) body_of_log) in
    let moved : window_of (log rules (Data key.serial bytes ∷ h)) ≡ after_packaging (window_of (log rules h)) digest =
    ap (λ n. window_of (log rules (Data n bytes ∷ h))) (sym names.1)
    ∙ edge_data_moves rules (log rules h) stream.serial bytes of_log.place is.unclosed of_log.found
    ∙ ap (after_packaging (window_of (log rules h))) (sym digest_of_log) in
    subst (λ w. HasCountsOf state w) (sym moved) (stands (window_of (log rules h)) is.parts.windows)

pub data_goes_on : (c new : Circuit) (rules : Rules) (h : List Event) (key : StreamKey) (place : ℕ) (stream : PlacedStream)
    (bytes body : List ℕ)
    → IsAt c key place stream
    → new ≡ record c {
      packager = new.packager;
      windows = new.windows;
      places = with_held c.places place (Some (one_packaged stream));
    }
    → (IsPackager c.packager (log rules h) → IsPackagedNext new.packager (log rules h) (Some (finished (log rules h) body)))
    → effects rules h (Data key.serial bytes) ≡ packs (log rules h) body
    → KeepsLimits c.windows new.windows
    → HasCountsOf new.windows (window_of (log rules (Data key.serial bytes ∷ h)))
    → IsCircuit c rules h → IsCircuit new rules (Data key.serial bytes ∷ h)
data_goes_on c new rules h key place stream bytes body at rest next gives limits windows is =
    let names = named c key place stream at in
    let x : Effects = packs (log rules h) body in
    let report : IsPlainReport rules (log rules h) (Data key.serial bytes) x =
    record { report = refl; gives = gives; plain = plain_packs (log rules h) body; close = refl } in
    step_goes_on c new rules h (Data key.serial bytes) place stream (Some (one_packaged stream)) record {
      before = is;
      aside = report_is_aside rules (log rules h) (Data key.serial bytes) x report;
      early = refl;
      close = ap (λ (outcome : Effects). outcome.close) gives;
      at = at.held;
      same = same_held stream (one_packaged stream) refl;
      rest = rest;
      limits = limits;
      packager = packager_after_report new.packager rules (log rules h) (Data key.serial bytes) x report (next is.parts.packager);
      windows = windows;
      places =
          subst (λ n. ArePlaces (with_held c.places place (Some (one_packaged stream)))
          (entry_after rules (log rules h) (Data n bytes) ∷ log rules h)) names.1
          (bytes_package c.places rules (log rules h) place stream bytes is.parts.places at.held);
    }
