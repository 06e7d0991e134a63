-- What the edge reports of a stream, by the circuit's log.
use Rattle.std.proofs.Common.{◌≡◌, ℕ, List, ◌∷◌, [], true, false, Option, Some, None, position, slice_index_or, refl, sym, ap, subst, ◌∙◌}
use Rattle.tr_io.specs.declared.names.Dest.{Dest}
use Rattle.tr_io.specs.declared.names.StreamKey.{StreamKey}
use Rattle.tor_spec.specs.Connected.{connected_payload}
use Rattle.tor_spec.specs.RelayCell.{relay_body, connected_command, end_command}
use Rattle.tor_spec.specs.Extend.{Address}
use Rattle.sendme_windows.specs.WindowsState.{HasCountsOf}
use Rattle.stream_edge.specs.declared.placed_stream.PlacedStream.{PlacedStream}
use Rattle.stream_edge.specs.declared.placed_stream.Phase.TheVariants.{Reaching, Joined, Ending}
use Rattle.stream_edge.specs.PlacesState.{held_at, with_held}
use Rattle.stream_edge.specs.Streams.{is_stream}
use Rattle.circuit_model.specs.Events.{Event}
use Rattle.circuit_model.specs.declared.event.Event.TheVariants.{Born, Forward, Backward, Connected, Ended, Linked, Answered}
use Rattle.circuit_model.specs.Rules.{Rules}
use Rattle.circuit_model.specs.Log.{Log, StreamKey as ModelKey, Effects, no_effects}
use Rattle.circuit_model.specs.declared.effects.Order.TheVariants.{Close}
use Rattle.circuit_model.specs.Opened.{keys_in}
use Rattle.circuit_model.specs.Packaged.{finished, packaged_by}
use Rattle.circuit_model.specs.NextHop.{hop_by, hop_by_effects}
use Rattle.circuit_model.specs.Received.{is_early}
use Rattle.circuit_model.specs.Streams.{time_to_live}
use Rattle.circuit_model.specs.Effects.{effects_after}
use Rattle.circuit_model.specs.Words.{entry_after, log, effects}
use Rattle.circ_relay.specs.declared.circuit.Circuit.{Circuit}
use Rattle.circ_relay.specs.CircuitOfLog.{IsAt, IsCircuit}
use Rattle.circ_relay.specs.Packaging.{PackagerState, IsPackager, IsPackagedNext}
use Rattle.circ_relay.specs.PlacesOfLog.{ArePlaces, IsOfLog, stream_key, is_edge_report}
use Rattle.circ_relay.specs.Values.{address_of, key_of}
use Rattle.circ_relay.specs.WindowOfLog.{window_of}
use Rattle.circ_relay.proofs.Doing.{connected_does, ended_does}
use Rattle.circ_relay.proofs.Lists.{same_some}
use Rattle.circ_relay.proofs.Longer.{IsAside, IsPlain, aside_by, packager_after, stands_still, same_held, same_limits, step_goes_on}
use Rattle.circ_relay.proofs.NamedStreams.{has_name, passes}
use Rattle.circ_relay.proofs.QuietEvents.{connected_leaves, ended_leaves}
use Rattle.circ_relay.proofs.Reports.{connected_joins}
use Rattle.circ_relay.proofs.Closes.{ended_ends}

-- The stream that a name finds.

pub named : (c : Circuit) (key : StreamKey) (place : ℕ) (stream : PlacedStream) → IsAt c key place stream
    → (stream.stream ≡ key.id) × (stream.serial ≡ key.serial)
named c key place stream at =
    has_name stream key.id key.serial (ap (is_stream key.id key.serial) (sym at.held) ∙ passes c key place at.first)

-- The place at which it is found.
pub at_found : (c : Circuit) (key : StreamKey) (place found : ℕ) (stream : PlacedStream) → IsAt c key place stream
    → position (is_stream key.id key.serial) c.places.streams ≡ Some found → IsAt c key found stream
at_found c key place found stream at first = record {
  first = first;
  held = subst (λ p. held_at c.places p ≡ Some stream) (same_some place found (sym at.first ∙ first)) at.held;
}

-- Its name in the log is that of its key.
name_is : (c : Circuit) (key : StreamKey) (place : ℕ) (stream : PlacedStream) → IsAt c key place stream
    → stream_key stream ≡ key_of key
name_is c key place stream at =
    let names = named c key place stream at in
    (λ i. record { stream = names.0 i; serial = names.1 i })

-- What an event gives, and that it leaves the rest.

abbrev pub packs : Log → List ℕ → Effects
packs log body = record no_effects { back = Some (finished log body) }

hop_of_report : (e : Event) (x : Effects) → is_edge_report e ≡ true → hop_by e x ≡ hop_by_effects x
hop_of_report Linked x is = cc
hop_of_report (Answered payload) x is = cc
hop_of_report e x is = refl

keys_of_report : (e : Event) → is_edge_report e ≡ true → keys_in e ≡ None
keys_of_report (Born reply keys pad) is = cc
keys_of_report e is = refl

early_of_report : (e : Event) → is_edge_report e ≡ true → is_early e ≡ false
early_of_report (Forward command body) is = cc
early_of_report e is = refl

packaged_by_report : (e : Event) (back : Option (List ℕ)) → is_edge_report e ≡ true → packaged_by e back ≡ back
packaged_by_report (Backward body) back is = cc
packaged_by_report e back is = refl

-- What a report of the edge gives, where it is plain.
pub record IsPlainReport (rules : Rules) (log : Log) (e : Event) (x : Effects) : Type 0 where
  pub report : is_edge_report e ≡ true
  pub gives : effects_after rules log e ≡ x
  pub plain : IsPlain x
  pub close : x.close ≡ None

pub report_is_aside : (rules : Rules) (log : Log) (e : Event) (x : Effects) → IsPlainReport rules log e x
    → IsAside (entry_after rules log e)
report_is_aside rules log e x is =
    aside_by (entry_after rules log e) x (keys_of_report e is.report) (hop_of_report e (effects_after rules log e) is.report)
    is.gives is.plain

-- The running digest behind one body more, or none.
pub packager_after_report : (state : PackagerState) (rules : Rules) (log : Log) (e : Event) (x : Effects)
    → IsPlainReport rules log e x
    → IsPackagedNext state log x.back → IsPackager state (entry_after rules log e ∷ log)
packager_after_report state rules log e x is next =
    packager_after state (entry_after rules log e) log x.back (keys_of_report e is.report)
    (packaged_by_report e (effects_after rules log e).back is.report ∙ ap (λ (outcome : Effects). outcome.back) is.gives) next

-- A report that leaves the window.

pub record IsReported (c new : Circuit) (rules : Rules) (h : List Event) (e : Event) (x : Effects) (place : ℕ) (g : PlacedStream)
    (holds : Option PlacedStream) : Type 0 where
  pub before : IsCircuit c rules h
  pub is : IsPlainReport rules (log rules h) e x
  pub at : held_at c.places place ≡ Some g
  pub same : (y : PlacedStream) → holds ≡ Some y → y.serial ≡ g.serial
  pub rest : new ≡ record c { packager = new.packager; places = with_held c.places place holds }
  pub packager : IsPackager new.packager (log rules (e ∷ h))
  pub leaves : window_of (log rules (e ∷ h)) ≡ window_of (log rules h)
  pub places : ArePlaces (with_held c.places place holds) (log rules (e ∷ h))

pub report_goes_on : (c new : Circuit) (rules : Rules) (h : List Event) (e : Event) (x : Effects) (place : ℕ) (g : PlacedStream)
    (holds : Option PlacedStream)
    → IsReported c new rules h e x place g holds → IsCircuit new rules (e ∷ h)
report_goes_on c new rules h e x place g holds r =
    let same_windows : new.windows ≡ c.windows = ap (λ (y : Circuit). y.windows) r.rest in
    step_goes_on c new rules h e place g holds record {
      before = r.before;
      aside = report_is_aside rules (log rules h) e x r.is;
      early = early_of_report e r.is.report;
      close = ap (λ (outcome : Effects). outcome.close) r.is.gives ∙ r.is.close;
      at = r.at;
      same = r.same;
      rest =
          r.rest
          ∙ (λ i. record c { packager = new.packager; windows = sym same_windows i; places = with_held c.places place holds });
      limits = same_limits c.windows new.windows same_windows;
      packager = r.packager;
      windows = subst (λ w. HasCountsOf w (window_of (log rules (e ∷ h)))) (sym same_windows)
          (stands_still c.windows (log rules h) (log rules (e ∷ h)) r.before.parts.windows r.leaves);
      places = r.places;
    }

pub plain_packs : (log : Log) (body : List ℕ) → IsPlain (packs log body)
plain_packs log body = record { dial = refl; cut = refl; makes_none = refl }

pub plain_nothing : IsPlain no_effects
plain_nothing = record { dial = refl; cut = refl; makes_none = refl }

-- Connected.

pub connected_packs : (c : Circuit) (rules : Rules) (h : List Event) (key : StreamKey) (place : ℕ) (stream : PlacedStream)
    (none : Dest) (body : List ℕ)
    → IsAt c key place stream
    → body ≡ relay_body connected_command key.id (connected_payload (slice_index_or c.addresses place none).ip 60)
    → IsCircuit c rules h → effects rules h (Connected key.serial) ≡ packs (log rules h) body
connected_packs c rules h key place stream none body at body_is is =
    let names = named c key place stream at in
    let of_log : IsOfLog (log rules h) stream = is.parts.places.streams place stream at.held in
    let to : of_log.place.to ≡ address_of (slice_index_or c.addresses place none) =
    is.parts.addresses place stream of_log.place none at.held of_log.found in
    ap (λ n. effects rules h (Connected n)) (sym names.1)
    ∙ connected_does c.places rules (log rules h) place stream of_log.place is.parts.places is.unclosed at.held of_log.found
    ∙ ap (λ id. packs (log rules h) (relay_body connected_command id (connected_payload of_log.place.to.ip time_to_live))) names.0
    ∙ ap (λ (a : Address). packs (log rules h) (relay_body connected_command key.id (connected_payload a.ip time_to_live))) to
    ∙ ap (packs (log rules h)) (sym body_is)

pub connected_goes_on : (c new : Circuit) (rules : Rules) (h : List Event) (key : StreamKey) (place : ℕ) (stream : PlacedStream)
    (body : List ℕ)
    → IsAt c key place stream → stream.phase ≡ Reaching
    → new ≡ record c { packager = new.packager; places = with_held c.places place (Some (record stream { phase = Joined })) }
    → (IsPackager c.packager (log rules h) → IsPackagedNext new.packager (log rules h) (Some (finished (log rules h) body)))
    → effects rules h (Connected key.serial) ≡ packs (log rules h) body
    → IsCircuit c rules h → IsCircuit new rules (Connected key.serial ∷ h)
connected_goes_on c new rules h key place stream body at reaching rest next gives is =
    let names = named c key place stream at in
    let report : IsPlainReport rules (log rules h) (Connected key.serial) (packs (log rules h) body) =
    record { report = refl; gives = gives; plain = plain_packs (log rules h) body; close = refl } in
    let joined : PlacedStream = record stream { phase = Joined } in
    report_goes_on c new rules h (Connected key.serial) (packs (log rules h) body) place stream (Some joined) record {
      before = is;
      is = report;
      at = at.held;
      same = same_held stream joined refl;
      rest = rest;
      packager =
          packager_after_report new.packager rules (log rules h) (Connected key.serial) (packs (log rules h) body) report
          (next is.parts.packager);
      leaves = connected_leaves rules (log rules h) key.serial;
      places =
          subst (λ n. ArePlaces (with_held c.places place (Some joined))
          (entry_after rules (log rules h) (Connected n) ∷ log rules h)) names.1
          (connected_joins c.places rules (log rules h) place stream is.parts.places at.held reaching);
    }

-- Ended.

abbrev pub ends : Log → ModelKey → ℕ → List ℕ → Effects
ends log key reason body = record (packs log body) { edge = Some (Close key reason) }

pub ended_packs : (c : Circuit) (rules : Rules) (h : List Event) (key : StreamKey) (place : ℕ) (stream : PlacedStream)
    (reason : ℕ) (body : List ℕ)
    → IsAt c key place stream → body ≡ relay_body end_command key.id (reason ∷ [])
    → IsCircuit c rules h → effects rules h (Ended key.serial reason) ≡ ends (log rules h) (key_of key) reason body
ended_packs c rules h key place stream reason body at body_is is =
    let names = named c key place stream at in
    ap (λ n. effects rules h (Ended n reason)) (sym names.1)
    ∙ ended_does c.places rules (log rules h) place stream reason is.parts.places is.unclosed at.held
    ∙ ap (λ (k : ModelKey). ends (log rules h) k reason (relay_body end_command k.stream (reason ∷ [])))
    (name_is c key place stream at)
    ∙ ap (ends (log rules h) (key_of key) reason) (sym body_is)

pub ended_goes_on : (c new : Circuit) (rules : Rules) (h : List Event) (key : StreamKey) (place : ℕ) (stream : PlacedStream)
    (reason : ℕ) (body : List ℕ)
    → IsAt c key place stream
    → new ≡ record c { packager = new.packager; places = with_held c.places place (Some (record stream { phase = Ending })) }
    → (IsPackager c.packager (log rules h) → IsPackagedNext new.packager (log rules h) (Some (finished (log rules h) body)))
    → effects rules h (Ended key.serial reason) ≡ ends (log rules h) (key_of key) reason body
    → IsCircuit c rules h → IsCircuit new rules (Ended key.serial reason ∷ h)
ended_goes_on c new rules h key place stream reason body at rest next gives is =
    let names = named c key place stream at in
    let x : Effects = ends (log rules h) (key_of key) reason body in
    let report : IsPlainReport rules (log rules h) (Ended key.serial reason) x =
    record { report = refl; gives = gives; plain = record { dial = refl; cut = refl; makes_none = refl }; close = refl } in
    let ended : PlacedStream = record stream { phase = Ending } in
    report_goes_on c new rules h (Ended key.serial reason) x place stream (Some ended) record {
      before = is;
      is = report;
      at = at.held;
      same = same_held stream ended refl;
      rest = rest;
      packager =
          packager_after_report new.packager rules (log rules h) (Ended key.serial reason) x report (next is.parts.packager);
      leaves = ended_leaves rules (log rules h) key.serial reason;
      places =
          subst (λ n. ArePlaces (with_held c.places place (Some ended))
          (entry_after rules (log rules h) (Ended n reason) ∷ log rules h)) names.1
          (ended_ends c.places rules (log rules h) place stream reason is.parts.places is.unclosed at.held);
    }
