-- What one more entry leaves of a circuit.
use Rattle.std.proofs.Common.{◌≡◌, ℕ, ◌+◌, ◌==◌, ◌||◌, List, ◌∷◌, Bool, true, false, Option, Some, None, if◌then◌else◌, is_some, slice_index_or, refl, sym, ap, subst, ◌∙◌}
use Rattle.std.specs.Option.{unwrap_or, option_or}
use Rattle.tr_io.specs.declared.names.Dest.{Dest}
use Rattle.sendme_windows.specs.WindowsState.{KeepsLimits, HasCountsOf, WindowsState}
use Rattle.stream_edge.specs.declared.placed_stream.PlacedStream.{PlacedStream}
use Rattle.stream_edge.specs.PlacesState.{PlacesState, held_at, with_held}
use Rattle.stream_edge.proofs.Holding.{held_there, held_elsewhere}
use Rattle.circuit_model.specs.Events.{Event}
use Rattle.circuit_model.specs.declared.event.Event.TheVariants.{Born, Forward, Backward, Connected, Data, Ended, Drained, Freed, Linked, Answered, Failed}
use Rattle.circuit_model.specs.Rules.{Rules}
use Rattle.circuit_model.specs.Log.{Entry, Log, Effects, is_closed, newest, pushed}
use Rattle.circuit_model.specs.Opened.{born_pad, keys_in, pad_in}
use Rattle.circuit_model.specs.Packaged.{packaged_by, own_bodies}
use Rattle.circuit_model.specs.Extending.{accepted_request, linked_effects, creating}
use Rattle.circuit_model.specs.declared.next_hop.NextHop.{NextHop}
use Rattle.circuit_model.specs.declared.next_hop.NextHop.TheVariants.{Absent}
use Rattle.circuit_model.specs.NextHop.{hop_by, hop_by_effects, next_hop}
use Rattle.circuit_model.specs.Places.{Place, place_of, place_at}
use Rattle.circuit_model.specs.Received.{is_early, early_count}
use Rattle.circuit_model.specs.Words.{entry_after, log}
use Rattle.circ_relay.specs.declared.circuit.Circuit.{Circuit}
use Rattle.circ_relay.specs.CircuitOfLog.{sends_create2, AreAddresses, HasParts, IsCircuit, IsMadeBy}
use Rattle.circ_relay.specs.Packaging.{PackagerState, IsPackager, IsPackagedNext, IsSameCircuit}
use Rattle.circ_relay.specs.PlacesOfLog.{ArePlaces}
use Rattle.circ_relay.specs.Values.{address_of}
use Rattle.circ_relay.specs.WindowOfLog.{window_of}
use Rattle.circ_relay.proofs.Changing.{same_by, apart_by}
use Rattle.circ_relay.proofs.Lists.{same_some}
use Rattle.circ_relay.proofs.Telling.{place_stays}
use Rattle.circ_relay.proofs.WindowMoves.{keys_stay}

-- The log's words.

pub unclosed_after : (entry : Entry) (log : Log) → entry.effects.close ≡ None → is_closed log ≡ false
    → is_closed (entry ∷ log) ≡ false
unclosed_after entry log none unclosed = ap (λ (close : Option ℕ). is_some close || is_closed log) none ∙ unclosed

early_after : (entry : Entry) (log : Log) → is_early entry.event ≡ false → early_count (entry ∷ log) ≡ early_count log
early_after entry log other = ap (λ (is : Bool). if is then early_count log + 1 else early_count log) other

pub hop_after : (entry : Entry) (log : Log) → hop_by entry.event entry.effects ≡ None → next_hop (entry ∷ log) ≡ next_hop log
hop_after entry log none =
    ap (λ (x : Option NextHop). unwrap_or (option_or x (newest (λ (entry : Entry). hop_by entry.event entry.effects) log)) Absent)
    none

no_request : (entry : Entry) → entry.effects.dial ≡ None → accepted_request entry ≡ None
no_request entry none = rw none refl

pub request_after : (entry : Entry) (log : Log) → entry.effects.dial ≡ None → linked_effects (entry ∷ log) ≡ linked_effects log
request_after entry log none = ap (λ x. creating (option_or x (newest accepted_request log))) (no_request entry none)

-- What the circuit was opened with.

no_pad : (event : Event) → keys_in event ≡ None → pad_in event ≡ None
no_pad (Born reply keys pad) none = cc
no_pad (Forward command body) none = refl
no_pad (Backward body) none = refl
no_pad (Connected serial) none = refl
no_pad (Data serial bytes) none = refl
no_pad (Ended serial reason) none = refl
no_pad (Drained serial) none = refl
no_pad (Freed serial) none = refl
no_pad Linked none = refl
no_pad (Answered payload) none = refl
no_pad Failed none = refl

pub same_circuit : (entry : Entry) (log : Log) → keys_in entry.event ≡ None → IsSameCircuit log (entry ∷ log)
same_circuit entry log opens_none = record {
  keys = keys_stay entry log opens_none;
  pad = ap (λ (pad : Option (List ℕ)). option_or pad (born_pad log)) (no_pad entry.event opens_none);
}

-- What packages, behind one body more, or none.

pub packager_after : (state : PackagerState) (entry : Entry) (log : Log) (back : Option (List ℕ)) → keys_in entry.event ≡ None
    → packaged_by entry.event entry.effects.back ≡ back → IsPackagedNext state log back → IsPackager state (entry ∷ log)
packager_after state entry log back opens_none packs next =
    next (entry ∷ log) (ap (pushed (own_bodies log)) packs) (same_circuit entry log opens_none)

pub none_packaged : (state : PackagerState) (log : Log) → IsPackager state log → IsPackagedNext state log None
none_packaged state log is = λ longer more same. record {
  digest = rw (more, same.keys) is.digest;
  key = is.key ∙ sym same.pad;
  count = rw more is.count;
}

-- The window, where it stays.
pub stands_still : (windows : WindowsState) (log longer : Log) → HasCountsOf windows (window_of log)
    → window_of longer ≡ window_of log → HasCountsOf windows (window_of longer)
stands_still windows log longer stands same = subst (λ w. HasCountsOf windows w) (sym same) stands

-- Addresses stay where their streams stay.

pub record KeepsStreams (old new : PlacesState) : Type 0 where
  pub kept : (place : ℕ) (h : PlacedStream) → held_at new place ≡ Some h
      → (g : PlacedStream) × (held_at old place ≡ Some g) × (g.serial ≡ h.serial)

pub same_streams : (s : PlacesState) → KeepsStreams s s
same_streams s = record { kept = λ place h is. (h, is, refl) }

changed_by : (s : PlacesState) (place : ℕ) (g : PlacedStream) (holds : Option PlacedStream) → held_at s place ≡ Some g
    → ((h : PlacedStream) → holds ≡ Some h → h.serial ≡ g.serial)
    → (other : ℕ) (k : PlacedStream) → (b : Bool) → (other == place) ≡ b
    → held_at (with_held s place holds) other ≡ Some k → (j : PlacedStream) × (held_at s other ≡ Some j) × (j.serial ≡ k.serial)
changed_by s place g holds is same other k true at found =
    let spot : other ≡ place = same_by other place at in
    let there : held_at (with_held s place holds) other ≡ holds =
    ap (λ n. held_at (with_held s place holds) n) spot ∙ held_there s place g holds is in
    (g, ap (λ n. held_at s n) spot ∙ is, sym (same k (sym there ∙ found)))
changed_by s place g holds is same other k false at found =
    (k, sym (held_elsewhere s place other holds (apart_by other place at)) ∙ found, refl)

-- One place changes and keeps its serial, or holds nothing any more.
pub changed_streams : (s : PlacesState) (place : ℕ) (g : PlacedStream) (holds : Option PlacedStream) → held_at s place ≡ Some g
    → ((h : PlacedStream) → holds ≡ Some h → h.serial ≡ g.serial)
    → KeepsStreams s (with_held s place holds)
changed_streams s place g holds is same =
    record { kept = λ other k found. changed_by s place g holds is same other k (other == place) refl found }

-- The serial stays where a stream changes.
pub same_held : (g : PlacedStream) (f : PlacedStream) → f.serial ≡ g.serial → (y : PlacedStream) → Some f ≡ Some y
    → y.serial ≡ g.serial
same_held g f same y is = sym (ap (λ (z : PlacedStream). z.serial) (same_some f y is)) ∙ same

pub none_held : (g y : PlacedStream) → ◌≡◌ {A = Option PlacedStream} None (Some y) → y.serial ≡ g.serial
none_held g y is = cc

address-before : (old : PlacesState) (addresses : List Dest) (entry : Entry) (log : Log) (place : ℕ) (stream : PlacedStream)
    (to : Place) (none : Dest)
    → place_of entry.effects.edge ≡ None
    → AreAddresses addresses old log → (g : PlacedStream) × (held_at old place ≡ Some g) × (g.serial ≡ stream.serial)
    → place_at (entry ∷ log) stream.serial ≡ Some to
    → to.to ≡ address_of (slice_index_or addresses place none)
address-before old addresses entry log place stream to none makes_none are before at =
    are place before.0 to none before.1 (ap (λ n. place_at log n) before.2 ∙ sym (place_stays entry log stream.serial makes_none)
    ∙ at)

pub addresses_after : (addresses : List Dest) (old new : PlacesState) (entry : Entry) (log : Log) → KeepsStreams old new
    → place_of entry.effects.edge ≡ None
    → AreAddresses addresses old log → AreAddresses addresses new (entry ∷ log)
addresses_after addresses old new entry log keeps makes_none are =
    λ place stream to none holds at. address-before old addresses entry log place stream to none makes_none are
    (keeps.kept place stream holds) at

-- An entry that says nothing of the next hop, makes no place and doesn't open.
pub record IsAside (entry : Entry) : Type 0 where
  pub keys : keys_in entry.event ≡ None
  pub hop : hop_by entry.event entry.effects ≡ None
  pub dial : entry.effects.dial ≡ None
  pub makes_none : place_of entry.effects.edge ≡ None

-- Effects that leave the next hop and make no place.
pub record IsPlain (x : Effects) : Type 0 where
  pub dial : x.dial ≡ None
  pub cut : x.cut ≡ false
  pub makes_none : place_of x.edge ≡ None

hop_of_plain : (x : Effects) → IsPlain x → hop_by_effects x ≡ None
hop_of_plain x plain = rw (plain.dial, plain.cut) refl

pub aside_by : (entry : Entry) (x : Effects) → keys_in entry.event ≡ None
    → hop_by entry.event entry.effects ≡ hop_by_effects entry.effects
    → entry.effects ≡ x → IsPlain x → IsAside entry
aside_by entry x opens_none hop gives plain = record {
  keys = opens_none;
  hop = hop ∙ ap hop_by_effects gives ∙ hop_of_plain x plain;
  dial = ap (λ (outcome : Effects). outcome.dial) gives ∙ plain.dial;
  makes_none = ap (λ (outcome : Effects). place_of outcome.edge) gives ∙ plain.makes_none;
}

-- All parts, where the next hop stays.
pub parts_after : (c d : Circuit) (entry : Entry) (log : Log) → HasParts c log → IsAside entry
    → d.next_hop ≡ c.next_hop → d.create2 ≡ c.create2 → d.addresses ≡ c.addresses → IsPackager d.packager (entry ∷ log)
    → HasCountsOf d.windows (window_of (entry ∷ log)) → ArePlaces d.places (entry ∷ log) → KeepsStreams c.places d.places
    → HasParts d (entry ∷ log)
parts_after c d entry log has aside hop create2 addresses packager windows places keeps = record {
  hop = hop ∙ has.hop ∙ sym (hop_after entry log aside.hop);
  asked =
      λ dialling. request_after entry log aside.dial ∙ has.asked (sym hop ∙ dialling) ∙ ap (λ p. sends_create2 p) (sym create2);
  packager = packager;
  windows = windows;
  places = places;
  addresses = subst (λ a. AreAddresses a d.places (entry ∷ log)) (sym addresses)
      (addresses_after c.addresses c.places d.places entry log keeps aside.makes_none has.addresses);
}

-- The windows keep what the rules made them with.
pub made_after : (c new : Circuit) (rules : Rules) → IsMadeBy c rules → KeepsLimits c.windows new.windows → IsMadeBy new rules
made_after c new rules made keeps = record { start = keeps.start ∙ made.start; least = keeps.least ∙ made.least }

pub same_limits : (old new : WindowsState) → new ≡ old → KeepsLimits old new
same_limits old new same =
    record { start = ap (λ (w : WindowsState). w.start) same; least = ap (λ (w : WindowsState). w.least) same }

-- The circuit, where an event changes one place, what is packaged and the window.

pub record IsStep (c new : Circuit) (rules : Rules) (h : List Event) (e : Event) (place : ℕ) (g : PlacedStream)
    (holds : Option PlacedStream) : Type 0 where
  pub before : IsCircuit c rules h
  pub aside : IsAside (entry_after rules (log rules h) e)
  pub early : is_early e ≡ false
  pub close : (entry_after rules (log rules h) e).effects.close ≡ None
  pub at : held_at c.places place ≡ Some g
  pub same : (x : PlacedStream) → holds ≡ Some x → x.serial ≡ g.serial
  pub rest : new ≡ record c { packager = new.packager; windows = new.windows; places = with_held c.places place holds }
  pub limits : KeepsLimits c.windows new.windows
  pub packager : IsPackager new.packager (log rules (e ∷ h))
  pub windows : HasCountsOf new.windows (window_of (log rules (e ∷ h)))
  pub places : ArePlaces (with_held c.places place holds) (log rules (e ∷ h))

pub step_goes_on : (c new : Circuit) (rules : Rules) (h : List Event) (e : Event) (place : ℕ) (g : PlacedStream)
    (holds : Option PlacedStream)
    → IsStep c new rules h e place g holds → IsCircuit new rules (e ∷ h)
step_goes_on c new rules h e place g holds step =
    let entry : Entry = entry_after rules (log rules h) e in
    let changed : new.places ≡ with_held c.places place holds = ap (λ (x : Circuit). x.places) step.rest in
    record {
      unclosed = unclosed_after entry (log rules h) step.close step.before.unclosed;
      early = ap (λ (x : Circuit). x.early_cells) step.rest ∙ step.before.early
          ∙ sym (early_after entry (log rules h) step.early);
      made = made_after c new rules step.before.made step.limits;
      parts = parts_after c new entry (log rules h) step.before.parts step.aside
          (ap (λ (x : Circuit). x.next_hop) step.rest) (ap (λ (x : Circuit). x.create2) step.rest)
          (ap (λ (x : Circuit). x.addresses) step.rest)
          step.packager step.windows
          (subst (λ s. ArePlaces s (entry ∷ log rules h)) (sym changed) step.places)
          (subst (λ s. KeepsStreams c.places s) (sym changed) (changed_streams c.places place g holds step.at step.same));
    }
