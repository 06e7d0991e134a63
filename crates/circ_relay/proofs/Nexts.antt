-- A circuit after what its next hop sends and comes to.
use Rattle.std.proofs.Common.{◌≡◌, ◌<◌, ◌≤◌, ℕ, ◌∷◌, List, Bool, true, false, if◌then◌else◌, Option, Some, None, refl, sym, ap, ◌∙◌, length, nat_le, arith}
use Rattle.std.proofs.lemmas.Bool.{le-leb}
use Rattle.tor_spec.specs.Extend.{handshake_reply, handshake_reply_payload}
use Rattle.tor_spec.specs.RelayCell.{extended2_command, relay_body}
use Rattle.circuit_model.specs.Events.{Event, CircuitCell}
use Rattle.circuit_model.specs.declared.event.Event.TheVariants.{Backward, Linked, Answered, Failed}
use Rattle.circuit_model.specs.Rules.{Rules}
use Rattle.circuit_model.specs.Log.{Entry, Log, Effects, Message, no_effects, closing, is_closed}
use Rattle.circuit_model.specs.Extending.{linked_effects, answered_effects, extending}
use Rattle.circuit_model.specs.NextHop.{next_hop}
use Rattle.circuit_model.specs.Packaged.{finished, packaging}
use Rattle.circuit_model.specs.Places.{place_of}
use Rattle.circuit_model.specs.Effects.{open_effects, effects_after}
use Rattle.circuit_model.specs.Words.{entry_after, log, effects}
use Rattle.circ_relay.specs.declared.circuit.Circuit.{Circuit}
use Rattle.circuit_model.specs.declared.next_hop.NextHop.{NextHop}
use Rattle.circuit_model.specs.declared.next_hop.NextHop.TheVariants.{Dialling, Waiting, There}
use Rattle.circ_relay.specs.CircuitOfLog.{HasParts, IsCircuit, sends_create2}
use Rattle.circ_relay.specs.Packaging.{PackagerState, IsPackagedNext}
use Rattle.circ_relay.proofs.Doing.{when_open}
use Rattle.circ_relay.proofs.Longer.{IsAside, aside_by, unclosed_after, packager_after, none_packaged, stands_still, same_streams, addresses_after, parts_after}
use Rattle.circ_relay.proofs.Others.{no_message_leaves_places}
use Rattle.circ_relay.proofs.QuietEvents.{backward_leaves, linked_leaves, answered_leaves}

-- What an event does in a circuit that has not closed.

pub backward_does : (rules : Rules) (log : Log) (body : List ℕ) → is_closed log ≡ false →
    effects_after rules log (Backward body) ≡ record no_effects { back = Some body }
unfolding open_effects
backward_does rules log body unclosed = when_open (is_closed log) (record no_effects { back = Some body }) unclosed

pub linked_does : (rules : Rules) (log : Log) → is_closed log ≡ false → effects_after rules log Linked ≡ linked_effects log
unfolding open_effects
linked_does rules log unclosed = when_open (is_closed log) (linked_effects log) unclosed

pub answered_does : (rules : Rules) (log : Log) (payload : List ℕ) → is_closed log ≡ false →
    effects_after rules log (Answered payload) ≡ answered_effects log payload
unfolding open_effects
answered_does rules log payload unclosed = when_open (is_closed log) (answered_effects log payload) unclosed

pub failed_does : (rules : Rules) (log : Log) → is_closed log ≡ false → effects_after rules log Failed ≡ closing 6
unfolding open_effects
failed_does rules log unclosed = when_open (is_closed log) (closing 6) unclosed

none_either_way : (closed : Bool) → ◌≡◌ {A = Option Message} (if closed then None else None) None
none_either_way true = refl
none_either_way false = refl

-- A relay body from the next hop.

backward_parts : (c : Circuit) (rules : Rules) (log : Log) (body : List ℕ) → is_closed log ≡ false → HasParts c log →
    HasParts c (entry_after rules log (Backward body) ∷ log)
backward_parts c rules log body unclosed parts =
    let entry : Entry = entry_after rules log (Backward body) in
    let aside : IsAside entry =
    aside_by entry (record no_effects { back = Some body }) refl refl (backward_does rules log body unclosed)
    (record { dial = refl; cut = refl; makes_none = refl }) in
    parts_after c c entry log parts aside refl refl refl
    (packager_after c.packager entry log None refl refl (none_packaged c.packager log parts.packager))
    (stands_still c.windows log (entry ∷ log) parts.windows (backward_leaves rules log body))
    (no_message_leaves_places c.places rules log (Backward body) parts.places (none_either_way (is_closed log)) refl)
    (same_streams c.places)

pub backward_keeps : (c : Circuit) (rules : Rules) (h : List Event) (body : List ℕ) → IsCircuit c rules h
    → IsCircuit c rules (Backward body ∷ h)
backward_keeps c rules h body is = record {
  unclosed = unclosed_after (entry_after rules (log rules h) (Backward body)) (log rules h)
      (ap (λ (x : Effects). x.close) (backward_does rules (log rules h) body is.unclosed)) is.unclosed;
  early = is.early;
  made = is.made;
  parts = backward_parts c rules (log rules h) body is.unclosed is.parts;
}

pub backward_gives : (c : Circuit) (rules : Rules) (h : List Event) (body : List ℕ) → IsCircuit c rules h →
    effects rules h (Backward body) ≡ record no_effects { back = Some body }
backward_gives c rules h body is = backward_does rules (log rules h) body is.unclosed

-- A linked next hop.

-- The state of a circuit whose next hop is something else.
abbrev pub with_hop : Circuit → NextHop → Circuit
with_hop c hop = record c { next_hop = hop }

linked_sends : (c : Circuit) (rules : Rules) (log : Log) → is_closed log ≡ false → HasParts c log → c.next_hop ≡ Dialling →
    effects_after rules log Linked ≡ sends_create2 c.create2
linked_sends c rules log unclosed parts dialling = linked_does rules log unclosed ∙ parts.asked dialling

linked_parts : (c : Circuit) (rules : Rules) (log : Log) → is_closed log ≡ false → HasParts c log → c.next_hop ≡ Dialling →
    HasParts (with_hop c Waiting) (entry_after rules log Linked ∷ log)
linked_parts c rules log unclosed parts dialling =
    let entry : Entry = entry_after rules log Linked in
    let sends : entry.effects ≡ sends_create2 c.create2 = linked_sends c rules log unclosed parts dialling in
    record {
      hop = refl;
      asked = λ other. cc;
      packager =
          packager_after c.packager entry log None refl (ap (λ (x : Effects). x.back) sends)
          (none_packaged c.packager log parts.packager);
      windows = stands_still c.windows log (entry ∷ log) parts.windows (linked_leaves rules log);
      places = no_message_leaves_places c.places rules log Linked parts.places (none_either_way (is_closed log)) refl;
      addresses =
          addresses_after c.addresses c.places c.places entry log (same_streams c.places)
          (ap (λ (x : Effects). place_of x.edge) sends) parts.addresses;
    }

pub linked_keeps : (c : Circuit) (rules : Rules) (h : List Event) → c.next_hop ≡ Dialling → IsCircuit c rules h →
    IsCircuit (with_hop c Waiting) rules (Linked ∷ h)
linked_keeps c rules h dialling is = record {
  unclosed = unclosed_after (entry_after rules (log rules h) Linked) (log rules h)
      (ap (λ (x : Effects). x.close) (linked_sends c rules (log rules h) is.unclosed is.parts dialling)) is.unclosed;
  early = is.early;
  made = record { start = is.made.start; least = is.made.least };
  parts = linked_parts c rules (log rules h) is.unclosed is.parts dialling;
}

pub linked_gives : (c : Circuit) (rules : Rules) (h : List Event) → c.next_hop ≡ Dialling → IsCircuit c rules h →
    effects rules h Linked ≡ sends_create2 c.create2
linked_gives c rules h dialling is = linked_sends c rules (log rules h) is.unclosed is.parts dialling

-- What the next hop answered.

pub answered_packages : (log : Log) (payload handshake body : List ℕ) → handshake_reply payload ≡ Some handshake
    → length handshake ≤ 496 →
    body ≡ relay_body extended2_command 0 (handshake_reply_payload handshake)
    → answered_effects log payload ≡ record no_effects { back = Some (finished log body) }
answered_packages log payload handshake body read short is =
    ap (extending log) read
    ∙ ap (λ (b : Bool). if b then packaging log extended2_command 0 (handshake_reply_payload handshake) else closing 1)
    (le-leb (length handshake) 496 short)
    ∙ ap (λ (b : List ℕ). record no_effects { back = Some (finished log b) }) (sym is)

pub answered_unread : (log : Log) (payload : List ℕ) → handshake_reply payload ≡ None → answered_effects log payload ≡ closing 1
answered_unread log payload none = ap (extending log) none

long : (n : ℕ) → 496 < n → nat_le n 496 ≡ false
long n more = grind arith

pub answered_too_long : (log : Log) (payload handshake : List ℕ) → handshake_reply payload ≡ Some handshake
    → 496 < length handshake →
    answered_effects log payload ≡ closing 1
answered_too_long log payload handshake read more =
    ap (extending log) read
    ∙ ap (λ (b : Bool). if b then packaging log extended2_command 0 (handshake_reply_payload handshake) else closing 1)
    (long (length handshake) more)

pub answered_gives : (c : Circuit) (rules : Rules) (h : List Event) (payload : List ℕ) (does : Effects) →
    answered_effects (log rules h) payload ≡ does → IsCircuit c rules h → effects rules h (Answered payload) ≡ does
answered_gives c rules h payload does gives is = answered_does rules (log rules h) payload is.unclosed ∙ gives

-- The state of a circuit whose next hop is there, with another packager.
abbrev pub with_answer : Circuit → PackagerState → Circuit
with_answer c packager = record c { next_hop = There; packager = packager }

answered_parts : (c : Circuit) (packager : PackagerState) (rules : Rules) (log : Log) (payload body : List ℕ) → HasParts c log →
    effects_after rules log (Answered payload) ≡ record no_effects { back = Some body }
    → IsPackagedNext packager log (Some body) →
    HasParts (with_answer c packager) (entry_after rules log (Answered payload) ∷ log)
answered_parts c packager rules log payload body parts does packages =
    let entry : Entry = entry_after rules log (Answered payload) in
    record {
      hop = refl;
      asked = λ other. cc;
      packager = packager_after packager entry log (Some body) refl (ap (λ (x : Effects). x.back) does) packages;
      windows = stands_still c.windows log (entry ∷ log) parts.windows (answered_leaves rules log payload);
      places = no_message_leaves_places c.places rules log (Answered payload) parts.places (none_either_way (is_closed log)) refl;
      addresses =
          addresses_after c.addresses c.places c.places entry log (same_streams c.places)
          (ap (λ (x : Effects). place_of x.edge) does) parts.addresses;
    }

pub answered_keeps : (c : Circuit) (packager : PackagerState) (rules : Rules) (h : List Event) (payload body : List ℕ)
    → IsCircuit c rules h →
    answered_effects (log rules h) payload ≡ record no_effects { back = Some (finished (log rules h) body) } →
    IsPackagedNext packager (log rules h) (Some (finished (log rules h) body))
    → IsCircuit (with_answer c packager) rules (Answered payload ∷ h)
answered_keeps c packager rules h payload body is gives packages =
    let entry : Entry = entry_after rules (log rules h) (Answered payload) in
    let does : entry.effects ≡ record no_effects { back = Some (finished (log rules h) body) } =
    answered_does rules (log rules h) payload is.unclosed ∙ gives in
    record {
      unclosed = unclosed_after entry (log rules h) (ap (λ (x : Effects). x.close) does) is.unclosed;
      early = is.early;
      made = record { start = is.made.start; least = is.made.least };
      parts = answered_parts c packager rules (log rules h) payload (finished (log rules h) body) is.parts does packages;
    }

-- What the code gives.

pub put_forth : (e : Effects) (cell : CircuitCell) → e ≡ no_effects
    → record e { forth = Some cell } ≡ record no_effects { forth = Some cell }
put_forth e cell none = ap (λ (x : Effects). record x { forth = Some cell }) none

pub failed_gives : (c : Circuit) (rules : Rules) (h : List Event) → IsCircuit c rules h → effects rules h Failed ≡ closing 6
failed_gives c rules h is = failed_does rules (log rules h) is.unclosed
