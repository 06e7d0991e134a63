-- The parts of a circuit behind a BEGIN.
use Rattle.std.proofs.Common.{◌≡◌, ◌≢◌, ◌<◌, ℕ, ◌==◌, ◌||◌, not, nat_le, List, [], ◌∷◌, ◌++◌, length, Bool, true, false, Option, Some, None, refl, sym, ap, subst, ◌∙◌}
use Rattle.std.specs.Prelude.{is_some, is_none, position, slice_index_or, slice_get}
use Rattle.std.proofs.Math.Seq.{get_or-set_same, get_or-set_other}
use Rattle.std.proofs.lemmas.List.Quantifiers.{position-Some}
use Rattle.tor_spec.specs.RelayCell.{relay_body, begin_command, data_command, end_command, sendme_command}
use Rattle.tor_spec.specs.Begin.{Target, begin_target}
use Rattle.tor_spec.specs.Extend.{Address}
use Rattle.tr_io.specs.declared.names.Dest.{Dest}
use Rattle.stream_edge.specs.PlacesState.{PlacesState, held_at}
use Rattle.stream_edge.specs.Streams.{begun, is_free}
use Rattle.stream_edge.specs.declared.placed_stream.PlacedStream.{PlacedStream}
use Rattle.circuit_model.specs.declared.event.Event.TheVariants.{Forward}
use Rattle.circuit_model.specs.Rules.{Rules, allowed_address}
use Rattle.circuit_model.specs.Log.{Entry, Log, Message, Effects, no_effects, closing, ordering}
use Rattle.circuit_model.specs.declared.effects.Order.TheVariants.{Reach}
use Rattle.circuit_model.specs.NextHop.{hop_by_effects}
use Rattle.circuit_model.specs.Packaged.{finished}
use Rattle.circuit_model.specs.Places.{Place, place_of, places, place_at, live_place, taken_places}
use Rattle.circuit_model.specs.Streams.{place_limit, ending, reaching, beginning, begin_effects}
use Rattle.circuit_model.specs.Effects.{message_effects, effects_after}
use Rattle.circuit_model.specs.Words.{entry_after}
use Rattle.circ_relay.specs.declared.circuit.Circuit.{Circuit}
use Rattle.circ_relay.specs.declared.message.Message.{Message as CodeMessage}
use Rattle.circ_relay.specs.BroughtMessages.{IsBrought, after_cell}
use Rattle.circ_relay.specs.Packaging.{Packages}
use Rattle.circ_relay.specs.CircuitOfLog.{AreAddresses, HasParts}
use Rattle.circ_relay.specs.PlacesOfLog.{ArePlaces, AreNamed}
use Rattle.circ_relay.specs.Values.{address_of}
use Rattle.circ_relay.proofs.Changing.{same_by, apart_by}
use Rattle.circ_relay.proofs.Lists.{same_some, got_before, got_last}
use Rattle.circ_relay.proofs.Naming.{message_place}
use Rattle.circ_relay.proofs.Begun.{after_begin, place_made, places_more, begin_takes_a_place}
use Rattle.circ_relay.proofs.Others.{refused_leaves_places}
use Rattle.circ_relay.proofs.Taken.{full_by_the_log}
use Rattle.circ_relay.proofs.Longer.{hop_after, request_after, packager_after, none_packaged, stands_still}
use Rattle.circ_relay.proofs.MessageKinds.{found, does, of_begin, other_window, packaged_parts}
use Rattle.circ_relay.proofs.Bools.{not-not}

some_none : (x : Option ℕ) → is_some x ≡ not (is_none x)
some_none None = refl
some_none (Some n) = refl

pub free_by_the_log : (s : PlacesState) (log : Log) (free : Bool) → free ≡ is_some (position is_free s.streams)
    → length s.streams ≡ 32 → ArePlaces s log → AreNamed log
    → free ≡ not (nat_le place_limit (taken_places log))
free_by_the_log s log free is whole are named =
    is ∙ some_none (position is_free s.streams) ∙ ap not (full_by_the_log s log are named whole)

-- What a BEGIN does.

begin_test : (message : CodeMessage) (log : Log) (command : ℕ) (body : List ℕ) (m : Message) (may : Bool)
    → IsBrought message log command body m
    → may ≡ not ((message.stream == 0) || is_some (live_place log message.stream))
    → ((m.stream == 0) || is_some m.place) ≡ not may
begin_test message log command body m may b is =
    ap (λ p. (m.stream == 0) || is_some p) (message_place log (Forward command body) m (found message log command body m b))
    ∙ ap (λ n. (n == 0) || is_some (live_place log n)) (sym b.stream)
    ∙ not-not ((message.stream == 0) || is_some (live_place log message.stream)) ∙ ap not (sym is)

pub refused_does : (message : CodeMessage) (rules : Rules) (log : Log) (command : ℕ) (body : List ℕ) (m : Message) (may : Bool)
    → IsBrought message log command body m
    → may ≡ not ((message.stream == 0) || is_some (live_place log message.stream)) → may ≡ false
    → begin_effects rules log m ≡ closing 1
refused_does message rules log command body m may b is none =
    rw (begin_test message log command body m may b is ∙ ap not none) refl

-- It may begin, and asks for this.
pub begin_does : (message : CodeMessage) (rules : Rules) (log : Log) (command : ℕ) (body : List ℕ) (m : Message) (may : Bool)
    (target : Option Target)
    → IsBrought message log command body m
    → may ≡ not ((message.stream == 0) || is_some (live_place log message.stream)) → may ≡ true
    → begin_target message.payload.now ≡ target
    → begin_effects rules log m ≡ beginning rules log m.stream target
begin_does message rules log command body m may target b is so asks =
    rw (begin_test message log command body m may b is ∙ ap not so)
    (ap (λ t. beginning rules log m.stream t) (ap begin_target (sym b.payload) ∙ asks))

not-left : (free full : Bool) → free ≡ not full → free ≡ false → full ≡ true
not-left free true is so = refl
not-left free false is so = (let never : false ≡ true = sym so ∙ is in cc)

not-right : (free full : Bool) → free ≡ not full → free ≡ true → full ≡ false
not-right free false is so = refl
not-right free true is so = (let never : true ≡ false = sym so ∙ is in cc)

pub full_does : (rules : Rules) (log : Log) (stream : ℕ) (target : Target) (free : Bool)
    → free ≡ not (nat_le place_limit (taken_places log)) → free ≡ false
    → beginning rules log stream (Some target) ≡ ending log stream 11
full_does rules log stream target free is none = rw (not-left free (nat_le place_limit (taken_places log)) is none) refl

pub fitting_does : (rules : Rules) (log : Log) (stream : ℕ) (target : Target) (free : Bool) (to : Option Address)
    → free ≡ not (nat_le place_limit (taken_places log)) → free ≡ true
    → to ≡ allowed_address rules target → beginning rules log stream (Some target) ≡ reaching log stream to
fitting_does rules log stream target free to is so allowed =
    rw (not-right free (nat_le place_limit (taken_places log)) is so) (ap (λ t. reaching log stream t) (sym allowed))

-- The END of a BEGIN that is refused.
pub unbegun_parts : (c d : Circuit) (message : CodeMessage) (rules : Rules) (log : Log) (command : ℕ) (body : List ℕ)
    (m : Message) (reason : ℕ)
    → IsBrought message log command body m → HasParts c log → m.command ≡ begin_command
    → begin_effects rules log m ≡ ending log m.stream reason
    → Packages c.packager d.packager (relay_body end_command message.stream (reason ∷ []))
    → d ≡ record c { packager = d.packager } → HasParts d (after_cell rules log command body)
unbegun_parts c d message rules log command body m reason b has is ends packages rest =
    let given : message_effects rules log m ≡ record no_effects
    { back = Some (finished log (relay_body end_command message.stream (reason ∷ []))) } =
    of_begin rules log m is ∙ ends ∙ ap (λ n. ending log n reason) (sym b.stream) in
    let edge : (effects_after rules log (Forward command body)).edge ≡ None =
    ap (λ (e : Effects). e.edge) (does message rules log command body m b ∙ given) in
    subst (λ e. HasParts e (after_cell rules log command body)) (sym rest)
    (packaged_parts c d.packager message rules log command body m (relay_body end_command message.stream (reason ∷ [])) b has
    given packages
    (other_window message rules log command body m b (ap (λ k. k == data_command) is) (ap (λ k. k == sendme_command) is))
    (refused_leaves_places c.places rules log (Forward command body) m has.places (found message log command body m b) is edge))

-- A BEGIN that is accepted.

-- The addresses with one more kept at a place.
pub record IsKept (old new : List Dest) (place : ℕ) (to : Dest) : Type 0 where
  pub there : (none : Dest) → slice_index_or new place none ≡ to
  pub elsewhere : (other : ℕ) (none : Dest) → other ≢ place → slice_index_or new other none ≡ slice_index_or old other none

reached_there : (s : PlacesState) (log longer : Log) (place id : ℕ) (to : Dest) (h : PlacedStream) (of_log : Place)
    → ArePlaces s log
    → place < length s.streams
    → places longer ≡ places log ++ place_made log id (address_of to) ∷ [] → held_at (after_begin s place id) place ≡ Some h
    → place_at longer h.serial ≡ Some of_log → of_log.to ≡ address_of to
reached_there s log longer place id to h of_log are within more holds at =
    let there : held_at (after_begin s place id) place ≡ Some (begun id s.next_serial) =
    get_or-set_same s.streams place (Some (begun id s.next_serial)) None within in
    let h_is : begun id s.next_serial ≡ h = same_some (begun id s.next_serial) h (sym there ∙ holds) in
    let serial : h.serial ≡ length (places log) = ap (λ (k : PlacedStream). k.serial) (sym h_is) ∙ are.next in
    let got : slice_get (places log ++ place_made log id (address_of to) ∷ []) (length (places log)) ≡ Some of_log =
    ap (λ (ps : List Place). slice_get ps (length (places log))) (sym more) ∙ ap (λ n. slice_get (places longer) n) (sym serial)
    ∙ at in
    ap (λ (p : Place). p.to)
    (sym (same_some (place_made log id (address_of to)) of_log
    (sym (got_last (places log) (place_made log id (address_of to))) ∙ got)))

reached_elsewhere : (s : PlacesState) (addresses : List Dest) (log longer : Log) (place id other : ℕ) (to : Dest)
    (h : PlacedStream) (of_log : Place) (none : Dest)
    → ArePlaces s log → AreAddresses addresses s log
    → places longer ≡ places log ++ place_made log id (address_of to) ∷ [] → other ≢ place
    → held_at (after_begin s place id) other ≡ Some h → place_at longer h.serial ≡ Some of_log
    → of_log.to ≡ address_of (slice_index_or addresses other none)
reached_elsewhere s addresses log longer place id other to h of_log none are kept more apart holds at =
    let before : held_at s other ≡ Some h =
    sym (get_or-set_other s.streams place other (Some (begun id s.next_serial)) None apart) ∙ holds in
    let old = are.streams other h before in
    let got : place_at longer h.serial ≡ Some old.place =
    ap (λ (ps : List Place). slice_get ps h.serial) more
    ∙ got_before (places log) (place_made log id (address_of to)) old.place h.serial old.found in
    ap (λ (p : Place). p.to) (sym (same_some old.place of_log (sym got ∙ at))) ∙ kept other h old.place none before old.found

reached_address : (s : PlacesState) (addresses new : List Dest) (log longer : Log) (place id other : ℕ) (to : Dest)
    (h : PlacedStream) (of_log : Place) (none : Dest)
    → ArePlaces s log → AreAddresses addresses s log
    → IsKept addresses new place to → place < length s.streams
    → places longer ≡ places log ++ place_made log id (address_of to) ∷ [] → (b : Bool) → (other == place) ≡ b
    → held_at (after_begin s place id) other ≡ Some h → place_at longer h.serial ≡ Some of_log
    → of_log.to ≡ address_of (slice_index_or new other none)
reached_address s addresses new log longer place id other to h of_log none are old kept within more true at holds got =
    let spot : other ≡ place = same_by other place at in
    reached_there s log longer place id to h of_log are within more
    (ap (λ n. held_at (after_begin s place id) n) (sym spot) ∙ holds) got
    ∙ ap address_of (sym (kept.there none)) ∙ ap (λ n. address_of (slice_index_or new n none)) (sym spot)
reached_address s addresses new log longer place id other to h of_log none are old kept within more false at holds got =
    let apart : other ≢ place = apart_by other place at in
    reached_elsewhere s addresses log longer place id other to h of_log none are old more apart holds got
    ∙ ap address_of (sym (kept.elsewhere other none apart))

pub reached_parts : (c d : Circuit) (new : PlacesState) (message : CodeMessage) (rules : Rules) (log : Log) (command : ℕ)
    (body : List ℕ) (m : Message) (place : ℕ) (to : Dest)
    → IsBrought message log command body m → HasParts c log → m.command ≡ begin_command
    → begin_effects rules log m ≡ reaching log m.stream (Some (address_of to))
    → position is_free c.places.streams ≡ Some place → new ≡ after_begin c.places place message.stream
    → IsKept c.addresses d.addresses place to
    → d ≡ record c { places = new; addresses = d.addresses } → HasParts d (after_cell rules log command body)
reached_parts c d new message rules log command body m place to b has is reaches free becomes kept rest =
    let entry : Entry = entry_after rules log (Forward command body) in
    let order : Effects = ordering (Reach (record { stream = message.stream; serial = length (places log) }) (address_of to)) in
    let given : effects_after rules log (Forward command body) ≡ order =
    does message rules log command body m b ∙ of_begin rules log m is ∙ reaches
    ∙ ap (λ n. reaching log n (Some (address_of to))) (sym b.stream) in
    let edge : (effects_after rules log (Forward command body)).edge ≡ Some
    (Reach (record { stream = message.stream; serial = length (places log) }) (address_of to)) =
    ap (λ (e : Effects). e.edge) given in
    let more : places (after_cell rules log command body) ≡ places log ++ place_made log message.stream (address_of to) ∷ [] =
    places_more entry log (place_made log message.stream (address_of to)) (ap place_of edge) in
    let within : place < length c.places.streams = (position-Some is_free c.places.streams place None free).0 in
    let are : ArePlaces (after_begin c.places place message.stream) (after_cell rules log command body) =
    begin_takes_a_place c.places rules log (Forward command body) m place message.stream (address_of to) has.places
    (found message log command body m b) is edge free in
    let addressed : AreAddresses d.addresses (after_begin c.places place message.stream) (after_cell rules log command body) =
    (λ other h of_log none holds got. reached_address c.places c.addresses d.addresses log (after_cell rules log command body)
    place message.stream other to h of_log none has.places has.addresses kept within more (other == place) refl holds got) in
    subst (λ e. HasParts e (after_cell rules log command body)) (sym rest)
    (record {
      hop = has.hop ∙ sym (hop_after entry log (ap hop_by_effects given));
      asked = λ dialling. request_after entry log (ap (λ (e : Effects). e.dial) given) ∙ has.asked dialling;
      packager =
          packager_after c.packager entry log None refl (ap (λ (e : Effects). e.back) given)
          (none_packaged c.packager log has.packager);
      windows =
          stands_still c.windows log (after_cell rules log command body) has.windows
          (other_window message rules log command body m b (ap (λ k. k == data_command) is)
          (ap (λ k. k == sendme_command) is));
      places = subst (λ s. ArePlaces s (after_cell rules log command body)) (sym becomes) are;
      addresses = subst (λ s. AreAddresses d.addresses s (after_cell rules log command body)) (sym becomes) addressed;
    })
