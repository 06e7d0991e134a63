-- What is read off the state is what the words of the log say.
use Rattle.std.proofs.Common.{◌≡◌, ◌≢◌, ◌<◌, ◌≤◌, ℕ, zero, suc, ◌+◌, ◌*◌, ◌/◌, ◌%◌, ◌==◌, ◌&&◌, List, [], ◌∷◌, length, get_or, Bool, true, false, if◌then◌else◌, not, cond, Option, Some, None, refl, sym, ap, subst, ◌∙◌, arith, nat_le, nat_lt, find, option_map}
use Rattle.std.specs.Prelude.{position, option_and_then}
use Rattle.std.specs.List.{position_or_len}
use Rattle.std.proofs.lemmas.Option.{slice_get_within}
use Rattle.std.proofs.lemmas.List.Quantifiers.{position-Some}
use Rattle.tor_spec.specs.StreamWindow.{stream_start, stream_step}
use Rattle.circuit_model.specs.Log.{Log, StreamKey}
use Rattle.circuit_model.specs.declared.places.Phase.{Phase}
use Rattle.circuit_model.specs.declared.places.Phase.TheVariants.{Reaching, Joined, Ending, Free}
use Rattle.circuit_model.specs.Places.{Place, places, place_at, phase, is_live, is_live_phase, live_place}
use Rattle.circuit_model.specs.Windows.{stream_packaged, stream_grant, carried_count, drained_count, accept_grant as log_accept_grant}
use Rattle.stream_edge.specs.declared.placed_stream.PlacedStream.{PlacedStream}
use Rattle.stream_edge.specs.declared.placed_stream.Phase.{Phase as HeldPhase}
use Rattle.stream_edge.specs.declared.placed_stream.Phase.TheVariants.{Reaching as held_reaching, Joined as held_joined, Ending as held_ending}
use Rattle.stream_edge.specs.PlacesState.{PlacesState, held_at}
use Rattle.stream_edge.specs.Streams.{is_live_as, is_live_phase as is_live_held, pack_grant, accept_grant, may_package, may_accept, may_credit, sendme_due}
use Rattle.stream_edge.proofs.Holding.{taken_within}
use Rattle.circ_relay.specs.PlacesOfLog.{model_phase, stream_key, IsOfLog, IsHeld, ArePlaces, AreNamed}
use Rattle.circ_relay.proofs.Lists.{same_some, nothing_found, IsAmong, found_among}
use Rattle.circ_relay.proofs.Changing.{same_by}
use Rattle.circ_relay.proofs.Named.{both, true-false, equal_true, and-left}
use Rattle.circ_relay.proofs.Bools.{and-right}

-- Windows.

pub packs_by_the_log : (state : PlacesState) (log : Log) (place : ℕ) (h : PlacedStream) → ArePlaces state log
    → held_at state place ≡ Some h → pack_grant h ≡ stream_grant log h.serial
packs_by_the_log state log place h are at = ap (λ n. 500 + 50 * n) (are.streams place h at).credits

pub accepts_by_the_log : (state : PlacesState) (log : Log) (place : ℕ) (h : PlacedStream) → ArePlaces state log
    → held_at state place ≡ Some h → accept_grant h ≡ log_accept_grant log h.serial
accepts_by_the_log state log place h are at = ap (λ n. 500 + 50 * (n / 50)) (are.streams place h at).drained

pub may_package_by_the_log : (state : PlacesState) (log : Log) (place : ℕ) (h : PlacedStream) → ArePlaces state log
    → held_at state place ≡ Some h →
    may_package h ≡ nat_lt (stream_packaged log h.serial) (stream_grant log h.serial)
may_package_by_the_log state log place h are at =
    ap (λ n. nat_lt n (pack_grant h)) (are.streams place h at).packed
    ∙ ap (λ n. nat_lt (stream_packaged log h.serial) n) (packs_by_the_log state log place h are at)

not-less : (a b : ℕ) (t : Bool) → nat_le b a ≡ t → nat_lt a b ≡ not t
not-less a b true is = grind arith
not-less a b false is = grind arith

not-at_most : (a b : ℕ) (t : Bool) → nat_lt b a ≡ t → nat_le a b ≡ not t
not-at_most a b true is = grind arith
not-at_most a b false is = grind arith

pub may_accept_by_the_log : (state : PlacesState) (log : Log) (place : ℕ) (h : PlacedStream) → ArePlaces state log
    → held_at state place ≡ Some h →
    may_accept h ≡ not (nat_le (log_accept_grant log h.serial) (carried_count log h.serial))
may_accept_by_the_log state log place h are at =
    ap (λ n. nat_lt n (accept_grant h)) (are.streams place h at).accepted
    ∙ ap (λ n. nat_lt (carried_count log h.serial) n) (accepts_by_the_log state log place h are at)
    ∙ not-less (carried_count log h.serial) (log_accept_grant log h.serial)
    (nat_le (log_accept_grant log h.serial) (carried_count log h.serial)) refl

pub may_credit_by_the_log : (state : PlacesState) (log : Log) (place : ℕ) (h : PlacedStream) → ArePlaces state log
    → held_at state place ≡ Some h →
    may_credit h ≡ not (nat_lt (stream_start + stream_packaged log h.serial) (stream_grant log h.serial + stream_step))
may_credit_by_the_log state log place h are at =
    ap (λ n. nat_le (pack_grant h + 50) (500 + n)) (are.streams place h at).packed
    ∙ ap (λ n. nat_le (n + 50) (500 + stream_packaged log h.serial)) (packs_by_the_log state log place h are at)
    ∙ not-at_most (stream_grant log h.serial + stream_step) (stream_start + stream_packaged log h.serial)
    (nat_lt (stream_start + stream_packaged log h.serial) (stream_grant log h.serial + stream_step)) refl

pub sendme_due_by_the_log : (state : PlacesState) (log : Log) (place : ℕ) (h : PlacedStream) → ArePlaces state log
    → held_at state place ≡ Some h →
    sendme_due h
    ≡ (if nat_lt (drained_count log h.serial) (carried_count log h.serial)
    then Some (((drained_count log h.serial + 1) % stream_step) == 0) else None)
sendme_due_by_the_log state log place h are at =
    ap (λ n. if nat_lt n h.accepted then Some (((n + 1) % 50) == 0) else None) (are.streams place h at).drained
    ∙ ap (λ n. if nat_lt (drained_count log h.serial) n then Some (((drained_count log h.serial + 1) % 50) == 0) else None)
    (are.streams place h at).accepted

-- Live streams.

same-liveness : (p : HeldPhase) → is_live_phase (model_phase p) ≡ is_live_held p
same-liveness held_reaching = refl
same-liveness held_joined = refl
same-liveness held_ending = refl

live-not_ending : (p : HeldPhase) → is_live_held p ≡ true → p ≢ held_ending
live-not_ending held_reaching is ending = cc
live-not_ending held_joined is ending = cc
live-not_ending held_ending is ending = cc

not_ending-live : (p : HeldPhase) → p ≢ held_ending → is_live_held p ≡ true
not_ending-live held_reaching other = refl
not_ending-live held_joined other = refl
not_ending-live held_ending other = absurd (other refl)

abbrev is_live_at : Log → ℕ → Place → Bool
is_live_at log id p = (p.key.stream == id) && is_live log p

place-live : (log : Log) (h : PlacedStream) → IsOfLog log h → (p : Place) → p.key ≡ stream_key h
    → is_live log p ≡ is_live_held h.phase
place-live log h is p key =
    ap (λ (k : StreamKey). is_live_phase (phase log k.serial)) key ∙ ap is_live_phase is.phase ∙ same-liveness h.phase

live_place-by : (state : PlacesState) (log : Log) → AreNamed log → (h : PlacedStream) → IsOfLog log h
    → is_live_held h.phase ≡ true →
    (x : Option Place) → find (is_live_at log h.stream) (places log) ≡ x
    → option_map (λ (p : Place). p.key.serial) x ≡ Some h.serial
live_place-by state log named h is live None found =
    absurd (true-false (is_live_at log h.stream is.place)
    (both (is.place.key.stream == h.stream) (is_live log is.place)
    (equal_true is.place.key.stream h.stream (ap (λ (k : StreamKey). k.stream) is.key))
    (place-live log h is is.place is.key ∙ live))
    (nothing_found (is_live_at log h.stream) (places log) h.serial is.place found is.found))
live_place-by state log named h is live (Some q) found =
    let among : IsAmong (is_live_at log h.stream) (places log) q = found_among (is_live_at log h.stream) (places log) q found in
    let q_live : is_live log q ≡ true = and-right (q.key.stream == h.stream) (is_live log q) among.passes in
    let q_stream : q.key.stream ≡ h.stream =
    same_by q.key.stream h.stream (and-left (q.key.stream == h.stream) (is_live log q) among.passes) in
    let same : among.place ≡ h.serial =
    named.live_once among.place h.serial q is.place among.got is.found q_live (place-live log h is is.place is.key ∙ live)
    (q_stream ∙ sym (ap (λ (k : StreamKey). k.stream) is.key)) in
    ap Some (named.numbered among.place q among.got ∙ same)

pub live_stream_is_live_place : (state : PlacesState) (log : Log) (place : ℕ) (h : PlacedStream) → ArePlaces state log
    → AreNamed log →
    held_at state place ≡ Some h → h.phase ≢ held_ending → live_place log h.stream ≡ Some h.serial
unfolding live_place
live_stream_is_live_place state log place h are named at live =
    live_place-by state log named h (are.streams place h at) (not_ending-live h.phase live)
    (find (is_live_at log h.stream) (places log)) refl

-- What a place that passes holds.
record Passes (id : ℕ) (held : Option PlacedStream) : Type 0 where
  stream : PlacedStream
  holds : held ≡ Some stream
  named : stream.stream ≡ id
  live : is_live_held stream.phase ≡ true

passes : (id : ℕ) (held : Option PlacedStream) → is_live_as id held ≡ true → Passes id held
passes id None is = cc
passes id (Some h) is = record {
  stream = h;
  holds = refl;
  named = same_by h.stream id (and-left (h.stream == id) (is_live_held h.phase) is);
  live = and-right (h.stream == id) (is_live_held h.phase) is;
}

pub live_found : (state : PlacesState) (log : Log) (id place : ℕ) → ArePlaces state log → AreNamed log
    → position (is_live_as id) state.streams ≡ Some place →
    (h : PlacedStream) × (held_at state place ≡ Some h) × (h.stream ≡ id) × (h.phase ≢ held_ending)
    × (live_place log id ≡ Some h.serial)
live_found state log id place are named first =
    let at = position-Some (is_live_as id) state.streams place None first in
    let there : Passes id (held_at state place) = passes id (held_at state place) at.1 in
    let h : PlacedStream = there.stream in (
      h,
      there.holds,
      there.named,
      live-not_ending h.phase there.live,
      ap (λ n. live_place log n) (sym there.named)
          ∙ live_stream_is_live_place state log place h are named there.holds (live-not_ending h.phase there.live),
    )

-- Where no place passes.

none-shorter : (n m : ℕ) (b : Bool) → nat_lt n m ≡ b → ◌≡◌ {A = Option ℕ} (cond b (Some n) None) None → m ≤ n
none-shorter n m true is none = cc
none-shorter n m false is none = grind arith

position-none : {A : Type 0} (p : A → Bool) (xs : List A) → position p xs ≡ None → length xs ≤ position_or_len p xs
position-none p xs none = none-shorter (position_or_len p xs) (length xs) (nat_lt (position_or_len p xs) (length xs)) refl none

head-fails : (b : Bool) (n m : ℕ) → suc m ≤ cond (not b) (1 + n) 0 → (b ≡ false) × (m ≤ n)
head-fails true n m long = absurd (omega (arith, long))
head-fails false n m long = (refl, omega (arith, long))

all-fail : {A : Type 0} (p : A → Bool) (xs : List A) (i : ℕ) (d : A) → length xs ≤ position_or_len p xs → i < length xs
    → p (get_or xs i d) ≡ false
all-fail p [] i d long within = absurd (omega (arith, within))
all-fail p (x ∷ xs) zero d long within = (head-fails (p x) (position_or_len p xs) (length xs) long).0
all-fail p (x ∷ xs) (suc i) d long within =
    all-fail p xs i d (head-fails (p x) (position_or_len p xs) (length xs) long).1 (omega (arith, within))

live-lasts : (p : Phase) → is_live_phase p ≡ true → p ≢ Free
live-lasts Reaching is free = cc
live-lasts Joined is free = cc
live-lasts Ending is free = cc
live-lasts Free is free = cc

passes-as : (id : ℕ) (held : Option PlacedStream) (h : PlacedStream) → held ≡ Some h → h.stream ≡ id → is_live_held h.phase ≡ true
    → is_live_as id held ≡ true
passes-as id held h holds named live =
    ap (is_live_as id) holds ∙ both (h.stream == id) (is_live_held h.phase) (equal_true h.stream id named) live

none-passes : (state : PlacesState) (id place : ℕ) (h : PlacedStream) → position (is_live_as id) state.streams ≡ None
    → held_at state place ≡ Some h →
    h.stream ≡ id → is_live_held h.phase ≡ true → ⊥
none-passes state id place h none holds named live =
    true-false (is_live_as id (held_at state place)) (passes-as id (held_at state place) h holds named live)
    (all-fail (is_live_as id) state.streams place None (position-none (is_live_as id) state.streams none)
    (taken_within state place h holds))

none-by : (state : PlacesState) (log : Log) (id : ℕ) → ArePlaces state log → AreNamed log
    → position (is_live_as id) state.streams ≡ None →
    (x : Option Place) → find (is_live_at log id) (places log) ≡ x → option_map (λ (p : Place). p.key.serial) x ≡ None
none-by state log id are named none None found = refl
none-by state log id are named none (Some q) found =
    let among : IsAmong (is_live_at log id) (places log) q = found_among (is_live_at log id) (places log) q found in
    let q_live : is_live log q ≡ true = and-right (q.key.stream == id) (is_live log q) among.passes in
    let q_stream : q.key.stream ≡ id = same_by q.key.stream id (and-left (q.key.stream == id) (is_live log q) among.passes) in
    let numbered : q.key.serial ≡ among.place = named.numbered among.place q among.got in
    let alive : is_live_phase (phase log among.place) ≡ true = subst (λ n. is_live_phase (phase log n) ≡ true) numbered q_live in
    let lasts : phase log among.place ≢ Free = live-lasts (phase log among.place) alive in
    let kept : IsHeld state among.place = are.whole among.place (slice_get_within (places log) among.place q among.got) lasts in
    let is : IsOfLog log kept.stream = are.streams kept.place kept.stream kept.holds in
    let same : is.place ≡ q = same_some is.place q (sym is.found ∙ ap (λ n. place_at log n) kept.named ∙ among.got) in
    let key : q.key ≡ stream_key kept.stream = ap (λ (p : Place). p.key) (sym same) ∙ is.key in
    let stream : kept.stream.stream ≡ id = sym (ap (λ (k : StreamKey). k.stream) key) ∙ q_stream in
    let live : is_live_held kept.stream.phase ≡ true = sym (place-live log kept.stream is q key) ∙ q_live in
    absurd (none-passes state id kept.place kept.stream none kept.holds stream live)

pub none_live : (state : PlacesState) (log : Log) (id : ℕ) → ArePlaces state log → AreNamed log
    → position (is_live_as id) state.streams ≡ None → live_place log id ≡ None
unfolding live_place
none_live state log id are named none = none-by state log id are named none (find (is_live_at log id) (places log)) refl

serial-by : (state : PlacesState) (log : Log) (id : ℕ) → ArePlaces state log → AreNamed log → (x : Option ℕ)
    → position (is_live_as id) state.streams ≡ x →
    option_and_then (λ place. option_map (λ (h : PlacedStream). h.serial) (held_at state place)) x ≡ live_place log id
serial-by state log id are named None is = sym (none_live state log id are named is)
serial-by state log id are named (Some place) is =
    let found = live_found state log id place are named is in
    ap (option_map (λ (h : PlacedStream). h.serial)) found.1 ∙ sym found.4

pub live_serial : (state : PlacesState) (log : Log) (id : ℕ) → ArePlaces state log → AreNamed log →
    option_and_then (λ place. option_map (λ (h : PlacedStream). h.serial) (held_at state place))
    (position (is_live_as id) state.streams) ≡ live_place log id
live_serial state log id are named = serial-by state log id are named (position (is_live_as id) state.streams) refl
