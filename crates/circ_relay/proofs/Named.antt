-- How places are numbered and named in every log of a history.
use Rattle.std.proofs.Common.{◌≡◌, ◌⊎◌, inl, inr, ℕ, ◌==◌, ◌&&◌, ◌||◌, List, [], ◌∷◌, length, Bool, true, false, Option, Some, None, refl, sym, ap, ◌∙◌, arith, find, option_map}
use Rattle.std.specs.Prelude.{slice_get}
use Rattle.circuit_model.specs.Events.{Event}
use Rattle.circuit_model.specs.Rules.{Rules}
use Rattle.circuit_model.specs.Log.{Entry, Log, Order}
use Rattle.circuit_model.specs.declared.effects.Order.TheVariants.{Reach, Carry, Close}
use Rattle.circuit_model.specs.Places.{Place, places, place_at, place_of, phase, is_live, is_live_phase, live_place, connects, frees, closes_place, is_connected, is_ended, is_freed}
use Rattle.circuit_model.specs.Effects.{effects_after}
use Rattle.circuit_model.specs.Words.{entry_after, log}
use Rattle.circ_relay.specs.PlacesOfLog.{AreNamed}
use Rattle.circ_relay.proofs.Telling.{place_stays, by_bits}
use Rattle.circ_relay.proofs.Begun.{places_more}
use Rattle.circ_relay.proofs.Lists.{same_some, map_none, got_split, nothing_found, IsAmong, found_among}
use Rattle.circ_relay.proofs.Naming.{event_names}

-- A place that is live was live before.

live-by : (a b c f e k : Bool) → is_live_phase (by_bits (a || f) (b || e) (c || k)) ≡ true → is_live_phase (by_bits f e k) ≡ true
unfolding by_bits
live-by true b c f e k is = cc
live-by false b c true e k is = cc
live-by false true c false e k is = cc
live-by false false c false true k is = cc
live-by false false c false false true is = refl
live-by false false c false false false is = refl

pub live_before : (entry : Entry) (log : Log) (place : Place) → is_live (entry ∷ log) place ≡ true → is_live log place ≡ true
unfolding phase by_bits
live_before entry log place is =
    live-by (frees place.key.serial entry.event) (closes_place place.key.serial entry.effects.edge)
    (connects place.key.serial entry.event)
    (is_freed log place.key.serial) (is_ended log place.key.serial) (is_connected log place.key.serial) is

-- A StreamID that is live at no place.

pub both : (a b : Bool) → a ≡ true → b ≡ true → (a && b) ≡ true
both true true p q = refl
both true false p q = cc
both false b p q = cc

pub true-false : (b : Bool) → b ≡ true → b ≡ false → ⊥
true-false b one other = cc

pub equal_true : (n m : ℕ) → n ≡ m → (n == m) ≡ true
equal_true n m same = grind arith

pub absent : (log : Log) (stream serial : ℕ) (place : Place) → live_place log stream ≡ None → place_at log serial ≡ Some place
    → place.key.stream ≡ stream → is_live log place ≡ true → ⊥
unfolding live_place
absent log stream serial place none found named live =
    true-false ((place.key.stream == stream) && is_live log place)
    (both (place.key.stream == stream) (is_live log place) (equal_true place.key.stream stream named) live)
    (nothing_found (λ (p : Place). (p.key.stream == stream) && is_live log p) (places log) serial place
    (map_none (λ (p : Place). p.key.serial) (find (λ (p : Place). (p.key.stream == stream) && is_live log p) (places log)) none)
    found)

-- Where no place is made.
named-same : (log : Log) (entry : Entry) → AreNamed log → place_of entry.effects.edge ≡ None → AreNamed (entry ∷ log)
named-same log entry named none = record {
  numbered = λ serial place found. named.numbered serial place (sym (place_stays entry log serial none) ∙ found);
  nonzero = λ serial place found. named.nonzero serial place (sym (place_stays entry log serial none) ∙ found);
  live_once = λ one other p q found also live alive same.
      named.live_once one other p q (sym (place_stays entry log one none) ∙ found) (sym (place_stays entry log other none) ∙ also)
      (live_before entry log p live) (live_before entry log q alive) same;
}

-- Where the next place is made.
pub record IsNext (log : Log) (made : Place) : Type 0 where
  pub serial : made.key.serial ≡ length (places log)
  pub nonzero : (made.key.stream == 0) ≡ false
  pub fresh : live_place log made.key.stream ≡ None

either : Log → Place → ℕ → Place → Type 0
either log made serial place = (place_at log serial ≡ Some place) ⊎ ((serial ≡ length (places log)) × (place ≡ made))

split : (log : Log) (entry : Entry) (made : Place) → place_of entry.effects.edge ≡ Some made → (serial : ℕ) (place : Place) →
    place_at (entry ∷ log) serial ≡ Some place → either log made serial place
unfolding either
split log entry made makes serial place found =
    got_split (places log) made place serial
    (sym (ap (λ (xs : List Place). slice_get xs serial) (places_more entry log made makes)) ∙ found)

numbered-by : (log : Log) (made : Place) → AreNamed log → IsNext log made → (serial : ℕ) (place : Place)
    → either log made serial place → place.key.serial ≡ serial
unfolding either
numbered-by log made named next serial place (inl old) = named.numbered serial place old
numbered-by log made named next serial place (inr new) = ap (λ (p : Place). p.key.serial) new.1 ∙ next.serial ∙ sym new.0

nonzero-by : (log : Log) (made : Place) → AreNamed log → IsNext log made → (serial : ℕ) (place : Place)
    → either log made serial place → (place.key.stream == 0) ≡ false
unfolding either
nonzero-by log made named next serial place (inl old) = named.nonzero serial place old
nonzero-by log made named next serial place (inr new) = ap (λ (p : Place). p.key.stream == 0) new.1 ∙ next.nonzero

live_once-by : (log : Log) (made : Place) → AreNamed log → IsNext log made → (one other : ℕ) (p q : Place)
    → either log made one p → either log made other q →
    is_live log p ≡ true → is_live log q ≡ true → p.key.stream ≡ q.key.stream → one ≡ other
unfolding either
live_once-by log made named next one other p q (inl old) (inl also) live alive same =
    named.live_once one other p q old also live alive same
live_once-by log made named next one other p q (inl old) (inr new) live alive same =
    absurd (absent log made.key.stream one p next.fresh old (same ∙ ap (λ (x : Place). x.key.stream) new.1) live)
live_once-by log made named next one other p q (inr new) (inl old) live alive same =
    absurd (absent log made.key.stream other q next.fresh old (sym same ∙ ap (λ (x : Place). x.key.stream) new.1) alive)
live_once-by log made named next one other p q (inr new) (inr also) live alive same = new.0 ∙ sym also.0

named-new : (log : Log) (entry : Entry) (made : Place) → place_of entry.effects.edge ≡ Some made → AreNamed log → IsNext log made
    → AreNamed (entry ∷ log)
named-new log entry made makes named next = record {
  numbered = λ serial place found. numbered-by log made named next serial place (split log entry made makes serial place found);
  nonzero = λ serial place found. nonzero-by log made named next serial place (split log entry made makes serial place found);
  live_once = λ one other p q found also live alive same.
      live_once-by log made named next one other p q (split log entry made makes one p found)
      (split log entry made makes other q also)
      (live_before entry log p live) (live_before entry log q alive) same;
}

order-made : (order : Option Order) (made : Place) → place_of order ≡ Some made → order ≡ Some (Reach made.key made.to)
order-made None made is = cc
order-made (Some (Reach key to)) made is =
    ap (λ (p : Place). Some (Reach p.key p.to)) (same_some (record { key = key; to = to }) made is)
order-made (Some (Carry key bytes)) made is = cc
order-made (Some (Close key reason)) made is = cc

named-by : (rules : Rules) (log : Log) (e : Event) → AreNamed log → (x : Option Place)
    → place_of (effects_after rules log e).edge ≡ x → AreNamed (entry_after rules log e ∷ log)
named-by rules log e named None is = named-same log (entry_after rules log e) named is
named-by rules log e named (Some made) is =
    let facts = (event_names rules log e).names made.key made.to (order-made (effects_after rules log e).edge made is) in
    named-new log (entry_after rules log e) made is named (record { serial = facts.0; nonzero = facts.1; fresh = facts.2 })

pub named_more : (rules : Rules) (log : Log) (e : Event) → AreNamed log → AreNamed (entry_after rules log e ∷ log)
named_more rules log e named = named-by rules log e named (place_of (effects_after rules log e).edge) refl

nothing-got : (serial : ℕ) (place : Place) → ◌≡◌ {A = Option Place} None (Some place) → ⊥
nothing-got serial place is = cc

pub start_is_named : AreNamed []
start_is_named = record {
  numbered = λ serial place found. absurd (nothing-got serial place found);
  nonzero = λ serial place found. absurd (nothing-got serial place found);
  live_once = λ one other p q found also live alive same. absurd (nothing-got one p found);
}

pub history_is_named : (rules : Rules) (h : List Event) → AreNamed (log rules h)
history_is_named rules [] = start_is_named
history_is_named rules (e ∷ h) = named_more rules (log rules h) e (history_is_named rules h)

-- StreamID 0.

pub and-left : (a b : Bool) → (a && b) ≡ true → a ≡ true
and-left true b is = refl
and-left false b is = cc

zero-by : (log : Log) → AreNamed log → (x : Option Place)
    → find (λ (p : Place). (p.key.stream == 0) && is_live log p) (places log) ≡ x
    → option_map (λ (p : Place). p.key.serial) x ≡ None
zero-by log named None is = refl
zero-by log named (Some place) is =
    let among : IsAmong (λ (p : Place). (p.key.stream == 0) && is_live log p) (places log) place =
    found_among (λ (p : Place). (p.key.stream == 0) && is_live log p) (places log) place is in
    absurd (true-false (place.key.stream == 0) (and-left (place.key.stream == 0) (is_live log place) among.passes)
    (named.nonzero among.place place among.got))

pub zero_is_not_live : (log : Log) → AreNamed log → live_place log 0 ≡ None
unfolding live_place
zero_is_not_live log named = zero-by log named (find (λ (p : Place). (p.key.stream == 0) && is_live log p) (places log)) refl
