-- StreamIDs that are live.
use Rattle.std.proofs.Common.{ltb, ◌≡◌, ℕ, zero, suc, ◌<◌, ◌≤◌, Bool, true, false, cond, not, ◌+◌, Option, Some, None, List, [], ◌∷◌, length, sym, ap, subst, ◌∙◌, ◌⊎◌, nat_eq, refl, arith, inl, inr}
use Rattle.std.specs.Prelude.{IsTrue, position, get_or, set}
use Rattle.std.specs.List.{position_or_len}
use Rattle.std.proofs.lemmas.Bool.{cases_eq, ltb-false, and_parts, eqb-true}
use Rattle.std.proofs.Math.Seq.{get_or-set_same, get_or-set_other}
use Rattle.stream_edge.specs.declared.placed_stream.PlacedStream.{PlacedStream}
use Rattle.stream_edge.specs.Streams.{begun, is_live_as}
use Rattle.stream_edge.specs.PlacesState.{LivesOnce}

-- A place behind the change of one of them: it holds what was put there, or what it held.
at_place : (streams : List (Option PlacedStream)) (place k : ℕ) (content : Option PlacedStream) → place < length streams
    → ((k ≡ place) × (get_or (set streams place content) k None ≡ content))
    ⊎ (get_or (set streams place content) k None ≡ get_or streams k None)
at_place streams place k content within = elim (cases_eq k place) [
  | inl same ↦ inl
      (same, ap (λ i. get_or (set streams place content) i None) same ∙ get_or-set_same streams place content None within)
  | inr apart ↦ inr (get_or-set_other streams place k content None apart)
]

-- What is live behind a change of one place was live there before, where only that is put there.
live_before : (streams : List (Option PlacedStream)) (place k id : ℕ) (content : Option PlacedStream) → place < length streams
    → ((id : ℕ) → IsTrue (is_live_as id content) → IsTrue (is_live_as id (get_or streams place None)))
    → IsTrue (is_live_as id (get_or (set streams place content) k None)) → IsTrue (is_live_as id (get_or streams k None))
live_before streams place k id content within lives live = elim (at_place streams place k content within) [
  | inl here ↦ subst (λ i. IsTrue (is_live_as id (get_or streams i None))) (sym here.0)
      (lives id (subst (λ o. IsTrue (is_live_as id o)) here.1 live))
  | inr here ↦ subst (λ o. IsTrue (is_live_as id o)) here live
]

pub LivesOnce-set : (streams : List (Option PlacedStream)) (place : ℕ) (content : Option PlacedStream) → LivesOnce streams
    → place < length streams
    → ((id : ℕ) → IsTrue (is_live_as id content) → IsTrue (is_live_as id (get_or streams place None)))
    → LivesOnce (set streams place content)
LivesOnce-set streams place content once within lives = λ one other id a b.
    once one other id (live_before streams place one id content within lives a)
    (live_before streams place other id content within lives b)

-- Where no place is live with a StreamID, each place isn't.
head_fails : (b : Bool) (n m : ℕ) → suc m ≤ cond (not b) (1 + n) 0 → (b ≡ false) × (m ≤ n)
head_fails true n m long = absurd (omega (arith, long))
head_fails false n m long = (refl, omega (arith, long))

all_fail : (t : Option PlacedStream → Bool) (xs : List (Option PlacedStream)) (k : ℕ) → t None ≡ false
    → length xs ≤ position_or_len t xs
    → t (get_or xs k None) ≡ false
all_fail t [] k off long = off
all_fail t (x ∷ xs) zero off long = (head_fails (t x) (position_or_len t xs) (length xs) long).0
all_fail t (x ∷ xs) (suc k) off long = all_fail t xs k off (head_fails (t x) (position_or_len t xs) (length xs) long).1

none_by : (n m : ℕ) (b : Bool) → ltb n m ≡ b → ◌≡◌ {A = Option ℕ} (cond b (Some n) None) None → m ≤ n
none_by n m true is none = cc
none_by n m false is none = ltb-false n m is

no_other : (streams : List (Option PlacedStream)) (id k : ℕ) → position (is_live_as id) streams ≡ None
    → IsTrue (is_live_as id (get_or streams k None)) → ⊥
no_other streams id k none live =
    let long : length streams ≤ position_or_len (is_live_as id) streams =
    none_by (position_or_len (is_live_as id) streams) (length streams)
    (ltb (position_or_len (is_live_as id) streams) (length streams)) refl none in
    let off : is_live_as id (get_or streams k None) ≡ false = all_fail (is_live_as id) streams k refl long in
    cc

named : (id serial other : ℕ) → IsTrue (is_live_as other (Some (begun id serial))) → id ≡ other
named id serial other live = eqb-true id other (and_parts (nat_eq id other) true live).0

-- A stream that was just accepted is live at its place alone.
pub LivesOnce-begun : (streams : List (Option PlacedStream)) (place id serial : ℕ) → LivesOnce streams → place < length streams
    → position (is_live_as id) streams ≡ None → LivesOnce (set streams place (Some (begun id serial)))
LivesOnce-begun streams place id serial once within new = λ one other live a b.
    let content : Option PlacedStream = Some (begun id serial) in
    elim (at_place streams place one content within) [
      | inl here ↦
          let is : id ≡ live = named id serial live (subst (λ o. IsTrue (is_live_as live o)) here.1 a) in
          elim (at_place streams place other content within) [
            | inl there ↦ here.0 ∙ sym there.0
            | inr there ↦
                absurd (no_other streams id other new
                (subst (λ i. IsTrue (is_live_as i (get_or streams other None))) (sym is)
                (subst (λ o. IsTrue (is_live_as live o)) there b)))
          ]
      | inr here ↦
          elim (at_place streams place other content within) [
            | inl there ↦
                let is : id ≡ live = named id serial live (subst (λ o. IsTrue (is_live_as live o)) there.1 b) in
                absurd (no_other streams id one new
                (subst (λ i. IsTrue (is_live_as i (get_or streams one None))) (sym is)
                (subst (λ o. IsTrue (is_live_as live o)) here a)))
            | inr there ↦
                once one other live (subst (λ o. IsTrue (is_live_as live o)) here a)
                (subst (λ o. IsTrue (is_live_as live o)) there b)
          ]
    ]
