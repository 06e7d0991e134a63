-- The numbers of a direction's bodies among all bodies of the switch.
use Rattle.std.proofs.Common.{◌++◌, ◌+◌, ◌<◌, ◌∙◌, ◌∷◌, ◌≡◌, ◌⊎◌, Bool, List, Some, [], arith, false, if◌then◌else◌, inl, inr, length, refl, slice_get, suc, sym, true, zero, ℕ}
use Rattle.std.proofs.lemmas.Grind.{common_steps}
use Rattle.std.proofs.lemmas.Option.{gets}
use Rattle.tr_io.specs.declared.names.Dir.{Dir}
use Rattle.tr_io.specs.declared.names.Dir.TheVariants.{Back, Forth}
use Rattle.switch_model.specs.History.EdgePast.{numbers_of}
use Rattle.switch_model.specs.Names.{Way, same_dir, same_way}
use Rattle.switch_model.specs.Waiting.Claims.{count_way}
use Rattle.switch_model.proofs.ClaimFinds.{way-is}
use Rattle.switch_model.proofs.Common.{self_eq}

self-dir : (a : Dir) → same_dir a a ≡ true
self-dir Forth = refl
self-dir Back = refl

pub self-way : (a : Way) → same_way a a ≡ true
self-way a = rw (self_eq a.circ) (self-dir a.dir)

push-get : {A : Type 0} (xs : List A) (x y : A) (i : ℕ) → slice_get (xs ++ x ∷ []) i ≡ Some y
    → (slice_get xs i ≡ Some y) ⊎ ((i ≡ length xs) × (x ≡ y))
push-get [] x y zero e = inr (refl, cc)
push-get [] x y (suc i) e = absurd cc
push-get (z ∷ xs) x y zero e = inl e
push-get (z ∷ xs) x y (suc i) e = elim (push-get xs x y i e) [ inl f ↦ inl f | inr f ↦ inr (rw (f.0) refl, f.1) ]

pub get-push : {A : Type 0} (xs : List A) (x y : A) (i : ℕ) → slice_get xs i ≡ Some y → slice_get (xs ++ x ∷ []) i ≡ Some y
get-push [] x y i e = absurd cc
get-push (z ∷ xs) x y zero e = e
get-push (z ∷ xs) x y (suc i) e = get-push xs x y i e

pub get-at-end : {A : Type 0} (xs : List A) (x : A) (i : ℕ) → i ≡ length xs → slice_get (xs ++ x ∷ []) i ≡ Some x
get-at-end xs x i e = grind (arith, common_steps, gets)

length-by : (w : Way) (older : List Way) (b : Bool) → length (numbers_of w older) ≡ count_way w older →
    length (if b then numbers_of w older ++ length older ∷ [] else numbers_of w older)
    ≡ (if b then count_way w older + 1 else count_way w older)
length-by w older true e = grind (arith, common_steps)
length-by w older false e = e

pub numbers-length : (w : Way) (l : List Way) → length (numbers_of w l) ≡ count_way w l
numbers-length w [] = refl
numbers-length w (other ∷ older) = length-by w older (same_way other w) (numbers-length w older)

-- a number that a direction has: an older one, or the newest body
pub number-by : (w : Way) (older : List Way) (b : Bool) (i n : ℕ)
    → slice_get (if b then numbers_of w older ++ length older ∷ [] else numbers_of w older) i ≡ Some n →
    (slice_get (numbers_of w older) i ≡ Some n) ⊎ ((b ≡ true) × ((i ≡ count_way w older) × (n ≡ length older)))
number-by w older true i n e = elim (push-get (numbers_of w older) (length older) n i e) [ inl f ↦ inl f | inr f ↦ inr (refl, (f.0 ∙ numbers-length w older, sym f.1)) ]
number-by w older false i n e = inl e

pub numbers-below : (w : Way) (l : List Way) (i n : ℕ) → slice_get (numbers_of w l) i ≡ Some n → n < length l
numbers-below w [] i n e = absurd cc
numbers-below w (other ∷ older) i n e = elim (number-by w older (same_way other w) i n e) [ inl f ↦ omega (arith, numbers-below w older i n f) | inr f ↦ omega (arith, f.1.1) ]

-- a number is of one direction
pub numbers-apart : (v w : Way) (l : List Way) (i j n : ℕ) → slice_get (numbers_of v l) i ≡ Some n
    → slice_get (numbers_of w l) j ≡ Some n → v ≡ w
numbers-apart v w [] i j n e f = absurd cc
numbers-apart v w (other ∷ older) i j n e f = elim (number-by v older (same_way other v) i n e) [
  | inl old ↦ elim (number-by w older (same_way other w) j n f) [
    | inl old_too ↦ numbers-apart v w older i j n old old_too
    | inr new ↦ absurd (omega (arith, numbers-below v older i n old, new.1.1))
  ]
  | inr new ↦ elim (number-by w older (same_way other w) j n f) [
    | inl old ↦ absurd (omega (arith, numbers-below w older j n old, new.1.1))
    | inr new_too ↦ sym (way-is other v new.0) ∙ way-is other w new_too.0
  ]
]
