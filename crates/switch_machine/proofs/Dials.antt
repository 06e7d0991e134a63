-- The circuits whose dial order is handed out again, where dial orders change.
use Rattle.std.proofs.Common.{◌≡◌, ℕ, ◌==◌, ◌≤◌, Bool, true, false, not, if◌then◌else◌, List, [], ◌∷◌, Option, refl}
use Rattle.std.specs.List.{AllByRecursion, filter}
use Rattle.switch_machine.specs.State.{DialState}
use Rattle.switch_machine.specs.Machine.{is_among, is_handed_out, again_with}
use Rattle.switch_machine.specs.Stands.Dials.{AreOnce, DialsStand}
use Rattle.switch_model.proofs.Common.{or-first, or-second, same-number}

-- each order that is out stays out
pub again-kept : (f g : ℕ → Option DialState) (again : List ℕ)
    → ((c : ℕ) → is_handed_out (f c) ≡ true → is_handed_out (g c) ≡ true) →
    AllByRecursion (λ c. is_handed_out (f c) ≡ true) again → AllByRecursion (λ c. is_handed_out (g c) ≡ true) again
again-kept f g [] same all = tt
again-kept f g (c ∷ again) same all = (same c all.0, again-kept f g again same all.1)

-- the order of circuit c alone changes, or ends

kept-one : (f g : ℕ → Option DialState) (c d : ℕ) (rest : List ℕ) (b : Bool) → (d == c) ≡ b → (b ≡ false → g d ≡ f d)
    → is_handed_out (f d) ≡ true →
    AllByRecursion (λ e. is_handed_out (g e) ≡ true) rest
    → AllByRecursion (λ e. is_handed_out (g e) ≡ true) (if not b then d ∷ rest else rest)
kept-one f g c d rest true is same out all = all
kept-one f g c d rest false is same out all = (rw (same refl) out, all)

without-out : (f g : ℕ → Option DialState) (c : ℕ) (again : List ℕ) → ((d : ℕ) → (d == c) ≡ false → g d ≡ f d) →
    AllByRecursion (λ d. is_handed_out (f d) ≡ true) again
    → AllByRecursion (λ d. is_handed_out (g d) ≡ true) (filter (λ d. not (d == c)) again)
without-out f g c [] same all = tt
without-out f g c (d ∷ again) same all = kept-one f g c d _ (d == c) refl (same d) all.0 (without-out f g c again same all.1)

among-one : (n d : ℕ) (rest : List ℕ) (b : Bool) → (d == n) ≡ false → is_among n rest ≡ false
    → is_among n (if b then d ∷ rest else rest) ≡ false
among-one n d rest true other none = rw (other, none) refl
among-one n d rest false other none = none

among-less : (n : ℕ) (test : ℕ → Bool) (again : List ℕ) → is_among n again ≡ false → is_among n (filter test again) ≡ false
among-less n test [] none = refl
among-less n test (d ∷ again) none =
    among-one n d _ (test d) (or-first (d == n) _ none) (among-less n test again (or-second (d == n) _ none))

once-one : (d : ℕ) (rest : List ℕ) (b : Bool) → is_among d rest ≡ false → AreOnce rest → AreOnce (if b then d ∷ rest else rest)
once-one d rest true none once = (none, once)
once-one d rest false none once = once

once-less : (test : ℕ → Bool) (again : List ℕ) → AreOnce again → AreOnce (filter test again)
once-less test [] once = tt
once-less test (d ∷ again) once = once-one d _ (test d) (among-less d test again once.0) (once-less test again once.1)

stays-out : (f g : ℕ → Option DialState) (c : ℕ) → ((d : ℕ) → (d == c) ≡ false → g d ≡ f d) → is_handed_out (g c) ≡ true
    → (d : ℕ) (b : Bool) → (d == c) ≡ b → is_handed_out (f d) ≡ true → is_handed_out (g d) ≡ true
stays-out f g c same out d true is before = let here : d ≡ c = same-number d c is in rw here out
stays-out f g c same out d false is before = rw (same d is) before

changed-by : (again : List ℕ) (f g : ℕ → Option DialState) (c many more : ℕ) (old new : ℕ → Bool) (b : Bool)
    → is_handed_out (g c) ≡ b → ((d : ℕ) → (d == c) ≡ false → g d ≡ f d) → ((order : ℕ) → more ≤ order → new order ≡ false) →
    DialsStand again f many old → DialsStand (if b then again else filter (λ d. not (d == c)) again) g more new
changed-by again f g c many more old new true is same never own = record {
  are_out = again-kept f g again (λ d. stays-out f g c same is d (d == c) refl) own.are_out;
  once = own.once;
  never = never;
}
changed-by again f g c many more old new false is same never own = record {
  are_out = without-out f g c again same own.are_out;
  once = once-less (λ d. not (d == c)) again own.once;
  never = never;
}

pub dials-changed : (again : List ℕ) (f g : ℕ → Option DialState) (c many more : ℕ) (old new : ℕ → Bool) (dial : Option DialState)
    → g c ≡ dial → ((d : ℕ) → (d == c) ≡ false → g d ≡ f d) → ((order : ℕ) → more ≤ order → new order ≡ false) →
    DialsStand again f many old → DialsStand (again_with c dial again) g more new
dials-changed again f g c many more old new dial is same never own =
    rw (← is) (changed-by again f g c many more old new (is_handed_out (g c)) refl same never own)
