-- In a legal history a leg has one CircID, the one that it was made with, and a leg that has lost it never gets
-- one again.
use Rattle.std.proofs.Common.{◌≡◌, ℕ, ◌+◌, ◌≤◌, ◌<◌, ◌==◌, ◌&&◌, Bool, true, false, if◌then◌else◌, is_some, List, [], ◌∷◌, Option, Some, None, refl, sym, ◌∙◌, ap, arith}
use Rattle.std.proofs.lemmas.Bool.Decides.{nat_tests}
use Rattle.tr_io.specs.declared.answers.BackAnswer.{BackAnswer}
use Rattle.tr_io.specs.declared.answers.DialAnswer.{DialAnswer}
use Rattle.tr_io.specs.declared.answers.OpenAnswer.TheVariants.{Opened}
use Rattle.tr_io.specs.declared.step.Step.{Step}
use Rattle.tr_io.specs.declared.step.Step.TheVariants.{ChannelDown, OpenCircuit, Take, NextCell, DialDone}
use Rattle.switch_model.specs.Start.{SwitchStart}
use Rattle.switch_model.specs.Names.{Leg, is_leg}
use Rattle.switch_model.specs.History.Channels.{next_given_id}
use Rattle.switch_model.specs.History.Legs.{Port, port, circuits, hops, at, is_destroy_for}
use Rattle.switch_model.specs.Legal.{IsLegal}
use Rattle.switch_model.proofs.Common.{and-first, and-second, and-false, same-number}
use Rattle.switch_model.proofs.Unopened.{opened-number}

-- a port that was given tells that its leg was made
not-zero : (n : ℕ) → (0 == n + 1) ≡ false
not-zero n = grind (arith, nat_tests)

other-by : (b : Bool) (n c : ℕ) → (n == c) ≡ b → (n ≡ c → ⊥) → (n == c) ≡ false
other-by true n c is unlike = absurd (unlike (same-number n c is))
other-by false n c is unlike = is

pub no-client-leg : (start : SwitchStart) (h : List Step) → IsLegal start h → (c : ℕ) → circuits h ≤ c → port h c 0 ≡ None
no-client-leg start [] legal c beyond = refl
no-client-leg start (OpenCircuit chan id reply keys pad (Opened n) ∷ h) legal c beyond =
    let number = opened-number start h chan.0 id keys n legal.0.1 in
    let other = other-by (n.0 == c) n.0 c refl (λ same. omega (arith, number, same, beyond)) in
    rw other (no-client-leg start h legal.1 c (omega (arith, beyond)))
no-client-leg start (DialDone order outcome (DialAnswer.Up n) ∷ h) legal c beyond =
    rw (not-zero (hops h c), and-false (order.circ.0 == c)) (no-client-leg start h legal.1 c beyond)
no-client-leg start (s ∷ h) legal c beyond = no-client-leg start h legal.1 c beyond

hop-other : (b : Bool) (here count k : ℕ) → (if b then count + 1 else count) < k → (b && (k == count + 1)) ≡ false
hop-other true here count k above = grind (arith, nat_tests)
hop-other false here count k above = refl

hops-before : (b : Bool) (count k : ℕ) → (if b then count + 1 else count) < k → count < k
hops-before true count k above = omega (arith, above)
hops-before false count k above = above

above-zero : (n k : ℕ) → n < k → (k == 0) ≡ false
above-zero n k above = grind (arith, nat_tests)

pub no-hop-leg : (h : List Step) (c k : ℕ) → hops h c < k → port h c k ≡ None
no-hop-leg [] c k above = refl
no-hop-leg (OpenCircuit chan id reply keys pad (Opened n) ∷ h) c k above =
    rw (above-zero (hops h c) k above, and-false (n.0 == c)) (no-hop-leg h c k above)
no-hop-leg (DialDone order outcome (DialAnswer.Up n) ∷ h) c k above =
    rw (hop-other (order.circ.0 == c) 0 (hops h c) k above)
    (no-hop-leg h c k (hops-before (order.circ.0 == c) (hops h c) k above))
no-hop-leg (s ∷ h) c k above = no-hop-leg h c k above

-- whether a step makes leg k of circuit c
abbrev pub makes_leg : List Step → ℕ → ℕ → Step → Bool
makes_leg h c k (OpenCircuit chan id reply keys pad (Opened n)) = (n.0 == c) && (k == 0)
makes_leg h c k (DialDone order outcome (DialAnswer.Up n)) = (order.circ.0 == c) && (k == hops h c + 1)
makes_leg h c k s = false

-- such a leg is new
pub leg-new : (start : SwitchStart) (h : List Step) (s : Step) (c k : ℕ) → IsLegal start (s ∷ h) → makes_leg h c k s ≡ true
    → port h c k ≡ None
leg-new start h (OpenCircuit chan id reply keys pad (Opened n)) c k legal makes =
    let number = opened-number start h chan.0 id keys n legal.0.1 in
    let same = same-number n.0 c (and-first (n.0 == c) _ makes) in
    let zero_leg = same-number k 0 (and-second (n.0 == c) _ makes) in
    rw zero_leg (no-client-leg start h legal.1 c (omega (arith, number, same)))
leg-new start h (DialDone order outcome (DialAnswer.Up n)) c k legal makes =
    let last = same-number k (hops h c + 1) (and-second (order.circ.0 == c) _ makes) in
    no-hop-leg h c k (omega (arith, last))
leg-new start h s c k legal makes = absurd cc

-- the others keep theirs
pub none-leg : (c k : ℕ) (b : Bool) (x : Option Leg) → is_leg c k (if b then None else x) ≡ true → is_leg c k x ≡ true
none-leg c k true x is = absurd cc
none-leg c k false x is = is

-- a leg that has a CircID behind a step has it before or is made by the step
made-or : (b m : Bool) (c k lc lk : ℕ) (x : Option Leg) → m ≡ false → ((lc == c) && (lk == k)) ≡ m
    → is_leg c k (if b then Some (record { circ = lc; number = lk }) else x) ≡ true → is_leg c k x ≡ true
made-or true m c k lc lk x none is here = let no : true ≡ false = sym here ∙ is ∙ none in absurd cc
made-or false m c k lc lk x none is here = here

turned-zero : (k : ℕ) → (0 == k) ≡ (k == 0)
turned-zero k = grind (arith, nat_tests)

pub turned : (a b : ℕ) → (a == b) ≡ (b == a)
turned a b = grind (arith, nat_tests)

pub link-same : (b : Bool) (h : List Step) (n c k : ℕ) → (n == c) ≡ b
    → ((n == c) && (hops h n + 1 == k)) ≡ ((n == c) && (k == hops h c + 1))
link-same true h n c k is = let same = same-number n c is in rw (is, same) (turned (hops h c + 1) k)
link-same false h n c k is = rw is refl

pub leg-before : (start : SwitchStart) (h : List Step) (s : Step) (c k chan id : ℕ) → makes_leg h c k s ≡ false
    → is_leg c k (at (s ∷ h) chan id) ≡ true → is_leg c k (at h chan id) ≡ true
leg-before start h (OpenCircuit n i reply keys pad (Opened m)) c k chan id none is =
    made-or ((n.0 == chan) && (i == id)) _ c k m.0 0 (at h chan id) none (ap (λ b. (m.0 == c) && b) (turned-zero k)) is
leg-before start h (DialDone order outcome (DialAnswer.Up n)) c k chan id none is =
    made-or ((n.0 == chan) && (next_given_id h chan == id)) _ c k order.circ.0 (hops h order.circ.0 + 1) (at h chan id) none
    (link-same (order.circ.0 == c) h order.circ.0 c k refl) is
leg-before start h (NextCell n tick (Some cell)) c k chan id none is =
    none-leg c k (is_destroy_for n cell chan id) (at h chan id) is
leg-before start h (Take n cell answer) c k chan id none is = none-leg c k (is_destroy_for n cell chan id) (at h chan id) is
leg-before start h (ChannelDown n BackAnswer.Settled) c k chan id none is = none-leg c k (n.0 == chan) (at h chan id) is
leg-before start h s c k chan id none is = is

pub port-before : (h : List Step) (s : Step) (c k : ℕ) → makes_leg h c k s ≡ false → port (s ∷ h) c k ≡ port h c k
port-before h (OpenCircuit chan id reply keys pad (Opened n)) c k none = rw none refl
port-before h (DialDone order outcome (DialAnswer.Up n)) c k none = rw none refl
port-before h s c k none = refl

-- the port of a leg that is made
port-is : (chan id a b : ℕ) → a ≡ chan → b ≡ id
    → ◌≡◌ {A = Option Port} (Some (record { chan = a; id = b })) (Some (record { chan = chan; id = id }))
port-is chan id a b same_chan same_id = rw (same_chan, same_id) refl

here-or : (b : Bool) (c k : ℕ) (leg : Leg) (x : Option Leg) → is_leg c k (if b then Some leg else x) ≡ true
    → (is_leg c k x ≡ true → ⊥) → b ≡ true
here-or true c k leg x is none = refl
here-or false c k leg x is none = absurd (none is)

none-some : {A : Type 0} (x : A) → ◌≡◌ {A = Option A} None (Some x) → ⊥
none-some x same = cc

ported-new : (start : SwitchStart) (h : List Step) (s : Step) (c k chan id : ℕ) → makes_leg h c k s ≡ true
    → (is_leg c k (at h chan id) ≡ true → ⊥) → is_leg c k (at (s ∷ h) chan id) ≡ true →
    port (s ∷ h) c k ≡ Some (record { chan = chan; id = id })
ported-new start h (OpenCircuit n i reply keys pad (Opened m)) c k chan id makes none is =
    let both = here-or ((n.0 == chan) && (i == id)) c k _ (at h chan id) is none in
    rw makes (port-is chan id n.0 i (same-number n.0 chan (and-first (n.0 == chan) _ both))
    (same-number i id (and-second (n.0 == chan) _ both)))
ported-new start h (DialDone order outcome (DialAnswer.Up n)) c k chan id makes none is =
    let both = here-or ((n.0 == chan) && (next_given_id h chan == id)) c k _ (at h chan id) is none in
    let same_chan = same-number n.0 chan (and-first (n.0 == chan) _ both) in
    rw makes (port-is chan id n.0 (next_given_id h n.0) same_chan
    (ap (next_given_id h) same_chan ∙ same-number (next_given_id h chan) id (and-second (n.0 == chan) _ both)))
ported-new start h s c k chan id makes none is = absurd cc

ported-by : (start : SwitchStart) (h : List Step) (s : Step) (c k chan id : ℕ) (b : Bool) → makes_leg h c k s ≡ b
    → IsLegal start (s ∷ h) → (is_leg c k (at h chan id) ≡ true → port h c k ≡ Some (record { chan = chan; id = id })) →
    is_leg c k (at (s ∷ h) chan id) ≡ true → port (s ∷ h) c k ≡ Some (record { chan = chan; id = id })
ported-by start h s c k chan id true makes legal before is =
    ported-new start h s c k chan id makes
    (λ was. none-some (record { chan = chan; id = id }) (sym (leg-new start h s c k legal makes) ∙ before was)) is
ported-by start h s c k chan id false makes legal before is =
    port-before h s c k makes ∙ before (leg-before start h s c k chan id makes is)

pub ported : (start : SwitchStart) (h : List Step) → IsLegal start h → (c k chan id : ℕ) → is_leg c k (at h chan id) ≡ true
    → port h c k ≡ Some (record { chan = chan; id = id })
ported start [] legal c k chan id is = absurd cc
ported start (s ∷ h) legal c k chan id is =
    ported-by start h s c k chan id (makes_leg h c k s) refl legal (ported start h legal.1 c k chan id) is

-- a leg that was made and has lost its CircID
pub record Lost (h : List Step) (c k : ℕ) : Type 0 where
  pub made : is_some (port h c k) ≡ true
  pub gone : (chan id : ℕ) → is_leg c k (at h chan id) ≡ true → ⊥

none-made : (p : Option Port) → is_some p ≡ true → p ≡ None → ⊥
none-made None made none = cc
none-made (Some place) made none = cc

stays-by : (start : SwitchStart) (h : List Step) (s : Step) (c k : ℕ) (b : Bool) → makes_leg h c k s ≡ b → IsLegal start (s ∷ h)
    → Lost h c k → Lost (s ∷ h) c k
stays-by start h s c k true makes legal lost = absurd (none-made (port h c k) lost.made (leg-new start h s c k legal makes))
stays-by start h s c k false makes legal lost = record {
  made = ap is_some (port-before h s c k makes) ∙ lost.made;
  gone = λ chan id is. lost.gone chan id (leg-before start h s c k chan id makes is);
}

pub stays-lost : (start : SwitchStart) (h : List Step) (s : Step) (c k : ℕ) → IsLegal start (s ∷ h) → Lost h c k
    → Lost (s ∷ h) c k
stays-lost start h s c k legal lost = stays-by start h s c k (makes_leg h c k s) refl legal lost
