-- A step leaves the orders, dials and body numbers of each circuit that it doesn't concern.
use Rattle.std.proofs.Common.{◌≡◌, ℕ, ◌+◌, ◌-◌, zero, suc, ◌==◌, Bool, true, false, List, [], ◌∷◌, ◌++◌, length, replicate, Option, Some, None, refl, ◌∙◌, ap, append_assoc}
use Rattle.std.proofs.Math.Path.{fun_ext}
use Rattle.std.specs.List.{filter}
use Rattle.tor_spec.specs.Extend.{Address}
use Rattle.circuit_model.specs.Rules.{Rules}
use Rattle.tr_io.specs.declared.answers.OpenAnswer.TheVariants.{Opened}
use Rattle.tr_io.specs.declared.names.Dir.{Dir}
use Rattle.tr_io.specs.declared.names.Dir.TheVariants.{Forth, Back}
use Rattle.tr_io.specs.declared.step.OrderStep.{OrderStep}
use Rattle.tr_io.specs.declared.step.Step.{Step}
use Rattle.tr_io.specs.declared.step.Step.TheVariants.{ChannelUp, ChannelDown, OpenCircuit, Take, Claim, GiveBack, Abandon, NextCell, EdgeIn, EdgeOut, Drained, DialOrder, DialDone, TearDown, Live, Halt, Halted}
use Rattle.switch_model.specs.Names.{Leg, Way, same_way}
use Rattle.switch_model.specs.History.Legs.{at}
use Rattle.switch_model.specs.Waiting.Claims.{given_bodies, circuit_at, new_at, born_bodies}
use Rattle.switch_model.specs.Waiting.Dials.{Dial, is_from, numbered, dials_made}
use Rattle.switch_model.specs.History.Past.{Past, concerns, names_circuit, is_of_circuit}
use Rattle.switch_model.specs.History.EdgePast.{edge_past, numbers_of}
use Rattle.switch_model.proofs.Common.{or-first}
use Rattle.switch_model.proofs.Others.{other_pasts}

-- every step but this one leaves what was handed out of the dial orders
abbrev pub is_dial_order : Step → Bool
is_dial_order (DialOrder a) = true
is_dial_order s = false

-- bodies and dial orders of another circuit
pub numbers-others : (v w : Way) (n : ℕ) (born : List Way) → same_way w v ≡ false
    → numbers_of v (replicate n w ++ born) ≡ numbers_of v born
numbers-others v w zero born other = refl
numbers-others v w (suc n) born other = rw other (numbers-others v w n born other)

filter-more : (test : Dial → Bool) (xs ys : List Dial) → filter test ys ≡ [] → filter test (xs ++ ys) ≡ filter test xs
filter-more test [] ys none = none
filter-more test (x ∷ xs) ys none = rw (filter-more test xs ys none) refl

none-numbered : (m c d : ℕ) (to : List Address) → (c == d) ≡ false → filter (is_from d) (numbered m c to) ≡ []
none-numbered m c d [] other = refl
none-numbered m c d (first ∷ more) other = rw other (none-numbered (m + 1) c d more other)

two-others : (d c n m : ℕ) (dir : Dir) (born : List Way) → (c == d) ≡ false →
    numbers_of (record { circ = d; dir = dir })
    ((replicate n (record { circ = c; dir = Back }) ++ replicate m (record { circ = c; dir = Forth })) ++ born)
    ≡ numbers_of (record { circ = d; dir = dir }) born
two-others d c n m dir born other =
    let forth = replicate m (record { circ = c; dir = Forth }) in
    ap (numbers_of (record { circ = d; dir = dir })) (append_assoc (replicate n (record { circ = c; dir = Back })) forth born)
    ∙ numbers-others (record { circ = d; dir = dir }) (record { circ = c; dir = Back }) n (forth ++ born) (rw other refl)
    ∙ numbers-others (record { circ = d; dir = dir }) (record { circ = c; dir = Forth }) m born (rw other refl)

numbers-at : (rules : Rules) (h after : List Step) (o : Option ℕ) (d : ℕ) (born : List Way)
    → ((c : ℕ) → o ≡ Some c → (c == d) ≡ false) →
    ◌≡◌ {A = Dir → List ℕ} (λ dir. numbers_of (record { circ = d; dir = dir }) (new_at rules h after o ++ born))
    (λ dir. numbers_of (record { circ = d; dir = dir }) born)
numbers-at rules h after None d born other = refl
numbers-at rules h after (Some c) d born other = fun_ext (λ dir.
    two-others d c
    (given_bodies rules after (record { circ = c; dir = Back }) - given_bodies rules h (record { circ = c; dir = Back }))
    (given_bodies rules after (record { circ = c; dir = Forth }) - given_bodies rules h (record { circ = c; dir = Forth }))
    dir born (other c refl))

leg-other : (x : Option Leg) (d c : ℕ) → is_of_circuit d x ≡ false → circuit_at x ≡ Some c → (c == d) ≡ false
leg-other None d c other e = absurd cc
leg-other (Some leg) d c other e = let same : leg.circ ≡ c = cc in rw (← same) other

one-other : (a c d : ℕ) → (a == d) ≡ false → ◌≡◌ {A = Option ℕ} (Some a) (Some c) → (c == d) ≡ false
one-other a c d other e = let same : a ≡ c = cc in rw (← same) other

edges : (rules : Rules) (h : List Step) (s : Step) (d : ℕ) → concerns rules h s d ≡ false → names_circuit h s d ≡ false
    → is_dial_order s ≡ false → edge_past rules (s ∷ h) d ≡ edge_past rules h d
edges rules h (Take chan cell a) d other named quiet =
    rw (ap (λ (p : Past). p.events) (other_pasts rules h (Take chan cell a) d other))
    (ap (λ f. record (edge_past rules h d) { numbers = f })
    (numbers-at rules h (Take chan cell a ∷ h) (circuit_at (at h chan.0 cell.circ)) d (born_bodies rules h)
    (λ c e. leg-other (at h chan.0 cell.circ) d c named e)))
edges rules h (GiveBack note place a) d other named quiet =
    rw (
      ap (λ (p : Past). p.events) (other_pasts rules h (GiveBack note place a) d other),
      filter-more (is_from d) (dials_made rules h) _ (none-numbered (length (dials_made rules h)) note.circ.0 d _ named),
    )
    (ap (λ f. record (edge_past rules h d) { numbers = f })
    (numbers-at rules h (GiveBack note place a ∷ h) (Some note.circ.0) d (born_bodies rules h)
    (λ c e. one-other note.circ.0 c d named e)))
edges rules h (EdgeIn key event a) d other named quiet =
    rw (ap (λ (p : Past). p.events) (other_pasts rules h (EdgeIn key event a) d other))
    (ap (λ f. record (edge_past rules h d) { numbers = f })
    (numbers-at rules h (EdgeIn key event a ∷ h) (Some key.circ.0) d (born_bodies rules h)
    (λ c e. one-other key.circ.0 c d named e)))
edges rules h (Drained key a) d other named quiet =
    rw (ap (λ (p : Past). p.events) (other_pasts rules h (Drained key a) d other))
    (ap (λ f. record (edge_past rules h d) { numbers = f })
    (numbers-at rules h (Drained key a ∷ h) (Some key.circ.0) d (born_bodies rules h)
    (λ c e. one-other key.circ.0 c d named e)))
edges rules h (OpenCircuit chan id reply keys pad (Opened n)) d other named quiet = simp named
edges rules h (OpenCircuit chan id reply keys pad a) d other named quiet = refl
edges rules h (EdgeOut slot (Some (OrderStep.Reach key to))) d other named quiet = simp named
edges rules h (EdgeOut slot (Some (OrderStep.Carry key bytes))) d other named quiet = simp named
edges rules h (EdgeOut slot (Some (OrderStep.Close key reason))) d other named quiet = simp named
edges rules h (EdgeOut slot None) d other named quiet = refl
edges rules h (DialDone order outcome a) d other named quiet =
    rw (ap (λ (p : Past). p.events) (other_pasts rules h (DialDone order outcome a) d other)) refl
edges rules h (DialOrder a) d other named quiet = absurd cc
edges rules h (ChannelUp slot side a) d other named quiet = refl
edges rules h (ChannelDown chan a) d other named quiet = refl
edges rules h (Claim worker a) d other named quiet = refl
edges rules h (Abandon note place a) d other named quiet = refl
edges rules h (NextCell chan tick a) d other named quiet = refl
edges rules h (TearDown circ reason a) d other named quiet = refl
edges rules h (Live chan a) d other named quiet = refl
edges rules h (Halt of) d other named quiet = refl
edges rules h (Halted a) d other named quiet = refl

pub other_edges : (rules : Rules) (h : List Step) (s : Step) (d : ℕ) → concerns rules h s d ≡ false → is_dial_order s ≡ false
    → edge_past rules (s ∷ h) d ≡ edge_past rules h d
other_edges rules h s d other quiet = edges rules h s d other (or-first _ _ other) quiet
