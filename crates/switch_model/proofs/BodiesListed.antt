-- Each body that a direction was given is listed once.
use Rattle.std.proofs.Common.{◌≡◌, ℕ, ◌+◌, ◌-◌, ◌≤◌, ◌==◌, Bool, true, false, if◌then◌else◌, List, [], ◌∷◌, ◌++◌, length, replicate, Option, Some, None, refl, sym, ◌∙◌, arith, zero, suc}
use Rattle.circuit_model.specs.Rules.{Rules}
use Rattle.tr_io.specs.declared.names.Dir.{Dir}
use Rattle.tr_io.specs.declared.names.Dir.TheVariants.{Forth, Back}
use Rattle.tr_io.specs.declared.step.Step.{Step}
use Rattle.switch_model.specs.Names.{Way, same_way}
use Rattle.switch_model.specs.History.Taken.{taken_forth}
use Rattle.switch_model.specs.History.Circuit.{events}
use Rattle.switch_model.specs.Waiting.Claims.{bodies, given_bodies, circuit_served, new_bodies, new_at, born_bodies, count_way}
use Rattle.switch_model.proofs.Common.{same-number}
use Rattle.switch_model.proofs.BodiesGrow.{back_count, Grown, serves, back-grown, forth-grown}

-- how many of them are listed
count-if : (b : Bool) (n m k : ℕ) → n ≡ m + k → (if b then n + 1 else n) ≡ (if b then m + 1 else m) + k
count-if true n m k same = omega (arith, same)
count-if false n m k same = same

count-both : (way : Way) (xs ys : List Way) → count_way way (xs ++ ys) ≡ count_way way xs + count_way way ys
count-both way [] ys = omega arith
count-both way (x ∷ xs) ys = count-if (same_way x way) _ _ _ (count-both way xs ys)

count-replicate : (way other : Way) (b : Bool) → same_way other way ≡ b → (n : ℕ)
    → count_way way (replicate n other) ≡ (if b then n else 0)
count-replicate way other true is zero = refl
count-replicate way other true is (suc n) = rw (is, count-replicate way other true is n) (omega arith)
count-replicate way other false is zero = refl
count-replicate way other false is (suc n) = rw is (count-replicate way other false is n)

-- how many bodies a circuit was given in a history, by direction
abbrev back_in : Rules → ℕ → List Step → ℕ
back_in rules c h = back_count rules (events rules h c)

abbrev forth_in : ℕ → List Step → ℕ
forth_in c h = length (taken_forth h c)

back-some : (rules : Rules) (h g : List Step) (c n : ℕ) (b : Bool) → (n == c) ≡ b
    → Grown b (back_in rules c h) (back_in rules c g) →
    count_way (record { circ = c; dir = Back }) (born_bodies rules h) ≡ back_in rules c h →
    count_way (record { circ = c; dir = Back }) (new_at rules h g (Some n) ++ born_bodies rules h) ≡ back_in rules c g
back-some rules h g c n true is grown before =
    let same : n ≡ c = same-number n c is in
    let back : count_way (record { circ = c; dir = Back }) (new_bodies rules h g (record { circ = n; dir = Back }))
    ≡ back_in rules n g - back_in rules n h =
    count-replicate (record { circ = c; dir = Back }) (record { circ = n; dir = Back }) true (rw is refl) _ in
    let forth : count_way (record { circ = c; dir = Back }) (new_bodies rules h g (record { circ = n; dir = Forth })) ≡ 0 =
    count-replicate (record { circ = c; dir = Back }) (record { circ = n; dir = Forth }) false (rw is refl) _ in
    let all = count-both (record { circ = c; dir = Back }) (new_at rules h g (Some n)) (born_bodies rules h) in
    let new = count-both (record { circ = c; dir = Back }) (new_bodies rules h g (record { circ = n; dir = Back }))
    (new_bodies rules h g (record { circ = n; dir = Forth })) in
    let here : back_in rules n g - back_in rules n h ≡ back_in rules c g - back_in rules c h = rw same refl in
    omega (arith, grown, before, back, forth, all, new, here)
back-some rules h g c n false is grown before =
    let back : count_way (record { circ = c; dir = Back }) (new_bodies rules h g (record { circ = n; dir = Back })) ≡ 0 =
    count-replicate (record { circ = c; dir = Back }) (record { circ = n; dir = Back }) false (rw is refl) _ in
    let forth : count_way (record { circ = c; dir = Back }) (new_bodies rules h g (record { circ = n; dir = Forth })) ≡ 0 =
    count-replicate (record { circ = c; dir = Back }) (record { circ = n; dir = Forth }) false (rw is refl) _ in
    let all = count-both (record { circ = c; dir = Back }) (new_at rules h g (Some n)) (born_bodies rules h) in
    let new = count-both (record { circ = c; dir = Back }) (new_bodies rules h g (record { circ = n; dir = Back }))
    (new_bodies rules h g (record { circ = n; dir = Forth })) in
    omega (arith, grown, before, back, forth, all, new)

forth-some : (rules : Rules) (h g : List Step) (c n : ℕ) (b : Bool) → (n == c) ≡ b → Grown b (forth_in c h) (forth_in c g) →
    count_way (record { circ = c; dir = Forth }) (born_bodies rules h) ≡ forth_in c h →
    count_way (record { circ = c; dir = Forth }) (new_at rules h g (Some n) ++ born_bodies rules h) ≡ forth_in c g
forth-some rules h g c n true is grown before =
    let same : n ≡ c = same-number n c is in
    let back : count_way (record { circ = c; dir = Forth }) (new_bodies rules h g (record { circ = n; dir = Back })) ≡ 0 =
    count-replicate (record { circ = c; dir = Forth }) (record { circ = n; dir = Back }) false (rw is refl) _ in
    let forth : count_way (record { circ = c; dir = Forth }) (new_bodies rules h g (record { circ = n; dir = Forth }))
    ≡ forth_in n g - forth_in n h =
    count-replicate (record { circ = c; dir = Forth }) (record { circ = n; dir = Forth }) true (rw is refl) _ in
    let all = count-both (record { circ = c; dir = Forth }) (new_at rules h g (Some n)) (born_bodies rules h) in
    let new = count-both (record { circ = c; dir = Forth }) (new_bodies rules h g (record { circ = n; dir = Back }))
    (new_bodies rules h g (record { circ = n; dir = Forth })) in
    let here : forth_in n g - forth_in n h ≡ forth_in c g - forth_in c h = rw same refl in
    omega (arith, grown, before, back, forth, all, new, here)
forth-some rules h g c n false is grown before =
    let back : count_way (record { circ = c; dir = Forth }) (new_bodies rules h g (record { circ = n; dir = Back })) ≡ 0 =
    count-replicate (record { circ = c; dir = Forth }) (record { circ = n; dir = Back }) false (rw is refl) _ in
    let forth : count_way (record { circ = c; dir = Forth }) (new_bodies rules h g (record { circ = n; dir = Forth })) ≡ 0 =
    count-replicate (record { circ = c; dir = Forth }) (record { circ = n; dir = Forth }) false (rw is refl) _ in
    let all = count-both (record { circ = c; dir = Forth }) (new_at rules h g (Some n)) (born_bodies rules h) in
    let new = count-both (record { circ = c; dir = Forth }) (new_bodies rules h g (record { circ = n; dir = Back }))
    (new_bodies rules h g (record { circ = n; dir = Forth })) in
    omega (arith, grown, before, back, forth, all, new)

back-counted : (rules : Rules) (h g : List Step) (c : ℕ) (o : Option ℕ)
    → Grown (serves c o) (back_count rules (events rules h c)) (back_count rules (events rules g c)) →
    count_way (record { circ = c; dir = Back }) (born_bodies rules h) ≡ back_count rules (events rules h c) →
    count_way (record { circ = c; dir = Back }) (new_at rules h g o ++ born_bodies rules h) ≡ back_count rules (events rules g c)
back-counted rules h g c None grown before = before ∙ sym grown
back-counted rules h g c (Some n) grown before = back-some rules h g c n (n == c) refl grown before

forth-counted : (rules : Rules) (h g : List Step) (c : ℕ) (o : Option ℕ)
    → Grown (serves c o) (length (taken_forth h c)) (length (taken_forth g c)) →
    count_way (record { circ = c; dir = Forth }) (born_bodies rules h) ≡ length (taken_forth h c) →
    count_way (record { circ = c; dir = Forth }) (new_at rules h g o ++ born_bodies rules h) ≡ length (taken_forth g c)
forth-counted rules h g c None grown before = before ∙ sym grown
forth-counted rules h g c (Some n) grown before = forth-some rules h g c n (n == c) refl grown before

back-listed : (rules : Rules) (h : List Step) (c : ℕ)
    → count_way (record { circ = c; dir = Back }) (born_bodies rules h) ≡ back_count rules (events rules h c)
back-listed rules [] c = refl
back-listed rules (s ∷ h) c = back-counted rules h (s ∷ h) c (circuit_served h s) (back-grown rules h s c) (back-listed rules h c)

-- so no step takes bodies from a direction
no-less : (b : Bool) (before after : ℕ) → Grown b before after → before ≤ after
no-less true before after grown = grown
no-less false before after grown = omega (arith, grown)

pub given-grows : (rules : Rules) (h : List Step) (s : Step) (c : ℕ) (dir : Dir)
    → bodies rules h (record { circ = c; dir = dir }) dir ≤ bodies rules (s ∷ h) (record { circ = c; dir = dir }) dir
given-grows rules h s c Forth = no-less (serves c (circuit_served h s)) _ _ (forth-grown h s c)
given-grows rules h s c Back = no-less (serves c (circuit_served h s)) _ _ (back-grown rules h s c)

forth-listed : (rules : Rules) (h : List Step) (c : ℕ)
    → count_way (record { circ = c; dir = Forth }) (born_bodies rules h) ≡ length (taken_forth h c)
forth-listed rules [] c = refl
forth-listed rules (s ∷ h) c = forth-counted rules h (s ∷ h) c (circuit_served h s) (forth-grown h s c) (forth-listed rules h c)

pub listed : (rules : Rules) (h : List Step) (c : ℕ) (dir : Dir)
    → count_way (record { circ = c; dir = dir }) (born_bodies rules h) ≡ given_bodies rules h (record { circ = c; dir = dir })
listed rules h c Forth = forth-listed rules h c
listed rules h c Back = back-listed rules h c
