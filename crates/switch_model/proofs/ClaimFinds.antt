-- Where a direction is ready, a claim finds a job.
use Rattle.std.proofs.Common.{◌≡◌, ℕ, ◌+◌, ◌-◌, ◌<◌, ◌==◌, ◌&&◌, Bool, true, false, nat_le, nat_lt, if◌then◌else◌, is_some, is_none, List, [], ◌∷◌, Option, Some, None, option_map, refl, sym, subst, arith}
use Rattle.std.specs.Option.{option_or}
use Rattle.std.proofs.lemmas.Bool.Decides.{nat_tests}
use Rattle.circuit_model.specs.Rules.{Rules}
use Rattle.tr_io.specs.declared.names.Dir.{Dir}
use Rattle.tr_io.specs.declared.names.Dir.TheVariants.{Forth, Back}
use Rattle.tr_io.specs.declared.step.Step.{Step}
use Rattle.switch_model.specs.Start.{SwitchStart}
use Rattle.switch_model.specs.Names.{Way, same_dir, same_way}
use Rattle.switch_model.specs.History.Circuit.{is_live_circuit}
use Rattle.switch_model.specs.Waiting.Claims.{claimed_count, claim_out, given_bodies, is_ready, born_bodies, count_way, waits_here, first_waiting}
use Rattle.switch_model.specs.Answers.Claim.{claim_answer}
use Rattle.switch_model.proofs.Common.{same-number, and-first, and-second}
use Rattle.switch_model.proofs.BodiesListed.{listed}

-- one that waits is found
some-or : (a b : Option Way) → is_some b ≡ true → is_some (option_or a b) ≡ true
some-or None b some = some
some-or (Some way) b some = refl

some-first : (a b : Option Way) → is_some a ≡ true → is_some (option_or a b) ≡ true
some-first None b some = absurd cc
some-first (Some way) b some = refl

pub dir-is : (a b : Dir) → same_dir a b ≡ true → a ≡ b
dir-is Forth Forth same = refl
dir-is Back Back same = refl
dir-is Forth Back same = absurd cc
dir-is Back Forth same = absurd cc

pub ways-same : (a b : ℕ) (x y : Dir) → a ≡ b → x ≡ y
    → ◌≡◌ {A = Way} (record { circ = a; dir = x }) (record { circ = b; dir = y })
ways-same a b x y same_circ same_direction = rw (same_circ, same_direction) refl

pub way-is : (a b : Way) → same_way a b ≡ true → a ≡ b
way-is a b same =
    let same_circ : a.circ ≡ b.circ = same-number a.circ b.circ (and-first (a.circ == b.circ) _ same) in
    let same_direction : a.dir ≡ b.dir = dir-is a.dir b.dir (and-second (a.circ == b.circ) _ same) in
    ways-same a.circ b.circ a.dir b.dir same_circ same_direction

not-below : (a b : ℕ) → nat_le a b ≡ false → a < b + 1 → ⊥
not-below a b above below = grind (arith, nat_tests)

here-waits : (rules : Rules) (h : List Step) (way : Way) (older : List Way) (b : Bool)
    → nat_le (claimed_count h way) (count_way way older) ≡ b → is_ready rules h way ≡ true
    → claimed_count h way < count_way way older + 1 →
    is_some (if waits_here rules h way older then Some way else None) ≡ true
here-waits rules h way older true is ready below = rw (ready, is) refl
here-waits rules h way older false is ready below = absurd (not-below (claimed_count h way) (count_way way older) is below)

finds-by : (rules : Rules) (h : List Step) (way other : Way) (older : List Way) → is_ready rules h way ≡ true → (b : Bool)
    → same_way other way ≡ b → claimed_count h way < count_way way (other ∷ older) →
    (claimed_count h way < count_way way older → is_some (first_waiting rules h older) ≡ true)
    → is_some (first_waiting rules h (other ∷ older)) ≡ true
finds-by rules h way other older ready true is below later =
    let same : other ≡ way = way-is other way is in
    let within : claimed_count h way < count_way way older + 1 = rw is at below in
    some-or (first_waiting rules h older) _
    (subst (λ w. is_some (if waits_here rules h w older then Some w else None) ≡ true) (sym same)
    (here-waits rules h way older _ refl ready within))
finds-by rules h way other older ready false is below later = some-first (first_waiting rules h older) _ (later (rw is at below))

finds : (rules : Rules) (h : List Step) (way : Way) → is_ready rules h way ≡ true → (bodies_listed : List Way)
    → claimed_count h way < count_way way bodies_listed → is_some (first_waiting rules h bodies_listed) ≡ true
finds rules h way ready [] below = absurd (omega arith)
finds rules h way ready (other ∷ older) below =
    finds-by rules h way other older ready (same_way other way) refl below (finds rules h way ready older)

ready-below : (live : Bool) (out : Bool) (given count : ℕ) → (live && (out && nat_lt 0 (given - count))) ≡ true → count < given
ready-below true true given count ready = grind (arith, nat_tests)
ready-below true false given count ready = absurd cc
ready-below false out given count ready = absurd cc

some-map : {A B : Type 0} (f : A → B) (o : Option A) → is_some o ≡ true → is_some (option_map f o) ≡ true
some-map f None some = some
some-map f (Some x) some = refl

pub claim_finds_one : (start : SwitchStart) (h : List Step) (worker : ℕ) (way : Way) → is_ready start.rules h way ≡ true
    → is_some (claim_answer start h worker) ≡ true
claim_finds_one start h worker way ready =
    let below : claimed_count h way < given_bodies start.rules h way =
    ready-below (is_live_circuit start.rules h way.circ) (is_none (claim_out h way)) (given_bodies start.rules h way)
    (claimed_count h way) ready in
    let all : count_way way (born_bodies start.rules h) ≡ given_bodies start.rules h way =
    listed start.rules h way.circ way.dir in
    some-map _ _ (finds start.rules h way ready (born_bodies start.rules h) (rw (← all) at below))
