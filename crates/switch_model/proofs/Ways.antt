-- In a legal history all bodies that were claimed of a live circuit's direction have come home, but those of
-- the claim that is out.
use Rattle.std.specs.Prelude.{⊤}
use Rattle.std.proofs.Common.{◌≡◌, ℕ, ◌+◌, ◌-◌, ◌≤◌, ◌==◌, ◌&&◌, Bool, true, false, if◌then◌else◌, is_some, min, List, ◌∷◌, length, take, drop, Option, Some, None, refl, sym, ◌∙◌, ap, subst, arith}
use Rattle.std.proofs.lemmas.Grind.{common_steps}
use Rattle.circuit_model.specs.Rules.{Rules}
use Rattle.circuit_model.specs.Events.{CircuitCell}
use Rattle.tr_io.specs.declared.answers.BackAnswer.{BackAnswer}
use Rattle.tr_io.specs.declared.names.ClaimNote.{ClaimNote}
use Rattle.tr_io.specs.declared.names.Dir.{Dir}
use Rattle.tr_io.specs.declared.names.Dir.TheVariants.{Forth, Back}
use Rattle.tr_io.specs.declared.step.Step.{Step}
use Rattle.tr_io.specs.declared.step.Step.TheVariants.{GiveBack}
use Rattle.switch_model.specs.Names.{same_dir, same_way, way_of}
use Rattle.switch_model.specs.History.Teardowns.{teardown, reason_of}
use Rattle.switch_model.specs.History.Circuit.{is_live_circuit, opens, lies_on, is_accepted_return}
use Rattle.switch_model.specs.Waiting.Queues.{circuit_log, sealed_count}
use Rattle.switch_model.specs.Waiting.Claims.{claimed_count, claim_out, bodies}
use Rattle.switch_model.specs.Answers.GiveBack.{is_note}
use Rattle.switch_model.specs.Waiting.Contents.{bodies_with_room}
use Rattle.switch_model.specs.History.Relayed.{settled_forth}
use Rattle.switch_model.proofs.Common.{and-first, and-second, same-number}
use Rattle.switch_model.proofs.ForthSame.{forth-same}

-- the claim that is out begins at the first body that hasn't come home
abbrev pub BeginsAt : ℕ → Option ClaimNote → Type 0
BeginsAt n (Some note) = note.first ≡ n
BeginsAt n None = ⊤

pub record WayIs (live : Bool) (out : Option ClaimNote) (claim_sum came given : ℕ) : Type 0 where
  pub home : live ≡ true → claim_sum ≡ came + bodies_with_room out
  pub noted : live ≡ true → BeginsAt came out
  pub within : live ≡ true → claim_sum ≤ given

-- how many bodies of a direction came home
abbrev pub came_home : Rules → List Step → ℕ → Dir → ℕ
came_home rules h c Forth = length (settled_forth (circuit_log rules h c))
came_home rules h c Back = sealed_count h c

abbrev pub WayHas : Rules → List Step → ℕ → Dir → Type 0
WayHas rules h c dir =
    WayIs (is_live_circuit rules h c) (claim_out h (record { circ = c; dir = dir }))
    (claimed_count h (record { circ = c; dir = dir })) (came_home rules h c dir)
    (bodies rules h (record { circ = c; dir = dir }) dir)

-- a circuit that a step doesn't open was live before it
live-by : (b torn l : Bool) → b ≡ false → (if b then true else if torn then false else l) ≡ true → l ≡ true
live-by true torn l none is = absurd cc
live-by false true l none is = absurd cc
live-by false false l none is = is

pub was-live : (rules : Rules) (h : List Step) (s : Step) (c : ℕ) → opens c s ≡ false → is_live_circuit rules (s ∷ h) c ≡ true
    → is_live_circuit rules h c ≡ true
was-live rules h s c none is =
    live-by (opens c s) (is_some (reason_of c (λ chan. lies_on h c (circuit_log rules h c) chan) (teardown s)))
    (is_live_circuit rules h c) none is

-- a step that leaves what was claimed and what came home
pub keeps : (l m : Bool) (out next : Option ClaimNote) (sum total came now given more : ℕ) → (m ≡ true → l ≡ true) → next ≡ out
    → total ≡ sum → now ≡ came → given ≤ more →
    WayIs l out sum came given → WayIs m next total now more
keeps l m out next sum total came now given more live same_out same_sum same_came grows is = record {
  home = λ on. let all : sum ≡ came + bodies_with_room next =
      subst (λ o. sum ≡ came + bodies_with_room o) (sym same_out) (is.home (live on)) in omega (arith, all, same_sum, same_came);
  noted = λ on. subst (λ n. BeginsAt n next) (sym same_came) (subst (λ o. BeginsAt came o) (sym same_out) (is.noted (live on)));
  within = λ on. let below = is.within (live on) in omega (arith, below, grows, same_sum);
}

-- a claim takes all that waits, up to the limit
pub within-limit : (sum given count : ℕ) → sum ≤ given → count ≡ min 32 (given - sum) → sum + count ≤ given
within-limit sum given count below is = grind (arith, common_steps)

pub claims-more : (l m : Bool) (note : ClaimNote) (out next : Option ClaimNote) (sum total came now given more : ℕ)
    → (m ≡ true → l ≡ true) → out ≡ None → next ≡ Some note → total ≡ sum + note.count → now ≡ came →
    given ≤ more → note.first ≡ sum → note.count ≡ min 32 (given - sum) → WayIs l out sum came given → WayIs m next total now more
claims-more l m note out next sum total came now given more live none some is_total same_came grows first count is = record {
  home = λ on.
      let all : sum ≡ came + 0 = subst (λ o. sum ≡ came + bodies_with_room o) none (is.home (live on)) in
      subst (λ o. total ≡ now + bodies_with_room o) (sym some) (omega (arith, all, is_total, same_came));
  noted = λ on.
      let all : sum ≡ came + 0 = subst (λ o. sum ≡ came + bodies_with_room o) none (is.home (live on)) in
      subst (λ o. BeginsAt now o) (sym some) (omega (arith, all, first, same_came));
  within = λ on. let below = within-limit sum given note.count (is.within (live on)) count in
      omega (arith, below, grows, is_total);
}

-- the note that is kept is the one that came back
pub record IsOut (note : ClaimNote) (out : Option ClaimNote) : Type 0 where
  pub claim_out : ClaimNote
  pub out_is : out ≡ Some claim_out
  pub first : claim_out.first ≡ note.first
  pub count : claim_out.count ≡ note.count

pub out-is : (note : ClaimNote) (out : Option ClaimNote) → is_note note out ≡ true → IsOut note out
out-is note None is = absurd cc
out-is note (Some k) is =
    let rest = and-second (k.switch == note.switch) _ is in
    let claims_same = and-second (k.claim == note.claim) _ rest in
    let workers_same = and-second (k.worker == note.worker) _ claims_same in
    let last = and-second (same_way (way_of k) (way_of note)) _ workers_same in
    record {
      claim_out = k;
      out_is = refl;
      first = same-number k.first note.first (and-first (k.first == note.first) _ last);
      count = same-number k.count note.count (and-second (k.first == note.first) _ last);
    }

pub comes-home : (l m : Bool) (note : ClaimNote) (out next : Option ClaimNote) (sum came now given more : ℕ)
    → (m ≡ true → l ≡ true) → next ≡ None → now ≡ came + note.count → given ≤ more → IsOut note out →
    WayIs l out sum came given → WayIs m next sum now more
comes-home l m note out next sum came now given more live none is_now grows own is = record {
  home = λ on.
      let all : sum ≡ came + own.claim_out.count = subst (λ o. sum ≡ came + bodies_with_room o) own.out_is (is.home (live on)) in
      let count = own.count in
      subst (λ o. sum ≡ now + bodies_with_room o) (sym none) (omega (arith, all, count, is_now));
  noted = λ on. subst (λ o. BeginsAt now o) (sym none) tt;
  within = λ on. let below = is.within (live on) in omega (arith, below, grows);
}

-- its bodies are all there
pub there : (l : Bool) (note : ClaimNote) (out : Option ClaimNote) (sum came given : ℕ) → l ≡ true → IsOut note out
    → WayIs l out sum came given → (note.first ≡ came) × (note.first + note.count ≤ given)
there l note out sum came given on own is =
    let all : sum ≡ came + own.claim_out.count = subst (λ o. sum ≡ came + bodies_with_room o) own.out_is (is.home on) in
    let first : own.claim_out.first ≡ came = subst (λ o. BeginsAt came o) own.out_is (is.noted on) in
    let same = own.first in
    let count = own.count in
    let below = is.within on in
    (omega (arith, first, same), omega (arith, all, first, same, count, below))

pub count-part : (xs : List CircuitCell) (first count : ℕ) → first + count ≤ length xs
    → length (take count (drop first xs)) ≡ count
count-part xs first count within = grind (arith, common_steps)

-- a circuit that isn't live
pub gone-way : (m : Bool) (out : Option ClaimNote) (sum came given : ℕ) → m ≡ false → WayIs m out sum came given
gone-way true out sum came given torn = absurd cc
gone-way false out sum came given torn = record { home = λ on. absurd cc; noted = λ on. absurd cc; within = λ on. absurd cc }

-- whether a step brings a claim of this direction home
abbrev pub brings_home : ℕ → Dir → Step → Bool
brings_home c dir (GiveBack note place answer) =
    same_way (way_of note) (record { circ = c; dir = dir }) && is_accepted_return answer
brings_home c dir s = false

and-right : (a b d : Bool) → ((a && b) && d) ≡ false → (a && (b && d)) ≡ false
and-right true b d none = none
and-right false b d none = refl

and-true : (a : Bool) → (a && true) ≡ a
and-true true = refl
and-true false = refl

sealed-other : (rules : Rules) (h : List Step) (note : ClaimNote) (place : Option ℕ) (answer : BackAnswer) (c : ℕ)
    → brings_home c Back (GiveBack note place answer) ≡ false → sealed_count (GiveBack note place answer ∷ h) c ≡ sealed_count h c
sealed-other rules h note place BackAnswer.Settled c none =
    rw (sym (and-true (same_way (way_of note) (record { circ = c; dir = Back }))) ∙ none) refl
sealed-other rules h note place answer c none = refl

pub came-same : (rules : Rules) (h : List Step) (s : Step) (c : ℕ) (dir : Dir) → brings_home c dir s ≡ false
    → came_home rules (s ∷ h) c dir ≡ came_home rules h c dir
came-same rules h (GiveBack note place answer) c Forth none =
    ap (λ (l : List CircuitCell). length l)
    (forth-same rules h (GiveBack note place answer) c (and-right (note.circ.0 == c) (same_dir note.dir Forth) _ none))
came-same rules h (GiveBack note place answer) c Back none = sealed-other rules h note place answer c none
came-same rules h s c Forth none = ap (λ (l : List CircuitCell). length l) (forth-same rules h s c refl)
came-same rules h s c Back none = refl

pub kept-other : (h : List Step) (note : ClaimNote) (place : Option ℕ) (answer : BackAnswer) (c : ℕ) (dir : Dir)
    → brings_home c dir (GiveBack note place answer) ≡ false →
    claim_out (GiveBack note place answer ∷ h) (record { circ = c; dir = dir }) ≡ claim_out h (record { circ = c; dir = dir })
kept-other h note place answer c dir none = rw none refl
