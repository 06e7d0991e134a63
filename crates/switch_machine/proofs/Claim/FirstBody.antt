-- The direction that a claim gets: the history's first body that waits has the least number that the
-- state's directions offer.
use Rattle.std.proofs.Common.{◌&&◌, ◌++◌, ◌<◌, ◌∙◌, ◌∷◌, ◌≡◌, ◌≤◌, ◌⊎◌, Bool, List, None, Option, Some, [], arith, false, if◌then◌else◌, inl, inr, length, nat_le, nat_lt, not, refl, slice_get, subst, suc, sym, true, zero, ℕ}
use Rattle.std.proofs.lemmas.Bool.Decides.{eqb_tells, nat_tests}
use Rattle.std.proofs.lemmas.Grind.{common_steps}
use Rattle.std.proofs.lemmas.Option.{gets}
use Rattle.std.specs.Option.{option_or}
use Rattle.circuit_model.specs.Rules.{Rules}
use Rattle.tr_io.specs.declared.names.Dir.{Dir}
use Rattle.tr_io.specs.declared.names.Dir.TheVariants.{Back, Forth}
use Rattle.tr_io.specs.declared.step.Step.{Step}
use Rattle.switch_model.specs.History.EdgePast.{numbers_of}
use Rattle.switch_model.specs.Names.{Way, same_way}
use Rattle.switch_model.specs.Waiting.Claims.{claimed_count, count_way, first_waiting, is_ready, waits_here}
use Rattle.switch_machine.specs.Calls.Claim.{Offer, offered, sooner, soonest_below}
use Rattle.switch_machine.specs.State.{State}
use Rattle.switch_model.proofs.ClaimFinds.{way-is, ways-same}
use Rattle.switch_model.proofs.Common.{and-first, and-second}
use Rattle.switch_machine.proofs.Claim.BodyNumbers.{get-at-end, get-push, number-by, numbers-below, numbers-length, self-way}
use Rattle.switch_machine.proofs.Slots.{slot_at-past}

-- the least number that a way offers
pub record LeastOffer (offers : Way → Option ℕ) (w : Way) : Type 0 where
  pub number : ℕ
  pub has : offers w ≡ Some number
  pub least : (v : Way) (n : ℕ) → offers v ≡ Some n → number ≤ n

abbrev pub IsSoonest : (Way → Option ℕ) → Option Way → Type 0
IsSoonest offers None = (v : Way) → offers v ≡ None
IsSoonest offers (Some w) = LeastOffer offers w

-- what the history's directions offer among some bodies
abbrev pub offers_on : Rules → List Step → List Way → Way → Option ℕ
offers_on rules h l w = if is_ready rules h w then slice_get (numbers_of w l) (claimed_count h w) else None

pub some-none : {A : Type 0} (o : Option A) (x : A) → o ≡ None → o ≡ Some x → ⊥
some-none o x e f = cc

-- one more body
offer-by : (w : Way) (older : List Way) (b ready : Bool) (i n : ℕ)
    → (if ready then slice_get (if b then numbers_of w older ++ length older ∷ [] else numbers_of w older) i else None) ≡ Some n →
    ((if ready then slice_get (numbers_of w older) i else None) ≡ Some n)
    ⊎ ((ready ≡ true) × ((b ≡ true) × ((i ≡ count_way w older) × (n ≡ length older))))
offer-by w older b true i n e = elim (number-by w older b i n e) [ inl f ↦ inl f | inr f ↦ inr (refl, f) ]
offer-by w older b false i n e = absurd cc

offer-more : (w : Way) (older : List Way) (b ready : Bool) (i n : ℕ)
    → (if ready then slice_get (numbers_of w older) i else None) ≡ Some n →
    (if ready then slice_get (if b then numbers_of w older ++ length older ∷ [] else numbers_of w older) i else None) ≡ Some n
offer-more w older true true i n e = get-push (numbers_of w older) (length older) n i e
offer-more w older false true i n e = e
offer-more w older b false i n e = absurd cc

offer-below : (rules : Rules) (h : List Step) (l : List Way) (w : Way) (ready : Bool) (i n : ℕ)
    → (if ready then slice_get (numbers_of w l) i else None) ≡ Some n → n < length l
offer-below rules h l w true i n e = numbers-below w l i n e
offer-below rules h l w false i n e = absurd cc

-- no body waited before: the newest does, or none
none-if : {A : Type 0} (o : Option A) → ((x : A) → o ≡ Some x → ⊥) → o ≡ None
none-if None none = refl
none-if (Some x) none = absurd (none x refl)

get-none : (xs : List ℕ) (i : ℕ) → slice_get xs i ≡ None → length xs ≤ i
get-none xs i e = grind (arith, common_steps, gets)

at-end : (w : Way) (older : List Way) (ready : Bool) (i : ℕ) → ready ≡ true
    → (if ready then slice_get (numbers_of w older) i else None) ≡ None → nat_le i (count_way w older) ≡ true
    → i ≡ count_way w older
at-end w older true i is none le =
    let past : length (numbers_of w older) ≤ i = get-none (numbers_of w older) i none in
    let below : i ≤ count_way w older = grind (arith, nat_tests) in
    omega (arith, numbers-length w older)
at-end w older false i is none le = absurd cc

waits-not : (rules : Rules) (h : List Step) (v : Way) (older : List Way) (i : ℕ) → is_ready rules h v ≡ true
    → claimed_count h v ≡ count_way v older → waits_here rules h v older ≡ false → ⊥
waits-not rules h v older i ready last not = let yes : nat_le (claimed_count h v) (count_way v older) ≡ true =
    grind (arith, nat_tests) in let both : (true && true) ≡ false = rw (ready, yes) at not in cc

here : (rules : Rules) (h : List Step) (way : Way) (older : List Way) → IsSoonest (offers_on rules h older) None → (b : Bool)
    → waits_here rules h way older ≡ b →
    IsSoonest (offers_on rules h (way ∷ older)) (if b then Some way else None)
here rules h way older none true is =
    let ready = and-first (is_ready rules h way) _ is in
    let last = at-end way older (is_ready rules h way) (claimed_count h way) ready (none way)
    (and-second (is_ready rules h way) _ is) in
    record {
      number = length older;
      has = rw (ready, self-way way)
          (get-at-end (numbers_of way older) (length older) (claimed_count h way) (last ∙ sym (numbers-length way older)));
      least = λ v n e. elim (offer-by v older (same_way way v) (is_ready rules h v) (claimed_count h v) n e) [
        | inl f ↦ absurd (some-none (offers_on rules h older v) n (none v) f)
        | inr f ↦ omega (arith, f.1.1.1)
      ];
    }
here rules h way older none false is = λ v. none-if (offers_on rules h (way ∷ older) v) (λ n e. elim (offer-by v older (same_way way v) (is_ready rules h v) (claimed_count h v) n e) [
  | inl f ↦ some-none (offers_on rules h older v) n (none v) f
  | inr f ↦ waits-not rules h v older 0 f.0 f.1.1.0 (subst (λ w. waits_here rules h w older ≡ false) (way-is way v f.1.0) is)
])

found-by : (rules : Rules) (h : List Step) (way : Way) (older : List Way) (o : Option Way) → IsSoonest (offers_on rules h older) o
    →
    IsSoonest (offers_on rules h (way ∷ older)) (option_or o (if waits_here rules h way older then Some way else None))
found-by rules h way older None none = here rules h way older none (waits_here rules h way older) refl
found-by rules h way older (Some w) own = record {
  number = own.number;
  has = offer-more w older (same_way way w) (is_ready rules h w) (claimed_count h w) own.number own.has;
  least = λ v n e. elim (offer-by v older (same_way way v) (is_ready rules h v) (claimed_count h v) n e) [
    | inl f ↦ own.least v n f
    | inr f ↦ omega (arith, f.1.1.1, offer-below rules h older w (is_ready rules h w) (claimed_count h w) own.number own.has)
  ];
}

none-there : (b : Bool) → ◌≡◌ {A = Option ℕ} (if b then None else None) None
none-there true = refl
none-there false = refl

pub first-soonest : (rules : Rules) (h : List Step) (l : List Way) → IsSoonest (offers_on rules h l) (first_waiting rules h l)
first-soonest rules h [] = λ v. none-there (is_ready rules h v)
first-soonest rules h (way ∷ older) = found-by rules h way older (first_waiting rules h older) (first-soonest rules h older)

-- what the state's first circuits offer

-- the best of some offers, where `known` says of which ways
pub record BestOffer (offers : Way → Option ℕ) (Known : Way → Type 0) (best : Offer) : Type 0 where
  pub has : offers best.way ≡ Some best.number
  pub least : (v : Way) (n : ℕ) → Known v → offers v ≡ Some n → best.number ≤ n

abbrev pub IsBest : (Way → Option ℕ) → (Way → Type 0) → Option Offer → Type 0
IsBest offers Known None = (v : Way) → Known v → offers v ≡ None
IsBest offers Known (Some best) = BestOffer offers Known best

sooner-new : (offers : Way → Option ℕ) (Known More : Way → Type 0) (best : Offer) (way : Way) (n : ℕ) (b : Bool)
    → nat_lt n best.number ≡ b → offers way ≡ Some n →
    ((v : Way) → More v → Known v ⊎ (v ≡ way)) → BestOffer offers Known best
    → BestOffer offers More (if b then record { way = way; number = n } else best)
sooner-new offers Known More best way n true is has split own = record {
  has = has;
  least = λ v m known e. elim (split v known) [ inl old ↦ let best_least = own.least v m old e in let less : n < best.number = grind (arith, nat_tests) in omega arith | inr same ↦ let eq : n ≡ m = cc in omega arith ];
}
sooner-new offers Known More best way n false is has split own = record {
  has = own.has;
  least = λ v m known e. elim (split v known) [ inl old ↦ own.least v m old e | inr same ↦ let eq : n ≡ m = cc in let less : best.number ≤ n = grind (arith, nat_tests) in omega arith ];
}

if-some : (b : Bool) (x y : Offer) → ◌≡◌ {A = Option Offer} (Some (if b then x else y)) (if b then Some x else Some y)
if-some true x y = refl
if-some false x y = refl

sooner-best : (offers : Way → Option ℕ) (Known More : Way → Type 0) (o : Option Offer) (way : Way) (n : Option ℕ) → offers way ≡ n
    → ((v : Way) → More v → Known v ⊎ (v ≡ way)) →
    IsBest offers Known o → IsBest offers More (sooner o way n)
sooner-best offers Known More None way None has split own = λ v known. elim (split v known) [ inl old ↦ own v old | inr same ↦ cc ]
sooner-best offers Known More (Some best) way None has split own = record {
  has = own.has;
  least = λ v m known e. elim (split v known) [ inl old ↦ own.least v m old e | inr same ↦ absurd cc ];
}
sooner-best offers Known More None way (Some n) has split own = record {
  has = has;
  least = λ v m known e. elim (split v known) [ inl old ↦ absurd (some-none (offers v) m (own v old) e) | inr same ↦ let eq : n ≡ m = cc in omega arith ];
}
sooner-best offers Known More (Some best) way (Some n) has split own =
    subst (IsBest offers More) (if-some (nat_lt n best.number) (record { way = way; number = n }) best)
    (sooner-new offers Known More best way n (nat_lt n best.number) refl has split own)

abbrev Below : ℕ → Way → Type 0
Below n v = v.circ < n

abbrev BelowOrForth : ℕ → Way → Type 0
BelowOrForth c v = (v.circ < c) ⊎ (v ≡ record { circ = c; dir = Forth })

is-forth : (c : ℕ) (v : Way) → v.circ ≡ c → (d : Dir) → v.dir ≡ d → BelowOrForth c v ⊎ (v ≡ record { circ = c; dir = Back })
is-forth c v same Forth e = inl (inr (ways-same v.circ c v.dir Forth same e))
is-forth c v same Back e = inr (ways-same v.circ c v.dir Back same e)

pub soonest-best : (s : State) (n : ℕ) → IsBest (offered s) (Below n) (soonest_below s n)
soonest-best s zero = λ v known. absurd (omega arith)
soonest-best s (suc c) =
    sooner-best (offered s) (BelowOrForth c) (Below (suc c))
    (sooner (soonest_below s c) (record { circ = c; dir = Forth }) (offered s (record { circ = c; dir = Forth })))
    (record { circ = c; dir = Back }) (offered s (record { circ = c; dir = Back })) refl
    (λ v known. elim (eqb_tells v.circ c) [ inl (is, same) ↦ is-forth c v same v.dir refl | inr (is, other) ↦ inl (inl (omega arith)) ])
    (sooner-best (offered s) (Below c) (BelowOrForth c) (soonest_below s c) (record { circ = c; dir = Forth })
    (offered s (record { circ = c; dir = Forth })) refl (λ v known. known) (soonest-best s c))

pub none-beyond : (s : State) (v : Way) → length s.circuits ≤ v.circ → offered s v ≡ None
none-beyond s v beyond = rw (slot_at-past s.circuits v.circ beyond) refl
