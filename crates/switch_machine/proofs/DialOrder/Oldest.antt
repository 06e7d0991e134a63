-- The oldest order that waits, by the state: no circuit has one with a lesser number.
use Rattle.std.proofs.Common.{◌≡◌, ℕ, ◌<◌, ◌≤◌, zero, suc, nat_lt, Bool, true, false, if◌then◌else◌, Option, Some, None, refl, sym, ap, subst, arith, inl, inr}
use Rattle.std.proofs.lemmas.Bool.Decides.{eqb_tells, nat_tests}
use Rattle.switch_machine.specs.Calls.DialOrder.{OpenDial, dial_of, older, oldest_below, waiting_of}
use Rattle.switch_machine.specs.Machine.{dial_in}
use Rattle.switch_machine.specs.State.{DialState, State}

-- An order that waits is the open one of its circuit, and wasn't handed out.
pub record IsWaiting (c : ℕ) (o : Option DialState) (given : OpenDial) : Type 0 where
  pub circ : given.circ ≡ c
  pub is_open : o ≡ Some given.dial
  pub never : given.dial.handed_out ≡ false

waiting-by : (c : ℕ) (dial : DialState) (given : OpenDial) (b : Bool) → dial.handed_out ≡ b →
    ◌≡◌ {A = Option OpenDial} (if b then None else Some (dial_of c dial)) (Some given) → IsWaiting c (Some dial) given
waiting-by c dial given true is same = absurd cc
waiting-by c dial given false is same =
    let eq : dial_of c dial ≡ given = cc in
    subst (IsWaiting c (Some dial)) eq (record { circ = refl; is_open = refl; never = is })

pub waiting-is : (c : ℕ) (o : Option DialState) (given : OpenDial) → waiting_of c o ≡ Some given → IsWaiting c o given
waiting-is c None given same = absurd cc
waiting-is c (Some dial) given same = waiting-by c dial given dial.handed_out refl same

-- The best of the orders that wait, of the first n circuits.
pub record IsOldest (offers : ℕ → Option OpenDial) (n : ℕ) (best : OpenDial) : Type 0 where
  pub has : offers best.circ ≡ Some best
  pub least : (c : ℕ) (other : OpenDial) → c < n → offers c ≡ Some other → best.dial.order ≤ other.dial.order

abbrev pub OldestIs : (ℕ → Option OpenDial) → ℕ → Option OpenDial → Type 0
OldestIs offers n None = (c : ℕ) → c < n → offers c ≡ None
OldestIs offers n (Some best) = IsOldest offers n best

-- the order of the next circuit, and of any below it
same-offer : (offers : ℕ → Option OpenDial) (c n : ℕ) (x : Option OpenDial) → c ≡ n → offers n ≡ x → offers c ≡ x
same-offer offers c n x same is = subst (λ m. offers m ≡ x) (sym same) is

same-number : (offers : ℕ → Option OpenDial) (c n : ℕ) (x y : OpenDial) → c ≡ n → offers n ≡ Some x →
    offers c ≡ Some y → x.dial.order ≡ y.dial.order
same-number offers c n x y same one other =
    let here = same-offer offers c n (Some x) same one in
    let both : x ≡ y = cc in ap (λ (o : OpenDial). o.dial.order) both

newer-one : (offers : ℕ → Option OpenDial) (n : ℕ) (best next : OpenDial) (b : Bool) →
    nat_lt next.dial.order best.dial.order ≡ b → next.circ ≡ n → offers n ≡ Some next → IsOldest offers n best →
    OldestIs offers (suc n) (if b then Some next else Some best)
newer-one offers n best next true is named has own =
    let less : next.dial.order < best.dial.order = grind (arith, nat_tests) in
    record {
      has = same-offer offers next.circ n (Some next) named has;
      least = λ c other inside waits. elim (eqb_tells c n) [
        | inl (here, same) ↦ let eq = same-number offers c n next other same has waits in omega (arith, eq)
        | inr (here, apart) ↦ let le = own.least c other (omega (arith, inside, apart)) waits in omega (arith, le, less)
      ];
    }
newer-one offers n best next false is named has own =
    let more : best.dial.order ≤ next.dial.order = grind (arith, nat_tests) in
    record {
      has = own.has;
      least = λ c other inside waits. elim (eqb_tells c n) [
        | inl (here, same) ↦ let eq = same-number offers c n next other same has waits in omega (arith, eq, more)
        | inr (here, apart) ↦ own.least c other (omega (arith, inside, apart)) waits
      ];
    }

none-more : (offers : ℕ → Option OpenDial) (n : ℕ) (o : Option OpenDial) → offers n ≡ None →
    OldestIs offers n o → OldestIs offers (suc n) o
none-more offers n None none own = λ c inside. elim (eqb_tells c n) [
  | inl (here, same) ↦ same-offer offers c n None same none
  | inr (here, apart) ↦ own c (omega (arith, inside, apart))
]
none-more offers n (Some best) none own = record {
  has = own.has;
  least = λ c other inside waits. elim (eqb_tells c n) [
    | inl (here, same) ↦ let no = same-offer offers c n None same none in absurd cc
    | inr (here, apart) ↦ own.least c other (omega (arith, inside, apart)) waits
  ];
}

first-one : (offers : ℕ → Option OpenDial) (n : ℕ) (next : OpenDial) → next.circ ≡ n → offers n ≡ Some next →
    OldestIs offers n None → OldestIs offers (suc n) (Some next)
first-one offers n next named has own = record {
  has = same-offer offers next.circ n (Some next) named has;
  least = λ c other inside waits. elim (eqb_tells c n) [
    | inl (here, same) ↦ let eq = same-number offers c n next other same has waits in omega (arith, eq)
    | inr (here, apart) ↦ let no = own c (omega (arith, inside, apart)) in absurd cc
  ];
}

older-best : (offers : ℕ → Option OpenDial) (n : ℕ) (o x : Option OpenDial) →
    ((next : OpenDial) → offers n ≡ Some next → next.circ ≡ n) → offers n ≡ x →
    OldestIs offers n o → OldestIs offers (suc n) (older o x)
older-best offers n o None named has own = none-more offers n o has own
older-best offers n None (Some next) named has own = first-one offers n next (named next has) has own
older-best offers n (Some best) (Some next) named has own =
    newer-one offers n best next (nat_lt next.dial.order best.dial.order) refl (named next has) has own

-- What the circuits of a state offer.
abbrev pub offers_of : State → ℕ → Option OpenDial
offers_of s c = waiting_of c (dial_in s c)

pub oldest-best : (s : State) (n : ℕ) → OldestIs (offers_of s) n (oldest_below s n)
oldest-best s zero = λ c inside. absurd (omega (arith, inside))
oldest-best s (suc n) =
    older-best (offers_of s) n (oldest_below s n) (offers_of s n)
    (λ next has. (waiting-is n (dial_in s n) next has).circ) refl (oldest-best s n)
