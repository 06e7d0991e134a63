-- One more event: the dial order of a circuit that is open, and the number of the next one.
use Rattle.std.proofs.Common.{◌≡◌, ℕ, ◌+◌, ◌≤◌, Bool, true, false, if◌then◌else◌, is_some, List, [], ◌∷◌, ◌++◌, length, drop, Option, Some, None, option_map, refl, sym, ◌∙◌, ap, arith, suc, append_assoc}
use Rattle.std.proofs.lemmas.List.{append-nil, drop-append-le, length-append}
use Rattle.std.proofs.Math.Seq.{drop-length}
use Rattle.std.proofs.lemmas.List.Elements.{filter-append}
use Rattle.std.specs.List.{filter}
use Rattle.std.specs.Option.{option_or, unwrap_or}
use Rattle.circuit_model.specs.Log.{Log, newest, pushed}
use Rattle.circuit_model.specs.NextHop.{hop_by, next_hop}
use Rattle.circuit_model.specs.Rules.{Rules}
use Rattle.circuit_model.specs.Words.{entry_after, log}
use Rattle.circuit_model.specs.declared.event.Event.TheVariants.{Forward}
use Rattle.circuit_model.specs.declared.next_hop.NextHop.{NextHop}
use Rattle.circuit_model.specs.declared.next_hop.NextHop.TheVariants.{Absent, Dialling}
use Rattle.switch_machine.specs.Calls.Settling.{Settling, dial_with, dials_after, settle_event}
use Rattle.switch_machine.specs.Stands.OneCircuit.{last_of}
use Rattle.switch_machine.specs.State.{DialState}
use Rattle.switch_model.proofs.Common.{self_eq}
use Rattle.switch_model.specs.Names.{dest_of}
use Rattle.switch_model.specs.Waiting.Dials.{Dial, asked, is_dialling, is_from, numbered}
use Rattle.tor_spec.specs.Extend.{Address}

abbrev pub dials_with : ℕ → ℕ → Option Address → List Dial → List Dial
dials_with m c None dials = dials
dials_with m c (Some to) dials = dials ++ record { order = m; circ = c; to = dest_of to } ∷ []

-- The dial order that is open, by the next hop.
abbrev pub open_by : NextHop → (ℕ → Bool) → List Dial → Option DialState
open_by hop handed dials =
    if is_dialling hop then option_map (λ (d : Dial). record { order = d.order; to = d.to; handed_out = handed d.order })
    (last_of dials) else None

last-more : (dials : List Dial) (d : Dial) → last_of (dials ++ d ∷ []) ≡ Some d
last-more [] d = refl
last-more (a ∷ []) d = refl
last-more (a ∷ b ∷ dials) d = last-more (b ∷ dials) d

dial-by : (m c : ℕ) (to : Option Address) (cut : Bool) (hop : Option NextHop) (handed : ℕ → Bool) (dials : List Dial)
    (dial : Option DialState) → handed m ≡ false → dial ≡ open_by (unwrap_or hop Absent) handed dials →
    dial_with m to cut dial
    ≡ open_by (unwrap_or (option_or (if is_some to then Some Dialling else (if cut then Some Absent else None)) hop) Absent)
    handed (dials_with m c to dials)
dial-by m c (Some to) cut hop handed dials dial never same =
    rw (last-more dials (record { order = m; circ = c; to = dest_of to }), never) refl
dial-by m c None true hop handed dials dial never same = refl
dial-by m c None false hop handed dials dial never same = same

-- numbers of new dial orders
from-numbered : (m c : ℕ) (l : List Address) → filter (is_from c) (numbered m c l) ≡ numbered m c l
from-numbered m c [] = refl
from-numbered m c (to ∷ more) = rw (self_eq c, from-numbered (m + 1) c more) refl

numbered-more : (m c : ℕ) (l : List Address) (to : Address)
    → numbered m c (l ++ to ∷ []) ≡ numbered m c l ++ record { order = m + length l; circ = c; to = dest_of to } ∷ []
numbered-more m c [] to = let e : m + 0 ≡ m = omega arith in rw e refl
numbered-more m c (x ∷ l) to = let e : m + suc (length l) ≡ m + 1 + length l =
    omega arith in rw e (ap (λ d. record { order = m; circ = c; to = dest_of x } ∷ d) (numbered-more (m + 1) c l to))

-- The dial order and the next number, behind dial orders that were made before this batch (`base`, up to
-- number n) and those of the addresses behind the first k.
pub record HasDial (rules : Rules) (c n k : ℕ) (base : List Dial) (handed : ℕ → Bool) (y : Settling) : Type 0 where
  pub known : k ≤ length (asked (log rules y.events))
  pub next : y.dials ≡ n + length (drop k (asked (log rules y.events)))
  pub dial_is : y.circuit.dial ≡ open_by (next_hop (log rules y.events)) handed
      (base ++ numbered n c (drop k (asked (log rules y.events))))

dials-by : (n c : ℕ) (base : List Dial) (k : ℕ) (xs : List Address) (m : ℕ) (to : Option Address) → k ≤ length xs
    → m ≡ n + length (drop k xs) →
    dials_with m c to (base ++ numbered n c (drop k xs)) ≡ base ++ numbered n c (drop k (pushed xs to))
dials-by n c base k xs m None le next = refl
dials-by n c base k xs m (Some to) le next =
    append_assoc base (numbered n c (drop k xs)) _ ∙ ap (λ l. base ++ l)
    (ap (λ i. numbered n c (drop k xs) ++ record { order = i; circ = c; to = dest_of to } ∷ []) next
    ∙ sym (numbered-more n c (drop k xs) to) ∙ ap (numbered n c) (sym (drop-append-le k xs (to ∷ []) le)))

next-by : (n k m : ℕ) (xs : List Address) (to : Option Address) → k ≤ length xs → m ≡ n + length (drop k xs)
    → dials_after m to ≡ n + length (drop k (pushed xs to))
next-by n k m xs None le next = next
next-by n k m xs (Some to) le next = let more = ap length (drop-append-le k xs (to ∷ []) le) in let long =
    length-append (drop k xs) (to ∷ []) in omega (arith, next, more, long)

known-by : (k : ℕ) (xs : List Address) (to : Option Address) → k ≤ length xs → k ≤ length (pushed xs to)
known-by k xs None le = le
known-by k xs (Some to) le = omega (arith, le, length-append xs (to ∷ []))

-- a forward cell
pub dial-step : (rules : Rules) (c n k : ℕ) (base : List Dial) (handed : ℕ → Bool) (y : Settling) (command : ℕ) (body : List ℕ)
    → ((m : ℕ) → n ≤ m → handed m ≡ false) →
    HasDial rules c n k base handed y → HasDial rules c n k base handed (settle_event rules (Forward command body) y)
dial-step rules c n k base handed y command body never own =
    let l = log rules y.events in
    let fx = (entry_after rules l (Forward command body)).effects in
    record {
      known = known-by k (asked l) fx.dial own.known;
      next = next-by n k y.dials (asked l) fx.dial own.known own.next;
      dial_is = dial-by y.dials c fx.dial fx.cut (newest (λ entry. hop_by entry.event entry.effects) l) handed
          (base ++ numbered n c (drop k (asked l))) y.circuit.dial (never y.dials (omega (arith, own.next))) own.dial_is
          ∙ ap (open_by (next_hop (entry_after rules l (Forward command body) ∷ l)) handed)
          (dials-by n c base k (asked l) y.dials fx.dial own.known own.next);
    }

-- what the history says of the circuit's dial orders behind the events
length-numbered : (m c : ℕ) (l : List Address) → length (numbered m c l) ≡ length l
length-numbered m c [] = refl
length-numbered m c (to ∷ more) = ap suc (length-numbered (m + 1) c more)

-- before the batch
pub dial-before : (rules : Rules) (c : ℕ) (made : List Dial) (handed : ℕ → Bool) (y : Settling) → y.dials ≡ length made →
    y.circuit.dial ≡ open_by (next_hop (log rules y.events)) handed (filter (is_from c) made)
    → HasDial rules c (length made) (length (asked (log rules y.events))) (filter (is_from c) made) handed y
dial-before rules c made handed y same dial =
    let none = drop-length (asked (log rules y.events)) in
    record {
      known = omega arith;
      next = rw none (omega (arith, same));
      dial_is = rw (none, append-nil (filter (is_from c) made)) dial;
    }

-- and behind it
pub dials-after_are : (c k : ℕ) (made : List Dial) (l : Log)
    → filter (is_from c) (made ++ numbered (length made) c (drop k (asked l))) ≡ filter (is_from c) made
    ++ numbered (length made) c (drop k (asked l))
dials-after_are c k made l =
    filter-append (is_from c) made _ ∙ ap (λ d. filter (is_from c) made ++ d) (from-numbered (length made) c (drop k (asked l)))

pub dials-counted : (c k n : ℕ) (made : List Dial) (l : Log) → n ≡ length made + length (drop k (asked l))
    → n ≡ length (made ++ numbered (length made) c (drop k (asked l)))
dials-counted c k n made l next =
    next ∙ sym (length-append made (numbered (length made) c (drop k (asked l)))
    ∙ ap (λ m. length made + m) (length-numbered (length made) c (drop k (asked l))))
