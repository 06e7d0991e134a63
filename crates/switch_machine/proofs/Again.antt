-- dial_done where memory is wanting adds no step, and keeps what the switch stands for.
use Rattle.std.specs.Prelude.{⊤}
use Rattle.std.proofs.Common.{◌≡◌, ℕ, ◌+◌, ◌≤◌, ◌==◌, ◌&&◌, ◌⊎◌, Bool, true, false, if◌then◌else◌, List, [], ◌∷◌, ◌++◌, length, Option, Some, None, refl, sym, ◌∙◌, ap, subst, arith, inl, inr}
use Rattle.std.specs.List.{AllByRecursion, list_any, filter}
use Rattle.tor_spec.specs.Extend.{Address}
use Rattle.circuit_model.specs.NextHop.{next_hop}
use Rattle.circuit_model.specs.Rules.{Rules}
use Rattle.tr_io.specs.declared.dials.DialStep.{DialStep}
use Rattle.tr_io.specs.declared.step.Step.{Step}
use Rattle.tr_io.specs.declared.step.Step.TheVariants.{GiveBack}
use Rattle.switch_model.specs.Start.{SwitchStart}
use Rattle.switch_model.specs.History.Legs.{holds_id}
use Rattle.switch_model.specs.History.Circuit.{is_live_circuit}
use Rattle.switch_model.specs.History.Past.{past}
use Rattle.switch_model.specs.History.EdgePast.{edge_past}
use Rattle.switch_model.specs.Waiting.Queues.{circuit_log}
use Rattle.switch_model.specs.Waiting.Dials.{Dial, dials_made, is_dialling, is_from, is_last, is_open, numbered, same_dial, was_handed_out}
use Rattle.switch_model.specs.Answers.DialDone.{is_out}
use Rattle.switch_model.specs.Answers.EdgeOut.{Ordered}
use Rattle.switch_machine.specs.State.{CircuitState, State, slot_at}
use Rattle.switch_machine.specs.Machine.{is_among, is_handed_out, dial_at, dial_in}
use Rattle.switch_machine.specs.Calls.DialMemory.{dial_memory_state}
use Rattle.switch_machine.specs.Stands.Dials.{AreOnce}
use Rattle.switch_machine.specs.Stands.OneCircuit.{last_of, CircuitAt}
use Rattle.switch_machine.specs.Stands.{Stands}
use Rattle.switch_model.proofs.Ported.{turned}
use Rattle.switch_model.proofs.Common.{self_eq, or-first, or-second, and-first, and-second, same-number}

-- The dial orders that were made are numbered in turn.

abbrev pub NumberedFrom : ℕ → List Dial → Type 0
NumberedFrom n [] = ⊤
NumberedFrom n (dial ∷ dials) = (dial.order ≡ n) × NumberedFrom (n + 1) dials

numbered-both : (n m : ℕ) (xs ys : List Dial) → n + length xs ≡ m → NumberedFrom n xs → NumberedFrom m ys
    → NumberedFrom n (xs ++ ys)
numbered-both n m [] ys size first second = let e : m ≡ n = omega (arith, size) in subst (λ a. NumberedFrom a ys) e second
numbered-both n m (x ∷ xs) ys size first second = (first.0, numbered-both (n + 1) m xs ys (omega (arith, size)) first.1 second)

numbered-new : (n c : ℕ) (to : List Address) → NumberedFrom n (numbered n c to)
numbered-new n c [] = tt
numbered-new n c (first ∷ more) = (refl, numbered-new (n + 1) c more)

pub made-numbered : (rules : Rules) (h : List Step) → NumberedFrom 0 (dials_made rules h)
made-numbered rules [] = tt
made-numbered rules (GiveBack note place answer ∷ h) =
    numbered-both 0 (length (dials_made rules h)) (dials_made rules h) _ (omega arith) (made-numbered rules h)
    (numbered-new (length (dials_made rules h)) note.circ.0 _)
made-numbered rules (s ∷ h) = made-numbered rules h

-- So an order that is a circuit's last is the last of the circuit's.

abbrev pub IsIn : Dial → List Dial → Type 0
IsIn dial [] = ⊥
IsIn dial (first ∷ dials) = (first ≡ dial) ⊎ IsIn dial dials

pub behind : (n : ℕ) (dials : List Dial) (dial : Dial) → NumberedFrom n dials → IsIn dial dials → n ≤ dial.order
behind n (first ∷ dials) dial numbers (inl same) = let e : dial.order ≡ n = ap (λ (d : Dial). d.order) (sym same) ∙ numbers.0 in
    omega (arith, e)
behind n (first ∷ dials) dial numbers (inr inside) = let later = behind (n + 1) dials dial numbers.1 inside in
    omega (arith, later)
behind n [] dial numbers inside = absurd inside

last-more : (first dial : Dial) (dials : List Dial) → last_of dials ≡ Some dial → last_of (first ∷ dials) ≡ Some dial
last-more first dial [] last = absurd cc
last-more first dial (other ∷ dials) last = last

last-if : (b : Bool) (first dial : Dial) (dials : List Dial) → last_of dials ≡ Some dial
    → last_of (if b then first ∷ dials else dials) ≡ Some dial
last-if true first dial dials last = last-more first dial dials last
last-if false first dial dials last = last

no-length : (dials : List Dial) → (length dials == 0) ≡ true → dials ≡ []
no-length [] none = refl
no-length (dial ∷ dials) none = let no : length (dial ∷ dials) ≡ 0 = same-number (length (dial ∷ dials)) 0 none in
    absurd (omega (arith, no))

last-by : (n : ℕ) (first : Dial) (dials : List Dial) (dial : Dial) (b : Bool) → (first.order == dial.order) ≡ b → first.order ≡ n
    → NumberedFrom (n + 1) dials → (first ≡ dial) ⊎ IsIn dial dials →
    (IsIn dial dials → is_last dials dial ≡ true → last_of (filter (is_from dial.circ) dials) ≡ Some dial) →
    (if b then length (filter (is_from dial.circ) dials) == 0 else is_last dials dial) ≡ true
    → last_of (filter (is_from dial.circ) (first ∷ dials)) ≡ Some dial
last-by n first dials dial true is number numbers (inl same) later last =
    rw (same, self_eq dial.circ, no-length (filter (is_from dial.circ) dials) last) refl
last-by n first dials dial true is number numbers (inr inside) later last =
    let above = behind (n + 1) dials dial numbers inside in
    let e : first.order ≡ dial.order = same-number first.order dial.order is in absurd (omega (arith, above, e, number))
last-by n first dials dial false is number numbers (inl same) later last =
    let e : first.order ≡ dial.order = ap (λ (d : Dial). d.order) same in
    let no : (dial.order == dial.order) ≡ false = subst (λ a. (a == dial.order) ≡ false) e is in
    let both : true ≡ false = sym (self_eq dial.order) ∙ no in absurd cc
last-by n first dials dial false is number numbers (inr inside) later last =
    last-if (is_from dial.circ first) first dial (filter (is_from dial.circ) dials) (later inside last)

pub last-of-circuit : (n : ℕ) (dials : List Dial) (dial : Dial) → NumberedFrom n dials → IsIn dial dials
    → is_last dials dial ≡ true → last_of (filter (is_from dial.circ) dials) ≡ Some dial
last-of-circuit n [] dial numbers inside last = absurd inside
last-of-circuit n (first ∷ dials) dial numbers inside last =
    last-by n first dials dial (first.order == dial.order) refl numbers.0 numbers.1 inside
    (last-of-circuit (n + 1) dials dial numbers.1) last

-- An order that is out, by the history: it is its circuit's.

pub record IsOut (rules : Rules) (h : List Step) (given_order : DialStep) (dials : List Dial) : Type 0 where
  pub dial : Dial
  pub inside : IsIn dial dials
  pub same : same_dial given_order dial ≡ true
  pub is_open : is_open rules h dial ≡ true
  pub handed_out : was_handed_out h dial.order ≡ true

out-by : (rules : Rules) (h : List Step) (given_order : DialStep) (first : Dial) (dials rest : List Dial) (b d : Bool)
    → (is_open rules h first && was_handed_out h first.order) ≡ b → same_dial given_order first ≡ d →
    (list_any (same_dial given_order) rest ≡ true → IsOut rules h given_order dials)
    → list_any (same_dial given_order) (if b then first ∷ rest else rest) ≡ true → IsOut rules h given_order (first ∷ dials)
out-by rules h given_order first dials rest true true is same later some =
    record {
      dial = first;
      inside = inl refl;
      same = same;
      is_open = and-first _ _ is;
      handed_out =
          and-second (is_open rules h first) _ is;
    }
out-by rules h given_order first dials rest true false is same later some =
    let out = later (rw same at some) in
    record { dial = out.dial; inside = inr out.inside; same = out.same; is_open = out.is_open; handed_out = out.handed_out }
out-by rules h given_order first dials rest false d is same later some =
    let out = later some in
    record { dial = out.dial; inside = inr out.inside; same = out.same; is_open = out.is_open; handed_out = out.handed_out }

pub out-of : (rules : Rules) (h : List Step) (given_order : DialStep) (dials : List Dial) →
    list_any (same_dial given_order) (filter (λ dial. is_open rules h dial && was_handed_out h dial.order) dials) ≡ true
    → IsOut rules h given_order dials
out-of rules h given_order [] some = absurd cc
out-of rules h given_order (first ∷ dials) some =
    out-by rules h given_order first dials _ (is_open rules h first && was_handed_out h first.order) (same_dial given_order first)
    refl refl (out-of rules h given_order dials) some

-- and by the state
out-at : (rules : Rules) (closes : List Ordered) (h : List Step) (c : ℕ) (x : Option CircuitState) (dial : Dial)
    → CircuitAt rules closes x c (past rules h c) (λ k. holds_id h c k) (edge_past rules h c) →
    is_live_circuit rules h c ≡ true → is_dialling (next_hop (circuit_log rules h c)) ≡ true
    → last_of (filter (is_from c) (dials_made rules h)) ≡ Some dial → was_handed_out h dial.order ≡ true →
    is_handed_out (dial_at x) ≡ true
out-at rules closes h c None dial gone alive dials last handed_out = let both : false ≡ true = sym gone.live ∙ alive in absurd cc
out-at rules closes h c (Some x) dial own alive dials last handed_out = rw (own.dial, dials, last) handed_out

out-in : (start : SwitchStart) (s : State) (h : List Step) (given_order : DialStep) → Stands start s h
    → is_out start.rules h given_order ≡ true → is_handed_out (dial_in s given_order.circ.0) ≡ true
out-in start s h given_order st out =
    let made = dials_made start.rules h in
    let is = out-of start.rules h given_order made out in
    let open_is : (is_dialling (next_hop (circuit_log start.rules h is.dial.circ)) && is_last made is.dial) ≡ true =
    and-second (is_live_circuit start.rules h is.dial.circ) _ is.is_open in
    let circ : given_order.circ.0 ≡ is.dial.circ =
    same-number given_order.circ.0 is.dial.circ (and-first _ _ (and-second (given_order.order == is.dial.order) _ is.same)) in
    rw circ (out-at start.rules s.last_closes h is.dial.circ (slot_at s.circuits is.dial.circ) is.dial
    (st.circuits.circuit is.dial.circ)
    (and-first _ _ is.is_open) (and-first _ _ open_is)
    (last-of-circuit 0 made is.dial (made-numbered start.rules h) is.inside (and-second _ _ open_is)) is.handed_out)

all-last : (P : ℕ → Type 0) (xs : List ℕ) (x : ℕ) → AllByRecursion P xs → P x → AllByRecursion P (xs ++ x ∷ [])
all-last P [] x all own = (own, tt)
all-last P (y ∷ xs) x all own = (all.0, all-last P xs x all.1 own)

among-last : (n : ℕ) (xs : List ℕ) (x : ℕ) → is_among n xs ≡ false → (x == n) ≡ false → is_among n (xs ++ x ∷ []) ≡ false
among-last n [] x none other = rw other refl
among-last n (y ∷ xs) x none other = rw (or-first (y == n) _ none) (among-last n xs x (or-second (y == n) _ none) other)

once-last : (xs : List ℕ) (x : ℕ) → AreOnce xs → is_among x xs ≡ false → AreOnce (xs ++ x ∷ [])
once-last [] x once none = (refl, tt)
once-last (y ∷ xs) x once none = (
  among-last y xs x once.0 (turned x y ∙ (or-first (y == x) _ none)),
  once-last xs x once.1 (or-second (y == x) _ none),
)

memory-by : (start : SwitchStart) (s : State) (h : List Step) (c : ℕ) (b : Bool) → is_among c s.again ≡ b
    → is_handed_out (dial_in s c) ≡ true → Stands start s h →
    Stands start (if b then s else record s { again = s.again ++ c ∷ [] }) h
memory-by start s h c true among out st = st
memory-by start s h c false among out st = record {
  steps = st.steps;
  numbers = st.numbers;
  channels = st.channels;
  circuits = st.circuits;
  ids = st.ids;
  legs = st.legs;
  dials = record {
    are_out = all-last (λ d. is_handed_out (dial_in s d) ≡ true) s.again c st.dials.are_out out;
    once = once-last s.again c st.dials.once among;
    never = st.dials.never;
  };
  counts = st.counts;
  slots = st.slots;
  not_yet = st.not_yet;
}

pub dial_memory_kept : (start : SwitchStart) (s : State) (h : List Step) (given_order : DialStep)
    → is_out start.rules h given_order ≡ true → Stands start s h → Stands start (dial_memory_state s given_order.circ.0) h
dial_memory_kept start s h given_order out st =
    memory-by start s h given_order.circ.0 (is_among given_order.circ.0 s.again) refl (out-in start s h given_order st out) st
