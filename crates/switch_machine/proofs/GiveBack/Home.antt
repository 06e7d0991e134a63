-- A claim that comes home: its bodies, and the numbers of those that they bring.
use Rattle.std.proofs.Common.{◌≡◌, ℕ, ◌+◌, ◌==◌, true, false, List, [], ◌∷◌, ◌++◌, length, map, take, drop, replicate, Option, Some, None, refl, sym, ◌∙◌, ap, subst, arith, zero, suc, append_assoc}
use Rattle.std.proofs.Math.Seq.{take-append_seam, drop-append_seam}
use Rattle.std.proofs.lemmas.List.{append-nil, length-append}
use Rattle.circuit_model.specs.Events.{CircuitCell, Event}
use Rattle.circuit_model.specs.Rules.{Rules}
use Rattle.circuit_model.specs.Words.{log}
use Rattle.switch_machine.proofs.GiveBack.Batch.{counted-both, counted_from}
use Rattle.switch_machine.specs.Calls.GiveBack.{home_way}
use Rattle.switch_machine.specs.Machine.{kept_cells}
use Rattle.switch_machine.specs.Stands.OneWay.{IsNoteOf, IsNoted, WayStands, cell_waiting}
use Rattle.switch_machine.specs.State.{KeptClaim, WayState}
use Rattle.switch_model.proofs.Common.{and-false, self_eq}
use Rattle.switch_model.specs.History.EdgePast.{numbers_of}
use Rattle.switch_model.specs.History.Relayed.{settled_forth}
use Rattle.circuit_model.specs.Batches.{forward_of}
use Rattle.switch_model.specs.History.Returns.{Closes, Closing, Full, Goes, closing_at, reason_with, settled, settled_with, settling_reason}
use Rattle.switch_model.specs.Names.{Way, same_dir, same_way, way_of}
use Rattle.tr_io.specs.declared.names.ClaimNote.{ClaimNote}
use Rattle.tr_io.specs.declared.names.Dir.{Dir}
use Rattle.tr_io.specs.declared.names.Dir.TheVariants.{Back, Forth}

-- the bodies that were claimed are those that the state kept
pub claimed-same : (c : ℕ) (d : Dir) (way : WayState) (home given : List CircuitCell) (count : ℕ) (known : Option ClaimNote)
    (all : List ℕ) (k : KeptClaim) → WayStands c d way home given count known all → way.claim_out ≡ Some k →
    take k.note.count (drop k.note.first given) ≡ k.cells
claimed-same c d way home given count known all k own out =
    let its : IsNoteOf c d (length home) k = subst (IsNoted c d (length home)) out own.noted in
    let cells : home ++ k.cells ++ map cell_waiting way.waiting_bodies ≡ given =
    subst (λ o. home ++ kept_cells o ++ map cell_waiting way.waiting_bodies ≡ given) out own.cells in
    rw (
      its.count,
      its.first,
      ← cells,
      append_assoc home k.cells (map cell_waiting way.waiting_bodies),
      drop-append_seam home (k.cells ++ map cell_waiting way.waiting_bodies),
    )
    (take-append_seam k.cells (map cell_waiting way.waiting_bodies))

home-length : (xs ys : List CircuitCell) → length xs + length ys ≡ length (xs ++ ys) + 0
home-length xs ys = omega (arith, length-append xs ys)

-- the direction once they came home
pub way-home : (c : ℕ) (d : Dir) (way : WayState) (home given : List CircuitCell) (count : ℕ) (known : Option ClaimNote)
    (all : List ℕ) (k : KeptClaim) → WayStands c d way home given count known all → way.claim_out ≡ Some k →
    WayStands c d (home_way way) (home ++ k.cells) given count None all
way-home c d way home given count known all k own out =
    let cells : home ++ k.cells ++ map cell_waiting way.waiting_bodies ≡ given =
    subst (λ o. home ++ kept_cells o ++ map cell_waiting way.waiting_bodies ≡ given) out own.cells in
    let long : way.claimed_count ≡ length home + length k.cells =
    subst (λ o. way.claimed_count ≡ length home + length (kept_cells o)) out own.out in
    record {
      claimed_count = own.claimed_count;
      out = long ∙ home-length home k.cells;
      claim_out = refl;
      noted = tt;
      cells = ap (λ l. l ++ map cell_waiting way.waiting_bodies) (append-nil (home ++ k.cells)) ∙ cells;
      claimed_numbers = own.claimed_numbers;
      claimed_all = own.claimed_all;
      numbers = own.numbers;
    }

-- where none closes, all are events
forth-by : (rules : Rules) (cell : CircuitCell) (cells : List CircuitCell) (before more : List Event) (later : Option ℕ)
    (k : Closing) → reason_with k later ≡ None →
    (later ≡ None → settled_forth (log rules more) ≡ settled_forth (log rules (forward_of cell ∷ before)) ++ cells) →
    settled_forth (log rules (settled_with k (forward_of cell) before more)) ≡ settled_forth (log rules before) ++ cell ∷ cells
forth-by rules cell cells before more later Goes none rest =
    rest none ∙ append_assoc (settled_forth (log rules before)) (cell ∷ []) cells
forth-by rules cell cells before more later (Closes reason) none rest = absurd cc
forth-by rules cell cells before more later Full none rest = absurd cc

pub forth-settled : (rules : Rules) (left : ℕ) (cells : List CircuitCell) (before : List Event)
    → settling_reason rules left before cells ≡ None →
    settled_forth (log rules (settled rules left before cells)) ≡ settled_forth (log rules before) ++ cells
forth-settled rules left [] before none = sym (append-nil (settled_forth (log rules before)))
forth-settled rules left (cell ∷ cells) before none =
    forth-by rules cell cells before (settled rules left (forward_of cell ∷ before) cells)
    (settling_reason rules left (forward_of cell ∷ before) cells) (closing_at rules left before cell) none
    (λ later. forth-settled rules left cells (forward_of cell ∷ before) later)

-- the numbers of bodies that are born in one direction
self-dir : (a : Dir) → same_dir a a ≡ true
self-dir Forth = refl
self-dir Back = refl

pub self-way : (a : Way) → same_way a a ≡ true
self-way a = rw (self_eq a.circ) (self-dir a.dir)

pub length-repeated : (w : Way) (n : ℕ) (older : List Way) → length (replicate n w ++ older) ≡ length older + n
length-repeated w zero older = omega arith
length-repeated w (suc n) older = omega (arith, length-repeated w n older)

pub numbers-own : (w : Way) (n : ℕ) (older : List Way)
    → numbers_of w (replicate n w ++ older) ≡ numbers_of w older ++ counted_from (length older) n
numbers-own w zero older = sym (append-nil (numbers_of w older))
numbers-own w (suc n) older =
    let one_more : n + 1 ≡ suc n = omega arith in
    let next : counted_from (length older) n ++ (length older + n) ∷ [] ≡ counted_from (length older) (suc n) =
    counted-both (length older) n 1 ∙ ap (counted_from (length older)) one_more in
    rw (self-way w, numbers-own w n older, length-repeated w n older)
    (append_assoc (numbers_of w older) (counted_from (length older) n) ((length older + n) ∷ [])
    ∙ ap (λ l. numbers_of w older ++ l) next)

-- the direction of a note, and the other one
pub own-way : (n : ClaimNote) (c : ℕ) (d : Dir) → n.circ.0 ≡ c → n.dir ≡ d
    → same_way (way_of n) (record { circ = c; dir = d }) ≡ true
own-way n c d here is = rw (here, is) (self-way (record { circ = c; dir = d }))

pub other-way : (n : ClaimNote) (c : ℕ) (d e : Dir) → n.dir ≡ e → same_dir e d ≡ false
    → same_way (way_of n) (record { circ = c; dir = d }) ≡ false
other-way n c d e is other = rw (is, other) (and-false (n.circ.0 == c))
