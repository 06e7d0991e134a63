-- Backward bodies that come home sealed: the circuit.
use Rattle.std.proofs.Common.{◌≡◌, ℕ, ◌+◌, ◌&&◌, ◌<◌, ◌≤◌, Bool, true, if◌then◌else◌, is_some, List, [], ◌∷◌, ◌++◌, length, map, take, drop, Option, Some, None, option_map, option_to_list, refl, sym, ◌∙◌, ap, subst, arith, zero, suc, append_assoc}
use Rattle.std.proofs.Math.Dec.{eqb-suc-zero}
use Rattle.std.proofs.Math.Seq.{take-append_seam}
use Rattle.std.proofs.lemmas.List.{length-append, length-map, length-take-le, take-append-drop}
use Rattle.circuit_model.specs.Events.{CircuitCell}
use Rattle.circuit_model.specs.Log.{Log}
use Rattle.circuit_model.specs.Opened.{born_keys, born_reply}
use Rattle.circuit_model.specs.Packaged.{back_bodies}
use Rattle.circuit_model.specs.Rules.{Rules}
use Rattle.circuit_model.specs.Sent.{all_sealed, sealed}
use Rattle.circuit_model.specs.Words.{log}
use Rattle.switch_machine.proofs.GiveBack.Home.{claimed-same, other-way, own-way, way-home}
use Rattle.switch_machine.proofs.GiveBack.Returned.{returning}
use Rattle.switch_machine.proofs.Settling.Core.{leg-more, length-sealed}
use Rattle.switch_machine.proofs.Slots.{length-with, slot_at-with}
use Rattle.circuit_model.specs.Batches.{body_of}
use Rattle.switch_machine.specs.Calls.GiveBack.{first_kept, sealed_cells, sealed_circuit}
use Rattle.switch_machine.specs.Calls.Settling.{more_queued, queued_on}
use Rattle.switch_machine.specs.Machine.{kept_cells}
use Rattle.switch_machine.specs.Stands.OneCircuit.{CircuitStands, relay_cells}
use Rattle.switch_machine.specs.Stands.OneLeg.{LegBy}
use Rattle.switch_machine.specs.Stands.OneWay.{IsNoteOf, IsNoted, WayStands}
use Rattle.switch_machine.specs.State.{CircuitState, KeptClaim, LegState, WayState, slot_at}
use Rattle.switch_model.specs.Answers.EdgeOut.{Ordered}
use Rattle.switch_model.specs.History.Circuit.{events}
use Rattle.switch_model.specs.History.EdgePast.{edge_past}
use Rattle.switch_model.specs.History.Legs.{Port, holds_id}
use Rattle.switch_model.specs.History.Past.{past}
use Rattle.switch_model.specs.Names.{same_way, way_of}
use Rattle.switch_model.specs.Waiting.Queues.{sendable}
use Rattle.tor_spec.specs.CellCommands.{relay_command}
use Rattle.tr_io.specs.declared.answers.BackAnswer.TheVariants.{Settled}
use Rattle.tr_io.specs.declared.names.ClaimNote.{ClaimNote}
use Rattle.tr_io.specs.declared.names.Dir.TheVariants.{Back, Forth}
use Rattle.tr_io.specs.declared.step.Step.{Step}

-- the first of three pieces, and the first two
sealed-both : (key : List ℕ) (n : ℕ) (xs ys : List (List ℕ))
    → all_sealed key n (xs ++ ys) ≡ all_sealed key n xs ++ all_sealed key (n + length xs) ys
sealed-both key n [] ys = let e : n + 0 ≡ n = omega arith in rw e refl
sealed-both key n (x ∷ xs) ys = let e : n + suc (length xs) ≡ n + 1 + length xs =
    omega arith in rw e (ap (λ l. sealed key n x ∷ l) (sealed-both key (n + 1) xs ys))

take-number : (n : ℕ) (xs ys : List CircuitCell) → n ≡ length xs → take n (xs ++ ys) ≡ xs
take-number n xs ys e = ap (λ m. take m (xs ++ ys)) e ∙ take-append_seam xs ys

start-at : (n m : ℕ) → n ≡ m → 0 + m ≡ n
start-at n m e = omega (arith, e)

two-lengths : (n m a b c : ℕ) → n ≡ a → m ≡ b → c ≡ a + b → 1 + (n + m) ≡ suc c
two-lengths n m a b c e f g = omega (arith, e, f, g)

-- leg 0: so many more may leave
more-sealed : (reply : Option CircuitCell) (key : List ℕ) (a b w : List (List ℕ)) (n m : ℕ) → is_some reply ≡ true → n ≡ length a
    → m ≡ length b →
    take (1 + (n + m)) (option_to_list reply ++ all_sealed key 0 (a ++ b ++ w))
    ≡ take (1 + n) (option_to_list reply ++ all_sealed key 0 (a ++ b ++ w)) ++ all_sealed key n b
more-sealed None key a b w n m some e f = absurd cc
more-sealed (Some r) key a b w n m some e f =
    let first = all_sealed key 0 a in
    let second = all_sealed key n b in
    let third = all_sealed key (0 + length (a ++ b)) w in
    let parts : all_sealed key 0 (a ++ b ++ w) ≡ first ++ second ++ third =
    sealed-both key 0 (a ++ b) w
    ∙ ap (λ l. l ++ third) (sealed-both key 0 a b ∙ ap (λ i. first ++ all_sealed key i b) (start-at n (length a) e)) in
    let one_more : 1 + n ≡ length (r ∷ first) = omega (arith, length-sealed key 0 a, e) in
    let both : 1 + (n + m) ≡ length (r ∷ (first ++ second)) =
    two-lengths n m (length first) (length second) (length (first ++ second)) (e ∙ sym (length-sealed key 0 a))
    (f ∙ sym (length-sealed key n b)) (length-append first second) in
    let short : take (1 + n) (r ∷ all_sealed key 0 (a ++ b ++ w)) ≡ r ∷ first =
    ap (λ l. take (1 + n) (r ∷ l)) (parts ∙ append_assoc first second third)
    ∙ take-number (1 + n) (r ∷ first) (second ++ third) one_more in
    let long : take (1 + (n + m)) (r ∷ all_sealed key 0 (a ++ b ++ w)) ≡ r ∷ (first ++ second) =
    ap (λ l. take (1 + (n + m)) (r ∷ l)) parts ∙ take-number (1 + (n + m)) (r ∷ (first ++ second)) third both in
    long ∙ ap (λ l. l ++ second) (sym short)

-- the bodies in three pieces
pieces : (xs : List (List ℕ)) (n m : ℕ) → take n xs ++ take m (drop n xs) ++ drop m (drop n xs) ≡ xs
pieces xs n m =
    append_assoc (take n xs) (take m (drop n xs)) (drop m (drop n xs)) ∙ ap (λ l. take n xs ++ l) (take-append-drop m (drop n xs))
    ∙ take-append-drop n xs

none-taken : (m : ℕ) → ◌≡◌ {A = List CircuitCell} (take m []) []
none-taken zero = refl
none-taken (suc m) = refl

take-then : (n m : ℕ) (xs : List CircuitCell) → take n xs ++ take m (drop n xs) ≡ take (n + m) xs
take-then zero m xs = let e : 0 + m ≡ m = omega arith in rw e refl
take-then (suc n) m [] = let e : suc n + m ≡ suc (n + m) = omega arith in rw e (none-taken m)
take-then (suc n) m (x ∷ xs) = let e : suc n + m ≡ suc (n + m) = omega arith in rw e (ap (λ l. x ∷ l) (take-then n m xs))

drop-relay : (n : ℕ) (xs : List (List ℕ)) → drop n (relay_cells xs) ≡ relay_cells (drop n xs)
drop-relay zero xs = refl
drop-relay (suc n) [] = refl
drop-relay (suc n) (x ∷ xs) = drop-relay n xs

take-relay : (n : ℕ) (xs : List (List ℕ)) → take n (relay_cells xs) ≡ relay_cells (take n xs)
take-relay zero xs = refl
take-relay (suc n) [] = refl
take-relay (suc n) (x ∷ xs) = ap (λ l. record { command = relay_command; body = x } ∷ l) (take-relay n xs)

body-relay : (xs : List (List ℕ)) → map body_of (relay_cells xs) ≡ xs
body-relay [] = refl
body-relay (x ∷ xs) = ap (λ l. x ∷ l) (body-relay xs)

length-relay : (xs : List (List ℕ)) → length (relay_cells xs) ≡ length xs
length-relay [] = refl
length-relay (x ∷ xs) = ap suc (length-relay xs)

-- leg 0 with the sealed cells, and the other legs
legs-sealed : (legs : List (Option LegState)) (l : Log) (n m : ℕ) (bodies : List (List ℕ)) (sent : ℕ → List CircuitCell)
    (lies : ℕ → Option Port) (has_id : ℕ → Bool) → 0 < length legs → is_some (born_reply l) ≡ true →
    n ≤ length (back_bodies l) → m ≡ length bodies → bodies ≡ take m (drop n (back_bodies l))
    → ((k : ℕ) → LegBy (slot_at legs k) (sent k) (sendable l n k) (lies k) (has_id k)) →
    (k : ℕ) → LegBy (slot_at (queued_on legs 0 (all_sealed (born_keys l).kb n bodies)) k) (sent k) (sendable l (n + m) k) (lies k)
    (has_id k)
legs-sealed legs l n m bodies sent lies has_id inside born few count which own zero =
    let xs = back_bodies l in
    let put = all_sealed (born_keys l).kb n bodies in
    let whole : take n xs ++ bodies ++ drop m (drop n xs) ≡ xs =
    subst (λ b. take n xs ++ b ++ drop m (drop n xs) ≡ xs) (sym which) (pieces xs n m) in
    let more = more-sealed (born_reply l) (born_keys l).kb (take n xs) bodies (drop m (drop n xs)) n m born
    (sym (length-take-le n xs few)) count in
    let told : take (1 + (n + m)) (option_to_list (born_reply l) ++ all_sealed (born_keys l).kb 0 xs) ≡ take (1 + n)
    (option_to_list (born_reply l) ++ all_sealed (born_keys l).kb 0 xs) ++ put =
    subst (λ z. take (1 + (n + m)) (option_to_list (born_reply l) ++ all_sealed (born_keys l).kb 0 z)
    ≡ take (1 + n) (option_to_list (born_reply l) ++ all_sealed (born_keys l).kb 0 z) ++ put) whole more in
    rw (slot_at-with legs 0 (option_map (more_queued put) (slot_at legs 0)) 0 inside)
    (subst (λ r. LegBy (option_map (more_queued put) (slot_at legs 0)) (sent 0) r (lies 0) (has_id 0)) (sym told)
    (leg-more (slot_at legs 0) (sent 0) (sendable l n 0) put (lies 0) (has_id 0) (own 0)))
legs-sealed legs l n m bodies sent lies has_id inside born few count which own (suc k) =
    rw (
      slot_at-with legs 0 (option_map (more_queued (all_sealed (born_keys l).kb n bodies)) (slot_at legs 0)) (suc k) inside,
      eqb-suc-zero k,
    ) (rw (eqb-suc-zero k) at (own (suc k)))

room-for : (n m : ℕ) (xs bodies : List (List ℕ)) → bodies ≡ take m (drop n xs) → m ≡ length bodies → n ≤ length xs
    → n + m ≤ length xs
room-for n m xs bodies which count few =
    let parts = ap length (pieces xs n m) in
    let one = length-append (take n xs ++ take m (drop n xs)) (drop m (drop n xs)) in
    let two = length-append (take n xs) (take m (drop n xs)) in
    let three : m ≡ length (take m (drop n xs)) = count ∙ ap length which in
    omega (arith, parts, one, two, three, length-take-le n xs few)

-- the bodies that come home are those behind the ones that were sealed before
pub record SealsBodies (l : Log) (n : ℕ) (k : KeptClaim) : Type 0 where
  pub first : k.note.first ≡ n
  pub bodies : map body_of k.cells ≡ take k.note.count (drop n (back_bodies l))
  pub count : k.note.count ≡ length (map body_of k.cells)
  pub home : take n (relay_cells (back_bodies l)) ++ k.cells ≡ take (n + k.note.count) (relay_cells (back_bodies l))

seals-bodies : (c : ℕ) (way : WayState) (l : Log) (n count : ℕ) (known : Option ClaimNote) (all : List ℕ) (k : KeptClaim)
    → n ≤ length (back_bodies l) → way.claim_out ≡ Some k →
    WayStands c Back way (take n (relay_cells (back_bodies l))) (relay_cells (back_bodies l)) count known all → SealsBodies l n k
seals-bodies c way l n count known all k few out own =
    let xs = back_bodies l in
    let noted : IsNoteOf c Back (length (take n (relay_cells xs))) k =
    subst (IsNoted c Back (length (take n (relay_cells xs)))) out own.noted in
    let few_cells : n ≤ length (relay_cells xs) = omega (arith, few, length-relay xs) in
    let first : k.note.first ≡ n = noted.first ∙ length-take-le n (relay_cells xs) few_cells in
    let cells : take k.note.count (drop n (relay_cells xs)) ≡ k.cells =
    subst (λ i. take k.note.count (drop i (relay_cells xs)) ≡ k.cells) first (claimed-same c Back way _ _ _ _ _ k own out) in
    record {
      first = first;
      bodies = ap (map body_of) (sym cells ∙ ap (take k.note.count) (drop-relay n xs) ∙ take-relay k.note.count (drop n xs))
          ∙ body-relay (take k.note.count (drop n xs));
      count = noted.count ∙ sym (length-map k.cells body_of);
      home = ap (λ b. take n (relay_cells xs) ++ b) (sym cells) ∙ take-then n k.note.count (relay_cells xs);
    }

-- what the step says of its circuit
past-sealed : (rules : Rules) (h : List Step) (n : ClaimNote) → n.dir ≡ Back →
    past rules (returning n Settled ∷ h) n.circ.0 ≡ record (past rules h n.circ.0) {
      events = events rules (returning n Settled ∷ h) n.circ.0;
      sealed_count = (past rules h n.circ.0).sealed_count + n.count;
      claim_out = λ dir. if same_way (way_of n) (record { circ = n.circ.0; dir = dir }) && true then None
          else (past rules h n.circ.0).claim_out dir;
    }
past-sealed rules h n back = rw (own-way n n.circ.0 Back refl back) refl

pub circuit-sealed : (rules : Rules) (closes : List Ordered) (h : List Step) (n : ClaimNote) (x : CircuitState) (k : KeptClaim)
    → n.dir ≡ Back → x.back.claim_out ≡ Some k → k.note ≡ n →
    CircuitStands rules closes x n.circ.0 (past rules h n.circ.0) (λ j. holds_id h n.circ.0 j) (edge_past rules h n.circ.0) →
    edge_past rules (returning n Settled ∷ h) n.circ.0 ≡ edge_past rules h n.circ.0
    → events rules (returning n Settled ∷ h) n.circ.0 ≡ events rules h n.circ.0 →
    CircuitStands rules closes (sealed_circuit rules (events rules h n.circ.0) x) n.circ.0
    (past rules (returning n Settled ∷ h) n.circ.0) (λ j. holds_id (returning n Settled ∷ h) n.circ.0 j)
    (edge_past rules (returning n Settled ∷ h) n.circ.0)
circuit-sealed rules closes h n x k back out its own edge_same events_same =
    let c = n.circ.0 in
    let p = past rules h c in
    let l = log rules (events rules h c) in
    let key = (born_keys l).kb in
    let seals = seals-bodies c x.back l p.sealed_count _ _ _ k own.sealed out own.back in
    let count : k.note.count ≡ n.count = ap (λ (m : ClaimNote). m.count) its in
    let put : sealed_cells key (first_kept x.back.claim_out) (kept_cells x.back.claim_out) ≡ all_sealed key p.sealed_count
    (map body_of k.cells) =
    rw out (ap (λ i. all_sealed key i (map body_of k.cells)) seals.first) in
    let inside : 0 < length x.legs = omega (arith, own.hops) in
    let which : map body_of k.cells ≡ take n.count (drop p.sealed_count (back_bodies l)) =
    seals.bodies ∙ ap (λ m. take m (drop p.sealed_count (back_bodies l))) count in
    let many : n.count ≡ length (map body_of k.cells) = sym count ∙ seals.count in
    let legs = legs-sealed x.legs l p.sealed_count n.count (map body_of k.cells) p.sent p.port (λ j. holds_id h c j) inside
    own.born own.sealed many which own.legs in
    rw (past-sealed rules h n back, edge_same, events_same) (record {
      live = own.live;
      sent_count = own.sent_count;
      born = own.born;
      sealed = room-for p.sealed_count n.count (back_bodies l) (map body_of k.cells) which many own.sealed;
      linked = own.linked;
      hops = length-with x.legs 0 _ ∙ own.hops;
      legs = λ j. subst
          (λ cs. LegBy (slot_at (queued_on x.legs 0 cs) j) (p.sent j) (sendable l (p.sealed_count + n.count) j) (p.port j)
          (holds_id h c j)) (sym put) (legs j);
      forth = rw (other-way n c Forth Back back refl) own.forth;
      back = rw (own-way n c Back refl back, ← count, ← seals.home) (way-home c Back x.back _ _ _ _ _ k own.back out);
      orders = own.orders;
      no_left = own.no_left;
      dial = own.dial;
    })
