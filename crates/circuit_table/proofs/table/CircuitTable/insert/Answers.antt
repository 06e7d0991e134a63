use Rattle.std.proofs.Common.{◌≡◌, ◌+◌, Result, Ok, Err, sym, ap, ◌∙◌, refl}
use Rattle.std.proofs.lemmas.Result.{err_from_is_err_and}
use Rattle.std.specs.FinMap as map
use Rattle.std.specs.Result.{IsOk, OnOk}
use Rattle.circuit_table.specs.Ports.{Port, ids_of}
use Rattle.circuit_table.specs.Indexing.{ports_of, IsIndexed}
use Rattle.circuit_table.proofs.Places.{ports_of-reordered, ports_of-inserted, is_indexed-reordered, is_indexed-inserted, counts_more}
use Rattle.circuit_table.proofs.table.CircuitTable.insert.Goals as goal

pub invariant_of-self-in_err-insert : goal.invariant_of-self-in_err-insert
invariant_of-self-in_err-insert c =
    is_indexed-reordered _ _ _ _ _ _ c.self.invariant (ap (λ s. s.slots) c.reserve.ensures.rest_kept)
    c.reserve-2.ensures.entries.2 c.in_err-insert.ensures.err

pub returns-in_err-insert-clause-err : goal.returns-in_err-insert-clause-err
returns-in_err-insert-clause-err c =
    let failed = err_from_is_err_and c.from_residual-in_err-insert.result c.from_residual-in_err-insert.ensures.1 in
    rw failed.1
    (ports_of-reordered c.self.inside.legs c.reserve.new.self c.self.inside.places.entries c.reserve-2.new.self.entries
    (ap (λ s. s.slots) c.reserve.ensures.rest_kept) c.reserve-2.ensures.entries.2
    ∙ c.self.view_is)

-- What holds of the call that can't fail.
of_ok : {T E : Type 0} (r : Result T E) (P : Type 0) → IsOk r → OnOk r P → P
of_ok (Ok x) P ok p = p
of_ok (Err e) P ok p = absurd (cc)

-- The table with room for the CircID, in its order then.
roomy : (c : goal.After-insert-2) → IsIndexed c.reserve.new.self c.reserve-2.new.self.entries c.self.inside.counts.entries
roomy c =
    is_indexed-reordered _ _ _ _ _ _ c.self.invariant (ap (λ s. s.slots) c.reserve.ensures.rest_kept)
    c.reserve-2.ensures.entries.2 refl

same_map : (c : goal.After-insert-2) → ports_of c.reserve.new.self c.reserve-2.new.self.entries ≡ c.args.self.now
same_map c =
    ports_of-reordered c.self.inside.legs c.reserve.new.self c.self.inside.places.entries c.reserve-2.new.self.entries
    (ap (λ s. s.slots) c.reserve.ensures.rest_kept) c.reserve-2.ensures.entries.2
    ∙ c.self.view_is

pub invariant_of-self-2 : goal.invariant_of-self-2
invariant_of-self-2 c =
    let was = roomy c in
    let port : Port = (c.args.chan.0, c.args.id) in
    let moved = of_ok c.insert-2.result _ (c.insert-2.ensures.succeeds c.in_ok-reserve-2.ensures.ok) c.insert-2.ensures.updates in
    is_indexed-inserted c.reserve.new.self c.insert_reserved-place.new.self c.reserve-2.new.self.entries
    c.insert-2.new.self.entries port c.insert_reserved-place.result
    (c.args.circ, c.args.leg) c.insert_reserved-place.ensures.was_vacant c.insert_reserved-place.ensures.updates moved.0
    was.has_leg was.apart
    c.self.inside.counts.entries c.insert.new.self.entries
    (ap (λ m. map.get m port) (same_map c) ∙ c.requires)
    was.counted
    (counts_more _ _ c.args.chan.0 (c.ids-ids.result + 1) c.in_ok-insert.ensures.updates.0
    (ap (λ n. n + 1) (c.ids-ids.ensures ∙ ap (λ m. ids_of m c.args.chan.0) (sym c.self.view_is)
    ∙ sym (c.self.invariant.counted c.args.chan.0))))

pub returns-clause-ok : goal.returns-clause-ok
returns-clause-ok c =
    let port : Port = (c.args.chan.0, c.args.id) in
    let moved = of_ok c.insert-2.result _ (c.insert-2.ensures.succeeds c.in_ok-reserve-2.ensures.ok) c.insert-2.ensures.updates in
    ports_of-inserted c.reserve.new.self c.insert_reserved-place.new.self c.reserve-2.new.self.entries c.insert-2.new.self.entries
    port c.insert_reserved-place.result
    (c.args.circ, c.args.leg) c.insert_reserved-place.ensures.was_vacant c.insert_reserved-place.ensures.updates moved.0
    (roomy c).has_leg
    ∙ ap (λ m. map.insert m port (c.args.circ, c.args.leg)) (same_map c)
