use Rattle.std.proofs.Common.{rules, ◌≡◌, ◌<◌, ℕ, Bool, true, false, List, [], ◌∷◌, length, sym, ◌∙◌, arith}
use Rattle.std.specs.Prelude.{nat_eq}
use Rattle.std.proofs.lemmas.Bool.{eqb-true, not-true, not-false}
use Rattle.tor_spec.proofs.Resolves.{ip_empty, ip_whole, ip_step, ip_stop, ip_done}
use Rattle.relay_cell.proofs.resolve.read_resolved.Goals as goal

none_left : (bytes : List ℕ) (is_empty : Bool) → is_empty ≡ nat_eq (length bytes) 0 → is_empty ≡ true → length bytes ≡ 0
none_left bytes is_empty is empty = eqb-true (length bytes) 0 (sym is ∙ empty)

some_left : (bytes : List ℕ) (is_empty : Bool) → is_empty ≡ nat_eq (length bytes) 0 → is_empty ≡ false → 0 < length bytes
some_left [] is_empty is empty = absurd cc
some_left (b ∷ bytes) is_empty is empty = omega arith

pub returns-then-is_empty : goal.returns-then-is_empty
returns-then-is_empty c =
    sym (ip_empty c.args.payload.now (none_left _ _ c.is_empty.ensures c.if-is_empty.true))

pub loop-rest-init : goal.loop-rest-init
loop-rest-init c = ip_whole c.args.payload.now (some_left _ _ c.is_empty.ensures c.if-is_empty.false)

pub returns-in_err-next_ip : goal.returns-in_err-next_ip
returns-in_err-next_ip c =
    let test = c.loop-rest-test.true in
    let some : c.is_empty-in-loop-rest.result ≡ false =
    first_of (search rules, search (rules, not-true), grind (arith, not-true), cc) in
    rw c.from_residual.ensures
    (sym (ip_stop c.loop-rest.ip c.loop-rest.rest.now
    (some_left c.loop-rest.rest.now c.is_empty-in-loop-rest.result c.is_empty-in-loop-rest.ensures some)
    c.in_err-next_ip.ensures.none)
    ∙ c.loop-rest.invariant)

pub loop-rest-preserved : goal.loop-rest-preserved
loop-rest-preserved c =
    sym (ip_step c.loop-rest.ip _ c.or-ip.result c.loop-rest.rest.now c.in_ok-next_ip.tail.now
    c.in_ok-next_ip.ensures.some c.or-ip.ensures)
    ∙ c.loop-rest.invariant

pub returns : goal.returns
returns c =
    let test = c.loop-rest-test.false in
    let none : c.is_empty-in-loop-rest.result ≡ true =
    first_of (search rules, search (rules, not-false), grind (arith, not-false), cc) in
    sym (ip_done c.loop-rest.ip c.loop-rest.rest.now
    (none_left c.loop-rest.rest.now c.is_empty-in-loop-rest.result c.is_empty-in-loop-rest.ensures none))
    ∙ c.loop-rest.invariant
