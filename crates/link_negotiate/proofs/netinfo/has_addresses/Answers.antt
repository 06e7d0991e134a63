use Rattle.std.proofs.Common.{◌≡◌, None, Some, is_some, sym, ap, ◌∙◌, arith}
use Rattle.tor_spec.specs.Netinfo.{behind_address, behind_addresses}
use Rattle.tor_spec.proofs.NetinfoSteps.{one_address, no_address, all_addresses}
use Rattle.link_negotiate.proofs.netinfo.has_addresses.Goals as goal

pub returns-in_default : goal.returns-in_default
returns-in_default c =
    let none : behind_address c.loop-addresses_left.rest_bytes.now ≡ None = c.in_default.ensures in
    sym (ap (λ o. is_some o) (sym c.loop-addresses_left.invariant ∙ no_address _ _ c.loop-addresses_left-test.true none))

pub loop-addresses_left-preserved : goal.loop-addresses_left-preserved
loop-addresses_left-preserved c =
    let some : behind_address c.loop-addresses_left.rest_bytes.now ≡ Some c.in-Some.tail.now = c.in-Some.ensures in
    sym (one_address _ _ _ c.loop-addresses_left-test.true some) ∙ c.loop-addresses_left.invariant

pub returns : goal.returns
returns c =
    let zero : c.loop-addresses_left.addresses_left ≡ 0 = omega arith in
    sym (ap (λ o. is_some o)
    (sym c.loop-addresses_left.invariant ∙ ap (λ n. behind_addresses n c.loop-addresses_left.rest_bytes.now) zero
    ∙ all_addresses _))
