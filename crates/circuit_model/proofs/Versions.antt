-- SENDMEs of version 0, which need no proof where the rules accept them.
use Rattle.std.proofs.Common.{◌≡◌, ℕ, ◌+◌, ◌*◌, ◌<◌, ◌≤◌, ◌==◌, ◌&&◌, List, [], ◌∷◌, Bool, true, false, zero, suc, Some, None, refl, nat_le, arith}
use Rattle.tor_spec.specs.CircuitWindow.{circuit_step}
use Rattle.tor_spec.specs.Sendme.{is_version_0, sendme_proof}
use Rattle.circuit_model.specs.Events.{Event}
use Rattle.circuit_model.specs.Rules.{Rules}
use Rattle.circuit_model.specs.Windows.{circuit_packaged, good_sendmes}
use Rattle.circuit_model.specs.SendmeProof.{is_right_sendme}
use Rattle.circuit_model.specs.Words.{log}

and-false : (b : Bool) → (b && false) ≡ false
and-false true = refl
and-false false = refl

-- A payload with a proof begins with VERSION 1.
pub proof-is_version_1 : (payload proof : List ℕ) → sendme_proof payload ≡ Some proof → is_version_0 payload ≡ false
unfolding sendme_proof
proof-is_version_1 [] proof found = absurd cc
proof-is_version_1 (zero ∷ more) proof found = absurd cc
proof-is_version_1 (suc version ∷ more) proof found = grind arith

pub version_0-has_no_proof : (payload : List ℕ) → is_version_0 payload ≡ true → sendme_proof payload ≡ None
unfolding sendme_proof
version_0-has_no_proof [] old = refl
version_0-has_no_proof (zero ∷ more) old = refl
version_0-has_no_proof (suc version ∷ more) old =
    let newer : (suc version == 0) ≡ false = grind arith in
    absurd cc

pub version_0_is_right : (rules : Rules) (h : List Event) (payload : List ℕ) → rules.least ≡ 0 → is_version_0 payload ≡ true →
    circuit_step * (good_sendmes (log rules h) + 1) ≤ circuit_packaged (log rules h)
    → is_right_sendme rules (log rules h) payload ≡ true
unfolding is_right_sendme
version_0_is_right rules h payload least old whole =
    let enough : nat_le (100 * (good_sendmes (log rules h) + 1)) (circuit_packaged (log rules h)) ≡ true = grind arith in
    rw (enough, least, old)

pub version_1_needs_proof : (rules : Rules) (h : List Event) (payload : List ℕ) → 0 < rules.least → is_version_0 payload ≡ true
    → is_right_sendme rules (log rules h) payload ≡ false
unfolding is_right_sendme
version_1_needs_proof rules h payload least old =
    let no : (rules.least == 0) ≡ false = grind arith in
    let none : sendme_proof payload ≡ None = version_0-has_no_proof payload old in
    let enough : Bool = nat_le (100 * (good_sendmes (log rules h) + 1)) (circuit_packaged (log rules h)) in
    rw (no, none) (and-false enough)
