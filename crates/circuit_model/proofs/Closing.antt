-- What closes a circuit, and what follows.
use Rattle.std.proofs.Common.{◌≡◌, ◌≢◌, ℕ, ◌+◌, ◌*◌, ◌<◌, ◌≤◌, ◌&&◌, ◌==◌, List, Bool, true, false, IsTrue, Some, None, refl, ◌∙◌, nat_le, arith}
use Rattle.std.proofs.lemmas.Slice.Eq.{bytes_eq-Decides}
use Rattle.std.specs.Prelude.{bytes_eq}
use Rattle.std.specs.Bool.{Decides}
use Rattle.tor_spec.specs.RelayCell.{sendme_command}
use Rattle.tor_spec.specs.Sendme.{needs_no_proof, sendme_proof}
use Rattle.circuit_model.specs.Events.{Event}
use Rattle.circuit_model.specs.declared.event.Event.TheVariants.{Forward}
use Rattle.circuit_model.specs.Rules.{Rules}
use Rattle.circuit_model.specs.Log.{Log, Message, no_effects, closing, is_closed}
use Rattle.circuit_model.specs.Received.{message_at, early_count, received}
use Rattle.circuit_model.specs.Windows.{circuit_packaged, good_sendmes}
use Rattle.circuit_model.specs.SendmeProof.{proof_owed, is_right_sendme}
use Rattle.circuit_model.specs.Effects.{message_effects, open_effects}
use Rattle.circuit_model.specs.Words.{log, effects}
use Rattle.circuit_model.proofs.Reading.{read-effects}
use Rattle.circuit_model.proofs.Versions.{proof-is_version_1}

pub closed_gives_nothing : (rules : Rules) (h : List Event) (e : Event) → IsTrue (is_closed (log rules h))
    → effects rules h e ≡ no_effects
closed_gives_nothing rules h e closed = rw closed

pub ninth_early_closes : (rules : Rules) (h : List Event) (body : List ℕ) → is_closed (log rules h) ≡ false
    → 8 ≤ early_count (log rules h) → effects rules h (Forward 9 body) ≡ closing 1
unfolding open_effects received
ninth_early_closes rules h body live eight =
    let many : nat_le 8 (early_count (log rules h)) ≡ true = grind arith in
    rw (live, many)

unequal-by : (xs ys : List ℕ) (b : Bool) → Decides b (xs ≡ ys) → xs ≢ ys → b ≡ false
unequal-by xs ys true tells other = absurd (other (tells.0 refl))
unequal-by xs ys false tells other = refl

-- A circuit SENDME that is not right.
does-close : (rules : Rules) (l : Log) (m : Message) → m.command ≡ sendme_command → m.stream ≡ 0
    → is_right_sendme rules l m.payload ≡ false → message_effects rules l m ≡ closing 1
unfolding message_effects
does-close rules l m command stream wrong = rw (command, stream, wrong)

-- What makes it so.

and-false_right : (b : Bool) → (b && false) ≡ false
and-false_right true = refl
and-false_right false = refl

not_right-none_owed : (rules : Rules) (l : Log) (payload : List ℕ) → circuit_packaged l < 100 * (good_sendmes l + 1)
    → is_right_sendme rules l payload ≡ false
unfolding is_right_sendme
not_right-none_owed rules l payload none =
    let few : nat_le (100 * (good_sendmes l + 1)) (circuit_packaged l) ≡ false = grind arith in
    rw few

not_right-no_proof : (rules : Rules) (l : Log) (payload : List ℕ) → needs_no_proof rules.least payload ≡ false
    → sendme_proof payload ≡ None → is_right_sendme rules l payload ≡ false
unfolding is_right_sendme
not_right-no_proof rules l payload needs none = rw (needs, none, and-false_right)

not_right-other_proof : (rules : Rules) (l : Log) (payload proof : List ℕ) → sendme_proof payload ≡ Some proof
    → proof ≢ proof_owed l (good_sendmes l + 1) → is_right_sendme rules l payload ≡ false
unfolding is_right_sendme
not_right-other_proof rules l payload proof found other =
    let owed : List ℕ = proof_owed l (good_sendmes l + 1) in
    let unequal : bytes_eq proof owed ≡ false = unequal-by proof owed (bytes_eq proof owed) (bytes_eq-Decides proof owed) other in
    let needs : needs_no_proof rules.least payload ≡ false =
    rw (proof-is_version_1 payload proof found) (and-false_right (rules.least == 0)) in
    rw (needs, found, unequal, and-false_right)

pub sendme_owed_none_closes : (rules : Rules) (h : List Event) (e : Event) (m : Message) → message_at (log rules h) e ≡ Some m
    → m.command ≡ sendme_command → m.stream ≡ 0 →
    circuit_packaged (log rules h) < 100 * (good_sendmes (log rules h) + 1) → effects rules h e ≡ closing 1
sendme_owed_none_closes rules h e m found command stream none =
    read-effects rules (log rules h) e m found
    ∙ does-close rules (log rules h) m command stream (not_right-none_owed rules (log rules h) m.payload none)

pub sendme_without_proof_closes : (rules : Rules) (h : List Event) (e : Event) (m : Message)
    → message_at (log rules h) e ≡ Some m → m.command ≡ sendme_command → m.stream ≡ 0 →
    needs_no_proof rules.least m.payload ≡ false → sendme_proof m.payload ≡ None → effects rules h e ≡ closing 1
sendme_without_proof_closes rules h e m found command stream needs none =
    read-effects rules (log rules h) e m found
    ∙ does-close rules (log rules h) m command stream (not_right-no_proof rules (log rules h) m.payload needs none)

pub sendme_of_other_proof_closes : (rules : Rules) (h : List Event) (e : Event) (m : Message) (proof : List ℕ)
    → message_at (log rules h) e ≡ Some m → m.command ≡ sendme_command → m.stream ≡ 0 →
    sendme_proof m.payload ≡ Some proof → proof ≢ proof_owed (log rules h) (good_sendmes (log rules h) + 1)
    → effects rules h e ≡ closing 1
sendme_of_other_proof_closes rules h e m proof found command stream given other =
    read-effects rules (log rules h) e m found
    ∙ does-close rules (log rules h) m command stream (not_right-other_proof rules (log rules h) m.payload proof given other)
