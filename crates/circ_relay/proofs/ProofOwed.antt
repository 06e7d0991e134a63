-- The proof that a log's window owes, and what a SENDME's payload is to it.
use Rattle.std.proofs.Common.{◌≡◌, ◌↔◌, ℕ, ◌+◌, ◌*◌, ◌<◌, ◌≤◌, ◌&&◌, ◌||◌, List, Bool, true, false, Option, Some, None, if◌then◌else◌, length, slice_get, nat_le, bytes_eq, refl, ap, sym, ◌∙◌, arith, option_map}
use Rattle.std.proofs.lemmas.List.{length-map}
use Rattle.std.proofs.lemmas.Option.{slice_get-map, slice_get_past}
use Rattle.std.proofs.lemmas.Bool.{leb-true}
use Rattle.std.proofs.lemmas.Bool.Decides.{nat_tests}
use Rattle.tor_spec.specs.Sendme.{needs_no_proof, sendme_proof}
use Rattle.tor_spec.specs.CircuitWindow.{proofs, next_owed}
use Rattle.sendme_windows.specs.Answers.{judged, judged_if_read, answer_to}
use Rattle.sendme_windows.specs.declared.proof_answer.ProofAnswer.{ProofAnswer}
use Rattle.sendme_windows.specs.declared.proof_answer.ProofAnswer.TheVariants.{Good, Wrong, NoneOwed, BadForm}
use Rattle.circuit_model.specs.Rules.{Rules}
use Rattle.circuit_model.specs.Log.{Log}
use Rattle.circuit_model.specs.Packaged.{own_bodies, back_digest}
use Rattle.circuit_model.specs.Windows.{circuit_packaged, good_sendmes}
use Rattle.circuit_model.specs.SendmeProof.{up_to_data, proves, is_right_sendme, proof_owed as proof_with_number}
use Rattle.circ_relay.specs.WindowOfLog.{up_to_each_data, data_digests, window_of, is_good}
use Rattle.circ_relay.proofs.DataBodies.{count_packaged}
use Rattle.circ_relay.proofs.Hundredths.{first_dropped, hundredth_at, data_by_number}

owed_at : (log : Log) → next_owed (window_of log) ≡ slice_get (data_digests log) (100 * good_sendmes log + 99)
unfolding window_of proofs
owed_at log = first_dropped (good_sendmes log) _ ∙ hundredth_at (data_digests log) (good_sendmes log)

count_of_digests : (log : Log) → length (data_digests log) ≡ circuit_packaged log
count_of_digests log = length-map (up_to_each_data (own_bodies log)) (back_digest log) ∙ count_packaged log

-- Where the hundred is whole.
pub owed_when_packaged : (log : Log) → 100 * (good_sendmes log + 1) ≤ circuit_packaged log
    → next_owed (window_of log) ≡ Some (proof_with_number log (good_sendmes log + 1))
unfolding proof_with_number
owed_when_packaged log enough =
    let place : ℕ = 100 * good_sendmes log + 99 in
    let number : place + 1 ≡ 100 * (good_sendmes log + 1) = omega arith in
    let inside : place < length (up_to_each_data (own_bodies log)) = omega (arith, count_packaged log) in
    owed_at log
    ∙ slice_get-map (back_digest log) (up_to_each_data (own_bodies log)) place
    ∙ ap (option_map (back_digest log)) (data_by_number (own_bodies log) place inside)
    ∙ ap (λ n. Some (back_digest log (up_to_data n (own_bodies log)))) number

-- Where it isn't.
pub owed_none_before : (log : Log) → circuit_packaged log < 100 * (good_sendmes log + 1) → next_owed (window_of log) ≡ None
owed_none_before log few =
    owed_at log ∙ slice_get_past (data_digests log) (100 * good_sendmes log + 99) (omega (arith, count_of_digests log))

owed_by : (log : Log) (whole : Bool) → nat_le (100 * (good_sendmes log + 1)) (circuit_packaged log) ≡ whole
    → next_owed (window_of log) ≡ (if whole then Some (proof_with_number log (good_sendmes log + 1)) else None)
owed_by log true is = owed_when_packaged log (leb-true (100 * (good_sendmes log + 1)) (circuit_packaged log) is)
owed_by log false is =
    let few : circuit_packaged log < 100 * (good_sendmes log + 1) = grind (arith, nat_tests) in
    owed_none_before log few

-- A SENDME is right where the answer to it is Good.

good_by_same : (same : Bool) (sent_proof owed_proof : List ℕ)
    → same ≡ is_good (if same then Good else Wrong owed_proof sent_proof)
good_by_same true sent_proof owed_proof = refl
good_by_same false sent_proof owed_proof = refl

-- Where the proof of a SENDME counts, and where it doesn't.
abbrev judged_by : Bool → Option (List ℕ) → Option (List ℕ) → ProofAnswer
judged_by unproved owed_proof sent_proof = if unproved then judged owed_proof None else judged_if_read owed_proof sent_proof

good_by : (unproved whole : Bool) (owed_proof : List ℕ) (sent_proof : Option (List ℕ)) →
    (whole && (unproved || proves owed_proof sent_proof)) ≡
    is_good (judged_by unproved (if whole then Some owed_proof else None) sent_proof)
good_by true true owed_proof sent_proof = refl
good_by true false owed_proof sent_proof = refl
good_by false true owed_proof None = refl
good_by false false owed_proof None = refl
good_by false true owed_proof (Some sent_proof) = good_by_same (bytes_eq sent_proof owed_proof) sent_proof owed_proof
good_by false false owed_proof (Some sent_proof) = refl

pub right_by_answer : (rules : Rules) (log : Log) (payload : List ℕ)
    → is_right_sendme rules log payload ≡ is_good (answer_to rules.least (window_of log) payload)
unfolding is_right_sendme
right_by_answer rules log payload =
    let whole : Bool = nat_le (100 * (good_sendmes log + 1)) (circuit_packaged log) in
    let unproved : Bool = needs_no_proof rules.least payload in
    good_by unproved whole (proof_with_number log (good_sendmes log + 1)) (sendme_proof payload)
    ∙ ap (λ owed_proof. is_good (judged_by unproved owed_proof (sendme_proof payload))) (sym (owed_by log whole refl))

good_is : (answer : ProofAnswer) → is_good answer ≡ true → answer ≡ Good
good_is Good is = refl
good_is (Wrong expected sent_proof) is = cc
good_is NoneOwed is = cc
good_is BadForm is = cc

pub right_where_good : (rules : Rules) (log : Log) (payload : List ℕ)
    → is_right_sendme rules log payload ≡ true ↔ answer_to rules.least (window_of log) payload ≡ Good
right_where_good rules log payload = (
  λ right. good_is (answer_to rules.least (window_of log) payload) (sym (right_by_answer rules log payload) ∙ right),
  λ good. right_by_answer rules log payload ∙ ap is_good good,
)
