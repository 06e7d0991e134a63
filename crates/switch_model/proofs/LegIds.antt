-- The CircID that a step gives a leg was given out on its channel, or is of the peer's side.
use Rattle.std.proofs.Common.{◌≡◌, ℕ, ◌+◌, ◌<◌, ◌==◌, ◌&&◌, Bool, true, false, if◌then◌else◌, is_some, List, [], ◌∷◌, Option, Some, None, refl, subst, arith}
use Rattle.std.proofs.lemmas.Bool.Decides.{nat_tests}
use Rattle.tr_io.specs.declared.answers.BackAnswer.{BackAnswer}
use Rattle.tr_io.specs.declared.answers.DialAnswer.{DialAnswer}
use Rattle.tr_io.specs.declared.answers.OpenAnswer.TheVariants.{Opened}
use Rattle.tr_io.specs.declared.dials.DialOutcome.{DialOutcome}
use Rattle.tr_io.specs.declared.dials.DialStep.{DialStep}
use Rattle.tr_io.specs.declared.names.ChanNo.{ChanNo}
use Rattle.tr_io.specs.declared.step.Step.{Step}
use Rattle.tr_io.specs.declared.step.Step.TheVariants.{ChannelDown, OpenCircuit, Take, NextCell, DialDone}
use Rattle.switch_model.specs.Start.{SwitchStart}
use Rattle.switch_model.specs.Limits.{given_id_base}
use Rattle.switch_model.specs.Names.{Leg}
use Rattle.switch_model.specs.History.Channels.{Channel, channels, channel_at, opened_by_us, given_ids, next_given_id}
use Rattle.switch_model.specs.History.Legs.{at, is_destroy_for}
use Rattle.switch_model.specs.Legal.{IsLegal}
use Rattle.switch_model.proofs.Common.{and-first, and-second, same-number}
use Rattle.switch_model.proofs.GivenIds.{opened-fits, linked-over, live-up, IsGiven, given-stays, peers-given}

-- whether a step gives a leg this CircID
abbrev pub takes_id : List Step → Step → ℕ → ℕ → Bool
takes_id h (OpenCircuit n i reply keys pad (Opened c)) chan id = (n.0 == chan) && (i == id)
takes_id h (DialDone order outcome (DialAnswer.Up n)) chan id = (n.0 == chan) && (next_given_id h chan == id)
takes_id h s chan id = false

at-given-if : (P : Type 0) (b : Bool) (leg : Leg) (x : Option Leg) → (b ≡ true → P) → (is_some x ≡ true → P)
    → is_some (if b then Some leg else x) ≡ true → P
at-given-if P true leg x here there is = here refl
at-given-if P false leg x here there is = there is

pub was-some : (b : Bool) (x : Option Leg) → is_some (if b then None else x) ≡ true → is_some x ≡ true
was-some true x is = absurd cc
was-some false x is = is

opened-given : (start : SwitchStart) (h : List Step) (n : ChanNo) (i chan id : ℕ) → IsGiven h n.0 i
    → ((n.0 == chan) && (i == id)) ≡ true → IsGiven h chan id
opened-given start h n i chan id given both =
    subst (λ x. IsGiven h chan x) (same-number i id (and-second (n.0 == chan) _ both))
    (subst (λ x. IsGiven h x i) (same-number n.0 chan (and-first (n.0 == chan) _ both)) given)

pub some-live : (x : Option Channel) → opened_by_us x ≡ true → is_some x ≡ true
some-live (Some channel) ours = refl
some-live None ours = absurd cc

linked-up : (start : SwitchStart) (h : List Step) (order : DialStep) (outcome : DialOutcome) (n : ChanNo)
    → IsLegal start (DialDone order outcome (DialAnswer.Up n) ∷ h) → n.0 < channels (DialDone order outcome (DialAnswer.Up n) ∷ h)
linked-up start h order (DialOutcome.Opened slot) n legal = let number : n.0 ≡ channels h =
    linked-over start h order (DialOutcome.Opened slot) n legal in omega (arith, number)
linked-up start h order (DialOutcome.Over chan) n legal =
    live-up start h legal.1 n.0 (some-live (channel_at h n.0) (linked-over start h order (DialOutcome.Over chan) n legal))
linked-up start h order DialOutcome.Failed n legal = absurd (linked-over start h order DialOutcome.Failed n legal)

newest-given : (b : Bool) (base count id : ℕ) → b ≡ true → base + count + 1 ≡ id
    → id < base + (if b then count + 1 else count) + 1
newest-given true base count id is same = omega (arith, same)
newest-given false base count id is same = absurd cc

linked-given : (start : SwitchStart) (h : List Step) (order : DialStep) (outcome : DialOutcome) (n : ChanNo) (chan id : ℕ)
    → IsLegal start (DialDone order outcome (DialAnswer.Up n) ∷ h) → ((n.0 == chan) && (next_given_id h chan == id)) ≡ true →
    IsGiven (DialDone order outcome (DialAnswer.Up n) ∷ h) chan id
linked-given start h order outcome n chan id legal both =
    let here = and-first (n.0 == chan) _ both in
    let same_chan = same-number n.0 chan here in
    let up = linked-up start h order outcome n legal in
    record {
      up = subst (λ x. x < channels (DialDone order outcome (DialAnswer.Up n) ∷ h)) same_chan up;
      below = λ ours. newest-given (n.0 == chan) given_id_base (given_ids h chan) id here
          (same-number (next_given_id h chan) id (and-second (n.0 == chan) _ both));
    }

pub at-given : (start : SwitchStart) (h : List Step) → IsLegal start h → (chan id : ℕ) → is_some (at h chan id) ≡ true
    → IsGiven h chan id
at-given start [] legal chan id is = absurd cc
at-given start (OpenCircuit n i reply keys pad (Opened c) ∷ h) legal chan id is =
    let fits = opened-fits start h n.0 i keys c legal.0.1 in
    given-stays start h (OpenCircuit n i reply keys pad (Opened c)) chan id legal
    (at-given-if (IsGiven h chan id) ((n.0 == chan) && (i == id)) _ (at h chan id)
    (opened-given start h n i chan id (peers-given start h legal.1 n.0 i fits.channel (λ ours. fits.side)))
    (at-given start h legal.1 chan id) is)
at-given start (DialDone order outcome (DialAnswer.Up n) ∷ h) legal chan id is =
    at-given-if (IsGiven (DialDone order outcome (DialAnswer.Up n) ∷ h) chan id) ((n.0 == chan) && (next_given_id h chan == id)) _
    (at h chan id) (linked-given start h order outcome n chan id legal)
    (λ was. given-stays start h (DialDone order outcome (DialAnswer.Up n)) chan id legal (at-given start h legal.1 chan id was))
    is
at-given start (NextCell n tick (Some cell) ∷ h) legal chan id is =
    given-stays start h (NextCell n tick (Some cell)) chan id legal
    (at-given start h legal.1 chan id (was-some (is_destroy_for n cell chan id) (at h chan id) is))
at-given start (Take n cell answer ∷ h) legal chan id is =
    given-stays start h (Take n cell answer) chan id legal
    (at-given start h legal.1 chan id (was-some (is_destroy_for n cell chan id) (at h chan id) is))
at-given start (ChannelDown n BackAnswer.Settled ∷ h) legal chan id is =
    given-stays start h (ChannelDown n BackAnswer.Settled) chan id legal
    (at-given start h legal.1 chan id (was-some (n.0 == chan) (at h chan id) is))
at-given start (s ∷ h) legal chan id is = given-stays start h s chan id legal (at-given start h legal.1 chan id is)
