-- Of a circuit that isn't opened yet nothing was claimed, and nothing came home.
use Rattle.std.proofs.Common.{◌≡◌, ℕ, ◌+◌, ◌≤◌, ◌==◌, Bool, true, false, not, nat_le, if◌then◌else◌, is_none, List, [], ◌∷◌, Option, Some, None, refl, sym, ◌∙◌, ap, subst, arith}
use Rattle.circuit_model.specs.Rules.{Rules}
use Rattle.kdf_tor.specs.declared.LayerKeys.{LayerKeys}
use Rattle.tr_io.specs.declared.answers.BackAnswer.{BackAnswer}
use Rattle.tr_io.specs.declared.answers.OpenAnswer.TheVariants.{Opened, Refused}
use Rattle.tr_io.specs.declared.answers.OpenRefusal.{OpenRefusal}
use Rattle.tr_io.specs.declared.names.CircNo.{CircNo}
use Rattle.tr_io.specs.declared.names.ClaimNote.{ClaimNote}
use Rattle.tr_io.specs.declared.names.Dir.{Dir}
use Rattle.tr_io.specs.declared.names.Dir.TheVariants.{Forth, Back}
use Rattle.tr_io.specs.declared.step.Step.{Step}
use Rattle.tr_io.specs.declared.step.Step.TheVariants.{OpenCircuit, Claim, GiveBack}
use Rattle.switch_model.specs.Start.{SwitchStart}
use Rattle.switch_model.specs.Names.{Way, same_way, way_of, circ_no}
use Rattle.switch_model.specs.History.Channels.{channel_at, is_live_channel}
use Rattle.switch_model.specs.History.Legs.{circuits}
use Rattle.switch_model.specs.History.Circuit.{is_live_circuit, opens, is_accepted_return}
use Rattle.switch_model.specs.Waiting.Claims.{claimed_count, claim_out}
use Rattle.switch_model.specs.Answers.OpenCircuit.{is_in_use, is_peers_id, live_circuits, open_answer}
use Rattle.switch_model.specs.Answers.GiveBack.{is_note, done, return_answer}
use Rattle.switch_model.specs.Legal.{IsLegal}
use Rattle.switch_model.proofs.Common.{and-first, and-second, same-number}
use Rattle.switch_model.proofs.ClaimFinds.{way-is}
use Rattle.switch_model.proofs.Claiming.{Claimed, claimed-by}
use Rattle.switch_model.proofs.Returning.{Passed, passed}
use Rattle.switch_model.proofs.Ways.{brings_home, came_home, came-same, kept-other, was-live}

-- a circuit that isn't opened yet
pub record NotYet (live : Bool) (out : Option ClaimNote) (sum came : ℕ) : Type 0 where
  pub torn : live ≡ false
  pub none_out : out ≡ None
  pub none_claimed : sum ≡ 0
  pub none_came : came ≡ 0

abbrev pub HasNone : Rules → List Step → ℕ → Dir → Type 0
HasNone rules h c dir =
    NotYet (is_live_circuit rules h c) (claim_out h (record { circ = c; dir = dir }))
    (claimed_count h (record { circ = c; dir = dir })) (came_home rules h c dir)

none-came : (rules : Rules) (c : ℕ) (dir : Dir) → came_home rules [] c dir ≡ 0
none-came rules c Forth = refl
none-came rules c Back = refl

pub stays-torn : (rules : Rules) (h : List Step) (s : Step) (c : ℕ) (b : Bool) → is_live_circuit rules (s ∷ h) c ≡ b
    → opens c s ≡ false → is_live_circuit rules h c ≡ false → is_live_circuit rules (s ∷ h) c ≡ false
stays-torn rules h s c true is none torn = let on = was-live rules h s c none is in let no : true ≡ false =
    sym on ∙ torn in absurd cc
stays-torn rules h s c false is none torn = is

stays-none : (rules : Rules) (h : List Step) (s : Step) (c : ℕ) (dir : Dir) → opens c s ≡ false → brings_home c dir s ≡ false →
    claim_out (s ∷ h) (record { circ = c; dir = dir }) ≡ claim_out h (record { circ = c; dir = dir })
    → claimed_count (s ∷ h) (record { circ = c; dir = dir }) ≡ claimed_count h (record { circ = c; dir = dir }) →
    HasNone rules h c dir → HasNone rules (s ∷ h) c dir
stays-none rules h s c dir none other same_out same_sum has = record {
  torn = stays-torn rules h s c _ refl none has.torn;
  none_out = same_out ∙ has.none_out;
  none_claimed = same_sum ∙ has.none_claimed;
  none_came = came-same rules h s c dir other ∙ has.none_came;
}

-- an opening that was accepted has the next number
number-by : (live zero_id used peers keyless full : Bool) (n m : CircNo) (limit : ℕ) →
    Opened n ≡ (if not live then Refused OpenRefusal.NoChannel else if zero_id then Refused OpenRefusal.BadId else if used
    then Refused OpenRefusal.InUse else if not peers then Refused OpenRefusal.BadId
    else if keyless then Refused OpenRefusal.BadHandshake else if full then Refused (OpenRefusal.Full limit) else Opened m)
    → n ≡ m
number-by false zero_id used peers keyless full n m limit is = absurd cc
number-by true true used peers keyless full n m limit is = absurd cc
number-by true false true peers keyless full n m limit is = absurd cc
number-by true false false false keyless full n m limit is = absurd cc
number-by true false false true true full n m limit is = absurd cc
number-by true false false true false true n m limit is = absurd cc
number-by true false false true false false n m limit is = cc

pub opened-number : (start : SwitchStart) (h : List Step) (chan id : ℕ) (keys : Option LayerKeys) (n : CircNo)
    → Opened n ≡ open_answer start h chan id keys → n.0 ≡ circuits h
opened-number start h chan id keys n is =
    ap (λ (m : CircNo). m.0)
    (number-by (is_live_channel h chan) (id == 0) (is_in_use start.rules h chan id) (is_peers_id (channel_at h chan) id)
    (is_none keys) (nat_le start.circuits (live_circuits start.rules h)) n (circ_no (circuits h)) start.circuits is)

-- a return of this direction is of a live circuit
pub home-passed : (start : SwitchStart) (h : List Step) (note : ClaimNote) (place : Option ℕ) (a : BackAnswer)
    → IsLegal start (GiveBack note place a ∷ h) → is_accepted_return a ≡ true →
    Passed (is_live_circuit start.rules h note.circ.0) (is_note note (claim_out h (way_of note)))
    (return_answer start h note place (done start.rules h note note.dir)) (done start.rules h note note.dir)
home-passed start h note place a legal accepted =
    passed start h note place (done start.rules h note note.dir) (subst (λ b. is_accepted_return b ≡ true) legal.0.1 accepted)

claim-none : (start : SwitchStart) (h : List Step) (worker : ℕ) (note : ClaimNote) (c : ℕ) (dir : Dir) (b : Bool)
    → same_way (way_of note) (record { circ = c; dir = dir }) ≡ b → Claimed start h note → HasNone start.rules h c dir →
    HasNone start.rules (Claim worker (Some note) ∷ h) c dir
claim-none start h worker note c dir true is taken has =
    let same = way-is (way_of note) (record { circ = c; dir = dir }) is in
    let on : is_live_circuit start.rules h c ≡ true =
    subst (λ (w : Way). is_live_circuit start.rules h w.circ ≡ true) same taken.live in
    let no : true ≡ false = sym on ∙ has.torn in
    absurd cc
claim-none start h worker note c dir false is taken has =
    stays-none start.rules h (Claim worker (Some note)) c dir refl refl (rw is refl) (rw is refl) has

return-none : (start : SwitchStart) (h : List Step) (note : ClaimNote) (place : Option ℕ) (a : BackAnswer) (c : ℕ) (dir : Dir)
    (b : Bool) → brings_home c dir (GiveBack note place a) ≡ b → IsLegal start (GiveBack note place a ∷ h)
    → HasNone start.rules h c dir →
    HasNone start.rules (GiveBack note place a ∷ h) c dir
return-none start h note place a c dir true is legal has =
    let same = way-is (way_of note) (record { circ = c; dir = dir })
    (and-first (same_way (way_of note) (record { circ = c; dir = dir })) _ is) in
    let accepted = and-second (same_way (way_of note) (record { circ = c; dir = dir })) _ is in
    let live = (home-passed start h note place a legal accepted).live in
    let on : is_live_circuit start.rules h c ≡ true =
    subst (λ (w : Way). is_live_circuit start.rules h w.circ ≡ true) same live in
    let no : true ≡ false = sym on ∙ has.torn in
    absurd cc
return-none start h note place a c dir false is legal has =
    stays-none start.rules h (GiveBack note place a) c dir refl is (kept-other h note place a c dir is) refl has

open-none : (start : SwitchStart) (h : List Step) (n c : ℕ) (b : Bool) → (n == c) ≡ b → n ≡ circuits h → circuits h + 1 ≤ c
    → (n == c) ≡ false
open-none start h n c true is number beyond = let same = same-number n c is in absurd (omega (arith, same, number, beyond))
open-none start h n c false is number beyond = is

pub not-yet : (start : SwitchStart) (h : List Step) → IsLegal start h → (c : ℕ) (dir : Dir) → circuits h ≤ c
    → HasNone start.rules h c dir
not-yet start [] legal c dir beyond =
    record { torn = refl; none_out = refl; none_claimed = refl; none_came = none-came start.rules c dir }
not-yet start (OpenCircuit chan id reply keys pad (Opened n) ∷ h) legal c dir beyond =
    let number = opened-number start h chan.0 id keys n legal.0.1 in
    stays-none start.rules h (OpenCircuit chan id reply keys pad (Opened n)) c dir
    (open-none start h n.0 c (n.0 == c) refl number beyond) refl refl refl
    (not-yet start h legal.1 c dir (omega (arith, beyond)))
not-yet start (Claim worker (Some note) ∷ h) legal c dir beyond =
    claim-none start h worker note c dir _ refl (claimed-by start h worker note legal.0.1) (not-yet start h legal.1 c dir beyond)
not-yet start (GiveBack note place a ∷ h) legal c dir beyond =
    return-none start h note place a c dir _ refl legal (not-yet start h legal.1 c dir beyond)
not-yet start (s ∷ h) legal c dir beyond =
    stays-none start.rules h s c dir refl refl refl refl (not-yet start h legal.1 c dir beyond)
