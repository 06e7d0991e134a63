-- In a legal history a CircID that a leg has was given out on its channel, or is of the peer's side, so this side
-- gives out a new one.
use Rattle.std.proofs.Common.{◌≡◌, ℕ, ◌+◌, ◌<◌, ◌==◌, ◌&&◌, ◌||◌, Bool, true, false, not, nat_le, if◌then◌else◌, cond, is_some, is_none, List, [], ◌∷◌, Option, None, refl, sym, ap, subst, arith}
use Rattle.std.specs.List.{list_any, filter}
use Rattle.std.proofs.lemmas.Bool.Decides.{nat_tests}
use Rattle.circuit_model.specs.Rules.{Rules}
use Rattle.kdf_tor.specs.declared.LayerKeys.{LayerKeys}
use Rattle.tr_io.specs.declared.answers.BackAnswer.{BackAnswer}
use Rattle.tr_io.specs.declared.answers.DialAnswer.{DialAnswer}
use Rattle.tr_io.specs.declared.answers.OpenAnswer.TheVariants.{Opened, Refused}
use Rattle.tr_io.specs.declared.answers.OpenRefusal.{OpenRefusal}
use Rattle.tr_io.specs.declared.answers.UpAnswer.{UpAnswer}
use Rattle.tr_io.specs.declared.dials.DialOutcome.{DialOutcome}
use Rattle.tr_io.specs.declared.dials.DialStep.{DialStep}
use Rattle.tr_io.specs.declared.names.ChanNo.{ChanNo}
use Rattle.tr_io.specs.declared.names.CircNo.{CircNo}
use Rattle.tr_io.specs.declared.step.Step.{Step}
use Rattle.tr_io.specs.declared.step.Step.TheVariants.{ChannelUp, ChannelDown, DialDone}
use Rattle.switch_model.specs.Start.{SwitchStart}
use Rattle.switch_model.specs.Limits.{channel_limit, given_id_base}
use Rattle.switch_model.specs.Names.{circ_no, chan_no}
use Rattle.switch_model.specs.History.Channels.{Channel, channels, channel_at, is_live_channel, live_channels, opened_by_us, given_ids, next_given_id}
use Rattle.switch_model.specs.History.Legs.{circuits, at}
use Rattle.switch_model.specs.History.Circuit.{is_live_circuit}
use Rattle.switch_model.specs.Waiting.Dials.{Dial, dials_made, is_open, was_handed_out, same_dial}
use Rattle.switch_model.specs.Answers.OpenCircuit.{is_in_use, is_peers_id, live_circuits, open_answer}
use Rattle.switch_model.specs.Answers.DialDone.{carries_on, dialled, is_out}
use Rattle.switch_model.specs.Legal.{IsLegal}
use Rattle.switch_model.proofs.Common.{and-first, and-second, same-number}

-- an opening that was accepted, and one that is refused by a DESTROY
pub record IsFitting (live used peers : Bool) : Type 0 where
  pub channel : live ≡ true
  pub unused : used ≡ false
  pub side : peers ≡ true

fitting-by : (live zero_id used peers keyless full : Bool) (n m : CircNo) (limit : ℕ) →
    Opened n ≡ (if not live then Refused OpenRefusal.NoChannel else if zero_id then Refused OpenRefusal.BadId else if used
    then Refused OpenRefusal.InUse else if not peers then Refused OpenRefusal.BadId
    else if keyless then Refused OpenRefusal.BadHandshake else if full then Refused (OpenRefusal.Full limit) else Opened m)
    → IsFitting live used peers
fitting-by false zero_id used peers keyless full n m limit is = absurd cc
fitting-by true true used peers keyless full n m limit is = absurd cc
fitting-by true false true peers keyless full n m limit is = absurd cc
fitting-by true false false false keyless full n m limit is = absurd cc
fitting-by true false false true keyless full n m limit is = record { channel = refl; unused = refl; side = refl }

pub opened-fits : (start : SwitchStart) (h : List Step) (chan id : ℕ) (keys : Option LayerKeys) (n : CircNo)
    → Opened n ≡ open_answer start h chan id keys →
    IsFitting (is_live_channel h chan) (is_in_use start.rules h chan id) (is_peers_id (channel_at h chan) id)
opened-fits start h chan id keys n is =
    fitting-by (is_live_channel h chan) (id == 0) (is_in_use start.rules h chan id) (is_peers_id (channel_at h chan) id)
    (is_none keys) (nat_le start.circuits (live_circuits start.rules h)) n (circ_no (circuits h)) start.circuits is

-- channels have the numbers below the next one
up-number : (b : Bool) (limit : ℕ) (n m : ChanNo) → UpAnswer.Up n ≡ (if b then UpAnswer.Full limit else UpAnswer.Up m) → n.0 ≡ m.0
up-number true limit n m is = absurd cc
up-number false limit n m is = let same : n ≡ m = cc in ap (λ (x : ChanNo). x.0) same

record IsDialled (h : List Step) (outcome : DialOutcome) (n : ChanNo) (out : Bool) : Type 0 where
  pub waited : out ≡ true
  pub answer : DialAnswer.Up n ≡ dialled h outcome

dialled-by : (h : List Step) (outcome : DialOutcome) (n : ChanNo) (out : Bool)
    → DialAnswer.Up n ≡ (if not out then DialAnswer.Gone else dialled h outcome) → IsDialled h outcome n out
dialled-by h outcome n true is = record { waited = refl; answer = is }
dialled-by h outcome n false is = absurd cc

slot-number : (b : Bool) (limit : ℕ) (n m : ChanNo) → DialAnswer.Up n ≡ (if b then DialAnswer.Full limit else DialAnswer.Up m)
    → n.0 ≡ m.0
slot-number true limit n m is = absurd cc
slot-number false limit n m is = let same : n ≡ m = cc in ap (λ (x : ChanNo). x.0) same

record IsOver (n m : ChanNo) (carries : Bool) : Type 0 where
  pub number : n.0 ≡ m.0
  pub carried : carries ≡ true

over-by : (carries : Bool) (reason : ℕ) (n m : ChanNo)
    → DialAnswer.Up n ≡ (if not carries then DialAnswer.Closed reason else DialAnswer.Up m) → IsOver n m carries
over-by true reason n m is = let same : n ≡ m = cc in record { number = ap (λ (x : ChanNo). x.0) same; carried = refl }
over-by false reason n m is = absurd cc

-- a link is over a new channel, or over one that this side opened
abbrev pub IsLinkedOver : List Step → DialOutcome → ℕ → Type 0
IsLinkedOver h (DialOutcome.Opened slot) n = n ≡ channels h
IsLinkedOver h (DialOutcome.Over chan) n = opened_by_us (channel_at h n) ≡ true
IsLinkedOver h DialOutcome.Failed n = ⊥

over-ours : (h : List Step) (n m : ChanNo) → IsOver n m (carries_on h m.0) → opened_by_us (channel_at h n.0) ≡ true
over-ours h n m over =
    subst (λ x. opened_by_us (channel_at h x) ≡ true) (sym over.number)
    (and-first (opened_by_us (channel_at h m.0)) _ over.carried)

linked-by : (h : List Step) (outcome : DialOutcome) (n : ChanNo) → DialAnswer.Up n ≡ dialled h outcome
    → IsLinkedOver h outcome n.0
linked-by h (DialOutcome.Opened slot) n is =
    slot-number (nat_le channel_limit (live_channels h)) channel_limit n (chan_no (channels h)) is
linked-by h (DialOutcome.Over chan) n is = over-ours h n chan (over-by (carries_on h chan.0) 6 n chan is)
linked-by h DialOutcome.Failed n is = absurd cc

pub linked-over : (start : SwitchStart) (h : List Step) (order : DialStep) (outcome : DialOutcome) (n : ChanNo)
    → IsLegal start (DialDone order outcome (DialAnswer.Up n) ∷ h) → IsLinkedOver h outcome n.0
linked-over start h order outcome n legal =
    linked-by h outcome n (dialled-by h outcome n (is_out start.rules h order) legal.0.1).answer

-- and of a live circuit
record IsFound (rules : Rules) (h : List Step) (order : DialStep) : Type 0 where
  pub dial : Dial
  pub same : same_dial order dial ≡ true
  pub is_of_live : is_open rules h dial ≡ true

found-or : (rules : Rules) (h : List Step) (order : DialStep) (dial : Dial) (others : Bool) (same : Bool)
    → same_dial order dial ≡ same → is_open rules h dial ≡ true → (others ≡ true → IsFound rules h order)
    → (same || others) ≡ true → IsFound rules h order
found-or rules h order dial others true same opened later any = record { dial = dial; same = same; is_of_live = opened }
found-or rules h order dial others false same opened later any = later any

found-if : (rules : Rules) (h : List Step) (order : DialStep) (dial : Dial) (more : List Dial) (test : Bool)
    → (is_open rules h dial && was_handed_out h dial.order) ≡ test
    → (list_any (same_dial order) more ≡ true → IsFound rules h order) →
    list_any (same_dial order) (cond test (dial ∷ more) more) ≡ true → IsFound rules h order
found-if rules h order dial more true is later any =
    found-or rules h order dial (list_any (same_dial order) more) (same_dial order dial) refl
    (and-first (is_open rules h dial) _ is) later any
found-if rules h order dial more false is later any = later any

found-by : (rules : Rules) (h : List Step) (order : DialStep) (made : List Dial)
    → list_any (same_dial order) (filter (λ dial. is_open rules h dial && was_handed_out h dial.order) made) ≡ true
    → IsFound rules h order
found-by rules h order [] any = absurd cc
found-by rules h order (dial ∷ made) any =
    found-if rules h order dial (filter (λ dial. is_open rules h dial && was_handed_out h dial.order) made) _ refl
    (found-by rules h order made) any

pub dial-live : (start : SwitchStart) (h : List Step) (order : DialStep) (outcome : DialOutcome) (n : ChanNo)
    → IsLegal start (DialDone order outcome (DialAnswer.Up n) ∷ h) → is_live_circuit start.rules h order.circ.0 ≡ true
dial-live start h order outcome n legal =
    let found =
    found-by start.rules h order (dials_made start.rules h)
    (dialled-by h outcome n (is_out start.rules h order) legal.0.1).waited in
    let same = same-number order.circ.0 found.dial.circ
    (and-first (order.circ.0 == found.dial.circ) _ (and-second (order.order == found.dial.order) _ found.same)) in
    subst (λ c. is_live_circuit start.rules h c ≡ true) (sym same)
    (and-first (is_live_circuit start.rules h found.dial.circ) _ found.is_of_live)

-- a live channel came up
live-if : (b : Bool) (x y : Option Channel) (n chan m : ℕ) → (b ≡ true → chan < m) → (is_some y ≡ true → chan < m)
    → is_some (if b then x else y) ≡ true → chan < m
live-if true x y n chan m here there is = here refl
live-if false x y n chan m here there is = there is

none-if : (b : Bool) (y : Option Channel) → is_some (if b then None else y) ≡ true → is_some y ≡ true
none-if true y is = absurd cc
none-if false y is = is

pub live-up : (start : SwitchStart) (h : List Step) → IsLegal start h → (chan : ℕ) → is_live_channel h chan ≡ true
    → chan < channels h
live-up start [] legal chan is = absurd cc
live-up start (ChannelUp slot side (UpAnswer.Up n) ∷ h) legal chan is =
    let number = up-number (nat_le channel_limit (live_channels h)) channel_limit n (chan_no (channels h)) legal.0.1 in
    live-if (n.0 == chan) _ (channel_at h chan) n.0 chan (channels h + 1) (λ same. let it =
    same-number n.0 chan same in omega (arith, it, number)) (λ was. let up = live-up start h legal.1 chan was in
    omega (arith, up)) is
live-up start (DialDone order (DialOutcome.Opened slot) (DialAnswer.Up n) ∷ h) legal chan is =
    let number : n.0 ≡ channels h = linked-over start h order (DialOutcome.Opened slot) n legal in
    live-if (n.0 == chan) _ (channel_at h chan) n.0 chan (channels h + 1) (λ same. let it =
    same-number n.0 chan same in omega (arith, it, number)) (λ was. let up = live-up start h legal.1 chan was in
    omega (arith, up)) is
live-up start (ChannelDown n BackAnswer.Settled ∷ h) legal chan is =
    live-up start h legal.1 chan (none-if (n.0 == chan) (channel_at h chan) is)
live-up start (s ∷ h) legal chan is = live-up start h legal.1 chan is

-- a CircID of a channel that came up, which this side isn't to give out any more
pub record IsGiven (h : List Step) (chan id : ℕ) : Type 0 where
  pub up : chan < channels h
  pub below : opened_by_us (channel_at h chan) ≡ true → id < next_given_id h chan

other-number : (b : Bool) (n chan m : ℕ) → (n == chan) ≡ b → n ≡ m → chan < m → (n == chan) ≡ false
other-number true n chan m is number up = let same = same-number n chan is in absurd (omega (arith, same, number, up))
other-number false n chan m is number up = is

more-given : (b : Bool) (base count id : ℕ) → id < base + count + 1 → id < base + (if b then count + 1 else count) + 1
more-given true base count id below = omega (arith, below)
more-given false base count id below = below

down-below : (b : Bool) (x : Option Channel) (id m : ℕ) → (opened_by_us x ≡ true → id < m)
    → opened_by_us (if b then None else x) ≡ true → id < m
down-below true x id m below ours = absurd cc
down-below false x id m below ours = below ours

pub given-stays : (start : SwitchStart) (h : List Step) (s : Step) (chan id : ℕ) → IsLegal start (s ∷ h) → IsGiven h chan id
    → IsGiven (s ∷ h) chan id
given-stays start h (ChannelUp slot side (UpAnswer.Up n)) chan id legal given =
    let number = up-number (nat_le channel_limit (live_channels h)) channel_limit n (chan_no (channels h)) legal.0.1 in
    let other = other-number _ n.0 chan (channels h) refl number given.up in
    let up = given.up in
    record { up = omega (arith, up); below = λ ours. given.below (rw other at ours) }
given-stays start h (DialDone order (DialOutcome.Opened slot) (DialAnswer.Up n)) chan id legal given =
    let number : n.0 ≡ channels h = linked-over start h order (DialOutcome.Opened slot) n legal in
    let other = other-number _ n.0 chan (channels h) refl number given.up in
    let up = given.up in
    record {
      up = omega (arith, up);
      below =
          λ ours. more-given (n.0 == chan) given_id_base (given_ids h chan) id (given.below (rw other at ours));
    }
given-stays start h (DialDone order outcome (DialAnswer.Up n)) chan id legal given =
    record { up = given.up; below = λ ours. more-given (n.0 == chan) given_id_base (given_ids h chan) id (given.below ours) }
given-stays start h (ChannelDown n BackAnswer.Settled) chan id legal given =
    record { up = given.up; below = down-below (n.0 == chan) (channel_at h chan) id (next_given_id h chan) given.below }
given-stays start h s chan id legal given = record { up = given.up; below = given.below }

-- the peer's side gives out the others
peers-below : (ours : Bool) (base id count : ℕ) → (if ours then not (nat_le base id) else nat_le base id) ≡ true → ours ≡ true
    → id < base + count + 1
peers-below true base id count is own = grind (arith, nat_tests)
peers-below false base id count is own = absurd cc

pub peers-given : (start : SwitchStart) (h : List Step) → IsLegal start h → (chan id : ℕ) → is_live_channel h chan ≡ true
    → (opened_by_us (channel_at h chan) ≡ true → is_peers_id (channel_at h chan) id ≡ true) → IsGiven h chan id
peers-given start h legal chan id is side = record {
  up = live-up start h legal chan is;
  below = λ ours. peers-below (opened_by_us (channel_at h chan)) given_id_base id (given_ids h chan) (side ours) ours;
}
