-- The leg towards a next hop that was linked: it is new, so nothing was sent on it and no cell counted, and its
-- CircID is no other leg's.
use Rattle.std.proofs.Common.{Bool, List, None, Option, Some, [], ap, arith, false, if◌then◌else◌, refl, suc, sym, true, zero, ℕ, ◌&&◌, ◌++◌, ◌+◌, ◌-◌, ◌<◌, ◌==◌, ◌∙◌, ◌∷◌, ◌≡◌}
use Rattle.std.proofs.Math.Dec.{eqb-suc-zero}
use Rattle.circuit_model.specs.Events.{CircuitCell}
use Rattle.circuit_model.specs.Log.{Log}
use Rattle.circuit_model.specs.NextHop.{is_linked, leg_count}
use Rattle.circuit_model.specs.Sent.{sent_to_hop}
use Rattle.circuit_model.specs.Words.{log}
use Rattle.switch_model.proofs.Common.{not_equal, self_eq}
use Rattle.switch_model.proofs.GivenIds.{linked-over}
use Rattle.switch_model.proofs.LegIds.{at-given}
use Rattle.switch_model.proofs.LaneIds.{leg-some, link-untaken}
use Rattle.switch_model.proofs.Ported.{link-same, no-hop-leg, port-before, ported}
use Rattle.switch_model.proofs.SentBegins.{sent-begins}
use Rattle.switch_model.specs.History.Channels.{next_given_id}
use Rattle.switch_model.specs.History.Circuit.{events, sent}
use Rattle.switch_model.specs.History.Legs.{Port, at, holds_id, holds_port, hops, port}
use Rattle.switch_model.specs.Legal.{IsLegal}
use Rattle.switch_model.specs.Names.{Leg, is_leg}
use Rattle.switch_model.specs.Start.{SwitchStart}
use Rattle.switch_model.specs.Waiting.Counts.{cell_count, tick}
use Rattle.switch_model.specs.Waiting.Queues.{sealed_count, sendable}
use Rattle.tr_io.specs.declared.answers.DialAnswer.{DialAnswer}
use Rattle.tr_io.specs.declared.dials.DialOutcome.{DialOutcome}
use Rattle.tr_io.specs.declared.dials.DialStep.{DialStep}
use Rattle.tr_io.specs.declared.names.ChanNo.{ChanNo}
use Rattle.tr_io.specs.declared.step.Step.{Step}
use Rattle.tr_io.specs.declared.step.Step.TheVariants.{DialDone, NextCell}
use Rattle.switch_machine.proofs.Counting.{halved-none}
use Rattle.switch_machine.proofs.DialOrder.Numbered.{below}

abbrev pub linking : DialStep → DialOutcome → ChanNo → Step
linking given_order outcome n = DialDone given_order outcome (DialAnswer.Up n)

-- CircIDs

-- a CircID that is given out was no leg's
some-by : (start : SwitchStart) (h : List Step) (given_order : DialStep) (outcome : DialOutcome) (n : ChanNo) (m i d j : ℕ)
    (b : Bool) →
    is_leg d j (at h m i) ≡ b → IsLegal start (linking given_order outcome n ∷ h) →
    ((n.0 == m) && (next_given_id h m == i)) ≡ true → b ≡ false
some-by start h given_order outcome n m i d j true is legal it =
    let given_out = at-given start h legal.1 m i (leg-some d j (at h m i) is) in
    let free = link-untaken h outcome n.0 m i (linked-over start h given_order outcome n legal) given_out in
    let both : true ≡ false = sym it ∙ free in absurd cc
some-by start h given_order outcome n m i d j false is legal it = refl

leg-if : (d j c k : ℕ) (b : Bool) (x : Option Leg) → (b ≡ true → is_leg d j x ≡ false) → ((c == d) && (k == j)) ≡ false →
    is_leg d j (if b then Some (record { circ = c; number = k }) else x) ≡ is_leg d j x
leg-if d j c k true x free other = other ∙ sym (free refl)
leg-if d j c k false x free other = refl

holds-by : (start : SwitchStart) (h : List Step) (given_order : DialStep) (outcome : DialOutcome) (n : ChanNo) (d j : ℕ)
    (p : Option Port) →
    IsLegal start (linking given_order outcome n ∷ h) →
    ((given_order.circ.0 == d) && (hops h given_order.circ.0 + 1 == j)) ≡ false →
    holds_port (linking given_order outcome n ∷ h) d j p ≡ holds_port h d j p
holds-by start h given_order outcome n d j None legal other = refl
holds-by start h given_order outcome n d j (Some place) legal other =
    leg-if d j given_order.circ.0 (hops h given_order.circ.0 + 1)
    ((n.0 == place.chan) && (next_given_id h place.chan == place.id))
    (at h place.chan place.id)
    (λ it. some-by start h given_order outcome n place.chan place.id d j (is_leg d j (at h place.chan place.id)) refl legal it)
    other

-- so each other leg has its own on
pub holds-other : (start : SwitchStart) (h : List Step) (given_order : DialStep) (outcome : DialOutcome) (n : ChanNo) (d j : ℕ) →
    IsLegal start (linking given_order outcome n ∷ h) →
    ((given_order.circ.0 == d) && (j == hops h d + 1)) ≡ false → holds_id (linking given_order outcome n ∷ h) d j ≡ holds_id h d j
holds-other start h given_order outcome n d j legal other =
    ap (holds_port (linking given_order outcome n ∷ h) d j) (port-before h (linking given_order outcome n) d j other)
    ∙ holds-by start h given_order outcome n d j (port h d j) legal
    (link-same (given_order.circ.0 == d) h given_order.circ.0 d j refl ∙ other)

-- and the new one has it
port-new_by : (n : ChanNo) (id c k m : ℕ) (x : Option Port) → k ≡ m →
    (if (c == c) && (k == m) then Some (record { chan = n.0; id = id }) else x) ≡ Some (record { chan = n.0; id = id })
port-new_by n id c k m x same = rw (same, self_eq c, self_eq m) refl

pub port-new : (h : List Step) (given_order : DialStep) (outcome : DialOutcome) (n : ChanNo) (k : ℕ)
    → k ≡ hops h given_order.circ.0 + 1 →
    port (linking given_order outcome n ∷ h) given_order.circ.0 k ≡ Some (record { chan = n.0; id = next_given_id h n.0 })
port-new h given_order outcome n k same = port-new_by n (next_given_id h n.0) given_order.circ.0 k (hops h given_order.circ.0 + 1)
    (port h given_order.circ.0 k) same

named-new : (n i c k m : ℕ) (x : Option Leg) → k ≡ m → is_leg c k (if (n == n) && (i == i) then Some (record {
  circ = c;
  number = m;
}) else x) ≡ true
named-new n i c k m x same = rw (same, self_eq n, self_eq i, self_eq c, self_eq m) refl

pub holds-new : (h : List Step) (given_order : DialStep) (outcome : DialOutcome) (n : ChanNo) (k : ℕ)
    → k ≡ hops h given_order.circ.0 + 1 →
    holds_id (linking given_order outcome n ∷ h) given_order.circ.0 k ≡ true
holds-new h given_order outcome n k same =
    ap (holds_port (linking given_order outcome n ∷ h) given_order.circ.0 k) (port-new h given_order outcome n k same)
    ∙ named-new n.0 (next_given_id h n.0) given_order.circ.0 k (hops h given_order.circ.0 + 1) (at h n.0 (next_given_id h n.0))
    same

-- what the one-thread relay sends there

counted-by : (b : Bool) (n k : ℕ) → (if b then n + 1 else n) < k → (n < k) × (((if b then n + 1 else n) == k) ≡ false)
counted-by true n k below = (omega (arith, below), not_equal (n + 1) k (λ same. absurd (omega (arith, below, same))))
counted-by false n k below = (below, not_equal n k (λ same. absurd (omega (arith, below, same))))

pub none-to-hop : (l : Log) (k : ℕ) → leg_count l < k → sent_to_hop l k ≡ []
none-to-hop [] k below = refl
none-to-hop (entry ∷ l) k below =
    let less = counted-by (is_linked entry.event) (leg_count l) k below in
    rw (none-to-hop l k less.0, less.1) refl

nil-front : (xs ys : List CircuitCell) → xs ++ ys ≡ [] → xs ≡ []
nil-front [] ys none = refl
nil-front (x ∷ xs) ys none = absurd cc

none-may : (l : Log) (n k : ℕ) → leg_count l < k → sendable l n k ≡ []
none-may l n zero below = absurd (omega (arith, below))
none-may l n (suc k) below = rw (eqb-suc-zero k) (none-to-hop l (suc k) below)

pub none-sent : (start : SwitchStart) (h : List Step) (c k : ℕ) → IsLegal start h →
    leg_count (log start.rules (events start.rules h c)) < k → sent start.rules h c k ≡ []
none-sent start h c k legal below =
    let begins = sent-begins start h legal c k in
    nil-front (sent start.rules h c k) begins.rest (begins.all ∙ none-may (log start.rules (events start.rules h c))
    (sealed_count h c) k below)

-- its count

leg-by : (start : SwitchStart) (h : List Step) (c k chan id : ℕ) (b : Bool) → is_leg c k (at h chan id) ≡ b → IsLegal start h →
    hops h c < k → b ≡ false
leg-by start h c k chan id true is legal above =
    let both : ◌≡◌ {A = Option Port} None (Some (record { chan = chan; id = id })) = sym (no-hop-leg h c k above)
    ∙ ported start h legal c k chan id is in absurd cc
leg-by start h c k chan id false is legal above = refl

hops-by : (b : Bool) (n k : ℕ) → (if b then n + 1 else n) < k → n < k
hops-by true n k above = omega (arith, above)
hops-by false n k above = above

pub none-counted : (start : SwitchStart) (h : List Step) → IsLegal start h → (c k : ℕ) → hops h c < k
    → cell_count start.rules h c k ≡ 0
none-counted start [] legal c k above = refl
none-counted start (NextCell chan given_order None ∷ h) legal c k above = rw (none-counted start h legal.1 c k above) (halved-none
    (given_order - tick h))
none-counted start (NextCell chan given_order (Some cell) ∷ h) legal c k above =
    rw (
      leg-by start h c k chan.0 cell.circ (is_leg c k (at h chan.0 cell.circ)) refl legal.1 above,
      none-counted start h legal.1 c k above,
    ) (halved-none (given_order - tick h))
none-counted start (DialDone order outcome (DialAnswer.Up n) ∷ h) legal c k above =
    none-counted start h legal.1 c k (hops-by (order.circ.0 == c) (hops h c) k above)
none-counted start (s ∷ h) legal c k above = none-counted start h legal.1 c k above
