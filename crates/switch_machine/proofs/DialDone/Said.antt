-- What dial_done answers is what the history tells.
use Rattle.std.proofs.Common.{Bool, List, None, Option, Some, [], ap, false, if◌then◌else◌, inl, inr, nat_le, not, refl, subst, sym, true, ◌&&◌, ◌==◌, ◌∙◌, ◌∷◌, ◌≡◌, ◌⊎◌}
use Rattle.std.specs.List.{filter, list_any}
use Rattle.switch_model.proofs.Common.{same-number, self_eq}
use Rattle.switch_model.specs.Answers.DialDone.{dial_done_answer, dialled, is_out}
use Rattle.switch_model.specs.History.Channels.{opened_by_us}
use Rattle.switch_model.specs.Limits.{given_id_limit}
use Rattle.switch_model.specs.Names.{same_dest}
use Rattle.switch_model.specs.Start.{SwitchStart}
use Rattle.switch_model.specs.Waiting.Dials.{Dial, dials, dials_made, dials_out, is_open, same_dial, was_handed_out}
use Rattle.tr_io.specs.declared.dials.DialOutcome.{DialOutcome}
use Rattle.tr_io.specs.declared.dials.DialStep.{DialStep}
use Rattle.tr_io.specs.declared.step.Step.{Step}
use Rattle.switch_machine.proofs.Again.{IsIn, out-of}
use Rattle.switch_machine.proofs.DialOrder.Open.{in-open, open-in}
use Rattle.switch_machine.proofs.Slots.{or-true}
use Rattle.switch_machine.proofs.Up.{filled-channels}
use Rattle.switch_machine.specs.Calls.DialDone.{can_carry, dial_done_result, is_order, is_out_at, is_out_in, outcome_result}
use Rattle.switch_machine.specs.Machine.{dial_in}
use Rattle.switch_machine.specs.Stands.{Stands}
use Rattle.switch_machine.specs.Stands.Channels.{ChannelAt, ChannelPast, channel_past}
use Rattle.switch_machine.specs.State.{ChannelState, DialState, State, slot_at}

-- whether the order is out

any-in : (test : Dial → Bool) (dials : List Dial) (d : Dial) → IsIn d dials → test d ≡ true → list_any test dials ≡ true
any-in test [] d inside is = absurd inside
any-in test (first ∷ dials) d (inl same) is = let first_is : test first ≡ true = ap test same ∙ is in rw first_is refl
any-in test (first ∷ dials) d (inr inside) is = rw (any-in test dials d inside is) (or-true (test first))

filter-by : (test : Dial → Bool) (first : Dial) (dials rest : List Dial) (d : Dial) (b : Bool) → test first ≡ b → test d ≡ true →
    (IsIn d dials → IsIn d rest) → (first ≡ d) ⊎ IsIn d dials → IsIn d (if b then first ∷ rest else rest)
filter-by test first dials rest d true is passes later (inl same) = inl same
filter-by test first dials rest d true is passes later (inr inside) = inr (later inside)
filter-by test first dials rest d false is passes later (inl same) =
    let no : false ≡ true = sym is ∙ ap test same ∙ passes in absurd cc
filter-by test first dials rest d false is passes later (inr inside) = later inside

in-filter : (test : Dial → Bool) (dials : List Dial) (d : Dial) → IsIn d dials → test d ≡ true → IsIn d (filter test dials)
in-filter test [] d inside passes = absurd inside
in-filter test (first ∷ dials) d inside passes =
    filter-by test first dials (filter test dials) d (test first) refl passes (λ later.
    in-filter test dials d later passes) inside

three-of : (a b c : Bool) → (a && (b && c)) ≡ true → (a ≡ true) × ((b ≡ true) × (c ≡ true))
three-of true true true is = (refl, (refl, refl))
three-of true true false is = absurd cc
three-of true false c is = absurd cc
three-of false b c is = absurd cc

told-by : (start : SwitchStart) (s : State) (h : List Step) (given_order : DialStep) (o : Option DialState) → Stands start s h →
    dial_in s given_order.circ.0 ≡ o → is_out_at given_order o ≡ true → is_out start.rules h given_order ≡ true
told-by start s h given_order None st has out = absurd cc
told-by start s h given_order (Some y) st has out =
    let rules = start.rules in
    let it = in-open start s h given_order.circ.0 y st has in
    let parts =
    three-of (was_handed_out h it.made.order) (given_order.order == it.made.order) (same_dest given_order.to it.made.to)
    (subst (λ (z : DialState). is_order given_order z ≡ true) it.is out) in
    any-in (same_dial given_order) (dials_out rules h) it.made
    (in-filter (λ d. is_open rules h d && was_handed_out h d.order) (dials_made rules h) it.made it.inside (rw (
      it.is_open,
      parts.0,
    ) refl))
    (rw (parts.1.0, it.circ, self_eq given_order.circ.0, parts.1.1) refl)

found-by : (start : SwitchStart) (s : State) (h : List Step) (given_order : DialStep) → Stands start s h
    → is_out start.rules h given_order ≡ true →
    is_out_in s given_order ≡ true
found-by start s h given_order st out =
    let is = out-of start.rules h given_order (dials_made start.rules h) out in
    let has = open-in start s h is.dial st is.inside is.is_open in
    let parts =
    three-of (given_order.order == is.dial.order) (given_order.circ.0 == is.dial.circ) (same_dest given_order.to is.dial.to)
    is.same in
    rw (same-number given_order.circ.0 is.dial.circ parts.1.0, has, is.handed_out, parts.0, parts.1.1) refl

alike : (a b : Bool) → (a ≡ true → b ≡ true) → (b ≡ true → a ≡ true) → a ≡ b
alike true true to back = refl
alike false false to back = refl
alike true false to back = let no : false ≡ true = to refl in absurd cc
alike false true to back = let no : false ≡ true = back refl in absurd cc

pub out-said : (start : SwitchStart) (s : State) (h : List Step) (given_order : DialStep) → Stands start s h →
    is_out_in s given_order ≡ is_out start.rules h given_order
out-said start s h given_order st =
    alike (is_out_in s given_order) (is_out start.rules h given_order)
    (λ out. told-by start s h given_order (dial_in s given_order.circ.0) st refl out) (found-by start s h given_order st)

-- the outcome

carry-by : (x : Option ChannelState) (p : ChannelPast) → ChannelAt x p →
    can_carry x ≡ (opened_by_us p.channel && not (nat_le given_id_limit p.given_count))
carry-by None p gone = rw gone.channel refl
carry-by (Some x) p own = rw (own.channel, own.given_count) refl

outcome-said : (start : SwitchStart) (s : State) (h : List Step) (outcome : DialOutcome) → Stands start s h →
    outcome_result s outcome ≡ dialled h outcome
outcome-said start s h (DialOutcome.Opened slot) st = rw (filled-channels start s h st, st.numbers.channels) refl
outcome-said start s h (DialOutcome.Over chan) st =
    rw (carry-by (slot_at s.channels chan.0) (channel_past start.rules h chan.0) (st.channels.channel chan.0)) refl
outcome-said start s h DialOutcome.Failed st = refl

pub dial_done_said : (start : SwitchStart) (s : State) (h : List Step) (given_order : DialStep) (outcome : DialOutcome)
    → Stands start s h →
    dial_done_result s given_order outcome ≡ dial_done_answer start.rules h given_order outcome
dial_done_said start s h given_order outcome st = rw (out-said start s h given_order st, outcome-said start s h outcome st) refl
