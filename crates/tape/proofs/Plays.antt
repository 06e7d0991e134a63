-- The step that a call adds is that of its record.
use Rattle.std.proofs.Common.{◌≡◌, ℕ, List, ◌∷◌, ◌++◌, Option, Some, option_map, refl, sym, ap, ◌∙◌, subst}
use Rattle.std.specs.Prelude.{Result, Ok, Err, OnOk, OnErr}
use Rattle.cell_codec.specs.declared.cell.Cell.{Cell}
use Rattle.circuit_model.specs.Rules.{Rules}
use Rattle.hop_handshake.specs.Fast.{fast_rule}
use Rattle.hop_handshake.specs.Opening.{cell_with, opening_under}
use Rattle.hop_handshake.specs.declared.opening.Opening.{Opening}
use Rattle.hop_crypto.specs.declared.parts.JobParts.{JobParts}
use Rattle.tr_io.specs.declared.answers.BackAnswer.{BackAnswer}
use Rattle.tr_io.specs.declared.answers.OpenAnswer.{OpenAnswer}
use Rattle.tr_io.specs.declared.answers.TakeAnswer.{TakeAnswer}
use Rattle.tr_io.specs.declared.answers.UpAnswer.{UpAnswer}
use Rattle.tr_io.specs.declared.dials.DialStep.{DialStep}
use Rattle.tr_io.specs.declared.names.ChanNo.{ChanNo}
use Rattle.tr_io.specs.declared.names.CircNo.{CircNo}
use Rattle.tr_io.specs.declared.names.ClaimNote.{ClaimNote}
use Rattle.tr_io.specs.declared.names.Side.{Side}
use Rattle.tr_io.specs.declared.step.Step.{Step}
use Rattle.tr_io.specs.declared.step.Step.TheVariants as Steps
use Rattle.switch_machine.specs.Adds.{UpCase, OpenCase}
use Rattle.switch_model.specs.Answers.Claim.{claim_answer}
use Rattle.switch_model.specs.Answers.DialOrder.{dial_order_answer}
use Rattle.switch_model.specs.Legal.{IsAnswered, IsLegal}
use Rattle.switch_model.specs.Start.{SwitchStart}
use Rattle.switch_core.specs.Taking.{TakeCase}
use Rattle.switch_core.specs.Started.{Started, SwitchStands, SwitchAdds}
use Rattle.tape.specs.declared.record.CircuitRequest.{CircuitRequest}
use Rattle.tape.specs.declared.record.Record.{Record}
use Rattle.tape.specs.declared.record.Record.TheVariants.{ChannelUp, OpenCircuit, Take, Claim, GiveBack, Abandon, NextCell, DialOrder, TearDown}
use Rattle.tape.specs.Kinds.OpenCircuit.{command_byte, opening_kind}
use Rattle.tape.specs.Kinds.ChannelUp.{up_bytes}
use Rattle.tape.specs.Kinds.OpenCircuit.{open_bytes}
use Rattle.tape.specs.Kinds.Take.{take_bytes}
use Rattle.tape.specs.Kinds.Claim.{claim_bytes}
use Rattle.tape.specs.Kinds.Return.{return_bytes}
use Rattle.tape.specs.Kinds.NextCell.{next_bytes}
use Rattle.tape.specs.Kinds.DialOrder.{dial_order_bytes}
use Rattle.tape.specs.Kinds.TearDown.{tear_down_bytes}
use Rattle.tape.specs.Fronts.{bare, bare_cell}
use Rattle.tape.specs.KeptJobs.{kept_job}
use Rattle.tape.specs.Playing.{Makes, PlayerState, PlayerStands, PlaysOn}
use Rattle.tape.specs.Steps.{tape_start, step_of, answer_of, with_step, give_back_of, abandon_of}
use Rattle.tape.proofs.JobsStay.{IsQuiet, jobs_stay}
use Rattle.tape.proofs.SpareRoom.{bare_adds}
use Rattle.tape.specs.Kinds.OpenCircuit.{opening_for}

-- An answer other than Memory has the second fact.
up_second : (P Q : Type 0) (a : UpAnswer) → (a ≡ UpAnswer.Memory → ⊥) → UpCase a P Q → Q
up_second P Q UpAnswer.Memory other case = absurd (other refl)
up_second P Q (UpAnswer.Up n) other case = case
up_second P Q (UpAnswer.Full n) other case = case

open_second : (P Q : Type 0) (a : OpenAnswer) → (a ≡ OpenAnswer.Memory → ⊥) → OpenCase a P Q → Q
open_second P Q OpenAnswer.Memory other case = absurd (other refl)
open_second P Q (OpenAnswer.Opened n) other case = case
open_second P Q (OpenAnswer.Refused why) other case = case

take_second : (P Q : Type 0) (a : TakeAnswer) → (a ≡ TakeAnswer.Memory → ⊥) → TakeCase a P Q → Q
take_second P Q TakeAnswer.Memory other case = absurd (other refl)
take_second P Q TakeAnswer.Queued other case = case
take_second P Q (TakeAnswer.PassedOver why) other case = case
take_second P Q (TakeAnswer.Down circ reason) other case = case

-- What follows where an answer was written.
pub on_ok : {T E : Type 0} (P Q : Type 0) (r : Result T E) → OnOk r P → (P → Q) → OnOk r Q
on_ok P Q (Ok x) holds then = then holds
on_ok P Q (Err e) holds then = tt

-- What holds however it was written.
pub on_err : {T E : Type 0} (P : Type 0) (r : Result T E) → P → OnErr r P
on_err P (Ok x) holds = tt
on_err P (Err e) holds = holds

-- Behind these steps the step is the record's, and the bytes are its answer.
pub record IsPlayOf (rules : Rules) (r : Record) (h : List Step) (step : Step) (bytes : List ℕ) : Type 0 where
  pub makes : Some step ≡ step_of rules h r
  pub answers : bytes ≡ answer_of rules h r

-- A step that is added makes a legal history.
legal_by : (rules : Rules) (old new : Started) (step : Step) → old.start ≡ tape_start rules → SwitchAdds old new step →
    (h : List Step) → SwitchStands old h → IsLegal (tape_start rules) (step ∷ h)
unfolding SwitchAdds
legal_by rules old new step is adds h st =
    subst (λ s. IsLegal s (step ∷ h)) (adds.start ∙ is) (adds.stands h st).state.steps.legal

-- A call plays a record whose step it makes, and leaves the jobs that are kept.
plays_right : (rules : Rules) (r : Record) (old new : Started) (jobs : ℕ → Option JobParts) (step : Step)
    (bytes answers more : List ℕ) →
    old.start ≡ tape_start rules → SwitchAdds old new step → IsQuiet step →
    ((h : List Step) → SwitchStands old h → IsPlayOf rules r h step bytes) →
    more ≡ answers ++ bytes →
    PlaysOn rules r (record { switch = old; jobs = jobs }) (record { switch = new; jobs = jobs }) answers more
unfolding SwitchAdds
plays_right rules r old new jobs step bytes answers more is adds quiet right written = record {
  stands = λ h st.
      subst (λ o. PlayerStands rules (record { switch = new; jobs = jobs }) (with_step o h))
      (right h st.switch).makes (record {
        switch = adds.stands h st.switch;
        jobs = jobs_stay (tape_start rules) h step jobs (legal_by rules old new step is adds h st.switch) quiet st.jobs;
        own = (quiet.own, st.own);
      });
  answer = λ h st. written ∙ ap (λ xs. answers ++ xs) (right h st.switch).answers;
}

-- The same where the step's answer determines the record's.
plays : (rules : Rules) (r : Record) (old new : Started) (jobs : ℕ → Option JobParts) (step : Step)
    (bytes answers more : List ℕ) →
    old.start ≡ tape_start rules → SwitchAdds old new step → IsQuiet step →
    ((h : List Step) → IsAnswered (tape_start rules) h step → IsPlayOf rules r h step bytes) →
    more ≡ answers ++ bytes →
    PlaysOn rules r (record { switch = old; jobs = jobs }) (record { switch = new; jobs = jobs }) answers more
plays rules r old new jobs step bytes answers more is adds quiet right written =
    plays_right rules r old new jobs step bytes answers more is adds quiet
    (λ h st. right h (legal_by rules old new step is adds h st).0.1) written

pub up_plays : (rules : Rules) (old new : Started) (jobs : ℕ → Option JobParts) (slot : ℕ) (side : Side)
    (a : UpAnswer) (answers more : List ℕ) → old.start ≡ tape_start rules → (a ≡ UpAnswer.Memory → ⊥) →
    UpCase a (new ≡ old) (SwitchAdds old new (Steps.ChannelUp slot side a)) → more ≡ answers ++ up_bytes a →
    PlaysOn rules (ChannelUp slot side) (record { switch = old; jobs = jobs })
    (record { switch = new; jobs = jobs }) answers more
up_plays rules old new jobs slot side a answers more is other case written =
    plays rules (ChannelUp slot side) old new jobs (Steps.ChannelUp slot side a) (up_bytes a) answers more is
    (up_second _ _ a other case)
    (record { jobs = λ h claim. refl; leaves = λ h note. record { claim_out = refl; away = refl }; own = tt })
    (λ h said. record { makes = ap (λ x. Some (Steps.ChannelUp slot side x)) said; answers = ap up_bytes said }) written

-- What an opening comes to, by its cell.
pub opens_by : (opening : Opening) (request : CircuitRequest) (y : List ℕ) (pad : Option (List ℕ)) (cell : Cell) →
    opening ≡ opening_under fast_rule y pad cell →
    cell ≡ cell_with request.id (command_byte request.command) request.payload → opening ≡ opening_for request y pad
opens_by opening request y pad cell opens is = opens ∙ ap (opening_under fast_rule y pad) is

pub id_by : (request : CircuitRequest) (cell : Cell) →
    cell ≡ cell_with request.id (command_byte request.command) request.payload → cell.circ ≡ request.id
id_by request cell is = ap (λ (c : Cell). c.circ) is

pub open_plays : (rules : Rules) (old new : Started) (jobs : ℕ → Option JobParts) (chan : ChanNo) (y : List ℕ)
    (pad : Option (List ℕ)) (request : CircuitRequest) (id : ℕ) (opening : Opening) (a : OpenAnswer) (kind : ℕ)
    (answers more : List ℕ) →
    old.start ≡ tape_start rules → id ≡ request.id → opening ≡ opening_for request y pad →
    (a ≡ OpenAnswer.Memory → ⊥) →
    OpenCase a (new ≡ old) (SwitchAdds old new (Steps.OpenCircuit chan id opening.reply opening.keys opening.pad a)) →
    kind ≡ opening_kind pad → more ≡ answers ++ open_bytes kind a →
    PlaysOn rules (OpenCircuit chan y pad request) (record { switch = old; jobs = jobs })
    (record { switch = new; jobs = jobs }) answers more
open_plays rules old new jobs chan y pad request id opening a kind answers more is at opens other case as_kind written =
    let o : Opening = opening_for request y pad in
    let adds : SwitchAdds old new (Steps.OpenCircuit chan request.id o.reply o.keys o.pad a) =
    subst (λ (x : Opening). SwitchAdds old new (Steps.OpenCircuit chan request.id x.reply x.keys x.pad a)) opens
    (subst (λ n. SwitchAdds old new (Steps.OpenCircuit chan n opening.reply opening.keys opening.pad a)) at
    (open_second _ _ a other case)) in
    plays rules (OpenCircuit chan y pad request) old new jobs
    (Steps.OpenCircuit chan request.id o.reply o.keys o.pad a) (open_bytes (opening_kind pad) a) answers more is adds
    (record { jobs = λ h claim. refl; leaves = λ h note. record { claim_out = refl; away = refl }; own = tt })
    (λ h said. record {
      makes = ap (λ x. Some (Steps.OpenCircuit chan request.id o.reply o.keys o.pad x)) said;
      answers = ap (open_bytes (opening_kind pad)) said;
    })
    (written ∙ ap (λ n. answers ++ open_bytes n a) as_kind)

pub take_plays : (rules : Rules) (old new : Started) (jobs : ℕ → Option JobParts) (chan : ChanNo) (cell : Cell)
    (a : TakeAnswer) (answers more : List ℕ) → old.start ≡ tape_start rules → (a ≡ TakeAnswer.Memory → ⊥) →
    TakeCase a (new ≡ old) (SwitchAdds old new (Steps.Take chan cell a)) → more ≡ answers ++ take_bytes a →
    PlaysOn rules (Take chan (bare_cell cell)) (record { switch = old; jobs = jobs })
    (record { switch = new; jobs = jobs }) answers more
take_plays rules old new jobs chan cell a answers more is other case written =
    plays rules (Take chan (bare_cell cell)) old new jobs (Steps.Take chan (bare_cell cell) a)
    (take_bytes a) answers more is (bare_adds old new chan cell a (take_second _ _ a other case))
    (record { jobs = λ h claim. refl; leaves = λ h note. record { claim_out = refl; away = refl }; own = tt })
    (λ h said. record {
      makes = ap (λ x. Some (Steps.Take chan (bare_cell cell) x)) said;
      answers = ap take_bytes said;
    }) written

pub next_plays : (rules : Rules) (old new : Started) (jobs : ℕ → Option JobParts) (chan : ChanNo) (tick : ℕ)
    (a : Option Cell) (answers more : List ℕ) → old.start ≡ tape_start rules →
    SwitchAdds old new (Steps.NextCell chan tick a) → more ≡ answers ++ next_bytes a →
    PlaysOn rules (NextCell chan tick) (record { switch = old; jobs = jobs })
    (record { switch = new; jobs = jobs }) answers more
next_plays rules old new jobs chan tick a answers more is adds written =
    plays rules (NextCell chan tick) old new jobs (Steps.NextCell chan tick a) (next_bytes a) answers more is adds
    (record { jobs = λ h claim. refl; leaves = λ h note. record { claim_out = refl; away = refl }; own = tt })
    (λ h said. record {
      makes = ap (λ x. Some (Steps.NextCell chan tick x)) said;
      answers = ap next_bytes said;
    }) written

pub dial_order_plays : (rules : Rules) (old new : Started) (jobs : ℕ → Option JobParts) (a : Option DialStep)
    (answers more : List ℕ) → old.start ≡ tape_start rules → SwitchAdds old new (Steps.DialOrder a) →
    ((h : List Step) → SwitchStands old h → a ≡ dial_order_answer old.start.rules h) →
    more ≡ answers ++ dial_order_bytes a →
    PlaysOn rules DialOrder (record { switch = old; jobs = jobs }) (record { switch = new; jobs = jobs }) answers more
dial_order_plays rules old new jobs a answers more is adds oldest written =
    let said : (h : List Step) → SwitchStands old h → a ≡ dial_order_answer rules h =
    λ h st. oldest h st ∙ ap (λ (s : SwitchStart). dial_order_answer s.rules h) is in
    plays_right rules DialOrder old new jobs (Steps.DialOrder a) (dial_order_bytes a) answers more is adds
    (record { jobs = λ h claim. refl; leaves = λ h note. record { claim_out = refl; away = refl }; own = tt })
    (λ h st. record {
      makes = ap (λ x. Some (Steps.DialOrder x)) (said h st);
      answers = ap dial_order_bytes (said h st);
    }) written

pub tear_down_plays : (rules : Rules) (old new : Started) (jobs : ℕ → Option JobParts) (circ : CircNo) (reason : ℕ)
    (a : BackAnswer) (answers more : List ℕ) → old.start ≡ tape_start rules →
    SwitchAdds old new (Steps.TearDown circ reason a) → more ≡ answers ++ tear_down_bytes a →
    PlaysOn rules (TearDown circ reason) (record { switch = old; jobs = jobs })
    (record { switch = new; jobs = jobs }) answers more
tear_down_plays rules old new jobs circ reason a answers more is adds written =
    plays rules (TearDown circ reason) old new jobs (Steps.TearDown circ reason a)
    (tear_down_bytes a) answers more is adds
    (record { jobs = λ h claim. refl; leaves = λ h note. record { claim_out = refl; away = refl }; own = tt })
    (λ h said. record {
      makes = ap (λ x. Some (Steps.TearDown circ reason x)) said;
      answers = ap tear_down_bytes said;
    }) written

-- The calls on jobs, with what is written of their answers.

pub claim_plays : (rules : Rules) (old new : PlayerState) (worker : ℕ) (given : Option ClaimNote)
    (answers more : List ℕ) →
    Makes rules (Claim worker) old new given (λ h. claim_answer (tape_start rules) h worker) →
    more ≡ answers ++ claim_bytes given → PlaysOn rules (Claim worker) old new answers more
claim_plays rules old new worker given answers more made written = record {
  stands = made.stands;
  answer = λ h st. written ∙ ap (λ n. answers ++ claim_bytes n) (made.right_is h st);
}

pub give_back_plays : (rules : Rules) (old new : PlayerState) (claim : ℕ) (a : Option BackAnswer)
    (answers more : List ℕ) →
    Makes rules (GiveBack claim) old new a (λ h. option_map (give_back_of rules h) (kept_job h claim)) →
    more ≡ answers ++ return_bytes 6 a → PlaysOn rules (GiveBack claim) old new answers more
give_back_plays rules old new claim a answers more made written = record {
  stands = made.stands;
  answer = λ h st. written ∙ ap (λ o. answers ++ return_bytes 6 o) (made.right_is h st);
}

pub abandon_plays : (rules : Rules) (old new : PlayerState) (claim : ℕ) (a : Option BackAnswer)
    (answers more : List ℕ) →
    Makes rules (Abandon claim) old new a (λ h. option_map (abandon_of rules h) (kept_job h claim)) →
    more ≡ answers ++ return_bytes 7 a → PlaysOn rules (Abandon claim) old new answers more
abandon_plays rules old new claim a answers more made written = record {
  stands = made.stands;
  answer = λ h st. written ∙ ap (λ o. answers ++ return_bytes 7 o) (made.right_is h st);
}

pub plays_as : (rules : Rules) (r q : Record) (old new : PlayerState) (answers more : List ℕ) → r ≡ q →
    PlaysOn rules (bare q) old new answers more → PlaysOn rules (bare r) old new answers more
plays_as rules r q old new answers more is by = subst (λ x. PlaysOn rules (bare x) old new answers more) (sym is) by
