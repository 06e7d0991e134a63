-- The turns of a tape's playing.
use Rattle.std.proofs.Common.{◌≡◌, inl, inr, ℕ, ◌+◌, ◌-◌, ◌<◌, ◌≤◌, List, [], ◌∷◌, ◌++◌, length, Option, Some, None, refl, sym, ap, ◌∙◌, subst, append_assoc, arith}
use Rattle.circuit_model.specs.Rules.{Rules}
use Rattle.hop_crypto.specs.declared.parts.JobParts.{JobParts}
use Rattle.tr_io.specs.Faults.{Rose}
use Rattle.tr_io.specs.declared.status.Status.{Status}
use Rattle.tr_io.specs.declared.status.Status.TheVariants.{BadTape, NotBuilt, Memory}
use Rattle.tr_io.specs.declared.step.Step.{Step}
use Rattle.switch_core.specs.Started.{Started, SwitchStands}
use Rattle.switch_core.specs.declared.relay.Relay.{Relay}
use Rattle.switch_machine.specs.State.{State, slot_at}
use Rattle.switch_machine.specs.Machine.{new_state}
use Rattle.switch_machine.proofs.Laws.{stands_new}
use Rattle.switch_model.specs.Start.{SwitchStart}
use Rattle.tape.specs.declared.input.Ending.{Ending}
use Rattle.tape.specs.declared.record.Record.{Record}
use Rattle.tape.specs.Fronts.{record_and, less, no_record, unbuilt}
use Rattle.tape.specs.Records.{front_of}
use Rattle.tape.specs.TapeRules.{rules_and, rules_ahead}
use Rattle.tape.specs.Steps.{tape_start, answer_of, steps_behind, answers_behind, steps_of, output, IsRecords}
use Rattle.tr_io.specs.Output.{IsPartWritten}
use Rattle.tape.specs.Runs.{cut_status, status_by, status_at, SwitchBehind}
use Rattle.tape.specs.JobsStand.{JobAt}
use Rattle.tape.specs.Playing.{PlayerState, player_state, PlayerStands, PlaysOn, HandedOn, Gathered, Stopped, Broken}
use Rattle.tape.specs.declared.jobs.Jobs.{Jobs}
use Rattle.tr_io.proofs.OutputLaws.{starts_empty, whole_behind, part_behind}
use Rattle.tape.proofs.Tapes.{records_more, steps_more, answers_more}

-- What holds at each turn: the player stands for the steps of the records that were played, of which
-- there is at most one for each byte.
pub record TapeTurn (rules : Rules) (tape first rest : List ℕ) (p : PlayerState) (answers : List ℕ)
    (contents now : Option (List ℕ)) (faults faults_now : ℕ) : Type 0 where
  pub counted : faults ≤ faults_now
  pub paid : p.switch.state.steps + length rest ≤ length tape
  pub records : List Record
  pub start : p.switch.start ≡ tape_start rules
  pub stands : PlayerStands rules p (steps_of rules records)
  pub gathered : Gathered rules first rest records answers contents now

behind_player : (rules : Rules) (p : PlayerState) (records : List Record) → p.switch.start ≡ tape_start rules
    → PlayerStands rules p (steps_of rules records) → SwitchBehind rules records
behind_player rules p records start stands = record { switch = p.switch; start = start; stands = stands.switch; own = stands.own }

behind_turn : (rules : Rules) (tape first rest : List ℕ) (p : PlayerState) (answers : List ℕ) (contents now : Option (List ℕ))
    (faults faults_now : ℕ) → (turn : TapeTurn rules tape first rest p answers contents now faults faults_now)
    → SwitchBehind rules turn.records
behind_turn rules tape first rest p answers contents now faults faults_now turn =
    behind_player rules p turn.records turn.start turn.stands

-- A new switch stands for the history without steps.
pub new_stands : (start : SwitchStart) (state : State) (relays : List (Option Relay)) → state ≡ new_state → relays ≡ []
    → SwitchStands (record { start = start; state = state; relays = relays }) []
unfolding slot_at
new_stands start state relays new none = record {
  state = stands_new start state new;
  relays = rw none (record { count_is = refl; relay = λ c. refl });
}

-- So does a player with it that keeps no job.
new_player : (rules : Rules) (switch : Started) (jobs : ℕ → Option JobParts) → switch.state ≡ new_state → switch.relays ≡ []
    → ((claim : ℕ) → jobs claim ≡ None) →
    PlayerStands rules (record { switch = switch; jobs = jobs }) []
new_player rules switch jobs new no_relays no_jobs = record {
  switch = new_stands switch.start switch.state switch.relays new no_relays;
  jobs = record { job = λ claim. subst (λ o. JobAt rules [] claim o None) (sym (no_jobs claim)) tt };
  own = tt;
}

pub first_turn : (rules : Rules) (tape first : List ℕ) (switch : Started) (jobs : ℕ → Option JobParts) (answers : List ℕ)
    (contents : Option (List ℕ)) (faults : ℕ) → length first ≤ length tape → switch.start ≡ tape_start rules →
    switch.state ≡ new_state → switch.relays ≡ [] → ((claim : ℕ) → jobs claim ≡ None) → answers ≡ []
    → TapeTurn rules tape first first (record { switch = switch; jobs = jobs }) answers contents contents faults faults
unfolding IsRecords answers_behind steps_behind
first_turn rules tape first switch jobs answers contents faults within started new no_relays no_jobs none = record {
  counted = omega arith;
  paid = (let zero : switch.state.steps ≡ 0 = ap (λ s. s.steps) new in omega (arith, zero, within));
  records = [];
  start = started;
  stands = new_player rules switch jobs new no_relays no_jobs;
  gathered = record { read = refl; handed = record { piece = []; written = starts_empty contents; whole = none } };
}

-- A record was played.
pub played_more : (rules : Rules) (first rest behind : List ℕ) (records : List Record) (r : Record) (answers more : List ℕ)
    (h : List Step) (old new : PlayerState) (contents now : Option (List ℕ)) → h ≡ steps_of rules records
    → PlayerStands rules old h → PlaysOn rules r old new answers more →
    front_of rest ≡ record_and r behind → Gathered rules first rest records answers contents now
    → Gathered rules first behind (records ++ r ∷ []) more contents now
played_more rules first rest behind records r answers more h old new contents now is stands plays front gathered = record {
  read = records_more first records rest behind r gathered.read front;
  handed = record {
    piece = gathered.handed.piece;
    written = gathered.handed.written;
    whole =
        ap (λ xs. gathered.handed.piece ++ xs) (plays.answer h stands)
        ∙ sym (append_assoc gathered.handed.piece answers (answer_of rules h r))
        ∙ ap (λ xs. xs ++ answer_of rules h r) gathered.handed.whole
        ∙ ap (λ x. output rules records ++ answer_of rules x r) is
        ∙ sym (answers_more rules [] records r);
  };
}

pub stands_more : (rules : Rules) (records : List Record) (r : Record) (answers more : List ℕ) (old new : PlayerState)
    → PlayerStands rules old (steps_of rules records) → PlaysOn rules r old new answers more
    → PlayerStands rules new (steps_of rules (records ++ r ∷ []))
stands_more rules records r answers more old new stands plays =
    subst (λ h. PlayerStands rules new h) (sym (steps_more rules [] records r)) (plays.stands (steps_of rules records) stands)

-- Answers were handed on.
pub handed_more : (rules : Rules) (first rest : List ℕ) (records : List Record) (answers left : List ℕ)
    (contents now after : Option (List ℕ)) → Gathered rules first rest records answers contents now
    → HandedOn answers left now after → Gathered rules first rest records left contents after
handed_more rules first rest records answers left contents now after gathered handed = record {
  read = gathered.read;
  handed = record {
    piece = gathered.handed.piece ++ handed.piece;
    written = whole_behind contents now after gathered.handed.piece handed.piece _ gathered.handed.written handed.written refl;
    whole =
        append_assoc gathered.handed.piece handed.piece left
        ∙ ap (λ xs. gathered.handed.piece ++ xs) handed.whole
        ∙ gathered.handed.whole;
  };
}

-- The sink failed in the midst.
pub breaks : (rules : Rules) (first rest : List ℕ) (records : List Record) (answers : List ℕ)
    (contents now after : Option (List ℕ)) (faults faults_now : ℕ) → SwitchBehind rules records
    → Gathered rules first rest records answers contents now → IsPartWritten now answers after → Rose faults faults_now
    → Broken rules first contents after faults faults_now
breaks rules first rest records answers contents now after faults faults_now behind gathered part rose = record {
  cause = rose;
  records = records;
  rest = rest;
  behind = behind;
  read = gathered.read;
  written = part_behind contents now after gathered.handed.piece answers (output rules records) gathered.handed.written part
      gathered.handed.whole;
}

-- A switch that was made for a tape's rules has them.
pub made_so : (rules : Rules) (made : SwitchStart) → made ≡ tape_start rules → made ≡ tape_start made.rules
made_so rules made is = is ∙ ap (λ (s : SwitchStart). tape_start s.rules) (sym is)

played_under : (rules : Rules) (made : SwitchStart) (r : Record) (old new : PlayerState) (answers more : List ℕ)
    → made ≡ tape_start rules → PlaysOn made.rules r old new answers more → PlaysOn rules r old new answers more
played_under rules made r old new answers more is plays =
    subst (λ (s : SwitchStart). PlaysOn s.rules r old new answers more) is plays

-- The next turn.
pub next_turn : (rules : Rules) (tape first rest behind : List ℕ) (old new : PlayerState) (r : Record)
    (answers more left : List ℕ) (contents now after : Option (List ℕ)) (faults faults_now faults_after : ℕ)
    → TapeTurn rules tape first rest old answers contents now faults faults_now →
    record_and r behind ≡ front_of rest → length behind < length rest → PlaysOn old.switch.start.rules r old new answers more
    → new.switch.start ≡ old.switch.start → new.switch.state.steps ≤ old.switch.state.steps + 1 → HandedOn more left now after
    → faults_now ≤ faults_after →
    TapeTurn rules tape first behind new left contents after faults faults_after
next_turn rules tape first rest behind old new r answers more left contents now after faults faults_now faults_after turn front
    shorter plays started step handed counted =
    let on : PlaysOn rules r old new answers more = played_under rules old.switch.start r old new answers more turn.start plays in
    record {
      counted = omega (arith, turn.counted, counted);
      paid = omega (arith, turn.paid, shorter, step);
      records = turn.records ++ r ∷ [];
      start = started ∙ turn.start;
      stands = stands_more rules turn.records r answers more old new turn.stands on;
      gathered = handed_more rules first behind (turn.records ++ r ∷ []) more left contents now after
          (played_more rules first rest behind turn.records r answers more (steps_of rules turn.records) old new contents now refl
          turn.stands on (sym front) turn.gathered)
          handed;
    }

-- The same turn by what the player was equal to.
pub turn_of : (rules : Rules) (a b : Started) (j k : Jobs) (tape first rest : List ℕ) (answers : List ℕ)
    (contents now : Option (List ℕ)) (faults faults_now : ℕ) → a ≡ b → j ≡ k →
    TapeTurn rules tape first rest (player_state b k) answers contents now faults faults_now
    → TapeTurn rules tape first rest (player_state a j) answers contents now faults faults_now
turn_of rules a b j k tape first rest answers contents now faults faults_now is same turn =
    subst (λ s. TapeTurn rules tape first rest (player_state s j) answers contents now faults faults_now) (sym is)
    (subst (λ x. TapeTurn rules tape first rest (player_state b x) answers contents now faults faults_now) (sym same) turn)

-- A turn in which the sink fails.
pub turn_breaks : (rules : Rules) (tape first rest behind : List ℕ) (old new : PlayerState) (r : Record) (answers more : List ℕ)
    (contents now after : Option (List ℕ)) (faults faults_now faults_after : ℕ)
    → TapeTurn rules tape first rest old answers contents now faults faults_now →
    record_and r behind ≡ front_of rest → PlaysOn old.switch.start.rules r old new answers more
    → new.switch.start ≡ old.switch.start → IsPartWritten now more after → Rose faults_now faults_after
    → Broken rules first contents after faults faults_after
turn_breaks rules tape first rest behind old new r answers more contents now after faults faults_now faults_after turn front plays
    started part rose =
    let on : PlaysOn rules r old new answers more = played_under rules old.switch.start r old new answers more turn.start plays in
    breaks rules first behind (turn.records ++ r ∷ []) more contents now after faults faults_after
    (behind_player rules new (turn.records ++ r ∷ []) (started ∙ turn.start)
    (stands_more rules turn.records r answers more old new turn.stands on))
    (played_more rules first rest behind turn.records r answers more (steps_of rules turn.records) old new contents now refl
    turn.stands on (sym front) turn.gathered)
    part (omega (arith, turn.counted, rose))

-- The status at a place that begins no record which is built.
pub cut_at : (ending : Ending) (tape rest : List ℕ) (status : Status) → less ≡ front_of rest
    → status ≡ cut_status ending (length tape - length rest) rest
    → status_at ending (length tape - length rest) rest ≡ Some status
unfolding status_at
cut_at ending tape rest status front is = ap (status_by ending (length tape - length rest) rest) (sym front) ∙ ap Some (sym is)

pub bad_at : (ending : Ending) (tape rest : List ℕ) (place : ℕ) → place ≡ length tape - length rest → no_record ≡ front_of rest
    → status_at ending (length tape - length rest) rest ≡ Some (BadTape place)
unfolding status_at
bad_at ending tape rest place at front =
    ap (status_by ending (length tape - length rest) rest) (sym front) ∙ ap (λ p. Some (BadTape p)) (sym at)

pub unbuilt_at : (ending : Ending) (tape rest : List ℕ) (kind : ℕ) → unbuilt kind ≡ front_of rest
    → status_at ending (length tape - length rest) rest ≡ Some (NotBuilt kind)
unfolding status_at
unbuilt_at ending tape rest kind front = ap (status_by ending (length tape - length rest) rest) (sym front)

pub stops : (rules : Rules) (status : Status) (ending : Ending) (tape first rest : List ℕ) (p : PlayerState) (answers : List ℕ)
    (contents now : Option (List ℕ)) (faults faults_now : ℕ)
    → TapeTurn rules tape first rest p answers contents now faults faults_now →
    status_at ending (length tape - length rest) rest ≡ Some status → Stopped rules status ending tape first answers contents now
stops rules status ending tape first rest p answers contents now faults faults_now turn at =
    record {
      records = turn.records;
      rest = rest;
      behind = behind_turn _ _ _ _ _ _ _ _ _ _ turn;
      gathered = turn.gathered;
      cause =
          inl at;
    }

pub stops_short : (rules : Rules) (status : Status) (ending : Ending) (tape first rest : List ℕ) (p : PlayerState)
    (answers : List ℕ) (contents now : Option (List ℕ)) (faults faults_now : ℕ)
    → TapeTurn rules tape first rest p answers contents now faults faults_now →
    status ≡ Memory → Stopped rules status ending tape first answers contents now
stops_short rules status ending tape first rest p answers contents now faults faults_now turn memory =
    record {
      records = turn.records;
      rest = rest;
      behind = behind_turn _ _ _ _ _ _ _ _ _ _ turn;
      gathered = turn.gathered;
      cause =
          inr memory;
    }

-- The rules that a tape says are those of the switch that was made for them.
pub ahead_of : (rules : Rules) (made : SwitchStart) (tape first : List ℕ) → made ≡ tape_start rules
    → rules_and rules first ≡ rules_ahead tape → rules_ahead tape ≡ rules_and made.rules first
ahead_of rules made tape first is ahead = sym ahead ∙ ap (λ (s : SwitchStart). rules_and s.rules first) (sym is)
