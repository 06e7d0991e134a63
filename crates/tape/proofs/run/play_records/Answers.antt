use Rattle.std.proofs.Common.{◌∙◌, ◌-◌, length, ap, subst}
use Rattle.tape.specs.Fronts.{bare, FrontIs, RestIsShorter}
use Rattle.tape.specs.Records.{front_of}
use Rattle.tape.specs.Runs.{cut_status}
use Rattle.tape.proofs.Plays.{on_err}
use Rattle.tape.proofs.Turns.{first_turn, made_so, next_turn, turn_of, turn_breaks, cut_at, bad_at, unbuilt_at, stops}
use Rattle.tape.proofs.run.play_records.Goals as goal

pub loop-front-init : goal.loop-front-init
loop-front-init g c =
    first_turn _ _ _ _ _ _ _ _ c.requires.within c.requires.start c.requires.state c.requires.relays c.requires.jobs
    c.requires.answers

pub play-requires-clause-start : goal.play-requires-clause-start
play-requires-clause-start g c = made_so _ _ c.loop-front.invariant.start

pub loop-front-preserved : goal.loop-front-preserved
loop-front-preserved g c =
    turn_of _ _ _ _ _ _ _ _ _ _ _ _ _ c.hand_on.ensures.switch c.hand_on.ensures.jobs
    (next_turn _ _ _ c.loop-front.rest.now c.in-Whole.rest_bytes.now _ _ (bare c.in-Whole.record) _ c.play.new.self.answers.items
    _ _ _ _ _ _ _ c.loop-front.invariant
    (subst (λ f. FrontIs f (front_of c.loop-front.rest.now)) c.in-Whole.is c.in-Ok.ensures.front)
    (subst (λ f. RestIsShorter f (length c.loop-front.rest.now)) c.in-Whole.is c.in-Ok.ensures.shorter) c.in-Ok-play.ensures.ok
    c.play.ensures.start c.play.ensures.steps c.in_ok-hand_on.ensures.ok c.hand_on.ensures.counted)

pub returns-in_err-hand_on-clause-broken : goal.returns-in_err-hand_on-clause-broken
returns-in_err-hand_on-clause-broken g c =
    on_err _ c.from_residual.result
    (turn_breaks _ _ _ c.loop-front.rest.now c.in-Whole.rest_bytes.now _ _ (bare c.in-Whole.record) _
    c.play.new.self.answers.items _ _ _ _ _ _ c.loop-front.invariant
    (subst (λ f. FrontIs f (front_of c.loop-front.rest.now)) c.in-Whole.is c.in-Ok.ensures.front) c.in-Ok-play.ensures.ok
    c.play.ensures.start c.in_err-hand_on.ensures.err c.in_err-hand_on.ensures.cause)

pub returns-in-Cut-clause-stopped : goal.returns-in-Cut-clause-stopped
returns-in-Cut-clause-stopped g c =
    stops _ _ _ _ _ c.loop-front.rest.now _ _ _ _ _ _ c.loop-front.invariant
    (cut_at _ _ c.loop-front.rest.now _
    (subst (λ f. FrontIs f (front_of c.loop-front.rest.now)) c.in-Cut.is c.in-Ok.ensures.front)
    (c.cut_status.ensures
    ∙ ap (λ tape. cut_status c.args.input.now.ending (length tape - length c.loop-front.rest.now) c.loop-front.rest.now)
    c.as_slice-tape.ensures.value))

pub returns-in-Bad-clause-stopped : goal.returns-in-Bad-clause-stopped
returns-in-Bad-clause-stopped g c =
    stops _ _ _ _ _ c.loop-front.rest.now _ _ _ _ _ _ c.loop-front.invariant
    (bad_at _ _ c.loop-front.rest.now _ (ap (λ tape. length tape - length c.loop-front.rest.now) c.as_slice-tape.ensures.value)
    (subst (λ f. FrontIs f (front_of c.loop-front.rest.now)) c.in-Bad.is c.in-Ok.ensures.front))

pub returns-in-NotBuilt-clause-stopped : goal.returns-in-NotBuilt-clause-stopped
returns-in-NotBuilt-clause-stopped g c =
    stops _ _ _ _ _ c.loop-front.rest.now _ _ _ _ _ _ c.loop-front.invariant
    (unbuilt_at _ _ c.loop-front.rest.now _
    (subst (λ f. FrontIs f (front_of c.loop-front.rest.now)) c.in-NotBuilt.is c.in-Ok.ensures.front))
