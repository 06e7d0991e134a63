use Rattle.std.proofs.Common.{ap, ◌∙◌}
use Rattle.crypto_spec.specs.HopLayer.{after_opening}
use Rattle.hop_crypto.specs.OpenerState.{OpenerState, place_of}
use Rattle.hop_crypto.proofs.Opening.{TookOff, opened_recognised, opened_other, state_recognised, state_other}
use Rattle.hop_crypto.proofs.opener.Opener.take_off.Goals as goal

pub returns-in_err-digest-clause-opened : goal.returns-in_err-digest-clause-opened
returns-in_err-digest-clause-opened c = λ layer stands.
    let here : OpenerState = record { stream = place_of c.self.inside.stream; digest = c.self.inside.digest } in
    let took : TookOff here (place_of c.apply.new.self) layer c.args.body.now c.apply.new.body =
    record {
      stands = c.self.view_is ∙ stands;
      off = c.apply.ensures.body;
      key = c.apply.ensures.key;
      position =
          c.apply.ensures.position;
    } in
    rw c.from_residual.ensures
    (opened_other here (place_of c.apply.new.self) layer c.args.body.now c.apply.new.body took
    (c.in_err-digest.ensures.none layer.seed layer.absorbed (ap (λ (o : OpenerState). o.digest) took.stands)))

pub returns-in_err-digest-clause-state : goal.returns-in_err-digest-clause-state
returns-in_err-digest-clause-state c = λ layer stands.
    let here : OpenerState = record { stream = place_of c.self.inside.stream; digest = c.self.inside.digest } in
    let took : TookOff here (place_of c.apply.new.self) layer c.args.body.now c.apply.new.body =
    record {
      stands = c.self.view_is ∙ stands;
      off = c.apply.ensures.body;
      key = c.apply.ensures.key;
      position =
          c.apply.ensures.position;
    } in
    state_other here (place_of c.apply.new.self) layer c.args.body.now c.apply.new.body took
    (c.in_err-digest.ensures.none layer.seed layer.absorbed (ap (λ (o : OpenerState). o.digest) took.stands))

pub returns-clause-opened : goal.returns-clause-opened
returns-clause-opened c = λ layer stands.
    let here : OpenerState = record { stream = place_of c.self.inside.stream; digest = c.self.inside.digest } in
    let took : TookOff here (place_of c.apply.new.self) layer c.args.body.now c.apply.new.body =
    record {
      stands = c.self.view_is ∙ stands;
      off = c.apply.ensures.body;
      key = c.apply.ensures.key;
      position =
          c.apply.ensures.position;
    } in
    let digest = ap (λ (o : OpenerState). o.digest) took.stands in
    rw (c.in_ok-digest.ensures.bytes layer.seed layer.absorbed digest)
    (opened_recognised here (place_of c.apply.new.self) layer c.args.body.now c.apply.new.body took
    (c.in_ok-digest.ensures.some layer.seed layer.absorbed digest))

pub returns-clause-state : goal.returns-clause-state
returns-clause-state c = λ layer stands.
    let here : OpenerState = record { stream = place_of c.self.inside.stream; digest = c.self.inside.digest } in
    let took : TookOff here (place_of c.apply.new.self) layer c.args.body.now c.apply.new.body =
    record {
      stands = c.self.view_is ∙ stands;
      off = c.apply.ensures.body;
      key = c.apply.ensures.key;
      position =
          c.apply.ensures.position;
    } in
    let digest = ap (λ (o : OpenerState). o.digest) took.stands in
    state_recognised here (place_of c.apply.new.self) c.in_ok-digest.digest layer c.args.body.now c.apply.new.body took
    (c.in_ok-digest.ensures.some layer.seed layer.absorbed digest)
    (c.in_ok-digest.ensures.digest layer.seed layer.absorbed digest)

pub invariant_of-self : goal.invariant_of-self
invariant_of-self c =
    let here : OpenerState = record { stream = place_of c.self.inside.stream; digest = c.self.inside.digest } in
    let layer = c.self.invariant.layer in
    let took : TookOff here (place_of c.apply.new.self) layer c.args.body.now c.apply.new.body =
    record {
      stands = c.self.invariant.state_is;
      off = c.apply.ensures.body;
      key = c.apply.ensures.key;
      position =
          c.apply.ensures.position;
    } in
    record {
      layer = after_opening layer c.args.body.now;
      state_is = state_other here (place_of c.apply.new.self) layer c.args.body.now c.apply.new.body took
          (c.in_err-digest.ensures.none layer.seed layer.absorbed (ap (λ (o : OpenerState). o.digest) took.stands));
    }

pub invariant_of-self-2 : goal.invariant_of-self-2
invariant_of-self-2 c =
    let here : OpenerState = record { stream = place_of c.self.inside.stream; digest = c.self.inside.digest } in
    let layer = c.self.invariant.layer in
    let took : TookOff here (place_of c.apply.new.self) layer c.args.body.now c.apply.new.body =
    record {
      stands = c.self.invariant.state_is;
      off = c.apply.ensures.body;
      key = c.apply.ensures.key;
      position =
          c.apply.ensures.position;
    } in
    let digest = ap (λ (o : OpenerState). o.digest) took.stands in
    record {
      layer = after_opening layer c.args.body.now;
      state_is =
          state_recognised here (place_of c.apply.new.self) c.in_ok-digest.digest layer c.args.body.now c.apply.new.body took
          (c.in_ok-digest.ensures.some layer.seed layer.absorbed digest)
          (c.in_ok-digest.ensures.digest layer.seed layer.absorbed digest);
    }
