use Rattle.std.proofs.Common.{length, take, arith, ap, subst, sym, [], ◌∷◌}
use Rattle.std.proofs.lemmas.List.{take_all, take_more}
use Rattle.hop_crypto.specs.Ciphers.{IsWorked}
use Rattle.hop_crypto.specs.declared.parts.JobParts.{JobParts}
use Rattle.hop_crypto.proofs.Working.{IsWorked-none, IsWorked-append}
use Rattle.hop_crypto.proofs.job.work.Goals as goal

pub loop-body-init : goal.loop-body-init
loop-body-init c = record {
  worked = rw (c.copy-end.ensures.copy, c.job.invariant.empty) (IsWorked-none c.job.inside.parts.cipher);
  position = rw c.copy-end.ensures.copy (omega arith);
  ample = rw c.as_slice-body-items.ensures (omega (arith, c.job.invariant.ample));
}

pub pass-requires : goal.pass-requires
pass-requires c =
    let long = ap length c.as_slice-body-items.ensures in
    omega (arith, c.job.invariant.job.position, c.loop-body.invariant.position)

pub push_reserved-requires : goal.push_reserved-requires
push_reserved-requires c = omega (arith, c.loop-body.invariant.ample)

pub loop-body-preserved : goal.loop-body-preserved
loop-body-preserved c =
    let bodies = c.as_slice-body-items.result.now in
    let i = c.loop-body.body-index in
    let more = take_more bodies i [] c.loop-body-test.true in
    record {
      worked = rw (more, c.push_reserved.ensures.items)
          (IsWorked-append _ c.loop-body.end c.pass.new.self (take i bodies) _ c.loop-body.output.items (c.pass.result ∷ [])
          c.loop-body.invariant.worked c.pass.ensures.worked);
      position = omega (arith, c.pass.ensures.position, c.loop-body.invariant.position);
      ample = omega (arith, c.loop-body.invariant.ample, c.push_reserved.ensures.spare);
    }

pub invariant_of-result : goal.invariant_of-result
invariant_of-result c =
    let parts = c.job.inside.parts in
    let all = take_all c.loop-body.body-index c.as_slice-body-items.result.now c.loop-body-test.false in
    record {
      job = c.job.invariant.job;
      layer = c.copy-end.ensures.layer;
      worked = subst (IsWorked parts.cipher parts.bodies.items c.loop-body.output.items) (sym c.of.ensures)
          (rw (all, c.as_slice-body-items.ensures) at c.loop-body.invariant.worked);
    }

pub returns-clause-worked : goal.returns-clause-worked
returns-clause-worked c =
    let all = take_all c.loop-body.body-index c.as_slice-body-items.result.now c.loop-body-test.false in
    let P : JobParts → Type 0 = λ job. IsWorked job.cipher job.bodies.items c.loop-body.output.items c.loop-body.end in
    let job = c.args.job in
    subst (IsWorked job.cipher job.bodies.items c.loop-body.output.items) (sym c.of.ensures)
    (subst P c.job.view_is (rw (all, c.as_slice-body-items.ensures) at c.loop-body.invariant.worked))
