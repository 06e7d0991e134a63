use Rattle.std.proofs.Common.{◌≡◌, ℕ, suc, ◌-◌, subst, arith}
use Rattle.onion_client.proofs.Layering.{AreOn, more_on}
use Rattle.onion_client.proofs.layers.put_on_all.Goals as goal

pub loop-i-preserved : goal.loop-i-preserved
loop-i-preserved c =
    let last : c.loop-i.i ≡ suc (c.loop-i.i - 1) = omega arith in
    more_on c.args.hops.now c.loop-i.hops c.args.body.now c.loop-i.body c.put_on.new.body (c.loop-i.i - 1) c.index-hops-i.result
    c.put_on.new.self
    (subst (λ (n : ℕ). AreOn c.args.hops.now c.loop-i.hops c.args.body.now c.loop-i.body n) last c.loop-i.invariant)
    c.put_on.ensures.state c.put_on.ensures.body
