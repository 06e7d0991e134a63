use Rattle.std.proofs.Common.{◌≡◌, ℕ, suc, ◌+◌, subst, arith}
use Rattle.onion_client.proofs.Peeling.{AreOff, found_from, found_digest, found_state, more_off, with_back}
use Rattle.onion_client.proofs.Places.{keystream_at, hop_of_path_at}
use Rattle.onion_client.proofs.layers.take_off_until.Goals as goal

pub take_off-requires : goal.take_off-requires
take_off-requires c =
    keystream_at c.args.hops.now c.loop-i.hops c.loop-i.i c.index-hops-i.result c.requires c.loop-i.invariant.rest
    c.loop-i-test.true

pub returns-in-Some-clause-from : goal.returns-in-Some-clause-from
returns-in-Some-clause-from c = λ path stands.
    found_from path c.loop-i.hops c.args.body.now c.loop-i.body c.take_off.new.body c.loop-i.i c.index-hops-i.result
    c.take_off.new.self
    (c.loop-i.invariant.path path stands) (hop_of_path_at path c.args.hops.now c.loop-i.i stands c.loop-i-test.true)
    c.in-Some.digest (record { told = c.in-Some.ensures.opened; state = c.in-Some.ensures.state })

pub returns-in-Some-clause-digest : goal.returns-in-Some-clause-digest
returns-in-Some-clause-digest c = λ path stands last.
    found_digest path c.loop-i.hops c.args.body.now c.loop-i.body c.take_off.new.body c.loop-i.i c.index-hops-i.result
    c.take_off.new.self c.in-Some.digest
    (c.loop-i.invariant.path path stands) (hop_of_path_at path c.args.hops.now c.loop-i.i stands c.loop-i-test.true)
    (record { told = c.in-Some.ensures.opened; state = c.in-Some.ensures.state }) last

pub returns-in-Some-clause-state : goal.returns-in-Some-clause-state
returns-in-Some-clause-state c = λ path stands.
    found_state path c.loop-i.hops c.args.body.now c.loop-i.body c.take_off.new.body c.loop-i.i c.index-hops-i.result
    c.take_off.new.self
    (c.loop-i.invariant.path path stands) (hop_of_path_at path c.args.hops.now c.loop-i.i stands c.loop-i-test.true)
    c.in-Some.digest (record { told = c.in-Some.ensures.opened; state = c.in-Some.ensures.state })

pub loop-i-preserved : goal.loop-i-preserved
loop-i-preserved c =
    let next : suc c.loop-i.i ≡ c.loop-i.i + 1 = omega arith in
    subst (λ (n : ℕ). AreOff c.args.hops.now (with_back c.loop-i.hops c.loop-i.i c.index-hops-i.result c.take_off.new.self)
    c.args.body.now c.take_off.new.body n) next
    (more_off c.args.hops.now c.loop-i.hops c.args.body.now c.loop-i.body c.take_off.new.body c.loop-i.i c.index-hops-i.result
    c.take_off.new.self
    c.loop-i.invariant c.loop-i-test.true (record { told = c.in_default.ensures.opened; state = c.in_default.ensures.state }))
