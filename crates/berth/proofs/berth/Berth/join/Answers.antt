use Rattle.std.proofs.Common.{◌≡◌, ◌+◌, ap, arith, subst}
use Rattle.turn_lock.specs.Views.{HasAllParts}
use Rattle.berth.specs.Ends.{IsEnd}
use Rattle.berth.proofs.Pairs.{ends_meet}
use Rattle.berth.proofs.berth.Berth.join.Goals as goal

pub returns : goal.returns
returns g c =
    let v = c.args.self.pass.seat.me.0 in let w = c.args.other.pass.seat.me.0 in let j = c.join.new.pass.seat.me.0 in let k =
    c.meet.new.pass.seat.me.0 in let is = c.join.ensures.joined in
    let e : IsEnd _ v =
    subst (λ b. IsEnd b v) c.requires.pair.0 c.args.self.end in let f : IsEnd _ w =
    subst (λ b. IsEnd b w) c.requires.pair.1 c.args.other.end in
    let all : HasAllParts j =
    let a = e.parts in let b = f.parts in let n = e.seats in let p : j.parts ≡ v.parts + w.parts =
    ap (λ x. x.parts) is in let s : j.seats ≡ v.seats = ap (λ x. x.seats) is in omega arith in
    ends_meet v w j k e f (ap (λ x. x.opening) is) c.join.ensures.mine c.meet.ensures.met (c.meet.ensures.all all)
