use Rattle.std.proofs.Common.{◌≡◌, ◌+◌, ◌∙◌, rules, arith, ap, sym, subst, length}
use Rattle.turn_lock.specs.Views.{IsPlaced, IsRising, longer, joined, settled}
use Rattle.turn_lock.proofs.Keeps.{joins, settles}
use Rattle.turn_lock.proofs.Turns.{length-longer, joined_placed, joined_rising, joins_on}
use Rattle.turn_lock.proofs.lock.TurnLock.join.Goals as goal

pub join_seat-requires : goal.join_seat-requires
join_seat-requires g c = let v = c.args.pass.now in let w = c.args.other in (
  search rules,
  search rules,
  search rules,
  search rules,
  joins g.T.Kept.stands g.T.Kept.is_legal _ _ _ _ _ _ v.rests.1 w.rests.1 v.rests.2 w.rests.2,
)

pub load-pass-requires : goal.load-pass-requires
load-pass-requires g c = let v = c.args.pass.now in (
  search rules,
  search rules,
  settles g.T.Kept.stands g.T.Kept.is_legal _ _ _ _ c.join_seat.new.seat.me
      (ap (λ y. y.0.has_turn) c.join_seat.ensures.2 ∙ v.rests.1)
      (let e = ap (λ y. y.0.parts) c.join_seat.ensures.2 in let n = v.rests.2 in omega arith),
)

pub invariant_of-pass : goal.invariant_of-pass
invariant_of-pass g c =
    let v = c.args.pass.now in let w = c.args.other in let x = c.load-pass.new.seat.me in let s = c.load-pass.ensures.2.after in
    let is : x.0 ≡ settled (joined v.seat.me.0 w.seat.me.0) =
    ap (λ y. y.0) s
    ∙ ap (λ y. settled y.0) c.join_seat.ensures.2 in let n = length-longer v.seat.me.0.seen w.seat.me.0.seen in record {
      rests = (
        ap (λ y. y.1) s ∙ (ap (λ y. y.1) c.join_seat.ensures.2 ∙ v.rests.0),
        ap (λ y. y.has_turn) is ∙ v.rests.1,
        let e : x.0.parts ≡ v.seat.me.0.parts + w.seat.me.0.parts = ap (λ y. y.parts) is in let p =
            v.rests.2 in omega arith,
      );
      counted =
          let a = v.counted in let b = w.counted in let r =
          c.max-pass.ensures in let e : length x.0.seen ≡ length (longer v.seat.me.0.seen w.seat.me.0.seen) =
          ap (λ y. length y.seen) is in let m = n.2 in omega arith;
      low = let a = v.low in let b = w.low in let r = c.max-pass.ensures in omega arith;
      placed = subst IsPlaced (sym is) (joined_placed v.seat.me.0 w.seat.me.0 v.placed w.placed);
      rising = subst IsRising (sym is) (joined_rising v.seat.me.0 w.seat.me.0 v.rising w.rising);
    }

pub returns : goal.returns
returns g c =
    let v = c.args.pass.now in let w = c.args.other in let m = c.join_seat.new.seat.me in let s = c.load-pass.ensures.2 in
    let j =
    joins_on v.seat.me.0 w.seat.me.0 m c.load-pass.new.seat.me v.placed w.placed (ap (λ y. y.0) c.join_seat.ensures.2) s in
    record {
      own = search rules;
      joined = ap (λ y. y.0) s.after ∙ ap (λ y. settled y.0) c.join_seat.ensures.2;
      older = j.older;
      once = j.once;
      mine = j.mine;
      by_share = j.by_share;
    }
