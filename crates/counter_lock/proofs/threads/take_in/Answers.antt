use Rattle.std.proofs.Common.{ap, rules, arith, sym, subst, ◌∙◌, ◌+◌, ◌≡◌, ◌⊎◌, ◌≤◌, ◌^◌, ◌++◌, ℕ, cond, length, length-append}
use Rattle.std.specs.Prelude.{◌==◌}
use Rattle.std.proofs.lemmas.List.Sums.{sum_by-append}
use Rattle.turn_lock.specs.Passes.{known}
use Rattle.turn_lock.specs.Shares.{times}
use Rattle.turn_lock.specs.Views.{own_steps}
use Rattle.turn_lock.proofs.Laws.{length-Interleaves}
use Rattle.turn_lock.proofs.Sums.{prefix-length}
use Rattle.counter_lock.proofs.Counts.{times-Interleaves, made_both}
use Rattle.counter_lock.proofs.threads.take_in.Goals as goal

pub returns-clause-answers : goal.returns-clause-answers
returns-clause-answers c =
    let a = c.args.all.now in let b = c.args.other in let xs = own_steps (known a.pass) in let ys =
    own_steps (known b.pass) in let zs = own_steps (known c.join.new.pass) in
    let items : c.extend_from_slice.new.self.items ≡ a.answers.items ++ b.answers.items = search rules in
    let m : length c.extend_from_slice.new.self.items ≡ length (a.answers.items ++ b.answers.items) = ap length items in record {
      many =
          let n = length-Interleaves xs ys zs c.join.ensures.mine in let x = c.requires.answers.0.many in let y =
          c.requires.answers.1.many in omega (arith, length-append a.answers.items b.answers.items);
      each =
          λ k. let n = times-Interleaves k xs ys zs c.join.ensures.mine in let x = c.requires.answers.0.each k in let y =
          c.requires.answers.1.each k in
          let t : times k c.extend_from_slice.new.self.items ≡ times k (a.answers.items ++ b.answers.items) =
          ap (times k) items in
          let s = sum_by-append (λ (y : ℕ). cond (y == k) 1 0) a.answers.items b.answers.items in omega arith;
    }

pub returns-clause-turns : goal.returns-clause-turns
returns-clause-turns c = λ m n p q. let a = c.args.all.now in let b = c.args.other in let seen = (known c.join.new.pass).seen in
    let items : c.extend_from_slice.new.self.items ≡ a.answers.items ++ b.answers.items = search rules in
    let long : length c.extend_from_slice.new.self.items ≡ length a.answers.items + length b.answers.items =
    ap length items ∙ length-append a.answers.items b.answers.items in record {
      most = let x = p.most in let y = q.most in omega arith;
      all =
          subst (λ (x : ℕ). (x ≡ m + n) ⊎ (2 ^ 62 ≤ length seen)) (sym long)
          (made_both (length a.answers.items) (length b.answers.items) m n (length (known a.pass).seen)
          (length (known b.pass).seen) (length seen)
          p.all q.all (prefix-length (known a.pass).seen seen c.join.ensures.older.0)
          (prefix-length (known b.pass).seen seen c.join.ensures.older.1));
    }
