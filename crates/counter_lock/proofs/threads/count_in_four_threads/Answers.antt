use Rattle.std.proofs.Common.{rules, arith, sym, ap, ◌∙◌, ◌≡◌, map, ◌+◌, ◌*◌, ◌^◌, ◌<◌, length}
use Rattle.turn_lock.specs.Passes.{known}
use Rattle.turn_lock.specs.Shares.{times, once_below}
use Rattle.turn_lock.specs.Views.{own_steps}
use Rattle.turn_lock.proofs.Sums.{once_below-zero}
use Rattle.counter_lock.specs.Counting.{CountsFrom, answer_of}
use Rattle.counter_lock.specs.Threads.{MadeTurns, own_answers}
use Rattle.counter_lock.proofs.Counts.{made_all, times-CountsFrom}
use Rattle.counter_lock.proofs.threads.count_in_four_threads.Goals as goal

pub returns-clause-steps : goal.returns-clause-steps
returns-clause-steps g c = let m = c.args.times in let t = c.take_in-3.new.all in let p = known c.close-pass.result.1 in
    let first : MadeTurns m c.in_ok-all.all = search rules in
    let second : MadeTurns m c.in_ok-second.field-0 = search rules in
    let third : MadeTurns m c.in_ok-third.field-0 = search rules in
    let fourth : MadeTurns m c.in_ok-fourth.field-0 = search rules in
    let made : MadeTurns (m + m + m + m) t =
    c.in_ok-take_in-3.ensures.turns _ _
    (c.in_ok-take_in-2.ensures.turns _ _ (c.in_ok-take_in.ensures.turns m m first second) third) fourth in
    let own : own_steps p ≡ own_steps (known t.pass) = ap own_steps c.close-pass.ensures.pass in
    let many : length (own_steps p) ≡ length t.answers.items = ap length own ∙ c.in_ok-take_in-3.ensures.answers.many in
    let all : length (own_steps p) ≡ length p.seen = ap length c.close-pass.ensures.all.steps in
    let same : p.seen ≡ (known t.pass).seen = ap (λ v. v.seen) c.close-pass.ensures.pass in
    let seen : length p.seen ≡ length (known t.pass).seen = ap length same in
    let low : m < 2 ^ 32 = search rules in
    let is =
    made_all (length t.answers.items) (m + m + m + m) (length (known t.pass).seen) made.all (omega arith) made.most
    (omega arith) in omega arith

pub returns-clause-value : goal.returns-clause-value
returns-clause-value g c =
    let p = known c.close-pass.result.1 in let value : c.close-pass.result.0.value ≡ length p.seen = search rules in
    value ∙ sym (ap length c.close-pass.ensures.all.steps) ∙ returns-clause-steps g c

pub returns-clause-answers : goal.returns-clause-answers
returns-clause-answers g c = λ k. let m = c.args.times in let t = c.take_in-3.new.all in let p = known c.close-pass.result.1 in
    let own : own_steps (known t.pass) ≡ p.seen = sym (ap own_steps c.close-pass.ensures.pass) ∙ c.close-pass.ensures.all.steps in
    let each : times k (own_answers t) ≡ times k t.answers.items = c.in_ok-take_in-3.ensures.answers.each k in
    let all : times k (own_answers t) ≡ times k (map answer_of p.seen) = ap (λ es. times k (map answer_of es)) own in
    let places : CountsFrom 0 p.seen = search rules in
    let counted = times-CountsFrom k 0 p.seen places in let none = once_below-zero k in
    let seen : length p.seen ≡ 4 * m = sym (ap length c.close-pass.ensures.all.steps) ∙ returns-clause-steps g c in
    let end : once_below k (0 + length p.seen) ≡ once_below k (4 * m) =
    let e : 0 + length p.seen ≡ 4 * m = omega arith in ap (once_below k) e in omega arith
