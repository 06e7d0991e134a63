use Rattle.std.proofs.Common.{◌≡◌, ℕ, ◌+◌, ◌∙◌, List, ap, arith}
use Rattle.run_digest.specs.Words.{four_words}
use Rattle.run_digest.proofs.schedule.extend.Goals as goal

moved : (block : List ℕ) {x : List ℕ} (m n : ℕ) → x ≡ four_words block m → m ≡ n → x ≡ four_words block n
moved block m n at e = at ∙ ap (four_words block) e

pub returns : goal.returns
returns c = λ block has.
    let n : ℕ = c.args.from in
    let a = c.load-a.ensures block (n + 16) (omega arith) has in
    let b = c.load-b.ensures block (n + 16) (omega arith) has in
    let d = c.load-c.ensures block (n + 16) (omega arith) has in
    let e = c.load-d.ensures block (n + 16) (omega arith) has in
    let f = c.next_four-e.ensures block n (omega arith) a b d e in
    let g = c.next_four-f.ensures block (n + 4) (omega arith)
    b
    (moved block (n + 8) (n + 4 + 4) d (omega arith))
    (moved block (n + 12) (n + 4 + 8) e (omega arith))
    (moved block (n + 16) (n + 4 + 12) f (omega arith)) in
    let h = c.next_four-g.ensures block (n + 8) (omega arith)
    d
    (moved block (n + 12) (n + 8 + 4) e (omega arith))
    (moved block (n + 16) (n + 8 + 8) f (omega arith))
    (moved block (n + 4 + 16) (n + 8 + 12) g (omega arith)) in
    let i = c.next_four-h.ensures block (n + 12) (omega arith)
    e
    (moved block (n + 16) (n + 12 + 4) f (omega arith))
    (moved block (n + 4 + 16) (n + 12 + 8) g (omega arith))
    (moved block (n + 8 + 16) (n + 12 + 12) h (omega arith)) in
    let one = c.store.ensures block has f in
    let two = c.store-2.ensures block (λ t lt. one t (omega arith)) (moved block (n + 4 + 16) (n + 20) g (omega arith)) in
    let three = c.store-3.ensures block (λ t lt. two t (omega arith)) (moved block (n + 8 + 16) (n + 24) h (omega arith)) in
    let four = c.store-4.ensures block (λ t lt. three t (omega arith)) (moved block (n + 12 + 16) (n + 28) i (omega arith)) in
    λ t lt. four t (omega arith)
