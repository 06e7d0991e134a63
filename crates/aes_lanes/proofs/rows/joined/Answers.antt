use Rattle.std.proofs.Common.{◌≡◌, List, ℕ, [], ◌∷◌, get_or, lit<}
use Rattle.aes_lanes.specs.Sliced.{IsState}
use Rattle.aes_lanes.proofs.BlockRows.{row_joined}
use Rattle.aes_lanes.proofs.Eight.{below_eight}
use Rattle.aes_lanes.proofs.rows.joined.Goals as goal

pub returns-clause-blocks : goal.returns-clause-blocks
returns-clause-blocks c = λ b s h e.
    let x = c.args.state in
    let out : List (List ℕ) =
    c.block.result ∷ c.block-2.result ∷ c.block-3.result ∷ c.block-4.result ∷ c.block-5.result ∷ c.block-6.result
    ∷ c.block-7.result ∷ c.block-8.result ∷ [] in
    below_eight (λ b. IsState x b s → get_or out b [] ≡ s)
    (λ e. row_joined x _ c.block.result s 0 c.block.ensures e
    (λ l p v m q bit. c.transposed-rows.ensures l p 0 v m q (lit< tt) bit))
    (λ e. row_joined x _ c.block-2.result s 1 c.block-2.ensures e
    (λ l p v m q bit. c.transposed-rows.ensures l p 1 v m q (lit< tt) bit))
    (λ e. row_joined x _ c.block-3.result s 2 c.block-3.ensures e
    (λ l p v m q bit. c.transposed-rows.ensures l p 2 v m q (lit< tt) bit))
    (λ e. row_joined x _ c.block-4.result s 3 c.block-4.ensures e
    (λ l p v m q bit. c.transposed-rows.ensures l p 3 v m q (lit< tt) bit))
    (λ e. row_joined x _ c.block-5.result s 4 c.block-5.ensures e
    (λ l p v m q bit. c.transposed-rows.ensures l p 4 v m q (lit< tt) bit))
    (λ e. row_joined x _ c.block-6.result s 5 c.block-6.ensures e
    (λ l p v m q bit. c.transposed-rows.ensures l p 5 v m q (lit< tt) bit))
    (λ e. row_joined x _ c.block-7.result s 6 c.block-7.ensures e
    (λ l p v m q bit. c.transposed-rows.ensures l p 6 v m q (lit< tt) bit))
    (λ e. row_joined x _ c.block-8.result s 7 c.block-8.ensures e
    (λ l p v m q bit. c.transposed-rows.ensures l p 7 v m q (lit< tt) bit))
    b h e
