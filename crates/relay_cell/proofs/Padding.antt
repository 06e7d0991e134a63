-- Padding behind a payload.
use Rattle.std.proofs.Common.{◌≡◌, ℕ, ◌+◌, ◌-◌, ◌^◌, ◌<◌, ◌≤◌, ◌++◌, List, [], ◌∷◌, true, length, get_or, take, drop, min, replicate, refl, ap, sym, ◌∙◌, arith, length-append, length-take, length-drop}
use Rattle.std.proofs.lemmas.Bool.{leb-true}
use Rattle.std.proofs.lemmas.List.{take_min, drop_min, take_all, drop_all, take-take, take-append-le, drop-append-le, drop-take, get_or-take, get_or-drop, get_or-append_right, length-take-le, take-replicate, append-nil}
use Rattle.std.proofs.Math.ListN.{get_or-append, length-replicate}
use Rattle.std.proofs.Math.Seq.{take-append-add}
use borrow.Rule.Slice.PartMut.{put_mid, mid_of}
use Rattle.tor_spec.specs.RelayCell.{RelayHead, relay_head, fits_length, payload_of, relay_body, relay_head_bytes, with_padding}
use Rattle.tor_spec.proofs.Bodies.{relay_body_head}

-- The end of a list from a place on, which may lie behind it, is put in the place of another's of its length.
pub end_put : (k start m : ℕ) (body from end : List ℕ) → length body ≡ m → length from ≡ m → start ≡ min k m
    → end ≡ mid_of start (m - start) from → put_mid start (m - start) body end ≡ take k body ++ drop k from
end_put k start m body from end long as_long start_is end_is =
    let none : drop (m - start) (drop start body) ≡ [] =
    drop_all (m - start) (drop start body) (omega (arith, length-drop start body)) in
    let front : take start body ≡ take k body = ap (λ n. take n body) (start_is ∙ ap (min k) (sym long)) ∙ take_min k body in
    let whole : take (m - start) (drop start from) ≡ drop start from =
    take_all (m - start) (drop start from) (omega (arith, length-drop start from)) in
    let back : drop start from ≡ drop k from = ap (λ n. drop n from) (start_is ∙ ap (min k) (sym as_long)) ∙ drop_min k from in
    ap (λ rest. take start body ++ (end ++ rest)) none
    ∙ ap (λ e. take start body ++ e) (append-nil end ∙ end_is ∙ whole ∙ back)
    ∙ ap (λ f. f ++ drop k from) front

-- A head is read from the first 11 bytes.
head_front : (body : List ℕ) → 11 ≤ length body → relay_head (take 11 body) ≡ relay_head body
unfolding relay_head
head_front (a ∷ b ∷ c ∷ d ∷ e ∷ f ∷ g ∷ h ∷ i ∷ j ∷ k ∷ rest) within = refl
head_front _ within = absurd (omega arith)

front_kept : (m n : ℕ) (body more : List ℕ) → m ≤ n → m ≤ length body → take m (take n body ++ more) ≡ take m body
front_kept m n body more low within =
    let there : m ≤ length (take n body) = omega (arith, length-take n body) in
    take-append-le m (take n body) more there ∙ take-take m n body low

pub with_padding_head : (body from : List ℕ) → 11 ≤ length body → relay_head (with_padding body from) ≡ relay_head body
unfolding with_padding
with_padding_head body from within =
    let n = 15 + (relay_head body).length in
    let there : 11 ≤ length (take n body) = omega (arith, length-take n body) in
    let padded_long : 11 ≤ length (take n body ++ drop n from) = omega (arith, length-append (take n body) (drop n from)) in
    sym (head_front (take n body ++ drop n from) padded_long)
    ∙ ap relay_head (front_kept 11 n body (drop n from) (omega arith) within)
    ∙ head_front body within

data_kept : (l : ℕ) (body more : List ℕ) → 11 + l ≤ length body
    → take l (drop 11 (take (15 + l) body ++ more)) ≡ take l (drop 11 body)
data_kept l body more within =
    let there : 11 ≤ length (take (15 + l) body) = omega (arith, length-take (15 + l) body) in
    let place : 15 + l ≡ 11 + (4 + l) = omega arith in
    let room : l ≤ length (drop 11 body) = omega (arith, length-drop 11 body) in
    ap (take l) (drop-append-le 11 (take (15 + l) body) more there)
    ∙ ap (λ k. take l (drop 11 (take k body) ++ more)) place
    ∙ ap (λ d. take l (d ++ more)) (drop-take 11 (4 + l) body)
    ∙ front_kept l (4 + l) (drop 11 body) more (omega arith) room

pub with_padding_payload : (body from : List ℕ) → length body ≡ 509 → fits_length body ≡ true
    → payload_of (with_padding body from) ≡ payload_of body
unfolding with_padding payload_of fits_length
with_padding_payload body from long fits =
    let l = (relay_head body).length in
    let short : l ≤ 498 = leb-true l 498 fits in
    let padded = take (15 + l) body ++ drop (15 + l) from in
    ap (λ (h : RelayHead). take h.length (drop 11 padded)) (with_padding_head body from (omega arith))
    ∙ data_kept l body (drop (15 + l) from) (omega arith)

pub with_padding_before : (body from : List ℕ) (offset : ℕ) → offset < 15 + (relay_head body).length → offset < length body
    → get_or (with_padding body from) offset 0 ≡ get_or body offset 0
unfolding with_padding
with_padding_before body from offset before within =
    let n = 15 + (relay_head body).length in
    let there : offset < length (take n body) = omega (arith, length-take n body) in
    get_or-append (take n body) (drop n from) 0 offset there ∙ get_or-take n body offset 0 before

behind_at : (n m offset : ℕ) (body from : List ℕ) → length body ≡ m → length from ≡ m → n ≤ offset
    → get_or (take n body ++ drop n from) offset 0 ≡ get_or from offset 0
behind_at n m offset body from long as_long behind =
    let k = min n m in
    let front : take n body ≡ take k body = sym (take_min n body) ∙ ap (λ l. take (min n l) body) long in
    let back : drop n from ≡ drop k from = sym (drop_min n from) ∙ ap (λ l. drop (min n l) from) as_long in
    let there : length (take k body) ≡ k = length-take-le k body (omega arith) in
    let place : k + (offset - k) ≡ offset = omega arith in
    ap (λ f. get_or (f ++ drop n from) offset 0) front
    ∙ ap (λ b. get_or (take k body ++ b) offset 0) back
    ∙ get_or-append_right (take k body) (drop k from) k offset 0 there (omega arith)
    ∙ get_or-drop k from (offset - k) 0 ∙ ap (λ i. get_or from i 0) place

pub with_padding_behind : (body from : List ℕ) (offset : ℕ) → length body ≡ 509 → length from ≡ 509
    → 15 + (relay_head body).length ≤ offset → get_or (with_padding body from) offset 0 ≡ get_or from offset 0
unfolding with_padding
with_padding_behind body from offset long as_long behind =
    behind_at (15 + (relay_head body).length) 509 offset body from long as_long behind

pub with_padding_length : (body from : List ℕ) → length body ≡ 509 → length from ≡ 509 → length (with_padding body from) ≡ 509
unfolding with_padding
with_padding_length body from long as_long =
    let n = 15 + (relay_head body).length in
    omega (arith, length-append (take n body) (drop n from), length-take n body, length-drop n from)

four_zeros : (k : ℕ) → take {A = ℕ} 4 (replicate k 0) ≡ replicate (min 4 k) 0
four_zeros k =
    sym (take_min 4 (replicate k 0)) ∙ ap (λ l. take (min 4 l) (replicate k 0)) (length-replicate k 0)
    ∙ take-replicate (min 4 k) k 0 (omega arith)

head_long : (command stream size : ℕ) → length (relay_head_bytes command stream size) ≡ 11
unfolding relay_head_bytes
head_long command stream size = refl

written_at : (n : ℕ) (front from : List ℕ) (k : ℕ) → n ≡ length front + 4
    → take n (front ++ replicate k 0) ++ drop n from ≡ front ++ replicate (min 4 k) 0 ++ drop n from
written_at n front from k place =
    ap (λ i. take i (front ++ replicate k 0) ++ drop n from) place
    ∙ ap (λ t. t ++ drop n from) (take-append-add front (replicate k 0) 4)
    ∙ ap (λ z. front ++ z ++ drop n from) (four_zeros k)

pub relay_body_padded : (command stream : ℕ) (payload from : List ℕ) → stream < 2 ^ 16 → length payload ≤ 498
    → with_padding (relay_body command stream payload) from
    ≡ relay_head_bytes command stream (length payload) ++ payload ++ replicate (min 4 (498 - length payload)) 0
    ++ drop (15 + length payload) from
unfolding with_padding relay_body
relay_body_padded command stream payload from stream_fits short =
    let head = relay_head_bytes command stream (length payload) in
    let body = head ++ payload ++ replicate (498 - length payload) 0 in
    let place : 15 + length payload ≡ length (head ++ payload) + 4 =
    omega (arith, length-append head payload, head_long command stream (length payload)) in
    ap (λ (h : RelayHead). take (15 + h.length) body ++ drop (15 + h.length) from)
    (relay_body_head command stream payload stream_fits (omega arith))
    ∙ written_at (15 + length payload) (head ++ payload) from (498 - length payload) place
