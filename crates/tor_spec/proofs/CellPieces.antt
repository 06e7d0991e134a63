-- Reading a link in pieces gives what reading it at once gives.
use Rattle.std.proofs.Common.{ℕ, zero, suc, ◌≡◌, ◌≤◌, [], ◌++◌, List, length, take, Bool, true, false, refl, sym, ap, ◌∙◌, arith, append_assoc, Option, Some, None}
use Rattle.std.proofs.lemmas.List.{take-append-le, take_at, length-take-le}
use Rattle.tor_spec.specs.CellEncoding.{WireCell}
use Rattle.tor_spec.specs.CellReading.{cell_at, first_at, wrong_start, Unread, Reading, with_piece, with_cell, later_reading, first_reading, reading, refusal}
use Rattle.tor_spec.proofs.CellCuts.{cell_at-append, cell_at-shorter, first_at-append, first_at-told}
use Rattle.tor_spec.proofs.WrongStarts.{wrong_start-append, wrong_start-told, wrong_start-take}
use Rattle.tor_spec.proofs.CellReadingSteps.{later_reading-none, later_reading-some, nothing_at}

-- A reading, and then a further piece.
abbrev pub then_piece : Reading → List ℕ → Reading
then_piece r piece = record {
  cells = r.cells ++ (reading (with_piece r.left piece)).cells;
  left = (reading (with_piece r.left piece)).left;
}

later-none : (a b : List ℕ) → cell_at a ≡ None → later_reading (a ++ b) ≡ then_piece (later_reading a) b
unfolding reading
later-none a b e = rw (later_reading-none a e) refl

later-at : (n : ℕ) (a b : List ℕ) → length a ≤ suc n
    → ((c : List ℕ) → length c ≤ n → later_reading (c ++ b) ≡ then_piece (later_reading c) b)
    → (o : Option (WireCell × List ℕ)) → cell_at a ≡ o → later_reading (a ++ b) ≡ then_piece (later_reading a) b
later-at n a b h later None e = later-none a b e
later-at n a b h later (Some found) e =
    let less = cell_at-shorter a found e in
    later_reading-some (a ++ b) (found.0, found.1 ++ b) (cell_at-append a b found e)
    ∙ ap (with_cell found.0) (later found.1 (omega arith))
    ∙ rw (later_reading-some a found e) refl

later-within : (n : ℕ) (a b : List ℕ) → length a ≤ n → later_reading (a ++ b) ≡ then_piece (later_reading a) b
later-within zero a b h = later-none a b (nothing_at a h)
later-within (suc n) a b h = later-at n a b h (λ c k. later-within n c b k) (cell_at a) refl

later-pieces : (a b : List ℕ) → later_reading (a ++ b) ≡ then_piece (later_reading a) b
later-pieces a b = later-within (length a) a b (omega arith)

-- How the reading of a link's first bytes goes.
pub first_reading-wrong : (a : List ℕ) (x : ℕ × ℕ) → wrong_start a ≡ Some x
    → first_reading a ≡ record { cells = []; left = record { opening = true; bytes = take 3 a } }
unfolding first_reading
first_reading-wrong a x e = rw e refl

pub first_reading-none : (a : List ℕ) → wrong_start a ≡ None → first_at a ≡ None
    → first_reading a ≡ record { cells = []; left = record { opening = true; bytes = a } }
unfolding first_reading
first_reading-none a w e = rw (w, e) refl

pub first_reading-some : (a : List ℕ) (found : WireCell × List ℕ) → wrong_start a ≡ None → first_at a ≡ Some found
    → first_reading a ≡ with_cell found.0 (later_reading found.1)
unfolding first_reading
first_reading-some a found w e = rw (w, e) refl

take-three : (a b : List ℕ) → 3 ≤ length a → take 3 (take 3 a ++ b) ≡ take 3 (a ++ b)
take-three a b long = take_at (take 3 a) b 3 (length-take-le 3 a long) ∙ sym (take-append-le 3 a b long)

first-wrong : (a b : List ℕ) (x : ℕ × ℕ) → wrong_start a ≡ Some x → first_reading (a ++ b) ≡ then_piece (first_reading a) b
unfolding reading
first-wrong a b x e =
    let long = wrong_start-told a x e in
    let three : length (take 3 a) ≡ 3 = length-take-le 3 a long in
    let still : wrong_start (take 3 a ++ b) ≡ Some x = wrong_start-append (take 3 a) b (omega arith) ∙ wrong_start-take a x e in
    first_reading-wrong (a ++ b) x (wrong_start-append a b long ∙ e)
    ∙ rw (first_reading-wrong a x e, first_reading-wrong (take 3 a ++ b) x still, take-three a b long) refl

first-at : (a b : List ℕ) → wrong_start a ≡ None → (o : Option (WireCell × List ℕ)) → first_at a ≡ o
    → first_reading (a ++ b) ≡ then_piece (first_reading a) b
unfolding reading
first-at a b w None e = rw (first_reading-none a w e) refl
first-at a b w (Some found) e =
    let long : 5 ≤ length a = first_at-told a found e in
    first_reading-some (a ++ b) (found.0, found.1 ++ b) (wrong_start-append a b (omega arith) ∙ w) (first_at-append a b found e)
    ∙ ap (with_cell found.0) (later-pieces found.1 b)
    ∙ rw (first_reading-some a found w e) refl

first-pieces-at : (a b : List ℕ) (o : Option (ℕ × ℕ)) → wrong_start a ≡ o
    → first_reading (a ++ b) ≡ then_piece (first_reading a) b
first-pieces-at a b (Some x) w = first-wrong a b x w
first-pieces-at a b None w = first-at a b w (first_at a) refl

pieces-at : (opening : Bool) (bytes b : List ℕ)
    → reading (record { opening = opening; bytes = bytes ++ b })
    ≡ then_piece (reading (record { opening = opening; bytes = bytes })) b
unfolding reading
pieces-at true bytes b = first-pieces-at bytes b (wrong_start bytes) refl
pieces-at false bytes b = later-pieces bytes b

joined : (u : Unread) (a b : List ℕ) → with_piece u (a ++ b) ≡ with_piece (with_piece u a) b
joined u a b = ap (λ bytes. record { opening = u.opening; bytes = bytes }) (sym (append_assoc u.bytes a b))

-- Reading a and then b gives the cells of a ++ b, in order, and leaves the same unread.
pub reading-pieces : (u : Unread) (a b : List ℕ) → reading (with_piece u (a ++ b)) ≡ then_piece (reading (with_piece u a)) b
reading-pieces u a b = ap reading (joined u a b) ∙ pieces-at u.opening (u.bytes ++ a) b

-- Behind the first cell no start is awaited.
later-open-at : (n : ℕ) (a : List ℕ) → length a ≤ suc n → ((c : List ℕ) → length c ≤ n → (later_reading c).left.opening ≡ false)
    → (o : Option (WireCell × List ℕ)) → cell_at a ≡ o → (later_reading a).left.opening ≡ false
later-open-at n a h later None e = ap (λ r. r.left.opening) (later_reading-none a e)
later-open-at n a h later (Some found) e =
    let less = cell_at-shorter a found e in
    ap (λ r. r.left.opening) (later_reading-some a found e) ∙ later found.1 (omega arith)

later-open-within : (n : ℕ) (a : List ℕ) → length a ≤ n → (later_reading a).left.opening ≡ false
later-open-within zero a h = ap (λ r. r.left.opening) (later_reading-none a (nothing_at a h))
later-open-within (suc n) a h = later-open-at n a h (λ c k. later-open-within n c k) (cell_at a) refl

pub later-open : (a : List ℕ) → (later_reading a).left.opening ≡ false
later-open a = later-open-within (length a) a (omega arith)

refused-open : (u : Unread) (b : List ℕ) → u.opening ≡ false → refusal (with_piece u b) ≡ None
unfolding refusal
refused-open u b e = rw e refl

refused-wrong : (a b : List ℕ) (x : ℕ × ℕ) → wrong_start a ≡ Some x
    → refusal (with_piece (first_reading a).left b) ≡ wrong_start (a ++ b)
unfolding refusal
refused-wrong a b x e =
    let long = wrong_start-told a x e in
    let three : length (take 3 a) ≡ 3 = length-take-le 3 a long in
    rw (
      first_reading-wrong a x e,
      wrong_start-append (take 3 a) b (omega arith),
      wrong_start-take a x e,
      wrong_start-append a b long,
      e,
    ) refl

refused-at : (a b : List ℕ) → wrong_start a ≡ None → (o : Option (WireCell × List ℕ)) → first_at a ≡ o
    → refusal (with_piece (first_reading a).left b) ≡ wrong_start (a ++ b)
unfolding refusal
refused-at a b w None e = rw (first_reading-none a w e) refl
refused-at a b w (Some found) e =
    let long : 5 ≤ length a = first_at-told a found e in
    let opened : (first_reading a).left.opening ≡ false =
    ap (λ r. r.left.opening) (first_reading-some a found w e) ∙ later-open found.1 in
    rw (opened, wrong_start-append a b (omega arith), w) refl

refused-pieces-at : (a b : List ℕ) (o : Option (ℕ × ℕ)) → wrong_start a ≡ o
    → refusal (with_piece (first_reading a).left b) ≡ wrong_start (a ++ b)
refused-pieces-at a b (Some x) w = refused-wrong a b x w
refused-pieces-at a b None w = refused-at a b w (first_at a) refl

refused-by : (opening : Bool) (bytes b : List ℕ)
    → refusal (with_piece (reading (record { opening = opening; bytes = bytes })).left b)
    ≡ refusal (record { opening = opening; bytes = bytes ++ b })
unfolding reading refusal
refused-by true bytes b = refused-pieces-at bytes b (wrong_start bytes) refl
refused-by false bytes b = refused-open (later_reading bytes).left b (later-open bytes)

-- A link is refused for its bytes, however they are cut.
pub refusal-pieces : (u : Unread) (a b : List ℕ)
    → refusal (with_piece (reading (with_piece u a)).left b) ≡ refusal (with_piece u (a ++ b))
refusal-pieces u a b = refused-by u.opening (u.bytes ++ a) b ∙ ap refusal (sym (joined u a b))
