-- A decoder's stage and bytes, as what its link leaves unread.
use Rattle.std.proofs.Common.{ℕ, ◌≡◌, [], ◌∷◌, ◌++◌, List, length, take, true, refl, sym, ap, ◌∙◌, arith, subst, lit≤, Some, None}
use Rattle.std.specs.Prelude.{◌≢◌}
use Rattle.std.specs.Int.{w16, to_be_bytes}
use Rattle.std.proofs.lemmas.Option.{none-some}
use Rattle.tor_spec.specs.CellReading.{Unread, with_piece, first_at, wrong_start, later_reading, first_reading, reading, refusal}
use Rattle.tor_spec.proofs.WrongStarts.{wrong_start-append, wrong_start-take}
use Rattle.tor_spec.proofs.CellPieces.{first_reading-wrong, first_reading-none}
use Rattle.cell_codec.specs.declared.decoder.Stage.{Stage}
use Rattle.cell_codec.specs.declared.decoder.Stage.TheVariants.{Opening, Open, Refused}
use Rattle.cell_codec.specs.Decoding.{unread_of, IsSettled, IsUnfinished}

pub open_reading : (u : Unread) (s : Stage) (rest piece : List ℕ) → u ≡ unread_of s rest → s ≡ Open
    → reading (with_piece u piece) ≡ later_reading (rest ++ piece)
unfolding reading
open_reading u s rest piece e o = rw (e, o) refl

pub open_accepted : (u : Unread) (s : Stage) (rest piece : List ℕ) → u ≡ unread_of s rest → s ≡ Open
    → refusal (with_piece u piece) ≡ None
unfolding refusal
open_accepted u s rest piece e o = rw (e, o) refl

pub opening_reading : (u : Unread) (s : Stage) (rest piece : List ℕ) → u ≡ unread_of s rest → s ≡ Opening
    → reading (with_piece u piece) ≡ first_reading (rest ++ piece)
unfolding reading
opening_reading u s rest piece e o = rw (e, o) refl

pub opening_refusal : (u : Unread) (s : Stage) (rest piece : List ℕ) → u ≡ unread_of s rest → s ≡ Opening
    → refusal (with_piece u piece) ≡ wrong_start (rest ++ piece)
unfolding refusal
opening_refusal u s rest piece e o = rw (e, o) refl

-- The bytes that a refused link keeps.
abbrev pub start_bytes : ℕ → ℕ → List ℕ
start_bytes circ command = to_be_bytes w16 circ ++ command ∷ []

pub start_kept : (a : List ℕ) (circ command : ℕ) → wrong_start a ≡ Some (circ, command) → start_bytes circ command ≡ take 3 a
    → wrong_start (start_bytes circ command) ≡ Some (circ, command)
start_kept a circ command wrong bytes = ap wrong_start bytes ∙ wrong_start-take a _ wrong

pub start_left : (a : List ℕ) (circ command : ℕ) → wrong_start a ≡ Some (circ, command) → start_bytes circ command ≡ take 3 a
    → unread_of (Refused circ command) [] ≡ (first_reading a).left
start_left a circ command wrong bytes =
    ap (λ b. record { opening = true; bytes = b }) bytes ∙ sym (ap (λ r. r.left) (first_reading-wrong a _ wrong))

pub refused_again : (u : Unread) (s : Stage) (rest piece : List ℕ) (circ command : ℕ) → u ≡ unread_of s rest
    → s ≡ Refused circ command
    → IsSettled s rest → refusal (with_piece u piece) ≡ Some (circ, command)
unfolding refusal
refused_again u s rest piece circ command e r settled =
    let still : IsSettled (Refused circ command) rest = subst (λ t. IsSettled t rest) r settled in
    rw (e, r) (wrong_start-append (start_bytes circ command) piece (lit≤ tt) ∙ still.1)

pub refused_left : (u : Unread) (s : Stage) (rest piece : List ℕ) (circ command : ℕ) → u ≡ unread_of s rest
    → s ≡ Refused circ command
    → IsSettled s rest → u ≡ (reading (with_piece u piece)).left
unfolding reading
refused_left u s rest piece circ command e r settled =
    let still : IsSettled (Refused circ command) rest = subst (λ t. IsSettled t rest) r settled in
    let wrong = wrong_start-append (start_bytes circ command) piece (lit≤ tt) ∙ still.1 in
    rw (e, r) (sym (ap (λ l. l.left) (first_reading-wrong (start_bytes circ command ++ piece) _ wrong)))

pub opening_left : (a rest : List ℕ) → wrong_start a ≡ None → first_at a ≡ None → rest ≡ a
    → unread_of Opening rest ≡ (first_reading a).left
opening_left a rest start none all = rw (first_reading-none a start none, all) refl

pub opening_cells : (a : List ℕ) → wrong_start a ≡ None → first_at a ≡ None → (first_reading a).cells ≡ []
opening_cells a start none = ap (λ r. r.cells) (first_reading-none a start none)

-- Whether a cell is unfinished is whether bytes are kept.
pub finished : (u : Unread) (s : Stage) (rest : List ℕ) → u ≡ unread_of s rest → IsSettled s rest → rest ≡ [] → IsUnfinished u → ⊥
unfolding refusal
finished u Opening rest e settled empty left = left.bytes (ap (λ v. v.bytes) e ∙ empty)
finished u Open rest e settled empty left = left.bytes (ap (λ v. v.bytes) e ∙ empty)
finished u (Refused circ command) rest e settled empty left =
    none-some _ (sym left.accepted ∙ ap refusal e ∙ settled.1)

pub unfinished : (u : Unread) (s : Stage) (rest : List ℕ) → u ≡ unread_of s rest → IsSettled s rest → rest ≢ [] → IsUnfinished u
unfolding refusal
unfinished u Opening rest e settled some =
    record { bytes = λ none. some (sym (ap (λ v. v.bytes) e) ∙ none); accepted = ap refusal e ∙ settled.0 }
unfinished u Open rest e settled some =
    record { bytes = λ none. some (sym (ap (λ v. v.bytes) e) ∙ none); accepted = ap refusal e }
unfinished u (Refused circ command) rest e settled some = absurd (some settled.0)

pub empty_list : {A : Type 0} (xs : List A) → length xs ≡ 0 → xs ≡ []
empty_list [] e = refl
empty_list (x ∷ xs) e = absurd (omega arith)
