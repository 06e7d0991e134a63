-- The same for the cell that opens a link.
use Rattle.std.proofs.Common.{ℕ, ◌≡◌, ◌+◌, ◌^◌, ◌<◌, ◌≤◌, [], ◌∷◌, ◌++◌, List, length, take, drop, refl, sym, ap, ◌∙◌, arith, append_assoc, length-append, Option, Some, None}
use Rattle.std.specs.List.{flat_map}
use Rattle.std.specs.Int.{w16, to_be_bytes, from_be_bytes}
use Rattle.std.proofs.lemmas.Bool.{leb-true, le-ltb}
use Rattle.std.proofs.lemmas.List.{take_at, drop_at, take-append-drop, length-take-le}
use Rattle.std.proofs.lemmas.Nat.{from_be_bytes-to_be_bytes_2, be_bytes_2}
use Rattle.std.proofs.lemmas.Option.{cond_some, option_and_then_some}
use Rattle.tor_spec.specs.CellEncoding.{WireCell, encoding, first_encoding}
use Rattle.tor_spec.specs.CellReading.{with_cell, first_size, first_of, first_at, wrong_start, first_reading, later_reading, reading}
use Rattle.tor_spec.specs.CellStream.{IsBytes, IsFirstCell, Spells, SpellsFirst, whole_first}
use Rattle.tor_spec.proofs.CellSizes.{first_size_is, first_size_told, first_size-take}
use Rattle.tor_spec.proofs.CellCuts.{first_ended}
use Rattle.tor_spec.proofs.CellPieces.{first_reading-wrong, first_reading-none, first_reading-some}
use Rattle.tor_spec.proofs.WrongStarts.{right_start, wrong_start-append}
use Rattle.cell_laws.proofs.Encodings.{same_cell}
use Rattle.cell_laws.proofs.Bytes.{IsBytes-take, IsBytes-drop}
use Rattle.cell_laws.proofs.Spellings.{with_cells, spelled_first, later_spelled}

-- VERSIONS with this payload, as it opens a link.
abbrev opening : List ℕ → List ℕ
opening payload = 0 ∷ 0 ∷ 7 ∷ (to_be_bytes w16 (length payload) ++ payload)

opening_is : (c : WireCell) → IsFirstCell c → first_encoding c ≡ opening c.payload
opening_is c is = rw (is.circuit, is.command) refl

first_is : (c : WireCell) → IsFirstCell c → record { circuit = 0; command = 7; payload = c.payload } ≡ c
first_is c is = same_cell (sym is.circuit) (sym is.command) refl

opening_at : (payload more : List ℕ) → length payload < 2 ^ 16
    → first_at (opening payload ++ more) ≡ Some (record { circuit = 0; command = 7; payload = payload }, more)
unfolding first_of
opening_at payload more fits =
    let n = length (opening payload) in
    let all : length (opening payload ++ more) ≡ n + length more = length-append (opening payload) more in
    first_ended (opening payload ++ more) n
    (first_size_is (opening payload ++ more) n (omega arith)
    (ap (λ k. 5 + k) (from_be_bytes-to_be_bytes_2 (length payload) fits) ∙ omega arith)) (omega arith)
    ∙ ap (λ t. Some (first_of t, drop n (opening payload ++ more))) (take_at (opening payload) more n refl)
    ∙ ap (λ d. Some (first_of (opening payload), d)) (drop_at (opening payload) more n refl)

opening_start : (payload more : List ℕ) → wrong_start (opening payload ++ more) ≡ None
unfolding wrong_start
opening_start payload more = rw (le-ltb (length (opening payload ++ more)) 3 (omega arith)) refl

-- The opening cell is read from its encoding, whatever follows it.
pub first_again : (c : WireCell) (more : List ℕ) → IsFirstCell c → first_at (first_encoding c ++ more) ≡ Some (c, more)
first_again c more is =
    ap (λ e. first_at (e ++ more)) (opening_is c is) ∙ opening_at c.payload more is.variable
    ∙ ap (λ d. Some (d, more)) (first_is c is)

pub right_start_again : (c : WireCell) (more : List ℕ) → IsFirstCell c → wrong_start (first_encoding c ++ more) ≡ None
right_start_again c more is = ap (λ e. wrong_start (e ++ more)) (opening_is c is) ∙ opening_start c.payload more

pub record SpelledFirst (b : List ℕ) (c : WireCell) : Type 0 where
  pub text : first_encoding c ≡ b
  pub cell : IsFirstCell c

first_spelled : (b : List ℕ) → IsBytes b → first_size b ≡ Some (length b) → wrong_start b ≡ None → SpelledFirst b (first_of b)
unfolding first_of
first_spelled (b0 ∷ b1 ∷ k ∷ h ∷ l ∷ payload) fits size start =
    let b = b0 ∷ b1 ∷ k ∷ h ∷ l ∷ payload in
    let right = right_start b (omega arith) start in
    let told : 5 + from_be_bytes w16 (h ∷ l ∷ []) ≡ length b = (first_size_told b (length b) size).1 in
    let long : length payload ≡ from_be_bytes w16 (h ∷ l ∷ []) = omega arith in
    let front : IsBytes (b0 ∷ b1 ∷ []) = IsBytes-take 2 b fits in
    let two : IsBytes (h ∷ l ∷ []) = IsBytes-take 2 (h ∷ l ∷ payload) (IsBytes-drop 3 b fits) in
    let circuit_bytes : to_be_bytes w16 (from_be_bytes w16 (b0 ∷ b1 ∷ [])) ≡ b0 ∷ b1 ∷ [] =
    be_bytes_2 (b0 ∷ b1 ∷ []) _ refl front refl in
    let length_bytes : to_be_bytes w16 (length payload) ≡ h ∷ l ∷ [] = be_bytes_2 (h ∷ l ∷ []) (length payload) refl two long in
    let high : h < 256 = two 0 in
    let low : l < 256 = two 1 in
    record {
      text = ap (λ p. p ++ k ∷ (to_be_bytes w16 (length payload) ++ payload)) circuit_bytes
          ∙ ap (λ q. b0 ∷ b1 ∷ k ∷ (q ++ payload)) length_bytes;
      cell = record {
        circuit = right.0;
        command = right.1;
        bytes = IsBytes-drop 5 b fits;
        variable = omega arith;
      };
    }
first_spelled b fits size start = let long = (first_size_told b (length b) size).0 in absurd (omega arith)

pub record FoundFirst (a : List ℕ) (c : WireCell) (rest : List ℕ) : Type 0 where
  pub text : a ≡ first_encoding c ++ rest
  pub cell : IsFirstCell c
  pub bytes : IsBytes rest

first_found : (a : List ℕ) (found : WireCell × List ℕ) → IsBytes a → wrong_start a ≡ None → first_at a ≡ Some found
    → FoundFirst a found.0 found.1
unfolding first_at
first_found a found fits start e = option_and_then_some _ _ found e (λ n size cut.
    let parts = cond_some _ _ _ cut in
    let within : n ≤ length a = leb-true _ _ parts.0 in
    let told = (first_size_told a n size).1 in
    let long : length (take n a) ≡ n = length-take-le n a within in
    let own-start : wrong_start (take n a) ≡ None =
    sym (wrong_start-append (take n a) (drop n a) (omega arith)) ∙ ap wrong_start (take-append-drop n a) ∙ start in
    let own = first_spelled (take n a) (IsBytes-take n a fits) (first_size-take a n size within) own-start in
    rw (← parts.1) (record {
      text = sym (ap (λ t. t ++ drop n a) own.text ∙ take-append-drop n a);
      cell = own.cell;
      bytes = IsBytes-drop n a fits;
    }))

-- A list of cells that a prefix of the bytes spells, the first as the one that opens the link.
pub record SpelledPrefix (bytes : List ℕ) (cells : List WireCell) : Type 0 where
  pub front : List ℕ
  pub rest : List ℕ
  pub cut : bytes ≡ front ++ rest
  pub spelled : SpellsFirst front cells

none_spelled : (bytes : List ℕ) → SpelledPrefix bytes []
none_spelled bytes = record { front = []; rest = bytes; cut = refl; spelled = refl }

first_spelled-at : (bytes : List ℕ) → IsBytes bytes → wrong_start bytes ≡ None → (o : Option (WireCell × List ℕ))
    → first_at bytes ≡ o
    → SpelledPrefix bytes (first_reading bytes).cells
first_spelled-at bytes fits start None e = rw (first_reading-none bytes start e) (none_spelled bytes)
first_spelled-at bytes fits start (Some found) e =
    let own = first_found bytes found fits start e in
    let later = later_spelled found.1 own.bytes in
    rw (first_reading-some bytes found start e) (record {
      front = first_encoding found.0 ++ flat_map encoding (later_reading found.1).cells;
      rest = (later_reading found.1).left.bytes;
      cut = own.text ∙ ap (λ b. first_encoding found.0 ++ b) later.text ∙ sym (append_assoc (first_encoding found.0) _ _);
      spelled = (own.cell, flat_map encoding (later_reading found.1).cells, refl, record { text = refl; each = later.each });
    })

first_spelled-by : (bytes : List ℕ) → IsBytes bytes → (o : Option (ℕ × ℕ)) → wrong_start bytes ≡ o
    → SpelledPrefix bytes (first_reading bytes).cells
first_spelled-by bytes fits (Some x) wrong = rw (first_reading-wrong bytes x wrong) (none_spelled bytes)
first_spelled-by bytes fits None start = first_spelled-at bytes fits start (first_at bytes) refl

-- The cells of a link from its start are spelled by a prefix of its bytes.
pub whole_first_spelled : (bytes : List ℕ) → IsBytes bytes → SpelledPrefix bytes (whole_first bytes)
unfolding whole_first reading
whole_first_spelled bytes fits = first_spelled-by bytes fits (wrong_start bytes) refl

longest-at : (rest : List ℕ) (first : WireCell) (cells : List WireCell) (more : List ℕ) → IsFirstCell first → Spells more cells
    → first_reading (first_encoding first ++ more ++ rest) ≡ with_cells (first ∷ cells) (later_reading rest)
longest-at rest first cells more is spells =
    ap first_reading (append_assoc (first_encoding first) more rest)
    ∙ first_reading-some _ _ (right_start_again first (more ++ rest) is) (first_again first (more ++ rest) is)
    ∙ ap (with_cell first) (ap later_reading (ap (λ m. m ++ rest) spells.text) ∙ spelled_first cells rest spells.each)

-- And they are the longest such list: each other begins it.
pub whole_first_longest : (bytes : List ℕ) (cells : List WireCell) → SpelledPrefix bytes cells
    → (others : List WireCell) × (whole_first bytes ≡ cells ++ others)
unfolding whole_first reading
whole_first_longest bytes [] p = ((first_reading bytes).cells, refl)
whole_first_longest bytes (first ∷ cells) p = (
  (later_reading p.rest).cells,
  ap (λ b. (first_reading b).cells) (p.cut ∙ ap (λ f. f ++ p.rest) p.spelled.2)
      ∙ ap (λ r. r.cells) (longest-at p.rest first cells p.spelled.1 p.spelled.0 p.spelled.3),
)
