-- A relay cell's body is read as it is spelled.
use Rattle.std.proofs.Common.{◌≡◌, ℕ, ◌+◌, ◌^◌, ◌<◌, ◌≤◌, true, leb, List, [], ◌∷◌, ◌++◌, length, take, drop, refl, ap, sym, ◌∙◌, arith, append_assoc, length-append}
use Rattle.std.specs.Int.{w16, to_be_bytes, from_be_bytes}
use Rattle.std.proofs.lemmas.Bool.{leb-true, le-leb}
use Rattle.std.proofs.lemmas.List.{take_at, take-append-drop, length-take-le}
use Rattle.std.proofs.lemmas.Nat.{from_be_bytes-to_be_bytes_2}
use Rattle.tor_spec.specs.CellStream.{IsBytes}
use Rattle.tor_spec.specs.RelayCell.{RelayHead, relay_head, fits_length, payload_of}
use Rattle.cell_laws.specs.Body.{SpellsBody}
use Rattle.cell_laws.proofs.Bytes.{IsBytes-drop, two_bytes, two_fit}

abbrev made : ℕ → List ℕ → ℕ → ℕ → ℕ → RelayHead
made command digest recognized stream size =
    record { command = command; recognized = recognized; stream = stream; digest = digest; length = size }

same_head : (command : ℕ) (digest : List ℕ) (a b c m n k : ℕ) → a ≡ m → b ≡ n → c ≡ k
    → made command digest a b c ≡ made command digest m n k
same_head command digest a b c m n k e f g = rw (e, f, g) refl

-- The bytes of a head, and what is behind them.
abbrev front_of : RelayHead → List ℕ
front_of h = h.command ∷ to_be_bytes w16 h.recognized ++ to_be_bytes w16 h.stream ++ h.digest ++ to_be_bytes w16 h.length

abbrev laid_out : RelayHead → List ℕ → List ℕ
laid_out h behind = front_of h ++ behind

head_read-at : (command recognized stream size : ℕ) (digest behind : List ℕ) → length digest ≡ 4
    → recognized < 2 ^ 16 → stream < 2 ^ 16 → size < 2 ^ 16
    → (relay_head (laid_out (made command digest recognized stream size) behind) ≡ made command digest recognized stream size)
    × (drop 11 (laid_out (made command digest recognized stream size) behind) ≡ behind)
unfolding relay_head
head_read-at command recognized stream size (a ∷ b ∷ c ∷ d ∷ []) behind four r_fits s_fits n_fits = (
  same_head command (a ∷ b ∷ c ∷ d ∷ []) _ _ _ recognized stream size
      (from_be_bytes-to_be_bytes_2 recognized r_fits) (from_be_bytes-to_be_bytes_2 stream s_fits)
      (from_be_bytes-to_be_bytes_2 size n_fits),
  refl,
)
head_read-at command recognized stream size _ behind four r_fits s_fits n_fits = absurd (omega arith)

size_bound : (h : RelayHead) (behind : List ℕ) → length h.digest ≡ 4 → length (laid_out h behind) ≡ 11 + length behind
size_bound h behind four =
    let all : length (front_of h ++ behind) ≡ length (front_of h) + length behind = length-append (front_of h) behind in
    let digest : length (h.digest ++ to_be_bytes w16 h.length) ≡ length h.digest + 2 =
    length-append h.digest (to_be_bytes w16 h.length) in
    let front : length (front_of h) ≡ 11 = omega arith in
    omega arith

pub body_read : (body : List ℕ) (head : RelayHead) (payload : List ℕ) → SpellsBody body head payload
    → (fits_length body ≡ true) × (relay_head body ≡ head) × (payload_of body ≡ payload)
unfolding fits_length payload_of
body_read body head payload spells =
    let behind = payload ++ spells.padding in
    let text : body ≡ laid_out head behind = spells.spelling ∙ append_assoc (front_of head) payload spells.padding in
    let more = length-append payload spells.padding in
    let long : 509 ≡ 11 + length behind = sym spells.whole ∙ ap length text ∙ size_bound head behind spells.four in
    let short : head.length ≤ 498 = omega (arith, spells.told) in
    let read = head_read-at head.command head.recognized head.stream head.length head.digest behind spells.four
    spells.recognized_fits spells.stream_fits (omega arith) in
    let is_head : relay_head body ≡ head = ap relay_head text ∙ read.0 in (
      ap (λ h. leb h.length 498) is_head ∙ le-leb head.length 498 short,
      is_head,
      ap (λ h. take h.length (drop 11 body)) is_head
          ∙ ap (take head.length) (ap (drop 11) text ∙ read.1)
          ∙ take_at payload spells.padding head.length spells.told,
    )

body_at : (body : List ℕ) → IsBytes body → length body ≡ 509 → (relay_head body).length ≤ 498
    → SpellsBody body (relay_head body) (payload_of body)
unfolding relay_head payload_of
body_at (a ∷ b ∷ c ∷ d ∷ e ∷ f ∷ g ∷ h ∷ i ∷ j ∷ k ∷ rest) fits whole short =
    let body = a ∷ b ∷ c ∷ d ∷ e ∷ f ∷ g ∷ h ∷ i ∷ j ∷ k ∷ rest in
    let n = from_be_bytes w16 (j ∷ k ∷ []) in
    let recognized = IsBytes-drop 1 body fits in
    let stream = IsBytes-drop 3 body fits in
    let size = IsBytes-drop 9 body fits in
    record {
      padding = drop n rest;
      spelling = ap (λ t. a ∷ b ∷ c ∷ d ∷ e ∷ f ∷ g ∷ h ∷ i ∷ j ∷ k ∷ t) (sym (take-append-drop n rest))
          ∙ ap (λ t. a ∷ t ++ (d ∷ e ∷ f ∷ g ∷ h ∷ i ∷ j ∷ k ∷ (take n rest ++ drop n rest)))
          (sym (two_bytes b c (d ∷ e ∷ f ∷ g ∷ h ∷ i ∷ j ∷ k ∷ rest) recognized))
          ∙ ap (λ t. a ∷ to_be_bytes w16 (from_be_bytes w16 (b ∷ c ∷ [])) ++ t
          ++ (f ∷ g ∷ h ∷ i ∷ j ∷ k ∷ (take n rest ++ drop n rest)))
          (sym (two_bytes d e (f ∷ g ∷ h ∷ i ∷ j ∷ k ∷ rest) stream))
          ∙ ap (λ t. a ∷ to_be_bytes w16 (from_be_bytes w16 (b ∷ c ∷ [])) ++ to_be_bytes w16 (from_be_bytes w16 (d ∷ e ∷ []))
          ++ (f ∷ g ∷ h ∷ i ∷ []) ++ t ++ (take n rest ++ drop n rest)) (sym (two_bytes j k rest size));
      recognized_fits = two_fit b c (d ∷ e ∷ f ∷ g ∷ h ∷ i ∷ j ∷ k ∷ rest) recognized;
      stream_fits = two_fit d e (f ∷ g ∷ h ∷ i ∷ j ∷ k ∷ rest) stream;
      four = refl;
      told = length-take-le n rest (omega arith);
      whole = whole;
    }
body_at _ fits whole short = absurd (omega arith)

pub body_spelled : (body : List ℕ) → IsBytes body → length body ≡ 509 → fits_length body ≡ true
    → SpellsBody body (relay_head body) (payload_of body)
unfolding fits_length
body_spelled body fits whole short = body_at body fits whole (leb-true _ _ short)
