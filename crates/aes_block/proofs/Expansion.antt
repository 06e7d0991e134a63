-- The key expansion word by word.
use borrow.Rule.Slice.PartMut.{put_mid}
use Rattle.std.proofs.lemmas.Slice.{take-put_mid}
use Rattle.std.proofs.Common.{◌<◌, ◌*◌, length, take, length-append, length-drop, length-take, ◌≡◌, ◌≢◌, ℕ, ◌+◌, ◌-◌, ◌/◌, ◌%◌, List, ◌∷◌, [], ◌++◌, refl, arith, add-one}
use Rattle.std.proofs.lemmas.Bool.Decides.{nat_tests}
use Rattle.crypto_spec.specs.Aes.{add, sub_bytes, rot_word, power_of_x, word, word_change, expanded}

-- three words out of four add the word before them as it is
pub word_change_plain : (i : ℕ) (w : List ℕ) → i % 4 ≢ 0 → word_change i w ≡ w
unfolding word_change
word_change_plain i w h = grind (arith, nat_tests)

-- every fourth word adds the word before it turned and substituted, and a power of x
pub word_change_fourth : (i : ℕ) (w : List ℕ) → i % 4 ≡ 0 →
    word_change i w ≡ add (sub_bytes (rot_word w)) (power_of_x (i / 4 - 1) ∷ 0 ∷ 0 ∷ 0 ∷ [])
unfolding word_change
word_change_fourth i w h = rw h

pub expanded-next : (key : List ℕ) (n : ℕ) →
    expanded key (n + 1) ≡ expanded key n ++ add (word (expanded key n) n) (word_change (n + 4) (word (expanded key n) (n + 3)))
unfolding expanded
expanded-next key n = rw add-one refl

-- a word written after the first n + 4
pub length-word_put : (words new : List ℕ) (n : ℕ) → length words ≡ 176 → length new ≡ 4 → n < 40 →
    length (put_mid (4 * n + 16) (4 * n + 20 - (4 * n + 16)) words new) ≡ 176
length-word_put words new n long four h = simp (length-append, length-drop, length-take) (omega arith)

pub take-word_put : (words new : List ℕ) (n : ℕ) → length words ≡ 176 → length new ≡ 4 → n < 40 →
    take (4 * (n + 1) + 16) (put_mid (4 * n + 16) (4 * n + 20 - (4 * n + 16)) words new) ≡ take (4 * n + 16) words ++ new
take-word_put words new n long four h = take-put_mid (4 * n + 16) _ words new _ (omega arith) (omega arith)
