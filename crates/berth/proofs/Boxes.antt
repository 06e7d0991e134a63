-- Laws of a box of one note.
use Rattle.std.proofs.Common.{◌≡◌, Bool, true, false, List, [], ◌∷◌, ◌++◌, append_assoc, append-nil, sym, refl, ap, ◌∙◌, subst, Option, Some, None, is_some}
use Rattle.std.specs.Prelude.{⊤, flat_map}
use Rattle.std.proofs.lemmas.Bool.{false≢true, true≢false}
use mathlib.Core.List.{IsPrefix}
use Rattle.berth.specs.declared.note.BerthNote.{BerthNote}
use Rattle.berth.specs.declared.note.BoxStep.{BoxStep}
use Rattle.berth.specs.declared.note.BoxStep.TheVariants.{Put, Take}
use Rattle.berth.specs.Notes.{note_after, note_after_all, IsPutRight, IsRight, AreRight, notes_of, put_by, taken_by}

note_after_all-snoc : (c : Option BerthNote) (h : List BoxStep) (e : BoxStep)
    → note_after_all c (h ++ e ∷ []) ≡ note_after (note_after_all c h) e
note_after_all-snoc c [] e = refl
note_after_all-snoc c (x ∷ xs) e = note_after_all-snoc (note_after c x) xs e

AreRight-snoc : (c : Option BerthNote) (h : List BoxStep) (e : BoxStep) → AreRight c h → IsRight (note_after_all c h) e
    → AreRight c (h ++ e ∷ [])
AreRight-snoc c [] e a r = (r, tt)
AreRight-snoc c (x ∷ xs) e a r = (a.0, AreRight-snoc (note_after c x) xs e a.1 r)

pub last_right : (c : Option BerthNote) (h : List BoxStep) (e : BoxStep) → AreRight c (h ++ e ∷ [])
    → IsRight (note_after_all c h) e
last_right c [] e a = a.0
last_right c (x ∷ xs) e a = last_right (note_after c x) xs e a.1

full_put : (c : Option BerthNote) → is_some c ≡ true → IsPutRight c false
full_put None e = absurd (false≢true e)
full_put (Some n) e = tt

empty_put : (c : Option BerthNote) → is_some c ≡ false → IsPutRight c true
empty_put None e = tt
empty_put (Some n) e = absurd (true≢false e)

abbrev Stands : Option BerthNote → List BoxStep → Type 0
Stands c h = (c ≡ note_after_all None h) × AreRight None h

pub refuses : (c : Option BerthNote) (n : BerthNote) (h : List BoxStep) → is_some c ≡ true → Stands c h
    → Stands c (h ++ Put n false ∷ [])
refuses c n h full s = (
  s.0 ∙ sym (note_after_all-snoc None h (Put n false)),
  AreRight-snoc None h (Put n false) s.1 (subst (λ (x : Option BerthNote). IsPutRight x false) s.0 (full_put c full)),
)

pub lays : (c : Option BerthNote) (n : BerthNote) (h : List BoxStep) → is_some c ≡ false → Stands c h
    → Stands (Some n) (h ++ Put n true ∷ [])
lays c n h empty s = (
  sym (note_after_all-snoc None h (Put n true)),
  AreRight-snoc None h (Put n true) s.1 (subst (λ (x : Option BerthNote). IsPutRight x true) s.0 (empty_put c empty)),
)

pub takes_out : (c d r : Option BerthNote) (h : List BoxStep) → r ≡ c → d ≡ None → Stands c h → Stands d (h ++ Take r ∷ [])
takes_out c d r h same none s = (none ∙ sym (note_after_all-snoc None h (Take r)), AreRight-snoc None h (Take r) s.1 (same ∙ s.0))

one_step : (c : Option BerthNote) (x : BoxStep) → IsRight c x → (ps ts : List BerthNote) (d : Option BerthNote)
    → notes_of (note_after c x) ++ ps ≡ ts ++ notes_of d
    → notes_of c ++ (put_by x ++ ps) ≡ (taken_by x ++ ts) ++ notes_of d
one_step None (Put n true) r ps ts d e = e
one_step None (Put n false) r ps ts d e = absurd r
one_step (Some m) (Put n true) r ps ts d e = absurd r
one_step (Some m) (Put n false) r ps ts d e = e
one_step c (Take a) r ps ts d e =
    ap (λ (x : Option BerthNote). notes_of x ++ ps) (sym r)
    ∙ (ap (λ (l : List BerthNote). notes_of a ++ l) e ∙ sym (append_assoc (notes_of a) ts (notes_of d)))

-- the notes that were put are those that were taken, and then the one that lies there
balance : (c : Option BerthNote) (h : List BoxStep) → AreRight c h
    → notes_of c ++ flat_map put_by h ≡ flat_map taken_by h ++ notes_of (note_after_all c h)
balance c [] a = append-nil (notes_of c)
balance c (x ∷ xs) a =
    one_step c x a.0 (flat_map put_by xs) (flat_map taken_by xs) (note_after_all (note_after c x) xs)
    (balance (note_after c x) xs a.1)

-- so what was taken begins what was put
pub taken_begins : (h : List BoxStep) → AreRight None h → IsPrefix (flat_map taken_by h) (flat_map put_by h)
taken_begins h a = (notes_of (note_after_all None h), sym (balance None h a))
