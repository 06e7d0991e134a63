-- How what stands for a circuit's window goes on.
use Rattle.std.proofs.Common.{◌≡◌, ◌≢◌, ℕ, ◌+◌, ◌-◌, ◌/◌, ◌%◌, ◌≤◌, [], ◌∷◌, ◌++◌, List, length, drop, take, ap, sym, ◌∙◌, arith, length-append, length-drop}
use Rattle.std.proofs.lemmas.List.{take-append-le, drop-take}
use Rattle.tor_spec.specs.CircuitWindow.{CircuitWindow, proofs, after_packaging, after_acknowledging, after_accepting}
use Rattle.tor_spec.proofs.CircuitWindows.{owed_more, owed_same, owed_less}
use Rattle.sendme_windows.specs.WindowsState.{WindowsState, HasCountsOf}

-- One more DATA cell, the 100th of its hundred.
pub packed_due : (s : WindowsState) (w : CircuitWindow) (digest : List ℕ) (calls : ℕ) (more : List (List ℕ)) → HasCountsOf s w
    → (s.packed + 1) % 100 ≡ 0 → s.good ≤ s.packed / 100 → more ≡ s.owed_proofs ++ digest ∷ []
    → HasCountsOf (record s { calls = calls; packed = s.packed + 1; owed_proofs = more }) (after_packaging w digest)
packed_due s w digest calls more stands due behind grown =
    let count : s.packed ≡ length w.packaged = stands.packed in
    let good : s.good ≡ w.acknowledged = stands.good in
    record {
      packed = omega (arith, length-append w.packaged (digest ∷ []));
      good = stands.good;
      accepted = stands.accepted;
      owed_proofs =
          grown ∙ ap (λ (o : List (List ℕ)). o ++ digest ∷ []) stands.owed_proofs
          ∙ sym (owed_more w digest (rw count at due) (rw (good, count) at behind));
    }

-- One more DATA cell that isn't.
pub packed_other : (s : WindowsState) (w : CircuitWindow) (digest : List ℕ) (calls : ℕ) → HasCountsOf s w
    → (s.packed + 1) % 100 ≢ 0
    → HasCountsOf (record s { calls = calls; packed = s.packed + 1 }) (after_packaging w digest)
packed_other s w digest calls stands other =
    let count : s.packed ≡ length w.packaged = stands.packed in
    record {
      packed = omega (arith, length-append w.packaged (digest ∷ []));
      good = stands.good;
      accepted = stands.accepted;
      owed_proofs = stands.owed_proofs ∙ sym (owed_same w digest (rw count at other));
    }

-- A good proof is paid for.
pub proved : (s : WindowsState) (w : CircuitWindow) (calls : ℕ) (fewer : List (List ℕ)) → HasCountsOf s w
    → fewer ≡ drop 1 s.owed_proofs
    → HasCountsOf (record s { calls = calls; good = s.good + 1; owed_proofs = fewer }) (after_acknowledging w)
proved s w calls fewer stands paid = record {
  packed = stands.packed;
  good = ap (λ n. n + 1) stands.good;
  accepted = stands.accepted;
  owed_proofs = paid ∙ ap (λ (o : List (List ℕ)). drop 1 o) stands.owed_proofs ∙ sym (owed_less w);
}

-- The queue with its first place turned to the end.
pub turned : (n : ℕ) (xs : List (List ℕ)) → 1 ≤ n → n ≤ length xs → take (n - 1) (drop 1 xs ++ take 1 xs) ≡ drop 1 (take n xs)
turned n xs some within =
    let front : n - 1 ≤ length (drop 1 xs) = omega (arith, length-drop 1 xs) in
    let whole : 1 + (n - 1) ≡ n = omega arith in
    take-append-le (n - 1) (drop 1 xs) (take 1 xs) front ∙ sym (rw whole at (drop-take 1 (n - 1) xs))

-- One more DATA cell of the other side.
pub one_accepted : (s : WindowsState) (w : CircuitWindow) (calls : ℕ) → HasCountsOf s w
    → HasCountsOf (record s { calls = calls; accepted = s.accepted + 1 }) (after_accepting w)
unfolding proofs
one_accepted s w calls stands = record {
  packed = stands.packed;
  good = stands.good;
  accepted = ap (λ n. n + 1) stands.accepted;
  owed_proofs = stands.owed_proofs;
}
