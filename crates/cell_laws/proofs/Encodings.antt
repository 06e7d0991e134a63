-- What has a cell's encoding is read as that cell, so no encoding begins another.
use Rattle.std.proofs.Common.{ℕ, ◌≡◌, ◌+◌, ◌++◌, List, length, drop, Bool, true, false, refl, sym, ap, ◌∙◌, arith, length-append, Some}
use Rattle.std.proofs.lemmas.List.{take_at, drop_at}
use Rattle.std.proofs.lemmas.Nat.{from_be_bytes-to_be_bytes_2, from_be_bytes-to_be_bytes_4}
use Rattle.std.proofs.lemmas.Option.{some_pair_parts}
use Rattle.tor_spec.specs.CellEncoding.{WireCell, is_variable, encoding}
use Rattle.tor_spec.specs.CellReading.{cell_size, cell_of, cell_at}
use Rattle.tor_spec.specs.CellStream.{IsCell}
use Rattle.tor_spec.proofs.CellSizes.{TellsVariable, TellsFixed, size_variable, size_fixed}
use Rattle.tor_spec.proofs.CellCuts.{cell_ended}

pub same_cell : {x x' y y' : ℕ} {z z' : List ℕ} → x ≡ x' → y ≡ y' → z ≡ z'
    → ◌≡◌ {A = WireCell} (record { circuit = x; command = y; payload = z }) (record { circuit = x'; command = y'; payload = z' })
same_cell p q r = rw (p, q, r) refl

-- An encoding is as long as its head tells.
long_variable : (c : WireCell) → is_variable c.command ≡ true → length (encoding c) ≡ 7 + length c.payload
long_variable c v = rw v (omega arith)

long_fixed : (c : WireCell) → is_variable c.command ≡ false → length (encoding c) ≡ 5 + length c.payload
long_fixed c f = rw f (omega arith)

variable_told : (c : WireCell) (more : List ℕ) → IsCell c → is_variable c.command ≡ true
    → TellsVariable (encoding c ++ more) (length (encoding c))
variable_told c more is v =
    let all : length (encoding c ++ more) ≡ length (encoding c) + length more = length-append (encoding c) more in
    let own = long_variable c v in
    record {
      variable = v;
      long = omega arith;
      size = rw v (ap (λ n. 7 + n) (from_be_bytes-to_be_bytes_2 (length c.payload) is.variable) ∙ sym (rw v at own));
    }

fixed_told : (c : WireCell) (more : List ℕ) → IsCell c → is_variable c.command ≡ false
    → TellsFixed (encoding c ++ more) (length (encoding c))
fixed_told c more is f =
    let all : length (encoding c ++ more) ≡ length (encoding c) + length more = length-append (encoding c) more in
    let own = long_fixed c f in
    let fixed = is.fixed f in
    record {
      fixed = f;
      long = omega arith;
      size = omega arith;
    }

size_at : (c : WireCell) (more : List ℕ) → IsCell c → (v : Bool) → is_variable c.command ≡ v
    → cell_size (encoding c ++ more) ≡ Some (length (encoding c))
size_at c more is true v = size_variable (encoding c ++ more) (length (encoding c)) (variable_told c more is v)
size_at c more is false f = size_fixed (encoding c ++ more) (length (encoding c)) (fixed_told c more is f)

read_at : (c : WireCell) → IsCell c → (v : Bool) → is_variable c.command ≡ v → cell_of (encoding c) ≡ c
unfolding cell_of
read_at c is true v = same_cell (from_be_bytes-to_be_bytes_4 c.circuit is.circuit) refl (rw v refl)
read_at c is false f = same_cell (from_be_bytes-to_be_bytes_4 c.circuit is.circuit) refl (rw f refl)

-- A cell's encoding is read as that cell, whatever follows it.
pub cell_again : (c : WireCell) (more : List ℕ) → IsCell c → cell_at (encoding c ++ more) ≡ Some (c, more)
cell_again c more is =
    let n = length (encoding c) in
    let all : length (encoding c ++ more) ≡ n + length more = length-append (encoding c) more in
    cell_ended (encoding c ++ more) n (size_at c more is (is_variable c.command) refl) (omega arith)
    ∙ ap (λ t. Some (cell_of t, drop n (encoding c ++ more))) (take_at (encoding c) more n refl)
    ∙ ap (λ d. Some (cell_of (encoding c), d)) (drop_at (encoding c) more n refl)
    ∙ ap (λ d. Some (d, more)) (read_at c is (is_variable c.command) refl)

-- No encoding of a cell begins another.
pub encodings_apart : (c d : WireCell) (x y : List ℕ) → IsCell c → IsCell d → encoding c ++ x ≡ encoding d ++ y
    → (c ≡ d) × (x ≡ y)
encodings_apart c d x y i j h = some_pair_parts c d x y (sym (cell_again c x i) ∙ ap cell_at h ∙ cell_again d y j)
