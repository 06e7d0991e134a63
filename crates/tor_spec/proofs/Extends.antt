-- Reading link specifiers one by one.
use Rattle.std.proofs.Common.{◌≡◌, ◌≤◌, ℕ, Bool, true, false, cond, Option, Some, None, List, [], ◌∷◌, suc, refl, ap, sym, ◌<◌, ◌-◌, ◌+◌, arith, ◌∙◌, nat_eq}
use Rattle.std.specs.Prelude.{option_map, option_and_then, find}
use Rattle.std.specs.Option.{option_or}
use Rattle.tor_spec.specs.Extend.{Address, Specifier, specifier, specifiers, put_before, specified_address, first_address, destination}

-- a destination behind specifiers that lead to `to`
abbrev pub behind_earlier : Option Address → Option (Option Address × List ℕ) → Option (Option Address × List ℕ)
behind_earlier to later = option_map (λ read. (option_or to read.0, read.1)) later

pub behind_none : (later : Option (Option Address × List ℕ)) → behind_earlier None later ≡ later
behind_none None = refl
behind_none (Some read) = refl

-- no specifier is left
pub destination-zero : (to : Option Address) (bytes : List ℕ) → behind_earlier to (destination 0 bytes) ≡ Some (to, bytes)
unfolding destination specifiers first_address
destination-zero None bytes = refl
destination-zero (Some address) bytes = refl

addressed_first : (to : Option Address) (s : Specifier) (is_address : Bool) (later : Option Specifier)
    → option_or to (option_map specified_address (cond is_address (Some s) later))
    ≡ option_or (option_or to (option_map specified_address (cond is_address (Some s) None))) (option_map specified_address later)
addressed_first (Some address) s b later = refl
addressed_first None s true later = refl
addressed_first None s false later = refl

merged : (to : Option Address) (s : Specifier) (later : Option (List Specifier × List ℕ))
    → behind_earlier to (option_map (λ read. (first_address read.0, read.1)) (option_map (put_before s) later))
    ≡ behind_earlier (option_or to (first_address (s ∷ []))) (option_map (λ read. (first_address read.0, read.1)) later)
unfolding first_address
merged to s None = refl
merged to s (Some read) =
    ap (λ (a : Option Address). Some (a, read.1)) (addressed_first to s (nat_eq s.kind 0) (find (λ s. nat_eq s.kind 0) read.0))

-- one specifier is read
pub destination-more : (to : Option Address) (n : ℕ) (bytes : List ℕ) (s : Specifier) (rest : List ℕ)
    → specifier bytes ≡ Some (s, rest)
    → behind_earlier to (destination (suc n) bytes) ≡ behind_earlier (option_or to (first_address (s ∷ []))) (destination n rest)
unfolding destination specifiers
destination-more to n bytes s rest e =
    ap (λ found. behind_earlier to (option_map (λ read. (first_address read.0, read.1))
    (option_and_then (λ read. option_map (put_before read.0) (specifiers n read.1)) found))) e
    ∙ merged to s (specifiers n rest)

-- no specifier is there
pub destination-none : (to : Option Address) (n : ℕ) (bytes : List ℕ) → specifier bytes ≡ None
    → behind_earlier to (destination (suc n) bytes) ≡ None
unfolding destination specifiers
destination-none to n bytes e =
    ap (λ found. behind_earlier to (option_map (λ read. (first_address read.0, read.1))
    (option_and_then (λ read. option_map (put_before read.0) (specifiers n read.1)) found))) e

option_map-option_or : {X Y : Type 0} (f : X → Y) (a b : Option X)
    → option_map f (option_or a b) ≡ option_or (option_map f a) (option_map f b)
option_map-option_or f None b = refl
option_map-option_or f (Some x) b = refl

-- a step of a loop over the specifiers
pub destination_step : {X : Type 0} (f : X → Address) (to address next : Option X) (count i : ℕ) (bytes : List ℕ) (s : Specifier)
    (rest : List ℕ)
    → i < count → specifier bytes ≡ Some (s, rest) → option_map f address ≡ first_address (s ∷ []) → next ≡ option_or to address
    → behind_earlier (option_map f to) (destination (count - i) bytes) ≡ behind_earlier (option_map f next)
    (destination (count - (i + 1)) rest)
destination_step f to address next count i bytes s rest more read found is =
    let left : count - i ≡ suc (count - (i + 1)) = omega arith in
    ap (λ n. behind_earlier (option_map f to) (destination n bytes)) left
    ∙ destination-more (option_map f to) (count - (i + 1)) bytes s rest read
    ∙ ap (λ a. behind_earlier (option_or (option_map f to) a) (destination (count - (i + 1)) rest)) (sym found)
    ∙ ap (λ a. behind_earlier a (destination (count - (i + 1)) rest)) (sym (option_map-option_or f to address))
    ∙ ap (λ a. behind_earlier (option_map f a) (destination (count - (i + 1)) rest)) (sym is)

-- the loop finds no specifier
pub destination_stop : (to : Option Address) (count i : ℕ) (bytes : List ℕ) → i < count → specifier bytes ≡ None
    → behind_earlier to (destination (count - i) bytes) ≡ None
destination_stop to count i bytes more read =
    let left : count - i ≡ suc (count - (i + 1)) = omega arith in
    ap (λ n. behind_earlier to (destination n bytes)) left ∙ destination-none to (count - (i + 1)) bytes read

-- the loop is over
pub destination_done : (to : Option Address) (count i : ℕ) (bytes : List ℕ) → count ≤ i
    → behind_earlier to (destination (count - i) bytes) ≡ Some (to, bytes)
destination_done to count i bytes over =
    let left : count - i ≡ 0 = omega arith in
    ap (λ n. behind_earlier to (destination n bytes)) left ∙ destination-zero to bytes
