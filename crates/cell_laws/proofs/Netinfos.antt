-- NETINFO is read as it is spelled.
use Rattle.std.proofs.Common.{◌≡◌, ◌↔◌, ℕ, zero, suc, ◌+◌, ◌-◌, ◌≤◌, true, false, not, ◌&&◌, Some, List, [], ◌∷◌, ◌++◌, length, take, drop, ap, sym, refl, subst, ◌∙◌, arith, append_assoc, length-append, length-drop, inl, inr}
use Rattle.std.specs.Prelude.{nat_eq, nat_lt, option_and_then, is_some}
use Rattle.std.specs.List.{flat_map, AllByRecursion}
use Rattle.std.proofs.lemmas.Bool.{le-ltb, ltb-false, eqb-true, eq-eqb, or_parts, or_from, cases_Bool, not_from_true, not-false}
use Rattle.std.proofs.lemmas.List.{drop_at, take-append-drop, length-take-le}
use Rattle.std.proofs.lemmas.Option.{none-some, same_Some}
use Rattle.tor_spec.specs.Netinfo.{has_wrong_length, behind_address, behind_addresses, behind_list, is_netinfo, silent_netinfo}
use Rattle.cell_laws.specs.Netinfo.{HostAddress, address_bytes, IsAddress, SpellsNetinfo}
use Rattle.cell_laws.proofs.Options.{then_some, unless_some, some_there}

-- An address of one type has one length.
allowed : (kind size type want : ℕ) → (kind ≡ type → size ≡ want) → (nat_eq kind type && not (nat_eq size want)) ≡ false
allowed kind size type want right = elim (cases_Bool (nat_eq kind type)) [
  | inl same ↦ ap (λ b. b && not (nat_eq size want)) same
      ∙ not_from_true (nat_eq size want) (eq-eqb size want (right (eqb-true kind type same)))
  | inr other ↦ ap (λ b. b && not (nat_eq size want)) other
]

has_length : (kind size type want : ℕ) → (nat_eq kind type && not (nat_eq size want)) ≡ false → kind ≡ type → size ≡ want
has_length kind size type want free same =
    let is : not (nat_eq size want) ≡ false = sym (ap (λ b. b && not (nat_eq size want)) (eq-eqb kind type same)) ∙ free in
    eqb-true size want (not-false (nat_eq size want) is)

address_read-at : (kind size : ℕ) (value more : List ℕ) → size ≡ length value → has_wrong_length kind size ≡ false
    → behind_address (kind ∷ size ∷ (value ++ more)) ≡ Some more
unfolding behind_address
address_read-at kind size value more is right =
    let long : length (value ++ more) ≡ length value + length more = length-append value more in
    let place : 2 + size ≡ suc (suc size) = omega arith in
    rw (
      le-ltb (suc (suc (length (value ++ more)))) 2 (omega arith),
      right,
      le-ltb (suc (suc (length (value ++ more)))) (2 + size) (omega arith),
      place,
    )
    (ap Some (drop_at value more size (sym is)))

address_read : (a : HostAddress) (more : List ℕ) → IsAddress a → behind_address (address_bytes a ++ more) ≡ Some more
address_read a more is =
    address_read-at a.kind (length a.value) a.value more refl
    (or_from _ _ (allowed a.kind (length a.value) 4 4 is.ipv4) (allowed a.kind (length a.value) 6 16 is.ipv6))

-- An address in front of bytes, and what is behind it.
record InFront (bytes more : List ℕ) : Type 0 where
  pub address : HostAddress
  pub spelling : bytes ≡ address_bytes address ++ more
  pub is : IsAddress address

front_at : (kind size : ℕ) (rest : List ℕ) → has_wrong_length kind size ≡ false → size ≤ length rest
    → InFront (kind ∷ size ∷ rest) (drop size rest)
front_at kind size rest right within =
    let long : length (take size rest) ≡ size = length-take-le size rest within in
    let tests = or_parts _ _ right in
    record {
      address = record { kind = kind; value = take size rest };
      spelling = cc (take-append-drop size rest, long);
      is = record {
        ipv4 = λ same. long ∙ has_length kind size 4 4 tests.0 same;
        ipv6 = λ same. long ∙ has_length kind size 6 16 tests.1 same;
      };
    }

front_found : (bytes more : List ℕ) → behind_address bytes ≡ Some more → InFront bytes more
unfolding behind_address
front_found [] more e = absurd (none-some more e)
front_found (kind ∷ []) more e = absurd (none-some more e)
front_found (kind ∷ size ∷ rest) more e =
    let some = unless_some (nat_lt (suc (suc (length rest))) 2) _ more e in
    let right = unless_some (has_wrong_length kind size) _ more some.1 in
    let whole = unless_some (nat_lt (suc (suc (length rest))) (2 + size)) _ more right.1 in
    let within : 2 + size ≤ suc (suc (length rest)) = ltb-false _ _ whole.0 in
    let place : 2 + size ≡ suc (suc size) = omega arith in
    let is : drop (2 + size) (kind ∷ size ∷ rest) ≡ more = same_Some _ _ whole.1 in
    subst (InFront (kind ∷ size ∷ rest)) (sym (ap (λ n. drop n (kind ∷ size ∷ rest)) place) ∙ is)
    (front_at kind size rest right.0 (omega arith))

addresses_read : (own : List HostAddress) (more : List ℕ) → AllByRecursion IsAddress own
    → behind_addresses (length own) (flat_map address_bytes own ++ more) ≡ Some more
unfolding behind_addresses
addresses_read [] more each = refl
addresses_read (a ∷ own) more each =
    ap (behind_addresses (suc (length own))) (append_assoc (address_bytes a) (flat_map address_bytes own) more)
    ∙ ap (option_and_then (behind_addresses (length own))) (address_read a (flat_map address_bytes own ++ more) each.0)
    ∙ addresses_read own more each.1

-- As many addresses, and what is behind them.
record AllInFront (n : ℕ) (bytes more : List ℕ) : Type 0 where
  pub own : List HostAddress
  pub count : length own ≡ n
  pub spelling : bytes ≡ flat_map address_bytes own ++ more
  pub each : AllByRecursion IsAddress own

addresses_found : (n : ℕ) (bytes more : List ℕ) → behind_addresses n bytes ≡ Some more → AllInFront n bytes more
unfolding behind_addresses
addresses_found zero bytes more e = record { own = []; count = refl; spelling = same_Some bytes more e; each = tt }
addresses_found (suc n) bytes more e =
    let first = then_some (behind_addresses n) (behind_address bytes) more e in
    let front = front_found bytes first.0 first.1 in
    let later = addresses_found n first.0 more first.2 in
    record {
      own = front.address ∷ later.own;
      count = ap suc later.count;
      spelling = front.spelling ∙ ap (λ b. address_bytes front.address ++ b) later.spelling
          ∙ sym (append_assoc (address_bytes front.address) (flat_map address_bytes later.own) more);
      each = (front.is, later.each);
    }

netinfo_read-at : (time : List ℕ) (other : HostAddress) (own : List HostAddress) (padding : List ℕ) → length time ≡ 4
    → IsAddress other → AllByRecursion IsAddress own
    → is_netinfo (time ++ address_bytes other ++ length own ∷ flat_map address_bytes own ++ padding) ≡ true
unfolding is_netinfo behind_list
netinfo_read-at (a ∷ b ∷ c ∷ d ∷ []) other own padding four other_is own_are =
    let list = length own ∷ flat_map address_bytes own in
    ap (λ bytes. is_some (option_and_then behind_list (behind_address bytes))) (append_assoc (address_bytes other) list padding)
    ∙ ap (λ found. is_some (option_and_then behind_list found)) (address_read other (list ++ padding) other_is)
    ∙ ap (λ found. is_some found) (addresses_read own padding own_are)
netinfo_read-at _ other own padding four other_is own_are = absurd (omega arith)

-- The list of the sender's own addresses.
record ListInFront (bytes more : List ℕ) : Type 0 where
  pub own : List HostAddress
  pub spelling : bytes ≡ length own ∷ flat_map address_bytes own ++ more
  pub each : AllByRecursion IsAddress own

list_found : (bytes more : List ℕ) → behind_list bytes ≡ Some more → ListInFront bytes more
unfolding behind_list
list_found [] more e = absurd (none-some more e)
list_found (n ∷ bytes) more e =
    let all = addresses_found n bytes more e in
    record {
      own = all.own;
      spelling = cc (all.count, all.spelling);
      each = all.each;
    }

long_enough : (payload : List ℕ) (kind size : ℕ) (rest : List ℕ) → drop 4 payload ≡ kind ∷ size ∷ rest → 4 ≤ length payload
long_enough payload kind size rest e =
    let left : length payload - 4 ≡ suc (suc (length rest)) = sym (length-drop 4 payload) ∙ ap length e in
    omega arith

netinfo_spelled : (payload : List ℕ) → is_netinfo payload ≡ true → SpellsNetinfo payload
unfolding is_netinfo
netinfo_spelled payload e =
    let there = some_there (option_and_then behind_list (behind_address (drop 4 payload))) e in
    let first = then_some behind_list (behind_address (drop 4 payload)) there.0 there.1 in
    let other = front_found (drop 4 payload) first.0 first.1 in
    let own = list_found first.0 there.0 first.2 in
    let list = length own.own ∷ flat_map address_bytes own.own in
    record {
      time = take 4 payload;
      other = other.address;
      own = own.own;
      padding = there.0;
      spelling = sym (take-append-drop 4 payload)
          ∙ ap (λ b. take 4 payload ++ b) (other.spelling ∙ ap (λ b. address_bytes other.address ++ b) own.spelling)
          ∙ sym (append_assoc (take 4 payload) (address_bytes other.address) (list ++ there.0))
          ∙ sym (append_assoc (take 4 payload ++ address_bytes other.address) list there.0);
      four = length-take-le 4 payload (long_enough payload _ _ _ other.spelling);
      other_is = other.is;
      own_are = own.each;
    }

pub netinfo_law : (payload : List ℕ) → SpellsNetinfo payload ↔ (is_netinfo payload ≡ true)
netinfo_law payload = (
  λ spells. ap is_netinfo spells.spelling
      ∙ netinfo_read-at spells.time spells.other spells.own spells.padding spells.four spells.other_is spells.own_are,
  netinfo_spelled payload,
)

pub silent_is_netinfo : is_netinfo silent_netinfo.payload ≡ true
unfolding is_netinfo behind_address behind_list behind_addresses
silent_is_netinfo = refl
