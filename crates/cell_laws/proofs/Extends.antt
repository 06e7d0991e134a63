-- EXTEND2 is read as it is spelled.
use Rattle.std.proofs.Common.{◌≡◌, ◌≢◌, ◌↔◌, ℕ, zero, suc, ◌+◌, ◌^◌, ◌<◌, ◌≤◌, Bool, true, false, cond, ◌&&◌, leb, Option, Some, None, List, [], ◌∷◌, ◌++◌, length, take, drop, ap, sym, refl, subst, ◌∙◌, arith, append_assoc, length-append, length-drop}
use Rattle.std.specs.Prelude.{nat_eq, option_map, option_and_then, find}
use Rattle.std.specs.List.{flat_map, AllByRecursion}
use Rattle.std.specs.Int.{w16, to_be_bytes, from_be_bytes}
use Rattle.std.proofs.lemmas.Bool.{le-leb, leb-true, eqb-true, eqb-false, eq-eqb, ne_eqb, and_parts, cond_both}
use Rattle.std.proofs.lemmas.List.{take_at, drop_at, take-append-drop, length-take-le}
use Rattle.std.proofs.lemmas.Nat.{from_be_bytes-to_be_bytes_2, be_bytes_2}
use Rattle.std.proofs.lemmas.Option.{none-some, same_Some, cond_some}
use Rattle.tor_spec.specs.CellStream.{IsBytes}
use Rattle.tor_spec.specs.Extend.{Address, Extend, Specifier, is_specifier_length, specifier, specifiers, put_before, specified_address, first_address, destination, handshake_request, make_extend, request_behind, extend_request}
use Rattle.cell_laws.specs.Extends.{specifier_bytes, IsSpecifier, NoAddress, FirstAddress, LeadsTo, SpellsExtend}
use Rattle.cell_laws.specs.Payloads.{SpellsRequest}
use Rattle.cell_laws.proofs.Bytes.{IsBytes-drop, IsBytes-left, IsBytes-right, two_fit}
use Rattle.cell_laws.proofs.Options.{then_some, map_some}
use Rattle.cell_laws.proofs.Payloads.{request_read, request_spelled}

-- Link specifiers: what is spelled is read.

right_length : (s : Specifier) → IsSpecifier s → is_specifier_length s.kind (length s.value) ≡ true
unfolding is_specifier_length
right_length s is =
    let n = length s.value in
    cond_both (nat_eq s.kind 0) (nat_eq n 6) _ (λ b. b ≡ true) (λ e. eq-eqb n 6 (is.ipv4 (eqb-true s.kind 0 e)))
    (λ _. cond_both (nat_eq s.kind 1) (nat_eq n 18) _ (λ b. b ≡ true) (λ e. eq-eqb n 18 (is.ipv6 (eqb-true s.kind 1 e)))
    (λ _. cond_both (nat_eq s.kind 2) (nat_eq n 20) _ (λ b. b ≡ true)
    (λ e. eq-eqb n 20 (is.legacy_identity (eqb-true s.kind 2 e)))
    (λ _. cond_both (nat_eq s.kind 3) (nat_eq n 32) true (λ b. b ≡ true)
    (λ e. eq-eqb n 32 (is.ed25519_identity (eqb-true s.kind 3 e)))
    (λ _. refl))))

found_there : (kind : ℕ) (v w x y : List ℕ) → v ≡ w → x ≡ y
    → ◌≡◌ {A = Option (Specifier × List ℕ)} (Some (record { kind = kind; value = v }, x))
    (Some (record { kind = kind; value = w }, y))
found_there kind v w x y e f = cc

specifier_read : (s : Specifier) (more : List ℕ) → IsSpecifier s → specifier (specifier_bytes s ++ more) ≡ Some (s, more)
unfolding specifier
specifier_read s more is =
    let n = length s.value in
    let rest = s.value ++ more in
    let long : length rest ≡ n + length more = length-append s.value more in
    let read : Option (Specifier × List ℕ) = Some (record { kind = s.kind; value = take n rest }, drop n rest) in
    ap (λ b. cond (b && leb n (length rest)) read None) (right_length s is)
    ∙ ap (λ b. cond b read None) (le-leb n (length rest) (omega arith))
    ∙ found_there s.kind (take n rest) s.value (drop n rest) more (take_at s.value more n refl) (drop_at s.value more n refl)

specifiers_read : (found : List Specifier) (more : List ℕ) → AllByRecursion IsSpecifier found
    → specifiers (length found) (flat_map specifier_bytes found ++ more) ≡ Some (found, more)
unfolding specifiers
specifiers_read [] more each = refl
specifiers_read (s ∷ found) more each =
    ap (specifiers (suc (length found))) (append_assoc (specifier_bytes s) (flat_map specifier_bytes found) more)
    ∙ ap (option_and_then (λ read. option_map (put_before read.0) (specifiers (length found) read.1)))
    (specifier_read s (flat_map specifier_bytes found ++ more) each.0)
    ∙ ap (option_map (put_before s)) (specifiers_read found more each.1)

-- The first address among them.

abbrev is_address : Specifier → Bool
is_address s = nat_eq s.kind 0

none_found : (found : List Specifier) → NoAddress found → find is_address found ≡ None
none_found [] none = refl
none_found (s ∷ found) none =
    ap (λ b. cond b (Some s) (find is_address found)) (ne_eqb s.kind 0 none.0) ∙ none_found found none.1

found_behind : (before : List Specifier) (s : Specifier) (behind : List Specifier) → NoAddress before → s.kind ≡ 0
    → find is_address (before ++ s ∷ behind) ≡ Some s
found_behind [] s behind none kind = ap (λ b. cond b (Some s) (find is_address behind)) (eq-eqb s.kind 0 kind)
found_behind (other ∷ before) s behind none kind =
    ap (λ b. cond b (Some other) (find is_address (before ++ s ∷ behind))) (ne_eqb other.kind 0 none.0)
    ∙ found_behind before s behind none.1 kind

address_at : (ip : List ℕ) (port : ℕ) → length ip ≡ 4 → port < 2 ^ 16
    → ◌≡◌ {A = Address}
    (record { ip = take 4 (ip ++ to_be_bytes w16 port); port = from_be_bytes w16 (drop 4 (ip ++ to_be_bytes w16 port)) })
    (record { ip = ip; port = port })
address_at (a ∷ b ∷ c ∷ d ∷ []) port four fits =
    ap (λ (n : ℕ). record { ip = a ∷ b ∷ c ∷ d ∷ []; port = n }) (from_be_bytes-to_be_bytes_2 port fits)
address_at _ port four fits = absurd (omega arith)

leads_read : (found : List Specifier) (to : Option Address) → LeadsTo found to → first_address found ≡ to
unfolding first_address specified_address
leads_read found None none = ap (option_map specified_address) (none_found found none)
leads_read found (Some to) first =
    ap (λ l. option_map specified_address (find is_address l)) first.place
    ∙ ap (option_map specified_address) (found_behind first.before first.specifier first.after first.first first.kind)
    ∙ ap (λ v. Some (record { ip = take 4 v; port = from_be_bytes w16 (drop 4 v) })) first.value
    ∙ ap Some (address_at to.ip to.port first.four first.port_fits)

extend_read-at : (found : List Specifier) (rest : List ℕ) (to : Option Address) (t : ℕ) (h : List ℕ)
    → AllByRecursion IsSpecifier found
    → LeadsTo found to → SpellsRequest rest t h
    → extend_request (length found ∷ flat_map specifier_bytes found ++ rest)
    ≡ Some (record { to = to; handshake_type = t; handshake = h })
unfolding extend_request destination request_behind
extend_read-at found rest to t h each leads spells =
    ap (λ read. option_and_then request_behind (option_map (λ read. (first_address read.0, read.1)) read))
    (specifiers_read found rest each)
    ∙ ap (λ a. option_map (make_extend a) (handshake_request rest)) (leads_read found to leads)
    ∙ ap (option_map (make_extend to)) (request_read rest t h spells)

-- Link specifiers: what is read is spelled.

told_length : (kind size type want : ℕ) → (is_specifier_length kind size ≡ true) → kind ≡ type
    → is_specifier_length type size ≡ nat_eq size want → size ≡ want
told_length kind size type want right same tells =
    eqb-true size want (sym tells ∙ sym (ap (λ k. is_specifier_length k size) same) ∙ right)

is_specifier : (kind : ℕ) (value : List ℕ) (size : ℕ) → length value ≡ size → is_specifier_length kind size ≡ true
    → IsSpecifier (record { kind = kind; value = value })
unfolding is_specifier_length
is_specifier kind value size long right = record {
  ipv4 = λ same. long ∙ told_length kind size 0 6 right same refl;
  ipv6 = λ same. long ∙ told_length kind size 1 18 right same refl;
  legacy_identity = λ same. long ∙ told_length kind size 2 20 right same refl;
  ed25519_identity = λ same. long ∙ told_length kind size 3 32 right same refl;
}

-- A specifier in front of bytes, and what is behind it.
record InFront (bytes : List ℕ) (s : Specifier) (more : List ℕ) : Type 0 where
  pub spelling : bytes ≡ specifier_bytes s ++ more
  pub is : IsSpecifier s

specifier_found : (bytes : List ℕ) (read : Specifier × List ℕ) → specifier bytes ≡ Some read → InFront bytes read.0 read.1
unfolding specifier
specifier_found [] read e = absurd (none-some read e)
specifier_found (kind ∷ []) read e = absurd (none-some read e)
specifier_found (kind ∷ size ∷ rest) read e =
    let parts = cond_some _ _ _ e in
    let tests = and_parts _ _ parts.0 in
    let within : size ≤ length rest = leb-true _ _ tests.1 in
    let long : length (take size rest) ≡ size = length-take-le size rest within in
    subst (λ (r : Specifier × List ℕ). InFront (kind ∷ size ∷ rest) r.0 r.1) parts.1 (record {
      spelling = cc (take-append-drop size rest, long);
      is = is_specifier kind (take size rest) size long tests.0;
    })

-- As many specifiers, and what is behind them.
record AllInFront (n : ℕ) (bytes : List ℕ) (found : List Specifier) (more : List ℕ) : Type 0 where
  pub count : length found ≡ n
  pub spelling : bytes ≡ flat_map specifier_bytes found ++ more
  pub each : AllByRecursion IsSpecifier found
  pub values : AllByRecursion (λ s. IsBytes s.value) found
  pub behind : IsBytes more

specifiers_found : (n : ℕ) (bytes : List ℕ) (read : List Specifier × List ℕ) → IsBytes bytes → specifiers n bytes ≡ Some read
    → AllInFront n bytes read.0 read.1
unfolding specifiers
specifiers_found zero bytes read fits e =
    subst (λ (r : List Specifier × List ℕ). AllInFront 0 bytes r.0 r.1) (same_Some _ read e)
    (record { count = refl; spelling = refl; each = tt; values = tt; behind = fits })
specifiers_found (suc n) bytes read fits e =
    let first = then_some (λ (r : Specifier × List ℕ). option_map (put_before r.0) (specifiers n r.1)) (specifier bytes) read e in
    let s = first.0.0 in
    let rest = first.0.1 in
    let front = specifier_found bytes first.0 first.1 in
    let later = map_some (put_before s) (specifiers n rest) read first.2 in
    let here : IsBytes (specifier_bytes s ++ rest) = subst IsBytes front.spelling fits in
    let own = specifiers_found n rest later.0 (IsBytes-right (specifier_bytes s) rest here) later.1 in
    subst (λ (r : List Specifier × List ℕ). AllInFront (suc n) bytes r.0 r.1) later.2 (record {
      count = ap suc own.count;
      spelling = front.spelling ∙ ap (λ b. specifier_bytes s ++ b) own.spelling
          ∙ sym (append_assoc (specifier_bytes s) (flat_map specifier_bytes later.0.0) later.0.1);
      each = (front.is, own.each);
      values = (IsBytes-left s.value rest (IsBytes-drop 2 (specifier_bytes s ++ rest) here), own.values);
      behind = own.behind;
    })

two_fit-list : (bytes : List ℕ) → length bytes ≡ 2 → IsBytes bytes → from_be_bytes w16 bytes < 2 ^ 16
two_fit-list (h ∷ l ∷ []) long fits = two_fit h l [] fits
two_fit-list _ long fits = absurd (omega arith)

address_first : (s : Specifier) (found : List Specifier) → IsSpecifier s → IsBytes s.value → s.kind ≡ 0
    → FirstAddress (s ∷ found) (record { ip = take 4 s.value; port = from_be_bytes w16 (drop 4 s.value) })
address_first s found is fits kind =
    let six : length s.value ≡ 6 = is.ipv4 kind in
    let two : length (drop 4 s.value) ≡ 2 = length-drop 4 s.value ∙ omega arith in
    let port_bytes = IsBytes-drop 4 s.value fits in
    record {
      before = [];
      after = found;
      specifier = s;
      place = refl;
      first = tt;
      kind = kind;
      value =
          sym (ap (λ t. take 4 s.value ++ t) (be_bytes_2 (drop 4 s.value) _ two port_bytes refl) ∙ take-append-drop 4 s.value);
      four = length-take-le 4 s.value (omega arith);
      port_fits = two_fit-list (drop 4 s.value) two port_bytes;
    }

leads_behind : (s : Specifier) (found : List Specifier) (to : Option Address) → s.kind ≢ 0 → LeadsTo found to
    → LeadsTo (s ∷ found) to
leads_behind s found None other none = (other, none)
leads_behind s found (Some to) other first = record {
  before = s ∷ first.before;
  after = first.after;
  specifier = first.specifier;
  place = ap (λ l. s ∷ l) first.place;
  first = (other, first.first);
  kind = first.kind;
  value = first.value;
  four = first.four;
  port_fits = first.port_fits;
}

leads_by : (s : Specifier) (found : List Specifier) (b : Bool) → is_address s ≡ b → IsSpecifier s → IsBytes s.value
    → LeadsTo found (option_map specified_address (find is_address found))
    → LeadsTo (s ∷ found) (option_map specified_address (cond b (Some s) (find is_address found)))
unfolding specified_address
leads_by s found true kind is fits later = address_first s found is fits (eqb-true s.kind 0 kind)
leads_by s found false kind is fits later = leads_behind s found _ (eqb-false s.kind 0 kind) later

leads_spelled : (found : List Specifier) → AllByRecursion IsSpecifier found → AllByRecursion (λ s. IsBytes s.value) found
    → LeadsTo found (first_address found)
unfolding first_address
leads_spelled [] each values = tt
leads_spelled (s ∷ found) each values =
    leads_by s found (is_address s) refl each.0 values.0 (leads_spelled found each.1 values.1)

extend_spelled : (payload : List ℕ) (request : Extend) → IsBytes payload → extend_request payload ≡ Some request
    → SpellsExtend payload request
unfolding extend_request destination request_behind
extend_spelled [] request fits e = absurd (none-some request e)
extend_spelled (count ∷ bytes) request fits e =
    let lead : List Specifier × List ℕ → Option Address × List ℕ = λ read. (first_address read.0, read.1) in
    let led = then_some request_behind (destination count bytes) request e in
    let read = map_some lead (specifiers count bytes) led.0 led.1 in
    let made = map_some (make_extend led.0.0) (handshake_request led.0.1) request led.2 in
    let found = read.0.0 in
    let rest = read.0.1 in
    let own = specifiers_found count bytes read.0 (IsBytes-drop 1 (count ∷ bytes) fits) read.1 in
    let to : first_address found ≡ led.0.0 = ap (λ p. p.0) read.2 in
    let behind : rest ≡ led.0.1 = ap (λ p. p.1) read.2 in
    let handshake = request_spelled rest made.0 own.behind (ap handshake_request behind ∙ made.1) in
    subst (SpellsExtend (count ∷ bytes)) made.2 (record {
      found = found;
      rest = rest;
      spelling = cc (own.count, own.spelling);
      specifiers = own.each;
      leads = subst (LeadsTo found) to (leads_spelled found own.each own.values);
      handshake = handshake;
    })

pub extend_law : (payload : List ℕ) (request : Extend) → IsBytes payload
    → SpellsExtend payload request ↔ (extend_request payload ≡ Some request)
extend_law payload request fits = (
  λ spells. ap extend_request spells.spelling
      ∙ extend_read-at spells.found spells.rest request.to request.handshake_type request.handshake spells.specifiers spells.leads
      spells.handshake,
  extend_spelled payload request fits,
)
