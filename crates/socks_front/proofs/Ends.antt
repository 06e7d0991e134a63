-- Behind an end no byte changes what was read.
use Rattle.std.proofs.Common.{◌≡◌, ℕ, zero, suc, ◌+◌, ◌≤◌, Bool, true, false, cond, ◌||◌, inl, inr, leb, Option, Some, None, List, [], ◌∷◌, ◌++◌, length, take, drop, refl, ap, sym, ◌∙◌, arith, length-append}
use Rattle.std.specs.Prelude.{nat_eq}
use Rattle.std.specs.List.{list_any}
use Rattle.std.proofs.lemmas.Bool.{le-leb, leb-true, or_cases, or_left, or_right}
use Rattle.std.proofs.lemmas.List.{take-append-le, drop-append-le}
use Rattle.tor_spec.specs.Text.{is_zero_byte}
use Rattle.socks_front.specs.declared.command.SocksCommand.{SocksCommand}
use Rattle.socks_front.specs.declared.fault.SocksFault.TheVariants.{Version, NoMethod, Kind, Host}
use Rattle.socks_front.specs.Messages.{is_no_authentication, dotted}
use Rattle.socks_front.specs.Reading.{Outcome, is_end, port_outcome, ipv4_outcome, name_bytes_outcome, name_outcome, address_outcome, command_of, known_outcome, command_outcome, request_outcome, methods_outcome, offer_outcome, outcome}
use Rattle.socks_front.specs.Reading.Outcome.{Unfinished, Refuses}

whole_end : (b : Bool) (o : Outcome) → is_end (cond b o Unfinished) ≡ true → (b ≡ true) × (is_end o ≡ true)
whole_end true o e = (refl, e)
whole_end false o e = absurd cc

port_end : (command : SocksCommand) (host bytes more : List ℕ) → is_end (port_outcome command host bytes) ≡ true
    → port_outcome command host (bytes ++ more) ≡ port_outcome command host bytes
port_end command host [] more e = absurd cc
port_end command host (high ∷ []) more e = absurd cc
port_end command host (high ∷ low ∷ behind) more e = refl

-- So many bytes are there, and with more behind them they are the same ones.
record SameFront (count : ℕ) (bytes more : List ℕ) : Type 0 where
  pub there : leb count (length bytes) ≡ true
  pub still : leb count (length (bytes ++ more)) ≡ true
  pub front : take count (bytes ++ more) ≡ take count bytes
  pub behind : drop count (bytes ++ more) ≡ drop count bytes ++ more

same_front : (count : ℕ) (bytes more : List ℕ) → leb count (length bytes) ≡ true → SameFront count bytes more
same_front count bytes more there =
    let long : count ≤ length bytes = leb-true count (length bytes) there in
    let all : length (bytes ++ more) ≡ length bytes + length more = length-append bytes more in
    record {
      there = there;
      still = le-leb count (length (bytes ++ more)) (omega arith);
      front = take-append-le count bytes more long;
      behind = drop-append-le count bytes more long;
    }

ip_end : (command : SocksCommand) (bytes more : List ℕ) → is_end (ipv4_outcome command bytes) ≡ true
    → ipv4_outcome command (bytes ++ more) ≡ ipv4_outcome command bytes
unfolding ipv4_outcome
ip_end command bytes more e =
    let parts = whole_end (leb 4 (length bytes)) (port_outcome command (dotted (take 4 bytes)) (drop 4 bytes)) e in
    let same = same_front 4 bytes more parts.0 in
    ap (λ b. cond b (port_outcome command (dotted (take 4 (bytes ++ more))) (drop 4 (bytes ++ more))) Unfinished) same.still
    ∙ ap (λ l. port_outcome command (dotted l) (drop 4 (bytes ++ more))) same.front
    ∙ ap (port_outcome command (dotted (take 4 bytes))) same.behind
    ∙ port_end command (dotted (take 4 bytes)) (drop 4 bytes) more parts.1
    ∙ sym (ap (λ b. cond b (port_outcome command (dotted (take 4 bytes)) (drop 4 bytes)) Unfinished) parts.0)

zero_stays : (count : ℕ) (bytes more : List ℕ) → list_any is_zero_byte (take count bytes) ≡ true
    → list_any is_zero_byte (take count (bytes ++ more)) ≡ true
zero_stays zero bytes more e = e
zero_stays (suc n) [] more e = absurd cc
zero_stays (suc n) (b ∷ bytes) more e = elim (or_cases (is_zero_byte b) (list_any is_zero_byte (take n bytes)) e) [
  | inl here ↦ or_left (is_zero_byte b) (list_any is_zero_byte (take n (bytes ++ more))) here
  | inr later ↦ or_right (is_zero_byte b) (list_any is_zero_byte (take n (bytes ++ more))) (zero_stays n bytes more later)
]

wrong_stays : (size : ℕ) (bytes more : List ℕ) → (nat_eq size 0 || list_any is_zero_byte (take size bytes)) ≡ true
    → (nat_eq size 0 || list_any is_zero_byte (take size (bytes ++ more))) ≡ true
wrong_stays size bytes more e = elim (or_cases (nat_eq size 0) (list_any is_zero_byte (take size bytes)) e) [
  | inl empty ↦ or_left (nat_eq size 0) (list_any is_zero_byte (take size (bytes ++ more))) empty
  | inr zeros ↦ or_right (nat_eq size 0) (list_any is_zero_byte (take size (bytes ++ more))) (zero_stays size bytes more zeros)
]

-- What a name and the bytes behind it come to, by the test of the name.
abbrev name_by : Bool → SocksCommand → ℕ → List ℕ → Outcome
name_by wrong command size bytes =
    cond wrong (Refuses Host)
    (cond (leb size (length bytes)) (port_outcome command (take size bytes) (drop size bytes)) Unfinished)

abbrev is_wrong : ℕ → List ℕ → Bool
is_wrong size bytes = nat_eq size 0 || list_any is_zero_byte (take size bytes)

name_by_end : (wrong : Bool) (command : SocksCommand) (size : ℕ) (bytes more : List ℕ) → is_wrong size bytes ≡ wrong
    → is_end (name_by wrong command size bytes) ≡ true
    → name_by (is_wrong size (bytes ++ more)) command size (bytes ++ more) ≡ name_by wrong command size bytes
name_by_end true command size bytes more is e =
    ap (λ b. name_by b command size (bytes ++ more)) (wrong_stays size bytes more is)
name_by_end false command size bytes more is e =
    let parts = whole_end (leb size (length bytes)) (port_outcome command (take size bytes) (drop size bytes)) e in
    let same = same_front size bytes more parts.0 in
    let right : is_wrong size (bytes ++ more) ≡ false = ap (λ l. nat_eq size 0 || list_any is_zero_byte l) same.front ∙ is in
    ap (λ b. name_by b command size (bytes ++ more)) right
    ∙ ap (λ b. cond b (port_outcome command (take size (bytes ++ more)) (drop size (bytes ++ more))) Unfinished) same.still
    ∙ ap (λ l. port_outcome command l (drop size (bytes ++ more))) same.front
    ∙ ap (port_outcome command (take size bytes)) same.behind
    ∙ port_end command (take size bytes) (drop size bytes) more parts.1
    ∙ sym (ap (λ b. cond b (port_outcome command (take size bytes) (drop size bytes)) Unfinished) parts.0)

name_end : (command : SocksCommand) (bytes more : List ℕ) → is_end (name_outcome command bytes) ≡ true
    → name_outcome command (bytes ++ more) ≡ name_outcome command bytes
unfolding name_bytes_outcome
name_end command [] more e = absurd cc
name_end command (size ∷ bytes) more e = name_by_end (is_wrong size bytes) command size bytes more refl e

kind_end : (is_ipv4 is_name : Bool) (command : SocksCommand) (kind : ℕ) (bytes more : List ℕ)
    → is_end (cond is_ipv4 (ipv4_outcome command bytes) (cond is_name (name_outcome command bytes) (Refuses (Kind kind)))) ≡ true
    → cond is_ipv4 (ipv4_outcome command (bytes ++ more))
    (cond is_name (name_outcome command (bytes ++ more)) (Refuses (Kind kind)))
    ≡ cond is_ipv4 (ipv4_outcome command bytes) (cond is_name (name_outcome command bytes) (Refuses (Kind kind)))
kind_end true is_name command kind bytes more e = ip_end command bytes more e
kind_end false true command kind bytes more e = name_end command bytes more e
kind_end false false command kind bytes more e = refl

address_end : (command : SocksCommand) (bytes more : List ℕ) → is_end (address_outcome command bytes) ≡ true
    → address_outcome command (bytes ++ more) ≡ address_outcome command bytes
address_end command [] more e = absurd cc
address_end command (reserved ∷ []) more e = absurd cc
address_end command (reserved ∷ kind ∷ bytes) more e = kind_end (nat_eq kind 1) (nat_eq kind 3) command kind bytes more e

known_end : (known : Option SocksCommand) (number : ℕ) (bytes more : List ℕ) → is_end (known_outcome known number bytes) ≡ true
    → known_outcome known number (bytes ++ more) ≡ known_outcome known number bytes
known_end None number bytes more e = refl
known_end (Some command) number bytes more e = address_end command bytes more e

command_end : (bytes more : List ℕ) → is_end (command_outcome bytes) ≡ true
    → command_outcome (bytes ++ more) ≡ command_outcome bytes
command_end [] more e = absurd cc
command_end (number ∷ bytes) more e = known_end (command_of number) number bytes more e

-- A message of another version is refused at its first byte, whatever is behind.
versioned_end : (is_right : Bool) (version : ℕ) (o after : Outcome)
    → (is_end o ≡ true → after ≡ o) → is_end (cond is_right o (Refuses (Version version))) ≡ true
    → cond is_right after (Refuses (Version version)) ≡ cond is_right o (Refuses (Version version))
versioned_end true version o after same e = same e
versioned_end false version o after same e = refl

request_end : (bytes more : List ℕ) → is_end (request_outcome bytes) ≡ true
    → request_outcome (bytes ++ more) ≡ request_outcome bytes
request_end [] more e = absurd cc
request_end (version ∷ bytes) more e =
    versioned_end (nat_eq version 5) version (command_outcome bytes) (command_outcome (bytes ++ more)) (command_end bytes more) e

offered_end : (offered : Bool) (bytes more : List ℕ) → is_end (cond offered (request_outcome bytes) (Refuses NoMethod)) ≡ true
    → cond offered (request_outcome (bytes ++ more)) (Refuses NoMethod) ≡ cond offered (request_outcome bytes) (Refuses NoMethod)
offered_end true bytes more e = request_end bytes more e
offered_end false bytes more e = refl

methods_end : (count : ℕ) (bytes more : List ℕ) → is_end (methods_outcome count bytes) ≡ true
    → methods_outcome count (bytes ++ more) ≡ methods_outcome count bytes
unfolding methods_outcome
methods_end count bytes more e =
    let offers : List ℕ → Bool = λ l. list_any is_no_authentication l in
    let parts =
    whole_end (leb count (length bytes))
    (cond (offers (take count bytes)) (request_outcome (drop count bytes)) (Refuses NoMethod)) e in
    let same = same_front count bytes more parts.0 in
    ap (λ b. cond b (cond (offers (take count (bytes ++ more))) (request_outcome (drop count (bytes ++ more))) (Refuses NoMethod))
    Unfinished) same.still
    ∙ ap (λ l. cond (offers l) (request_outcome (drop count (bytes ++ more))) (Refuses NoMethod)) same.front
    ∙ ap (λ l. cond (offers (take count bytes)) (request_outcome l) (Refuses NoMethod)) same.behind
    ∙ offered_end (offers (take count bytes)) (drop count bytes) more parts.1
    ∙ sym (ap (λ b. cond b (cond (offers (take count bytes)) (request_outcome (drop count bytes)) (Refuses NoMethod)) Unfinished)
    parts.0)

offer_end : (bytes more : List ℕ) → is_end (offer_outcome bytes) ≡ true → offer_outcome (bytes ++ more) ≡ offer_outcome bytes
offer_end [] more e = absurd cc
offer_end (count ∷ bytes) more e = methods_end count bytes more e

pub end_stays : (bytes more : List ℕ) → is_end (outcome bytes) ≡ true → outcome (bytes ++ more) ≡ outcome bytes
end_stays [] more e = absurd cc
end_stays (version ∷ bytes) more e =
    versioned_end (nat_eq version 5) version (offer_outcome bytes) (offer_outcome (bytes ++ more)) (offer_end bytes more) e
