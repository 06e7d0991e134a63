-- A request that is answered was spelled.
use Rattle.std.proofs.Common.{◌≡◌, ◌↔◌, ℕ, suc, ◌^◌, ◌<◌, ◌≤◌, Bool, true, false, cond, Option, Some, None, List, [], ◌∷◌, ◌++◌, length, take, drop, refl, ap, sym, ◌∙◌, arith}
use Rattle.std.specs.Prelude.{nat_eq}
use Rattle.std.specs.List.{list_any}
use Rattle.std.specs.Int.{w16, to_be_bytes, from_be_bytes}
use Rattle.std.proofs.lemmas.Bool.{leb-true, eqb-true, eqb-false, or_parts}
use Rattle.std.proofs.lemmas.List.{take-append-drop, length-take-le}
use Rattle.std.proofs.lemmas.Option.{none-some, same_Some}
use Rattle.tor_spec.specs.CellStream.{IsBytes}
use Rattle.tor_spec.specs.Text.{is_zero_byte}
use Rattle.cell_laws.proofs.Bytes.{IsBytes-drop, two_bytes, two_fit}
use Rattle.socks_front.specs.declared.command.SocksCommand.{SocksCommand}
use Rattle.socks_front.specs.declared.command.SocksCommand.TheVariants.{Connect, Resolve}
use Rattle.socks_front.specs.declared.fault.SocksFault.TheVariants.{Version, Kind}
use Rattle.socks_front.specs.Messages.{dotted}
use Rattle.socks_front.specs.Reading.{Wish, wish_of, port_outcome, ipv4_outcome, name_bytes_outcome, name_outcome, command_of, known_outcome, request_outcome, methods_outcome, outcome}
use Rattle.socks_front.specs.Reading.Wish.{Connects, Resolves}
use Rattle.socks_front.specs.Reading.Outcome.{Unfinished, Asks, Refuses}
use Rattle.socks_front.specs.Spelling.{Destination, destination_bytes, destination_text, IsDestination, command_byte, IsPortFor, SpellsWish}
use Rattle.socks_front.specs.Spelling.Destination.{Address, Named}
use Rattle.socks_front.proofs.Outcomes.{asks_whole, asks_right, asks_unless}
use Rattle.socks_front.proofs.Spelled.{spelled_is_answered}

record PortBehind (command : SocksCommand) (host bytes : List ℕ) (wish : Wish) : Type 0 where
  pub port : ℕ
  pub more : List ℕ
  pub spelling : bytes ≡ to_be_bytes w16 port ++ more
  pub port_fits : port < 2 ^ 16
  pub is_port : IsPortFor command port
  pub asked : wish ≡ wish_of command host port

port_spelled : (command : SocksCommand) (host bytes : List ℕ) (wish : Wish) → IsBytes bytes
    → port_outcome command host bytes ≡ Asks wish → PortBehind command host bytes wish
port_spelled command host [] wish fits e = absurd cc
port_spelled command host (high ∷ []) wish fits e = absurd cc
port_spelled Connect host (high ∷ low ∷ more) wish fits e =
    let parts = asks_unless _ _ _ _ e in
    let wished : Asks (Connects host (from_be_bytes w16 (high ∷ low ∷ []))) ≡ Asks wish = parts.1 in
    record {
      port = from_be_bytes w16 (high ∷ low ∷ []);
      more = more;
      spelling = ap (λ t. t ++ more) (sym (two_bytes high low more fits));
      port_fits = two_fit high low more fits;
      is_port = eqb-false _ _ parts.0;
      asked = cc wished;
    }
port_spelled Resolve host (high ∷ low ∷ more) wish fits e =
    let wished : Asks (Resolves host) ≡ Asks wish = e in
    record {
      port = from_be_bytes w16 (high ∷ low ∷ []);
      more = more;
      spelling = ap (λ t. t ++ more) (sym (two_bytes high low more fits));
      port_fits = two_fit high low more fits;
      is_port = tt;
      asked = cc wished;
    }

record DestinationBehind (command : SocksCommand) (bytes : List ℕ) (wish : Wish) : Type 0 where
  pub to : Destination
  pub port : ℕ
  pub more : List ℕ
  pub spelling : bytes ≡ destination_bytes to ++ (to_be_bytes w16 port ++ more)
  pub is_destination : IsDestination to
  pub port_fits : port < 2 ^ 16
  pub is_port : IsPortFor command port
  pub asked : wish ≡ wish_of command (destination_text to) port

behind_destination : (command : SocksCommand) (to : Destination) (bytes rest : List ℕ) (wish : Wish)
    → bytes ≡ destination_bytes to ++ rest
    → IsDestination to → PortBehind command (destination_text to) rest wish → DestinationBehind command bytes wish
behind_destination command to bytes rest wish spelling is p = record {
  to = to;
  port = p.port;
  more = p.more;
  spelling = spelling ∙ ap (λ l. destination_bytes to ++ l) p.spelling;
  is_destination = is;
  port_fits = p.port_fits;
  is_port = p.is_port;
  asked = p.asked;
}

ip_spelled : (command : SocksCommand) (kind : ℕ) (bytes : List ℕ) (wish : Wish) → kind ≡ 1 → IsBytes bytes
    → ipv4_outcome command bytes ≡ Asks wish → DestinationBehind command (kind ∷ bytes) wish
unfolding ipv4_outcome
ip_spelled command kind bytes wish is fits e =
    let parts = asks_whole _ _ _ e in
    let long : 4 ≤ length bytes = leb-true _ _ parts.0 in
    behind_destination command (Address (take 4 bytes)) (kind ∷ bytes) (drop 4 bytes) wish
    (ap (λ k. k ∷ bytes) is ∙ ap (λ l. 1 ∷ l) (sym (take-append-drop 4 bytes)))
    (length-take-le 4 bytes long)
    (port_spelled command (dotted (take 4 bytes)) (drop 4 bytes) wish (IsBytes-drop 4 bytes fits) parts.1)

name_spelled : (command : SocksCommand) (kind : ℕ) (bytes : List ℕ) (wish : Wish) → kind ≡ 3 → IsBytes bytes
    → name_outcome command bytes ≡ Asks wish → DestinationBehind command (kind ∷ bytes) wish
unfolding name_bytes_outcome
name_spelled command kind [] wish is fits e = absurd cc
name_spelled command kind (size ∷ bytes) wish is fits e =
    let tests = asks_unless _ _ _ _ e in
    let right = or_parts (nat_eq size 0) (list_any is_zero_byte (take size bytes)) tests.0 in
    let parts = asks_whole _ _ _ tests.1 in
    let long : size ≤ length bytes = leb-true _ _ parts.0 in
    let whole : length (take size bytes) ≡ size = length-take-le size bytes long in
    let some = eqb-false size 0 right.0 in
    behind_destination command (Named (take size bytes)) (kind ∷ size ∷ bytes) (drop size bytes) wish
    (ap (λ k. k ∷ size ∷ bytes) is ∙ ap (λ n. 3 ∷ n ∷ bytes) (sym whole)
    ∙ ap (λ l. 3 ∷ length (take size bytes) ∷ l) (sym (take-append-drop size bytes)))
    (omega (arith, some, whole), right.1)
    (port_spelled command (take size bytes) (drop size bytes) wish (IsBytes-drop (suc size) (size ∷ bytes) fits) parts.1)

kind_spelled : (command : SocksCommand) (kind : ℕ) (bytes : List ℕ) (wish : Wish) (is_ipv4 is_name : Bool)
    → nat_eq kind 1 ≡ is_ipv4 → nat_eq kind 3 ≡ is_name → IsBytes bytes
    → cond is_ipv4 (ipv4_outcome command bytes) (cond is_name (name_outcome command bytes) (Refuses (Kind kind))) ≡ Asks wish
    → DestinationBehind command (kind ∷ bytes) wish
kind_spelled command kind bytes wish true is_name one three fits e =
    ip_spelled command kind bytes wish (eqb-true kind 1 one) fits e
kind_spelled command kind bytes wish false true one three fits e =
    name_spelled command kind bytes wish (eqb-true kind 3 three) fits e
kind_spelled command kind bytes wish false false one three fits e = absurd cc

record RequestBehind (bytes : List ℕ) (wish : Wish) : Type 0 where
  pub command : SocksCommand
  pub reserved : ℕ
  pub rest : List ℕ
  pub spelling : bytes ≡ 5 ∷ command_byte command ∷ reserved ∷ rest
  pub behind : DestinationBehind command rest wish

command_spelled : (number : ℕ) (command : SocksCommand) (is_connect is_resolve : Bool) → nat_eq number 1 ≡ is_connect
    → nat_eq number 240 ≡ is_resolve
    → cond is_connect (Some Connect) (cond is_resolve (Some Resolve) None) ≡ Some command → number ≡ command_byte command
command_spelled number command true is_resolve one two e = eqb-true number 1 one ∙ ap command_byte (same_Some Connect command e)
command_spelled number command false true one two e = eqb-true number 240 two ∙ ap command_byte (same_Some Resolve command e)
command_spelled number command false false one two e = absurd (none-some command e)

known_spelled : (version number : ℕ) (bytes : List ℕ) (wish : Wish) (known : Option SocksCommand) → version ≡ 5
    → command_of number ≡ known → IsBytes bytes
    → known_outcome known number bytes ≡ Asks wish → RequestBehind (version ∷ number ∷ bytes) wish
known_spelled version number bytes wish None is number_is fits e = absurd cc
known_spelled version number [] wish (Some command) is number_is fits e = absurd cc
known_spelled version number (reserved ∷ []) wish (Some command) is number_is fits e = absurd cc
known_spelled version number (reserved ∷ kind ∷ bytes) wish (Some command) is number_is fits e = record {
  command = command;
  reserved = reserved;
  rest = kind ∷ bytes;
  spelling =
      ap (λ v. v ∷ number ∷ reserved ∷ kind ∷ bytes) is
      ∙ ap (λ n. 5 ∷ n ∷ reserved ∷ kind ∷ bytes)
      (command_spelled number command (nat_eq number 1) (nat_eq number 240) refl refl number_is);
  behind =
      kind_spelled command kind bytes wish (nat_eq kind 1) (nat_eq kind 3) refl refl
      (IsBytes-drop 2 (reserved ∷ kind ∷ bytes) fits) e;
}

request_spelled : (bytes : List ℕ) (wish : Wish) → IsBytes bytes → request_outcome bytes ≡ Asks wish → RequestBehind bytes wish
request_spelled [] wish fits e = absurd cc
request_spelled (version ∷ []) wish fits e =
    let parts = asks_right (nat_eq version 5) Unfinished (Version version) wish e in
    let no : Unfinished ≡ Asks wish = parts.1 in
    absurd (cc no)
request_spelled (version ∷ number ∷ bytes) wish fits e =
    let parts = asks_right _ _ _ _ e in
    known_spelled version number bytes wish (command_of number) (eqb-true version 5 parts.0) refl
    (IsBytes-drop 2 (version ∷ number ∷ bytes) fits) parts.1

methods_spelled : (version count : ℕ) (bytes : List ℕ) (wish : Wish) → version ≡ 5 → IsBytes bytes
    → methods_outcome count bytes ≡ Asks wish → SpellsWish (version ∷ count ∷ bytes) wish
unfolding methods_outcome
methods_spelled version count bytes wish is fits e =
    let whole = asks_whole _ _ _ e in
    let offers = asks_right _ _ _ _ whole.1 in
    let long : count ≤ length bytes = leb-true _ _ whole.0 in
    let counted : length (take count bytes) ≡ count = length-take-le count bytes long in
    let request = request_spelled (drop count bytes) wish (IsBytes-drop count bytes fits) offers.1 in
    let to = request.behind in
    record {
      methods = take count bytes;
      command = request.command;
      reserved = request.reserved;
      to = to.to;
      port = to.port;
      more = to.more;
      spelling =
          ap (λ v. v ∷ count ∷ bytes) is
          ∙ ap (λ n. 5 ∷ n ∷ bytes) (sym counted)
          ∙ ap (λ l. 5 ∷ length (take count bytes) ∷ l) (sym (take-append-drop count bytes))
          ∙ ap (λ l. 5 ∷ length (take count bytes) ∷ (take count bytes ++ l)) request.spelling
          ∙ ap (λ l. 5 ∷ length (take count bytes)
          ∷ (take count bytes ++ (5 ∷ command_byte request.command ∷ request.reserved ∷ l))) to.spelling;
      offered = offers.0;
      is_destination = to.is_destination;
      port_fits = to.port_fits;
      is_port = to.is_port;
      asked = to.asked;
    }

answered_is_spelled : (bytes : List ℕ) (wish : Wish) → IsBytes bytes → outcome bytes ≡ Asks wish → SpellsWish bytes wish
answered_is_spelled [] wish fits e = absurd cc
answered_is_spelled (version ∷ []) wish fits e =
    let parts = asks_right (nat_eq version 5) Unfinished (Version version) wish e in
    let no : Unfinished ≡ Asks wish = parts.1 in
    absurd (cc no)
answered_is_spelled (version ∷ count ∷ bytes) wish fits e =
    let parts = asks_right _ _ _ _ e in
    methods_spelled version count bytes wish (eqb-true version 5 parts.0) (IsBytes-drop 2 (version ∷ count ∷ bytes) fits) parts.1

pub requests_law : (bytes : List ℕ) (wish : Wish) → IsBytes bytes → SpellsWish bytes wish ↔ (outcome bytes ≡ Asks wish)
requests_law bytes wish fits = (spelled_is_answered bytes wish, answered_is_spelled bytes wish fits)
