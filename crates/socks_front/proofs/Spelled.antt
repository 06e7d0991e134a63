-- A request that is spelled is answered.
use Rattle.std.proofs.Common.{◌≡◌, ℕ, suc, ◌+◌, ◌^◌, ◌<◌, ◌≤◌, true, false, cond, ◌||◌, leb, List, [], ◌∷◌, ◌++◌, length, take, drop, refl, ap, sym, ◌∙◌, arith, length-append}
use Rattle.std.specs.Prelude.{nat_eq}
use Rattle.std.specs.List.{list_any}
use Rattle.std.specs.Int.{w16, to_be_bytes}
use Rattle.std.proofs.lemmas.Bool.{le-leb, ne_eqb, or_from}
use Rattle.std.proofs.lemmas.List.{take_at, drop_at}
use Rattle.std.proofs.lemmas.Nat.{from_be_bytes-to_be_bytes_2}
use Rattle.tor_spec.specs.Text.{is_zero_byte}
use Rattle.socks_front.specs.declared.command.SocksCommand.{SocksCommand}
use Rattle.socks_front.specs.declared.command.SocksCommand.TheVariants.{Connect, Resolve}
use Rattle.socks_front.specs.declared.fault.SocksFault.TheVariants.{NoMethod, Host}
use Rattle.socks_front.specs.Messages.{is_no_authentication, dotted}
use Rattle.socks_front.specs.Reading.{Wish, wish_of, wish_outcome, port_outcome, ipv4_outcome, name_bytes_outcome, address_outcome, command_outcome, request_outcome, methods_outcome, outcome}
use Rattle.socks_front.specs.Reading.Wish.{Connects}
use Rattle.socks_front.specs.Reading.Outcome.{Unfinished, Asks, Refuses}
use Rattle.socks_front.specs.Spelling.{Destination, destination_bytes, destination_text, IsDestination, command_byte, request_front, IsPortFor, SpellsWish}
use Rattle.socks_front.specs.Spelling.Destination.{Address, Named}

port_read : (command : SocksCommand) (host : List ℕ) (port : ℕ) (more : List ℕ) → port < 2 ^ 16
    → port_outcome command host (to_be_bytes w16 port ++ more) ≡ wish_outcome command host port
port_read command host port more fits = ap (wish_outcome command host) (from_be_bytes-to_be_bytes_2 port fits)

port_asked : (command : SocksCommand) (host : List ℕ) (port : ℕ) → IsPortFor command port
    → wish_outcome command host port ≡ Asks (wish_of command host port)
port_asked Connect host port is = ap (λ b. cond b (Refuses Host) (Asks (Connects host port))) (ne_eqb port 0 is)
port_asked Resolve host port is = refl

ip_read : (command : SocksCommand) (ip behind : List ℕ) → length ip ≡ 4
    → ipv4_outcome command (ip ++ behind) ≡ port_outcome command (dotted ip) behind
unfolding ipv4_outcome
ip_read command (a ∷ b ∷ c ∷ d ∷ []) behind four =
    ap (λ t. cond t (port_outcome command (dotted (a ∷ b ∷ c ∷ d ∷ [])) behind) Unfinished)
    (le-leb 4 (suc (suc (suc (suc (length behind))))) (omega arith))
ip_read command _ behind four = absurd (omega arith)

named_read : (command : SocksCommand) (name behind : List ℕ) → 1 ≤ length name → list_any is_zero_byte name ≡ false
    → name_bytes_outcome command (length name) (name ++ behind) ≡ port_outcome command name behind
unfolding name_bytes_outcome
named_read command name behind some plain =
    let n = length name in
    let all = name ++ behind in
    let long : length all ≡ n + length behind = length-append name behind in
    let same : take n all ≡ name = take_at name behind n refl in
    let rest : drop n all ≡ behind = drop_at name behind n refl in
    let whole : leb n (length all) ≡ true = le-leb n (length all) (omega arith) in
    let right : (nat_eq n 0 || list_any is_zero_byte (take n all)) ≡ false =
    or_from (nat_eq n 0) (list_any is_zero_byte (take n all)) (ne_eqb n 0 (λ e. omega arith))
    (ap (list_any is_zero_byte) same ∙ plain) in
    ap (λ b. cond b (Refuses Host) (cond (leb n (length all)) (port_outcome command (take n all) (drop n all)) Unfinished)) right
    ∙ ap (λ b. cond b (port_outcome command (take n all) (drop n all)) Unfinished) whole
    ∙ ap (λ l. port_outcome command l (drop n all)) same
    ∙ ap (port_outcome command name) rest

destination_read : (command : SocksCommand) (reserved : ℕ) (to : Destination) (behind : List ℕ) → IsDestination to
    → address_outcome command (reserved ∷ (destination_bytes to ++ behind)) ≡ port_outcome command (destination_text to) behind
destination_read command reserved (Address ip) behind is = ip_read command ip behind is
destination_read command reserved (Named name) behind is = named_read command name behind is.0 is.1

command_read : (command : SocksCommand) (bytes : List ℕ)
    → command_outcome (command_byte command ∷ bytes) ≡ address_outcome command bytes
command_read Connect bytes = refl
command_read Resolve bytes = refl

methods_read : (methods behind : List ℕ) → list_any is_no_authentication methods ≡ true
    → methods_outcome (length methods) (methods ++ behind) ≡ request_outcome behind
unfolding methods_outcome
methods_read methods behind offered =
    let n = length methods in
    let all = methods ++ behind in
    let long : length all ≡ n + length behind = length-append methods behind in
    let same : take n all ≡ methods = take_at methods behind n refl in
    let rest : drop n all ≡ behind = drop_at methods behind n refl in
    let whole : leb n (length all) ≡ true = le-leb n (length all) (omega arith) in
    ap (λ b. cond b (cond (list_any is_no_authentication (take n all)) (request_outcome (drop n all)) (Refuses NoMethod))
    Unfinished) whole
    ∙ ap (λ l. cond (list_any is_no_authentication l) (request_outcome (drop n all)) (Refuses NoMethod)) same
    ∙ ap (λ b. cond b (request_outcome (drop n all)) (Refuses NoMethod)) offered
    ∙ ap request_outcome rest

pub spelled_is_answered : (bytes : List ℕ) (wish : Wish) → SpellsWish bytes wish → outcome bytes ≡ Asks wish
spelled_is_answered bytes wish s =
    let port = to_be_bytes w16 s.port ++ s.more in
    ap outcome s.spelling
    ∙ methods_read s.methods (request_front s.command s.reserved s.to ++ port) s.offered
    ∙ command_read s.command (s.reserved ∷ (destination_bytes s.to ++ port))
    ∙ destination_read s.command s.reserved s.to port s.is_destination
    ∙ port_read s.command (destination_text s.to) s.port s.more s.port_fits
    ∙ port_asked s.command (destination_text s.to) s.port s.is_port
    ∙ ap Asks (sym s.asked)
