-- Which BEGINs make a place.
use Rattle.std.proofs.Common.{◌≡◌, ◌<◌, ◌==◌, List, [], ◌∷◌, length, false, Some, None, refl, ◌∙◌, arith, nat_le, ap, find, option_map}
use Rattle.std.specs.Str.{str_to_ascii_lowercase}
use Rattle.tor_spec.specs.Begin.{Target, begin_target}
use Rattle.tor_spec.specs.Extend.{Address}
use Rattle.tor_spec.specs.RelayCell.{begin_command}
use Rattle.circuit_model.specs.Events.{Event}
use Rattle.circuit_model.specs.Rules.{Rules, Allow, allows, allowed_address}
use Rattle.circuit_model.specs.Log.{Log, Message, ordering}
use Rattle.circuit_model.specs.declared.effects.Order.TheVariants.{Reach}
use Rattle.circuit_model.specs.Places.{places, taken_places}
use Rattle.circuit_model.specs.Received.{message_at}
use Rattle.circuit_model.specs.Effects.{message_effects, effects_after}
use Rattle.circuit_model.specs.Words.{log, effects}
use Rattle.circuit_model.proofs.Reading.{read-effects}

find-same_host : (asked allowed : Target) (lines : List Allow)
    → str_to_ascii_lowercase asked.host ≡ str_to_ascii_lowercase allowed.host → asked.port ≡ allowed.port
    → find (allows asked) lines ≡ find (allows allowed) lines
find-same_host asked allowed [] host port = refl
find-same_host asked allowed (line ∷ lines) host port = rw (host, port, find-same_host asked allowed lines host port)

pub address-any_case : (rules : Rules) (asked allowed : Target)
    → str_to_ascii_lowercase asked.host ≡ str_to_ascii_lowercase allowed.host → asked.port ≡ allowed.port
    → allowed_address rules asked ≡ allowed_address rules allowed
unfolding allowed_address
address-any_case rules asked allowed host port =
    ap (option_map (λ line. line.to)) (find-same_host asked allowed rules.allow host port)

does-begin : (rules : Rules) (l : Log) (m : Message) (to : Address) (target : Target) → m.command ≡ begin_command
    → (m.stream == 0) ≡ false → m.place ≡ None → begin_target m.payload ≡ Some target → nat_le 32 (taken_places l) ≡ false
    → allowed_address rules target ≡ Some to →
    message_effects rules l m ≡ ordering (Reach (record { stream = m.stream; serial = length (places l) }) to)
unfolding message_effects
does-begin rules l m to target command stream free asked room address = rw (command, stream, free, asked, room, address)

pub allowed_name_reaches : (rules : Rules) (h : List Event) (e : Event) (m : Message) (asked allowed : Target) (to : Address) →
    message_at (log rules h) e ≡ Some m → m.command ≡ begin_command → 0 < m.stream → m.place ≡ None
    → begin_target m.payload ≡ Some asked → taken_places (log rules h) < 32 →
    str_to_ascii_lowercase asked.host ≡ str_to_ascii_lowercase allowed.host → asked.port ≡ allowed.port
    → allowed_address rules allowed ≡ Some to →
    (effects rules h e).edge ≡ Some (Reach (record { stream = m.stream; serial = length (places (log rules h)) }) to)
allowed_name_reaches rules h e m asked allowed to found command stream free target room host port address =
    let l : Log = log rules h in
    let nonzero : (m.stream == 0) ≡ false = grind arith in
    let below : nat_le 32 (taken_places l) ≡ false = grind arith in
    let does : effects_after rules l e ≡ ordering (Reach (record { stream = m.stream; serial = length (places l) }) to) =
    read-effects rules l e m found
    ∙ does-begin rules l m to asked command nonzero free target below
    (address-any_case rules asked allowed host port ∙ address) in
    rw does
