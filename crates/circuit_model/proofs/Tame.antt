-- What messages and the edge's reports have in common: none of them packages DATA, but for bytes of
-- the edge, and none of them gives a cell to a leg.
use Rattle.std.proofs.Common.{◌≡◌, ℕ, ◌+◌, ◌==◌, ◌||◌, List, [], ◌∷◌, Bool, true, false, if◌then◌else◌, ◌*◌, not, length, ◌++◌, take, drop, suc, arith, Option, Some, None, is_some, refl, nat_le, nat_lt}
use Rattle.crypto_spec.specs.Keystream.{keystream_part}
use Rattle.tor_spec.specs.RelayCell.{relay_head, relay_body, relay_head_bytes, with_digest, with_padding, data_command, begin_command, end_command, sendme_command, truncate_command, drop_command, resolve_command, begin_dir_command, extend2_command, truncated_command, resolved_command, connected_command, extended2_command}
use Rattle.tor_spec.specs.Begin.{Target, begin_target}
use Rattle.tor_spec.specs.CircuitWindow.{is_sendme_due}
use Rattle.tor_spec.specs.StreamWindow.{stream_start, stream_step}
use Rattle.tor_spec.specs.Extend.{Address}
use Rattle.circuit_model.specs.Rules.{Rules, allowed_address}
use Rattle.circuit_model.specs.Log.{Log, Message, Effects, no_effects, closing}
use Rattle.circuit_model.specs.Packaged.{own_bodies, padded_by, package_of, digested, packaging}
use Rattle.circuit_model.specs.Opened.{born_pad}
use Rattle.circuit_model.specs.Windows.{is_data_body, stream_packaged, stream_grant, accept_grant, carried_count, accepted_data}
use Rattle.circuit_model.specs.NextHop.{next_hop, is_absent}
use Rattle.circuit_model.specs.SendmeProof.{is_right_sendme}
use Rattle.circuit_model.specs.Places.{Place, taken_places}
use Rattle.circuit_model.specs.Streams.{place_limit, reaching, beginning, begin_effects, acknowledging, data_at, end_at, stream_sendme_at, sendme_effects, ending, connected_effects, ended_effects, drained_effects}
use Rattle.circuit_model.specs.Extending.{dialling, address_asked, extend_effects, truncate_effects, extending}
use Rattle.circuit_model.specs.Effects.{message_effects}

pub record IsTame (effects : Effects) : Type 0 where
  pub no_data : is_data_body effects.back ≡ false
  pub no_cell : effects.forth ≡ None

-- The relay command of a packaged body: neither padding nor Digest touches it.

command-before_padding : (log : Log) (n command : ℕ) (rest more : List ℕ)
    → (relay_head (digested log (take (15 + n) (command ∷ rest) ++ more))).command ≡ command
unfolding relay_head digested with_digest
command-before_padding log n command rest more =
    let front : 15 + n ≡ suc (14 + n) = omega arith in
    rw front refl

command-digested : (log : Log) (pad : Option (List ℕ)) (n command stream : ℕ) (payload : List ℕ) →
    (relay_head (digested log (padded_by pad n (relay_body command stream payload)))).command ≡ command
unfolding relay_head digested with_digest with_padding relay_body relay_head_bytes
command-digested log None n command stream payload = refl
command-digested log (Some key) n command stream payload =
    let body : List ℕ = relay_body command stream payload in
    let size : ℕ = (relay_head body).length in
    command-before_padding log size command (drop 1 body) (drop (15 + size) (keystream_part key (509 * n) 509))

pub command-package_of : (log : Log) (command stream : ℕ) (payload : List ℕ)
    → (relay_head (package_of log command stream payload)).command ≡ command
command-package_of log command stream payload =
    command-digested log (born_pad log) (length (own_bodies log)) command stream payload

package-tame : (log : Log) (command stream : ℕ) (payload : List ℕ) → (command == data_command) ≡ false
    → IsTame (packaging log command stream payload)
package-tame log command stream payload other =
    record { no_data = rw (command-package_of log command stream payload) other; no_cell = refl }

nothing-tame : IsTame no_effects
nothing-tame = record { no_data = refl; no_cell = refl }

closing-tame : (reason : ℕ) → IsTame (closing reason)
closing-tame reason = record { no_data = refl; no_cell = refl }

if-tame : (b : Bool) (x y : Effects) → IsTame x → IsTame y → IsTame (if b then x else y)
if-tame true x y p q = p
if-tame false x y p q = q

ending-tame : (log : Log) (stream reason : ℕ) → IsTame (ending log stream reason)
ending-tame log stream reason = package-tame log end_command stream (reason ∷ []) refl

reaching-tame : (log : Log) (stream : ℕ) (to : Option Address) → IsTame (reaching log stream to)
reaching-tame log stream None = ending-tame log stream 4
reaching-tame log stream (Some to) = record { no_data = refl; no_cell = refl }

beginning-tame : (rules : Rules) (log : Log) (stream : ℕ) (target : Option Target) → IsTame (beginning rules log stream target)
beginning-tame rules log stream None = ending-tame log stream 13
beginning-tame rules log stream (Some target) =
    if-tame (nat_le place_limit (taken_places log)) _ _ (ending-tame log stream 11)
    (reaching-tame log stream (allowed_address rules target))

begin-tame : (rules : Rules) (log : Log) (m : Message) → IsTame (begin_effects rules log m)
begin-tame rules log m =
    if-tame ((m.stream == 0) || is_some m.place) _ _ (closing-tame 1) (beginning-tame rules log m.stream (begin_target m.payload))

acknowledging-tame : (log : Log) (m : Message) → IsTame (acknowledging log m)
acknowledging-tame log m =
    if-tame (is_sendme_due (accepted_data log + 1)) _ _ (package-tame log sendme_command 0 _ refl) nothing-tame

data-tame : (log : Log) (m : Message) (place : Option ℕ) → IsTame (data_at log m place)
data-tame log m None = acknowledging-tame log m
data-tame log m (Some serial) =
    if-tame (nat_le (accept_grant log serial) (carried_count log serial)) _ _ (closing-tame 1)
    (record { no_data = (acknowledging-tame log m).no_data; no_cell = (acknowledging-tame log m).no_cell })

end-tame : (m : Message) (place : Option ℕ) → IsTame (end_at m place)
end-tame m None = nothing-tame
end-tame m (Some serial) = record { no_data = refl; no_cell = refl }

stream_sendme-tame : (log : Log) (place : Option ℕ) → IsTame (stream_sendme_at log place)
stream_sendme-tame log None = nothing-tame
stream_sendme-tame log (Some serial) =
    if-tame (nat_lt (stream_start + stream_packaged log serial) (stream_grant log serial + stream_step)) _ _ (closing-tame 1)
    nothing-tame

sendme-tame : (rules : Rules) (log : Log) (m : Message) → IsTame (sendme_effects rules log m)
sendme-tame rules log m =
    if-tame (m.stream == 0) _ _ (if-tame (is_right_sendme rules log m.payload) _ _ nothing-tame (closing-tame 1))
    (stream_sendme-tame log m.place)

truncate-tame : (log : Log) → IsTame (truncate_effects log)
truncate-tame log = record { no_data = (package-tame log truncated_command 0 (3 ∷ []) refl).no_data; no_cell = refl }

dialling-tame : (to : Option Address) → IsTame (dialling to)
dialling-tame None = closing-tame 1
dialling-tame (Some to) = record { no_data = refl; no_cell = refl }

extend-tame : (log : Log) (m : Message) → IsTame (extend_effects log m)
extend-tame log m =
    if-tame (not m.early) _ _ (closing-tame 1)
    (if-tame (not (is_absent (next_hop log))) _ _ (closing-tame 1) (dialling-tame (address_asked m)))

pub message-tame : (rules : Rules) (log : Log) (m : Message) → IsTame (message_effects rules log m)
unfolding message_effects
message-tame rules log m =
    if-tame (m.command == begin_command) _ _ (begin-tame rules log m)
    (if-tame (m.command == data_command) _ _ (data-tame log m m.place)
    (if-tame (m.command == end_command) _ _ (end-tame m m.place)
    (if-tame (m.command == sendme_command) _ _ (sendme-tame rules log m)
    (if-tame (m.command == truncate_command) _ _ (truncate-tame log)
    (if-tame (m.command == drop_command) _ _ nothing-tame
    (if-tame (m.command == resolve_command) _ _ (package-tame log resolved_command m.stream _ refl)
    (if-tame (m.command == begin_dir_command) _ _ (ending-tame log m.stream 14)
    (if-tame (m.command == extend2_command) _ _ (extend-tame log m) nothing-tame))))))))

pub drained-tame : (log : Log) (place : Option Place) → IsTame (drained_effects log place)
drained-tame log None = nothing-tame
drained-tame log (Some place) = if-tame _ _ _ (package-tame log sendme_command place.key.stream [] refl) nothing-tame

pub ended-tame : (log : Log) (reason : ℕ) (place : Option Place) → IsTame (ended_effects log reason place)
ended-tame log reason None = nothing-tame
ended-tame log reason (Some place) = record { no_data = (ending-tame log place.key.stream reason).no_data; no_cell = refl }

pub connected-tame : (log : Log) (place : Option Place) → IsTame (connected_effects log place)
connected-tame log None = nothing-tame
connected-tame log (Some place) = package-tame log connected_command place.key.stream _ refl

pub extending-tame : (log : Log) (handshake : Option (List ℕ)) → IsTame (extending log handshake)
extending-tame log None = closing-tame 1
extending-tame log (Some handshake) =
    if-tame (nat_le (length handshake) 496) _ _ (package-tame log extended2_command 0 _ refl) (closing-tame 1)
