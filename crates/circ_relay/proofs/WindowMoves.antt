-- What one more entry makes of the window.
use Rattle.std.proofs.Common.{◌≡◌, ℕ, ◌+◌, ◌&&◌, [], ◌∷◌, ◌++◌, List, Bool, true, false, Some, None, map, length, nat_lt, Option, refl, ap, ◌∙◌, is_none}
use Rattle.std.proofs.lemmas.List.{map-append, length-map}
use Rattle.tor_spec.specs.RelayCell.{sendme_command, data_command}
use Rattle.tor_spec.specs.CircuitWindow.{CircuitWindow, fresh_window, may_package, after_packaging, after_acknowledging, after_accepting, is_sendme_due}
use Rattle.crypto_spec.specs.RunningDigest.{running_digest}
use Rattle.kdf_tor.specs.declared.LayerKeys.{LayerKeys}
use Rattle.circuit_model.specs.Events.{Event, CircuitCell}
use Rattle.circuit_model.specs.declared.event.Event.TheVariants.{Born}
use Rattle.circuit_model.specs.Rules.{Rules}
use Rattle.circuit_model.specs.Log.{Entry, Log}
use Rattle.circuit_model.specs.Opened.{born_keys, keys_in}
use Rattle.circuit_model.specs.Packaged.{packaged_by, own_bodies, back_digest}
use Rattle.circuit_model.specs.Windows.{is_data_body, packs_data, is_accepted, has_stream, good_sendmes, accepted_data, circuit_packaged, circuit_grant}
use Rattle.circuit_model.specs.Received.{message_at}
use Rattle.circuit_model.specs.Effects.{open_effects, effects_after}
use Rattle.circuit_model.specs.Words.{entry_after}
use Rattle.circ_relay.specs.WindowOfLog.{up_to_each_data, data_digests, window_of}
use Rattle.circ_relay.proofs.DataBodies.{count_packaged, one_more_data, no_more_data}
use Rattle.circ_relay.proofs.EventKinds.{message_no_keys, data_no_keys, message_no_data, data_no_message, HasMessage, message_of_command}

pub packaged_count : (log : Log) → length (window_of log).packaged ≡ circuit_packaged log
unfolding window_of
packaged_count log = length-map (up_to_each_data (own_bodies log)) (back_digest log) ∙ count_packaged log

pub room_of_log : (rules : Rules) (log : Log)
    → may_package rules.window (window_of log) ≡ nat_lt (circuit_packaged log) (circuit_grant rules log)
unfolding window_of
room_of_log rules log = ap (λ n. nat_lt n (circuit_grant rules log)) (packaged_count log)

-- The keys stay, but at the opening.
pub keys_stay : (entry : Entry) (log : Log) → keys_in entry.event ≡ None → born_keys (entry ∷ log) ≡ born_keys log
keys_stay entry log none = rw none

pub event_leaves_keys : (rules : Rules) (log : Log) (event : Event) → keys_in event ≡ None
    → born_keys (entry_after rules log event ∷ log) ≡ born_keys log
event_leaves_keys rules log event none = keys_stay (entry_after rules log event) log none

-- The digests that are kept.

under_same_keys : (entry : Entry) (log : Log) (bodies : List (List (List ℕ))) → keys_in entry.event ≡ None
    → map (back_digest (entry ∷ log)) bodies ≡ map (back_digest log) bodies
under_same_keys entry log bodies opened =
    ap (λ (keys : LayerKeys). map (λ (b : List (List ℕ)). running_digest keys.db b) bodies) (keys_stay entry log opened)

pub more_digests : (entry : Entry) (log : Log) (body : List ℕ) → keys_in entry.event ≡ None
    → packaged_by entry.event entry.effects.back ≡ Some body → is_data_body (Some body) ≡ true
    → data_digests (entry ∷ log) ≡ data_digests log ++ back_digest log (own_bodies log ++ body ∷ []) ∷ []
more_digests entry log body opened packs counts =
    under_same_keys entry log (up_to_each_data (own_bodies (entry ∷ log))) opened
    ∙ ap (map (back_digest log)) (one_more_data (own_bodies log) (packaged_by entry.event entry.effects.back) body packs counts)
    ∙ map-append (back_digest log) (up_to_each_data (own_bodies log)) ((own_bodies log ++ body ∷ []) ∷ [])

pub same_digests : (entry : Entry) (log : Log) → keys_in entry.event ≡ None → packs_data entry ≡ false
    → data_digests (entry ∷ log) ≡ data_digests log
same_digests entry log opened other =
    under_same_keys entry log (up_to_each_data (own_bodies (entry ∷ log))) opened
    ∙ ap (map (back_digest log)) (no_more_data (own_bodies log) (packaged_by entry.event entry.effects.back) other)

-- The window, by its three parts.

windows_agree : (w v : CircuitWindow) → w.packaged ≡ v.packaged → w.acknowledged ≡ v.acknowledged → w.accepted ≡ v.accepted
    → w ≡ v
windows_agree w v p q r = λ i. record { packaged = p i; acknowledged = q i; accepted = r i }

abbrev pub is_good_sendme : Entry → Bool
is_good_sendme entry = is_accepted sendme_command entry && has_stream 0 entry.message

more_sendmes : (entry : Entry) (log : Log) → is_good_sendme entry ≡ true → good_sendmes (entry ∷ log) ≡ good_sendmes log + 1
more_sendmes entry log is = rw is refl

same_sendmes : (entry : Entry) (log : Log) → is_good_sendme entry ≡ false → good_sendmes (entry ∷ log) ≡ good_sendmes log
same_sendmes entry log is = rw is refl

more_accepted : (entry : Entry) (log : Log) → is_accepted data_command entry ≡ true
    → accepted_data (entry ∷ log) ≡ accepted_data log + 1
more_accepted entry log is = rw is refl

same_accepted : (entry : Entry) (log : Log) → is_accepted data_command entry ≡ false
    → accepted_data (entry ∷ log) ≡ accepted_data log
same_accepted entry log is = rw is refl

-- What no entry does at once.

pub no_message_accepted : (command : ℕ) (entry : Entry) → entry.message ≡ None → is_accepted command entry ≡ false
no_message_accepted command entry none = rw none refl

pub no_message_good : (entry : Entry) → entry.message ≡ None → is_good_sendme entry ≡ false
no_message_good entry none = rw none refl

sendme_no_data : (entry : Entry) → HasMessage entry.message sendme_command → is_accepted data_command entry ≡ false
sendme_no_data entry has = rw (has.found, has.by_command) refl

data_no_sendme : (entry : Entry) → HasMessage entry.message data_command → is_good_sendme entry ≡ false
data_no_sendme entry has = rw (has.found, has.by_command) refl

-- One more entry.

entry_packages : (entry : Entry) (log : Log) (body : List ℕ) → keys_in entry.event ≡ None → entry.message ≡ None
    → packaged_by entry.event entry.effects.back ≡ Some body → is_data_body (Some body) ≡ true
    → window_of (entry ∷ log) ≡ after_packaging (window_of log) (back_digest log (own_bodies log ++ body ∷ []))
unfolding window_of
entry_packages entry log body opened none packs counts =
    windows_agree (window_of (entry ∷ log)) (after_packaging (window_of log) (back_digest log (own_bodies log ++ body ∷ [])))
    (more_digests entry log body opened packs counts)
    (same_sendmes entry log (no_message_good entry none))
    (same_accepted entry log (no_message_accepted data_command entry none))

entry_acknowledges : (entry : Entry) (log : Log) → keys_in entry.event ≡ None → packs_data entry ≡ false
    → is_good_sendme entry ≡ true → is_accepted data_command entry ≡ false
    → window_of (entry ∷ log) ≡ after_acknowledging (window_of log)
unfolding window_of
entry_acknowledges entry log opened packs good other =
    windows_agree (window_of (entry ∷ log)) (after_acknowledging (window_of log))
    (same_digests entry log opened packs) (more_sendmes entry log good) (same_accepted entry log other)

entry_accepts : (entry : Entry) (log : Log) → keys_in entry.event ≡ None → packs_data entry ≡ false
    → is_good_sendme entry ≡ false → is_accepted data_command entry ≡ true
    → window_of (entry ∷ log) ≡ after_accepting (window_of log)
unfolding window_of
entry_accepts entry log opened packs other accepted =
    windows_agree (window_of (entry ∷ log)) (after_accepting (window_of log))
    (same_digests entry log opened packs) (same_sendmes entry log other) (more_accepted entry log accepted)

entry_leaves : (entry : Entry) (log : Log) → keys_in entry.event ≡ None → packs_data entry ≡ false
    → is_good_sendme entry ≡ false → is_accepted data_command entry ≡ false
    → window_of (entry ∷ log) ≡ window_of log
unfolding window_of
entry_leaves entry log opened packs other_sendme other_data =
    windows_agree (window_of (entry ∷ log)) (window_of log)
    (same_digests entry log opened packs) (same_sendmes entry log other_sendme) (same_accepted entry log other_data)

-- One more event.

left_true : (a b : Bool) → (a && b) ≡ true → a ≡ true
left_true true b both = refl
left_true false b both = both

pub packaging_moves : (rules : Rules) (log : Log) (event : Event) (body : List ℕ)
    → packaged_by event (effects_after rules log event).back ≡ Some body → is_data_body (Some body) ≡ true
    → window_of (entry_after rules log event ∷ log)
    ≡ after_packaging (window_of log) (back_digest log (own_bodies log ++ body ∷ []))
packaging_moves rules log event body packs counts =
    let is_data : packs_data (entry_after rules log event) ≡ true = ap is_data_body packs ∙ counts in
    entry_packages (entry_after rules log event) log body (data_no_keys rules log event is_data)
    (data_no_message rules log event is_data) packs counts

pub sendme_moves : (rules : Rules) (log : Log) (event : Event) → is_good_sendme (entry_after rules log event) ≡ true
    → window_of (entry_after rules log event ∷ log) ≡ after_acknowledging (window_of log)
sendme_moves rules log event good =
    let entry : Entry = entry_after rules log event in
    let has : HasMessage (message_at log event) sendme_command =
    message_of_command sendme_command (message_at log event) (is_none entry.effects.close)
    (left_true (is_accepted sendme_command entry) (has_stream 0 entry.message) good) in
    entry_acknowledges entry log (message_no_keys log event has.message has.found)
    (message_no_data rules log event has.message has.found) good (sendme_no_data entry has)

pub data_moves : (rules : Rules) (log : Log) (event : Event) → is_accepted data_command (entry_after rules log event) ≡ true
    → window_of (entry_after rules log event ∷ log) ≡ after_accepting (window_of log)
data_moves rules log event accepted =
    let entry : Entry = entry_after rules log event in
    let has : HasMessage (message_at log event) data_command =
    message_of_command data_command (message_at log event) (is_none entry.effects.close) accepted in
    entry_accepts entry log (message_no_keys log event has.message has.found)
    (message_no_data rules log event has.message has.found) (data_no_sendme entry has) accepted

pub others_leave : (rules : Rules) (log : Log) (event : Event) → keys_in event ≡ None
    → packs_data (entry_after rules log event) ≡ false
    → is_good_sendme (entry_after rules log event) ≡ false → is_accepted data_command (entry_after rules log event) ≡ false
    → window_of (entry_after rules log event ∷ log) ≡ window_of log
others_leave rules log event opened packs other_sendme other_data =
    entry_leaves (entry_after rules log event) log opened packs other_sendme other_data

-- The opening.

pub opening_is_fresh : (rules : Rules) (reply : CircuitCell) (keys : LayerKeys) (pad : Option (List ℕ))
    → window_of (entry_after rules [] (Born reply keys pad) ∷ []) ≡ fresh_window
unfolding window_of open_effects
opening_is_fresh rules reply keys pad = refl

-- When a SENDME is due for accepted DATA.

pub due_by_log : (log : Log) → is_sendme_due (after_accepting (window_of log)).accepted ≡ is_sendme_due (accepted_data log + 1)
unfolding window_of
due_by_log log = refl
