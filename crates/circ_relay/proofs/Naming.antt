-- What a message names, and an order Reach.
use Rattle.std.proofs.Common.{◌≡◌, ℕ, ◌==◌, ◌&&◌, ◌||◌, List, length, Bool, true, false, if◌then◌else◌, Option, Some, None, refl, sym, ap, subst, ◌∙◌, nat_le}
use Rattle.std.specs.Prelude.{is_some}
use Rattle.tor_spec.specs.RelayCell.{data_command, end_command, begin_command, fits_length}
use Rattle.tor_spec.specs.Begin.{Target, begin_target}
use Rattle.tor_spec.specs.Ends.{end_reason}
use Rattle.tor_spec.specs.Extend.{Address}
use Rattle.tor_spec.specs.CellCommands.{relay_early_command}
use Rattle.circuit_model.specs.Events.{Event}
use Rattle.circuit_model.specs.declared.event.Event.TheVariants.{Born, Forward, Backward, Connected, Data, Ended, Drained, Freed, Linked, Answered, Failed}
use Rattle.circuit_model.specs.Rules.{Rules, allowed_address}
use Rattle.circuit_model.specs.Log.{Log, Message, Order, Effects, StreamKey, no_effects, closing, is_closed}
use Rattle.circuit_model.specs.declared.effects.Order.TheVariants.{Reach, Carry, Close}
use Rattle.circuit_model.specs.Opened.{plain_body, recognises}
use Rattle.circuit_model.specs.Places.{Place, places, place_at, live_place, taken_places}
use Rattle.circuit_model.specs.Windows.{accept_grant, carried_count}
use Rattle.circuit_model.specs.Received.{received, message_in_body, message_of, message_at, relay_early_limit, early_count}
use Rattle.circuit_model.specs.declared.message.Received.TheVariants.{TooManyEarly, Unrecognised, TooLong, ForUs}
use Rattle.circuit_model.specs.Streams.{place_limit, reaching, beginning, data_at, end_at, ended_effects}
use Rattle.circuit_model.specs.Effects.{message_effects, open_effects, effects_after}
use Rattle.circuit_model.specs.Words.{log}
use Rattle.circuit_model.proofs.Reading.{read-effects}
use Rattle.circ_relay.specs.PlacesOfLog.{is_edge_report}
use Rattle.circ_relay.proofs.Others.{quiet-edge, acknowledging-edge, behind-end}
use Rattle.circ_relay.proofs.Reports.{connected-orders, data-orders, drained-orders, freed-orders}
use Rattle.circ_relay.proofs.Lists.{same_some}

place-by : (log : Log) (command : ℕ) (plain : List ℕ) (m : Message) (early recognised fits : Bool) →
    message_of (if early then TooManyEarly
    else (if recognised then (if fits then ForUs (message_in_body log command plain) else TooLong) else Unrecognised plain))
    ≡ Some m →
    m.place ≡ live_place log m.stream
place-by log command plain m true recognised fits is = cc
place-by log command plain m false false fits is = cc
place-by log command plain m false true false is = cc
place-by log command plain m false true true is =
    subst (λ (x : Message). x.place ≡ live_place log x.stream) (same_some (message_in_body log command plain) m is) refl

place-in : (log : Log) (command : ℕ) (body : List ℕ) (m : Message) → message_of (received log command body) ≡ Some m
    → m.place ≡ live_place log m.stream
unfolding received
place-in log command body m is =
    place-by log command (plain_body log body) m ((command == relay_early_command) && nat_le relay_early_limit (early_count log))
    (recognises log (plain_body log body)) (fits_length (plain_body log body)) is

when-open : (closed : Bool) (x : Option Message) (m : Message) → (if closed then None else x) ≡ Some m → x ≡ Some m
when-open true x m is = cc
when-open false x m is = is

nothing-some : (m : Message) → ◌≡◌ {A = Option Message} None (Some m) → ⊥
nothing-some m is = cc

pub message_place : (log : Log) (e : Event) (m : Message) → message_at log e ≡ Some m → m.place ≡ live_place log m.stream
message_place log (Forward command body) m is =
    place-in log command body m (when-open (is_closed log) (message_of (received log command body)) m is)
message_place log (Born reply keys pad) m is = absurd (nothing-some m (when-open (is_closed log) None m is))
message_place log (Backward body) m is = absurd (nothing-some m (when-open (is_closed log) None m is))
message_place log (Connected serial) m is = absurd (nothing-some m (when-open (is_closed log) None m is))
message_place log (Data serial bytes) m is = absurd (nothing-some m (when-open (is_closed log) None m is))
message_place log (Ended serial reason) m is = absurd (nothing-some m (when-open (is_closed log) None m is))
message_place log (Drained serial) m is = absurd (nothing-some m (when-open (is_closed log) None m is))
message_place log (Freed serial) m is = absurd (nothing-some m (when-open (is_closed log) None m is))
message_place log Linked m is = absurd (nothing-some m (when-open (is_closed log) None m is))
message_place log (Answered payload) m is = absurd (nothing-some m (when-open (is_closed log) None m is))
message_place log Failed m is = absurd (nothing-some m (when-open (is_closed log) None m is))

-- What an order Reach names.

pub record IsNaming (log : Log) (effects : Effects) : Type 0 where
  pub names : (key : StreamKey) (to : Address) → effects.edge ≡ Some (Reach key to) →
      (key.serial ≡ length (places log)) × ((key.stream == 0) ≡ false) × (live_place log key.stream ≡ None)

order-none : (key : StreamKey) (to : Address) → ◌≡◌ {A = Option Order} None (Some (Reach key to)) → ⊥
order-none key to is = cc

close-reach : (k key : StreamKey) (reason : ℕ) (to : Address) → Some (Close k reason) ≡ Some (Reach key to) → ⊥
close-reach k key reason to is = cc

carry-reach : (k key : StreamKey) (bytes : List ℕ) (to : Address) → Some (Carry k bytes) ≡ Some (Reach key to) → ⊥
carry-reach k key bytes to is = cc

reach-key : Option Order → StreamKey → StreamKey
reach-key (Some (Reach key to)) d = key
reach-key order d = d

same-key : (k key : StreamKey) (a to : Address) → Some (Reach k a) ≡ Some (Reach key to) → k ≡ key
unfolding reach-key
same-key k key a to is = ap (λ (o : Option Order). reach-key o k) is

none-naming : (log : Log) (x : Effects) → x.edge ≡ None → IsNaming log x
none-naming log x none = record { names = λ key to is. absurd (order-none key to (sym none ∙ is)) }

if-naming : (log : Log) (b : Bool) (x y : Effects) → IsNaming log x → IsNaming log y → IsNaming log (if b then x else y)
if-naming log true x y p q = p
if-naming log false x y p q = q

reaching-naming : (log : Log) (stream : ℕ) (to : Option Address) → (stream == 0) ≡ false → live_place log stream ≡ None
    → IsNaming log (reaching log stream to)
reaching-naming log stream None nonzero fresh = none-naming log _ refl
reaching-naming log stream (Some a) nonzero fresh = record {
  names = λ key to is.
      let same : record { stream = stream; serial = length (places log) } ≡ key =
      same-key (record { stream = stream; serial = length (places log) }) key a to is in (
        sym (ap (λ (k : StreamKey). k.serial) same),
        ap (λ (k : StreamKey). k.stream == 0) (sym same) ∙ nonzero,
        ap (λ (k : StreamKey). live_place log k.stream) (sym same) ∙ fresh,
      );
}

beginning-naming : (rules : Rules) (log : Log) (stream : ℕ) (target : Option Target) → (stream == 0) ≡ false
    → live_place log stream ≡ None → IsNaming log (beginning rules log stream target)
beginning-naming rules log stream None nonzero fresh = none-naming log _ refl
beginning-naming rules log stream (Some target) nonzero fresh =
    if-naming log (nat_le place_limit (taken_places log)) _ _ (none-naming log _ refl)
    (reaching-naming log stream (allowed_address rules target) nonzero fresh)

or-left : (a b : Bool) → (a || b) ≡ false → a ≡ false
or-left true b is = cc
or-left false b is = refl

or-right : (a b : Bool) → (a || b) ≡ false → b ≡ false
or-right true b is = cc
or-right false b is = is

none-by : (x : Option ℕ) → is_some x ≡ false → x ≡ None
none-by None is = refl
none-by (Some n) is = cc

begin-by : (rules : Rules) (log : Log) (m : Message) → m.place ≡ live_place log m.stream → (b : Bool)
    → ((m.stream == 0) || is_some m.place) ≡ b →
    IsNaming log (if b then closing 1 else beginning rules log m.stream (begin_target m.payload))
begin-by rules log m place true is = none-naming log _ refl
begin-by rules log m place false is =
    beginning-naming rules log m.stream (begin_target m.payload) (or-left (m.stream == 0) (is_some m.place) is)
    (sym place ∙ none-by m.place (or-right (m.stream == 0) (is_some m.place) is))

data-naming : (log : Log) (m : Message) (place : Option ℕ) → IsNaming log (data_at log m place)
data-naming log m None = none-naming log _ (acknowledging-edge log m)
data-naming log m (Some serial) =
    if-naming log (nat_le (accept_grant log serial) (carried_count log serial)) _ _ (none-naming log _ refl)
    (record { names = λ key to is. absurd (carry-reach (record { stream = m.stream; serial = serial }) key m.payload to is) })

end-naming : (log : Log) (m : Message) (place : Option ℕ) → IsNaming log (end_at m place)
end-naming log m None = none-naming log _ refl
end-naming log m (Some serial) =
    record {
      names =
          λ key to is. absurd (close-reach (record { stream = m.stream; serial = serial }) key (end_reason m.payload) to is);
    }

message-naming : (rules : Rules) (log : Log) (m : Message) → m.place ≡ live_place log m.stream
    → IsNaming log (message_effects rules log m)
unfolding message_effects
message-naming rules log m place =
    if-naming log (m.command == begin_command) _ _ (begin-by rules log m place ((m.stream == 0) || is_some m.place) refl)
    (if-naming log (m.command == data_command) _ _ (data-naming log m m.place)
    (if-naming log (m.command == end_command) _ _ (end-naming log m m.place)
    (none-naming log _ (behind-end rules log m).none)))

ended-naming : (log : Log) (reason : ℕ) (place : Option Place) → IsNaming log (ended_effects log reason place)
ended-naming log reason None = none-naming log _ refl
ended-naming log reason (Some place) = record { names = λ key to is. absurd (close-reach place.key key reason to is) }

-- An event with a message, and one without.
with-message : (rules : Rules) (log : Log) (e : Event) (m : Message) → message_at log e ≡ Some m
    → IsNaming log (effects_after rules log e)
with-message rules log e m found =
    subst (λ x. IsNaming log x) (sym (read-effects rules log e m found))
    (message-naming rules log m (message_place log e m found))

forward-naming : (rules : Rules) (log : Log) (e : Event) → is_edge_report e ≡ false → (x : Option Message) → message_at log e ≡ x
    → IsNaming log (effects_after rules log e)
forward-naming rules log e other None is = none-naming log _ (quiet-edge rules log e is other)
forward-naming rules log e other (Some m) is = with-message rules log e m is

pub event_names : (rules : Rules) (log : Log) (e : Event) → IsNaming log (effects_after rules log e)
unfolding open_effects
event_names rules log (Born reply keys pad) =
    forward-naming rules log (Born reply keys pad) refl (message_at log (Born reply keys pad)) refl
event_names rules log (Forward command body) =
    forward-naming rules log (Forward command body) refl (message_at log (Forward command body)) refl
event_names rules log (Backward body) = forward-naming rules log (Backward body) refl (message_at log (Backward body)) refl
event_names rules log (Connected serial) = none-naming log _ (connected-orders rules log serial)
event_names rules log (Data serial bytes) = none-naming log _ (data-orders rules log serial bytes)
event_names rules log (Ended serial reason) =
    if-naming log (is_closed log) _ _ (none-naming log no_effects refl) (ended-naming log reason (place_at log serial))
event_names rules log (Drained serial) = none-naming log _ (drained-orders rules log serial)
event_names rules log (Freed serial) = none-naming log _ (freed-orders rules log serial)
event_names rules log Linked = forward-naming rules log Linked refl (message_at log Linked) refl
event_names rules log (Answered payload) =
    forward-naming rules log (Answered payload) refl (message_at log (Answered payload)) refl
event_names rules log Failed = forward-naming rules log Failed refl (message_at log Failed) refl
