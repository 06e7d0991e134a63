-- What goes on the legs.
use Rattle.std.proofs.Common.{◌≡◌, ℕ, ◌+◌, ◌<◌, ◌==◌, ◌&&◌, List, [], ◌∷◌, ◌++◌, length, Bool, true, false, if◌then◌else◌, Option, Some, None, refl, ◌∙◌, arith, not, nat_le, suc, add-zero, append_assoc, option_to_list, option_map}
use Rattle.std.proofs.lemmas.List.{append-nil}
use Rattle.tor_spec.specs.RelayCell.{truncate_command}
use Rattle.tor_spec.specs.Extend.{handshake_reply}
use Rattle.circuit_model.specs.Events.{CircuitCell, Event}
use Rattle.circuit_model.specs.declared.event.Event.TheVariants.{Born, Forward, Backward, Connected, Data, Ended, Drained, Freed, Linked, Answered, Failed}
use Rattle.circuit_model.specs.Rules.{Rules}
use Rattle.circuit_model.specs.Log.{Log, Message, Effects, no_effects, is_closed, pushed}
use Rattle.circuit_model.specs.declared.next_hop.NextHop.{NextHop}
use Rattle.circuit_model.specs.declared.next_hop.NextHop.TheVariants.{Absent, Dialling, Waiting, There}
use Rattle.circuit_model.specs.NextHop.{next_hop, has_leg, is_absent, is_linked, leg_count}
use Rattle.circuit_model.specs.Opened.{keys_in, reply_in, born_keys, born_reply}
use Rattle.circuit_model.specs.Packaged.{back_bodies}
use Rattle.circuit_model.specs.Places.{Place, place_at}
use Rattle.circuit_model.specs.Received.{Received, received, message_in, message_at}
use Rattle.circuit_model.specs.declared.message.Received.TheVariants.{TooManyEarly, Unrecognised, TooLong, ForUs}
use Rattle.circuit_model.specs.Streams.{connected_effects, edge_data_effects}
use Rattle.circuit_model.specs.Extending.{truncate_effects, extending}
use Rattle.circuit_model.specs.Effects.{message_effects, passed_on, forward_effects, open_effects, effects_after}
use Rattle.circuit_model.specs.Sent.{leg_cells, destroy, sent_to_hop, sealed, all_sealed}
use Rattle.circuit_model.specs.Words.{log, effects}
use Rattle.circuit_model.proofs.Reading.{read-effects}
use Rattle.circuit_model.proofs.Tame.{message-tame, drained-tame, ended-tame}

message-not_linked_in : (l : Log) (e : Event) (m : Message) → message_in l e ≡ Some m → is_linked e ≡ false
message-not_linked_in l (Forward command body) m found = refl
message-not_linked_in l (Born reply keys pad) m found = refl
message-not_linked_in l (Backward body) m found = refl
message-not_linked_in l (Connected serial) m found = refl
message-not_linked_in l (Data serial bytes) m found = refl
message-not_linked_in l (Ended serial reason) m found = refl
message-not_linked_in l (Drained serial) m found = refl
message-not_linked_in l (Freed serial) m found = refl
message-not_linked_in l Linked m found = cc
message-not_linked_in l (Answered payload) m found = refl
message-not_linked_in l Failed m found = refl

not_linked-by : (closed : Bool) (l : Log) (e : Event) (m : Message) → (if closed then None else message_in l e) ≡ Some m
    → is_linked e ≡ false
not_linked-by true l e m found = cc
not_linked-by false l e m found = message-not_linked_in l e m found

has_leg-not_absent : (hop : NextHop) → has_leg hop ≡ true → not (is_absent hop) ≡ true
has_leg-not_absent Absent leg = cc
has_leg-not_absent Dialling leg = cc
has_leg-not_absent Waiting leg = refl
has_leg-not_absent There leg = refl

does-truncate : (rules : Rules) (l : Log) (m : Message) → m.command ≡ truncate_command
    → message_effects rules l m ≡ truncate_effects l
unfolding message_effects
does-truncate rules l m command = rw command

self_eq : (n : ℕ) → (n == n) ≡ true
self_eq n = grind arith

pub truncate_ends_the_leg : (rules : Rules) (h : List Event) (e : Event) (m : Message) → message_at (log rules h) e ≡ Some m
    → m.command ≡ truncate_command → has_leg (next_hop (log rules h)) ≡ true → 0 < leg_count (log rules h) →
    leg_cells (log rules (e ∷ h)) (leg_count (log rules h)) ≡ leg_cells (log rules h) (leg_count (log rules h)) ++ destroy 3 ∷ []
truncate_ends_the_leg rules h e m found command leg some =
    let l : Log = log rules h in
    let does : effects_after rules l e ≡ truncate_effects l = read-effects rules l e m found ∙ does-truncate rules l m command in
    let other : is_linked e ≡ false = not_linked-by (is_closed l) l e m found in
    let cut : not (is_absent (next_hop l)) ≡ true = has_leg-not_absent (next_hop l) leg in
    let positive : (leg_count l == 0) ≡ false = grind arith in
    rw (does, other, cut, leg, positive, self_eq (leg_count l))

-- Without a next hop that has a leg, only a linking gives a cell.

passed_on-none : (hop : NextHop) (cell : CircuitCell) → has_leg hop ≡ false → (passed_on hop cell).forth ≡ None
passed_on-none Absent cell leg = refl
passed_on-none Dialling cell leg = refl
passed_on-none Waiting cell leg = cc
passed_on-none There cell leg = cc

received-none : (rules : Rules) (l : Log) (command : ℕ) (r : Received) → has_leg (next_hop l) ≡ false
    → (forward_effects rules l command r).forth ≡ None
received-none rules l command TooManyEarly leg = refl
received-none rules l command (Unrecognised plain) leg = passed_on-none (next_hop l) _ leg
received-none rules l command TooLong leg = refl
received-none rules l command (ForUs message) leg = (message-tame rules l message).no_cell

connected-none : (l : Log) (place : Option Place) → (connected_effects l place).forth ≡ None
connected-none l None = refl
connected-none l (Some place) = refl

edge_data-none : (l : Log) (bytes : List ℕ) (place : Option Place) → (edge_data_effects l bytes place).forth ≡ None
edge_data-none l bytes None = refl
edge_data-none l bytes (Some place) = refl

if-none : (b : Bool) (x y : Effects) → x.forth ≡ None → y.forth ≡ None → (if b then x else y).forth ≡ None
if-none true x y p q = p
if-none false x y p q = q

extending-none : (l : Log) (handshake : Option (List ℕ)) → (extending l handshake).forth ≡ None
extending-none l None = refl
extending-none l (Some handshake) = if-none (nat_le (length handshake) 496) _ _ refl refl

open-none : (rules : Rules) (l : Log) (e : Event) → is_linked e ≡ false → has_leg (next_hop l) ≡ false
    → (open_effects rules l e).forth ≡ None
unfolding open_effects
open-none rules l (Forward command body) other leg = received-none rules l command (received l command body) leg
open-none rules l (Born reply keys pad) other leg = refl
open-none rules l (Backward body) other leg = refl
open-none rules l (Connected serial) other leg = connected-none l (place_at l serial)
open-none rules l (Data serial bytes) other leg = edge_data-none l bytes (place_at l serial)
open-none rules l (Ended serial reason) other leg = (ended-tame l reason (place_at l serial)).no_cell
open-none rules l (Drained serial) other leg = (drained-tame l (place_at l serial)).no_cell
open-none rules l (Freed serial) other leg = refl
open-none rules l Linked other leg = cc
open-none rules l (Answered payload) other leg = extending-none l (handshake_reply payload)
open-none rules l Failed other leg = refl

and_false : (b : Bool) → (b && false) ≡ false
and_false true = refl
and_false false = refl

append-nothing : (b : Bool) (xs : List CircuitCell) → xs ++ (if b then [] else []) ≡ xs
append-nothing true xs = append-nil xs
append-nothing false xs = append-nil xs

pub no_leg_no_cells : (rules : Rules) (h : List Event) (e : Event) (leg : ℕ) → is_linked e ≡ false
    → has_leg (next_hop (log rules h)) ≡ false →
    sent_to_hop (log rules (e ∷ h)) leg ≡ sent_to_hop (log rules h) leg
no_leg_no_cells rules h e leg other none =
    let l : Log = log rules h in
    rw (if-none (is_closed l) no_effects (open_effects rules l e) refl (open-none rules l e other none), none, and_false)
    (append-nothing _ (sent_to_hop l leg))

-- Leg 0.

append_sealed : (key : List ℕ) (n : ℕ) (bodies : List (List ℕ)) (body : List ℕ)
    → all_sealed key n (bodies ++ body ∷ []) ≡ all_sealed key n bodies ++ sealed key (n + length bodies) body ∷ []
append_sealed key n [] body = rw add-zero
append_sealed key n (first ∷ bodies) body =
    let more : (n + 1) + length bodies ≡ n + suc (length bodies) = omega arith in
    rw (append_sealed key (n + 1) bodies body, more)

not_born-reply : (e : Event) → keys_in e ≡ None → reply_in e ≡ None
not_born-reply (Born reply keys pad) other = cc
not_born-reply (Forward command body) other = refl
not_born-reply (Backward body) other = refl
not_born-reply (Connected serial) other = refl
not_born-reply (Data serial bytes) other = refl
not_born-reply (Ended serial reason) other = refl
not_born-reply (Drained serial) other = refl
not_born-reply (Freed serial) other = refl
not_born-reply Linked other = refl
not_born-reply (Answered payload) other = refl
not_born-reply Failed other = refl

pushed_sealed : (key : List ℕ) (reply : List CircuitCell) (bodies : List (List ℕ)) (back : Option (List ℕ)) →
    reply ++ all_sealed key 0 (pushed bodies back) ≡ (reply ++ all_sealed key 0 bodies)
    ++ option_to_list (option_map (sealed key (length bodies)) back)
pushed_sealed key reply bodies None = simp append-nil
pushed_sealed key reply bodies (Some body) =
    let place : 0 + length bodies ≡ length bodies = omega arith in
    rw (append_sealed key 0 bodies body, place) (simp append_assoc)

pub client_leg_grows : (rules : Rules) (h : List Event) (e : Event) → keys_in e ≡ None →
    leg_cells (log rules (e ∷ h)) 0 ≡ leg_cells (log rules h) 0
    ++ option_to_list
    (option_map (sealed (born_keys (log rules h)).kb (length (back_bodies (log rules h)))) (effects rules h e).back)
client_leg_grows rules h e other =
    let l : Log = log rules h in
    let same : reply_in e ≡ None = not_born-reply e other in
    rw (other, same) (pushed_sealed (born_keys l).kb (option_to_list (born_reply l)) (back_bodies l) (effects rules h e).back)

pub hop_leg_grows : (rules : Rules) (h : List Event) (e : Event) (leg : ℕ)
    → (more : List CircuitCell) × (sent_to_hop (log rules (e ∷ h)) leg ≡ sent_to_hop (log rules h) leg ++ more)
hop_leg_grows rules h e leg = (_, refl)
