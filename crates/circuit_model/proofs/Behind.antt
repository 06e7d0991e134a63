-- What goes back, and in which order.
use Rattle.std.proofs.Common.{◌≡◌, ℕ, ◌<◌, ◌==◌, List, [], ◌∷◌, ◌++◌, false, Option, Some, None, refl, ◌∙◌, arith, nat_le, option_to_list}
use Rattle.std.proofs.lemmas.List.{append-nil}
use Rattle.tor_spec.specs.Begin.{Target, begin_target}
use Rattle.tor_spec.specs.RelayCell.{begin_command}
use Rattle.circuit_model.specs.Events.{Event}
use Rattle.circuit_model.specs.declared.event.Event.TheVariants.{Backward}
use Rattle.circuit_model.specs.Rules.{Rules, allowed_address}
use Rattle.circuit_model.specs.Log.{Log, Message, pushed, is_closed}
use Rattle.circuit_model.specs.Packaged.{back_bodies}
use Rattle.circuit_model.specs.Places.{taken_places}
use Rattle.circuit_model.specs.Received.{message_at}
use Rattle.circuit_model.specs.Streams.{ending}
use Rattle.circuit_model.specs.Effects.{message_effects, open_effects}
use Rattle.circuit_model.specs.Words.{log, effects}
use Rattle.circuit_model.proofs.Reading.{read-effects}

pushed-append : {A : Type 0} (xs : List A) (x : Option A) → pushed xs x ≡ xs ++ option_to_list x
pushed-append xs None = simp append-nil
pushed-append xs (Some x) = refl

pub one_body_back : (rules : Rules) (h : List Event) (e : Event)
    → back_bodies (log rules (e ∷ h)) ≡ back_bodies (log rules h) ++ option_to_list (effects rules h e).back
one_body_back rules h e = pushed-append (back_bodies (log rules h)) (effects rules h e).back

pub backward_goes_as_it_is : (rules : Rules) (h : List Event) (body : List ℕ) → is_closed (log rules h) ≡ false
    → back_bodies (log rules (Backward body ∷ h)) ≡ back_bodies (log rules h) ++ body ∷ []
unfolding open_effects
backward_goes_as_it_is rules h body live = rw live

does-refuse : (rules : Rules) (l : Log) (m : Message) (target : Target) → m.command ≡ begin_command → (m.stream == 0) ≡ false
    → m.place ≡ None → begin_target m.payload ≡ Some target → nat_le 32 (taken_places l) ≡ false
    → allowed_address rules target ≡ None →
    message_effects rules l m ≡ ending l m.stream 4
unfolding message_effects
does-refuse rules l m target command stream free asked room address = rw (command, stream, free, asked, room, address)

pub refused_begin_ends : (rules : Rules) (h : List Event) (e : Event) (m : Message) (target : Target) →
    message_at (log rules h) e ≡ Some m → m.command ≡ begin_command → 0 < m.stream → m.place ≡ None
    → begin_target m.payload ≡ Some target → taken_places (log rules h) < 32 → allowed_address rules target ≡ None →
    effects rules h e ≡ ending (log rules h) m.stream 4
refused_begin_ends rules h e m target found command stream free asked room address =
    let l : Log = log rules h in
    let nonzero : (m.stream == 0) ≡ false = grind arith in
    let below : nat_le 32 (taken_places l) ≡ false = grind arith in
    read-effects rules l e m found ∙ does-refuse rules l m target command nonzero free asked below address
