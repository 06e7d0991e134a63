-- Relay cells from the client's side with this relay's layer of encryption taken off, and which of
-- them are recognised (tor-spec, "Routing relay cells", "Relay cells").
use Rattle.std.specs.Prelude.{ℕ, ◌*◌, [], ◌∷◌, ◌++◌, List, Bool, true, false, if◌then◌else◌, Option, Some, None, unwrap_or, replicate}
use Rattle.crypto_spec.specs.HopLayer.{layered, is_recognised}
use Rattle.crypto_spec.specs.RunningDigest.{running_digest}
use Rattle.kdf_tor.specs.declared.LayerKeys.{LayerKeys}
use Rattle.circuit_model.specs.Events.{Event, CircuitCell}
use Rattle.circuit_model.specs.declared.event.Event.TheVariants.{Born, Forward}
use Rattle.circuit_model.specs.Log.{Log, count_of, newest}

abbrev pub keys_in : Event → Option LayerKeys
keys_in (Born reply keys pad) = Some keys
keys_in event = None

-- Stands in for the keys before Born.
abbrev pub no_keys : LayerKeys
no_keys = record { df = replicate 20 0; db = replicate 20 0; kf = replicate 16 0; kb = replicate 16 0 }

-- The keys that the circuit was opened with.
abbrev pub born_keys : Log → LayerKeys
born_keys log = unwrap_or (newest (λ entry. keys_in entry.event) log) no_keys

abbrev pub reply_in : Event → Option CircuitCell
reply_in (Born reply keys pad) = Some reply
reply_in event = None

-- The cell that answered the opening.
abbrev pub born_reply : Log → Option CircuitCell
born_reply log = newest (λ entry. reply_in entry.event) log

abbrev pub pad_in : Event → Option (List ℕ)
pad_in (Born reply keys pad) = pad
pad_in event = None

-- The key of the padding that the circuit was opened with, if there is one.
abbrev pub born_pad : Log → Option (List ℕ)
born_pad log = newest (λ entry. pad_in entry.event) log

abbrev pub is_forward : Event → Bool
is_forward (Forward command body) = true
is_forward event = false

-- How many relay cells came from the client's side.
abbrev pub forward_count : Log → ℕ
forward_count log = count_of (λ entry. is_forward entry.event) log

-- The next forward body with this relay's layer taken off: body number n of its direction, from 0, uses
-- the 509 bytes of the keystream from number 509 n on.
abbrev pub plain_body : Log → List ℕ → List ℕ
plain_body log body = layered (born_keys log).kf (509 * forward_count log) body

-- The recognised bodies with one more plain body, if it is recognised behind them.
abbrev pub with_recognised : List ℕ → List (List ℕ) → List ℕ → List (List ℕ)
with_recognised seed bodies plain =
    if is_recognised seed bodies plain then bodies ++ plain ∷ [] else bodies

-- The recognised bodies with one more forward body, if the event is one.
abbrev pub recognised_with : Log → List (List ℕ) → Event → List (List ℕ)
recognised_with log bodies (Forward command body) = with_recognised (born_keys log).df bodies (plain_body log body)
recognised_with log bodies event = bodies

-- The plain bodies that were recognised, oldest first. Others leave the running digest as it was.
abbrev pub recognised_bodies : Log → List (List ℕ)
recognised_bodies [] = []
recognised_bodies (entry ∷ log) = recognised_with log (recognised_bodies log) entry.event

-- Whether this plain body is recognised as the next.
abbrev pub recognises : Log → List ℕ → Bool
recognises log plain = is_recognised (born_keys log).df (recognised_bodies log) plain

-- The 20 bytes of the forward running digest with this plain body as the next.
abbrev pub digest_with : Log → List ℕ → List ℕ
digest_with log plain = running_digest (born_keys log).df (recognised_bodies log ++ plain ∷ [])
