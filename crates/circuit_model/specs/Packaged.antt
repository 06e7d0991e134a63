-- The relay bodies that this relay sends towards the client: those that it packages, and those of the
-- next hop (tor-spec, "Routing relay cells", "Relay cells").
use Rattle.std.specs.Prelude.{ℕ, ◌*◌, [], ◌∷◌, ◌++◌, List, length, Option, Some, None, take}
use Rattle.crypto_spec.specs.Keystream.{keystream_part}
use Rattle.crypto_spec.specs.RunningDigest.{running_digest}
use Rattle.tor_spec.specs.RelayCell.{relay_body, with_digest, with_padding}
use Rattle.circuit_model.specs.Events.{Event}
use Rattle.circuit_model.specs.declared.event.Event.TheVariants.{Backward}
use Rattle.circuit_model.specs.Log.{Log, Effects, collected, no_effects}
use Rattle.circuit_model.specs.Opened.{born_keys, born_pad}

-- The body that an event has packaged: what goes back, unless it is the next hop's.
abbrev pub packaged_by : Event → Option (List ℕ) → Option (List ℕ)
packaged_by (Backward body) back = None
packaged_by event back = back

-- All bodies that this relay packaged, oldest first.
abbrev pub own_bodies : Log → List (List ℕ)
own_bodies log = collected (λ entry. packaged_by entry.event entry.effects.back) log

-- All bodies that went back, the next hop's among them, oldest first.
abbrev pub back_bodies : Log → List (List ℕ)
back_bodies log = collected (λ entry. entry.effects.back) log

-- The backward running digest after these bodies.
abbrev pub back_digest : Log → List (List ℕ) → List ℕ
back_digest log bodies = running_digest (born_keys log).db bodies

-- The Digest is the first four bytes of the running digest of all packaged bodies with this one.
unfoldable pub digested : Log → List ℕ → List ℕ
digested log body = with_digest body (take 4 (back_digest log (own_bodies log ++ body ∷ [])))

-- Body number n that this relay packages, from 0, with its padding: by a key it is the keystream from
-- number 509 n on, at the offsets that it has in the body; without one it is zero. That it comes from
-- counter mode is this relay's own rule (tor-spec, "Relay cells", asks for random bytes).
abbrev pub padded_by : Option (List ℕ) → ℕ → List ℕ → List ℕ
padded_by (Some key) n body = with_padding body (keystream_part key (509 * n) 509)
padded_by None n body = body

-- The next body that this relay packages, with its padding and its Digest.
abbrev pub finished : Log → List ℕ → List ℕ
finished log body = digested log (padded_by (born_pad log) (length (own_bodies log)) body)

-- The next packaged body with this relay command, StreamID and data.
abbrev pub package_of : Log → ℕ → ℕ → List ℕ → List ℕ
package_of log command stream payload = finished log (relay_body command stream payload)

abbrev pub packaging : Log → ℕ → ℕ → List ℕ → Effects
packaging log command stream payload = record no_effects { back = Some (package_of log command stream payload) }
