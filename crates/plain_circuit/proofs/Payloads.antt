-- How long payloads are.
use Rattle.std.proofs.Common.{◌≡◌, ℕ, ◌≤◌, List, length, drop, arith, length-drop, length-take}
use Rattle.tor_spec.specs.RelayCell.{relay_head, payload_of}

pub payload_short : (body : List ℕ) → length body ≡ 509 → length (payload_of body) ≤ 498
unfolding payload_of
payload_short body long = omega (arith, length-take (relay_head body).length (drop 11 body), length-drop 11 body)
