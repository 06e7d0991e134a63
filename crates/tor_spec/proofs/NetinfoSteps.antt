-- Addresses one after another.
use Rattle.std.proofs.Common.{ℕ, zero, suc, ◌≡◌, ◌-◌, ◌<◌, ◌≤◌, [], ◌∷◌, List, length, drop, length-drop, false, refl, arith, Some, None}
use Rattle.std.specs.Prelude.{option_and_then, is_some}
use Rattle.tor_spec.specs.Netinfo.{behind_address, behind_addresses, behind_list, is_netinfo}

pub one_address : (n : ℕ) (bytes more : List ℕ) → 0 < n → behind_address bytes ≡ Some more
    → behind_addresses n bytes ≡ behind_addresses (n - 1) more
unfolding behind_addresses
one_address zero bytes more h e = absurd (omega arith)
one_address (suc n) bytes more h e = let less : suc n - 1 ≡ n = omega arith in rw (e, less) refl

pub no_address : (n : ℕ) (bytes : List ℕ) → 0 < n → behind_address bytes ≡ None → behind_addresses n bytes ≡ None
unfolding behind_addresses
no_address zero bytes h e = absurd (omega arith)
no_address (suc n) bytes h e = rw e refl

pub all_addresses : (bytes : List ℕ) → behind_addresses 0 bytes ≡ Some bytes
unfolding behind_addresses
all_addresses bytes = refl

nothing_behind : (bytes : List ℕ) → length bytes ≤ 0 → is_some (option_and_then behind_list (behind_address bytes)) ≡ false
unfolding behind_address
nothing_behind [] h = refl
nothing_behind (b ∷ bytes) h = absurd (omega arith)

-- A payload that is shorter than the time isn't NETINFO's.
pub short_netinfo : (payload : List ℕ) → length payload < 4 → is_netinfo payload ≡ false
unfolding is_netinfo
short_netinfo payload h = nothing_behind (drop 4 payload) (simp length-drop (omega arith))
