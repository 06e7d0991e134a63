-- At most as many DESTROYs wait on a channel as steps were made.
use Rattle.std.proofs.Common.{◌≡◌, ℕ, ◌+◌, ◌++◌, ◌<◌, ◌≤◌, ◌==◌, not, filter, Bool, true, false, if◌then◌else◌, List, [], ◌∷◌, length, get_or, slice_get, slice_set, Option, Some, sym, ap, ◌∙◌, subst, arith, zero, suc, refl}
use Rattle.switch_machine.specs.State.{ChannelState, CircuitState, State}
use Rattle.switch_machine.specs.Calls.Take.{without_destroys}
use Rattle.switch_machine.proofs.PlainLists.{length-all_there}
use Rattle.switch_core.specs.Meaning.{LanesFit, state_of}
use Rattle.switch_core.specs.declared.counters.Counters.{Counters}

pub lanes_more : (m n : ℕ) (channels : List ChannelState) → m ≤ n → LanesFit m channels → LanesFit n channels
lanes_more m n channels below old = record { fits = λ i channel there. omega (arith, below, old.fits i channel there) }

nothing : (channels : List ChannelState) (i : ℕ) (channel : ChannelState) → channels ≡ [] → slice_get channels i ≡ Some channel
    → ⊥
nothing [] i channel none there = cc
nothing (x ∷ channels) i channel none there = cc

pub no_lanes : (n : ℕ) (channels : List ChannelState) → channels ≡ [] → LanesFit n channels
no_lanes n channels none = record { fits = λ i channel there. absurd (nothing channels i channel none there) }

push-at : (channels : List ChannelState) (last : ChannelState) (n i : ℕ) (channel : ChannelState)
    → slice_get (channels ++ last ∷ []) i ≡ Some channel →
    ((j : ℕ) (x : ChannelState) → slice_get channels j ≡ Some x → length x.lane ≤ n) → length last.lane ≤ n
    → length channel.lane ≤ n
push-at [] last n zero channel there old new = let is : last ≡ channel =
    cc in subst (λ (x : ChannelState). length x.lane ≤ n) is new
push-at [] last n (suc i) channel there old new = absurd cc
push-at (x ∷ channels) last n zero channel there old new = old zero channel there
push-at (x ∷ channels) last n (suc i) channel there old new =
    push-at channels last n i channel there (λ j y at. old (suc j) y at) new

pub lanes_push : (n : ℕ) (channels : List ChannelState) (last : ChannelState) → LanesFit n channels → length last.lane ≤ n
    → LanesFit n (channels ++ last ∷ [])
lanes_push n channels last old new = record { fits = λ i channel there. push-at channels last n i channel there old.fits new }

set-at : (channels : List ChannelState) (m n : ℕ) (new : ChannelState) (i : ℕ) (channel : ChannelState)
    → slice_get (slice_set channels m new) i ≡ Some channel →
    ((j : ℕ) (x : ChannelState) → slice_get channels j ≡ Some x → length x.lane ≤ n) → length new.lane ≤ n
    → length channel.lane ≤ n
set-at [] m n new i channel there old fits = old i channel there
set-at (x ∷ channels) zero n new zero channel there old fits = let is : new ≡ channel =
    cc in subst (λ (y : ChannelState). length y.lane ≤ n) is fits
set-at (x ∷ channels) zero n new (suc i) channel there old fits = old (suc i) channel there
set-at (x ∷ channels) (suc m) n new zero channel there old fits = old zero channel there
set-at (x ∷ channels) (suc m) n new (suc i) channel there old fits =
    set-at channels m n new i channel there (λ j y at. old (suc j) y at) fits

pub lanes_set : (n : ℕ) (channels : List ChannelState) (m : ℕ) (new : ChannelState) → LanesFit n channels → length new.lane ≤ n
    → LanesFit n (slice_set channels m new)
lanes_set n channels m new old fits = record { fits = λ i channel there. set-at channels m n new i channel there old.fits fits }

got-at : (channels : List ChannelState) (i : ℕ) (d : ChannelState) → i < length channels
    → slice_get channels i ≡ Some (get_or channels i d)
got-at [] i d below = absurd (omega arith)
got-at (x ∷ channels) zero d below = refl
got-at (x ∷ channels) (suc i) d below = got-at channels i d (omega arith)

pub lanes_at : (n : ℕ) (channels : List ChannelState) (i : ℕ) (d channel : ChannelState) → LanesFit n channels
    → i < length channels → channel ≡ get_or channels i d → length channel.lane ≤ n
lanes_at n channels i d channel old below is = old.fits i channel (got-at channels i d below ∙ ap Some (sym is))

pub below_in : (k : Counters) (channels : List ChannelState) (circuits : List (Option CircuitState)) (s : State) (n : ℕ)
    → state_of k channels circuits ≡ s → n < length s.channels → n < length channels
below_in k channels circuits s n is below =
    subst (λ k. n < k) (ap (λ (x : State). length x.channels) (sym is) ∙ length-all_there channels) below

-- one channel's lane grew by at most one, in a step
pub lanes_step : (n : ℕ) (channels : List ChannelState) (i : ℕ) (d old new : ChannelState) → LanesFit n channels
    → i < length channels → old ≡ get_or channels i d → length new.lane ≤ length old.lane + 1 →
    LanesFit (n + 1) (slice_set channels i new)
lanes_step n channels i d old new fits below is longer =
    lanes_set (n + 1) channels i new (lanes_more n (n + 1) channels (omega arith) fits)
    (let had : length old.lane ≤ n = lanes_at n channels i d old fits below is in omega (arith, had, longer))

-- or didn't grow, without one
pub lanes_same : (n : ℕ) (channels : List ChannelState) (i : ℕ) (d old new : ChannelState) → LanesFit n channels
    → i < length channels → old ≡ get_or channels i d → length new.lane ≤ length old.lane →
    LanesFit n (slice_set channels i new)
lanes_same n channels i d old new fits below is shorter =
    lanes_set n channels i new fits (let had : length old.lane ≤ n = lanes_at n channels i d old fits below is in
    omega (arith, had, shorter))

fewer-by : {A : Type 0} (p : A → Bool) (x : A) (xs : List A) (b : Bool) → length (filter p xs) ≤ length xs
    → length (if b then x ∷ filter p xs else filter p xs) ≤ length (x ∷ xs)
fewer-by p x xs true few = omega (arith, few)
fewer-by p x xs false few = omega (arith, few)

fewer : {A : Type 0} (p : A → Bool) (xs : List A) → length (filter p xs) ≤ length xs
fewer p [] = omega arith
fewer p (x ∷ xs) = fewer-by p x xs (p x) (fewer p xs)

-- DESTROYs that are taken away
pub freed_shorter : (id : ℕ) (old new : ChannelState) → new ≡ without_destroys id old → length new.lane ≤ length old.lane
freed_shorter id old new is =
    subst (λ (x : ChannelState). length x.lane ≤ length old.lane) (sym is) (fewer (λ d. not (d.id == id)) old.lane)
