-- The next hop of a circuit and its legs (tor-spec, "EXTEND and EXTENDED cells", "Tearing down
-- circuits"). A leg is the circuit on one channel: leg 0 towards the client, leg k towards the next
-- hop that was linked as the k-th.
use Rattle.std.specs.Prelude.{ℕ, Bool, true, false, if◌then◌else◌, Option, Some, None, unwrap_or, is_some}
use Rattle.circuit_model.specs.declared.next_hop.NextHop.{NextHop}
use Rattle.circuit_model.specs.declared.next_hop.NextHop.TheVariants.{Absent, Dialling, Waiting, There}
use Rattle.circuit_model.specs.Events.{Event}
use Rattle.circuit_model.specs.declared.event.Event.TheVariants.{Linked, Answered}
use Rattle.circuit_model.specs.Log.{Log, Effects, count_of, newest}

-- What an entry's effects make of the next hop: an accepted EXTEND2 dials it, TRUNCATE gives it up.
abbrev pub hop_by_effects : Effects → Option NextHop
hop_by_effects effects = if is_some effects.dial then Some Dialling else (if effects.cut then Some Absent else None)

-- What an entry makes of the next hop.
abbrev pub hop_by : Event → Effects → Option NextHop
hop_by Linked effects = Some Waiting
hop_by (Answered payload) effects = Some There
hop_by event effects = hop_by_effects effects

-- The newest entry that says something of the next hop decides.
abbrev pub next_hop : Log → NextHop
next_hop log = unwrap_or (newest (λ entry. hop_by entry.event entry.effects) log) Absent

abbrev pub is_absent : NextHop → Bool
is_absent Absent = true
is_absent hop = false

abbrev pub is_there : NextHop → Bool
is_there There = true
is_there hop = false

-- Whether the next hop has a leg.
abbrev pub has_leg : NextHop → Bool
has_leg Waiting = true
has_leg There = true
has_leg hop = false

abbrev pub is_linked : Event → Bool
is_linked Linked = true
is_linked event = false

-- How many legs towards next hops there were. The newest of them is the current leg while the next
-- hop has a leg.
abbrev pub leg_count : Log → ℕ
leg_count log = count_of (λ entry. is_linked entry.event) log
