-- What a side answers by the list of all cells that came before, the first of them first.
use Rattle.std.specs.Prelude.{ℕ, [], ◌∷◌, List, Bool, true, false, find, Option, Some, None, Result, Ok, Err}
use Rattle.tor_spec.specs.CellEncoding.{WireCell}
use Rattle.cell_codec.specs.declared.LinkFault.{LinkFault}
use Rattle.cell_codec.specs.declared.LinkFault.TheVariants.{Unexpected}
use Rattle.link_negotiate.specs.declared.arrival.Arrival.{Arrival}
use Rattle.link_negotiate.specs.declared.arrival.Arrival.TheVariants.{Netinfo, InBetween, Fault}
use Rattle.link_negotiate.specs.Negotiation.{link_version, arrival, StepAnswer, versions_answer, arrival_answer}
use Rattle.link_negotiate.specs.Negotiation.StepAnswer.{Refuses}

-- Whether the negotiation ends with a cell: it isn't passed over.
abbrev pub is_last : Arrival → Bool
is_last Netinfo = true
is_last InBetween = false
is_last (Fault fault) = true

abbrev pub ends_negotiation : ℕ → WireCell → Bool
ends_negotiation version c = is_last (arrival version c)

-- The first such cell, where this version was agreed on.
abbrev pub last_cell : ℕ → List WireCell → Option WireCell
last_cell version cells = find (ends_negotiation version) cells

-- Behind that cell an open link awaits nothing, and a refusal is repeated.
abbrev pub answer_behind_last : Arrival → WireCell → StepAnswer
answer_behind_last Netinfo c = Refuses (Unexpected c.command)
answer_behind_last InBetween c = Refuses (Unexpected c.command)
answer_behind_last (Fault fault) c = Refuses fault

abbrev pub answer_awaiting_netinfo : Bool → ℕ → Option WireCell → WireCell → StepAnswer
answer_awaiting_netinfo opener version None c = arrival_answer opener version (arrival version c)
answer_awaiting_netinfo opener version (Some end) c = answer_behind_last (arrival version end) c

abbrev pub answer_behind_versions : Bool → Result ℕ LinkFault → List WireCell → WireCell → StepAnswer
answer_behind_versions opener (Err fault) more c = Refuses fault
answer_behind_versions opener (Ok version) more c = answer_awaiting_netinfo opener version (last_cell version more) c

-- The first cell is to be VERSIONS, and the first behind it that isn't passed over NETINFO.
abbrev pub answer_by_history : Bool → List WireCell → WireCell → StepAnswer
answer_by_history opener [] c = versions_answer opener (link_version c)
answer_by_history opener (first ∷ more) c = answer_behind_versions opener (link_version first) more c
