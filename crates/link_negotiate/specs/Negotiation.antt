-- How two sides open a link (tor-spec, "Negotiating and initializing channels"): what a side
-- answers to a cell, by the cells so far. The standard has VERSIONS come first, the highest common
-- version be taken and NETINFO end the negotiation. What is refused and how, and that our NETINFO tells
-- nothing, are rules of this relay.
use Rattle.std.specs.Prelude.{ℕ, ◌%◌, [], ◌∷◌, List, length, Bool, true, false, ◌==◌, ◌||◌, ◌&&◌, nat_le, if◌then◌else◌, Option, Some, None, Result, Ok, Err}
use Rattle.std.specs.List.{fold}
use Rattle.tor_spec.specs.CellEncoding.{WireCell}
use Rattle.tor_spec.specs.CellCommands.{versions_command, netinfo_command, padding_command, vpadding_command, padding_negotiate_command, certs_command, auth_challenge_command, authenticate_command}
use Rattle.tor_spec.specs.Versions.{versions_of, versions_cell, highest_common}
use Rattle.tor_spec.specs.Netinfo.{is_netinfo, silent_netinfo}
use Rattle.cell_codec.specs.declared.LinkFault.{LinkFault}
use Rattle.cell_codec.specs.declared.LinkFault.TheVariants.{OddVersions, NoCommonVersion, Unexpected, BadNetinfo}
use Rattle.link_negotiate.specs.declared.arrival.Arrival.{Arrival}
use Rattle.link_negotiate.specs.declared.arrival.Arrival.TheVariants.{Netinfo, InBetween, Fault}
use Rattle.link_negotiate.specs.declared.phase.LinkPhase.{LinkPhase}
use Rattle.link_negotiate.specs.declared.phase.LinkPhase.TheVariants.{AwaitsVersions, AwaitsNetinfo, Open, Refused}

-- The link protocols that our side speaks.
abbrev pub our_versions : List ℕ
our_versions = 4 ∷ 5 ∷ []

-- The version that a link gets by its first cell: the highest that both sides speak.
abbrev pub version_or : Option ℕ → Result ℕ LinkFault
version_or None = Err NoCommonVersion
version_or (Some version) = Ok version

abbrev pub link_version : WireCell → Result ℕ LinkFault
link_version c =
    if c.command == versions_command then
    (if (length c.payload % 2) == 0 then version_or (highest_common our_versions (versions_of c.payload)) else Err OddVersions)
    else Err (Unexpected c.command)

-- The cells that may come between VERSIONS and NETINFO (rule of this relay): PADDING, VPADDING, CERTS,
-- AUTH_CHALLENGE and AUTHENTICATE.
abbrev pub comes_in_between : ℕ → Bool
comes_in_between command =
    (command == padding_command) || (command == vpadding_command) || (command == certs_command)
    || (command == auth_challenge_command) || (command == authenticate_command)

-- PADDING_NEGOTIATE is of link protocol 5 and later ones (padding-spec, "Connection-level padding").
abbrev pub negotiates_padding : ℕ → ℕ → Bool
negotiates_padding version command = nat_le 5 version && (command == padding_negotiate_command)

-- Whether a cell is passed over, where this version was agreed on.
abbrev pub may_come_before : ℕ → ℕ → Bool
may_come_before version command = comes_in_between command || negotiates_padding version command

-- What a cell is to a side that awaits NETINFO, where this version was agreed on.
abbrev pub arrival : ℕ → WireCell → Arrival
arrival version c =
    if c.command == netinfo_command then (if is_netinfo c.payload then Netinfo else Fault BadNetinfo)
    else if may_come_before version c.command then InBetween
    else Fault (Unexpected c.command)

-- A side of a link: whether it opened the connection, and where the negotiation stands.
pub record Side : Type 0 where
  pub opener : Bool
  pub phase : LinkPhase

abbrev pub opening_side : Side
opening_side = record { opener = true; phase = AwaitsVersions }

abbrev pub answering_side : Side
answering_side = record { opener = false; phase = AwaitsVersions }

-- What a side does at a cell: it sends cells; it is ready, with a version and what is to be sent first;
-- it does nothing; or it refuses the link.
pub data StepAnswer : Type 0 where
  Sends : List WireCell → StepAnswer
  IsReady : ℕ → Option WireCell → StepAnswer
  PassesOver : StepAnswer
  Refuses : LinkFault → StepAnswer

-- At VERSIONS the answering side sends its own, and its NETINFO behind it.
abbrev pub versions_answer : Bool → Result ℕ LinkFault → StepAnswer
versions_answer opener (Err fault) = Refuses fault
versions_answer true (Ok version) = PassesOver
versions_answer false (Ok version) = Sends (versions_cell our_versions ∷ silent_netinfo ∷ [])

-- NETINFO opens the link; the opening side sends its own first.
abbrev pub arrival_answer : Bool → ℕ → Arrival → StepAnswer
arrival_answer opener version (Fault fault) = Refuses fault
arrival_answer opener version InBetween = PassesOver
arrival_answer true version Netinfo = IsReady version (Some silent_netinfo)
arrival_answer false version Netinfo = IsReady version None

-- An open link awaits nothing, and a refusal is repeated (rules of this relay).
abbrev pub phase_answer : Bool → LinkPhase → WireCell → StepAnswer
phase_answer opener AwaitsVersions c = versions_answer opener (link_version c)
phase_answer opener (AwaitsNetinfo version) c = arrival_answer opener version (arrival version c)
phase_answer opener Open c = Refuses (Unexpected c.command)
phase_answer opener (Refused fault) c = Refuses fault

abbrev pub step_answer : Side → WireCell → StepAnswer
step_answer s c = phase_answer s.opener s.phase c

abbrev pub phase_after_versions : Result ℕ LinkFault → LinkPhase
phase_after_versions (Err fault) = Refused fault
phase_after_versions (Ok version) = AwaitsNetinfo version

abbrev pub phase_after_arrival : ℕ → Arrival → LinkPhase
phase_after_arrival version (Fault fault) = Refused fault
phase_after_arrival version InBetween = AwaitsNetinfo version
phase_after_arrival version Netinfo = Open

abbrev pub phase_after : LinkPhase → WireCell → LinkPhase
phase_after AwaitsVersions c = phase_after_versions (link_version c)
phase_after (AwaitsNetinfo version) c = phase_after_arrival version (arrival version c)
phase_after Open c = Open
phase_after (Refused fault) c = Refused fault

-- Where a side stands after a cell, and after a list of them.
abbrev pub side_after : Side → WireCell → Side
side_after s c = record { opener = s.opener; phase = phase_after s.phase c }

abbrev pub side_after_all : Side → List WireCell → Side
side_after_all s cells = fold side_after s cells
