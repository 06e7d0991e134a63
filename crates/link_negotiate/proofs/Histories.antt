-- Where a side stands after a list of cells.
use Rattle.std.proofs.Common.{◌≡◌, ℕ, [], ◌∷◌, List, Bool, true, false, cond, Option, Some, None, Result, Ok, Err, refl, ap, sym, ◌∙◌}
use Rattle.std.proofs.lemmas.Option.{none-some, same_Some}
use Rattle.tor_spec.specs.CellEncoding.{WireCell}
use Rattle.cell_codec.specs.declared.LinkFault.{LinkFault}
use Rattle.link_negotiate.specs.declared.arrival.Arrival.{Arrival}
use Rattle.link_negotiate.specs.declared.arrival.Arrival.TheVariants.{Netinfo, InBetween, Fault}
use Rattle.link_negotiate.specs.declared.phase.LinkPhase.{LinkPhase}
use Rattle.link_negotiate.specs.declared.phase.LinkPhase.TheVariants.{AwaitsVersions, AwaitsNetinfo, Open, Refused}
use Rattle.link_negotiate.specs.Negotiation.{link_version, arrival, Side, step_answer, phase_answer, phase_after_versions, phase_after_arrival, side_after_all}
use Rattle.link_negotiate.specs.History.{is_last, ends_negotiation, last_cell, answer_behind_last, answer_awaiting_netinfo, answer_behind_versions, answer_by_history}

abbrev side : Bool → LinkPhase → Side
side opener phase = record { opener = opener; phase = phase }

stays_open : (opener : Bool) (cells : List WireCell) → side_after_all (side opener Open) cells ≡ side opener Open
stays_open opener [] = refl
stays_open opener (c ∷ cells) = stays_open opener cells

stays_refused : (opener : Bool) (fault : LinkFault) (cells : List WireCell)
    → side_after_all (side opener (Refused fault)) cells ≡ side opener (Refused fault)
stays_refused opener fault [] = refl
stays_refused opener fault (c ∷ cells) = stays_refused opener fault cells

-- Where a side stands that awaits NETINFO, by the first cell that isn't passed over.
abbrev phase_by_last : ℕ → Option WireCell → LinkPhase
phase_by_last version None = AwaitsNetinfo version
phase_by_last version (Some end) = phase_after_arrival version (arrival version end)

stands_by : (opener : Bool) (version : ℕ) (c : WireCell) (cells : List WireCell) (a : Arrival) → arrival version c ≡ a
    → side_after_all (side opener (AwaitsNetinfo version)) cells ≡ side opener (phase_by_last version (last_cell version cells))
    → side_after_all (side opener (phase_after_arrival version a)) cells
    ≡ side opener (phase_by_last version (cond (is_last a) (Some c) (last_cell version cells)))
stands_by opener version c cells Netinfo e later =
    stays_open opener cells ∙ sym (ap (λ a. side opener (phase_after_arrival version a)) e)
stands_by opener version c cells InBetween e later = later
stands_by opener version c cells (Fault fault) e later =
    stays_refused opener fault cells ∙ sym (ap (λ a. side opener (phase_after_arrival version a)) e)

stands : (opener : Bool) (version : ℕ) (cells : List WireCell)
    → side_after_all (side opener (AwaitsNetinfo version)) cells ≡ side opener (phase_by_last version (last_cell version cells))
stands opener version [] = refl
stands opener version (c ∷ cells) = stands_by opener version c cells (arrival version c) refl (stands opener version cells)

answered_behind_last : (opener : Bool) (version : ℕ) (a : Arrival) (c : WireCell) → is_last a ≡ true
    → phase_answer opener (phase_after_arrival version a) c ≡ answer_behind_last a c
answered_behind_last opener version Netinfo c last = refl
answered_behind_last opener version InBetween c last = cc
answered_behind_last opener version (Fault fault) c last = refl

ends_by : (version : ℕ) (c : WireCell) (cells : List WireCell) (end : WireCell) (b : Bool) → ends_negotiation version c ≡ b
    → (last_cell version cells ≡ Some end → ends_negotiation version end ≡ true)
    → cond b (Some c) (last_cell version cells) ≡ Some end
    → ends_negotiation version end ≡ true
ends_by version c cells end true is later e = sym (ap (ends_negotiation version) (same_Some c end e)) ∙ is
ends_by version c cells end false is later e = later e

found_ends : (version : ℕ) (cells : List WireCell) (end : WireCell) → last_cell version cells ≡ Some end
    → ends_negotiation version end ≡ true
found_ends version [] end e = absurd (none-some end e)
found_ends version (c ∷ cells) end e =
    ends_by version c cells end (ends_negotiation version c) refl (found_ends version cells end) e

answered_awaiting : (opener : Bool) (version : ℕ) (end : Option WireCell) (c : WireCell)
    → ((d : WireCell) → end ≡ Some d → ends_negotiation version d ≡ true)
    → phase_answer opener (phase_by_last version end) c ≡ answer_awaiting_netinfo opener version end c
answered_awaiting opener version None c is = refl
answered_awaiting opener version (Some d) c is = answered_behind_last opener version (arrival version d) c (is d refl)

answered_behind_versions : (opener : Bool) (read : Result ℕ LinkFault) (cells : List WireCell) (c : WireCell)
    → step_answer (side_after_all (side opener (phase_after_versions read)) cells) c ≡ answer_behind_versions opener read cells c
answered_behind_versions opener (Err fault) cells c = ap (λ s. step_answer s c) (stays_refused opener fault cells)
answered_behind_versions opener (Ok version) cells c =
    ap (λ s. step_answer s c) (stands opener version cells)
    ∙ answered_awaiting opener version (last_cell version cells) c (found_ends version cells)

pub answered_by_history : (opener : Bool) (before : List WireCell) (c : WireCell)
    → step_answer (side_after_all (side opener AwaitsVersions) before) c ≡ answer_by_history opener before c
answered_by_history opener [] c = refl
answered_by_history opener (first ∷ more) c = answered_behind_versions opener (link_version first) more c
