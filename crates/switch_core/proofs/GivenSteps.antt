-- The steps that worked jobs make which come home as the switch gave them out.
use Rattle.std.proofs.Common.{◌≡◌, ℕ, ◌+◌, List, length, Option, Some, None, refl, sym, ◌∙◌, ap, subst}
use Rattle.hop_crypto.specs.Jobs.{IsDoneJob}
use Rattle.hop_crypto.specs.declared.parts.DoneParts.{DoneParts}
use Rattle.relay_cell.specs.declared.head.Opened.{Opened}
use Rattle.tr_io.specs.declared.answers.BackAnswer.{BackAnswer}
use Rattle.tr_io.specs.declared.names.ClaimNote.{ClaimNote}
use Rattle.tr_io.specs.declared.names.Dir.TheVariants.{Forth, Back}
use Rattle.tr_io.specs.declared.step.Step.{Step}
use Rattle.tr_io.specs.declared.step.Step.TheVariants.{GiveBack}
use Rattle.switch_model.specs.Answers.GiveBack.{done_by}
use Rattle.switch_model.specs.Start.{SwitchStart}
use Rattle.switch_machine.specs.State.{State, slot_at}
use Rattle.switch_core.specs.Homecoming.{HomeBack, HomeForth}
use Rattle.switch_core.specs.Returning.{IsPlace, OfPlace, refusal, RefusedCase}
use Rattle.switch_core.specs.Sealing.{sealed_by, sealed_cells_of}
use Rattle.switch_core.specs.Settling.{CallsGrow, PartsSettle}
use Rattle.switch_core.specs.Started.{Started, SwitchAdds, SwitchStands, SwitchStandsForSome}
use Rattle.switch_core.specs.declared.relay.Relay.{Relay}
use Rattle.switch_core.proofs.BackWhole.{back_whole, IsHomeBack}
use Rattle.switch_core.proofs.ForthWhole.{IsHomeForth}
use Rattle.switch_core.proofs.ForthRelays.{forth_whole, settles_of}
use Rattle.switch_core.proofs.HomeReturns.{of_parts, passed_by}
use Rattle.switch_core.proofs.Whole.{started}
use Rattle.switch_core.proofs.GivenBack.{IsHome, is_home, home_forth, home_back}

-- the place of a done job

pub of_done : (s : Started) (done parts : DoneParts) (relays : List (Option Relay)) (bodies : List (List ℕ)) (place : Option ℕ)
    (P : ClaimNote → Option ℕ → Type 0) → parts ≡ done → relays ≡ s.relays → bodies ≡ parts.input.items →
    IsPlace relays s.state parts.note parts.start bodies place → P parts.note place
    → OfPlace s done.note done.start done.input.items (λ p. P done.note p)
of_done s done parts relays bodies place P same there all first fact =
    subst (λ (d : DoneParts). OfPlace s d.note d.start d.input.items (λ p. P d.note p)) same
    (of_parts s relays parts.note parts.start bodies parts.input.items place (λ p. P parts.note p) there all first fact)

-- the steps

record IsGiven (start : SwitchStart) (s : State) (relays : List (Option Relay)) (done : DoneParts) (place : Option ℕ) : Type 0
  where
    history : List Step
    stands : SwitchStands (started start s relays) history
    home : IsHome start s relays done
    no_place : place ≡ None

is-given : (start : SwitchStart) (s : State) (relays : List (Option Relay)) (done : DoneParts) (bodies : List (List ℕ))
    (place : Option ℕ) → SwitchStandsForSome (started start s relays) → IsDoneJob done
    → length done.output.items ≡ length done.input.items → bodies ≡ done.input.items →
    IsPlace relays s done.note done.start bodies place → refusal start.name s done.note place ≡ None
    → IsGiven start s relays done place
is-given start s relays done bodies place some job many all first passes = record {
  history = some.history;
  stands = some.stands;
  home = is_home start s relays some.history done place some.stands job many
      (subst (λ l. IsPlace relays s done.note done.start l place) all first) passes;
  no_place = (passed_by start.name s done.note place (λ x. BackAnswer.Settled) passes).no_place;
}

same-relay : (slot : Option Relay) (a b : Relay) → slot ≡ Some a → slot ≡ Some b → a ≡ b
same-relay slot a b one other = let same : Some a ≡ Some b = sym one ∙ other in cc

pub forth_given : (start : SwitchStart) (old mid new : State) (relays after : List (Option Relay)) (done : DoneParts)
    (bodies : List (List ℕ)) (opened_bodies : List Opened) (place : Option ℕ) (a : BackAnswer)
    → SwitchStandsForSome (started start old relays) → IsDoneJob done →
    length done.output.items ≡ length done.input.items → bodies ≡ done.input.items
    → IsPlace relays old done.note done.start bodies place → refusal start.name old done.note place ≡ None → mid ≡ old
    → done.note.dir ≡ Forth → opened_bodies ≡ done.output.items →
    HomeForth start.rules mid new relays after done.note.circ.0 done.end opened_bodies a
    → SwitchAdds (started start old relays) (started start new after) (GiveBack done.note place a)
forth_given start old mid new relays after done bodies opened_bodies place a some job many all first passes same forth outputs
    behind =
    let given = is-given start old relays done bodies place some job many all first passes in
    let home = home_forth start old relays done forth given.home in
    let relay : given.home.relay ≡ behind.relay =
    same-relay (slot_at relays done.note.circ.0) given.home.relay behind.relay given.home.there behind.there in
    subst (λ p. SwitchAdds (started start old relays) (started start new after) (GiveBack done.note p a)) (sym given.no_place)
    (forth_whole start old new relays after done given.home.circuit given.home.claim_out behind.relay behind.next a
    (subst (λ r. IsHomeForth start.name old relays done given.home.circuit given.home.claim_out r) relay home)
    (subst (λ s. PartsSettle start.rules s new done.note.circ.0 behind.relay.circuit behind.next.circuit done.output.items a) same
    (subst (λ l. PartsSettle start.rules mid new done.note.circ.0 behind.relay.circuit behind.next.circuit l a) outputs
    behind.settles))
    (behind.steps ∙ ap (λ (s : State). s.steps + 1) same) behind.forth behind.back
    (subst (λ (l : List Opened). CallsGrow (length l) behind.relay.circuit behind.next.circuit) outputs behind.grown)
    behind.home)

settled-case : (reason : Option ℕ) (P : Type 0) → RefusedCase (done_by reason) P
settled-case None P = tt
settled-case (Some reason) P = tt

pub forth_case : (start : SwitchStart) (old mid new : State) (relays after : List (Option Relay)) (done : DoneParts)
    (bodies : List (List ℕ)) (opened_bodies : List Opened) (place : Option ℕ) (a : BackAnswer) (P : Type 0)
    → SwitchStandsForSome (started start old relays) → IsDoneJob done →
    length done.output.items ≡ length done.input.items → bodies ≡ done.input.items
    → IsPlace relays old done.note done.start bodies place → refusal start.name old done.note place ≡ None → mid ≡ old
    → done.note.dir ≡ Forth → opened_bodies ≡ done.output.items →
    HomeForth start.rules mid new relays after done.note.circ.0 done.end opened_bodies a → RefusedCase a P
forth_case start old mid new relays after done bodies opened_bodies place a P some job many all first passes same forth outputs
    behind =
    let given = is-given start old relays done bodies place some job many all first passes in
    let home = home_forth start old relays done forth given.home in
    let relay : given.home.relay ≡ behind.relay =
    same-relay (slot_at relays done.note.circ.0) given.home.relay behind.relay given.home.there behind.there in
    let settles =
    settles_of start old new given.history relays done given.home.circuit given.home.claim_out behind.relay behind.next a
    (subst (λ r. IsHomeForth start.name old relays done given.home.circuit given.home.claim_out r) relay home) given.stands
    (subst (λ s. PartsSettle start.rules s new done.note.circ.0 behind.relay.circuit behind.next.circuit done.output.items a) same
    (subst (λ l. PartsSettle start.rules mid new done.note.circ.0 behind.relay.circuit behind.next.circuit l a) outputs
    behind.settles)) in
    subst (λ b. RefusedCase b P) (sym settles.answer_is) (settled-case _ P)

pub back_given : (start : SwitchStart) (old mid new : State) (relays after : List (Option Relay)) (done : DoneParts)
    (bodies : List (List ℕ)) (sealed : List Opened) (place : Option ℕ) → SwitchStandsForSome (started start old relays)
    → IsDoneJob done →
    length done.output.items ≡ length done.input.items → bodies ≡ done.input.items
    → IsPlace relays old done.note done.start bodies place → refusal start.name old done.note place ≡ None → mid ≡ old
    → done.note.dir ≡ Back → sealed ≡ done.output.items →
    HomeBack mid new relays after done.note.circ.0 done.end sealed
    → SwitchAdds (started start old relays) (started start new after) (GiveBack done.note place BackAnswer.Settled)
back_given start old mid new relays after done bodies sealed place some job many all first passes same back outputs behind =
    let given = is-given start old relays done bodies place some job many all first passes in
    let home = home_back start old relays done back given.home in
    let relay : given.home.relay ≡ behind.relay =
    same-relay (slot_at relays done.note.circ.0) given.home.relay behind.relay given.home.there behind.there in
    subst (λ p. SwitchAdds (started start old relays) (started start new after) (GiveBack done.note p BackAnswer.Settled))
    (sym given.no_place)
    (back_whole start old new relays after done given.home.circuit given.home.claim_out behind.relay
    (record behind.relay { back = done.end })
    (subst (λ r. IsHomeBack start.name old relays done given.home.circuit given.home.claim_out r) relay home)
    (behind.state ∙ ap (λ s. sealed_by s done.note.circ.0 (sealed_cells_of sealed)) same
    ∙ ap (λ l. sealed_by old done.note.circ.0 (sealed_cells_of l)) outputs) refl refl refl behind.puts)
