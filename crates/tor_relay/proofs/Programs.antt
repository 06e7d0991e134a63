-- What is said of an end, and how a run ends whose command line is known.
use Rattle.std.proofs.Common.{◌≡◌, inl, ℕ, List, Option, refl, sym, subst}
use Rattle.tr_io.specs.declared.status.Status.{Status}
use Rattle.tr_io.specs.declared.status.Status.TheVariants.{Done, Usage, Settings, ReadFault, WriteFault, BadTape, NotBuilt, TooLong, DoorFault, CrewFault, Memory, LinkRefused, CircuitClosed, StreamEnded}
use Rattle.tor_relay.specs.Program.{message, end_message, IsSaid}
use Rattle.tape.specs.Runs.{SinkRun, sink_run}
use Rattle.tr_io.proofs.OutputLaws.{starts_empty}

-- What is said where not all was done.
said_of : (status : Status) → (status ≡ Done → ⊥) → message status ≡ end_message status
said_of Done other = absurd (other refl)
said_of Usage other = refl
said_of (Settings rule) other = refl
said_of ReadFault other = refl
said_of WriteFault other = refl
said_of (BadTape place) other = refl
said_of (NotBuilt kind) other = refl
said_of TooLong other = refl
said_of DoorFault other = refl
said_of CrewFault other = refl
said_of Memory other = refl
said_of (LinkRefused cause) other = refl
said_of (CircuitClosed cause) other = refl
said_of (StreamEnded reason) other = refl

pub says_end : (status : Status) (text : List ℕ) (e : SinkRun) → (status ≡ Done → ⊥) → text ≡ end_message status → IsSaid text e
    → IsSaid (message status) e
says_end status text e other is said =
    subst (λ xs. IsSaid xs e) (sym (said_of status other)) (subst (λ xs. IsSaid xs e) is said)

pub says_nothing : (status : Status) (contents flushed : Option (List ℕ)) (faults : ℕ) → status ≡ Done
    → IsSaid (message status) (sink_run contents faults contents flushed faults)
says_nothing status contents flushed faults done =
    let Said : Status → Type 0 = λ s. IsSaid (message s) (sink_run contents faults contents flushed faults) in
    subst Said (sym done) (inl (starts_empty contents))
