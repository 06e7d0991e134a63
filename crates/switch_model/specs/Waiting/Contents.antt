-- What a claim's job holds: the bodies that it takes, and the direction's cipher as it is before the first
-- of them. What comes back with a job is compared with it.
use Rattle.std.specs.Prelude.{ℕ, ◌≡◌, ◌*◌, zero, suc, List, map, Option, Some, None, take, drop, slice_get}
use Rattle.crypto_spec.specs.HopLayer.{OpeningLayer}
use Rattle.circuit_model.specs.Events.{CircuitCell}
use Rattle.circuit_model.specs.Log.{Log}
use Rattle.circuit_model.specs.Opened.{born_keys, recognised_bodies}
use Rattle.circuit_model.specs.Packaged.{back_bodies}
use Rattle.circuit_model.specs.Rules.{Rules}
use Rattle.tr_io.specs.declared.names.ClaimNote.{ClaimNote}
use Rattle.tr_io.specs.declared.names.Dir.{Dir}
use Rattle.tr_io.specs.declared.names.Dir.TheVariants.{Forth, Back}
use Rattle.tr_io.specs.declared.step.Step.{Step}
use Rattle.switch_model.specs.History.Taken.{claimed_cells}
use Rattle.switch_model.specs.Waiting.Queues.{circuit_log}

-- A direction's cipher at a body. Forth it is this relay's layer: Kf from the body's first byte of
-- keystream on, and the running digest of the bodies recognised before it. Back it is a place in the
-- keystream of Kb; the digests of packaged bodies are in place by then (tor-spec, "Relay cells").
pub data StartCipher : Type 0 where
  Opening : (layer : OpeningLayer) → StartCipher
  Sealing : (key : List ℕ) (position : ℕ) → StartCipher

-- The cipher at body number n of a direction, where the bodies before it have settled: each body uses 509
-- bytes of keystream.
abbrev pub start_at : Log → Dir → ℕ → StartCipher
start_at log Forth n = Opening (record {
  key = (born_keys log).kf;
  seed = (born_keys log).df;
  position = 509 * n;
  absorbed = recognised_bodies log;
})
start_at log Back n = Sealing (born_keys log).kb (509 * n)

abbrev pub body_of : CircuitCell → List ℕ
body_of cell = cell.body

-- The bodies of a claim. Forth they are those of cells taken on leg 0, back those that were packaged or
-- came from the next hop.
abbrev pub bodies_in : Rules → List Step → ClaimNote → Dir → List (List ℕ)
bodies_in rules h note Forth = map body_of (claimed_cells h note)
bodies_in rules h note Back = take note.count (drop note.first (back_bodies (circuit_log rules h note.circ.0)))

abbrev pub claimed_bodies : Rules → List Step → ClaimNote → List (List ℕ)
claimed_bodies rules h note = bodies_in rules h note note.dir

pub record Contents : Type 0 where
  pub start : StartCipher
  pub bodies : List (List ℕ)

-- What the job of a claim holds, behind the claim and up to its return: in that time no body of its
-- direction settles.
abbrev pub contents : Rules → List Step → ClaimNote → Contents
contents rules h note = record {
  start = start_at (circuit_log rules h note.circ.0) note.dir note.first;
  bodies = claimed_bodies rules h note;
}

-- Two lists of bodies are the same before number i, and differ there.
pub record DiffersAt (i : ℕ) (given_bodies returned_bodies : List (List ℕ)) : Type 0 where
  pub before : take i returned_bodies ≡ take i given_bodies
  pub here : slice_get returned_bodies i ≡ slice_get given_bodies i → ⊥

-- The first place at which what comes back differs from what was given out: 0 is the start state, 1 the
-- first body. None where all is the same. The start states are as the switch keeps them.
abbrev pub IsFirstDifference : {A : Type 0} → A → A → List (List ℕ) → List (List ℕ) → Option ℕ → Type 0
IsFirstDifference start other given_bodies returned_bodies None = (other ≡ start) × (returned_bodies ≡ given_bodies)
IsFirstDifference start other given_bodies returned_bodies (Some zero) = other ≡ start → ⊥
IsFirstDifference start other given_bodies returned_bodies (Some (suc i)) =
    (other ≡ start) × DiffersAt i given_bodies returned_bodies

-- How many bodies of a direction have room for all that their return can need: those of the claim that is
-- out. The room was made at the claim, so the return takes no memory.
abbrev pub bodies_with_room : Option ClaimNote → ℕ
bodies_with_room (Some note) = note.count
bodies_with_room None = 0
