-- What jobs and done jobs keep.
use Rattle.std.specs.Prelude.{◌≡◌, ◌+◌, ◌*◌, ◌^◌, ◌<◌, ◌≤◌, [], length}
use Rattle.cell_codec.specs.Roomy.{Roomy}
use Rattle.relay_cell.specs.declared.head.Opened.{Opened}
use Rattle.hop_crypto.specs.Ciphers.{direction_of, position_of, IsOfLayer, IsWorked}
use Rattle.hop_crypto.specs.declared.parts.JobParts.{JobParts}
use Rattle.hop_crypto.specs.declared.parts.DoneParts.{DoneParts}

-- The note speaks of the cipher and the bodies, of which there are 1 to 32, and the keystream stays
-- below byte 2 ^ 90 behind them.
pub record IsJob (job : JobParts) : Type 0 where
  pub direction : job.note.dir ≡ direction_of job.cipher
  pub count : job.note.count ≡ length job.bodies.items
  pub some : 1 ≤ length job.bodies.items
  pub most : length job.bodies.items ≤ 32
  pub position : position_of job.cipher + 509 * length job.bodies.items < 2 ^ 90

-- There is room for what comes out.
pub record HasOutputRoom (parts : JobParts) (output : Roomy Opened) : Type 0 where
  pub job : IsJob parts
  pub empty : output.items ≡ []
  pub ample : length parts.bodies.items ≤ output.spare

-- Output and end state are what the cipher makes of start state and input, which were a job's. A layer
-- has the start state, so that this says something of every such cipher.
pub record IsDoneJob (done : DoneParts) : Type 0 where
  pub job : IsJob (record { note = done.note; cipher = done.start; bodies = done.input })
  pub layer : IsOfLayer done.start
  pub worked : IsWorked done.start done.input.items done.output.items done.end

-- The note, the start state and the input of what was worked are those of the job.
abbrev pub IsWorkOf : DoneParts → JobParts → Type 0
IsWorkOf done job = (done.note ≡ job.note) × (done.start ≡ job.cipher) × (done.input ≡ job.bodies)
