-- The next numbers, and the tick in force.
use Rattle.std.specs.Prelude.{ℕ, ◌≡◌, List, length}
use Rattle.circuit_model.specs.Rules.{Rules}
use Rattle.tr_io.specs.declared.step.Step.{Step}
use Rattle.switch_model.specs.History.Channels.{channels}
use Rattle.switch_model.specs.History.Legs.{circuits}
use Rattle.switch_model.specs.Waiting.Claims.{claims, born_bodies}
use Rattle.switch_model.specs.Waiting.Dials.{dials_made}
use Rattle.switch_model.specs.Waiting.Counts.{tick}
use Rattle.switch_machine.specs.State.{State}

-- As the state or the history has them.
pub record Numbers : Type 0 where
  pub channels : ℕ
  pub circuits : ℕ
  pub claims : ℕ
  pub bodies : ℕ
  pub dial_orders : ℕ
  pub tick : ℕ

abbrev pub numbers_in : State → Numbers
numbers_in s = record {
  channels = length s.channels;
  circuits = length s.circuits;
  claims = s.claims;
  bodies = s.bodies;
  dial_orders = s.dial_orders;
  tick = s.tick;
}

abbrev pub numbers_past : Rules → List Step → Numbers
numbers_past rules h = record {
  channels = channels h;
  circuits = circuits h;
  claims = claims h;
  bodies = length (born_bodies rules h);
  dial_orders = length (dials_made rules h);
  tick = tick h;
}

pub record NumbersStand (n p : Numbers) : Type 0 where
  pub channels : n.channels ≡ p.channels
  pub circuits : n.circuits ≡ p.circuits
  pub claims : n.claims ≡ p.claims
  pub bodies : n.bodies ≡ p.bodies
  pub dial_orders : n.dial_orders ≡ p.dial_orders
  pub tick : n.tick ≡ p.tick
