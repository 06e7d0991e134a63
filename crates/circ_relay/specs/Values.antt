-- What the program's values are in the definitions.
use Rattle.std.specs.Prelude.{ℕ, List, map, option_map}
use Rattle.tor_spec.specs.Extend.{Address}
use Rattle.circuit_model.specs.Events.{CircuitCell}
use Rattle.circuit_model.specs.Rules.{Allow as ModelAllow, Rules as ModelRules}
use Rattle.circuit_model.specs.Log.{StreamKey as ModelKey, Order, Effects as ModelEffects}
use Rattle.circuit_model.specs.declared.effects.Order.TheVariants.{Reach as reach, Carry as carry, Close as close_order}
use Rattle.tr_io.specs.declared.names.Dest.{Dest}
use Rattle.tr_io.specs.declared.names.StreamKey.{StreamKey}
use Rattle.tr_io.specs.declared.edges.EdgeOrder.{EdgeOrder}
use Rattle.tr_io.specs.declared.edges.EdgeOrder.TheVariants.{Reach, Carry, Close}
use Rattle.circ_relay.specs.declared.rules.Allow.{Allow}
use Rattle.circ_relay.specs.declared.rules.Rules.{Rules}
use Rattle.circ_relay.specs.declared.effects.Effects.{Effects}

abbrev pub address_of : Dest → Address
address_of d = record { ip = d.ip; port = d.port }

abbrev pub allow_of : Allow → ModelAllow
allow_of line = record { host = line.host.items; port = line.port; to = address_of line.to }

abbrev pub rules_of : Rules → ModelRules
rules_of rules = record { allow = map allow_of rules.allow.items; window = rules.window; least = rules.least }

-- A log names a stream without its circuit.
abbrev pub key_of : StreamKey → ModelKey
key_of k = record { stream = k.id; serial = k.serial }

abbrev pub order_of : EdgeOrder → Order
order_of (Reach key to) = reach (key_of key) (address_of to)
order_of (Carry key bytes) = carry (key_of key) bytes.items
order_of (Close key reason) = close_order (key_of key) reason

abbrev pub circuit_cell_of : ℕ × List ℕ → CircuitCell
circuit_cell_of c = record { command = c.0; body = c.1 }

abbrev pub effects_of : Effects → ModelEffects
effects_of e = record {
  back = e.back;
  forth = option_map circuit_cell_of e.forth;
  edge = option_map order_of e.edge;
  dial = option_map address_of e.dial;
  cut = e.cut;
  close = e.close;
}
