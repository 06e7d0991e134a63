use Rattle.std.proofs.Common.{sym}
use Rattle.tor_settings.proofs.numbers.numbers_of.Goals as goal

pub invariant_of-result : goal.invariant_of-result
invariant_of-result c = record {
  slots_within = (c.in_ok-accept_slots.ensures.most, c.in_ok-dial_slots.ensures.most);
  window_within = (c.in_ok-circuit_window.ensures.least, c.in_ok-circuit_window.ensures.most);
  least_within = c.in_ok-sendme_least.ensures.most;
}

pub returns-clause-some : goal.returns-clause-some
returns-clause-some c = record {
  accept_slots = sym c.in_ok-accept_slots.ensures.number;
  dial_slots = sym c.in_ok-dial_slots.ensures.number;
  edge_slots = sym c.in_ok-edge_slots.ensures.number;
  workers = sym c.in_ok-workers.ensures.number;
  accepts = sym c.in_ok-accepts.ensures.number;
  window = sym c.in_ok-circuit_window.ensures.number;
  least = sym c.in_ok-sendme_least.ensures.number;
}
