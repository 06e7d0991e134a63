-- Dial orders that wait, as the code finds them.
use Rattle.std.specs.Prelude.{false}
use Rattle.switch_machine.specs.Calls.DialOrder.{OpenDial}
use Rattle.switch_core.specs.declared.dialling.WaitingDial.{WaitingDial}

-- One of a circuit, which was never handed out.
abbrev pub open_of : WaitingDial → OpenDial
open_of dial = record {
  circ = dial.circ;
  dial = record { order = dial.order; to = dial.to; handed_out = false };
}
