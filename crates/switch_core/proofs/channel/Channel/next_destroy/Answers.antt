use Rattle.std.proofs.Common.{sym, ap, ◌∙◌}
use Rattle.circuit_model.specs.Sent.{destroy}
use Rattle.switch_model.specs.Answers.NextCell.{cell_at}
use Rattle.switch_machine.specs.State.{ChannelState}
use Rattle.switch_core.proofs.channel.Channel.next_destroy.Goals as goal

pub returns-clause-some : goal.returns-clause-some
returns-clause-some c = record {
  first = c.in_ok-destroy.destroy;
  rest = c.pop_front.new.self;
  lane = sym (ap (λ s. s.lane) c.self.view_is) ∙ c.in_ok-destroy.ensures.items;
  left = ap (λ (s : ChannelState). record s { lane = c.pop_front.new.self }) c.self.view_is;
  is = c.destroy_cell.ensures.cell ∙ ap (λ d. cell_at d.id (destroy d.reason)) c.destroy.view_is;
}
