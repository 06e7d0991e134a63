use Rattle.std.proofs.Common.{true, false}
use Rattle.link_negotiate.proofs.Histories.{answered_by_history}
use Rattle.link_negotiate.proofs.laws.answers_follow_from_the_cells_so_far.Goals as goal

pub returns : goal.returns
returns c = record { opening = answered_by_history true; answering = answered_by_history false }
