use Rattle.socks_front.proofs.Ends.{end_stays}
use Rattle.socks_front.proofs.laws.an_end_stays.Goals as goal

pub returns : goal.returns
returns c = end_stays
