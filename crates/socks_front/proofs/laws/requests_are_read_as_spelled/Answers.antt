use Rattle.socks_front.proofs.Answered.{requests_law}
use Rattle.socks_front.proofs.laws.requests_are_read_as_spelled.Goals as goal

pub returns : goal.returns
returns c = requests_law
