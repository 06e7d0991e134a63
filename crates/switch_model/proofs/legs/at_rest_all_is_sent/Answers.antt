use Rattle.switch_model.proofs.AllSent.{at_rest_all_sent}
use Rattle.switch_model.proofs.legs.at_rest_all_is_sent.Goals as goal

pub returns : goal.returns
returns c = at_rest_all_sent
