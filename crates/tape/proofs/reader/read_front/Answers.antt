use Rattle.tape.proofs.Spellings.{spelled_is_front}
use Rattle.tape.proofs.Spelled.{front_is_spelled}
use Rattle.tape.proofs.reader.read_front.Goals as goal

pub returns-clause-read : goal.returns-clause-read
returns-clause-read c = spelled_is_front _ _ c.front.ensures.front

pub returns-clause-spelled : goal.returns-clause-spelled
returns-clause-spelled c = front_is_spelled _ _ (λ i. (c.type_inv.bytes i).fits) c.front.ensures.front
