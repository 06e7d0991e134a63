use Rattle.hop_crypto.proofs.Working.{IsWorked-opened}
use Rattle.hop_crypto.proofs.cipher.Cipher.pass.Goals as goal

pub returns-in-Forth-clause-worked : goal.returns-in-Forth-clause-worked
returns-in-Forth-clause-worked c =
    rw c.in-Forth.is
    (IsWorked-opened c.in-Forth.opener c.take_off-recognised.new.self c.args.body.now _ c.take_off-recognised.ensures.opened
    c.take_off-recognised.ensures.state)
