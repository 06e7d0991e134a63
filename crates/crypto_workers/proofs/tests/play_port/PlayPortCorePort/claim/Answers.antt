use Rattle.std.proofs.Common.{sym}
use Rattle.std.proofs.lemmas.List.{append-nil}
use Rattle.crypto_workers.proofs.tests.play_port.PlayPortCorePort.claim.Goals as goal

pub returns-in-None-clause-step : goal.returns-in-None-clause-step
returns-in-None-clause-step c = record { behind = sym (append-nil _); few = c.args.pass.now.few }

pub returns-in-Some-NoMemory-clause-step : goal.returns-in-Some-NoMemory-clause-step
returns-in-Some-NoMemory-clause-step c = record { behind = sym (append-nil _); few = c.args.pass.now.few }
