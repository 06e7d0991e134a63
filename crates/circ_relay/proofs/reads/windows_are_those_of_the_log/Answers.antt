use Rattle.circ_relay.proofs.Reading.{packs_by_the_log, accepts_by_the_log, may_package_by_the_log, may_accept_by_the_log, may_credit_by_the_log, sendme_due_by_the_log}
use Rattle.circ_relay.proofs.reads.windows_are_those_of_the_log.Goals as goal

pub returns-clause-pack_grant : goal.returns-clause-pack_grant
returns-clause-pack_grant c = packs_by_the_log

pub returns-clause-accept_grant : goal.returns-clause-accept_grant
returns-clause-accept_grant c = accepts_by_the_log

pub returns-clause-may_package : goal.returns-clause-may_package
returns-clause-may_package c = may_package_by_the_log

pub returns-clause-may_accept : goal.returns-clause-may_accept
returns-clause-may_accept c = may_accept_by_the_log

pub returns-clause-may_credit : goal.returns-clause-may_credit
returns-clause-may_credit c = may_credit_by_the_log

pub returns-clause-sendme_due : goal.returns-clause-sendme_due
returns-clause-sendme_due c = sendme_due_by_the_log
