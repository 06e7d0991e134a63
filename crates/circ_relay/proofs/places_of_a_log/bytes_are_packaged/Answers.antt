use Rattle.circ_relay.proofs.Reports.{bytes_package}
use Rattle.circ_relay.proofs.places_of_a_log.bytes_are_packaged.Goals as goal

pub returns : goal.returns
returns c = bytes_package
