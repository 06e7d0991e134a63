use Rattle.circ_relay.proofs.Changing.{silent_entry_leaves_places}
use Rattle.circ_relay.proofs.places_of_a_log.silent_entries_leave_the_places.Goals as goal

pub returns : goal.returns
returns c = silent_entry_leaves_places
