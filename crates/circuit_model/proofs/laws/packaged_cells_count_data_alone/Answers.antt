use Rattle.circuit_model.proofs.Counts.{other_events_pack_no_data, data_moves_window}
use Rattle.circuit_model.proofs.laws.packaged_cells_count_data_alone.Goals as goal

pub returns-clause-others : goal.returns-clause-others
returns-clause-others c = other_events_pack_no_data

pub returns-clause-bytes : goal.returns-clause-bytes
returns-clause-bytes c = data_moves_window
