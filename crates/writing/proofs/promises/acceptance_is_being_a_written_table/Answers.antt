use Rattle.writing.proofs.Acceptance.{acceptance_is_being_a_written_table}
use Rattle.writing.proofs.promises.acceptance_is_being_a_written_table.Goals as goal

pub returns : goal.returns
returns c = acceptance_is_being_a_written_table
