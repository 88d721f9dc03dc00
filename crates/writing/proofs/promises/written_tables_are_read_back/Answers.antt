use Rattle.writing.proofs.ReadBack.{written_tables_are_read_back}
use Rattle.writing.proofs.promises.written_tables_are_read_back.Goals as goal

pub returns : goal.returns
returns c = written_tables_are_read_back
