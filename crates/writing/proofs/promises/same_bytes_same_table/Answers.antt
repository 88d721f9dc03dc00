use Rattle.writing.proofs.ReadBack.{same_bytes_same_table}
use Rattle.writing.proofs.promises.same_bytes_same_table.Goals as goal

pub returns : goal.returns
returns c = same_bytes_same_table
