use Rattle.writing.proofs.WrittenTables.{accepted_documents_are_written_tables}
use Rattle.writing.proofs.promises.accepted_documents_are_written_tables.Goals as goal

pub returns : goal.returns
returns c = accepted_documents_are_written_tables
