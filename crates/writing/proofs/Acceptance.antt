-- Acceptance is being the writing of a table that keeps the rules.
use Rattle.std.proofs.Common.{ap, ◌∙◌}
use Rattle.documents.proofs.Accepting.{accepted_tables_keep_the_rules}
use Rattle.documents.specs.Documents.{reading}
use Rattle.writing.specs.Written.{AcceptanceIsBeingAWrittenTable}
use Rattle.writing.proofs.ReadBack.{written_tables_are_read_back}
use Rattle.writing.proofs.WrittenTables.{accepted_documents_are_written_tables}

pub acceptance_is_being_a_written_table : AcceptanceIsBeingAWrittenTable
acceptance_is_being_a_written_table doc bytes = (
  λ accepted.
      let written = accepted_documents_are_written_tables doc accepted.0 bytes accepted.1 in
      (accepted.0, written.0, accepted_tables_keep_the_rules doc accepted.0 accepted.1, written.1),
  λ written. (written.0, ap reading written.3 ∙ written_tables_are_read_back written.0 written.1 written.2),
)
