use Rattle.std.proofs.Common.{◌≡◌, List}
use Rattle.tables.specs.Tags.{document_tag}
use Rattle.documents.specs.Fields.{Piece, tag_before}
use Rattle.documents.specs.Documents.{table_in, top_fault}
use Rattle.documents.specs.Drafts.{draft_rows}
use Rattle.documents.proofs.Going.{Passed}
use Rattle.documents.proofs.document.table_in.Given as goal

abbrev pub invariant-loop-field : goal.invariant-loop-field
invariant-loop-field l =
    (before : List Piece) × Passed top_fault 0 l.document before (tag_before document_tag l.field-iterator.before) l.field-iterator.place l.field-iterator.rest.now
    × (draft_rows l.draft ≡ table_in before)
