use Rattle.std.proofs.Common.{◌≡◌, ◌+◌, List}
use Rattle.tables.specs.Rows.{statement_row}
use Rattle.tables.specs.Tags.{statement_tag}
use Rattle.documents.specs.Fields.{Piece, tag_before}
use Rattle.documents.specs.Statements.{part_fault, statement_in}
use Rattle.documents.specs.Reads.{names_of}
use Rattle.documents.proofs.Going.{Passed}
use Rattle.documents.proofs.statement.read_statement.Given as goal

abbrev pub invariant-loop-part : goal.invariant-loop-part
invariant-loop-part l =
    (before : List Piece) × Passed (part_fault (names_of l.above)) (l.field.place + 3) l.field.body.now before (tag_before statement_tag l.part-iterator.before) l.part-iterator.place l.part-iterator.rest.now
    × (statement_row l.statement ≡ statement_in before)
