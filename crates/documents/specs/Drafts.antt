-- A table under construction.
use Rattle.std.specs.Prelude.{◌≡◌, List, [], ◌∷◌, ◌++◌, Some, None, Result, MatchResult}
use Rattle.bounded.specs.Held.{held}
use Rattle.tables.specs.declared.codes.tags.DocumentField.{DocumentField}
use Rattle.tables.specs.declared.refusal.Refusal.{Refusal}
use Rattle.tables.specs.Refusals.{told}
use Rattle.tables.specs.Rows.{TableRows, table_rows}
use Rattle.tables.specs.Tags.{document_tag}
use Rattle.documents.specs.declared.draft.Draft.{Draft}
use Rattle.documents.specs.declared.field.Field.{Field}
use Rattle.documents.specs.Fields.{Piece, last_tag, tag_before}
use Rattle.documents.specs.Judging.{first_fault}
use Rattle.documents.specs.Documents.{table_in, top_fault}
use Rattle.documents.specs.Reads.{piece_of}

-- what it says so far
abbrev pub draft_rows : Draft → TableRows
draft_rows d = table_rows (held d.statements) (held d.plans)

-- One field of a document taken into a table that says what the fields before it say, none of which is at fault.
abbrev pub Added : Field DocumentField → (d d' : Draft) → Result (Unit {0}) Refusal → Type 0
Added f d d' r = (before : List Piece) → draft_rows d ≡ table_in before → tag_before document_tag f.before ≡ last_tag before → first_fault top_fault [] before ≡ None → MatchResult r
    (λ _. (top_fault before (piece_of document_tag f) ≡ None) × (draft_rows d' ≡ table_in (before ++ piece_of document_tag f ∷ [])))
    (λ e. top_fault before (piece_of document_tag f) ≡ Some (told e))
