-- What acceptance gives.
use Rattle.std.proofs.Common.{◌≡◌, true, [], Some, None, Ok, Option, refl, subst}
use Rattle.tables.specs.Rows.{TableRows}
use Rattle.tables.specs.Rules.{table_keeps}
use Rattle.tables.specs.Refusals.{Told}
use Rattle.documents.specs.Fields.{pieces, last_tag}
use Rattle.documents.specs.Judging.{first_fault}
use Rattle.documents.specs.Documents.{table_in, top_fault, no_version, document_fault, unless}
use Rattle.documents.specs.Accepted.{AcceptedTablesKeepTheRules}
use Rattle.documents.proofs.Faults.{both_none}
use Rattle.documents.proofs.KeptTables.{clean_pieces_keep_the_rules}

-- where a table is answered there is no fault, and it is the table that the pieces say
pub answered : (o : Option Told) (said rows : TableRows) → unless o said ≡ Ok rows → (o ≡ None) × (said ≡ rows)
answered None said rows e = (refl, cc)
answered (Some fault) said rows e = absurd (cc)

-- the table of an accepted document keeps every rule
pub accepted_tables_keep_the_rules : AcceptedTablesKeepTheRules
accepted_tables_keep_the_rules doc rows e =
    let two = answered (document_fault doc) (table_in (pieces 0 0 doc)) rows e in
    let none = (both_none (first_fault top_fault [] (pieces 0 0 doc)) (no_version (last_tag (pieces 0 0 doc))) two.0).0 in
    subst (λ t. table_keeps t ≡ true) two.1 (clean_pieces_keep_the_rules (pieces 0 0 doc) none)
