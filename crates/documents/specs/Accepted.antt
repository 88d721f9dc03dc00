-- What acceptance gives.
use Rattle.std.specs.Prelude.{◌≡◌, ℕ, true, List, Ok}
use Rattle.tables.specs.Rows.{TableRows}
use Rattle.tables.specs.Rules.{table_keeps}
use Rattle.documents.specs.Documents.{reading}

-- the table of an accepted document keeps every rule
abbrev pub AcceptedTablesKeepTheRules : Type 0
AcceptedTablesKeepTheRules = (doc : List ℕ) (rows : TableRows) → reading doc ≡ Ok rows → table_keeps rows ≡ true
