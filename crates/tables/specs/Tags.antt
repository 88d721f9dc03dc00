-- The fields of a table document, by the tags with which they begin.
use Rattle.std.specs.Prelude.{ℕ, List, [], ◌∷◌}
use Rattle.tables.specs.declared.codes.tags.DocumentField.{DocumentField}
use Rattle.tables.specs.declared.codes.tags.DocumentField.TheVariants.{Version, Statement, Plan}
use Rattle.tables.specs.declared.codes.tags.StatementField.{StatementField}
use Rattle.tables.specs.declared.codes.tags.StatementField.TheVariants.{Name, Mark, Test, ThenAction, ElseAction}

-- a document's fields
abbrev pub document_fields : List DocumentField
document_fields = Version ∷ Statement ∷ Plan ∷ []

-- and their tags
abbrev pub document_tag : DocumentField → ℕ
document_tag Version = 1
document_tag Statement = 2
document_tag Plan = 3

-- the fields of a statement's body
abbrev pub statement_fields : List StatementField
statement_fields = Name ∷ Mark ∷ Test ∷ ThenAction ∷ ElseAction ∷ []

-- and their tags
abbrev pub statement_tag : StatementField → ℕ
statement_tag Name = 16
statement_tag Mark = 17
statement_tag Test = 18
statement_tag ThenAction = 19
statement_tag ElseAction = 20
