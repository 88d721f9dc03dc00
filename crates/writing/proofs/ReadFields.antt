-- Reading a written document field by field: the table that the fields read so far say, and what one more makes of it.
use Rattle.std.proofs.Common.{◌≡◌, ℕ, true, List, [], ◌∷◌, ◌++◌, map, None, sym, refl, ap, ◌∙◌}
use Rattle.tables.specs.Rows.{StatementRow, PlanRow, TableRows, row_name}
use Rattle.documents.specs.Fields.{Piece, field}
use Rattle.documents.specs.Judging.{at}
use Rattle.documents.specs.Statements.{statement_fault}
use Rattle.documents.specs.Documents.{row_in, plan_in, table_in, newest_number, statement_due, top_fault}
use Rattle.documents.proofs.Going.{Passed, begun, onward}
use Rattle.documents.proofs.Passing.{VersionPasses, PlanPasses}
use Rattle.documents.proofs.Adding.{added_version, added_statement, added_plan, fault_version, fault_statement, fault_plan}
use Rattle.writing.specs.Bytes.{field_bytes}
use Rattle.writing.proofs.WrittenFields.{field_is_cut_off, field_and_rest_are_all}
use Rattle.writing.proofs.Allowed.{version_allowed, plan_allowed}

-- a table by its parts
abbrev pub table : List StatementRow → List PlanRow → TableRows
table statements plans = record { statements = statements; plans = plans }

-- the fields read so far, none at fault, say `t`; the last of them has the tag `last`; `rest` is left to be read
pub record FieldsRead (doc : List ℕ) (t : TableRows) (last : ℕ) (rest : List ℕ) : Type 0 where
  pub before : List Piece
  pub here : ℕ
  pub passed : Passed top_fault 0 doc before last here rest
  pub says : t ≡ table_in before

-- before the first field nothing is said
pub nothing_read : (doc : List ℕ) → FieldsRead doc (table [] []) 0 doc
nothing_read doc = record { before = []; here = 0; passed = begun top_fault 0 doc; says = refl }

module _ (doc : List ℕ) where
  -- one more field, not at fault, with what all then say
  one_more : (t : TableRows) (last tag : ℕ) (b rest : List ℕ) (new : TableRows) (h : FieldsRead doc t last (field_bytes tag b ++ rest)) → top_fault h.before (field h.here tag b) ≡ None → new ≡ table_in (h.before ++ field h.here tag b ∷ []) → FieldsRead doc new tag rest
  one_more t last tag b rest new h good says = record {
    before = h.before ++ field h.here tag b ∷ [];
    here = _;
    passed = onward h.passed tag b rest (field_is_cut_off h.here tag b rest) (field_and_rest_are_all tag b rest) good;
    says = says;
  }

  module _ (statements : List StatementRow) (plans : List PlanRow) (last : ℕ) (b rest : List ℕ) where
    -- the version
    pub version_read : VersionPasses last b → FieldsRead doc (table statements plans) last (field_bytes 1 b ++ rest) → FieldsRead doc (table statements plans) 1 rest
    version_read ok h =
        let t : TableRows = table statements plans in
        one_more t last 1 b rest t h
        (fault_version h.here last 1 b h.before t h.says h.passed.tag refl ∙ ap (at h.here) (version_allowed last b ok))
        (added_version h.here 1 b h.before t h.says refl)

    -- one statement more
    pub statement_read : (s : StatementRow) → statement_due last ≡ true → ((place : ℕ) → (statement_fault (map row_name statements) place b ≡ None) × (row_in b ≡ s)) → FieldsRead doc (table statements plans) last (field_bytes 2 b ++ rest) → FieldsRead doc (table (statements ++ s ∷ []) plans) 2 rest
    statement_read s due ok h =
        let t : TableRows = table statements plans in
        one_more t last 2 b rest _ h
        (fault_statement h.here last 2 b h.before t h.says h.passed.tag refl due (map row_name statements) refl ∙ (ok h.here).0)
        (added_statement h.here 2 b h.before t h.says refl (statements ++ s ∷ []) (ap (λ r. statements ++ r ∷ []) (sym (ok h.here).1)))

    -- one plan more
    pub plan_read : PlanPasses last (newest_number plans) (map row_name statements) b → FieldsRead doc (table statements plans) last (field_bytes 3 b ++ rest) → FieldsRead doc (table statements (plans ++ plan_in b ∷ [])) 3 rest
    plan_read ok h =
        let t : TableRows = table statements plans in
        one_more t last 3 b rest _ h
        (fault_plan h.here last 3 b h.before t h.says h.passed.tag refl (newest_number plans) (map row_name statements) refl refl ∙ ap (at h.here) (plan_allowed last (newest_number plans) (map row_name statements) b ok))
        (added_plan h.here 3 b h.before t h.says refl (plans ++ plan_in b ∷ []) refl)
