-- Reading a written statement field by field: what the fields read so far say, and what one more makes of it.
use Rattle.std.proofs.Common.{◌≡◌, ℕ, List, [], ◌∷◌, ◌++◌, length, Some, None, refl, ap, ◌∙◌}
use Rattle.tables.specs.declared.statement.Mark.{Mark}
use Rattle.tables.specs.declared.test.JoinedTest.{JoinedTest}
use Rattle.tables.specs.declared.action.Action.{Action}
use Rattle.tables.specs.Rows.{StatementRow}
use Rattle.documents.specs.Fields.{Piece, field}
use Rattle.documents.specs.Judging.{at}
use Rattle.documents.specs.Statements.{absent_mark, name_in, mark_in, test_in, action_in, then_due, else_due, part_fault, statement_in}
use Rattle.documents.proofs.Going.{Passed, begun, onward}
use Rattle.documents.proofs.Passing.{NamePasses, MarkPasses, TestPasses, ActionPasses}
use Rattle.documents.proofs.Taking.{fault_name, fault_mark, fault_test, fault_then, fault_else, took_name, took_mark, took_test, took_then, took_else}
use Rattle.writing.specs.Bytes.{field_bytes}
use Rattle.writing.proofs.WrittenFields.{field_is_cut_off, field_and_rest_are_all}
use Rattle.writing.proofs.Allowed.{name_allowed, mark_allowed, test_allowed, action_allowed}

-- a statement by its parts
abbrev pub row : ℕ → Mark → List JoinedTest → List Action → List Action → StatementRow
row name mark tests thens elses = record { name = name; mark = mark; tests = tests; thens = thens; elses = elses }

-- the fields read so far, none at fault, say `s`; the last of them has the tag `last`; `rest` is left to be read
pub record PartsRead (used : List ℕ) (start : ℕ) (body : List ℕ) (s : StatementRow) (last : ℕ) (rest : List ℕ) : Type 0 where
  pub before : List Piece
  pub here : ℕ
  pub passed : Passed (part_fault used) start body before last here rest
  pub says : s ≡ statement_in before

-- before the first field nothing is said
pub nothing_read : (used : List ℕ) (start : ℕ) (body : List ℕ) → PartsRead used start body (row 0 absent_mark [] [] []) 0 body
nothing_read used start body = record { before = []; here = start; passed = begun (part_fault used) start body; says = refl }

module _ (used : List ℕ) (start : ℕ) (body : List ℕ) where
  -- one more field, not at fault, with what all then say
  one_more : (s : StatementRow) (last tag : ℕ) (b rest : List ℕ) (new : StatementRow) (h : PartsRead used start body s last (field_bytes tag b ++ rest)) → part_fault used h.before (field h.here tag b) ≡ None → new ≡ statement_in (h.before ++ field h.here tag b ∷ []) → PartsRead used start body new tag rest
  one_more s last tag b rest new h good says = record {
    before = h.before ++ field h.here tag b ∷ [];
    here = _;
    passed = onward h.passed tag b rest (field_is_cut_off h.here tag b rest) (field_and_rest_are_all tag b rest) good;
    says = says;
  }

  module _ (name : ℕ) (mark : Mark) (tests : List JoinedTest) (thens elses : List Action) (last : ℕ) (b rest : List ℕ) where
    -- the name
    pub name_read : (n : ℕ) → n ≡ name_in b → NamePasses used last b → PartsRead used start body (row name mark tests thens elses) last (field_bytes 16 b ++ rest) → PartsRead used start body (row n mark tests thens elses) 16 rest
    name_read n is ok h =
        let s : StatementRow = row name mark tests thens elses in
        one_more s last 16 b rest _ h
        (fault_name used h.here last 16 b h.before s h.says h.passed.tag refl ∙ ap (at h.here) (name_allowed used last b ok))
        (took_name h.here 16 b h.before s h.says refl n is)

    -- a mark
    pub mark_read : (m : Mark) → mark_in b ≡ Some m → MarkPasses last b → PartsRead used start body (row name mark tests thens elses) last (field_bytes 17 b ++ rest) → PartsRead used start body (row name m tests thens elses) 17 rest
    mark_read m is ok h =
        let s : StatementRow = row name mark tests thens elses in
        one_more s last 17 b rest _ h
        (fault_mark used h.here last 17 b h.before s h.says h.passed.tag refl ∙ ap (at h.here) (mark_allowed last b ok))
        (took_mark h.here 17 b h.before s h.says refl m is)

    -- one test more
    pub test_read : (t : JoinedTest) → test_in b ≡ Some t → TestPasses last (length tests) b → PartsRead used start body (row name mark tests thens elses) last (field_bytes 18 b ++ rest) → PartsRead used start body (row name mark (tests ++ t ∷ []) thens elses) 18 rest
    test_read t is ok h =
        let s : StatementRow = row name mark tests thens elses in
        one_more s last 18 b rest _ h
        (fault_test used h.here last 18 b h.before s h.says h.passed.tag refl ∙ ap (at h.here) (test_allowed last (length tests) b ok))
        (took_test h.here 18 b h.before s h.says refl t is (tests ++ t ∷ []) refl)

    -- one THEN action more
    pub then_read : (a : Action) → action_in b ≡ Some a → ActionPasses (then_due last) thens b → PartsRead used start body (row name mark tests thens elses) last (field_bytes 19 b ++ rest) → PartsRead used start body (row name mark tests (thens ++ a ∷ []) elses) 19 rest
    then_read a is ok h =
        let s : StatementRow = row name mark tests thens elses in
        one_more s last 19 b rest _ h
        (fault_then used h.here last 19 b h.before s h.says h.passed.tag refl (then_due last) thens refl refl ∙ ap (at h.here) (action_allowed (then_due last) thens b ok))
        (took_then h.here 19 b h.before s h.says refl a is (thens ++ a ∷ []) refl)

    -- one ELSE action more
    pub else_read : (a : Action) → action_in b ≡ Some a → ActionPasses (else_due last) elses b → PartsRead used start body (row name mark tests thens elses) last (field_bytes 20 b ++ rest) → PartsRead used start body (row name mark tests thens (elses ++ a ∷ [])) 20 rest
    else_read a is ok h =
        let s : StatementRow = row name mark tests thens elses in
        one_more s last 20 b rest _ h
        (fault_else used h.here last 20 b h.before s h.says h.passed.tag refl (else_due last) elses refl refl ∙ ap (at h.here) (action_allowed (else_due last) elses b ok))
        (took_else h.here 20 b h.before s h.says refl a is (elses ++ a ∷ []) refl)
