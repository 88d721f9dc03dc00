-- A written statement that keeps the rules is read without fault, and says that statement.
use Rattle.std.proofs.Common.{◌≡◌, ℕ, ◌+◌, Bool, true, false, ◌&&◌, leb, List, [], ◌∷◌, ◌++◌, length, Some, None, sym, refl, ap, ◌∙◌, subst, arith}
use Rattle.std.proofs.lemmas.List.{append-nil}
use Rattle.std.proofs.lemmas.Bool.{and_parts, cond-true}
use Rattle.std.proofs.lemmas.Bool.Decides.{nat_tests}
use Rattle.tables.specs.declared.statement.Mark.{Mark}
use Rattle.tables.specs.declared.statement.Mark.TheVariants.{Enabled, Disabled, Planned}
use Rattle.tables.specs.Limits.{max_tests, last_name, counted_to}
use Rattle.tables.specs.Lists.{absent, every, member}
use Rattle.tables.specs.Codes.{mark_code}
use Rattle.tables.specs.Rows.{StatementRow}
use Rattle.tables.specs.Rules.{joins_keep, test_keeps, branch_keeps, statement_keeps}
use Rattle.tables.specs.Refusals.{refused_at}
use Rattle.documents.specs.Fields.{pieces, last_tag}
use Rattle.documents.specs.Judging.{or_else}
use Rattle.documents.specs.Statements.{absent_mark, then_due, else_due, unfinished, statement_fault, statement_in}
use Rattle.documents.specs.Documents.{row_in}
use Rattle.documents.proofs.Going.{ended}
use Rattle.documents.proofs.Shifting.{statement_place}
use Rattle.writing.specs.Bytes.{field_bytes, mark_bytes, statement_body, tests_bytes, actions_bytes}
use Rattle.writing.proofs.WrittenLines.{written_mark_is_read}
use Rattle.writing.proofs.ReadParts.{row, PartsRead, nothing_read, name_read, mark_read}
use Rattle.writing.proofs.ReadLines.{tests_are_read, thens_are_read, elses_are_read}

-- what a statement that keeps the rules keeps
record PartsKeep (s : StatementRow) : Type 0 where
  named : counted_to last_name s.name ≡ true
  some : leb 1 (length s.tests) ≡ true
  few : leb (length s.tests) max_tests ≡ true
  joins : joins_keep s.tests ≡ true
  tests : every (λ t. test_keeps t.test) s.tests ≡ true
  thens : branch_keeps s.thens ≡ true
  elses : branch_keeps s.elses ≡ true

-- its parts, one by one
parts_keep : (s : StatementRow) → statement_keeps s ≡ true → PartsKeep s
parts_keep s keeps =
    let branches : Bool = branch_keeps s.thens && branch_keeps s.elses in
    let each : Bool = every (λ t. test_keeps t.test) s.tests in
    let count : Bool = leb 1 (length s.tests) && leb (length s.tests) max_tests in
    let a = and_parts (counted_to last_name s.name) (count && (joins_keep s.tests && (each && branches))) keeps in
    let b = and_parts count (joins_keep s.tests && (each && branches)) a.1 in
    let c = and_parts (leb 1 (length s.tests)) (leb (length s.tests) max_tests) b.0 in
    let d = and_parts (joins_keep s.tests) (each && branches) b.1 in
    let e = and_parts each branches d.1 in
    let f = and_parts (branch_keeps s.thens) (branch_keeps s.elses) e.1 in
    record { named = a.0; some = c.0; few = c.1; joins = d.0; tests = e.0; thens = f.0; elses = f.1 }

-- THEN actions are due only where ELSE actions are
then_or_else : (last : ℕ) → then_due last ≡ true → else_due last ≡ true
then_or_else last due = grind (arith, nat_tests)

module _ (used : List ℕ) (start : ℕ) (body : List ℕ) where
  -- the name is read first
  name_is_read : (n : ℕ) (rest : List ℕ) → counted_to last_name n ≡ true → member n used ≡ false → PartsRead used start body (row 0 absent_mark [] [] []) 0 (field_bytes 16 (n ∷ []) ++ rest) → PartsRead used start body (row n absent_mark [] [] []) 16 rest
  name_is_read n rest in_range unused h =
      name_read used start body 0 absent_mark [] [] [] 0 (n ∷ []) rest n refl (record { due = refl; sized = refl; in_range = in_range; unused = unused }) h

  module _ (n : ℕ) (rest : List ℕ) where
    -- a mark's field is read after the name
    spelled_mark_is_read : (m : Mark) → PartsRead used start body (row n absent_mark [] [] []) 16 (field_bytes 17 (mark_code m ∷ []) ++ rest) → PartsRead used start body (row n m [] [] []) 17 rest
    spelled_mark_is_read m h =
        let is = written_mark_is_read m in
        mark_read used start body n absent_mark [] [] [] 16 (mark_code m ∷ []) rest m is (record { due = refl; sized = refl; there = ap absent is }) h

    -- the mark is read, spelled out or not, and tests are due
    mark_is_read : (spelled : Bool) (m : Mark) → PartsRead used start body (row n absent_mark [] [] []) 16 (mark_bytes spelled m ++ rest) → (last : ℕ) × ((leb 16 last && leb last 18) ≡ true) × PartsRead used start body (row n m [] [] []) last rest
    mark_is_read spelled Enabled h = (17, refl, spelled_mark_is_read Enabled h)
    mark_is_read spelled Planned h = (17, refl, spelled_mark_is_read Planned h)
    mark_is_read true Disabled h = (17, refl, spelled_mark_is_read Disabled h)
    mark_is_read false Disabled h = (16, refl, h)

-- a written statement is read from its name to its last action
parts_are_read : (used : List ℕ) (start : ℕ) (spelled : Bool) (s : StatementRow) → PartsKeep s → member s.name used ≡ false → (end : ℕ) × (else_due end ≡ true) × PartsRead used start (statement_body spelled s) s end []
parts_are_read used start spelled s k unused =
    let body : List ℕ = statement_body spelled s in
    let elses : List ℕ = actions_bytes 20 s.elses in
    let thens : List ℕ = actions_bytes 19 s.thens ++ elses in
    let tests : List ℕ = tests_bytes s.tests ++ thens in
    let a = name_is_read used start body s.name (mark_bytes spelled s.mark ++ tests) k.named unused (nothing_read used start body) in
    let b = mark_is_read used start body s.name tests spelled s.mark a in
    let c = tests_are_read used start body s.name s.mark s.tests b.0 thens k.some k.few k.joins k.tests b.1 b.2 in
    let d = thens_are_read used start body s.name s.mark s.tests 18 elses s.thens k.thens refl c in
    elses_are_read used start body s.name s.mark s.tests d.0 [] s.thens s.elses k.elses (then_or_else d.0 d.1)
    (subst (PartsRead used start body (row s.name s.mark s.tests s.thens []) d.0) (sym (append-nil elses)) d.2)

-- where all of a statement's body is read and the last field is a test or an action, the body is not at fault
read_to_its_end : (used : List ℕ) (place : ℕ) (body : List ℕ) (s : StatementRow) (end : ℕ) → else_due end ≡ true → PartsRead used (place + 3) body s end [] → (statement_fault used place body ≡ None) × (row_in body ≡ s)
read_to_its_end used place body s end due h =
    let two = ended h.passed refl in
    let last : last_tag (pieces (place + 3) 0 body) ≡ end = ap last_tag (sym two.0) ∙ sym h.passed.tag in
    let finished : unfinished place end ≡ None = cond-true (leb 18 end) None (Some (refused_at 2 place)) (and_parts (leb 18 end) (leb end 20) due).0 in (
      ap (λ o. or_else o (unfinished place (last_tag (pieces (place + 3) 0 body)))) two.1 ∙ ap (unfinished place) last ∙ finished,
      statement_place 0 (place + 3) body ∙ ap statement_in (sym two.0) ∙ sym h.says,
    )

-- a written statement that keeps the rules, with a name not used above, is not at fault, wherever it stands, and says that statement
pub written_statement_is_read : (used : List ℕ) (place : ℕ) (spelled : Bool) (s : StatementRow) → statement_keeps s ≡ true → member s.name used ≡ false → (statement_fault used place (statement_body spelled s) ≡ None) × (row_in (statement_body spelled s) ≡ s)
written_statement_is_read used place spelled s keeps unused =
    let all = parts_are_read used (place + 3) spelled s (parts_keep s keeps) unused in
    read_to_its_end used place (statement_body spelled s) s all.0 all.1 all.2
