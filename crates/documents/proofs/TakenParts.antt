-- A field without fault taken into a statement: for each kind of field, what the reader of its body tells.
use Rattle.std.proofs.Common.{◌≡◌, ℕ, ◌&&◌, nat_le, List, [], ◌∷◌, ◌++◌, length, Some, None, refl, ap, ◌∙◌}
use Rattle.tables.specs.declared.codes.tags.StatementField.{StatementField}
use Rattle.tables.specs.declared.codes.tags.StatementField.TheVariants.{Name, Mark, Test, ThenAction, ElseAction}
use Rattle.tables.specs.declared.statement.Mark.{Mark as StatementMark}
use Rattle.tables.specs.declared.test.JoinedTest.{JoinedTest}
use Rattle.tables.specs.declared.action.Action.{Action}
use Rattle.tables.specs.Lists.{listed}
use Rattle.tables.specs.Rows.{StatementRow}
use Rattle.tables.specs.Tags.{statement_tag}
use Rattle.documents.specs.declared.field.Field.{Field}
use Rattle.documents.specs.Fields.{Piece, last_tag, tag_before}
use Rattle.documents.specs.Judging.{first, at}
use Rattle.documents.specs.Statements.{name_in, mark_in, test_in, action_in, name_rules, mark_rules, test_rules, action_rules, part_fault, statement_in}
use Rattle.documents.specs.Reads.{piece_of, follows}
use Rattle.documents.proofs.Faultless.{value_there}
use Rattle.documents.proofs.Passing.{test_passes, action_passes}
use Rattle.documents.proofs.Taking.{fault_name, fault_mark, fault_test, fault_then, fault_else, took_name, took_mark, took_test, took_then, took_else}

module _ (used : List ℕ) (f : Field StatementField) (before : List Piece) (s : StatementRow) (is : s ≡ statement_in before) (l : tag_before statement_tag f.before ≡ last_tag before) where
  -- what a field leaves where it has no fault
  abbrev Takes : StatementRow → Type 0
  Takes t = (part_fault used before (piece_of statement_tag f) ≡ None) × (t ≡ statement_in (before ++ piece_of statement_tag f ∷ []))

  abbrev last : ℕ
  last = tag_before statement_tag f.before

  abbrev tag : ℕ
  tag = statement_tag f.kind

  abbrev body : List ℕ
  body = f.body.now

  pub taken_name : f.kind ≡ Name → (n : ℕ) → (first (name_rules used last body) ≡ None) × (n ≡ name_in body) → Takes (record { name = n; mark = s.mark; tests = s.tests; thens = s.thens; elses = s.elses })
  taken_name e n read =
      (fault_name used f.place last tag body before s is l (ap statement_tag e) ∙ ap (at f.place) read.0, took_name f.place tag body before s is (ap statement_tag e) n read.1)

  pub taken_mark : f.kind ≡ Mark → (v : StatementMark) → (first (mark_rules last body) ≡ None) × (mark_in body ≡ Some v) → Takes (record { name = s.name; mark = v; tests = s.tests; thens = s.thens; elses = s.elses })
  taken_mark e v read =
      (fault_mark used f.place last tag body before s is l (ap statement_tag e) ∙ ap (at f.place) read.0, took_mark f.place tag body before s is (ap statement_tag e) v read.1)

  pub taken_test : f.kind ≡ Test → (ts : List JoinedTest) → (first (test_rules last (length s.tests) body) ≡ None) × (ts ≡ s.tests ++ listed (test_in body)) → Takes (record { name = s.name; mark = s.mark; tests = ts; thens = s.thens; elses = s.elses })
  taken_test e ts read =
      let v = value_there (test_in body) (test_passes last (length s.tests) body read.0).there in
      (fault_test used f.place last tag body before s is l (ap statement_tag e) ∙ ap (at f.place) read.0, took_test f.place tag body before s is (ap statement_tag e) v.0 v.1 ts (read.1 ∙ ap (λ o. s.tests ++ listed o) v.1))

  pub taken_then : f.kind ≡ ThenAction → (actions : List Action) → (first (action_rules (follows statement_tag Test f) s.thens body) ≡ None) × (actions ≡ s.thens ++ listed (action_in body)) → Takes (record { name = s.name; mark = s.mark; tests = s.tests; thens = actions; elses = s.elses })
  taken_then e actions read =
      let v = value_there (action_in body) (action_passes (follows statement_tag Test f) s.thens body read.0).there in
      (fault_then used f.place last tag body before s is l (ap statement_tag e) (follows statement_tag Test f) s.thens (ap (λ k. nat_le 18 last && nat_le last (statement_tag k)) e) refl ∙ ap (at f.place) read.0, took_then f.place tag body before s is (ap statement_tag e) v.0 v.1 actions (read.1 ∙ ap (λ o. s.thens ++ listed o) v.1))

  pub taken_else : f.kind ≡ ElseAction → (actions : List Action) → (first (action_rules (follows statement_tag Test f) s.elses body) ≡ None) × (actions ≡ s.elses ++ listed (action_in body)) → Takes (record { name = s.name; mark = s.mark; tests = s.tests; thens = s.thens; elses = actions })
  taken_else e actions read =
      let v = value_there (action_in body) (action_passes (follows statement_tag Test f) s.elses body read.0).there in
      (fault_else used f.place last tag body before s is l (ap statement_tag e) (follows statement_tag Test f) s.elses (ap (λ k. nat_le 18 last && nat_le last (statement_tag k)) e) refl ∙ ap (at f.place) read.0, took_else f.place tag body before s is (ap statement_tag e) v.0 v.1 actions (read.1 ∙ ap (λ o. s.elses ++ listed o) v.1))
