-- A field taken into a table under construction: for each kind of field, what the reader of its body tells.
use Rattle.std.proofs.Common.{◌≡◌, ℕ, ◌+◌, ◌<◌, Bool, true, ◌&&◌, nat_le, List, [], ◌∷◌, ◌++◌, map, length, None, sym, ap, ◌∙◌, arith}
use Rattle.std.proofs.lemmas.List.{length-map, map_push}
use Rattle.bounded.specs.Held.{held}
use Rattle.tables.specs.declared.codes.tags.DocumentField.{DocumentField}
use Rattle.tables.specs.declared.codes.tags.DocumentField.TheVariants.{Version, Statement, Plan}
use Rattle.tables.specs.declared.statement.Statement.{Statement as StatementType}
use Rattle.tables.specs.declared.plan.Plan.{Plan as PlanType}
use Rattle.tables.specs.Limits.{last_name}
use Rattle.tables.specs.Rows.{TableRows, statement_row, plan_row, table_rows}
use Rattle.tables.specs.Tags.{document_tag}
use Rattle.documents.specs.declared.draft.Draft.{Draft}
use Rattle.documents.specs.declared.field.Field.{Field}
use Rattle.documents.specs.Fields.{Piece, pieces, last_tag, tag_before}
use Rattle.documents.specs.Judging.{first, at, first_fault}
use Rattle.documents.specs.Statements.{statement_fault, statement_in}
use Rattle.documents.specs.Documents.{table_in, newest_number, version_rules, plan_rules, plan_in, top_fault}
use Rattle.documents.specs.Drafts.{draft_rows}
use Rattle.documents.specs.Reads.{names_of, piece_of}
use Rattle.documents.proofs.Adding.{added_version, added_statement, added_plan, fault_version, fault_statement, fault_plan, statement_room, plan_room}
use Rattle.documents.proofs.Shifting.{statement_place}

module _ (f : Field DocumentField) (before : List Piece) (d : Draft) (is : draft_rows d ≡ table_in before) (l : tag_before document_tag f.before ≡ last_tag before) where
  abbrev last : ℕ
  last = tag_before document_tag f.before

  abbrev tag : ℕ
  tag = document_tag f.kind

  abbrev body : List ℕ
  body = f.body.now

  -- the field is not at fault
  abbrev Good : Type 0
  Good = top_fault before (piece_of document_tag f) ≡ None

  -- these rows are what the fields say with this one
  abbrev Said : List StatementType → List PlanType → Type 0
  Said ss ps = table_rows ss ps ≡ table_in (before ++ piece_of document_tag f ∷ [])

  pub taken_version : f.kind ≡ Version → first (version_rules last body) ≡ None → Good × Said (held d.statements) (held d.plans)
  taken_version e read =
      (fault_version f.place last tag body before (draft_rows d) is l (ap document_tag e) ∙ ap (at f.place) read, added_version f.place tag body before (draft_rows d) is (ap document_tag e))

  module _ (e : f.kind ≡ Statement) (due : Bool) (follows : due ≡ (nat_le 1 last && nat_le last tag)) (now : due ≡ true) (above : List StatementType) (held_above : above ≡ held d.statements) (read : statement_fault (names_of above) f.place body ≡ None) where
    pub good_statement : Good
    good_statement =
        fault_statement f.place last tag body before (draft_rows d) is l (ap document_tag e) (ap (λ k. nat_le 1 last && nat_le last (document_tag k)) (sym e) ∙ sym follows ∙ now) (names_of above) (ap names_of held_above) ∙ read

    -- there is room for the statement
    pub room_for_statement : first_fault top_fault [] before ≡ None → length (held d.statements) < last_name
    room_for_statement clean =
        omega (arith, statement_room f.place tag body before clean good_statement (ap document_tag e), length-map (held d.statements) statement_row, ap (λ (r : TableRows). length r.statements) is)

    pub taken_statement : (s : StatementType) (ss : List StatementType) → ss ≡ held d.statements ++ s ∷ [] → statement_row s ≡ statement_in (pieces (f.place + 3) 0 body) → Good × Said ss (held d.plans)
    taken_statement s ss more row = (
      good_statement,
      added_statement f.place tag body before (draft_rows d) is (ap document_tag e) (map statement_row ss)
          (ap (map statement_row) more ∙ map_push statement_row (held d.statements) s ∙ ap (λ r. map statement_row (held d.statements) ++ r ∷ []) (row ∙ statement_place (f.place + 3) 0 body)),
    )

  module _ (e : f.kind ≡ Plan) (names : List StatementType) (held_names : names ≡ held d.statements) (above : List PlanType) (held_above : above ≡ held d.plans) (read : first (plan_rules last (newest_number (map plan_row above)) (names_of names) body) ≡ None) where
    pub good_plan : Good
    good_plan =
        fault_plan f.place last tag body before (draft_rows d) is l (ap document_tag e) (newest_number (map plan_row above)) (names_of names) (ap (λ ps. newest_number (map plan_row ps)) held_above) (ap names_of held_names) ∙ ap (at f.place) read

    -- there is room for the plan
    pub room_for_plan : first_fault top_fault [] before ≡ None → length (held d.plans) < last_name
    room_for_plan clean =
        omega (arith, plan_room f.place tag body before clean good_plan (ap document_tag e), length-map (held d.plans) plan_row, ap (λ (r : TableRows). length r.plans) is)

    pub taken_plan : (p : PlanType) (ps : List PlanType) → ps ≡ held d.plans ++ p ∷ [] → plan_row p ≡ plan_in body → Good × Said (held d.statements) ps
    taken_plan p ps more row = (
      good_plan,
      added_plan f.place tag body before (draft_rows d) is (ap document_tag e) (map plan_row ps)
          (ap (map plan_row) more ∙ map_push plan_row (held d.plans) p ∙ ap (λ r. map plan_row (held d.plans) ++ r ∷ []) row),
    )
