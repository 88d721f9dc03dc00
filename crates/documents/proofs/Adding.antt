-- What one more field of a document changes in the table that the fields before it say.
use Rattle.std.proofs.Common.{◌≡◌, ℕ, ◌<◌, ◌≤◌, Bool, true, not, ◌&&◌, leb, List, [], ◌∷◌, ◌++◌, map, length, Some, None, Option, sym, refl, ap, ◌∙◌, arith}
use Rattle.std.proofs.lemmas.List.{length_push}
use Rattle.std.proofs.lemmas.Bool.{and_parts, leb-true}
use Rattle.tables.specs.Limits.{last_name}
use Rattle.tables.specs.Lists.{every, distinct, rising}
use Rattle.tables.specs.Rows.{StatementRow, PlanRow, TableRows, row_name, row_number}
use Rattle.tables.specs.Rules.{statement_keeps, plan_keeps, table_keeps}
use Rattle.documents.specs.Fields.{Piece, field, last_tag}
use Rattle.documents.specs.Judging.{first, at, or_else, first_fault}
use Rattle.documents.specs.Statements.{statement_fault}
use Rattle.documents.specs.Documents.{row_in, plan_in, table_in, names_in, newest_number, last_plan, version_rules, statement_due, plan_rules, top_fault}
use Rattle.documents.proofs.Taking.{same}
use Rattle.documents.proofs.Pushing.{said_more}
use Rattle.documents.proofs.Going.{clean_push}
use Rattle.documents.proofs.KeptTables.{clean_pieces_keep_the_rules}

-- a fault with nothing behind it
or_nothing : {X : Type 0} (x : Option X) → or_else x None ≡ x
or_nothing None = refl
or_nothing (Some x) = refl

module _ (place : ℕ) (body : List ℕ) (before : List Piece) where
  -- the version adds nothing
  version_more : table_in (before ++ field place 1 body ∷ []) ≡ table_in before
  version_more = let s = same place body before 2 1 refl in let p = same place body before 3 1 refl in cc

  -- a statement adds itself
  statement_more : table_in (before ++ field place 2 body ∷ []) ≡ record { statements = (table_in before).statements ++ row_in body ∷ []; plans = (table_in before).plans }
  statement_more = let s = said_more row_in 2 place body before refl in let p = same place body before 3 2 refl in cc

  -- a plan adds itself
  plan_more : table_in (before ++ field place 3 body ∷ []) ≡ record { statements = (table_in before).statements; plans = (table_in before).plans ++ plan_in body ∷ [] }
  plan_more = let s = same place body before 2 3 refl in let p = said_more plan_in 3 place body before refl in cc

-- the table with one more field whose tag is known by an equation
module _ (place tag : ℕ) (body : List ℕ) (before : List Piece) (t : TableRows) (is : t ≡ table_in before) where
  pushed : (n : ℕ) → tag ≡ n → table_in (before ++ field place tag body ∷ []) ≡ table_in (before ++ field place n body ∷ [])
  pushed n e = ap (λ k. table_in (before ++ field place k body ∷ [])) e

  pub added_version : tag ≡ 1 → t ≡ table_in (before ++ field place tag body ∷ [])
  added_version e = is ∙ sym (pushed 1 e ∙ version_more place body before)

  pub added_statement : tag ≡ 2 → (rows : List StatementRow) → rows ≡ t.statements ++ row_in body ∷ [] → record { statements = rows; plans = t.plans } ≡ table_in (before ++ field place tag body ∷ [])
  added_statement e rows h = let p = pushed 2 e in let m = statement_more place body before in cc

  pub added_plan : tag ≡ 3 → (rows : List PlanRow) → rows ≡ t.plans ++ plan_in body ∷ [] → record { statements = t.statements; plans = rows } ≡ table_in (before ++ field place tag body ∷ [])
  added_plan e rows h = let p = pushed 3 e in let m = plan_more place body before in cc

-- the fault of a field whose tag is known by an equation, where `t` is what the fields before it say
module _ (place last tag : ℕ) (body : List ℕ) (before : List Piece) (t : TableRows) (is : t ≡ table_in before) (l : last ≡ last_tag before) where
  judged : (n : ℕ) → tag ≡ n → top_fault before (field place tag body) ≡ top_fault before (field place n body)
  judged n e = ap (λ k. top_fault before (field place k body)) e

  pub fault_version : tag ≡ 1 → top_fault before (field place tag body) ≡ at place (first (version_rules last body))
  fault_version e = judged 1 e ∙ or_nothing (at place (first (version_rules (last_tag before) body))) ∙ ap (λ x. at place (first (version_rules x body))) (sym l)

  pub fault_statement : tag ≡ 2 → statement_due last ≡ true → (names : List ℕ) → names ≡ map row_name t.statements → top_fault before (field place tag body) ≡ statement_fault names place body
  fault_statement e due names n =
      let known : names_in before ≡ names = ap (λ (r : TableRows). map row_name r.statements) (sym is) ∙ sym n in
      judged 2 e
      ∙ ap (λ b. or_else (at place (first ((not b, 2) ∷ []))) (statement_fault (names_in before) place body)) (ap statement_due (sym l) ∙ due)
      ∙ ap (λ ns. statement_fault ns place body) known

  pub fault_plan : tag ≡ 3 → (above : ℕ) (names : List ℕ) → above ≡ newest_number t.plans → names ≡ map row_name t.statements → top_fault before (field place tag body) ≡ at place (first (plan_rules last above names body))
  fault_plan e above names a n =
      let known : names_in before ≡ names = ap (λ (r : TableRows). map row_name r.statements) (sym is) ∙ sym n in
      let newest : last_plan before ≡ above = ap (λ (r : TableRows). newest_number r.plans) (sym is) ∙ sym a in
      judged 3 e ∙ or_nothing (at place (first (plan_rules (last_tag before) (last_plan before) (names_in before) body))) ∙ (cc)

-- a table that keeps the rules has few enough statements and plans
statements_few : (t : TableRows) → table_keeps t ≡ true → length t.statements ≤ last_name
unfolding table_keeps
statements_few t e = leb-true (length t.statements) last_name (and_parts _ _ e).0

plans_few : (t : TableRows) → table_keeps t ≡ true → length t.plans ≤ last_name
unfolding table_keeps
plans_few t e =
    let names : List ℕ = map row_name t.statements in
    let plans : Bool = every (plan_keeps names) t.plans && rising 0 (map row_number t.plans) in
    let few : Bool = leb (length t.plans) last_name in
    let behind : Bool = distinct names && (few && plans) in
    let two = and_parts (leb (length t.statements) last_name) (every statement_keeps t.statements && behind) e in
    let three = and_parts (every statement_keeps t.statements) behind two.1 in
    let four = and_parts (distinct names) (few && plans) three.1 in
    leb-true (length t.plans) last_name (and_parts few plans four.1).0

-- so a statement or a plan that no rule refuses finds room
module _ (place tag : ℕ) (body : List ℕ) (before : List Piece) (clean : first_fault top_fault [] before ≡ None) (good : top_fault before (field place tag body) ≡ None) where
  kept : table_keeps (table_in (before ++ field place tag body ∷ [])) ≡ true
  kept = clean_pieces_keep_the_rules (before ++ field place tag body ∷ []) (clean_push top_fault [] before (field place tag body) clean good)

  pub statement_room : tag ≡ 2 → length (table_in before).statements < last_name
  statement_room e =
      let few = statements_few (table_in (before ++ field place tag body ∷ [])) kept in
      let more = ap (λ k. (table_in (before ++ field place k body ∷ [])).statements) e ∙ ap (λ (r : TableRows). r.statements) (statement_more place body before) in
      omega (arith, ap length more, length_push (table_in before).statements (row_in body))

  pub plan_room : tag ≡ 3 → length (table_in before).plans < last_name
  plan_room e =
      let few = plans_few (table_in (before ++ field place tag body ∷ [])) kept in
      let more = ap (λ k. (table_in (before ++ field place k body ∷ [])).plans) e ∙ ap (λ (r : TableRows). r.plans) (plan_more place body before) in
      omega (arith, ap length more, length_push (table_in before).plans (plan_in body))
