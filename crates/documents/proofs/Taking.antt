-- What one more field changes in what the fields before it say.
use Rattle.std.proofs.Common.{◌≡◌, ℕ, Bool, true, false, cond, eqb, List, [], ◌∷◌, ◌++◌, map, length, Some, Option, sym, refl, ap, ◌∙◌}
use Rattle.std.proofs.lemmas.List.{append-nil, append_assoc, map-append}
use Rattle.tables.specs.declared.statement.Mark.{Mark}
use Rattle.tables.specs.declared.test.JoinedTest.{JoinedTest}
use Rattle.tables.specs.declared.action.Action.{Action}
use Rattle.tables.specs.Lists.{listed, somes}
use Rattle.tables.specs.Rows.{StatementRow}
use Rattle.documents.specs.Fields.{Piece, field, cut, tag_of, bodies, latest, last_tag}
use Rattle.documents.specs.Judging.{first, at}
use Rattle.documents.specs.Statements.{absent_mark, name_in, mark_in, test_in, tests_in, action_in, actions_in, name_rules, mark_rules, test_rules, action_rules, then_due, else_due, part_fault, statement_in}

-- the last of a list is what was put behind it
pub latest_push : {X : Type 0} (d : X) (xs : List X) (x : X) → latest d (xs ++ x ∷ []) ≡ x
latest_push d [] x = refl
latest_push d (y ∷ xs) x = latest_push y xs x

-- the values of two lists laid end to end
somes_append : {X : Type 0} (xs ys : List (Option X)) → somes (xs ++ ys) ≡ somes xs ++ somes ys
somes_append [] ys = refl
somes_append (x ∷ xs) ys = ap (λ l. listed x ++ l) (somes_append xs ys) ∙ sym (append_assoc (listed x) (somes xs) (somes ys))

either_way : (b : Bool) (x : List ℕ) (xs ys : List (List ℕ)) → cond b (x ∷ (xs ++ ys)) (xs ++ ys) ≡ cond b (x ∷ xs) xs ++ ys
either_way true x xs ys = refl
either_way false x xs ys = refl

-- one more field adds its body to those of its own tag
pub bodies_push : (t place tag : ℕ) (body : List ℕ) (ps : List Piece) → bodies t (ps ++ field place tag body ∷ []) ≡ bodies t ps ++ cond (eqb tag t) (body ∷ []) []
bodies_push t place tag body [] = refl
bodies_push t place tag body (cut p ∷ ps) = bodies_push t place tag body ps
bodies_push t place tag body (field p u b ∷ ps) =
    ap (λ l. cond (eqb u t) (b ∷ l) l) (bodies_push t place tag body ps) ∙ either_way (eqb u t) b (bodies t ps) (cond (eqb tag t) (body ∷ []) [])

-- and its tag is the last
pub tag_push : (place tag : ℕ) (body : List ℕ) (ps : List Piece) → last_tag (ps ++ field place tag body ∷ []) ≡ tag
tag_push place tag body ps = ap (latest 0) (map-append tag_of ps (field place tag body ∷ [])) ∙ latest_push 0 (map tag_of ps) tag

module _ (place : ℕ) (body : List ℕ) (ps : List Piece) where
  -- bodies of another tag stay
  pub same : (t tag : ℕ) → cond (eqb tag t) (body ∷ []) [] ≡ [] → bodies t (ps ++ field place tag body ∷ []) ≡ bodies t ps
  same t tag e = bodies_push t place tag body ps ∙ ap (λ l. bodies t ps ++ l) e ∙ append-nil (bodies t ps)

  -- those of the field's own tag get one more
  pub more : (t : ℕ) → cond (eqb t t) (body ∷ []) [] ≡ body ∷ [] → bodies t (ps ++ field place t body ∷ []) ≡ bodies t ps ++ body ∷ []
  more t e = bodies_push t place t body ps ∙ ap (λ l. bodies t ps ++ l) e

  -- and so do their values
  pub value_more : {X : Type 0} (f : List ℕ → Option X) (t : ℕ) (v : X) → cond (eqb t t) (body ∷ []) [] ≡ body ∷ [] → f body ≡ Some v → somes (map f (bodies t (ps ++ field place t body ∷ []))) ≡ somes (map f (bodies t ps)) ++ v ∷ []
  value_more f t v e is =
      ap (λ l. somes (map f l)) (more t e) ∙ ap somes (map-append f (bodies t ps) (body ∷ [])) ∙ somes_append (map f (bodies t ps)) (f body ∷ [])
      ∙ ap (λ o. somes (map f (bodies t ps)) ++ (listed o ++ [])) is

  row_name : statement_in (ps ++ field place 16 body ∷ []) ≡ record { name = name_in body; mark = (statement_in ps).mark; tests = (statement_in ps).tests; thens = (statement_in ps).thens; elses = (statement_in ps).elses }
  row_name =
      let n = ap (λ l. latest 0 (map name_in l)) (more 16 refl) ∙ ap (latest 0) (map-append name_in (bodies 16 ps) (body ∷ [])) ∙ latest_push 0 (map name_in (bodies 16 ps)) (name_in body) in
      let m = same 17 16 refl in let t = same 18 16 refl in let a = same 19 16 refl in let e = same 20 16 refl in
      cc

  row_mark : (v : Mark) → mark_in body ≡ Some v → statement_in (ps ++ field place 17 body ∷ []) ≡ record { name = (statement_in ps).name; mark = v; tests = (statement_in ps).tests; thens = (statement_in ps).thens; elses = (statement_in ps).elses }
  row_mark v is =
      let n = same 16 17 refl in
      let m = ap (latest absent_mark) (value_more mark_in 17 v refl is) ∙ latest_push absent_mark (somes (map mark_in (bodies 17 ps))) v in
      let t = same 18 17 refl in let a = same 19 17 refl in let e = same 20 17 refl in
      cc

  row_test : (v : JoinedTest) → test_in body ≡ Some v → statement_in (ps ++ field place 18 body ∷ []) ≡ record { name = (statement_in ps).name; mark = (statement_in ps).mark; tests = (statement_in ps).tests ++ v ∷ []; thens = (statement_in ps).thens; elses = (statement_in ps).elses }
  row_test v is =
      let n = same 16 18 refl in let m = same 17 18 refl in let t = value_more test_in 18 v refl is in let a = same 19 18 refl in let e = same 20 18 refl in
      cc

  row_then : (v : Action) → action_in body ≡ Some v → statement_in (ps ++ field place 19 body ∷ []) ≡ record { name = (statement_in ps).name; mark = (statement_in ps).mark; tests = (statement_in ps).tests; thens = (statement_in ps).thens ++ v ∷ []; elses = (statement_in ps).elses }
  row_then v is =
      let n = same 16 19 refl in let m = same 17 19 refl in let t = same 18 19 refl in let a = value_more action_in 19 v refl is in let e = same 20 19 refl in
      cc

  row_else : (v : Action) → action_in body ≡ Some v → statement_in (ps ++ field place 20 body ∷ []) ≡ record { name = (statement_in ps).name; mark = (statement_in ps).mark; tests = (statement_in ps).tests; thens = (statement_in ps).thens; elses = (statement_in ps).elses ++ v ∷ [] }
  row_else v is =
      let n = same 16 20 refl in let m = same 17 20 refl in let t = same 18 20 refl in let a = same 19 20 refl in let e = value_more action_in 20 v refl is in
      cc

-- the fault of a field whose tag is known by an equation, where `s` is what the fields before it say
module _ (used : List ℕ) (place last tag : ℕ) (body : List ℕ) (before : List Piece) (s : StatementRow) (is : s ≡ statement_in before) (l : last ≡ last_tag before) where
  judged : (t : ℕ) → tag ≡ t → part_fault used before (field place tag body) ≡ part_fault used before (field place t body)
  judged t e = ap (λ t. part_fault used before (field place t body)) e

  pub fault_name : tag ≡ 16 → part_fault used before (field place tag body) ≡ at place (first (name_rules used last body))
  fault_name e = judged 16 e ∙ ap (λ x. at place (first (name_rules used x body))) (sym l)

  pub fault_mark : tag ≡ 17 → part_fault used before (field place tag body) ≡ at place (first (mark_rules last body))
  fault_mark e = judged 17 e ∙ ap (λ x. at place (first (mark_rules x body))) (sym l)

  pub fault_test : tag ≡ 18 → part_fault used before (field place tag body) ≡ at place (first (test_rules last (length s.tests) body))
  fault_test e =
      let n : s.tests ≡ tests_in before = ap (λ (r : StatementRow). r.tests) is in
      judged 18 e ∙ (cc)

  pub fault_then : tag ≡ 19 → (due : Bool) (above : List Action) → due ≡ then_due last → above ≡ s.thens → part_fault used before (field place tag body) ≡ at place (first (action_rules due above body))
  fault_then e due above d a =
      let n : s.thens ≡ actions_in 19 before = ap (λ (r : StatementRow). r.thens) is in
      judged 19 e ∙ (cc)

  pub fault_else : tag ≡ 20 → (due : Bool) (above : List Action) → due ≡ else_due last → above ≡ s.elses → part_fault used before (field place tag body) ≡ at place (first (action_rules due above body))
  fault_else e due above d a =
      let n : s.elses ≡ actions_in 20 before = ap (λ (r : StatementRow). r.elses) is in
      judged 20 e ∙ (cc)

-- what the fields say with one more whose tag is known by an equation
module _ (place tag : ℕ) (body : List ℕ) (before : List Piece) (s : StatementRow) (is : s ≡ statement_in before) where
  push : (t : ℕ) → tag ≡ t → statement_in (before ++ field place tag body ∷ []) ≡ statement_in (before ++ field place t body ∷ [])
  push t e = ap (λ t. statement_in (before ++ field place t body ∷ [])) e

  pub took_name : tag ≡ 16 → (v : ℕ) → v ≡ name_in body → record { name = v; mark = s.mark; tests = s.tests; thens = s.thens; elses = s.elses } ≡ statement_in (before ++ field place tag body ∷ [])
  took_name e v h = let p = push 16 e in let r = row_name place body before in cc

  pub took_mark : tag ≡ 17 → (v : Mark) → mark_in body ≡ Some v → record { name = s.name; mark = v; tests = s.tests; thens = s.thens; elses = s.elses } ≡ statement_in (before ++ field place tag body ∷ [])
  took_mark e v h = let p = push 17 e in let r = row_mark place body before v h in cc

  pub took_test : tag ≡ 18 → (v : JoinedTest) → test_in body ≡ Some v → (l : List JoinedTest) → l ≡ s.tests ++ v ∷ [] → record { name = s.name; mark = s.mark; tests = l; thens = s.thens; elses = s.elses } ≡ statement_in (before ++ field place tag body ∷ [])
  took_test e v h l g = let p = push 18 e in let r = row_test place body before v h in cc

  pub took_then : tag ≡ 19 → (v : Action) → action_in body ≡ Some v → (l : List Action) → l ≡ s.thens ++ v ∷ [] → record { name = s.name; mark = s.mark; tests = s.tests; thens = l; elses = s.elses } ≡ statement_in (before ++ field place tag body ∷ [])
  took_then e v h l g = let p = push 19 e in let r = row_then place body before v h in cc

  pub took_else : tag ≡ 20 → (v : Action) → action_in body ≡ Some v → (l : List Action) → l ≡ s.elses ++ v ∷ [] → record { name = s.name; mark = s.mark; tests = s.tests; thens = s.thens; elses = l } ≡ statement_in (before ++ field place tag body ∷ [])
  took_else e v h l g = let p = push 20 e in let r = row_else place body before v h in cc
