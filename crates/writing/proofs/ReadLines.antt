-- Reading the written tests of a statement, and the written actions of a branch.
use Rattle.std.proofs.Common.{◌≡◌, ℕ, Bool, true, false, ◌&&◌, eqb, ltb, leb, List, [], ◌∷◌, ◌++◌, length, refl, ap, ◌∙◌, subst, append_assoc, arith}
use Rattle.std.proofs.lemmas.Bool.{and_parts}
use Rattle.tables.specs.declared.statement.Mark.{Mark}
use Rattle.tables.specs.declared.test.Join.{Join}
use Rattle.tables.specs.declared.test.Join.TheVariants.{First, And, Or}
use Rattle.tables.specs.declared.test.JoinedTest.{JoinedTest}
use Rattle.tables.specs.declared.action.Action.{Action}
use Rattle.tables.specs.Limits.{max_tests, max_actions, max_delay}
use Rattle.tables.specs.Lists.{every, absent, listed}
use Rattle.tables.specs.Codes.{join_code}
use Rattle.tables.specs.Rows.{StatementRow}
use Rattle.tables.specs.Rules.{alike, begins, joins_keep, test_keeps, action_keeps, delays, branch_keeps}
use Rattle.documents.specs.Statements.{then_due, else_due}
use Rattle.documents.proofs.Passing.{TestPasses, ActionPasses}
use Rattle.writing.specs.Bytes.{field_bytes, test_body, action_body, tests_bytes, actions_bytes}
use Rattle.writing.proofs.Fronts.{room_for_it, one_on, none_behind, begins_if_first, short_up_to_it}
use Rattle.writing.proofs.WrittenLines.{written_test_is_read, written_action_is_read}
use Rattle.writing.proofs.ReadParts.{row, PartsRead, test_read, then_read, else_read}

-- ---- one line

-- a join's code is 0 exactly where the join begins
begins_at : (j : Join) → eqb (join_code j) 0 ≡ begins j
begins_at First = refl
begins_at And = refl
begins_at Or = refl

-- a written test meets its rules where it is due, there is room for it, it begins if it is the first, and it is in range
written_test_passes : (last : ℕ) (before : List JoinedTest) (t : JoinedTest) → (leb 16 last && leb last 18) ≡ true → leb max_tests (length before) ≡ false → alike (eqb (length before) 0) (begins t.join) ≡ true → test_keeps t.test ≡ true → TestPasses last (length before) (test_body t)
written_test_passes last before t due few joins keeps = record {
  due = due;
  sized = refl;
  few = few;
  there = ap absent (written_test_is_read t keeps);
  joins = ap (alike (eqb (length before) 0)) (begins_at t.join) ∙ joins;
}

-- a written action meets its rules where it is due, there is room for it, the DELAYs stay short, and it is in range
written_action_passes : (due : Bool) (before : List Action) (a : Action) → due ≡ true → leb max_actions (length before) ≡ false → ltb max_delay (delays (before ++ a ∷ [])) ≡ false → action_keeps a ≡ true → ActionPasses due before (action_body a)
written_action_passes due before a in_turn few short keeps =
    let is = written_action_is_read a keeps in
    record {
      in_turn = in_turn;
      sized = refl;
      few = few;
      there = ap absent is;
      short = ap (λ o. ltb max_delay (delays (before ++ listed o))) is ∙ short;
    }

-- ---- the tests

module _ (used : List ℕ) (start : ℕ) (body : List ℕ) (name : ℕ) (mark : Mark) (all : List JoinedTest) (few : leb (length all) max_tests ≡ true) (joins : joins_keep all ≡ true) where
  -- the next of a statement's tests is read, after the name, the mark or another test
  next_test_is_read : (before : List JoinedTest) (t : JoinedTest) (behind : List JoinedTest) (last : ℕ) (rest : List ℕ) → before ++ t ∷ behind ≡ all → (leb 16 last && leb last 18) ≡ true → test_keeps t.test ≡ true → PartsRead used start body (row name mark before [] []) last (tests_bytes (t ∷ behind) ++ rest) → PartsRead used start body (row name mark (before ++ t ∷ []) [] []) 18 (tests_bytes behind ++ rest)
  next_test_is_read before t behind last rest is due keeps h =
      test_read used start body name mark before [] [] last (test_body t) (tests_bytes behind ++ rest) t
      (written_test_is_read t keeps)
      (written_test_passes last before t due (room_for_it max_tests before t behind all is few) (begins_if_first before t behind all is joins) keeps)
      (subst (PartsRead used start body (row name mark before [] []) last) (append_assoc (field_bytes 18 (test_body t)) (tests_bytes behind) rest) h)

  -- so are those behind the first
  later_tests_are_read : (before behind : List JoinedTest) (rest : List ℕ) → before ++ behind ≡ all → every (λ t. test_keeps t.test) behind ≡ true → PartsRead used start body (row name mark before [] []) 18 (tests_bytes behind ++ rest) → PartsRead used start body (row name mark all [] []) 18 rest
  later_tests_are_read before [] rest is keep h = subst (λ ts. PartsRead used start body (row name mark ts [] []) 18 rest) (none_behind before all is) h
  later_tests_are_read before (t ∷ behind) rest is keep h =
      let two = and_parts (test_keeps t.test) (every (λ u. test_keeps u.test) behind) keep in
      later_tests_are_read (before ++ t ∷ []) behind rest (one_on before t behind all is) two.1 (next_test_is_read before t behind 18 rest is refl two.0 h)

-- all the tests of a statement that has one are read after its name and its mark
pub tests_are_read : (used : List ℕ) (start : ℕ) (body : List ℕ) (name : ℕ) (mark : Mark) (all : List JoinedTest) (last : ℕ) (rest : List ℕ) → leb 1 (length all) ≡ true → leb (length all) max_tests ≡ true → joins_keep all ≡ true → every (λ t. test_keeps t.test) all ≡ true → (leb 16 last && leb last 18) ≡ true → PartsRead used start body (row name mark [] [] []) last (tests_bytes all ++ rest) → PartsRead used start body (row name mark all [] []) 18 rest
tests_are_read used start body name mark [] last rest some few joins keep due h = let z : ◌≡◌ {A = ℕ} 0 1 = cc in absurd (omega arith)
tests_are_read used start body name mark (t ∷ ts) last rest some few joins keep due h =
    let two = and_parts (test_keeps t.test) (every (λ u. test_keeps u.test) ts) keep in
    later_tests_are_read used start body name mark (t ∷ ts) few joins (t ∷ []) ts rest refl two.1
    (next_test_is_read used start body name mark (t ∷ ts) few joins [] t ts last rest refl due two.0 h)

-- ---- the actions of a branch

-- a branch: `due` says after which tags its actions may stand, and one action more is read where its rules are met
module _ (used : List ℕ) (start : ℕ) (body : List ℕ) (tag : ℕ) (due : ℕ → Bool) (still : due tag ≡ true) (with-actions : List Action → StatementRow)
    (one : (before : List Action) (a : Action) (last : ℕ) (rest : List ℕ) → ActionPasses (due last) before (action_body a) → action_keeps a ≡ true → PartsRead used start body (with-actions before) last (field_bytes tag (action_body a) ++ rest) → PartsRead used start body (with-actions (before ++ a ∷ [])) tag rest)
    (all : List Action) (few : leb (length all) max_actions ≡ true) (short : leb (delays all) max_delay ≡ true) where
  -- from any action on, the actions are read, and those of this branch are due again
  actions_are_read : (before behind : List Action) (last : ℕ) (rest : List ℕ) → before ++ behind ≡ all → due last ≡ true → every action_keeps behind ≡ true → PartsRead used start body (with-actions before) last (actions_bytes tag behind ++ rest) → (end : ℕ) × (due end ≡ true) × PartsRead used start body (with-actions all) end rest
  actions_are_read before [] last rest is in_turn keep h =
      (last, in_turn, subst (λ acts. PartsRead used start body (with-actions acts) last rest) (none_behind before all is) h)
  actions_are_read before (a ∷ behind) last rest is in_turn keep h =
      let two = and_parts (action_keeps a) (every action_keeps behind) keep in
      let ok = written_action_passes (due last) before a in_turn (room_for_it max_actions before a behind all is few) (short_up_to_it max_delay before a behind all is short) two.0 in
      let on = one before a last (actions_bytes tag behind ++ rest) ok two.0
      (subst (PartsRead used start body (with-actions before) last) (append_assoc (field_bytes tag (action_body a)) (actions_bytes tag behind) rest) h) in
      actions_are_read (before ++ a ∷ []) behind tag rest (one_on before a behind all is) still two.1 on

-- what a branch that keeps the rules keeps
branch_parts : (acts : List Action) → branch_keeps acts ≡ true → (leb (length acts) max_actions ≡ true) × (every action_keeps acts ≡ true) × (leb (delays acts) max_delay ≡ true)
branch_parts acts keeps =
    let a = and_parts (leb (length acts) max_actions) (every action_keeps acts && leb (delays acts) max_delay) keeps in
    let b = and_parts (every action_keeps acts) (leb (delays acts) max_delay) a.1 in
    (a.0, b.0, b.1)

module _ (used : List ℕ) (start : ℕ) (body : List ℕ) (name : ℕ) (mark : Mark) (tests : List JoinedTest) (last : ℕ) (rest : List ℕ) where
  -- the THEN actions are read after the tests
  pub thens_are_read : (acts : List Action) → branch_keeps acts ≡ true → then_due last ≡ true → PartsRead used start body (row name mark tests [] []) last (actions_bytes 19 acts ++ rest) → (end : ℕ) × (then_due end ≡ true) × PartsRead used start body (row name mark tests acts []) end rest
  thens_are_read acts keeps due h =
      let three = branch_parts acts keeps in
      actions_are_read used start body 19 then_due refl (λ now. row name mark tests now [])
      (λ before a l r ok keeps h. then_read used start body name mark tests before [] l (action_body a) r a (written_action_is_read a keeps) ok h)
      acts three.0 three.2 [] acts last rest refl due three.1 h

  -- the ELSE actions are read after the tests and the THEN actions
  pub elses_are_read : (thens acts : List Action) → branch_keeps acts ≡ true → else_due last ≡ true → PartsRead used start body (row name mark tests thens []) last (actions_bytes 20 acts ++ rest) → (end : ℕ) × (else_due end ≡ true) × PartsRead used start body (row name mark tests thens acts) end rest
  elses_are_read thens acts keeps due h =
      let three = branch_parts acts keeps in
      actions_are_read used start body 20 else_due refl (λ now. row name mark tests thens now)
      (λ before a l r ok keeps h. else_read used start body name mark tests thens before l (action_body a) r a (written_action_is_read a keeps) ok h)
      acts three.0 three.2 [] acts last rest refl due three.1 h
