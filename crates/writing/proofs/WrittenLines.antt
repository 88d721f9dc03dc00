-- The body of a written test, action or mark says that test, action or mark.
use Rattle.std.proofs.Common.{◌≡◌, ℕ, ◌/◌, ◌%◌, true, [], ◌∷◌, Some, refl, ap, ◌∙◌}
use Rattle.tables.specs.declared.statement.Mark.{Mark}
use Rattle.tables.specs.declared.test.JoinedTest.{JoinedTest}
use Rattle.tables.specs.declared.action.Action.{Action}
use Rattle.tables.specs.declared.codes.lines.TestCodes.{TestCodes}
use Rattle.tables.specs.declared.codes.lines.ActionCodes.{ActionCodes}
use Rattle.tables.specs.Codes.{mark_code, join_code, join_of}
use Rattle.tables.specs.Lines.{test_codes, test_of, action_codes, action_of}
use Rattle.tables.specs.Rules.{test_keeps, action_keeps}
use Rattle.tables.proofs.Options.{both_some}
use Rattle.tables.proofs.Inverse.{codes_are_inverse}
use Rattle.documents.specs.Fields.{wide}
use Rattle.documents.specs.Statements.{mark_in, joined_test, test_codes_in, test_in, action_codes_in, action_in}
use Rattle.writing.specs.Bytes.{test_body, action_body}
use Rattle.writing.proofs.WrittenFields.{two_are_wide}

-- a mark's body says the mark
pub written_mark_is_read : (m : Mark) → mark_in (mark_code m ∷ []) ≡ Some m
written_mark_is_read m = codes_are_inverse.marks.0 m refl

-- a test's body has the test's codes
test_codes_are_read : (t : JoinedTest) → test_codes_in (test_body t) ≡ test_codes t.test
test_codes_are_read t =
    let c : TestCodes = test_codes t.test in
    let make : ℕ → ℕ → TestCodes = λ which entry. record { kind = c.kind; which = which; relation = c.relation; entry = entry } in
    ap (λ n. make n (wide (c.entry / 256) (c.entry % 256))) (two_are_wide c.which) ∙ ap (make c.which) (two_are_wide c.entry)

-- a test's body says the test
pub written_test_is_read : (t : JoinedTest) → test_keeps t.test ≡ true → test_in (test_body t) ≡ Some t
unfolding test_in
written_test_is_read t keeps =
    both_some joined_test (join_of (join_code t.join)) (test_of (test_codes_in (test_body t))) t.join t.test
    (codes_are_inverse.joins.0 t.join refl)
    (ap test_of (test_codes_are_read t) ∙ codes_are_inverse.tests.0 t.test keeps)

-- an action's body has the action's codes
action_codes_are_read : (a : Action) → action_codes_in (action_body a) ≡ action_codes a
action_codes_are_read a =
    let c : ActionCodes = action_codes a in
    let make : ℕ → ActionCodes = λ which. record { kind = c.kind; which = which; state = c.state } in
    ap make (two_are_wide c.which)

-- an action's body says the action
pub written_action_is_read : (a : Action) → action_keeps a ≡ true → action_in (action_body a) ≡ Some a
unfolding action_in
written_action_is_read a keeps = ap action_of (action_codes_are_read a) ∙ codes_are_inverse.actions.0 a keeps
