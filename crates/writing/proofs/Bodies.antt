-- The body of a field without fault is the bytes of what it says.
use Rattle.std.proofs.Common.{◌≡◌, ℕ, ◌<◌, true, eqb, List, [], ◌∷◌, length, Some, ap, ◌∙◌, arith}
use Rattle.std.proofs.lemmas.List.{drop_more, drop_all}
use Rattle.std.proofs.lemmas.List.Elements.{All-get_or}
use Rattle.std.proofs.lemmas.Bool.{eqb-true}
use Rattle.tables.specs.declared.statement.Mark.{Mark}
use Rattle.tables.specs.declared.test.JoinedTest.{JoinedTest}
use Rattle.tables.specs.declared.action.Action.{Action}
use Rattle.tables.specs.declared.codes.lines.TestCodes.{TestCodes}
use Rattle.tables.specs.declared.codes.lines.ActionCodes.{ActionCodes}
use Rattle.tables.specs.Codes.{mark_code, join_of}
use Rattle.tables.specs.Lines.{test_of}
use Rattle.tables.proofs.Options.{both_was}
use Rattle.tables.proofs.Cases.{joins_inverse, marks_inverse}
use Rattle.tables.proofs.Inverse.{test_of_keeps, action_of_keeps}
use Rattle.documents.specs.Fields.{byte}
use Rattle.documents.specs.Statements.{mark_in, joined_test, test_codes_in, test_in, action_codes_in, action_in}
use Rattle.writing.specs.Bytes.{test_body, action_body}
use Rattle.writing.specs.Written.{AreBytes}
use Rattle.writing.proofs.Laid.{two_wide}

-- a body of one byte is that byte
pub one_byte : (body : List ℕ) → eqb (length body) 1 ≡ true → body ≡ byte body 0 ∷ []
one_byte body sized =
    let n = eqb-true (length body) 1 sized in
    let a = drop_more body 0 0 (omega arith) in
    let z = drop_all 1 body (omega arith) in
    cc

-- a mark's body is its code
pub mark_is_body : (body : List ℕ) (m : Mark) → eqb (length body) 1 ≡ true → mark_in body ≡ Some m → body ≡ mark_code m ∷ []
mark_is_body body m sized is =
    let b = one_byte body sized in
    let c = (marks_inverse.1 (byte body 0) m is).0 in
    cc

-- each byte of a body is below 256
byte_small : (body : List ℕ) (k : ℕ) → AreBytes body → k < length body → byte body k < 256
byte_small body k small h = All-get_or (λ b. b < 256) body k 0 h small

-- a test's body is its join and its codes
pub test_is_body : (body : List ℕ) (t : JoinedTest) → AreBytes body → eqb (length body) 7 ≡ true → test_in body ≡ Some t → body ≡ test_body t
unfolding test_in
test_is_body body t small sized is =
    let n = eqb-true (length body) 7 sized in
    let a = drop_more body 0 0 (omega arith) in
    let b = drop_more body 1 0 (omega arith) in
    let c = drop_more body 2 0 (omega arith) in
    let d = drop_more body 3 0 (omega arith) in
    let e = drop_more body 4 0 (omega arith) in
    let f = drop_more body 5 0 (omega arith) in
    let g = drop_more body 6 0 (omega arith) in
    let z = drop_all 7 body (omega arith) in
    let parts = both_was joined_test (join_of (byte body 0)) (test_of (test_codes_in body)) t is in
    let join = (joins_inverse.1 (byte body 0) parts.0 parts.2).0 in
    let codes = (test_of_keeps (test_codes_in body) parts.1 parts.3).0 in
    let kind = ap (λ (x : TestCodes). x.kind) codes in
    let which = ap (λ (x : TestCodes). x.which) codes in
    let relation = ap (λ (x : TestCodes). x.relation) codes in
    let entry = ap (λ (x : TestCodes). x.entry) codes in
    let h = two_wide (byte body 2) (byte body 3) (byte_small body 3 small (omega arith)) in
    let l = two_wide (byte body 5) (byte body 6) (byte_small body 6 small (omega arith)) in
    let same : body ≡ test_body (joined_test parts.0 parts.1) = cc in
    same ∙ ap test_body parts.4

-- an action's body is its codes
pub action_is_body : (body : List ℕ) (x : Action) → AreBytes body → eqb (length body) 4 ≡ true → action_in body ≡ Some x → body ≡ action_body x
unfolding action_in
action_is_body body x small sized is =
    let n = eqb-true (length body) 4 sized in
    let a = drop_more body 0 0 (omega arith) in
    let b = drop_more body 1 0 (omega arith) in
    let c = drop_more body 2 0 (omega arith) in
    let d = drop_more body 3 0 (omega arith) in
    let z = drop_all 4 body (omega arith) in
    let codes = (action_of_keeps (action_codes_in body) x is).0 in
    let kind = ap (λ (y : ActionCodes). y.kind) codes in
    let which = ap (λ (y : ActionCodes). y.which) codes in
    let state = ap (λ (y : ActionCodes). y.state) codes in
    let h = two_wide (byte body 1) (byte body 2) (byte_small body 2 small (omega arith)) in
    cc
