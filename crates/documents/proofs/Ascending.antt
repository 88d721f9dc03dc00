-- The rules of every field are listed by ascending refusal number.
use Rattle.std.proofs.Common.{◌≡◌, ℕ, Bool, true, cond, not, eqb, List, [], ◌∷◌, length, refl}
use Rattle.std.proofs.lemmas.Bool.{cond_both}
use Rattle.tables.specs.declared.action.Action.{Action}
use Rattle.documents.specs.Fields.{Piece, field, cut, last_tag}
use Rattle.documents.specs.Judging.{Rules}
use Rattle.documents.specs.Statements.{name_rules, mark_rules, test_rules, action_rules, then_due, else_due, tests_in, actions_in, part_rules}
use Rattle.documents.specs.Documents.{version_rules, statement_due, plan_rules, last_plan, names_in, top_rules}
use Rattle.documents.proofs.Leasts.{ascends}

-- a name's rules
name_ascends : (used : List ℕ) (last : ℕ) (body : List ℕ) → ascends 0 (name_rules used last body) ≡ true
unfolding name_rules
name_ascends used last body = refl

-- a mark's
mark_ascends : (last : ℕ) (body : List ℕ) → ascends 0 (mark_rules last body) ≡ true
unfolding mark_rules
mark_ascends last body = refl

-- a test's
test_ascends : (last nth : ℕ) (body : List ℕ) → ascends 0 (test_rules last nth body) ≡ true
unfolding test_rules
test_ascends last nth body = refl

-- an action's
action_ascends : (due : Bool) (before : List Action) (body : List ℕ) → ascends 0 (action_rules due before body) ≡ true
unfolding action_rules
action_ascends due before body = refl

-- the version's
version_ascends : (last : ℕ) (body : List ℕ) → ascends 0 (version_rules last body) ≡ true
unfolding version_rules
version_ascends last body = refl

-- a plan's
plan_ascends : (last above : ℕ) (names body : List ℕ) → ascends 0 (plan_rules last above names body) ≡ true
unfolding plan_rules
plan_ascends last above names body = refl

-- of two ascending lists, the one that a test picks ascends
picked : (b : Bool) (x y : Rules) → ascends 0 x ≡ true → ascends 0 y ≡ true → ascends 0 (cond b x y) ≡ true
picked b x y p q = cond_both b x y (λ r. ascends 0 r ≡ true) (λ is. p) (λ isnt. q)

-- the rules of any piece of a statement's body ascend
pub part_ascends : (used : List ℕ) (before : List Piece) (p : Piece) → ascends 0 (part_rules used before p) ≡ true
part_ascends used before (cut place) = refl
part_ascends used before (field place tag body) =
    picked (eqb tag 16) _ _ (name_ascends used (last_tag before) body)
    (picked (eqb tag 17) _ _ (mark_ascends (last_tag before) body)
    (picked (eqb tag 18) _ _ (test_ascends (last_tag before) (length (tests_in before)) body)
    (picked (eqb tag 19) _ _ (action_ascends (then_due (last_tag before)) (actions_in 19 before) body)
    (picked (eqb tag 20) _ _ (action_ascends (else_due (last_tag before)) (actions_in 20 before) body)
    refl))))

-- the rules of any piece of a document ascend
pub top_ascends : (before : List Piece) (p : Piece) → ascends 0 (top_rules before p) ≡ true
top_ascends before (cut place) = refl
top_ascends before (field place tag body) =
    picked (eqb tag 1) _ _ (version_ascends (last_tag before) body)
    (picked (eqb tag 2) ((not (statement_due (last_tag before)), 2) ∷ []) _ refl
    (picked (eqb tag 3) _ _ (plan_ascends (last_tag before) (last_plan before) (names_in before) body)
    refl))
