-- Each branch of a statement without fault keeps its rules.
use Rattle.std.proofs.Common.{◌≡◌, ℕ, Bool, true, false, cond, ◌&&◌, eqb, ltb, leb, List, [], ◌∷◌, ◌++◌, map, length, Some, None, sym, refl, subst}
use lib.Dec.{leb-zero}
use Rattle.std.proofs.lemmas.Bool.{and_parts, and_from, le-leb, ltb-false}
use Rattle.tables.specs.declared.action.Action.{Action}
use Rattle.tables.specs.Limits.{max_actions, max_delay}
use Rattle.tables.specs.Lists.{every, listed, somes}
use Rattle.tables.specs.Rules.{action_keeps, delays, branch_keeps}
use Rattle.tables.proofs.Inverse.{action_of_keeps}
use Rattle.documents.specs.Fields.{Piece, field}
use Rattle.documents.specs.Judging.{first_fault}
use Rattle.documents.specs.Statements.{action_codes_in, action_in, actions_in, part_fault}
use Rattle.documents.proofs.Pushing.{one_more_fits, every_push}
use Rattle.documents.proofs.Faultless.{value_there}
use Rattle.documents.proofs.Taking.{same, value_more}
use Rattle.documents.proofs.Passing.{ActionPasses}
use Rattle.documents.proofs.PartSteps.{PartSteps, parts_faultless}

-- what is not above a limit is at most the limit
not_above : (limit n : ℕ) → ltb limit n ≡ false → leb n limit ≡ true
not_above limit n short = le-leb n limit (ltb-false limit n short)

-- an action that a body says is in range
pub action_in_keeps : (body : List ℕ) (a : Action) → action_in body ≡ Some a → action_keeps a ≡ true
unfolding action_in
action_in_keeps body a is = (action_of_keeps (action_codes_in body) a is).1

-- a branch with room for one more action keeps the rules with that action, if the DELAYs are not too long
branch_push : (before : List Action) (a : Action) → branch_keeps before ≡ true → leb max_actions (length before) ≡ false → action_keeps a ≡ true → ltb max_delay (delays (before ++ a ∷ [])) ≡ false → branch_keeps (before ++ a ∷ []) ≡ true
branch_push before a keeps few this short =
    let all = (and_parts (every action_keeps before) (leb (delays before) max_delay) (and_parts (leb (length before) max_actions) (every action_keeps before && leb (delays before) max_delay) keeps).1).0 in
    and_from (leb (length (before ++ a ∷ [])) max_actions) (every action_keeps (before ++ a ∷ []) && leb (delays (before ++ a ∷ [])) max_delay)
    (one_more_fits max_actions before a few)
    (and_from (every action_keeps (before ++ a ∷ [])) (leb (delays (before ++ a ∷ [])) max_delay)
    (every_push action_keeps before a all this)
    (not_above max_delay (delays (before ++ a ∷ [])) short))

-- a branch without actions keeps the rules
branch_none : branch_keeps [] ≡ true
branch_none =
    and_from (leb 0 max_actions) _ (leb-zero max_actions)
    (and_from (every action_keeps []) (leb 0 max_delay) refl (leb-zero max_delay))

-- the actions in the fields with a tag keep the rules of a branch
abbrev BranchKept : ℕ → List Piece → Type 0
BranchKept t ps = branch_keeps (actions_in t ps) ≡ true

module _ (t : ℕ) (before : List Piece) (place : ℕ) (body : List ℕ) where
  -- a field with another tag leaves the branch as it is
  kept_other : (tag : ℕ) → cond (eqb tag t) (body ∷ []) [] ≡ [] → BranchKept t before → BranchKept t (before ++ field place tag body ∷ [])
  kept_other tag isnt so = subst (λ bs. branch_keeps (somes (map action_in bs)) ≡ true) (sym (same place body before t tag isnt)) so

  -- an action without fault is one more
  kept_more : (due : Bool) → cond (eqb t t) (body ∷ []) [] ≡ body ∷ [] → ActionPasses due (actions_in t before) body → BranchKept t before → BranchKept t (before ++ field place t body ∷ [])
  kept_more due is h so =
      let a = value_there (action_in body) h.there in
      let short = subst (λ o. ltb max_delay (delays (actions_in t before ++ listed o)) ≡ false) a.1 h.short in
      subst (λ l. branch_keeps l ≡ true) (sym (value_more place body before action_in t a.0 is a.1))
      (branch_push (actions_in t before) a.0 so h.few (action_in_keeps body a.0 a.1) short)

module _ (used : List ℕ) (ps : List Piece) (none : first_fault (part_fault used) [] ps ≡ None) where
  -- the THEN actions of a body without fault
  pub thens_kept : branch_keeps (actions_in 19 ps) ≡ true
  thens_kept =
      let steps : PartSteps used (BranchKept 19) = record {
        name = λ before place body h so. kept_other 19 before place body 16 refl so;
        mark = λ before place body h so. kept_other 19 before place body 17 refl so;
        test = λ before place body h so. kept_other 19 before place body 18 refl so;
        thens = λ before place body h so. kept_more 19 before place body _ refl h so;
        elses = λ before place body h so. kept_other 19 before place body 20 refl so;
      } in
      parts_faultless used (BranchKept 19) steps ps none branch_none

  -- the ELSE actions of a body without fault
  pub elses_kept : branch_keeps (actions_in 20 ps) ≡ true
  elses_kept =
      let steps : PartSteps used (BranchKept 20) = record {
        name = λ before place body h so. kept_other 20 before place body 16 refl so;
        mark = λ before place body h so. kept_other 20 before place body 17 refl so;
        test = λ before place body h so. kept_other 20 before place body 18 refl so;
        thens = λ before place body h so. kept_other 20 before place body 19 refl so;
        elses = λ before place body h so. kept_more 20 before place body _ refl h so;
      } in
      parts_faultless used (BranchKept 20) steps ps none branch_none
