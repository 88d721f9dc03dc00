-- A document without fault, field by field: each of its three kinds of field, with what its rules tell.
use Rattle.std.proofs.Common.{◌≡◌, ℕ, true, not, List, [], ◌∷◌, ◌++◌, None}
use Rattle.std.proofs.lemmas.Bool.{not-false}
use Rattle.documents.specs.Fields.{Piece, field, cut, last_tag}
use Rattle.documents.specs.Judging.{first, at, first_fault}
use Rattle.documents.specs.Statements.{statement_fault}
use Rattle.documents.specs.Documents.{names_in, last_plan, statement_due, top_rules, inner_fault, top_fault}
use Rattle.documents.proofs.Faults.{both_none, at_none}
use Rattle.documents.proofs.Faultless.{none_holds, faultless, by_tag}
use Rattle.documents.proofs.Passing.{VersionPasses, PlanPasses, version_passes, plan_passes}

-- P goes on over each kind of field without fault
pub record TopSteps (P : List Piece → Type 0) : Type 0 where
  pub version : (before : List Piece) (place : ℕ) (body : List ℕ) → VersionPasses (last_tag before) body → P before → P (before ++ field place 1 body ∷ [])
  pub statement : (before : List Piece) (place : ℕ) (body : List ℕ) → statement_due (last_tag before) ≡ true → statement_fault (names_in before) place body ≡ None → P before → P (before ++ field place 2 body ∷ [])
  pub plan : (before : List Piece) (place : ℕ) (body : List ℕ) → PlanPasses (last_tag before) (last_plan before) (names_in before) body → P before → P (before ++ field place 3 body ∷ [])

module _ (P : List Piece → Type 0) (steps : TopSteps P) where
  -- over any piece without fault: a cut one has a fault
  top_step : (before : List Piece) (p : Piece) → top_fault before p ≡ None → P before → P (before ++ p ∷ [])
  top_step before (cut place) none so = absurd (cc)
  top_step before (field place tag body) none so =
      let two = both_none (at place (first (top_rules before (field place tag body)))) (inner_fault before (field place tag body)) none in
      let C : ℕ → Type 0 = λ t. inner_fault before (field place t body) ≡ None → P (before ++ field place t body ∷ []) in
      let last : ℕ = last_tag before in
      by_tag tag 1 C _ _ (at_none place (first (top_rules before (field place tag body))) two.0)
      (λ n inner. steps.version before place body (version_passes last body n) so)
      (λ r. by_tag tag 2 C _ _ r
      (λ n inner. steps.statement before place body (not-false (statement_due last) (none_holds ((not (statement_due last), 2) ∷ []) n).0) inner so)
      (λ r. by_tag tag 3 C _ _ r
      (λ n inner. steps.plan before place body (plan_passes last (last_plan before) (names_in before) body n) so)
      (λ r. absurd (cc))))
      two.1

  -- so P goes from the start of a document without fault to its end
  pub tops_faultless : (ps : List Piece) → first_fault top_fault [] ps ≡ None → P [] → P ps
  tops_faultless ps none so = faultless top_fault P top_step ps none so
