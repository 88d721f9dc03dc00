-- A statement's body without fault, field by field: each of its five kinds of field, with what its rules tell.
use Rattle.std.proofs.Common.{◌≡◌, ℕ, List, [], ◌∷◌, ◌++◌, length, None}
use Rattle.documents.specs.Fields.{Piece, field, cut, last_tag}
use Rattle.documents.specs.Judging.{first, first_fault}
use Rattle.documents.specs.Statements.{tests_in, actions_in, then_due, else_due, part_rules, part_fault}
use Rattle.documents.proofs.Faults.{at_none}
use Rattle.documents.proofs.Faultless.{faultless, by_tag}
use Rattle.documents.proofs.Passing.{NamePasses, MarkPasses, TestPasses, ActionPasses, name_passes, mark_passes, test_passes, action_passes}

-- P goes on over each kind of field without fault
pub record PartSteps (used : List ℕ) (P : List Piece → Type 0) : Type 0 where
  pub name : (before : List Piece) (place : ℕ) (body : List ℕ) → NamePasses used (last_tag before) body → P before → P (before ++ field place 16 body ∷ [])
  pub mark : (before : List Piece) (place : ℕ) (body : List ℕ) → MarkPasses (last_tag before) body → P before → P (before ++ field place 17 body ∷ [])
  pub test : (before : List Piece) (place : ℕ) (body : List ℕ) → TestPasses (last_tag before) (length (tests_in before)) body → P before → P (before ++ field place 18 body ∷ [])
  pub thens : (before : List Piece) (place : ℕ) (body : List ℕ) → ActionPasses (then_due (last_tag before)) (actions_in 19 before) body → P before → P (before ++ field place 19 body ∷ [])
  pub elses : (before : List Piece) (place : ℕ) (body : List ℕ) → ActionPasses (else_due (last_tag before)) (actions_in 20 before) body → P before → P (before ++ field place 20 body ∷ [])

module _ (used : List ℕ) (P : List Piece → Type 0) (steps : PartSteps used P) where
  -- over any piece without fault: a cut one has a fault
  part_step : (before : List Piece) (p : Piece) → part_fault used before p ≡ None → P before → P (before ++ p ∷ [])
  part_step before (cut place) none so = absurd (cc)
  part_step before (field place tag body) none so =
      let C : ℕ → Type 0 = λ t. P (before ++ field place t body ∷ []) in
      let last : ℕ = last_tag before in
      by_tag tag 16 C _ _ (at_none place (first (part_rules used before (field place tag body))) none)
      (λ n. steps.name before place body (name_passes used last body n) so)
      (λ r. by_tag tag 17 C _ _ r
      (λ n. steps.mark before place body (mark_passes last body n) so)
      (λ r. by_tag tag 18 C _ _ r
      (λ n. steps.test before place body (test_passes last (length (tests_in before)) body n) so)
      (λ r. by_tag tag 19 C _ _ r
      (λ n. steps.thens before place body (action_passes (then_due last) (actions_in 19 before) body n) so)
      (λ r. by_tag tag 20 C _ _ r
      (λ n. steps.elses before place body (action_passes (else_due last) (actions_in 20 before) body n) so)
      (λ r. absurd (cc))))))

  -- so P goes from the start of a body without fault to its end
  pub parts_faultless : (ps : List Piece) → first_fault (part_fault used) [] ps ≡ None → P [] → P ps
  parts_faultless ps none so = faultless (part_fault used) P part_step ps none so
