-- What holds of a body's start and goes on from each field without fault to the next holds of a body without fault.
use Rattle.std.proofs.Common.{◌≡◌, ℕ, false, cond, eqb, List, [], ◌∷◌, ◌++◌, Some, None, Option, sym, refl, ap, ◌∙◌, subst, ⊎_elim}
use Rattle.std.specs.List.{AllByRecursion}
use Rattle.std.proofs.lemmas.List.{append-nil, append_assoc}
use Rattle.std.proofs.lemmas.Bool.{cases_Bool, eqb-true, cond-true, cond-false}
use Rattle.tables.specs.Lists.{absent}
use Rattle.tables.specs.Refusals.{Told}
use Rattle.documents.specs.Fields.{Piece}
use Rattle.documents.specs.Judging.{Rules, first, first_fault}
use Rattle.documents.proofs.Faults.{both_none}

-- where no condition gives a number, none holds
pub none_holds : (rules : Rules) → first rules ≡ None → AllByRecursion (λ r. r.0 ≡ false) rules
none_holds [] none = tt
none_holds (r ∷ rules) none =
    ⊎_elim
    (λ is. let s = cond-true r.0 (Some r.1) (first rules) is in absurd (cc))
    (λ isnt. (isnt, none_holds rules (sym (cond-false r.0 (Some r.1) (first rules) isnt) ∙ none)))
    (cases_Bool r.0)

-- an option that is not absent has a value
pub value_there : {X : Type 0} (o : Option X) → absent o ≡ false → (x : X) × (o ≡ Some x)
value_there None there = absurd (cc)
value_there (Some x) there = (x, refl)

module _ (fault : List Piece → Piece → Option Told) (P : List Piece → Type 0) (step : (before : List Piece) (p : Piece) → fault before p ≡ None → P before → P (before ++ p ∷ [])) where
  -- from any piece on
  faultless_from : (before ps : List Piece) → first_fault fault before ps ≡ None → P before → P (before ++ ps)
  faultless_from before [] none so = subst P (sym (append-nil before)) so
  faultless_from before (p ∷ ps) none so =
      let two = both_none (fault before p) (first_fault fault (before ++ p ∷ []) ps) none in
      subst P (append_assoc before (p ∷ []) ps) (faultless_from (before ++ p ∷ []) ps two.1 (step before p two.0 so))

  -- from the start on
  pub faultless : (ps : List Piece) → first_fault fault [] ps ≡ None → P [] → P ps
  faultless ps none so = faultless_from [] ps none so

-- a field is judged by the rules of its tag: what holds at that tag by its rules, and else by the others, holds
pub by_tag : (tag t : ℕ) (C : ℕ → Type 0) (mine other : Rules) → first (cond (eqb tag t) mine other) ≡ None → (first mine ≡ None → C t) → (first other ≡ None → C tag) → C tag
by_tag tag t C mine other none this rest =
    ⊎_elim
    (λ is. subst C (sym (eqb-true tag t is)) (this (ap first (sym (cond-true (eqb tag t) mine other is)) ∙ none)))
    (λ isnt. rest (ap first (sym (cond-false (eqb tag t) mine other isnt)) ∙ none))
    (cases_Bool (eqb tag t))
