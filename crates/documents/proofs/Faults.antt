-- What a fault, or that there is none, says of the parts that it was looked for in.
use Rattle.std.proofs.Common.{◌≡◌, ℕ, Bool, true, false, cond, ◌⊎◌, Some, None, Option, refl, inl, inr}
use Rattle.tables.specs.Refusals.{Told, refused_at}
use Rattle.documents.specs.Judging.{at, or_else}

-- where neither of two faults is found, there is neither
pub both_none : {X : Type 0} (x y : Option X) → or_else x y ≡ None → (x ≡ None) × (y ≡ None)
both_none None y e = (refl, e)
both_none (Some x) y e = absurd (cc)

-- the first of two faults is the one, or the other where the one is absent
pub one_or_other : {X : Type 0} (x y : Option X) (t : X) → or_else x y ≡ Some t → (x ≡ Some t) ⊎ ((x ≡ None) × (y ≡ Some t))
one_or_other None y t e = inr (refl, e)
one_or_other (Some x) y t e = inl e

-- a refusal at a place is of a number
pub at_some : (place : ℕ) (o : Option ℕ) (t : Told) → at place o ≡ Some t → (number : ℕ) × (o ≡ Some number) × (refused_at number place ≡ t)
at_some place None t e = absurd (cc)
at_some place (Some number) t e = (number, refl, cc)

-- where there is no refusal at a place, there is no number
pub at_none : (place : ℕ) (o : Option ℕ) → at place o ≡ None → o ≡ None
at_none place None e = refl
at_none place (Some number) e = absurd (cc)

-- a refusal that stands unless a test holds is made only where the test fails
pub test_failed : (b : Bool) (u t : Told) → cond b None (Some u) ≡ Some t → (b ≡ false) × (u ≡ t)
test_failed true u t e = absurd (cc)
test_failed false u t e = (refl, cc)

-- and one that is looked for only where a test holds is found only there
pub test_held : (b : Bool) (o : Option Told) (t : Told) → cond b o None ≡ Some t → (b ≡ true) × (o ≡ Some t)
test_held true o t e = (refl, e)
test_held false o t e = absurd (cc)
