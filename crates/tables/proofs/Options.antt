-- Where an option that is made in steps has a value, each step had one.
use Rattle.std.proofs.Common.{◌≡◌, ℕ, Bool, true, false, Some, None, Option, refl, ap, ◌∙◌, arith}
use Rattle.tables.specs.Lists.{only, both, then}

-- no value is there and absent at once
pub none_some : {X : Type 0} {P : Type 0} (x : X) → None ≡ Some x → P
none_some x e = let z : ◌≡◌ {A = ℕ} 0 1 = cc in absurd (omega arith)

-- an option has at most one value
pub same_some : {X : Type 0} (x y : X) → Some x ≡ Some y → x ≡ y
same_some x y e = cc

-- a value that is there leads to what comes next
pub then_some : {X Y : Type 0} (o : Option X) (x : X) (next : X → Option Y) → o ≡ Some x → then o next ≡ next x
then_some o x next e = ap (λ p. then p next) e

-- what a value leads to came from a value that was there
pub then_was : {X Y : Type 0} (o : Option X) (next : X → Option Y) (y : Y) → then o next ≡ Some y → (x : X) × (o ≡ Some x) × (next x ≡ Some y)
then_was None next y e = none_some y e
then_was (Some x) next y e = (x, refl, e)

-- under a condition that holds, the value is there
pub only_true : {X : Type 0} (b : Bool) (o : Option X) → b ≡ true → only b o ≡ o
only_true b o e = ap (λ c. only c o) e

-- where there is a value only under a condition, the condition holds and the value was there before
pub only_was : {X : Type 0} (b : Bool) (o : Option X) (x : X) → only b o ≡ Some x → (b ≡ true) × (o ≡ Some x)
only_was true o x e = (refl, e)
only_was false o x e = none_some x e

-- a value named only under a condition is the one that is there, and the condition holds
pub only_is : {X : Type 0} (b : Bool) (x y : X) → only b (Some x) ≡ Some y → (b ≡ true) × (x ≡ y)
only_is b x y e = let two = only_was b (Some x) y e in (two.0, same_some x y two.1)

-- two values that are there make one
pub both_some : {X Y Z : Type 0} (make : X → Y → Z) (o : Option X) (p : Option Y) (x : X) (y : Y) → o ≡ Some x → p ≡ Some y → both make o p ≡ Some (make x y)
both_some make o p x y e f = ap (λ q. both make q p) e ∙ ap (λ q. both make (Some x) q) f

-- a value made of two says that both were there
pub both_was : {X Y Z : Type 0} (make : X → Y → Z) (o : Option X) (p : Option Y) (z : Z) → both make o p ≡ Some z → (x : X) × (y : Y) × (o ≡ Some x) × (p ≡ Some y) × (make x y ≡ z)
both_was make None p z e = none_some z e
both_was make (Some x) None z e = none_some z e
both_was make (Some x) (Some y) z e = (x, y, refl, refl, same_some (make x y) z e)
