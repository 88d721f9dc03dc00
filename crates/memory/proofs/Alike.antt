-- What `==` of two tables decides.
use Rattle.std.proofs.Common.{◌≡◌, Bool, List, [], ◌∷◌, map, refl, rules}
use Rattle.std.specs.Bool.{Decides}
use Rattle.std.specs.Cmp.{booleans_Decides}
use Rattle.std.specs.Cmp.Lexicographic.{pointwise}
use Rattle.std.proofs.lemmas.Bool.Decides.{Decides-and, Decides-like}
use Rattle.std.proofs.lemmas.Slice.Eq.{slice_eq-Decides}
use Rattle.memory.specs.declared.flags.FlagTable.{FlagTable}
use Rattle.memory.specs.declared.rows.WaitTable.{WaitTable}
use Rattle.memory.specs.contracts.flags.FlagTablePartialEq.TheImpl as flag_tables
use Rattle.memory.specs.contracts.rows.WaitTablePartialEq.TheImpl as wait_tables
use Rattle.memory.specs.Flags.{flags_in}
use Rattle.memory.specs.Waits.{row_wait, waits_in}

-- Where a test decides whether f makes the same of two elements, `==` by it decides whether f makes the same of two lists.
mapped_alike : {X Y : Type 0} (f : X → Y) (E : X → X → Bool) → ((x y : X) → Decides (E x y) (f x ≡ f y))
    → (xs ys : List X) → Decides (pointwise E xs ys) (map f xs ≡ map f ys)
mapped_alike f E each [] [] = (λ _. refl, λ _. refl)
mapped_alike f E each [] (y ∷ ys) = (λ h. cc, λ h. cc)
mapped_alike f E each (x ∷ xs) [] = (λ h. cc, λ h. cc)
mapped_alike f E each (x ∷ xs) (y ∷ ys) =
    Decides-like _ (λ h. let first = h.0 in let others = h.1 in cc) (λ h. (cc, cc))
    (Decides-and _ _ (each x y) (mapped_alike f E each xs ys))

-- Two flag tables are equal where the same flags are ON.
pub flags_alike : (a b : FlagTable) → Decides (flag_tables.ghosts.eq a b) (flags_in a ≡ flags_in b)
flags_alike a b = slice_eq-Decides booleans_Decides a.on b.on _ refl

-- Two wait tables are equal where each name has the same record.
pub waits_alike : (a b : WaitTable) → Decides (wait_tables.ghosts.eq a b) (waits_in a ≡ waits_in b)
waits_alike a b = mapped_alike row_wait _ (λ x y. search rules) a.rows b.rows
