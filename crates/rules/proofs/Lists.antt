-- Membership in joined and mapped lists.
use Rattle.std.proofs.Common.{◌≡◌, Bool, ◌||◌, ◌⊎◌, List, [], ◌∷◌, ◌++◌, map, refl, ap, ap₂, inl, inr}
use Rattle.tables.specs.Lists.{Among, some}

pub among_left : {X : Type 0} (x : X) (p q : List X) → Among x p → Among x (p ++ q)
among_left x [] q m = absurd m
among_left x (y ∷ p) q (inl e) = inl e
among_left x (y ∷ p) q (inr m) = inr (among_left x p q m)

pub among_right : {X : Type 0} (x : X) (p q : List X) → Among x q → Among x (p ++ q)
among_right x [] q m = m
among_right x (y ∷ p) q m = inr (among_right x p q m)

pub among_either : {X : Type 0} (x : X) (p q : List X) → Among x (p ++ q) → Among x p ⊎ Among x q
among_either x [] q m = inr m
among_either x (y ∷ p) q (inl e) = inl (inl e)
among_either x (y ∷ p) q (inr m) = elim (among_either x p q m) [ inl k ↦ inl (inr k) | inr k ↦ inr k ]

pub among_map : {X Y : Type 0} (f : X → Y) (x : X) (xs : List X) → Among x xs → Among (f x) (map f xs)
among_map f x [] m = m
among_map f x (y ∷ xs) (inl e) = inl (ap f e)
among_map f x (y ∷ xs) (inr m) = inr (among_map f x xs m)

pub among_unmap : {X Y : Type 0} (f : X → Y) (y : Y) (xs : List X) → Among y (map f xs) → (x : X) × Among x xs × (f x ≡ y)
among_unmap f y [] m = absurd m
among_unmap f y (x ∷ xs) (inl e) = (x, inl refl, e)
among_unmap f y (x ∷ xs) (inr m) = let r = among_unmap f y xs m in (r.0, inr r.1, r.2)

-- a list has a member that passes alike by two tests that agree on its members
pub some_same : {X : Type 0} (f g : X → Bool) (xs : List X) → ((x : X) → Among x xs → f x ≡ g x) → some f xs ≡ some g xs
some_same f g [] h = refl
some_same f g (x ∷ xs) h = ap₂ (λ a b. a || b) (h x (inl refl)) (some_same f g xs (λ y k. h y (inr k)))
