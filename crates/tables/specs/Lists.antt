-- Lists and options, in the few ways in which the rules speak of them.
use Rattle.std.specs.List.{find, list_any, list_all}
use Rattle.std.specs.Prelude.{◌≡◌, ℕ, Bool, true, false, cond, not, ◌&&◌, ◌⊎◌, List, [], ◌∷◌, ◌++◌, Some, None, Option, ◌==◌, nat_lt}

-- the first of a list that passes a test, if one does
abbrev pub found : {X : Type 0} → (X → Bool) → List X → Option X
found = find

-- some of a list passes a test
abbrev pub some : {X : Type 0} → (X → Bool) → List X → Bool
some = list_any

-- each of a list passes a test
abbrev pub every : {X : Type 0} → (X → Bool) → List X → Bool
every = list_all

-- a number is in a list
abbrev pub member : ℕ → List ℕ → Bool
member n = list_any (λ m. n == m)

-- no number of a list is there twice
abbrev pub distinct : List ℕ → Bool
distinct [] = true
distinct (n ∷ ns) = not (member n ns) && distinct ns

-- each number of a list is above the one before it, the first above `floor`
abbrev pub rising : ℕ → List ℕ → Bool
rising floor [] = true
rising floor (n ∷ ns) = nat_lt floor n && rising n ns

-- a value only under a condition
abbrev pub only : {X : Type 0} → Bool → Option X → Option X
only b o = cond b o None

-- two values made into one, where both are there
abbrev pub both : {X Y Z : Type 0} → (X → Y → Z) → Option X → Option Y → Option Z
both make None y = None
both make (Some x) None = None
both make (Some x) (Some y) = Some (make x y)

-- what the value of an option leads to, where there is one
abbrev pub then : {X Y : Type 0} → Option X → (X → Option Y) → Option Y
then None next = None
then (Some x) next = next x

-- there is no value
abbrev pub absent : {X : Type 0} → Option X → Bool
absent None = true
absent (Some x) = false

-- x is an element of a list
abbrev pub Among : {X : Type 0} → X → List X → Type 0
Among x [] = ⊥
Among x (y ∷ ys) = (y ≡ x) ⊎ Among x ys

-- an option's value as a list
abbrev pub listed : {X : Type 0} → Option X → List X
listed None = []
listed (Some x) = x ∷ []

-- the values that are there, in order
abbrev pub somes : {X : Type 0} → List (Option X) → List X
somes [] = []
somes (o ∷ os) = listed o ++ somes os
