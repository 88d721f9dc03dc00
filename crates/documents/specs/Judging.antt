-- How the fields of a body are judged: from the front, each by those before it, the smaller refusal number first.
use Rattle.std.specs.Prelude.{ℕ, Bool, cond, List, [], ◌∷◌, ◌++◌, Some, None, Option}
use Rattle.tables.specs.Refusals.{Told, refused_at}
use Rattle.documents.specs.Fields.{Piece}

-- What is wrong with a field: conditions, each with the refusal number that it brings, the smaller numbers first.
abbrev pub Rules : Type 0
Rules = List (Bool × ℕ)

-- the number of the first condition that holds
abbrev pub first : Rules → Option ℕ
first [] = None
first (r ∷ rs) = cond r.0 (Some r.1) (first rs)

-- a refusal at a place, where there is a number
abbrev pub at : ℕ → Option ℕ → Option Told
at place None = None
at place (Some number) = Some (refused_at number place)

-- the first of two faults
abbrev pub or_else : {X : Type 0} → Option X → Option X → Option X
or_else None y = y
or_else (Some x) y = Some x

-- the first fault of a body's pieces, where `fault before p` judges the piece p by the pieces before it
abbrev pub first_fault : (List Piece → Piece → Option Told) → List Piece → List Piece → Option Told
first_fault fault before [] = None
first_fault fault before (p ∷ ps) = or_else (fault before p) (first_fault fault (before ++ p ∷ []) ps)
