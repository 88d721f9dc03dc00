-- What a refusal says: which field is the first at fault, by which of its numbers, and where that field begins.
use Rattle.std.specs.Prelude.{◌≡◌, ℕ, ◌+◌, ◌<◌, ◌≤◌, true, ◌⊎◌, List, [], ◌∷◌, ◌++◌, length, None, Err, Option}
use Rattle.tables.specs.Lists.{Among}
use Rattle.tables.specs.Refusals.{Told, refused_at, at_place}
use Rattle.documents.specs.Fields.{Piece, field, cut, pieces, place_of, last_tag}
use Rattle.documents.specs.Judging.{Rules}
use Rattle.documents.specs.Statements.{part_rules, part_fault}
use Rattle.documents.specs.Documents.{names_in, top_rules, top_fault, reading}

-- ---- the first fault

-- no piece is at fault, each judged by those before it
abbrev pub Clean : (List Piece → Piece → Option Told) → List Piece → Type 0
Clean fault ps = (before : List Piece) (p : Piece) (after : List Piece) → ps ≡ before ++ p ∷ after → fault before p ≡ None

-- a refusal number applies to a field: a condition with that number holds
abbrev pub Applies : Rules → ℕ → Type 0
Applies rules number = Among (true, number) rules

-- and it is the least that applies
abbrev pub Least : Rules → ℕ → Type 0
Least rules number = Applies rules number × ((other : ℕ) → Applies rules other → number ≤ other)

-- Why a document is refused.
pub data FirstFault (doc : List ℕ) : Told → Type 0 where
  -- a field of the document is at fault, and none before it
  own : (before : List Piece) (p : Piece) (after : List Piece) (number : ℕ)
      → pieces 0 0 doc ≡ before ++ p ∷ after → Clean top_fault before
      → Least (top_rules before p) number
      → FirstFault doc (refused_at number (place_of p))
  -- a field of a statement is at fault, and none before it in the statement or before the statement
  inner : (before : List Piece) (place : ℕ) (body : List ℕ) (after : List Piece)
      → pieces 0 0 doc ≡ before ++ field place 2 body ∷ after → Clean top_fault before
      → ((number : ℕ) → Applies (top_rules before (field place 2 body)) number → ⊥)
      → (above : List Piece) (p : Piece) (below : List Piece) (number : ℕ)
      → pieces (place + 3) 0 body ≡ above ++ p ∷ below → Clean (part_fault (names_in before)) above
      → Least (part_rules (names_in before) above p) number
      → FirstFault doc (refused_at number (place_of p))
  -- a statement lacks its name or its tests, and nothing else is at fault in it or before it
  lacking : (before : List Piece) (place : ℕ) (body : List ℕ) (after : List Piece)
      → pieces 0 0 doc ≡ before ++ field place 2 body ∷ after → Clean top_fault before
      → ((number : ℕ) → Applies (top_rules before (field place 2 body)) number → ⊥)
      → Clean (part_fault (names_in before)) (pieces (place + 3) 0 body) → last_tag (pieces (place + 3) 0 body) < 18
      → FirstFault doc (refused_at 2 place)
  -- there is no field at all
  empty : doc ≡ [] → FirstFault doc (refused_at 2 0)

-- a refusal is of the first fault: every field before it is without fault, and no smaller number applies to its own field
abbrev pub RefusalsAreOfTheFirstFault : Type 0
RefusalsAreOfTheFirstFault = (doc : List ℕ) (t : Told) → reading doc ≡ Err t → FirstFault doc t

-- ---- its place

-- the bytes of whole fields
abbrev pub whole_size : List Piece → ℕ
whole_size [] = 0
whole_size (field place tag body ∷ ps) = 3 + length body + whole_size ps
whole_size (cut place ∷ ps) = whole_size ps

-- every piece is a whole field
abbrev pub Whole : List Piece → Type 0
Whole [] = Unit {0}
Whole (field place tag body ∷ ps) = Whole ps
Whole (cut place ∷ ps) = ⊥

-- a field, whole or cut, begins at this place of a body that stands at `start`: at the end of the whole fields before it
pub record Begins (start : ℕ) (body : List ℕ) (place : ℕ) : Type 0 where
  pub before : List Piece
  pub piece : Piece
  pub after : List Piece
  pub split : pieces start 0 body ≡ before ++ piece ∷ after
  pub is : place ≡ place_of piece
  pub whole : Whole before
  pub here : place ≡ start + whole_size before

-- a field of a statement of the document begins at this place
pub record BeginsInside (doc : List ℕ) (place : ℕ) : Type 0 where
  pub before : List Piece
  pub start : ℕ
  pub body : List ℕ
  pub after : List Piece
  pub split : pieces 0 0 doc ≡ before ++ field start 2 body ∷ after
  pub inside : Begins (start + 3) body place

-- a refusal names a place: 0, or where a field of the document or of one of its statements begins
abbrev pub AtAField : List ℕ → Told → Type 0
AtAField doc t = (place : ℕ) × (t.values ≡ at_place place) × ((place ≡ 0) ⊎ (Begins 0 doc place ⊎ BeginsInside doc place))

-- every refusal of a document does
abbrev pub RefusalsNameWhereAFieldBegins : Type 0
RefusalsNameWhereAFieldBegins = (doc : List ℕ) (t : Told) → reading doc ≡ Err t → AtAField doc t
