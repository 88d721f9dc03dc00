-- How bytes are cut into fields: a tag, a length of two bytes, and a body of that length.
use Rattle.std.specs.Prelude.{ℕ, zero, suc, ◌+◌, ◌*◌, cond, List, [], ◌∷◌, map, length, take, Some, None, Option, ◌==◌, nat_le, slice_index}

-- A piece of a body: a whole field, or a cut one at the end, each with the place of its first byte.
pub data Piece : Type 0 where
  field : (place tag : ℕ) (body : List ℕ) → Piece
  cut : (place : ℕ) → Piece

-- two bytes as one number, the high byte first
abbrev pub wide : (high low : ℕ) → ℕ
wide high low = high * 256 + low

-- The pieces of the bytes from `place` on, where `skip` bytes still belong to the field before.
abbrev pub pieces : (place skip : ℕ) → List ℕ → List Piece
pieces place skip [] = []
pieces place (suc skip) (b ∷ bs) = pieces (place + 1) skip bs
pieces place zero (tag ∷ []) = cut place ∷ []
pieces place zero (tag ∷ high ∷ []) = cut place ∷ []
pieces place zero (tag ∷ high ∷ low ∷ bs) = cond (nat_le (wide high low) (length bs))
    (field place tag (take (wide high low) bs) ∷ pieces (place + 3) (wide high low) bs)
    (cut place ∷ [])

-- where a piece begins
abbrev pub place_of : Piece → ℕ
place_of (field place tag body) = place
place_of (cut place) = place

-- a piece's tag; a cut one counts as 0, which is no tag
abbrev pub tag_of : Piece → ℕ
tag_of (field place tag body) = tag
tag_of (cut place) = 0

-- the bodies of the fields with a tag, in their order
abbrev pub bodies : ℕ → List Piece → List (List ℕ)
bodies t [] = []
bodies t (cut place ∷ ps) = bodies t ps
bodies t (field place tag body ∷ ps) = cond (tag == t) (body ∷ bodies t ps) (bodies t ps)

-- the last of a list, or `none` of an empty one
abbrev pub latest : {X : Type 0} → X → List X → X
latest none [] = none
latest none (x ∷ xs) = latest x xs

-- the tag of the last piece, 0 where there is none
abbrev pub last_tag : List Piece → ℕ
last_tag ps = latest 0 (map tag_of ps)

-- the tag of the field before, 0 where there is none
abbrev pub tag_before : {K : Type 0} → (K → ℕ) → Option K → ℕ
tag_before tag None = 0
tag_before tag (Some kind) = tag kind

-- a byte of a body
abbrev pub byte : List ℕ → ℕ → ℕ
byte body k = slice_index body k

-- two bytes of a body
abbrev pub two_bytes : List ℕ → ℕ → ℕ
two_bytes body k = wide (slice_index body k) (slice_index body (k + 1))
