-- What a body says does not depend on where its bytes stand.
use Rattle.std.proofs.Common.{◌≡◌, ℕ, zero, suc, ◌+◌, Bool, true, false, cond, eqb, leb, List, [], ◌∷◌, length, take, refl, ap}
use Rattle.documents.specs.Fields.{Piece, field, cut, wide, pieces, bodies}
use Rattle.documents.specs.Statements.{statement_in}

-- the same for a first field, whole or cut
place_either : (t p q tag : ℕ) (body : List ℕ) (ps qs : List Piece) (b : Bool) → bodies t ps ≡ bodies t qs → bodies t (cond b (field p tag body ∷ ps) (cut p ∷ [])) ≡ bodies t (cond b (field q tag body ∷ qs) (cut q ∷ []))
place_either t p q tag body ps qs true e = ap (λ l. cond (eqb tag t) (body ∷ l) l) e
place_either t p q tag body ps qs false e = refl

-- the bodies do not depend on where the bytes stand
pub bodies_place : (t p q skip : ℕ) (bs : List ℕ) → bodies t (pieces p skip bs) ≡ bodies t (pieces q skip bs)
bodies_place t p q skip [] = refl
bodies_place t p q (suc skip) (b ∷ bs) = bodies_place t (p + 1) (q + 1) skip bs
bodies_place t p q zero (tag ∷ []) = refl
bodies_place t p q zero (tag ∷ high ∷ []) = refl
bodies_place t p q zero (tag ∷ high ∷ low ∷ bs) =
    place_either t p q tag (take (wide high low) bs) (pieces (p + 3) (wide high low) bs) (pieces (q + 3) (wide high low) bs) (leb (wide high low) (length bs)) (bodies_place t (p + 3) (q + 3) (wide high low) bs)

-- nor does the statement that they say depend on it
pub statement_place : (p q : ℕ) (bs : List ℕ) → statement_in (pieces p 0 bs) ≡ statement_in (pieces q 0 bs)
statement_place p q bs =
    let a = bodies_place 16 p q 0 bs in
    let b = bodies_place 17 p q 0 bs in
    let c = bodies_place 18 p q 0 bs in
    let d = bodies_place 19 p q 0 bs in
    let e = bodies_place 20 p q 0 bs in
    cc
