-- A piece begins where the whole fields before it end, and only the last piece may be cut.
use Rattle.std.proofs.Common.{◌≡◌, ℕ, zero, suc, ◌+◌, leb, List, [], ◌∷◌, ◌++◌, length, take, sym, refl, ap, ◌∙◌, subst, ⊎_elim, arith}
use Rattle.std.proofs.lemmas.List.{length-take-le}
use Rattle.std.proofs.lemmas.Bool.{cases_Bool, cond-true, cond-false, leb-true}
use Rattle.documents.specs.Fields.{Piece, field, cut, wide, pieces, place_of}
use Rattle.documents.specs.Refused.{Whole, whole_size, Begins}

-- what is known of a piece and those before it, in bytes whose first field stands at `start`
record Stands (start : ℕ) (before : List Piece) (p : Piece) : Type 0 where
  whole : Whole before
  here : place_of p ≡ start + whole_size before

-- a piece that is alone stands at the start
alone : (start : ℕ) (before : List Piece) (p q : Piece) (after : List Piece) → place_of q ≡ start → q ∷ [] ≡ before ++ p ∷ after → Stands start before p
alone start [] p q after is e =
    let same : q ≡ p = cc in
    let at : place_of q ≡ place_of p = ap place_of same in
    record { whole = tt; here = omega arith }
alone start (b ∷ []) p q after is e = absurd (cc)
alone start (b ∷ c ∷ before) p q after is e = absurd (cc)

-- the pieces after a whole field stand after it
after_field : (start tag n : ℕ) (body : List ℕ) (rest before : List Piece) (p : Piece) (after : List Piece) → length body ≡ n
    → ((above : List Piece) → rest ≡ above ++ p ∷ after → Stands (start + 3 + n) above p)
    → field start tag body ∷ rest ≡ before ++ p ∷ after → Stands start before p
after_field start tag n body rest [] p after long more e =
    let same : field start tag body ≡ p = cc in
    let at : start ≡ place_of p = ap place_of same in
    record { whole = tt; here = omega arith }
after_field start tag n body rest (b ∷ above) p after long more e =
    let same : field start tag body ≡ b = cc in
    let h = more above (cc) in
    let here = h.here in
    subst (λ q. Stands start (q ∷ above) p) same (record { whole = h.whole; here = omega arith })

-- every piece of the bytes from `place` on stands so, where `skip` bytes still belong to the field before
stands : (place skip : ℕ) (bs : List ℕ) (before : List Piece) (p : Piece) (after : List Piece) → pieces place skip bs ≡ before ++ p ∷ after → Stands (place + skip) before p
stands place skip [] [] p after e = absurd (cc)
stands place skip [] (b ∷ before) p after e = absurd (cc)
stands place (suc skip) (b ∷ bs) before p after e =
    let same : place + 1 + skip ≡ place + suc skip = omega arith in
    subst (λ s. Stands s before p) same (stands (place + 1) skip bs before p after e)
stands place zero (tag ∷ []) before p after e = alone (place + 0) before p (cut place) after (omega arith) e
stands place zero (tag ∷ high ∷ []) before p after e = alone (place + 0) before p (cut place) after (omega arith) e
stands place zero (tag ∷ high ∷ low ∷ bs) before p after e =
    let same : place ≡ place + 0 = omega arith in
    subst (λ s. Stands s before p) same
    (⊎_elim
    (λ is.
    after_field place tag (wide high low) (take (wide high low) bs) (pieces (place + 3) (wide high low) bs) before p after
    (length-take-le (wide high low) bs (leb-true (wide high low) (length bs) is))
    (λ above s. stands (place + 3) (wide high low) bs above p after s)
    (sym (cond-true (leb (wide high low) (length bs)) _ _ is) ∙ e))
    (λ isnt. alone place before p (cut place) after refl (sym (cond-false (leb (wide high low) (length bs)) _ _ isnt) ∙ e))
    (cases_Bool (leb (wide high low) (length bs))))

-- every piece of a body begins at the end of the whole fields before it
pub begins_there : (start : ℕ) (body : List ℕ) (before : List Piece) (p : Piece) (after : List Piece) → pieces start 0 body ≡ before ++ p ∷ after → Begins start body (place_of p)
begins_there start body before p after e =
    let s = stands start 0 body before p after e in
    let here = s.here in
    record { before = before; piece = p; after = after; split = e; is = refl; whole = s.whole; here = omega arith }
