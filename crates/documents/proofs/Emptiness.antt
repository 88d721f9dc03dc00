-- A document without fault whose last tag is 0 has no byte at all.
use Rattle.std.proofs.Common.{◌≡◌, ℕ, zero, suc, ◌+◌, ◌<◌, ◌≤◌, leb, List, [], ◌∷◌, ◌++◌, map, length, take, None, refl, ⊎_elim, arith}
use Rattle.std.proofs.lemmas.Bool.{cases_Bool, cond-true, cond-false}
use Rattle.documents.specs.Fields.{Piece, field, cut, wide, pieces, tag_of, latest, last_tag}
use Rattle.documents.specs.Judging.{first_fault}
use Rattle.documents.specs.Documents.{top_fault}
use Rattle.documents.proofs.Faults.{both_none}

-- a piece of a document that is not at fault has a tag, and 0 is none
has_tag : (before : List Piece) (p : Piece) → top_fault before p ≡ None → 1 ≤ tag_of p
has_tag before (cut place) e = absurd (cc)
has_tag before (field place zero body) e = absurd (cc)
has_tag before (field place (suc tag) body) e = omega arith

-- so the last of pieces without fault has one, where the piece before them has
last_has_tag : (ps before : List Piece) (tag : ℕ) → 1 ≤ tag → first_fault top_fault before ps ≡ None → 1 ≤ latest tag (map tag_of ps)
last_has_tag [] before tag h e = h
last_has_tag (p ∷ ps) before tag h e =
    let two = both_none (top_fault before p) (first_fault top_fault (before ++ p ∷ []) ps) e in
    last_has_tag ps (before ++ p ∷ []) (tag_of p) (has_tag before p two.0) two.1

-- pieces without fault and without a last tag are none
no_pieces : (ps : List Piece) → first_fault top_fault [] ps ≡ None → last_tag ps < 1 → ps ≡ []
no_pieces [] e low = refl
no_pieces (p ∷ ps) e low =
    let two = both_none (top_fault [] p) (first_fault top_fault (p ∷ []) ps) e in
    let one = last_has_tag ps (p ∷ []) (tag_of p) (has_tag [] p two.0) two.1 in
    absurd (omega arith)

-- only no bytes have no pieces
no_bytes : (place : ℕ) (bs : List ℕ) → pieces place 0 bs ≡ [] → bs ≡ []
no_bytes place [] e = refl
no_bytes place (tag ∷ []) e = absurd (cc)
no_bytes place (tag ∷ high ∷ []) e = absurd (cc)
no_bytes place (tag ∷ high ∷ low ∷ bs) e =
    let whole : List Piece = field place tag (take (wide high low) bs) ∷ pieces (place + 3) (wide high low) bs in
    ⊎_elim
    (λ is. let s = cond-true (leb (wide high low) (length bs)) whole (cut place ∷ []) is in absurd (cc))
    (λ isnt. let s = cond-false (leb (wide high low) (length bs)) whole (cut place ∷ []) isnt in absurd (cc))
    (cases_Bool (leb (wide high low) (length bs)))

-- a document without fault whose last tag is 0 is empty
pub empty_document : (doc : List ℕ) → first_fault top_fault [] (pieces 0 0 doc) ≡ None → last_tag (pieces 0 0 doc) < 1 → doc ≡ []
empty_document doc e low = no_bytes 0 doc (no_pieces (pieces 0 0 doc) e low)
