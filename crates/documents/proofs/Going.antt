-- What a loop over a body's fields keeps.
use Rattle.std.proofs.Common.{◌≡◌, ℕ, ◌+◌, List, [], ◌∷◌, ◌++◌, length, None, Option, sym, refl, ap, ◌∙◌, arith}
use Rattle.std.proofs.lemmas.List.{append-nil, append_assoc}
use Rattle.tables.specs.Refusals.{Told}
use Rattle.documents.specs.Fields.{Piece, field, pieces, last_tag}
use Rattle.documents.specs.Judging.{or_else, first_fault}
use Rattle.documents.proofs.Faults.{both_none}
use Rattle.documents.proofs.Taking.{tag_push}

-- one more piece that is not at fault leaves pieces without fault
pub clean_push : (fault : List Piece → Piece → Option Told) (passed ps : List Piece) (p : Piece) → first_fault fault passed ps ≡ None → fault (passed ++ ps) p ≡ None → first_fault fault passed (ps ++ p ∷ []) ≡ None
clean_push fault passed [] p clean good = ap (λ l. or_else (fault l p) None) (sym (append-nil passed)) ∙ ap (λ o. or_else o None) good
clean_push fault passed (q ∷ ps) p clean good =
    let two = both_none (fault passed q) (first_fault fault (passed ++ q ∷ []) ps) clean in
    ap (λ o. or_else o (first_fault fault (passed ++ q ∷ []) (ps ++ p ∷ []))) two.0
    ∙ clean_push fault (passed ++ q ∷ []) ps p two.1 (ap (λ l. fault l p) (append_assoc passed (q ∷ []) ps) ∙ good)

-- `before` are the pieces passed, none at fault, and `rest` is what is left from `here` on
pub record Passed (fault : List Piece → Piece → Option Told) (start : ℕ) (body : List ℕ) (before : List Piece) (last here : ℕ) (rest : List ℕ) : Type 0 where
  pub split : pieces start 0 body ≡ before ++ pieces here 0 rest
  pub clean : first_fault fault [] before ≡ None
  pub first : first_fault fault [] (pieces start 0 body) ≡ first_fault fault before (pieces here 0 rest)
  pub tag : last ≡ last_tag before
  pub long : here + length rest ≡ start + length body

-- none is passed at the start
pub begun : (fault : List Piece → Piece → Option Told) (start : ℕ) (body : List ℕ) → Passed fault start body [] 0 start body
begun fault start body = record { split = refl; clean = refl; first = refl; tag = refl; long = refl }

module _ {fault : List Piece → Piece → Option Told} {start : ℕ} {body : List ℕ} {before : List Piece} {last here : ℕ} {rest : List ℕ} (h : Passed fault start body before last here rest) where
  -- the next piece is a field without fault
  pub onward : (t : ℕ) (b after : List ℕ) → pieces here 0 rest ≡ field here t b ∷ pieces (here + (3 + length b)) 0 after → 3 + length b + length after ≡ length rest → fault before (field here t b) ≡ None → Passed fault start body (before ++ field here t b ∷ []) t (here + (3 + length b)) after
  onward t b after e n good = record {
    split = h.split ∙ ap (λ l. before ++ l) e ∙ sym (append_assoc before (field here t b ∷ []) (pieces (here + (3 + length b)) 0 after));
    clean = clean_push fault [] before (field here t b) h.clean good;
    first = h.first ∙ ap (first_fault fault before) e ∙ ap (λ o. or_else o (first_fault fault (before ++ field here t b ∷ []) (pieces (here + (3 + length b)) 0 after))) good;
    tag = sym (tag_push here t b before);
    long = let l = h.long in omega arith;
  }

  -- nothing is left
  pub ended : rest ≡ [] → (before ≡ pieces start 0 body) × (first_fault fault [] (pieces start 0 body) ≡ None)
  ended e =
      let none : pieces here 0 rest ≡ [] = ap (pieces here 0) e in
      (sym (append-nil before) ∙ ap (λ l. before ++ l) (sym none) ∙ sym h.split, h.first ∙ ap (first_fault fault before) none)
