-- `first-fault` finds the first fault, with no fault before it.
use Rattle.std.proofs.Common.{◌≡◌, List, [], ◌∷◌, ◌++◌, Some, None, Option, refl, ap, ◌∙◌, subst}
use Rattle.std.proofs.lemmas.List.{append_assoc, append-nil}
use Rattle.tables.specs.Refusals.{Told}
use Rattle.documents.specs.Fields.{Piece}
use Rattle.documents.specs.Judging.{or_else, first_fault}
use Rattle.documents.specs.Refused.{Clean}
use Rattle.documents.proofs.Faults.{both_none}

-- a fault, and the pieces around the piece that it is found at, where `passed` stand before them all
pub record Found (fault : List Piece → Piece → Option Told) (passed ps : List Piece) (t : Told) : Type 0 where
  pub before : List Piece
  pub piece : Piece
  pub after : List Piece
  pub split : ps ≡ before ++ piece ∷ after
  pub none : first_fault fault passed before ≡ None
  pub bad : fault (passed ++ before) piece ≡ Some t

module _ (fault : List Piece → Piece → Option Told) where
  -- where no fault is found after the pieces passed, no piece is at fault after them
  none_after : (ps passed : List Piece) → first_fault fault passed ps ≡ None
      → (before : List Piece) (p : Piece) (after : List Piece) → ps ≡ before ++ p ∷ after → fault (passed ++ before) p ≡ None
  none_after [] passed e [] p after s = absurd (cc)
  none_after [] passed e (b ∷ before) p after s = absurd (cc)
  none_after (q ∷ ps) passed e [] p after s =
      let two = both_none (fault passed q) (first_fault fault (passed ++ q ∷ []) ps) e in
      let same : q ≡ p = cc in
      rw (append-nil passed) (subst (λ x. fault passed x ≡ None) same two.0)
  none_after (q ∷ ps) passed e (b ∷ before) p after s =
      let two = both_none (fault passed q) (first_fault fault (passed ++ q ∷ []) ps) e in
      let same : q ≡ b = cc in
      let rest : ps ≡ before ++ p ∷ after = cc in
      let h = none_after ps (passed ++ q ∷ []) two.1 before p after rest in
      subst (λ x. fault (passed ++ x ∷ before) p ≡ None) same (subst (λ l. fault l p ≡ None) (append_assoc passed (q ∷ []) before) h)

  -- where no fault is found, no piece is at fault
  pub none_is_clean : (ps : List Piece) → first_fault fault [] ps ≡ None → Clean fault ps
  none_is_clean ps e = none_after ps [] e

  -- the fault found is that of the first piece, or else found among the others
  found_one : (q : Piece) (ps passed : List Piece) (t : Told) (o : Option Told) → fault passed q ≡ o
      → (first_fault fault (passed ++ q ∷ []) ps ≡ Some t → Found fault (passed ++ q ∷ []) ps t)
      → or_else o (first_fault fault (passed ++ q ∷ []) ps) ≡ Some t → Found fault passed (q ∷ ps) t
  found_one q ps passed t None is more e =
      let h = more e in
      record {
        before = q ∷ h.before;
        piece = h.piece;
        after = h.after;
        split = ap (λ l. q ∷ l) h.split;
        none = ap (λ o. or_else o (first_fault fault (passed ++ q ∷ []) h.before)) is ∙ h.none;
        bad = subst (λ l. fault l h.piece ≡ Some t) (append_assoc passed (q ∷ []) h.before) h.bad;
      }
  found_one q ps passed t (Some u) is more e =
      record { before = []; piece = q; after = ps; split = refl; none = refl; bad = ap (λ l. fault l q) (append-nil passed) ∙ is ∙ e }

  -- a fault that is found is found at some piece, with none before it
  found_at : (ps passed : List Piece) (t : Told) → first_fault fault passed ps ≡ Some t → Found fault passed ps t
  found_at [] passed t e = absurd (cc)
  found_at (q ∷ ps) passed t e = found_one q ps passed t (fault passed q) refl (found_at ps (passed ++ q ∷ []) t) e

  -- the first fault of a list of pieces is that of one of them, and those before it are clean
  pub first_found : (ps : List Piece) (t : Told) → first_fault fault [] ps ≡ Some t
      → (f : Found fault [] ps t) × Clean fault f.before
  first_found ps t e = let f = found_at ps [] t e in (f, none_is_clean f.before f.none)
