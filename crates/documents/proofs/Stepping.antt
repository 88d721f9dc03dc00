-- What reading the field at the front of a body changes in what is known of the fields before it.
use Rattle.std.proofs.Common.{◌≡◌, ℕ, List, [], ◌∷◌, ◌++◌, Some, None, Ok, Option, Result, subst}
use Rattle.tables.specs.declared.refusal.Refusal.{Refusal}
use Rattle.tables.specs.Refusals.{Told}
use Rattle.documents.specs.declared.field.Field.{Field}
use Rattle.documents.specs.declared.fields.Fields.{Fields}
use Rattle.documents.specs.Fields.{Piece, last_tag, tag_before}
use Rattle.documents.specs.Reads.{piece_of, NextField}
use Rattle.documents.proofs.Going.{Passed, onward}

module _ {K : Type 0} (tag : K → ℕ) (kinds : List K) (fault : List Piece → Piece → Option Told) (start : ℕ) (body : List ℕ) (before : List Piece) (s t : Fields K) (passed : Passed fault start body before (tag_before tag s.before) s.place s.rest.now) where
  module _ (read : Result (Field K) Refusal) (f : Field K) (ok : read ≡ Ok f) (next : NextField tag kinds s (Some read) t) where
    -- a field that is read follows those before it
    pub follows_passed : tag_before tag f.before ≡ last_tag before
    follows_passed = let n = subst (λ r. NextField tag kinds s (Some r) t) ok next in let l = passed.tag in cc

    -- and where it has no fault it is one of those before the next
    pub stepped : fault before (piece_of tag f) ≡ None → Passed fault start body (before ++ piece_of tag f ∷ []) (tag_before tag t.before) t.place t.rest.now
    stepped good =
        let n = subst (λ r. NextField tag kinds s (Some r) t) ok next in
        rw (n.1, n.3, n.4) (onward passed (tag f.kind) f.body.now t.rest.now (rw (n.1, n.4) at n.0) n.5 (rw n.1 at good))
