-- What one more field changes in the pieces laid end to end.
use Rattle.std.proofs.Common.{◌≡◌, ℕ, List, [], ◌∷◌, ◌++◌, sym, ap, ◌∙◌, subst}
use Rattle.std.specs.List.{flat_map, AllByRecursion}
use Rattle.std.proofs.lemmas.List.{flat_map_more}
use Rattle.documents.specs.Fields.{Piece, field, cut, last_tag}
use Rattle.documents.proofs.Taking.{tag_push}
use Rattle.writing.specs.Bytes.{field_bytes}
use Rattle.writing.specs.Written.{AreBytes}
use Rattle.documents.specs.Refused.{Whole}
use Rattle.writing.proofs.Laid.{piece_body, piece_bytes, laid, HoldBytes}

-- one more at the end of a list is joined behind the others
pub joined_push : {X : Type 0} (f : X → List ℕ) (xs : List X) (x : X) → flat_map f (xs ++ x ∷ []) ≡ flat_map f xs ++ f x
joined_push f xs x = sym (flat_map_more f [] xs x)

-- what holds of each of a list with one more holds of each of the list, and of the one
all_parts : {X : Type 0} (P : X → Type 0) (xs : List X) (x : X) → AllByRecursion P (xs ++ x ∷ []) → AllByRecursion P xs × P x
all_parts P [] x all = (tt, all.0)
all_parts P (y ∷ xs) x all = let rest = all_parts P xs x all.1 in ((all.0, rest.0), rest.1)

-- whole pieces with one more field are whole
pub whole_push : (ps : List Piece) (place tag : ℕ) (body : List ℕ) → Whole ps → Whole (ps ++ field place tag body ∷ [])
whole_push [] place tag body whole = tt
whole_push (field p t b ∷ ps) place tag body whole = whole_push ps place tag body whole
whole_push (cut p ∷ ps) place tag body whole = absurd whole

module _ (before : List Piece) (place tag : ℕ) (body : List ℕ) where
  -- one more field is laid behind the pieces before it
  laid_push : laid (before ++ field place tag body ∷ []) ≡ laid before ++ field_bytes tag body
  laid_push = joined_push piece_bytes before (field place tag body)

  -- where the pieces with one more field hold bytes, so do those before it, and its body is made of bytes
  pub hold_bytes_parts : HoldBytes (before ++ field place tag body ∷ []) → HoldBytes before × AreBytes body
  hold_bytes_parts small = all_parts (λ p. AreBytes (piece_body p)) before (field place tag body) small

  -- what is said of the bytes, the last tag and what the pieces say, with one more field whose body is known, is said of the
  -- pieces with that field
  pub said_push : {R : Type 0} (Said : List ℕ → ℕ → R → Type 0) (says : List Piece → R) (known : List ℕ) (r : R) → body ≡ known → r ≡ says (before ++ field place tag body ∷ []) → Said (laid before ++ field_bytes tag known) tag r → Said (laid (before ++ field place tag body ∷ [])) (last_tag (before ++ field place tag body ∷ [])) (says (before ++ field place tag body ∷ []))
  said_push Said says known r is row so =
      let ps : List Piece = before ++ field place tag body ∷ [] in
      let bytes : laid before ++ field_bytes tag known ≡ laid ps = ap (λ b. laid before ++ field_bytes tag b) (sym is) ∙ sym laid_push in
      subst (λ bs. Said bs (last_tag ps) (says ps)) bytes
      (subst (λ t. Said (laid before ++ field_bytes tag known) t (says ps)) (sym (tag_push place tag body before))
      (subst (Said (laid before ++ field_bytes tag known) tag) row so))
