-- The pieces of bytes, laid end to end, are the bytes, where none of them is cut.
use Rattle.std.proofs.Common.{◌≡◌, ℕ, zero, suc, ◌+◌, ◌/◌, ◌%◌, ◌<◌, Bool, true, false, cond, leb, List, [], ◌∷◌, length, take, drop, sym, refl, subst, ⊎_elim, arith}
use Rattle.std.specs.List.{flat_map, AllByRecursion}
use Rattle.std.proofs.lemmas.List.{length-take-le, take-append-drop}
use Rattle.std.proofs.lemmas.List.Elements.{All-nil, All-head, All-tail, All-take}
use Rattle.std.proofs.lemmas.Bool.{cases_Bool, leb-true}
use Rattle.documents.specs.Refused.{Whole}
use Rattle.documents.specs.Fields.{Piece, field, cut, wide, pieces}
use Rattle.writing.specs.Bytes.{two, field_bytes}
use Rattle.writing.specs.Written.{AreBytes}

-- a piece's body
abbrev pub piece_body : Piece → List ℕ
piece_body (field place tag body) = body
piece_body (cut place) = []

-- a piece's bytes, those of its field
abbrev pub piece_bytes : Piece → List ℕ
piece_bytes (field place tag body) = field_bytes tag body
piece_bytes (cut place) = []

-- pieces laid end to end
abbrev pub laid : List Piece → List ℕ
laid ps = flat_map piece_bytes ps

-- every piece's body is made of bytes
abbrev pub HoldBytes : List Piece → Type 0
HoldBytes ps = AllByRecursion (λ p. AreBytes (piece_body p)) ps

-- a number made of two bytes is those two bytes again
pub two_wide : (high low : ℕ) → low < 256 → two (wide high low) ≡ high ∷ low ∷ []
two_wide high low small =
    let x : wide high low / 256 ≡ high = omega arith in
    let y : wide high low % 256 ≡ low = omega arith in
    cc

-- bytes behind three others
behind_three : (a h l : ℕ) (bs : List ℕ) → AreBytes (a ∷ h ∷ l ∷ bs) → (l < 256) × AreBytes bs
behind_three a h l bs small =
    let three : AreBytes (l ∷ bs) = All-tail (λ b. b < 256) h (l ∷ bs) (All-tail (λ b. b < 256) a (h ∷ l ∷ bs) small) in
    (All-head (λ b. b < 256) l bs three, All-tail (λ b. b < 256) l bs three)

-- the pieces of bytes hold bytes
pub pieces_hold_bytes : (place k : ℕ) (bs : List ℕ) → AreBytes bs → HoldBytes (pieces place k bs)
pieces_hold_bytes place zero [] small = tt
pieces_hold_bytes place (suc k) [] small = tt
pieces_hold_bytes place (suc k) (b ∷ bs) small = pieces_hold_bytes (place + 1) k bs (All-tail (λ b. b < 256) b bs small)
pieces_hold_bytes place zero (a ∷ []) small = (All-nil (λ b. b < 256), tt)
pieces_hold_bytes place zero (a ∷ h ∷ []) small = (All-nil (λ b. b < 256), tt)
pieces_hold_bytes place zero (a ∷ h ∷ l ∷ bs) small =
    elim (leb (wide h l) (length bs)) as (λ b. HoldBytes (cond b (field place a (take (wide h l) bs) ∷ pieces (place + 3) (wide h l) bs) (cut place ∷ []))) [
      | true ↦ (All-take (λ b. b < 256) (wide h l) bs (behind_three a h l bs small).1, pieces_hold_bytes (place + 3) (wide h l) bs (behind_three a h l bs small).1)
      | false ↦ (All-nil (λ b. b < 256), tt)
    ]

-- whole pieces of bytes, laid end to end, are the bytes
pub laid_pieces : (place k : ℕ) (bs : List ℕ) → AreBytes bs → Whole (pieces place k bs) → laid (pieces place k bs) ≡ drop k bs
laid_pieces place zero [] small whole = refl
laid_pieces place (suc k) [] small whole = refl
laid_pieces place (suc k) (b ∷ bs) small whole = laid_pieces (place + 1) k bs (All-tail (λ b. b < 256) b bs small) whole
laid_pieces place zero (a ∷ []) small whole = absurd whole
laid_pieces place zero (a ∷ h ∷ []) small whole = absurd whole
laid_pieces place zero (a ∷ h ∷ l ∷ bs) small whole =
    let either : Bool → List Piece = λ b. cond b (field place a (take (wide h l) bs) ∷ pieces (place + 3) (wide h l) bs) (cut place ∷ []) in
    let G : Bool → Type 0 = λ b. Whole (either b) → laid (either b) ≡ a ∷ h ∷ l ∷ bs in
    ⊎_elim
    (λ is. subst G (sym is) (λ w.
    let n = length-take-le (wide h l) bs (leb-true (wide h l) (length bs) is) in
    let t = two_wide h l (behind_three a h l bs small).0 in
    let r = laid_pieces (place + 3) (wide h l) bs (behind_three a h l bs small).1 w in
    let j = take-append-drop (wide h l) bs in
    cc) whole)
    (λ isnt. absurd (subst (λ b. Whole (either b)) isnt whole))
    (cases_Bool (leb (wide h l) (length bs)))
