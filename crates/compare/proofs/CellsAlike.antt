-- Cells of two stores.
use Rattle.std.proofs.Common.{◌≡◌, ℕ, ◌<◌, ◌≤◌, Bool, true, false, ◌⊎◌, ◌↔◌, List, length, get_or, Some, None, Option, sym, refl, ap, ◌∙◌, subst, subst₂, inl, inr, arith, zero-add}
use Rattle.std.specs.Prelude.{IsTrue, IsSomeAnd, option_map}
use Rattle.std.specs.Bool.{MatchBool}
use Rattle.std.specs.List.{range_with_len, AllWithin, HoldsAt}
use Rattle.std.proofs.lemmas.Bool.{cases_lt}
use Rattle.std.proofs.lemmas.List.{get_or_past}
use Rattle.std.proofs.lemmas.List.FromFn.{length-range_with_len, get_or-range_with_len}
use Rattle.cells.specs.declared.packed.PackedImage.{PackedImage}
use Rattle.cells.specs.Cells.{all_cells, image}
use Rattle.rules.specs.Frames.{cells_shown}
use Rattle.rules.specs.RunsAlike.{Own, OwnOrOne}

-- ---- one cell

-- a cell holds what was shown of it
abbrev pub HoldsShown : Option PackedImage → List Bool → ℕ → Type 0
HoldsShown shown cells i = IsSomeAnd shown (λ own. get_or cells i false ≡ get_or (image own.bytes) i false)

-- it holds the same in both stores, or what was shown of it in each
abbrev pub Alike : (shown shown_too : Option PackedImage) → (cells cells_too : List Bool) → ℕ → Type 0
Alike shown shown_too cells cells_too i =
    (get_or cells i false ≡ get_or cells_too i false) ⊎ (HoldsShown shown cells i × HoldsShown shown_too cells_too i)

-- the image is of the last accepted frame
abbrev pub IsImageOf : Option PackedImage → Option (List ℕ) → Type 0
IsImageOf shown frame = option_map (λ (p : PackedImage). image p.bytes) shown ≡ option_map cells_shown frame

own_of_shown : (shown : Option PackedImage) (f : Option (List ℕ)) (cells : List Bool) (i : ℕ) → IsImageOf shown f → HoldsShown shown cells i ↔ Own f cells i
own_of_shown None None cells i e = (λ h. h, λ h. h)
own_of_shown None (Some frame) cells i e = absurd (cc)
own_of_shown (Some own) None cells i e = absurd (cc)
own_of_shown (Some own) (Some frame) cells i e =
    let same : image own.bytes ≡ cells_shown frame = cc in
    let at = ap (λ (xs : List Bool). get_or xs i false) same in
    (λ h. h ∙ at, λ h. h ∙ sym at)

module _ (shown shown_too : Option PackedImage) (f g : Option (List ℕ)) (cells cells_too : List Bool) (here : IsImageOf shown f) (there : IsImageOf shown_too g) where
  alike_own : (i : ℕ) → Alike shown shown_too cells cells_too i → OwnOrOne f g cells cells_too i
  alike_own i (inl same) = inr same
  alike_own i (inr own) = inl ((own_of_shown shown f cells i here).0 own.0, (own_of_shown shown_too g cells_too i there).0 own.1)

  own_alike : (i : ℕ) → OwnOrOne f g cells cells_too i → Alike shown shown_too cells cells_too i
  own_alike i (inr same) = inl same
  own_alike i (inl own) = inr ((own_of_shown shown f cells i here).1 own.0, (own_of_shown shown_too g cells_too i there).1 own.1)

  -- past the last cell both are OFF
  past_alike : (i : ℕ) → length cells ≡ all_cells → length cells_too ≡ all_cells → all_cells ≤ i → OwnOrOne f g cells cells_too i
  past_alike i p q h = inr (get_or_past cells i false (omega arith) ∙ sym (get_or_past cells_too i false (omega arith)))

  -- ---- all cells

  -- what was answered by a test of every cell
  abbrev pub Answered : Bool → Type 0
  Answered r =
      MatchBool r (AllWithin (Alike shown shown_too cells cells_too) (range_with_len 0 all_cells) 0 (length (range_with_len 0 all_cells)))
      ((k : ℕ) × (k < length (range_with_len 0 all_cells)) × HoldsAt (λ i. Alike shown shown_too cells cells_too i → ⊥) (range_with_len 0 all_cells) k)

  all_own : (r : Bool) → length cells ≡ all_cells → length cells_too ≡ all_cells → Answered r → IsTrue r ↔ ((i : ℕ) → OwnOrOne f g cells cells_too i)
  all_own true p q all = (
    λ _ i. elim (cases_lt i all_cells) [
      | inl k ↦ alike_own i (subst (Alike shown shown_too cells cells_too) (get_or-range_with_len 0 all_cells i 0 k ∙ zero-add i)
          (all i 0 (omega arith) (omega (arith, length-range_with_len 0 all_cells))))
      | inr k ↦ past_alike i p q k
    ],
    λ _. refl,
  )
  all_own false p q some = (λ e. absurd (cc), λ all. absurd (some.2 0 (own_alike _ (all _))))

  -- the same, where the cells are named in another way
  pub all_alike : (r : Bool) {cs ds : List Bool} → cells ≡ cs → cells_too ≡ ds → length cells ≡ all_cells → length cells_too ≡ all_cells
      → Answered r → IsTrue r ↔ ((i : ℕ) → OwnOrOne f g cs ds i)
  all_alike r p q w x all = subst₂ (λ xs ys. IsTrue r ↔ ((i : ℕ) → OwnOrOne f g xs ys i)) p q (all_own r w x all)
