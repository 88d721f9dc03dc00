-- Lists that are given by what stands at each place.
use Rattle.std.proofs.Common.{◌≡◌, ℕ, ◌*◌, ◌/◌, ◌<◌, Bool, false, cond, ◌≢◌, List, length, get_or, set, replicate, ◌==◌, sym, ap, ◌∙◌, inl, inr, arith, get_or-set_same, get_or-set_other}
use Rattle.std.proofs.lemmas.Bool.{cases_eq}
use Rattle.std.proofs.lemmas.List.{get_or-replicate, length-replicate, length-set}
use Rattle.std.proofs.lemmas.List.FromFn.{get_or-map-range_with_len, fill_by_all}
use Rattle.std.proofs.lemmas.Bool.Decides.{nat_tests}
use Rattle.std.proofs.lemmas.Nat.Bits.{bit_at-zero}
use Rattle.cells.specs.Bits.{bit}
use Rattle.cells.specs.Tabulated.{tabulated, length_tabulated}
use Rattle.cells.specs.Cells.{packed_cell}

pub get_or_tabulated : (n : ℕ) (f : ℕ → Bool) (i : ℕ) (d : Bool) → i < n → get_or (tabulated n f) i d ≡ f i
unfolding tabulated
get_or_tabulated n f i d h = get_or-map-range_with_len f 0 n i i d h (omega arith)

-- a list is tabulated by its own elements
pub tabulated_from : (n : ℕ) (f : ℕ → Bool) (xs : List Bool) → length xs ≡ n
    → ((k : ℕ) → k < n → get_or xs k false ≡ f k) → tabulated n f ≡ xs
unfolding tabulated
tabulated_from n f xs l e = sym (fill_by_all f xs n false l e)

-- what stands at a place after one is set
pub get_or_set : (xs : List Bool) (i k : ℕ) (v d : Bool) → i < length xs → get_or (set xs i v) k d ≡ cond (k == i) v (get_or xs k d)
get_or_set xs i k v d l =
    elim (cases_eq k i) [
      | inl q ↦ let s : get_or (set xs i v) k d ≡ v = rw (q, get_or-set_same) in grind (arith, nat_tests)
      | inr q ↦ let ne : k ≢ i = q in let s : get_or (set xs i v) k d ≡ get_or xs k d = rw get_or-set_other in grind (arith, nat_tests)
    ]

-- tabulated with one value set
pub tabulated_set : (n : ℕ) (f g : ℕ → Bool) (i : ℕ) (v : Bool) → i < n
    → ((k : ℕ) → k < n → g k ≡ cond (k == i) v (f k)) → tabulated n g ≡ set (tabulated n f) i v
tabulated_set n f g i v l e =
    tabulated_from n g _ (length-set (tabulated n f) i v ∙ length_tabulated n f)
    (λ k h.
    let within : i < length (tabulated n f) = omega (arith, length_tabulated n f) in
    get_or_set (tabulated n f) i k v false within ∙ (ap (λ (b : Bool). cond (k == i) v b) (get_or_tabulated n f k false h) ∙ sym (e k h)))

-- nothing but false
pub tabulated_none : (n : ℕ) (f : ℕ → Bool) → ((k : ℕ) → k < n → f k ≡ false) → tabulated n f ≡ replicate n false
tabulated_none n f e =
    tabulated_from n f _ (length-replicate n false) (λ k h. get_or-replicate n k false false h ∙ sym (e k h))

-- bytes of 0 have no cell
pub no_cell : (n i : ℕ) → i < 8 * n → packed_cell (replicate n 0) i ≡ false
unfolding bit
no_cell n i h = let l : i / 8 < n = omega arith in rw (get_or-replicate, bit_at-zero)
