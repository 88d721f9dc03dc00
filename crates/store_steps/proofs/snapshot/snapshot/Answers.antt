use Rattle.std.proofs.Common.{◌≡◌, ℕ, ◌+◌, ◌<◌, ◌≤◌, zero, suc, Bool, false, List, get_or, sym, ◌∙◌, inl, inr, arith, rules}
use Rattle.std.proofs.lemmas.Bool.{cases_eq}
use Rattle.std.proofs.lemmas.List.{ext_get_or}
use Rattle.std.specs.Array.{IsFromFnResultFrom}
use Rattle.std.specs.Fn.{Called}
use Rattle.cells.specs.Cells.{all_cells}
use Rattle.store_steps.proofs.snapshot.snapshot.Goals as goal
use denote.Param.Members.{Mut}

-- what stands at each place of an array, made by calls that leave the closure as it was
element : {F : Type 0} (g : Mut F (ℕ × Unit {0}) Bool) (f : F) (h : ℕ → Bool)
    → ((i : ℕ) (y : Bool) (q : F) → Called g f (i, tt) y q → (q ≡ f) × (y ≡ h i))
    → (ys : List Bool) (n i : ℕ) → IsFromFnResultFrom g f ys i n → (k : ℕ) → i ≤ k → k < i + n → get_or ys k false ≡ h k
element g f h call ys zero i made k l m = absurd (omega arith)
element g f h call ys (suc n) i (q, y, at, called, rest) k l m =
    let c = call i y q called in
    elim (cases_eq k i) [
      | inl same ↦ rw same (at.1 false ∙ c.1)
      | inr other ↦ element g f h call ys n (i + 1) (rw c.0 at rest) k (omega arith) (omega arith)
    ]

pub returns : goal.returns
returns g c =
    let cells = g.S.CellStore.cells c.args.store.now in
    let made = c.from_fn.ensures.items in
    ext_get_or false c.from_fn.result cells (made.long ∙ sym (g.met.S.CellStore.whole c.args.store.now))
    (λ k h. element _ _ (λ i. get_or cells i false) (λ i y q called. search rules) c.from_fn.result all_cells 0 made.each k (omega arith) (omega (arith, made.long)))
