-- An array that a closure made, item by item.
use Rattle.std.proofs.Common.{ℕ, zero, suc, ◌+◌, ◌<◌, ◌≤◌, List, get_or, inl, inr, arith, ◌≢◌}
use Rattle.std.proofs.lemmas.Bool.{cases_eq}
use Rattle.std.specs.Array.{IsFromFnResultFrom}
use Rattle.std.specs.Fn.{Called}
use denote.Param.Members.{Mut}

-- Where each call keeps what the closure knows, and gives an item that fits its index, each item does.
pub each_made : {F B : Type 0} {g : Mut F (ℕ × Unit {0}) B} (Knows : F → Type 0) (P : ℕ → B → Type 0) (ys : List B) (d : B)
    → ((p : F) (j : ℕ) (y : B) (q : F) → Called g p (j, tt) y q → Knows p → Knows q × P j y) → (n i : ℕ)
    → (p : F) → Knows p → IsFromFnResultFrom g p ys i n → (k : ℕ) → i ≤ k → k < i + n → P k (get_or ys k d)
each_made Knows P ys d call zero i p known made k low high = absurd (omega arith)
each_made Knows P ys d call (suc n) i p known made k low high =
    let h = call p i made.1 made.0 made.3 known in
    elim (cases_eq k i) [
      | inl e ↦ rw (e, made.2.1 d) h.1
      | inr ne ↦ let other : k ≢ i = ne in
          each_made Knows P ys d call n (i + 1) made.0 h.0 made.4 k (omega arith) (omega arith)
    ]
