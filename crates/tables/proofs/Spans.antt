-- The cells of a family, counted from 0 and from 1.
use Rattle.std.proofs.Common.{◌≡◌, ℕ, zero, suc, ◌+◌, ◌-◌, ◌*◌, map, refl, arith}
use Rattle.std.specs.List.{range_with_len}
use Rattle.tables.specs.declared.family.Layout.{Layout}
use Rattle.tables.specs.Families.{cell_in, member_cell}

-- cells that begin at a family's first, and go on as the family does, are its members'
pub cells_from : (l : Layout) (n k : ℕ) → map (λ j. cell_in l.buffer (l.first + l.step * j)) (range_with_len k n) ≡ map (member_cell l) (range_with_len (k + 1) n)
cells_from l zero k = refl
cells_from l (suc n) k =
    let less : k + 1 - 1 ≡ k = omega arith in
    let here : cell_in l.buffer (l.first + l.step * k) ≡ member_cell l (k + 1) = cc in
    let rest = cells_from l n (k + 1) in
    cc
