use Rattle.std.proofs.Common.{rules, refl}
use Rattle.std.proofs.lemmas.Iterator.{cases_from_all, YieldsList-from_range}
use Rattle.cells.specs.Cells.{all_cells}
use Rattle.compare.proofs.CellsAlike.{Alike, all_alike}
use Rattle.compare.proofs.cells_alike.are_cells_alike.Goals as goal

pub returns : goal.returns
returns g c =
    let here = c.store-here.result.now in
    let there = c.store-there.result.now in
    let alike = Alike c.shown-own_here.result c.shown-own_there.result (g.P.CellStore.cells here) (g.Q.CellStore.cells there) in
    all_alike _ _ _ _ _ _ c.shown-own_here.ensures c.shown-own_there.ensures c.all.result c.store-here.ensures c.store-there.ensures
    (g.met.P.CellStore.whole here) (g.met.Q.CellStore.whole there)
    (cases_from_all _ _ _ alike (λ i. alike i → ⊥) c.all.ensures.ran (YieldsList-from_range 0 all_cells all_cells refl refl)
    (λ x q k. search rules) (λ x q k. search rules))
