use Rattle.std.proofs.Common.{sym, subst, refl}
use Rattle.cells.specs.Cells.{all_cells}
use Rattle.cells.specs.Tabulated.{length_tabulated}
use Rattle.cells.proofs.Positions.{Inside, position_inside}
use Rattle.cells.proofs.Overlays.{overlaid_set, one_has}
use Rattle.cells.proofs.forcing.ForcingStoreCellStore.write.Goals as goal

pub returns-in-Some : goal.returns-in-Some
returns-in-Some c =
    let at = c.in-Some.at in
    let inside = subst Inside (sym c.in-Some.ensures) (position_inside c.args.buffer c.args.code) in
    let whole = length_tabulated all_cells in
    record {
      meaning = rw (← c.in-Some.ensures, c.force.ensures.forced_on, c.force.ensures.forced_off)
          (overlaid_set _ _ _ (whole _) (whole _) at inside c.args.state);
      masks = record {
        controller = refl;
        masks = rw (← c.in-Some.ensures) c.force.ensures;
        one_mask = rw (← c.in-Some.ensures, c.force.ensures.forced_on, c.force.ensures.forced_off)
            (one_has _ _ (whole _) (whole _) at inside c.args.state);
      };
    }
