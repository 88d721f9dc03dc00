use Rattle.cells.specs.Cells.{cell_position, at_position}
use Rattle.cells.specs.Masks.{on_mask, off_mask, forced_state}
use Rattle.cells.specs.Forcing.{own_cells}
use Rattle.cells.proofs.Positions.{position_inside}
use Rattle.cells.proofs.Overlays.{overlaid_at, forced_state_or}
use Rattle.cells.proofs.forcing.ForcingStoreCellStore.read.Goals as goal

pub returns : goal.returns
returns c =
    let s = c.args.self.now in
    let at = cell_position c.args.buffer c.args.code in
    rw (c.unwrap_or.ensures, c.forced.ensures, c.read.ensures.meaning)
    record {
      meaning = overlaid_at (on_mask s.masks) (off_mask s.masks) (own_cells s) at (position_inside c.args.buffer c.args.code);
      masks = forced_state_or (forced_state s.masks c.args.buffer c.args.code) (at_position (own_cells s) at);
    }
