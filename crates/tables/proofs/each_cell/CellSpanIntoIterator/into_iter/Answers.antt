use Rattle.tables.proofs.EachCell.{cells_at_first, cells_in_order}
use Rattle.tables.proofs.each_cell.CellSpanIntoIterator.into_iter.Goals as goal

pub returns : goal.returns
returns c = record { into_iter_gives = (cells_at_first c.args.self, cells_in_order) }
