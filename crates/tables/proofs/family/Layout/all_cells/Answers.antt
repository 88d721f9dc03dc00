use Rattle.tables.proofs.Spans.{cells_from}
use Rattle.tables.proofs.family.Layout.all_cells.Goals as goal

pub returns : goal.returns
returns c = cells_from c.args.self c.args.self.members 0
