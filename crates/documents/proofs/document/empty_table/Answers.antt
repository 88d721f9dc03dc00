use Rattle.std.proofs.Common.{ap}
use Rattle.tables.specs.Rules.{table_keeps}
use Rattle.documents.proofs.document.empty_table.Goals as goal

pub finish-requires : goal.finish-requires
unfolding table_keeps
finish-requires c = ap table_keeps c.new.ensures
