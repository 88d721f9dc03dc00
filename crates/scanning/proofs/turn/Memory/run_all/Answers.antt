use Rattle.std.proofs.Common.{map, ap, ◌∙◌}
use Rattle.tables.specs.Contents.{rows_of}
use Rattle.tables.specs.Lists.{every}
use Rattle.tables.specs.Rows.{statement_row}
use Rattle.tables.specs.Rules.{statement_keeps}
use Rattle.rules.proofs.Names.{well_named}
use Rattle.scanning.proofs.turn.Memory.run_all.Goals as goal

pub run_all-requires : goal.run_all-requires
run_all-requires g c =
    let t = c.args.scan.now.table.now in
    ap (λ xs. every statement_keeps (map statement_row xs)) c.statements.ensures.value ∙ (well_named (rows_of t) t.keeps).keep
