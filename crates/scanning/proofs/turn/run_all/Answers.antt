use Rattle.std.proofs.Common.{◌+◌, map, get_or, drop, sym, ap, ◌∙◌, subst}
use Rattle.std.proofs.lemmas.List.{at_drop_more}
use Rattle.tables.specs.Lists.{Among}
use Rattle.tables.specs.Rows.{statement_row}
use Rattle.rules.specs.Scanning.{turns}
use Rattle.scanning.specs.Memories.{memory_of}
use Rattle.scanning.proofs.Loops.{no_statement, among_at}
use Rattle.scanning.proofs.EnabledOnes.{keeps_among}
use Rattle.scanning.proofs.turn.run_all.Goals as goal

pub run_statement-requires : goal.run_statement-requires
run_statement-requires g c =
    let xs = c.args.statements.now in
    let i = c.loop-statement.statement-index in
    keeps_among (map statement_row xs) (statement_row (get_or xs i no_statement)) c.requires (among_at statement_row xs i no_statement c.loop-statement-test.true)

pub loop-statement-preserved : goal.loop-statement-preserved
loop-statement-preserved g c = λ t e on.
    let xs = c.args.statements.now in
    let i = c.loop-statement.statement-index in
    let frame = c.args.frame.now in
    let within = c.loop-statement-test.true in
    let s = statement_row (get_or xs i no_statement) in
    let its = on.own s (subst (Among s) (sym e) (among_at statement_row xs i no_statement within)) in
    ap (turns t frame (map statement_row (drop (i + 1) xs))) (c.run_statement.ensures t on.named its)
    ∙ sym (at_drop_more (λ ys. turns t frame (map statement_row ys) (memory_of (g.S.CellStore.cells c.loop-statement.store) c.loop-statement.flags c.loop-statement.waits)) xs i no_statement within)
    ∙ c.loop-statement.invariant t e on
