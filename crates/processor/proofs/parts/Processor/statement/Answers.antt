use Rattle.std.proofs.Common.{map, get_or, subst}
use Rattle.tables.specs.Contents.{rows_of}
use Rattle.tables.specs.Lists.{Among}
use Rattle.tables.specs.Rows.{statement_row}
use Rattle.rules.proofs.Names.{well_named}
use Rattle.scanning.proofs.Loops.{no_statement, among_at}
use Rattle.scanning.proofs.EnabledOnes.{keeps_among}
use Rattle.processor.proofs.parts.Processor.statement.Goals as goal

pub returns : goal.returns
returns g c =
    let t = c.args.self.now.table in
    let read = c.statements-statements.result.now in
    let same = c.statements-statements.ensures.value in
    let at = c.in_ok-at.at in
    let stands = c.in_ok-at.ensures in
    let s = statement_row (get_or read at no_statement) in
    let among = subst (λ xs. Among s (map statement_row xs)) same (among_at statement_row read at no_statement stands.within) in
    record {
      named = record { among = among; its_name = stands.named no_statement };
      keeps = keeps_among (rows_of t).statements s (well_named (rows_of t) t.keeps).keep among;
    }
