use Rattle.std.proofs.Common.{arith}
use Rattle.tables.specs.Rows.{statement_row}
use Rattle.tables.specs.Tags.{statement_tag, statement_fields}
use Rattle.documents.proofs.Endings.{with_tests, without_tests}
use Rattle.documents.proofs.Stepping.{follows_passed, stepped}
use Rattle.documents.proofs.statement.read_statement.Goals as goal

pub loop-part-preserved : goal.loop-part-preserved
loop-part-preserved c =
    let inv = c.loop-part.invariant in
    let follows = follows_passed statement_tag statement_fields _ _ _ _ c.loop-part.part-iterator c.next.new.self inv.1 _ c.in_ok-part.field-0 c.in_ok-part.was c.in-Some.ensures.steps in
    let took = c.in_ok-take_part.ensures inv.0 inv.2 follows in
    (_, stepped statement_tag statement_fields _ _ _ _ c.loop-part.part-iterator c.next.new.self inv.1 _ c.in_ok-part.field-0 c.in_ok-part.was c.in-Some.ensures.steps took.0, took.1)

pub returns-then-len-eq0 : goal.returns-then-len-eq0
returns-then-len-eq0 c =
    let inv = c.loop-part.invariant in
    without_tests _ c.args.field.now.place c.args.field.now.body.now inv.0 inv.1 c.in-None.ensures.steps (statement_row c.loop-part.statement) inv.2 (omega (arith, c.len.ensures.value))

pub returns : goal.returns
returns c =
    let inv = c.loop-part.invariant in
    with_tests _ c.args.field.now.place c.args.field.now.body.now inv.0 inv.1 c.in-None.ensures.steps (statement_row c.loop-part.statement) inv.2 (omega (arith, c.len.ensures.value))
