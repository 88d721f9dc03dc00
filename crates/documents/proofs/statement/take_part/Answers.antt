use Rattle.tables.specs.Rows.{statement_row}
use Rattle.documents.specs.Reads.{names_of}
use Rattle.documents.proofs.TakenParts.{taken_name, taken_mark, taken_test, taken_then, taken_else}
use Rattle.documents.proofs.statement.take_part.Goals as goal

pub returns-in_ok-statement-in-Name : goal.returns-in_ok-statement-in-Name
returns-in_ok-statement-in-Name c = λ before is l.
    taken_name (names_of c.args.above.now) c.args.field.now before (statement_row c.args.statement.now) is l c.in-Name.is _ c.in_ok-statement-in-Name.ensures

pub returns-in_ok-statement-in-Mark : goal.returns-in_ok-statement-in-Mark
returns-in_ok-statement-in-Mark c = λ before is l.
    taken_mark (names_of c.args.above.now) c.args.field.now before (statement_row c.args.statement.now) is l c.in-Mark.is _ c.in_ok-statement-in-Mark.ensures

pub returns-in_ok-add_test-in-Test : goal.returns-in_ok-add_test-in-Test
returns-in_ok-add_test-in-Test c = λ before is l.
    taken_test (names_of c.args.above.now) c.args.field.now before (statement_row c.args.statement.now) is l c.in-Test.is _ c.in_ok-add_test-in-Test.ensures

pub returns-in_ok-add_action-in-ThenAction : goal.returns-in_ok-add_action-in-ThenAction
returns-in_ok-add_action-in-ThenAction c = λ before is l.
    taken_then (names_of c.args.above.now) c.args.field.now before (statement_row c.args.statement.now) is l c.in-ThenAction.is _ c.in_ok-add_action-in-ThenAction.ensures

pub returns-in_ok-add_action-in-ElseAction : goal.returns-in_ok-add_action-in-ElseAction
returns-in_ok-add_action-in-ElseAction c = λ before is l.
    taken_else (names_of c.args.above.now) c.args.field.now before (statement_row c.args.statement.now) is l c.in-ElseAction.is _ c.in_ok-add_action-in-ElseAction.ensures
