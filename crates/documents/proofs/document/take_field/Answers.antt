use Rattle.std.proofs.Common.{arith}
use Rattle.documents.proofs.TakenFields.{taken_version, room_for_statement, taken_statement, room_for_plan, taken_plan}
use Rattle.documents.proofs.document.take_field.Goals as goal

pub returns-in_ok-read_version-in-Version : goal.returns-in_ok-read_version-in-Version
returns-in_ok-read_version-in-Version c = λ before is l clean.
    taken_version c.args.field.now before c.args.draft.now is l c.in-Version.is c.in_ok-read_version-in-Version.ensures.0

pub returns-in_err-add-in-Statement : goal.returns-in_err-add-in-Statement
returns-in_err-add-in-Statement c = λ before is l clean.
    absurd (omega (arith, c.in_err-add-in-Statement.ensures.0, room_for_statement c.args.field.now before c.args.draft.now is l c.in-Statement.is c.follows.result c.follows.ensures c.if-not-follows.false c.as_slice.result.now c.as_slice.ensures.value c.in_ok-statement-in-Statement.ensures.0 clean))

pub returns-in_ok-add-in-Statement : goal.returns-in_ok-add-in-Statement
returns-in_ok-add-in-Statement c = λ before is l clean.
    let read = c.in_ok-statement-in-Statement.ensures in
    taken_statement c.args.field.now before c.args.draft.now is l c.in-Statement.is c.follows.result c.follows.ensures c.if-not-follows.false c.as_slice.result.now c.as_slice.ensures.value read.0 c.in_ok-statement-in-Statement.statement _ c.in_ok-add-in-Statement.ensures read.1

pub returns-in_err-add-in-Plan : goal.returns-in_err-add-in-Plan
returns-in_err-add-in-Plan c = λ before is l clean.
    absurd (omega (arith, c.in_err-add-in-Plan.ensures.0, room_for_plan c.args.field.now before c.args.draft.now is l c.in-Plan.is c.as_slice-in-Plan.result.now c.as_slice-in-Plan.ensures.value c.as_slice-in-Plan-2.result.now c.as_slice-in-Plan-2.ensures.value c.in_ok-plan-in-Plan.ensures.0 clean))

pub returns-in_ok-add-in-Plan : goal.returns-in_ok-add-in-Plan
returns-in_ok-add-in-Plan c = λ before is l clean.
    let read = c.in_ok-plan-in-Plan.ensures in
    taken_plan c.args.field.now before c.args.draft.now is l c.in-Plan.is c.as_slice-in-Plan.result.now c.as_slice-in-Plan.ensures.value c.as_slice-in-Plan-2.result.now c.as_slice-in-Plan-2.ensures.value read.0 c.in_ok-plan-in-Plan.plan _ c.in_ok-add-in-Plan.ensures read.1
