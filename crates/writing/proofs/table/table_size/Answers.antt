use Rattle.std.proofs.Common.{◌≡◌, length, ap, ◌∙◌, arith}
use Rattle.bounded.specs.Held.{held}
use Rattle.writing.proofs.Wholes.{coded_statements, coded_plans, table_length}
use Rattle.writing.proofs.table.table_size.Goals as goal

pub returns : goal.returns
returns c =
    let t = c.args.table.now in
    let whole = table_length (held t.statements) (held t.plans) in
    let statements : c.fields_size.result ≡ length (coded_statements (held t.statements)) = c.fields_size.ensures.value 2 ∙ ap (λ l. length (coded_statements l)) c.statements.ensures.value in
    let plans : c.fields_size-2.result ≡ length (coded_plans (held t.plans)) = c.fields_size-2.ensures.value 3 ∙ ap (λ l. length (coded_plans l)) c.plans.ensures.value in
    omega arith
