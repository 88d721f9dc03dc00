use Rattle.std.proofs.Common.{map, ap, ◌∙◌, rules}
use Rattle.bounded.specs.Held.{held}
use Rattle.tables.specs.declared.statement.Statement.{Statement}
use Rattle.writing.proofs.Writes.{wrote_same, wrote_whole}
use Rattle.writing.proofs.Wholes.{names_same}
use Rattle.writing.proofs.table.write_order.Goals as goal

pub returns : goal.returns
returns c =
    wrote_whole c.new-output.ensures.empty c.new-output.ensures.room
    (wrote_same (ap (map (λ (s : Statement). s.name.0)) c.statements-statements.ensures.value ∙ names_same (held c.args.table.now.statements)) c.put_names.ensures)
    c.len.ensures
    (search rules)
