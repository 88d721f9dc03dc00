use Rattle.std.proofs.Common.{length, sym, ap, ◌∙◌}
use Rattle.std.proofs.lemmas.List.{length-map}
use Rattle.bounded.specs.Held.{held}
use Rattle.tables.specs.Rows.{statement_row}
use Rattle.processor.proofs.parts.Processor.statement_count.Goals as goal

pub returns : goal.returns
returns g c = ap length c.statements.ensures.value ∙ sym (length-map (held c.args.self.now.table.statements) statement_row)
