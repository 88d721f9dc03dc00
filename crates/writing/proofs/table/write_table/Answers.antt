use Rattle.std.proofs.Common.{[], length, take, sym, ap, ◌∙◌, rules, arith}
use Rattle.std.proofs.lemmas.List.{take_at}
use Rattle.bounded.specs.Held.{held}
use Rattle.tables.specs.Contents.{rows_of}
use Rattle.documents.specs.Documents.{reading}
use Rattle.writing.specs.Bytes.{table_bytes}
use Rattle.writing.proofs.ReadBack.{written_tables_are_read_back}
use Rattle.writing.proofs.Writes.{wrote_more, wrote_same, wrote_whole}
use Rattle.writing.proofs.Wholes.{coded_statements, coded_plans, table_parts, table_length}
use Rattle.writing.proofs.table.write_table.Goals as goal

pub put_fields-requires : goal.put_fields-requires
put_fields-requires c =
    let t = c.args.table.now in
    omega (arith, table_length (held t.statements) (held t.plans), ap length c.new-output.ensures.room, ap (λ l. length (coded_statements l)) c.statements.ensures.value)

pub put_fields-requires-2 : goal.put_fields-requires-2
put_fields-requires-2 c =
    let t = c.args.table.now in
    omega (
      arith,
      table_length (held t.statements) (held t.plans),
      ap length c.new-output.ensures.room,
      ap (λ l. length (coded_statements l)) c.statements.ensures.value,
      ap (λ l. length (coded_plans l)) c.plans.ensures.value,
    )

pub returns : goal.returns
returns c =
    let t = c.args.table.now in
    let all = wrote_whole c.new-output.ensures.empty c.new-output.ensures.room
    (wrote_same (table_parts (held t.statements) (held t.plans)) (
    wrote_more c.put_field.ensures (
    wrote_more (wrote_same (ap coded_statements c.statements.ensures.value) c.put_fields.ensures)
    (wrote_same (ap coded_plans c.plans.ensures.value) c.put_fields-2.ensures))))
    c.len.ensures
    (search rules) in
    record {
      written = all;
      read_back = ap (λ l. reading (take c.len.result l)) all.1 ∙ ap reading (take_at (table_bytes (rows_of t)) _ c.len.result (sym all.0)) ∙ written_tables_are_read_back (rows_of t) [] t.keeps;
    }
