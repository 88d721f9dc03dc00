use Rattle.std.proofs.Common.{length, ap, arith}
use Rattle.tables.specs.Rows.{statement_row}
use Rattle.writing.specs.Bytes.{tests_bytes, actions_bytes}
use Rattle.writing.proofs.Sizes.{mark_field, body_size}
use Rattle.writing.proofs.Writes.{wrote_more, wrote_same}
use Rattle.writing.proofs.statement.StatementBody.put_body.Goals as goal

pub put_fields-requires-3 : goal.put_fields-requires-3
put_fields-requires-3 c =
    let mark = mark_field c.args.self.now.mark _ c.spelled.ensures c.as_slice.ensures in
    omega (
      arith,
      body_size (statement_row c.args.self.now),
      ap length mark,
      ap (λ ts. length (tests_bytes ts)) c.as_slice-2.ensures.value,
      ap (λ l. length (actions_bytes 19 l)) c.as_slice-3.ensures.value,
    )

pub put_fields-requires-4 : goal.put_fields-requires-4
put_fields-requires-4 c =
    let mark = mark_field c.args.self.now.mark _ c.spelled.ensures c.as_slice.ensures in
    omega (
      arith,
      body_size (statement_row c.args.self.now),
      ap length mark,
      ap (λ ts. length (tests_bytes ts)) c.as_slice-2.ensures.value,
      ap (λ l. length (actions_bytes 19 l)) c.as_slice-3.ensures.value,
      ap (λ l. length (actions_bytes 20 l)) c.as_slice-4.ensures.value,
    )

pub returns : goal.returns
returns c =
    let mark = mark_field c.args.self.now.mark _ c.spelled.ensures c.as_slice.ensures in
    wrote_more c.put_field.ensures (
    wrote_more (wrote_same mark c.put_fields.ensures) (
    wrote_more (wrote_same (ap tests_bytes c.as_slice-2.ensures.value) c.put_fields-2.ensures) (
    wrote_more (wrote_same (ap (actions_bytes 19) c.as_slice-3.ensures.value) c.put_fields-3.ensures)
    (wrote_same (ap (actions_bytes 20) c.as_slice-4.ensures.value) c.put_fields-4.ensures))))
