use Rattle.std.proofs.Common.{◌≡◌, false, length, ap, ◌∙◌, arith}
use Rattle.bounded.specs.Held.{held}
use Rattle.tables.specs.Limits.{max_tests, max_actions}
use Rattle.tables.specs.Rows.{statement_row}
use Rattle.writing.specs.Bytes.{tests_bytes, actions_bytes}
use Rattle.writing.proofs.Sizes.{body_size}
use Rattle.writing.proofs.Lengths.{statement_at_most}
use Rattle.writing.proofs.statement.StatementBody.size.Goals as goal

pub returns : goal.returns
returns c =
    let s = c.args.self.now in
    let marks = c.mark_size-marks.ensures.value in
    let tests : c.fields_size-tests.result ≡ length (tests_bytes (held s.tests)) = c.fields_size-tests.ensures.value 18 ∙ ap (λ ts. length (tests_bytes ts)) c.as_slice.ensures.value in
    let thens : c.fields_size-thens.result ≡ length (actions_bytes 19 (held s.then_actions)) = c.fields_size-thens.ensures.value 19 ∙ ap (λ l. length (actions_bytes 19 l)) c.as_slice-2.ensures.value in
    let elses : c.fields_size-elses.result ≡ length (actions_bytes 20 (held s.else_actions)) = c.fields_size-elses.ensures.value 20 ∙ ap (λ l. length (actions_bytes 20 l)) c.as_slice-3.ensures.value in
    record {
      value = omega (arith, body_size (statement_row s));
      bound = omega (
        arith,
        statement_at_most false (statement_row s) max_tests max_actions
            (omega (arith, ap length c.as_slice.ensures.value, c.as_slice.ensures.bound))
            (omega (arith, ap length c.as_slice-2.ensures.value, c.as_slice-2.ensures.bound))
            (omega (arith, ap length c.as_slice-3.ensures.value, c.as_slice-3.ensures.bound)),
        body_size (statement_row s),
      );
    }
