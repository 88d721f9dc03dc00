use Rattle.std.proofs.Common.{◌≤◌, map, length, sym, ap, ◌∙◌, arith}
use Rattle.std.proofs.lemmas.List.{length-map}
use Rattle.std.proofs.lemmas.Bool.{ltb-true, ltb-false}
use Rattle.bounded.specs.Held.{held}
use Rattle.tables.specs.Rows.{statement_row, plan_row, with_row_mark}
use Rattle.tables.specs.Rules.{table_keeps}
use Rattle.tables.proofs.Marking.{marked_past, marked_from, marked_keeps}
use Rattle.tables.proofs.table.Table.set_mark.Goals as goal

pub invariant_of-self : goal.invariant_of-self
invariant_of-self c =
    let t = c.args.self.now in
    let found = c.in-Some.ensures.lookup in
    let marked = marked_from (held t.statements) c.as_slice.result.now (held c.replace.new.self) c.args.at c.args.mark c.in-Some.statement.now _ c.as_slice.ensures.value c.replace.ensures (ltb-true _ _ (sym found.0)) (ap (λ s. with_row_mark c.args.mark (statement_row s)) found.1) in
    record {
      keeps =
          ap (λ xs. table_keeps (record { statements = xs; plans = map plan_row (held t.plans) })) marked
          ∙ marked_keeps c.args.mark c.args.at (map statement_row (held t.statements)) (map plan_row (held t.plans))
          ∙ t.keeps;
    }

pub returns-in-Some-clause-statements : goal.returns-in-Some-clause-statements
returns-in-Some-clause-statements c =
    let t = c.args.self.now in
    let found = c.in-Some.ensures.lookup in
    marked_from (held t.statements) c.as_slice.result.now (held c.replace.new.self) c.args.at c.args.mark c.in-Some.statement.now _ c.as_slice.ensures.value c.replace.ensures (ltb-true _ _ (sym found.0)) (ap (λ s. with_row_mark c.args.mark (statement_row s)) found.1)

pub returns-in_default-clause-statements : goal.returns-in_default-clause-statements
returns-in_default-clause-statements c =
    let rows = map statement_row (held c.args.self.now.statements) in
    let read : length c.as_slice.result.now ≤ c.args.at = ltb-false _ _ (sym c.in_default.ensures.lookup.0) in
    let past : length rows ≤ c.args.at = omega (arith, length-map (held c.args.self.now.statements) statement_row, ap length c.as_slice.ensures.value) in
    sym (marked_past c.args.at c.args.mark rows past)
