use Rattle.std.proofs.Common.{◌≡◌, ℕ, ◌+◌, ◌||◌, map, get_or, sym, ap, ◌∙◌, subst, arith}
use Rattle.std.proofs.Math.Bool.{or-false}
use Rattle.std.proofs.lemmas.List.{at_drop_all}
use Rattle.tables.specs.Contents.{rows_of}
use Rattle.tables.specs.Lists.{every}
use Rattle.tables.specs.Rows.{statement_row, plan_row}
use Rattle.tables.specs.Rules.{statement_keeps}
use Rattle.rules.specs.Frames.{Setting, setting}
use Rattle.rules.specs.Enabling.{enabled_count, name_enabled}
use Rattle.rules.proofs.Names.{well_named}
use Rattle.scanning.specs.EnabledNames.{is_there}
use Rattle.scanning.proofs.Loops.{no_statement, among_at}
use Rattle.scanning.proofs.EnabledOnes.{FoundAbove, one_found, none_found, keeps_among, name_kept, own_name_enabled}
use Rattle.scanning.proofs.enabling.enabled_names.Goals as goal
use Rattle.scanning.proofs.enabling.enabled_names.Goals.{then-is_enabled, else-is_enabled}

pub loop-statement-init : goal.loop-statement-init
loop-statement-init c =
    let plans = map plan_row c.plans-plans.result.now in
    let now : Setting = record { plan = c.number-plan.result } in
    let xs = c.statements-statement-items.result.now in
    let none = c.none-names.ensures in
    record {
      few = omega (arith, none.count);
      count = omega (arith, none.count);
      named = λ n. ap (λ b. b || name_enabled plans now (map statement_row xs) n) (none.names n);
    }

pub add-requires : goal.add-requires
add-requires c =
    let t = c.args.table.now in
    let read = c.statements-statement-items in
    let xs = read.result.now in
    let i = c.loop-statement.statement-index in
    let within = c.loop-statement-test.true in
    let s = statement_row (get_or xs i no_statement) in
    let keep = ap (λ ys. every statement_keeps (map statement_row ys)) read.ensures.value ∙ (well_named (rows_of t) t.keeps).keep in
    record {
      named = name_kept s (keeps_among (map statement_row xs) s keep (among_at statement_row xs i no_statement within));
      room = omega (arith, c.loop-statement.invariant.few, read.ensures.bound, within);
    }

pub loop-statement-preserved : goal.loop-statement-preserved
loop-statement-preserved c =
    let plans = map plan_row c.plans-plans.result.now in
    let now : Setting = record { plan = c.number-plan.result } in
    let xs = c.statements-statement-items.result.now in
    let i = c.loop-statement.statement-index in
    let within = c.loop-statement-test.true in
    let found = c.loop-statement.invariant in
    elim c.if-is_enabled.branch [
      | then-is_enabled w ↦
          subst (FoundAbove plans now xs (i + 1)) (sym w.names-is)
          (one_found plans now xs i within c.loop-statement.names w.add.new.self found (sym w.if-is_enabled.ensures) w.add.ensures.count w.add.ensures.names)
      | else-is_enabled w ↦
          subst (FoundAbove plans now xs (i + 1)) (sym w.names-is)
          (none_found plans now xs i within c.loop-statement.names found (sym w.if-is_enabled.ensures))
    ]

pub returns : goal.returns
unfolding setting
returns c =
    let t = c.args.table.now in
    let rows = rows_of t in
    let xs = c.statements-statement-items.result.now in
    let i = c.loop-statement.statement-index in
    let names = c.loop-statement.names in
    let found = c.loop-statement.invariant in
    let past = c.loop-statement-test.false in
    let plans = map plan_row c.plans-plans.result.now in
    let now : Setting = record { plan = c.number-plan.result } in
    let same_xs = c.statements-statement-items.ensures.value in
    let same_plans = c.plans-plans.ensures.value in
    let same_plan = c.number-plan.ensures in
    let none_left = at_drop_all (λ ys. enabled_count plans now (map statement_row ys)) xs i past in
    let named = λ (n : ℕ).
    sym (or-false (is_there names n))
    ∙ sym (ap (λ b. is_there names n || b) (at_drop_all (λ ys. name_enabled plans now (map statement_row ys) n) xs i past))
    ∙ found.named n
    ∙ (λ k. name_enabled (map plan_row (same_plans k)) (record { plan = same_plan k }) (map statement_row (same_xs k)) n) in
    let all : names.count ≡ enabled_count plans now (map statement_row xs) = omega (arith, none_left, found.count) in
    record {
      count = all ∙ (λ k. enabled_count (map plan_row (same_plans k)) (record { plan = same_plan k }) (map statement_row (same_xs k)));
      named = named;
      own = λ s m. named s.name ∙ own_name_enabled rows.plans (setting c.args.frame.now) rows.statements s (well_named rows t.keeps).own m;
    }
