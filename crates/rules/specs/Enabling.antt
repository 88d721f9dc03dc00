-- Which statements are enabled in a scan.
use Rattle.std.specs.Prelude.{ℕ, ◌+◌, Bool, true, false, cond, ◌&&◌, List, [], ◌∷◌, ◌==◌}
use Rattle.tables.specs.declared.statement.Mark.{Mark}
use Rattle.tables.specs.declared.statement.Mark.TheVariants.{Enabled, Disabled, Planned}
use Rattle.tables.specs.Lists.{member, some}
use Rattle.tables.specs.Rows.{StatementRow, PlanRow}
use Rattle.rules.specs.Frames.{Setting}

-- the plan of a number lists a name
abbrev pub plan_lists : List PlanRow → ℕ → ℕ → Bool
plan_lists plans number name = some (λ (p : PlanRow). (p.number == number) && member name p.names) plans

-- mark E is enabled, D is not, and the full stop is where the plan in effect lists the statement
abbrev pub by_mark : Mark → Bool → Bool
by_mark Enabled planned = true
by_mark Disabled planned = false
by_mark Planned planned = planned

-- whether a statement is enabled
unfoldable pub enabled : List PlanRow → Setting → StatementRow → Bool
enabled plans now s = by_mark s.mark (plan_lists plans now.plan s.name)

-- how many of some statements are
abbrev pub enabled_count : List PlanRow → Setting → List StatementRow → ℕ
enabled_count plans now [] = 0
enabled_count plans now (s ∷ more) = cond (enabled plans now s) 1 0 + enabled_count plans now more

-- whether a name is that of an enabled statement; a name that is not in the table is not
abbrev pub name_enabled : List PlanRow → Setting → List StatementRow → ℕ → Bool
name_enabled plans now statements name = some (λ (s : StatementRow). (s.name == name) && enabled plans now s) statements
