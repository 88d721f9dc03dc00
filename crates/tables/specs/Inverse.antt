-- Codes and what they stand for are inverse both ways.
use Rattle.std.specs.Prelude.{◌≡◌, ℕ, Bool, true, Some, Option}
use Rattle.tables.specs.declared.place.Place.{Place}
use Rattle.tables.specs.declared.codes.cases.Kind.{Kind}
use Rattle.tables.specs.declared.number.Number.{Number}
use Rattle.tables.specs.declared.statement.Name.{Name}
use Rattle.tables.specs.Families.{family_code}
use Rattle.tables.specs.Limits.{last_name, counted_to}
use Rattle.tables.specs.Numbers.{number_code, numbered}
use Rattle.tables.specs.Codes.{state_code, state_of, join_code, join_of, comparison_code, comparison_of, mark_code, mark_of, kind_code, kind_of, family_of, number_of, name_of, member_code, member_of, place_kind, place_code, place_of, entry_value, entry_in}
use Rattle.tables.specs.Lines.{test_codes, test_of, action_codes, action_of}
use Rattle.tables.specs.Rows.{name_number}
use Rattle.tables.specs.Rules.{place_keeps, member_keeps, entry_keeps, test_keeps, action_keeps}

-- each value that keeps the rules is what its code stands for, and what a code stands for has that code and keeps the rules
abbrev pub Inverse : {X C : Type 0} → (X → C) → (C → Option X) → (X → Bool) → Type 0
Inverse {X} {C} coded stands keeps =
    ((x : X) → keeps x ≡ true → stands (coded x) ≡ Some x)
    × ((c : C) (x : X) → stands c ≡ Some x → (coded x ≡ c) × (keeps x ≡ true))

-- the rule that every value keeps
abbrev pub all_keep : {X : Type 0} → X → Bool
all_keep x = true

-- a name is one of those that a statement may have
abbrev pub name_keeps : Name → Bool
name_keeps n = counted_to last_name n.0

-- what names a place: the kind of its line, and its code among those of that kind
abbrev pub place_codes : Place → Kind × ℕ
place_codes p = (place_kind p, place_code p)

-- the place that a kind and a code name
abbrev pub place_named : Kind × ℕ → Option Place
place_named c = place_of c.0 c.1

-- every conversion between a value and its code, or its codes, is inverse both ways
pub record CodesAreInverse : Type 0 where
  pub states : Inverse state_code state_of all_keep
  pub joins : Inverse join_code join_of all_keep
  pub comparisons : Inverse comparison_code comparison_of all_keep
  pub marks : Inverse mark_code mark_of all_keep
  pub kinds : Inverse kind_code kind_of all_keep
  pub families : Inverse family_code family_of all_keep
  pub names : Inverse name_number name_of name_keeps
  pub members : Inverse member_code member_of member_keeps
  pub places : Inverse place_codes place_named place_keeps
  pub numbers : Inverse number_code number_of numbered
  pub entries : (n : Number) → Inverse entry_value (entry_in n) (entry_keeps n)
  pub tests : Inverse test_codes test_of test_keeps
  pub actions : Inverse action_codes action_of action_keeps
