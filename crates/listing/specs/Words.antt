-- The words of single values.
use Rattle.std.specs.Prelude.{ℕ, List, codes}
use Rattle.tables.specs.declared.place.State.{State}
use Rattle.tables.specs.declared.place.State.TheVariants.{Off, On}
use Rattle.tables.specs.declared.test.Join.{Join}
use Rattle.tables.specs.declared.test.Join.TheVariants.{First, And, Or}
use Rattle.tables.specs.declared.test.Comparison.{Comparison}
use Rattle.tables.specs.declared.test.Comparison.TheVariants.{Is, IsNot, Greater, Less}
use Rattle.tables.specs.declared.statement.Mark.{Mark}
use Rattle.tables.specs.declared.statement.Mark.TheVariants.{Enabled, Disabled, Planned}

-- a state
abbrev pub state_text : State → List ℕ
state_text Off = codes "OFF"
state_text On = codes "ON"

-- the word before a test
abbrev pub join_text : Join → List ℕ
join_text First = codes "IF"
join_text And = codes "AND"
join_text Or = codes "OR"

-- how a number stands to its entry
abbrev pub comparison_text : Comparison → List ℕ
comparison_text Is = codes "IS"
comparison_text IsNot = codes "!="
comparison_text Greater = codes ">"
comparison_text Less = codes "<"

-- the character of a mark
abbrev pub mark_text : Mark → List ℕ
mark_text Enabled = codes "E"
mark_text Disabled = codes "D"
mark_text Planned = codes "."
