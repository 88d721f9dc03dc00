-- When lists of places, and statements, have a place in common.
use Rattle.std.specs.Prelude.{◌⊎◌, List}
use Rattle.tables.specs.declared.place.Place.{Place}
use Rattle.tables.specs.Lists.{Among}
use Rattle.tables.specs.Rows.{StatementRow}
use Rattle.rules.specs.Touching.{Sets, Tests}

-- some place is in both lists
abbrev pub Share : List Place → List Place → Type 0
Share ps qs = (p : Place) × Among p ps × Among p qs

-- a statement sets some place
abbrev pub SetsSome : StatementRow → Type 0
SetsSome s = (p : Place) × Sets s p

-- a statement sets one of some places
abbrev pub SetsOneOf : StatementRow → List Place → Type 0
SetsOneOf s ps = (p : Place) × Sets s p × Among p ps

-- some place is set by both statements
abbrev pub BothSet : StatementRow → StatementRow → Type 0
BothSet a b = (p : Place) × Sets a p × Sets b p

-- the first statement sets a place that the second sets or tests
abbrev pub SetsNamed : (first second : StatementRow) → Type 0
SetsNamed first second = (p : Place) × Sets first p × (Sets second p ⊎ Tests second p)
