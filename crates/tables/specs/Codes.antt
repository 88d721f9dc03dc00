-- The codes of a table document, and what each stands for.
use Rattle.std.specs.Prelude.{ℕ, ◌+◌, ◌*◌, ◌/◌, ◌%◌, cond, ◌&&◌, List, [], ◌∷◌, Some, None, Option, nat_le, nat_lt}
use Rattle.tables.specs.declared.place.State.{State}
use Rattle.tables.specs.declared.place.State.TheVariants.{Off, On}
use Rattle.tables.specs.declared.place.Place.{Place}
use Rattle.tables.specs.declared.place.Place.TheVariants.{InputCell, OutputCell, Flag}
use Rattle.tables.specs.declared.test.Join.{Join}
use Rattle.tables.specs.declared.test.Join.TheVariants.{First, And, Or}
use Rattle.tables.specs.declared.test.Comparison.{Comparison}
use Rattle.tables.specs.declared.test.Comparison.TheVariants.{Is, IsNot, Greater, Less}
use Rattle.tables.specs.declared.statement.Mark.{Mark}
use Rattle.tables.specs.declared.statement.Mark.TheVariants.{Enabled, Disabled, Planned}
use Rattle.tables.specs.declared.statement.Name.{Name}
use Rattle.tables.specs.declared.codes.cases.Kind.{Kind}
use Rattle.tables.specs.declared.codes.cases.Kind.TheVariants.{Cib, Cob, LogicFlag, FamilyMember, LogicStatement, FrameNumber, DelayFor}
use Rattle.tables.specs.declared.family.Family.{Family}
use Rattle.tables.specs.declared.family.Member.{Member}
use Rattle.tables.specs.declared.number.Number.{Number}
use Rattle.tables.specs.declared.number.Entry.{Entry}
use Rattle.tables.specs.declared.number.Entry.TheVariants.{Timed, Plain}
use Rattle.tables.specs.Decoded.{decoded}
use Rattle.tables.specs.Families.{families, family_code, may_name}
use Rattle.tables.specs.Limits.{input_cells, output_cells, last_flag, last_name, counted_to}
use Rattle.tables.specs.Lists.{only, then}
use Rattle.tables.specs.Numbers.{numbers, number_code, entry_range, in_seconds}

-- OFF is 0, ON is 1
abbrev pub state_code : State → ℕ
state_code Off = 0
state_code On = 1

-- both states
abbrev pub states : List State
states = Off ∷ On ∷ []

-- the state of a code
abbrev pub state_of : ℕ → Option State
state_of code = decoded state_code states code

-- the first test of a statement has join 0; AND is 1, OR is 2
abbrev pub join_code : Join → ℕ
join_code First = 0
join_code And = 1
join_code Or = 2

-- all joins
abbrev pub joins : List Join
joins = First ∷ And ∷ Or ∷ []

-- the join of a code
abbrev pub join_of : ℕ → Option Join
join_of code = decoded join_code joins code

-- IS, !=, > and <
abbrev pub comparison_code : Comparison → ℕ
comparison_code Is = 0
comparison_code IsNot = 1
comparison_code Greater = 2
comparison_code Less = 3

-- all comparisons
abbrev pub comparisons : List Comparison
comparisons = Is ∷ IsNot ∷ Greater ∷ Less ∷ []

-- the comparison of a code
abbrev pub comparison_of : ℕ → Option Comparison
comparison_of code = decoded comparison_code comparisons code

-- a mark is the ASCII byte of E, D or the full stop
abbrev pub mark_code : Mark → ℕ
mark_code Enabled = 69
mark_code Disabled = 68
mark_code Planned = 46

-- all marks
abbrev pub marks : List Mark
marks = Enabled ∷ Disabled ∷ Planned ∷ []

-- the mark of a byte
abbrev pub mark_of : ℕ → Option Mark
mark_of code = decoded mark_code marks code

-- what a line is about
abbrev pub kind_code : Kind → ℕ
kind_code Cib = 1
kind_code Cob = 2
kind_code LogicFlag = 3
kind_code FamilyMember = 4
kind_code LogicStatement = 5
kind_code FrameNumber = 6
kind_code DelayFor = 7

-- all kinds
abbrev pub kinds : List Kind
kinds = Cib ∷ Cob ∷ LogicFlag ∷ FamilyMember ∷ LogicStatement ∷ FrameNumber ∷ DelayFor ∷ []

-- the kind of a code
abbrev pub kind_of : ℕ → Option Kind
kind_of code = decoded kind_code kinds code

-- the family of a code
abbrev pub family_of : ℕ → Option Family
family_of code = decoded family_code families code

-- the number of a code
unfoldable pub number_of : ℕ → Option Number
number_of code = decoded number_code numbers code

-- the name of a code
abbrev pub name_of : ℕ → Option Name
name_of code = only (counted_to last_name code) (Some (record { 0 = code }))

-- a member's code: the family's in the high byte, the member's number in the low one
abbrev pub member_code : Member → ℕ
member_code m = 256 * family_code m.family + m.number

-- the member of a code
abbrev pub member_of : ℕ → Option Member
member_of code = then (family_of (code / 256)) (λ family. only (may_name family (code % 256)) (Some (record { family = family; number = code % 256 })))

-- what kind of line names a place
abbrev pub place_kind : Place → Kind
place_kind (InputCell code) = Cib
place_kind (OutputCell code) = Cob
place_kind (Flag number) = LogicFlag

-- a place's code among those of its kind
abbrev pub place_code : Place → ℕ
place_code (InputCell code) = code
place_code (OutputCell code) = code
place_code (Flag number) = number

-- the place of a kind and a code
abbrev pub place_of : Kind → ℕ → Option Place
place_of Cib code = only (nat_lt code input_cells) (Some (InputCell code))
place_of Cob code = only (nat_lt code output_cells) (Some (OutputCell code))
place_of LogicFlag code = only (counted_to last_flag code) (Some (Flag code))
place_of FamilyMember code = None
place_of LogicStatement code = None
place_of FrameNumber code = None
place_of DelayFor code = None

-- an entry's value
abbrev pub entry_value : Entry → ℕ
entry_value (Timed seconds) = seconds.0
entry_value (Plain value) = value

-- the entry of a value for a number that allows it: seconds for a ring timer, a plain value for any other
abbrev pub entry_in : Number → ℕ → Option Entry
entry_in number value = only (nat_le (entry_range number).least value && nat_le value (entry_range number).greatest)
    (Some (cond (in_seconds number) (Timed (record { 0 = value })) (Plain value)))
