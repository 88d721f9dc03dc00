-- When a statement's tests hold.
use Rattle.std.specs.Prelude.{◌≡◌, ℕ, ◌*◌, Bool, false, not, ◌&&◌, ◌||◌, List, [], ◌∷◌, ◌++◌, ◌==◌, nat_lt}
use Rattle.tables.specs.declared.place.State.{State}
use Rattle.tables.specs.declared.place.State.TheVariants.{Off, On}
use Rattle.tables.specs.declared.place.Place.{Place}
use Rattle.tables.specs.declared.number.Number.{Number}
use Rattle.tables.specs.declared.number.Entry.{Entry}
use Rattle.tables.specs.declared.number.Entry.TheVariants.{Timed, Plain}
use Rattle.tables.specs.declared.test.Join.{Join}
use Rattle.tables.specs.declared.test.Join.TheVariants.{First, And, Or}
use Rattle.tables.specs.declared.test.Comparison.{Comparison}
use Rattle.tables.specs.declared.test.Comparison.TheVariants.{Is, IsNot, Greater, Less}
use Rattle.tables.specs.declared.test.Test.{Test}
use Rattle.tables.specs.declared.test.Test.TheVariants.{PlaceIs, MemberIs, StatementIs, NumberIs}
use Rattle.tables.specs.declared.test.JoinedTest.{JoinedTest}
use Rattle.tables.specs.Families.{cells_named}
use Rattle.tables.specs.Lists.{some}
use Rattle.tables.specs.Rows.{TableRows}
use Rattle.rules.specs.Frames.{number_shown, setting}
use Rattle.rules.specs.Memory.{Places, place_on}
use Rattle.rules.specs.Enabling.{name_enabled}

-- What tests can see: which places are ON, the frame's numbers, and which names are enabled.
pub record View : Type 0 where
  pub place : Place → Bool
  pub number : Number → ℕ
  pub enables : ℕ → Bool

-- what they see of a frame, of the names that are enabled, and of places as they stand
abbrev pub seen : List ℕ → (ℕ → Bool) → Places → View
seen frame enables ps = record { place = place_on ps; number = number_shown frame; enables = enables }

-- what they see in a scan of a table
abbrev pub view : TableRows → List ℕ → Places → View
view t frame ps = seen frame (name_enabled t.plans (setting frame) t.statements) ps

-- what is ON, or not, is in a state
abbrev pub in_state : State → Bool → Bool
in_state On on = on
in_state Off on = not on

-- what an entry is compared as: the seconds of a ring timer in tenths, any other entry as it is
abbrev pub compared_as : Entry → ℕ
compared_as (Timed seconds) = 10 * seconds.0
compared_as (Plain value) = value

-- IS, !=, > and <, of a frame's number and an entry
abbrev pub compares : Comparison → ℕ → ℕ → Bool
compares Is number entry = number == entry
compares IsNot number entry = not (number == entry)
compares Greater number entry = nat_lt entry number
compares Less number entry = nat_lt number entry

-- what one test answers; a whole family is ON when some member is
unfoldable pub truth : View → Test → Bool
truth v (PlaceIs place state) = in_state state (v.place place)
truth v (MemberIs member state) = in_state state (some v.place (cells_named member.family member.number))
truth v (StatementIs name state) = in_state state (v.enables name.0)
truth v (NumberIs number comparison entry) = compares comparison (v.number number) (compared_as entry)

-- a test joined to what those above it gave
abbrev pub joined : Join → (above here : Bool) → Bool
joined First above here = here
joined And above here = above && here
joined Or above here = above || here

-- the tests below, joined to what those above gave
abbrev pub joined_below : View → (above : Bool) → List JoinedTest → Bool
joined_below v above [] = above
joined_below v above (t ∷ more) = joined_below v (joined t.join above (truth v t.test)) more

-- all of them, joined from the top: A OR B AND C is (A OR B) AND C
unfoldable pub holds : View → List JoinedTest → Bool
holds v tests = joined_below v false tests

-- In plain words: each test is joined to what all tests above it gave together, and the first is not joined.
pub record JoinedFromTheTop : Type 0 where
  pub first : (v : View) (t : JoinedTest) → t.join ≡ First → holds v (t ∷ []) ≡ truth v t.test
  pub next : (v : View) (above : List JoinedTest) (t : JoinedTest)
      → holds v (above ++ t ∷ []) ≡ joined t.join (holds v above) (truth v t.test)
