-- What each refusal returns: its number and its values.
use Rattle.std.specs.Prelude.{ℕ, Some, None, Option}
use Rattle.tables.specs.declared.refusal.Refusal.{Refusal}
use Rattle.tables.specs.declared.refusal.Refusal.TheVariants.{Truncated, NotDue, TooMany, OutOfRange, Conflicting, DelaysTooLong, NotAFrame, NoSuchStatement, UnknownMark, NotTheNames, TouchingPair, BufferTooShort}

-- the values beside a refusal's number
pub data Values : Type 0 where
  -- the first byte of the field at fault, counted from 0
  at_place : ℕ → Values
  -- two names, the earlier and the later as they now stand
  of_names : (earlier later : ℕ) → Values
  -- the bytes that a buffer would need
  of_bytes : ℕ → Values
  no_values : Values

-- a refusal as its caller knows it
pub record Told : Type 0 where
  pub number : ℕ
  pub values : Values

-- a refusal that names a place
abbrev pub refused_at : (number place : ℕ) → Told
refused_at number place = record { number = number; values = at_place place }

-- a refusal with no values
abbrev pub refused : ℕ → Told
refused number = record { number = number; values = no_values }

-- each case's number and values
abbrev pub told : Refusal → Told
told (Truncated place) = refused_at 1 place
told (NotDue place) = refused_at 2 place
told (TooMany place) = refused_at 3 place
told (OutOfRange place) = refused_at 4 place
told (Conflicting place) = refused_at 5 place
told (DelaysTooLong place) = refused_at 6 place
told NotAFrame = refused 7
told NoSuchStatement = refused 8
told UnknownMark = refused 9
told NotTheNames = refused 10
told (TouchingPair earlier later) = record { number = 11; values = of_names earlier.0 later.0 }
told (BufferTooShort needed) = record { number = 12; values = of_bytes needed }

-- the place among a refusal's values
abbrev pub place_in : Values → Option ℕ
place_in (at_place place) = Some place
place_in (of_names earlier later) = None
place_in (of_bytes needed) = None
place_in no_values = None

-- the place that a refusal names
abbrev pub place_told : Told → Option ℕ
place_told t = place_in t.values
