-- What the console program reads and prints.
use Rattle.std.specs.Prelude.{ℕ, List, [], ◌∷◌, ◌++◌, Some, None, Ok, Err, codes, decimal, Option, Result}
use Rattle.tables.specs.declared.refusal.Refusal.{Refusal}
use Rattle.tables.specs.Refusals.{Told, told, place_told}
use Rattle.tables.specs.Rows.{TableRows}
use Rattle.documents.specs.Fields.{wide}
use Rattle.console.specs.declared.load.LoadLine.{LoadLine}

-- the length that the bytes in front of a document give: two bytes, the high one first; a cut length counts as 0
abbrev pub length_in : List ℕ → ℕ
length_in [] = 0
length_in (high ∷ []) = 0
length_in (high ∷ low ∷ rest) = wide high low

-- a place, or 0 where there is none
abbrev pub or_zero : Option ℕ → ℕ
or_zero None = 0
or_zero (Some place) = place

-- a line: a number and a place
pub record Line : Type 0 where
  pub number : ℕ
  pub place : ℕ

-- the line of an accepted document
abbrev pub accepted : Line
accepted = record { number = 0; place = 0 }

-- the line of a refusal
abbrev pub refused : Told → Line
refused t = record { number = t.number; place = or_zero (place_told t) }

-- the line of what reading a document gives
abbrev pub loaded : Result TableRows Told → Line
loaded (Ok rows) = accepted
loaded (Err t) = refused t

-- the line of a refusal, if there is one
abbrev pub line_if : Option Refusal → Line
line_if None = accepted
line_if (Some refusal) = refused (told refusal)

-- the line that a value stands for
abbrev pub line_of : LoadLine → Line
line_of l = line_if l.refusal

-- the line's text: L, the number and the place
abbrev pub load_text : Line → List ℕ
load_text l = codes "L " ++ (decimal l.number ++ (codes " " ++ decimal l.place))
