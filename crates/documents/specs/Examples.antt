-- Documents and what reading them answers.
use Rattle.std.specs.Prelude.{◌≡◌, ℕ, List, [], ◌∷◌, Ok, Err}
use Rattle.tables.specs.declared.place.State.TheVariants.{On}
use Rattle.tables.specs.declared.place.Place.TheVariants.{OutputCell}
use Rattle.tables.specs.declared.family.Family.TheVariants.{PhaseGreen}
use Rattle.tables.specs.declared.statement.Mark.TheVariants.{Enabled}
use Rattle.tables.specs.declared.test.Join.TheVariants.{First}
use Rattle.tables.specs.declared.test.Test.TheVariants.{MemberIs}
use Rattle.tables.specs.declared.action.Action.TheVariants.{SetPlace}
use Rattle.tables.specs.Refusals.{refused_at}
use Rattle.tables.specs.Rows.{TableRows}
use Rattle.documents.specs.Documents.{reading}

-- a document of one statement, 7: IF the green of phase 2 is ON THEN output cell 160 ON; with a mark byte, and the last byte or none
abbrev pub one_statement : (mark : ℕ) → List ℕ → List ℕ
one_statement mark end =
    0x01 ∷ 0x00 ∷ 0x01 ∷ 0x01
    ∷ 0x02 ∷ 0x00 ∷ 0x19
    ∷ 0x10 ∷ 0x00 ∷ 0x01 ∷ 0x07
    ∷ 0x11 ∷ 0x00 ∷ 0x01 ∷ mark
    ∷ 0x12 ∷ 0x00 ∷ 0x07 ∷ 0x00 ∷ 0x04 ∷ 0x01 ∷ 0x02 ∷ 0x01 ∷ 0x00 ∷ 0x00
    ∷ 0x13 ∷ 0x00 ∷ 0x04 ∷ 0x02 ∷ 0x00 ∷ 0xA0 ∷ end

-- its table
abbrev pub its_table : TableRows
its_table = record {
  statements = record {
    name = 7;
    mark = Enabled;
    tests = record { join = First; test = MemberIs (record { family = PhaseGreen; number = 2 }) On } ∷ [];
    thens = SetPlace (OutputCell 160) On ∷ [];
    elses = [];
  } ∷ [];
  plans = [];
}

pub record DocumentsAreReadAsWritten : Type 0 where
  -- no bytes at all
  pub empty : reading [] ≡ Err (refused_at 2 0)
  -- the document, with mark E
  pub whole : reading (one_statement 0x45 (0x01 ∷ [])) ≡ Ok its_table
  -- without its last byte
  pub truncated : reading (one_statement 0x45 []) ≡ Err (refused_at 1 4)
  -- with another mark
  pub marked : reading (one_statement 0x58 (0x01 ∷ [])) ≡ Err (refused_at 4 11)
