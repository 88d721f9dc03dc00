-- Loops over the items of a slice.
use Rattle.std.proofs.Common.{ℕ, zero, suc, ◌<◌, List, [], ◌∷◌, map, length, get_or, refl, inl, inr, arith}
use Rattle.tables.specs.declared.statement.Mark.TheVariants.{Enabled}
use Rattle.tables.specs.declared.statement.Statement.{Statement}
use Rattle.tables.specs.Lists.{Among}

-- what stands past the end of a slice of statements, to a proof
abbrev pub no_statement : Statement
no_statement = record {
  name = record { 0 = 0 };
  mark = Enabled;
  tests = record { items = []; len = 0 };
  then_actions = record { items = []; len = 0 };
  else_actions = record { items = []; len = 0 };
}

-- what is read is an element
pub among_at : {X Y : Type 0} (h : X → Y) (xs : List X) (i : ℕ) (d : X) → i < length xs → Among (h (get_or xs i d)) (map h xs)
among_at h [] i d k = absurd (omega arith)
among_at h (x ∷ xs) zero d k = inl refl
among_at h (x ∷ xs) (suc i) d k = inr (among_at h xs i d (omega arith))
