-- When two processors differ after a step, and which step is the first.
use Rattle.std.specs.Prelude.{◌≡◌, ℕ, List, [], ◌∷◌, ◌++◌, length, Some, None, Option, ◌≢◌}
use Rattle.rules.specs.Reordering.{Answer}
use Rattle.rules.specs.Calls.{ProcessorState}
use Rattle.rules.specs.Runs.{Moment, last_frame, last_of}
use Rattle.rules.specs.RunsAlike.{cells_of, flags_of, waits_of, OwnOrOne}
use Rattle.compare.specs.declared.kind.Kind.{Kind}
use Rattle.compare.specs.declared.kind.Kind.TheVariants.{Answer as AnswerKind, Flag, WaitRecord, Cell}
use Rattle.compare.specs.declared.kind.Difference.{Difference}

-- every cell is its own run's last accepted frame's in both, or one in both; before any accepted frame it is one
abbrev pub CellsAlike : Option (List ℕ) → Option (List ℕ) → ProcessorState → ProcessorState → Type 0
CellsAlike f g a b = (i : ℕ) → OwnOrOne f g (cells_of a) (cells_of b) i

-- What is found after a step, by its answers, the states after it and the frames accepted last: nothing where all is alike, else
-- the first that is not, of answers, flags, wait records and cells.
abbrev pub FoundAfter : Option (List ℕ) → Option (List ℕ) → (r s : Answer) → (a b : ProcessorState) → Option Kind → Type 0
FoundAfter f g r s a b None = (r ≡ s) × (flags_of a ≡ flags_of b) × (waits_of a ≡ waits_of b) × CellsAlike f g a b
FoundAfter f g r s a b (Some AnswerKind) = r ≡ s → ⊥
FoundAfter f g r s a b (Some Flag) = (r ≡ s) × (flags_of a ≢ flags_of b)
FoundAfter f g r s a b (Some WaitRecord) = (r ≡ s) × (flags_of a ≡ flags_of b) × (waits_of a ≢ waits_of b)
FoundAfter f g r s a b (Some Cell) = (r ≡ s) × (flags_of a ≡ flags_of b) × (waits_of a ≡ waits_of b) × (CellsAlike f g a b → ⊥)

-- what is found after a step of two runs, where f and g are the frames accepted last
abbrev pub FoundAt : Option (List ℕ) → Option (List ℕ) → (m n : Moment) → Option Kind → Type 0
FoundAt f g m n kind = FoundAfter f g m.answer n.answer m.after n.after kind

-- nothing is found after any step
abbrev pub NothingFound : Option (List ℕ) → Option (List ℕ) → List Moment → List Moment → Type 0
NothingFound f g [] [] = Unit {0}
NothingFound f g [] (n ∷ ns) = ⊥
NothingFound f g (m ∷ ms) [] = ⊥
NothingFound f g (m ∷ ms) (n ∷ ns) =
    FoundAt (last_frame f m.call) (last_frame g n.call) m n None
    × NothingFound (last_frame f m.call) (last_frame g n.call) ms ns

-- A difference is the first of two runs: nothing is found after the steps before it, and that kind after it.
pub record FirstOf (ms ns : List Moment) (d : Difference) : Type 0 where
  pub before : List Moment
  pub before_too : List Moment
  pub at : Moment
  pub at_too : Moment
  pub after : List Moment
  pub after_too : List Moment
  pub all : ms ≡ before ++ at ∷ after
  pub all_too : ns ≡ before_too ++ at_too ∷ after_too
  pub step : length before ≡ d.step
  pub nothing : NothingFound None None before before_too
  pub found : FoundAt (last_frame (last_of None before) at.call) (last_frame (last_of None before_too) at_too.call) at at_too (Some d.kind)

-- what a comparison of two runs finds: the first difference, or none where there is none
abbrev pub FirstDifference : (ms ns : List Moment) → Option Difference → Type 0
FirstDifference ms ns None = NothingFound None None ms ns
FirstDifference ms ns (Some d) = FirstOf ms ns d
