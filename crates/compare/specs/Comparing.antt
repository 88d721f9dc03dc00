-- What a comparison of two processors does and answers.
use Rattle.std.specs.Prelude.{◌≡◌, ℕ, false, List, map, None, Ok, Err, Option, Result, slice_index_or}
use Rattle.tables.specs.Refusals.{told}
use Rattle.tables.specs.Rows.{TableRows}
use Rattle.documents.specs.Documents.{reading}
use Rattle.rules.specs.Rearranging.{Rearrangement}
use Rattle.rules.specs.Reordering.{Answer}
use Rattle.rules.specs.Calls.{ProcessorState, fresh, Rule}
use Rattle.rules.specs.Runs.{Moment, calls, Run, end_of, CallsAlike, last_frame, last_of}
use Rattle.rules.specs.RunsAlike.{cells_of, flags_of, waits_of, ShownAlike, OwnOrOne, AgreeAlong}
use Rattle.compare.specs.declared.kind.Kind.{Kind}
use Rattle.compare.specs.declared.kind.Difference.{Difference}
use Rattle.compare.specs.declared.bench.RefusedDocument.{RefusedDocument}
use Rattle.compare.specs.declared.bench.RefusedDocument.TheVariants.{First, Second}
use Rattle.compare.specs.Steps.{Step, first_call, second_call}
use Rattle.compare.specs.Differences.{FoundAfter, FirstDifference}

-- One step in both: each call keeps its rule, f' and g' are the frames accepted last after it, and what is found is what differs.
pub record Stepped (f g : Option (List ℕ)) (step : Step) (a b a' b' : ProcessorState) (f' g' : Option (List ℕ)) (kind : Option Kind) : Type 0 where
  pub answer : Answer
  pub answer_too : Answer
  pub rule : Rule (first_call step) a answer a'
  pub rule_too : Rule (second_call step) b answer_too b'
  pub frame : f' ≡ last_frame f (first_call step)
  pub frame_too : g' ≡ last_frame g (second_call step)
  pub found : FoundAfter f' g' answer answer_too a' b' kind

-- Two states of runs of rearranged tables, where f and g are the frames accepted last.
pub record AlikeStates (f g : Option (List ℕ)) (a b : ProcessorState) : Type 0 where
  pub flags : flags_of a ≡ flags_of b
  pub waits : waits_of a ≡ waits_of b
  pub cells : (i : ℕ) → ShownAlike f g i → slice_index_or (cells_of a) i false ≡ slice_index_or (cells_of b) i false
  pub own_or_one : (i : ℕ) → OwnOrOne f g (cells_of a) (cells_of b) i

-- Two processors fresh from loading the tables t and u made these steps, came to the states a and b, and r was answered.
pub record Compared (t u : TableRows) (steps : List Step) (a b : ProcessorState) (r : Option Difference) : Type 0 where
  -- the runs of both
  pub here : List Moment
  pub there : List Moment
  pub run : Run (fresh t) here
  pub run_too : Run (fresh u) there
  pub made : calls here ≡ map first_call steps
  pub made_too : calls there ≡ map second_call steps
  pub ends : end_of (fresh t) here ≡ a
  pub ends_too : end_of (fresh u) there ≡ b
  -- the answer is the first step after which they differ, and what differs, or none
  pub first : FirstDifference here there r

-- The result about rearranged tables, of the two processors: where one table is a rearrangement of the other and the frames of
-- each step are alike, no difference is found, both agree after every step, and their states at the end are alike.
pub record AlikeThroughout (t u : TableRows) (steps : List Step) (a b : ProcessorState) (r : Option Difference) (c : Compared t u steps a b r) : Type 0 where
  pub none_found : r ≡ None
  pub along : AgreeAlong None None c.here c.there
  pub at_the_end : AlikeStates (last_of None c.here) (last_of None c.there) a b

-- what a comparison answers, taken or refused, with the states before and after it
abbrev pub Comparison : (document document_too : List ℕ) → List Step → (a b a' b' : ProcessorState)
    → Result (Option Difference) RefusedDocument → Type 0
Comparison document document_too steps a b a' b' (Ok r) =
    (t : TableRows) × (u : TableRows) × (reading document ≡ Ok t) × (reading document_too ≡ Ok u)
    × ((c : Compared t u steps a' b' r)
    × (Rearrangement t u → CallsAlike t (map first_call steps) (map second_call steps) → AlikeThroughout t u steps a' b' r c))
Comparison document document_too steps a b a' b' (Err (First refusal)) =
    (reading document ≡ Err (told refusal)) × (a' ≡ a) × (b' ≡ b)
Comparison document document_too steps a b a' b' (Err (Second refusal)) =
    (t : TableRows) × (reading document ≡ Ok t) × (reading document_too ≡ Err (told refusal)) × (a' ≡ a) × (b' ≡ b)
