-- The codes of the kinds of value that have a list of their cases are inverse both ways.
use Rattle.std.proofs.Common.{◌≡◌, ℕ, List, [], ◌∷◌, Some, refl}
use Rattle.tables.specs.declared.place.State.{State}
use Rattle.tables.specs.declared.place.State.TheVariants.{Off, On}
use Rattle.tables.specs.declared.test.Join.{Join}
use Rattle.tables.specs.declared.test.Join.TheVariants.{First, And, Or}
use Rattle.tables.specs.declared.test.Comparison.{Comparison}
use Rattle.tables.specs.declared.test.Comparison.TheVariants.{Is, IsNot, Greater, Less}
use Rattle.tables.specs.declared.statement.Mark.{Mark}
use Rattle.tables.specs.declared.statement.Mark.TheVariants.{Enabled, Disabled, Planned}
use Rattle.tables.specs.declared.codes.cases.Kind.{Kind}
use Rattle.tables.specs.declared.codes.cases.Kind.TheVariants.{Cib, Cob, LogicFlag, FamilyMember, LogicStatement, FrameNumber, DelayFor}
use Rattle.tables.specs.declared.family.Family.{Family}
use Rattle.tables.specs.declared.family.Family.TheVariants.{PhaseGreen, PhaseYellow, PhaseRed, PhaseWalk, PhasePedClear, PhaseDontWalk, OverlapGreen, OverlapYellow, OverlapRed, LoadSwitchGreen, LoadSwitchYellow, LoadSwitchRed, PhaseTiming, VehicleCheck, PedCheck, VehicleDetector, PedDetector, Hold, Omit, PedOmit, InhibitMax, MaxTwo, MaxThree, OmitRedClear, RedRest, PedRecycle, ForceOff, StopTime, Alarm, PreemptCall}
use Rattle.tables.specs.Decoded.{decoded}
use Rattle.tables.specs.Families.{families, family_code}
use Rattle.tables.specs.Codes.{state_code, state_of, join_code, join_of, comparison_code, comparison_of, mark_code, mark_of, kind_code, kind_of, family_of}
use Rattle.tables.specs.Inverse.{Inverse, all_keep}
use Rattle.tables.proofs.Decoding.{decoded_has_code}

-- where each case is what its code stands for, the codes are inverse both ways
inverse_from_cases : {X : Type 0} (coded : X → ℕ) (all : List X) → ((x : X) → decoded coded all (coded x) ≡ Some x) → Inverse coded (decoded coded all) all_keep
inverse_from_cases coded all each = ((λ x e. each x), (λ c x e. ((decoded_has_code coded all c x e).0, refl)))

-- each state is what its code stands for
state_decodes : (s : State) → state_of (state_code s) ≡ Some s
state_decodes Off = refl
state_decodes On = refl

-- each join is what its code stands for
join_decodes : (j : Join) → join_of (join_code j) ≡ Some j
join_decodes First = refl
join_decodes And = refl
join_decodes Or = refl

-- each comparison is what its code stands for
comparison_decodes : (c : Comparison) → comparison_of (comparison_code c) ≡ Some c
comparison_decodes Is = refl
comparison_decodes IsNot = refl
comparison_decodes Greater = refl
comparison_decodes Less = refl

-- each mark is what its code stands for
mark_decodes : (m : Mark) → mark_of (mark_code m) ≡ Some m
mark_decodes Enabled = refl
mark_decodes Disabled = refl
mark_decodes Planned = refl

-- each kind is what its code stands for
kind_decodes : (k : Kind) → kind_of (kind_code k) ≡ Some k
kind_decodes Cib = refl
kind_decodes Cob = refl
kind_decodes LogicFlag = refl
kind_decodes FamilyMember = refl
kind_decodes LogicStatement = refl
kind_decodes FrameNumber = refl
kind_decodes DelayFor = refl

-- each family is what its code stands for
family_decodes : (f : Family) → family_of (family_code f) ≡ Some f
family_decodes PhaseGreen = refl
family_decodes PhaseYellow = refl
family_decodes PhaseRed = refl
family_decodes PhaseWalk = refl
family_decodes PhasePedClear = refl
family_decodes PhaseDontWalk = refl
family_decodes OverlapGreen = refl
family_decodes OverlapYellow = refl
family_decodes OverlapRed = refl
family_decodes LoadSwitchGreen = refl
family_decodes LoadSwitchYellow = refl
family_decodes LoadSwitchRed = refl
family_decodes PhaseTiming = refl
family_decodes VehicleCheck = refl
family_decodes PedCheck = refl
family_decodes VehicleDetector = refl
family_decodes PedDetector = refl
family_decodes Hold = refl
family_decodes Omit = refl
family_decodes PedOmit = refl
family_decodes InhibitMax = refl
family_decodes MaxTwo = refl
family_decodes MaxThree = refl
family_decodes OmitRedClear = refl
family_decodes RedRest = refl
family_decodes PedRecycle = refl
family_decodes ForceOff = refl
family_decodes StopTime = refl
family_decodes Alarm = refl
family_decodes PreemptCall = refl

-- the codes of states are inverse both ways
pub states_inverse : Inverse state_code state_of all_keep
states_inverse = inverse_from_cases state_code (Off ∷ On ∷ []) state_decodes

-- the codes of joins are inverse both ways
pub joins_inverse : Inverse join_code join_of all_keep
joins_inverse = inverse_from_cases join_code (First ∷ And ∷ Or ∷ []) join_decodes

-- the codes of comparisons are inverse both ways
pub comparisons_inverse : Inverse comparison_code comparison_of all_keep
comparisons_inverse = inverse_from_cases comparison_code (Is ∷ IsNot ∷ Greater ∷ Less ∷ []) comparison_decodes

-- the codes of marks are inverse both ways
pub marks_inverse : Inverse mark_code mark_of all_keep
marks_inverse = inverse_from_cases mark_code (Enabled ∷ Disabled ∷ Planned ∷ []) mark_decodes

-- the codes of kinds are inverse both ways
pub kinds_inverse : Inverse kind_code kind_of all_keep
kinds_inverse = inverse_from_cases kind_code (Cib ∷ Cob ∷ LogicFlag ∷ FamilyMember ∷ LogicStatement ∷ FrameNumber ∷ DelayFor ∷ []) kind_decodes

-- the codes of families are inverse both ways
pub families_inverse : Inverse family_code family_of all_keep
families_inverse = inverse_from_cases family_code families family_decodes
