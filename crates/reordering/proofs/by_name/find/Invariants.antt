use Rattle.std.proofs.Common.{◌≡◌, false, eqb}
use Rattle.std.specs.List.{AllWithin}
use Rattle.reordering.proofs.by_name.find.Given as goal

-- no statement above has the name
abbrev pub invariant-loop-at : goal.invariant-loop-at
invariant-loop-at l = AllWithin (λ s. eqb s.name.0 l.name.0 ≡ false) l.statements 0 l.at
