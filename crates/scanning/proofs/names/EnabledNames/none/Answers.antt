use Rattle.std.proofs.Common.{◌≡◌, ℕ, ◌-◌, Bool, true, false, cond, get_or, replicate, refl, arith}
use Rattle.std.proofs.lemmas.List.{get_or-replicate}
use Rattle.tables.specs.Limits.{last_name, counted_to}
use Rattle.documents.proofs.Pigeonhole.{counted_bounds}
use Rattle.scanning.proofs.names.EnabledNames.none.Goals as goal

none_there : (b : Bool) (n : ℕ) → counted_to last_name n ≡ b → cond b (get_or (replicate last_name false) (n - 1) false) false ≡ false
none_there true n e = let two = counted_bounds last_name n e in get_or-replicate last_name (n - 1) false false (omega (arith, two.0, two.1))
none_there false n e = refl

pub returns : goal.returns
returns c = record { count = refl; names = λ n. none_there (counted_to last_name n) n refl }
