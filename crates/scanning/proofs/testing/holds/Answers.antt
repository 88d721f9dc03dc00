use Rattle.std.proofs.Common.{◌≡◌, Bool, false, List, refl, rules, tests}
use Rattle.std.proofs.iter.Yields.{fronts}
use Rattle.std.proofs.lemmas.Fn.{fold_over}
use Rattle.std.proofs.lemmas.Iterator.{YieldsList-from_slice}
use Rattle.tables.specs.declared.test.JoinedTest.{JoinedTest}
use Rattle.rules.specs.Testing.{View, seen, holds}
use Rattle.rules.proofs.PlainWords.{joined_from_the_top}
use Rattle.memory.specs.Flags.{places_of}
use Rattle.scanning.specs.EnabledNames.{is_there}
use Rattle.scanning.proofs.testing.holds.Goals as goal

pub returns : goal.returns
unfolding holds
returns g c =
    let v : View = seen c.args.frame.now (is_there c.args.enabled.now) (places_of (g.S.CellStore.cells c.args.store.now) c.args.flags.now) in
    let so_far : List JoinedTest → Bool → Type 0 = λ above b. b ≡ holds v above in
    fold_over (fronts {A = JoinedTest}) (λ t. t.now) _ so_far _
    (λ above b t more q is call. let next = joined_from_the_top.next v above t.now in search (rules, tests))
    c.iter.result c.args.tests.now false _ (YieldsList-from_slice {s = c.iter.result} c.args.tests.now c.iter.ensures.rest).runs refl c.fold.ensures.ran
