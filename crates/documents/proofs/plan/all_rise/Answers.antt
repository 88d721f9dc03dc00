use Rattle.std.proofs.Common.{ltb, rules, tests}
use Rattle.std.proofs.lemmas.List.Sorted.{answers_always}
use Rattle.tables.specs.Limits.{last_name}
use Rattle.documents.proofs.Looking.{rising_by_pairs}
use Rattle.documents.proofs.plan.all_rise.Goals as goal

pub returns : goal.returns
returns c =
    rising_by_pairs last_name c.args.names.now c.is_sorted_by.result c.requires
    (c.is_sorted_by.ensures.cases ltb (answers_always _ _ _ (λ f a r f' k. search (rules, tests))))
