use Rattle.std.proofs.Common.{rules}
use Rattle.documents.proofs.Plans.{number_of_last}
use Rattle.documents.proofs.plan.last_number.Goals as goal

pub returns : goal.returns
returns c = number_of_last c.args.plans.now c.last.result c.map_or.result c.last.ensures.item (search rules)
