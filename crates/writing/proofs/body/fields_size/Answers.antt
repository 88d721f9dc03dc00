use Rattle.std.proofs.Common.{◌≡◌, ◌+◌, ◌^◌, length, sum_by, ◌∙◌, rules, arith}
use Rattle.std.proofs.lemmas.Iterator.{YieldsList-from_slice}
use Rattle.std.proofs.lemmas.Iterator.Adapters.{fits_from_length, at_most_from_yields_List}
use Rattle.writing.proofs.Sizes.{fields_length}
use Rattle.writing.proofs.body.fields_size.Goals as goal

pub returns-clause-value : goal.returns-clause-value
returns-clause-value g c =
    let total : c.sum.result ≡ sum_by (λ x. 3 + length (g.T.Body.body x)) c.args.items.now = search rules in
    λ tag. total ∙ fields_length g.T.Body.body tag c.args.items.now

-- the run of the chain, and the bound on the sum of each run
pub returns-clause-bound : goal.returns-clause-bound
returns-clause-bound g c =
    let run = c.sum.ensures.runs tt in
    let bound = fits_from_length _ _ 65536 (2 ^ 33) (at_most_from_yields_List (YieldsList-from_slice c.args.items.now cc) (omega arith)) c.map.ensures.closure (omega arith) (λ x r q k. search rules) run.0 run.0.seen run.1 in
    omega (arith, bound, run.3)
