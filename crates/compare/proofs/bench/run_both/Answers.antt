use Rattle.std.proofs.Common.{rules, ◌∙◌}
use Rattle.compare.proofs.Progress.{none_so_far, step_more, all_made}
use Rattle.compare.proofs.bench.run_both.Goals as goal

pub loop-at-init : goal.loop-at-init
loop-at-init g c = record {
  same_first = cc;
  same_second = cc;
  so_far = λ t u p q. none_so_far t u _ _ _ _ c.new-first.ensures.frame c.new-second.ensures.frame (c.new-first.ensures.state ∙ p) (c.new-second.ensures.state ∙ q);
}

pub loop-at-preserved : goal.loop-at-preserved
loop-at-preserved g c = record {
  same_first = cc;
  same_second = cc;
  so_far = λ t u p q. step_more _ _ _ c.loop-at-test.true (c.loop-at.invariant.so_far t u p q) c.step_both-kind.ensures.stepped (search rules);
}

pub returns : goal.returns
returns g c = λ t u p q. all_made _ _ c.loop-at-test.false (c.loop-at.invariant.so_far t u p q) (search rules) (search rules)
