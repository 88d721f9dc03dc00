use Rattle.std.proofs.Common.{◌≡◌, ◌+◌, ◌<◌, ◌≤◌, ◌⊎◌, ◌∷◌, get_or, drop, sym, refl, ap, ◌∙◌, subst, inl, inr, arith, rules, tests}
use Rattle.std.proofs.lemmas.List.{at_drop_more, at_drop_all}
use Rattle.tables.specs.declared.action.Action.{Action}
use Rattle.tables.specs.Lists.{Among}
use Rattle.tables.specs.Rules.{delay, delays}
use Rattle.rules.specs.Acting.{Timed, timed}
use Rattle.scanning.proofs.Waits.{no_action, waits_from, stands_first}
use Rattle.scanning.proofs.acting.BranchActions.next_wait.Goals as goal
use Rattle.scanning.proofs.acting.BranchActions.next_wait.Goals.{in-Delay, in_default+else-gt}

pub loop-action-init : goal.loop-action-init
loop-action-init c = (λ a m. inr m, λ a m. m, omega (arith, c.args.self.short))

pub returns-then-gt : goal.returns-then-gt
returns-then-gt c =
    let xs = c.args.self.actions.now in
    let i = c.loop-action.action-index in
    let wait = c.loop-action.wait.0 in
    let inv = c.loop-action.invariant in
    let above : c.args.count.0 < wait = search (rules, tests) in
    let (first, stands) = stands_first (get_or xs i no_action) wait c.in_default.not-Delay in
    let at = at_drop_more (timed wait) xs i no_action c.loop-action-test.true ∙ stands.then_more (drop (i + 1) xs) in
    record {
      above = above;
      some_has_it = (first, inv.1 first (subst (Among first) (sym at) (inl refl)), stands.its_wait);
      least = λ a m high. elim (inv.0 a m) [
        | inl low ↦ absurd (omega arith)
        | inr k ↦ waits_from wait (drop i xs) a k
      ];
    }

pub loop-action-preserved : goal.loop-action-preserved
loop-action-preserved c =
    let xs = c.args.self.actions.now in
    let i = c.loop-action.action-index in
    let wait = c.loop-action.wait.0 in
    let next = c.match-action.wait.0 in
    let inv = c.loop-action.invariant in
    let more = at_drop_more delays xs i no_action c.loop-action-test.true in
    let at = at_drop_more (timed wait) xs i no_action c.loop-action-test.true in
    elim c.match-action.branch [
      | in-Delay w ↦
          let is_next : wait + w.in-Delay.tenths.0 ≡ next = sym (ap (λ w. w.0) w.wait-is) in
          let same : timed wait (drop i xs) ≡ timed next (drop (i + 1) xs) =
          at ∙ ap (λ (a : Action). timed wait (a ∷ drop (i + 1) xs)) w.in-Delay.is ∙ ap (λ n. timed n (drop (i + 1) xs)) is_next in
          let waits = ap delay w.in-Delay.is in (
            λ a m. subst (λ rest. (a.wait ≤ c.args.count.0) ⊎ Among a rest) same (inv.0 a m),
            λ a m. inv.1 a (subst (Among a) (sym same) m),
            omega (arith, more, waits, is_next, inv.2),
          )
      | in_default+else-gt w ↦
          let low : wait ≤ c.args.count.0 = search (rules, tests) in
          let is_next : wait ≡ next = sym (ap (λ w. w.0) w.wait-is) in
          let (first, stands) = stands_first (get_or xs i no_action) wait w.in_default.not-Delay in
          let same : timed wait (drop i xs) ≡ first ∷ timed next (drop (i + 1) xs) =
          at ∙ stands.then_more (drop (i + 1) xs) ∙ ap (λ n. first ∷ timed n (drop (i + 1) xs)) is_next in (
            λ a m. elim (inv.0 a m) [
              | inl k ↦ inl k
              | inr k ↦ elim (subst (Among a) same k) [
                | inl e ↦ let its = ap (λ (t : Timed). t.wait) e in let here = stands.its_wait in inl (omega arith)
                | inr j ↦ inr j
              ]
            ],
            λ a m. inv.1 a (subst (Among a) (sym same) (inr m)),
            let none = stands.no_delay in omega (arith, more, is_next, inv.2),
          )
    ]

pub returns : goal.returns
returns c = λ a m. elim (c.loop-action.invariant.0 a m) [
  | inl low ↦ low
  | inr k ↦ absurd (subst (Among a) (at_drop_all (timed c.loop-action.wait.0) c.args.self.actions.now c.loop-action.action-index c.loop-action-test.false) k)
]
