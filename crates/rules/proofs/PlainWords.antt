-- The definitions in plain words: joins, waits, time left, touching.
use Rattle.std.proofs.Common.{◌≡◌, ℕ, ◌+◌, ◌*◌, ◌<◌, ◌≤◌, Bool, false, List, [], ◌∷◌, ◌++◌, Some, None, sym, refl, ap, ◌∙◌, subst, inl, inr, add-zero, add_assoc, arith}
use Rattle.tables.specs.declared.test.Join.{Join}
use Rattle.tables.specs.declared.test.JoinedTest.{JoinedTest}
use Rattle.tables.specs.declared.action.Action.{Action}
use Rattle.tables.specs.declared.action.Action.TheVariants.{SetPlace, SetMember, Delay}
use Rattle.tables.specs.Families.{cells_named}
use Rattle.tables.specs.Lists.{Among}
use Rattle.tables.specs.Rules.{delays}
use Rattle.cells.specs.Cells.{is_on}
use Rattle.rules.specs.Testing.{View, truth, joined, joined_below, holds, JoinedFromTheTop}
use Rattle.rules.specs.Acting.{Timed, timed, NextWait, TimeLeftIsOne, WaitsAreSumsOfDelays}
use Rattle.rules.specs.Touching.{TouchingInPlainWords}
use Rattle.rules.proofs.Swap.{touch_back}

-- ---- joins

one_more : (v : View) (b : Bool) (above : List JoinedTest) (t : JoinedTest)
    → joined_below v b (above ++ t ∷ []) ≡ joined t.join (joined_below v b above) (truth v t.test)
one_more v b [] t = refl
one_more v b (u ∷ above) t = one_more v (joined u.join b (truth v u.test)) above t

pub joined_from_the_top : JoinedFromTheTop
unfolding holds
joined_from_the_top = record {
  first = λ v t e. ap (λ (j : Join). joined j false (truth v t.test)) e;
  next = λ v above t. one_more v false above t;
}

-- ---- waits

pub waits_are_sums_of_delays : WaitsAreSumsOfDelays
waits_are_sums_of_delays wait [] below = ap (λ w. timed w below) (sym (add-zero wait))
waits_are_sums_of_delays wait (SetPlace place state ∷ above) below =
    let e : wait + (0 + delays above) ≡ wait + delays above = omega arith in
    ap (λ xs. record { wait = wait; places = place ∷ []; on = is_on state } ∷ xs)
    (waits_are_sums_of_delays wait above below ∙ ap (λ w. timed wait above ++ timed w below) (sym e))
waits_are_sums_of_delays wait (SetMember member state ∷ above) below =
    let e : wait + (0 + delays above) ≡ wait + delays above = omega arith in
    ap (λ xs. record { wait = wait; places = cells_named member.family member.number; on = is_on state } ∷ xs)
    (waits_are_sums_of_delays wait above below ∙ ap (λ w. timed wait above ++ timed w below) (sym e))
waits_are_sums_of_delays wait (Delay tenths ∷ above) below =
    waits_are_sums_of_delays (wait + tenths.0) above below
    ∙ ap (λ w. timed (wait + tenths.0) above ++ timed w below) (add_assoc wait tenths.0 (delays above))

-- ---- time left

some_and_none : (acts : List Action) (count w : ℕ) → NextWait acts count w → ((a : Timed) → Among a (timed 0 acts) → a.wait ≤ count) → ⊥
some_and_none acts count w n h =
    let a = n.some_has_it in
    let low = h a.0 a.1 in
    let above = n.above in
    let same = a.2 in
    omega arith

next_wait_once : (acts : List Action) (count v w : ℕ) → NextWait acts count v → NextWait acts count w → v ≤ w
next_wait_once acts count v w m n =
    let a = n.some_has_it in
    let above : count < a.0.wait = subst (λ k. count < k) (sym a.2) n.above in
    let low = m.least a.0 a.1 above in
    let same = a.2 in
    omega arith

digits : (a b c d : ℕ) → b < 10 → d < 10 → 10 * a + b ≡ 10 * c + d → (a ≡ c) × (b ≡ d)
digits a b c d h k e = (omega arith, omega arith)

pub time_left_is_one : TimeLeftIsOne
time_left_is_one acts count None None h k = refl
time_left_is_one acts count None (Some b) h k = absurd (some_and_none acts count _ k.0 h)
time_left_is_one acts count (Some a) None h k = absurd (some_and_none acts count _ h.0 k)
time_left_is_one acts count (Some a) (Some b) h k =
    let low = next_wait_once acts count _ _ h.0 k.0 in
    let high = next_wait_once acts count _ _ k.0 h.0 in
    let both = digits a.0 a.1 b.0 b.1 h.1 k.1 (omega arith) in
    λ i. Some (both.0 i, both.1 i)

-- ---- touching

pub touching_in_plain_words : TouchingInPlainWords
touching_in_plain_words = record {
  itself = λ s. (λ t. (t.0, elim t.1 [ inl k ↦ k.0 | inr k ↦ k.0 ]), λ p. (p.0, inl (p.1, inl p.1)));
  both_ways = touch_back;
}
