-- Numbers from 1 to n that all differ are at most n, and so are those that rise.
use Rattle.std.proofs.Common.{◌≡◌, ℕ, ◌+◌, ◌<◌, ◌≤◌, true, false, not, eqb, ltb, leb, List, [], ◌∷◌, length, sym, subst, inl, inr, ⊎_elim, arith}
use Rattle.std.specs.List.{AllByRecursion, IsDistinct}
use Rattle.std.proofs.lemmas.Bool.{cases_Bool, and_parts, or_parts, or_cases, not-true, eqb-true, leb-true, ltb-true}
use Rattle.std.proofs.lemmas.Map.Keys.{IsDistinct-cons}
use Rattle.std.proofs.lemmas.Map.Steps.{length-le_from_distinct_below}
use Rattle.tables.specs.Limits.{counted_to}
use Rattle.tables.specs.Lists.{every, member, distinct, rising}

-- a number from 1 to n lies between the two
pub counted_bounds : (n m : ℕ) → counted_to n m ≡ true → (1 ≤ m) × (m ≤ n)
counted_bounds n m e =
    let two = and_parts (leb 1 m) (leb m n) e in
    (leb-true 1 m two.0, leb-true m n two.1)

-- a member of numbers from 1 to n lies between the two
member_bounds : (n m : ℕ) (ms : List ℕ) → every (counted_to n) ms ≡ true → member m ms ≡ true → (1 ≤ m) × (m ≤ n)
member_bounds n m [] all there = absurd (cc)
member_bounds n m (k ∷ ms) all there =
    let two = and_parts (counted_to n k) (every (counted_to n) ms) all in
    elim (or_cases (eqb m k) (member m ms) there) [
      | inl here ↦ subst (λ j. (1 ≤ j) × (j ≤ n)) (sym (eqb-true m k here)) (counted_bounds n k two.0)
      | inr later ↦ member_bounds n m ms two.1 later
    ]

-- a number that is not in a list differs from each of it
differs_from_each : (m : ℕ) (ms : List ℕ) → member m ms ≡ false → AllByRecursion (λ k. eqb m k ≡ false) ms
differs_from_each m [] out = tt
differs_from_each m (k ∷ ms) out =
    let two = or_parts (eqb m k) (member m ms) out in
    (two.0, differs_from_each m ms two.1)

-- numbers that all differ, in std's words
is_distinct : (ms : List ℕ) → distinct ms ≡ true → IsDistinct eqb ms
unfolding IsDistinct
is_distinct [] apart = tt
is_distinct (m ∷ ms) apart =
    let two = and_parts (not (member m ms)) (distinct ms) apart in
    (differs_from_each m ms (not-true (member m ms) two.0), is_distinct ms two.1)

-- numbers from 1 to n that all differ are at most n: with 0 they are distinct and below n + 1
pub distinct_at_most : (n : ℕ) (ms : List ℕ) → every (counted_to n) ms ≡ true → distinct ms ≡ true → length ms ≤ n
distinct_at_most n ms all apart =
    let no_zero : member 0 ms ≡ false = ⊎_elim (λ there. let low = (member_bounds n 0 ms all there).0 in absurd (omega arith)) (λ out. out) (cases_Bool (member 0 ms)) in
    let below : (m : ℕ) → member m (0 ∷ ms) ≡ true → m < n + 1 = λ m there.
    elim (or_cases (eqb m 0) (member m ms) there) [
      | inl here ↦ let e = eqb-true m 0 here in omega arith
      | inr later ↦ let most = (member_bounds n m ms all later).1 in omega arith
    ] in
    let most = length-le_from_distinct_below (0 ∷ ms) (n + 1) (IsDistinct-cons eqb 0 ms (differs_from_each 0 ms no_zero) (is_distinct ms apart)) below in
    omega arith

-- numbers up to n that rise from a floor are at most as many as there are from the floor to n
rising_under : (n floor : ℕ) (ms : List ℕ) → every (counted_to n) ms ≡ true → rising floor ms ≡ true → floor ≤ n → floor + length ms ≤ n
rising_under n floor [] all up low = omega arith
rising_under n floor (m ∷ ms) all up low =
    let two = and_parts (counted_to n m) (every (counted_to n) ms) all in
    let more = and_parts (ltb floor m) (rising m ms) up in
    let bounds = counted_bounds n m two.0 in
    let above = ltb-true floor m more.0 in
    let rest = rising_under n m ms two.1 more.1 bounds.1 in
    omega arith

-- numbers from 1 to n that rise are at most n
pub rising_at_most : (n : ℕ) (ms : List ℕ) → every (counted_to n) ms ≡ true → rising 0 ms ≡ true → length ms ≤ n
rising_at_most n ms all up = let most = rising_under n 0 ms all up (omega arith) in omega arith
