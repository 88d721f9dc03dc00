-- What a search over statements finds.
use Rattle.std.proofs.Common.{◌≡◌, ◌==◌, ℕ, zero, suc, ◌+◌, ◌<◌, Bool, true, false, ◌&&◌, ◌||◌, ltb, List, [], ◌∷◌, length, get_or, refl, sym, ap, arith}
use native.Mathlib.Numerals.{unary_clauses}
use Rattle.std.specs.List.{list_any, AllAdjacentBelow, IsAllAdjacentAnswer}
use Rattle.std.proofs.lemmas.Bool.{and_from, and_parts, lt-ltb, ltb-true}
use Rattle.tables.specs.declared.statement.Statement.{Statement}
use Rattle.tables.specs.Limits.{counted_to}
use Rattle.tables.specs.Lists.{every, member, rising}
use Rattle.documents.specs.Reads.{names_of}
use Rattle.documents.proofs.Pigeonhole.{counted_bounds}

-- a name is among those of some statements where one of them has it
pub is_named_by_any : (name : ℕ) (xs : List Statement) → member name (names_of xs) ≡ list_any (λ s. name == s.name.0) xs
is_named_by_any name [] = refl
is_named_by_any name (x ∷ xs) = ap (λ b. (name == x.name.0) || b) (is_named_by_any name xs)

-- numbers that each rise above the one before, the first above the floor, rise
rising_from_pairs : (floor : ℕ) (xs : List ℕ) → (0 < length xs → floor < get_or xs 0 0) → AllAdjacentBelow (λ x y. true ≡ ltb x y) xs (length xs) → rising floor xs ≡ true
rising_from_pairs floor [] first pairs = refl
rising_from_pairs floor (x ∷ xs) first pairs =
    and_from (ltb floor x) (rising x xs) (lt-ltb floor x (first (omega arith)))
    (rising_from_pairs x xs (λ some. ltb-true x (get_or xs 0 0) (sym (pairs 0 0 (omega arith)))) (λ k d within. simp unary_clauses (simp unary_clauses at (pairs (suc k) d (omega arith)))))

-- and numbers of which one does not rise above the one before do not
rising_fails : (floor : ℕ) (xs : List ℕ) (k : ℕ) → k + 1 < length xs → false ≡ ltb (get_or xs k 0) (get_or xs (k + 1) 0) → rising floor xs ≡ false
rising_fails floor [] k within fails = absurd (omega arith)
rising_fails floor (x ∷ []) k within fails = absurd (omega arith)
rising_fails floor (x ∷ y ∷ xs) zero within fails = let no : rising x (y ∷ xs) ≡ false = ap (λ b. b && rising y xs) (sym fails) in grind arith
rising_fails floor (x ∷ y ∷ xs) (suc k) within fails = let no = rising_fails x (y ∷ xs) k (omega arith) (simp unary_clauses (simp unary_clauses at fails)) in grind arith

-- a first number that is counted is above 0
first_counted : (n : ℕ) (xs : List ℕ) → every (counted_to n) xs ≡ true → 0 < length xs → 0 < get_or xs 0 0
first_counted n [] counted some = absurd (omega arith)
first_counted n (x ∷ xs) counted some = (counted_bounds n x (and_parts (counted_to n x) (every (counted_to n) xs) counted).0).0

-- whether counted numbers rise is what comparing each with the next answers
pub rising_by_pairs : (n : ℕ) (xs : List ℕ) (r : Bool) → every (counted_to n) xs ≡ true → IsAllAdjacentAnswer (λ x y b. b ≡ ltb x y) xs r → r ≡ rising 0 xs
rising_by_pairs n xs true counted answer = sym (rising_from_pairs 0 xs (first_counted n xs counted) answer)
rising_by_pairs n xs false counted answer = sym (rising_fails 0 xs answer.0 answer.1 (answer.2 0))
