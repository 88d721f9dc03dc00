-- A rearranged table scans alike, as many of its statements are enabled, and some passes a test where some did.
use Rattle.std.proofs.Common.{◌≡◌, ℕ, ◌+◌, Bool, true, false, cond, ◌||◌, List, [], ◌∷◌, ◌++◌, sym, refl, ap, ◌∙◌, inl, inr, arith}
use Rattle.tables.specs.Lists.{Among, some}
use Rattle.tables.specs.Rows.{StatementRow, PlanRow, TableRows}
use Rattle.rules.specs.Frames.{Setting}
use Rattle.rules.specs.Memory.{Memory}
use Rattle.rules.specs.Enabling.{enabled, enabled_count}
use Rattle.rules.specs.Scanning.{turn, turns}
use Rattle.rules.proofs.Swap.{turns_commute}
use Rattle.rules.proofs.Moves.{Shuffle, Passes, by_moves}

-- x goes up past statements that it may pass
up : (t : TableRows) (f : List ℕ) (x : StatementRow) (p q : List StatementRow) → ((b : StatementRow) → Among b p → Passes x b) → (m : Memory)
    → turns t f (p ++ (x ∷ q)) m ≡ turns t f (p ++ q) (turn t f x m)
up t f x [] q h m = refl
up t f x (y ∷ p) q h m =
    let y_may = h y (inl refl) in
    up t f x p q (λ b k. h b (inr k)) (turn t f y m)
    ∙ ap (turns t f (p ++ q)) (turns_commute t f x y y_may.apart y_may.named y_may.named_too y_may.differ m)

-- whatever the frame and the memory
pub order_does_not_matter : (t : TableRows) (f : List ℕ) (xs ys : List StatementRow) → Shuffle xs ys → (m : Memory) → turns t f xs m ≡ turns t f ys m
order_does_not_matter t f = by_moves (λ xs ys. (m : Memory) → turns t f xs m ≡ turns t f ys m) (λ m. refl)
    (λ x xs p q h ih m. ih (turn t f x m) ∙ sym (up t f x p q h m))

count_up : (plans : List PlanRow) (now : Setting) (x : StatementRow) (p q : List StatementRow)
    → enabled_count plans now (p ++ (x ∷ q)) ≡ cond (enabled plans now x) 1 0 + enabled_count plans now (p ++ q)
count_up plans now x [] q = refl
count_up plans now x (y ∷ p) q = let h = count_up plans now x p q in omega arith

pub same_count : (plans : List PlanRow) (now : Setting) (xs ys : List StatementRow) → Shuffle xs ys → enabled_count plans now xs ≡ enabled_count plans now ys
same_count plans now = by_moves (λ xs ys. enabled_count plans now xs ≡ enabled_count plans now ys) refl
    (λ x xs p q h ih. ap (λ n. cond (enabled plans now x) 1 0 + n) ih ∙ sym (count_up plans now x p q))

or_swap : (a b c : Bool) → (a || (b || c)) ≡ (b || (a || c))
or_swap true true c = refl
or_swap true false c = refl
or_swap false true c = refl
or_swap false false c = refl

some_up : (test : StatementRow → Bool) (x : StatementRow) (p q : List StatementRow) → some test (p ++ (x ∷ q)) ≡ (test x || some test (p ++ q))
some_up test x [] q = refl
some_up test x (y ∷ p) q = ap (λ b. test y || b) (some_up test x p q) ∙ or_swap (test y) (test x) (some test (p ++ q))

pub same_some : (test : StatementRow → Bool) (xs ys : List StatementRow) → Shuffle xs ys → some test xs ≡ some test ys
same_some test = by_moves (λ xs ys. some test xs ≡ some test ys) refl
    (λ x xs p q h ih. ap (λ b. test x || b) ih ∙ sym (some_up test x p q))
