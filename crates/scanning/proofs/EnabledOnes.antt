-- Names that are enabled, one statement after another.
use Rattle.std.proofs.Common.{◌≡◌, ℕ, ◌+◌, ◌<◌, ◌≤◌, Bool, true, false, cond, ◌&&◌, ◌||◌, eqb, List, [], ◌∷◌, map, length, get_or, drop, sym, refl, ap, ◌∙◌, inl, inr, arith}
use Rattle.std.proofs.Math.Bool.{or-false, and-true, and-false, or_assoc}
use Rattle.std.proofs.lemmas.List.{at_drop_more}
use Rattle.std.proofs.lemmas.Bool.{and_parts, eq-eqb, ne_eqb}
use Rattle.tables.specs.declared.statement.Statement.{Statement}
use Rattle.tables.specs.Limits.{last_name, counted_to}
use Rattle.tables.specs.Lists.{Among, every}
use Rattle.tables.specs.Rows.{StatementRow, PlanRow, statement_row, row_name}
use Rattle.tables.specs.Rules.{statement_keeps}
use Rattle.rules.specs.Frames.{Setting}
use Rattle.rules.specs.Enabling.{enabled, enabled_count, name_enabled}
use Rattle.rules.proofs.Orders.{OwnKeys, key_once}
use Rattle.scanning.specs.declared.names.EnabledNames.{EnabledNames}
use Rattle.scanning.specs.EnabledNames.{is_there}
use Rattle.scanning.proofs.Loops.{no_statement}

-- The enabled ones above an index, as far as they are found, and those from the index on are all.
pub record FoundAbove (plans : List PlanRow) (now : Setting) (xs : List Statement) (i : ℕ) (names : EnabledNames) : Type 0 where
  pub few : names.count ≤ i
  pub count : names.count + enabled_count plans now (map statement_row (drop i xs)) ≡ enabled_count plans now (map statement_row xs)
  pub named : (n : ℕ) → (is_there names n || name_enabled plans now (map statement_row (drop i xs)) n) ≡ name_enabled plans now (map statement_row xs) n

module _ (plans : List PlanRow) (now : Setting) (xs : List Statement) (i : ℕ) (within : i < length xs) where
  -- what is left, by its first
  count_from : (on : Bool) → enabled plans now (statement_row (get_or xs i no_statement)) ≡ on
      → enabled_count plans now (map statement_row (drop i xs)) ≡ cond on 1 0 + enabled_count plans now (map statement_row (drop (i + 1) xs))
  count_from on e =
      at_drop_more (λ ys. enabled_count plans now (map statement_row ys)) xs i no_statement within
      ∙ ap (λ b. cond b 1 0 + enabled_count plans now (map statement_row (drop (i + 1) xs))) e

  names_from : (n : ℕ) → name_enabled plans now (map statement_row (drop i xs)) n
      ≡ ((eqb (get_or xs i no_statement).name.0 n && enabled plans now (statement_row (get_or xs i no_statement)))
      || name_enabled plans now (map statement_row (drop (i + 1) xs)) n)
  names_from n = at_drop_more (λ ys. name_enabled plans now (map statement_row ys) n) xs i no_statement within

  -- the statement here is enabled, and added
  pub one_found : (names more : EnabledNames) → FoundAbove plans now xs i names → enabled plans now (statement_row (get_or xs i no_statement)) ≡ true
      → more.count ≡ names.count + 1
      → ((n : ℕ) → is_there more n ≡ (is_there names n || eqb (get_or xs i no_statement).name.0 n))
      → FoundAbove plans now xs (i + 1) more
  one_found names more found on counted added =
      let left = count_from true on in
      record {
        few = omega (arith, found.few, counted);
        count = omega (arith, left, found.count, counted);
        named = λ n.
            let rest : Bool = name_enabled plans now (map statement_row (drop (i + 1) xs)) n in
            let is : Bool = is_there names n in
            let its : Bool = eqb (get_or xs i no_statement).name.0 n in
            ap (λ b. b || rest) (added n)
            ∙ or_assoc is its rest
            ∙ ap (λ b. is || (b || rest)) (sym (and-true its) ∙ ap (λ b. its && b) (sym on))
            ∙ ap (λ b. is || b) (sym (names_from n))
            ∙ found.named n;
      }

  -- it is not
  pub none_found : (names : EnabledNames) → FoundAbove plans now xs i names → enabled plans now (statement_row (get_or xs i no_statement)) ≡ false
      → FoundAbove plans now xs (i + 1) names
  none_found names found off =
      let left = count_from false off in
      record {
        few = omega (arith, found.few);
        count = omega (arith, left, found.count);
        named = λ n.
            let rest : Bool = name_enabled plans now (map statement_row (drop (i + 1) xs)) n in
            let is : Bool = is_there names n in
            let its : Bool = eqb (get_or xs i no_statement).name.0 n in
            ap (λ b. is || (b || rest)) (sym (ap (λ b. its && b) off ∙ and-false its))
            ∙ ap (λ b. is || b) (sym (names_from n))
            ∙ found.named n;
      }

-- a statement of some that all keep the rules
pub keeps_among : (xs : List StatementRow) (s : StatementRow) → every statement_keeps xs ≡ true → Among s xs → statement_keeps s ≡ true
keeps_among [] s e m = absurd m
keeps_among (x ∷ xs) s e (inl p) = sym (ap statement_keeps p) ∙ (and_parts (statement_keeps x) _ e).0
keeps_among (x ∷ xs) s e (inr m) = keeps_among xs s (and_parts (statement_keeps x) _ e).1 m

-- the name of a statement that keeps the rules
pub name_kept : (s : StatementRow) → statement_keeps s ≡ true → counted_to last_name s.name ≡ true
name_kept s e = (and_parts (counted_to last_name s.name) _ e).0

-- where each has a name of its own, a statement is enabled exactly when its name is
pub own_name_enabled : (plans : List PlanRow) (now : Setting) (xs : List StatementRow) (s : StatementRow) → OwnKeys row_name xs → Among s xs
    → name_enabled plans now xs s.name ≡ enabled plans now s
own_name_enabled plans now [] s d m = absurd m
own_name_enabled plans now (x ∷ xs) s d (inl p) =
    ap (λ b. (b && enabled plans now x) || name_enabled plans now xs s.name) (eq-eqb x.name s.name (ap row_name p))
    ∙ ap (λ b. enabled plans now x || b) (others xs (λ y k e. key_once row_name x y xs d k (e ∙ sym (ap row_name p))))
    ∙ or-false (enabled plans now x)
    ∙ ap (enabled plans now) p
  where
    others : (ys : List StatementRow) → ((y : StatementRow) → Among y ys → y.name ≡ s.name → ⊥) → name_enabled plans now ys s.name ≡ false
    others [] h = refl
    others (y ∷ ys) h =
        ap (λ b. (b && enabled plans now y) || name_enabled plans now ys s.name) (ne_eqb y.name s.name (h y (inl refl)))
        ∙ others ys (λ z k. h z (inr k))
own_name_enabled plans now (x ∷ xs) s d (inr m) =
    ap (λ b. (b && enabled plans now x) || name_enabled plans now xs s.name) (ne_eqb x.name s.name (λ e. key_once row_name x s xs d m (sym e)))
    ∙ own_name_enabled plans now xs s d.1 m
