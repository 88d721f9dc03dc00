-- A rearrangement is made by moves: the first statement of one table goes up in the other past statements that it does not
-- touch, then the rest likewise.
use Rattle.std.proofs.Common.{◌≡◌, ◌≤◌, ◌≢◌, ◌⊎◌, ◌↔◌, List, [], ◌∷◌, ◌++◌, sym, refl, ap, ◌∙◌, subst, inl, inr}
use Rattle.tables.specs.Lists.{Among}
use Rattle.tables.specs.Rows.{StatementRow, row_name}
use Rattle.rules.specs.Touching.{Touch}
use Rattle.rules.specs.Rearranging.{Before}
use Rattle.rules.proofs.Lists.{among_left, among_unmap}
use Rattle.rules.proofs.Orders.{OwnKeys, first, second, key_once}

-- Statements of which each has a name of its own, rearranged.
pub record Shuffle (xs ys : List StatementRow) : Type 0 where
  pub named : (s : StatementRow) → Among s xs → 1 ≤ s.name
  pub distinct : OwnKeys row_name xs
  pub distinct_too : OwnKeys row_name ys
  pub same : (s : StatementRow) → Among s xs ↔ Among s ys
  pub order : (a b : StatementRow) → Touch a b → Before a b xs → Before a b ys

pub split : (x : StatementRow) (ys : List StatementRow) → Among x ys → (p : List StatementRow) × (q : List StatementRow) × (ys ≡ p ++ (x ∷ q))
split x [] m = absurd m
split x (y ∷ ys) (inl e) = ([], ys, ap (λ w. w ∷ ys) e)
split x (y ∷ ys) (inr m) = let r = split x ys m in (y ∷ r.0, r.1, ap (λ w. y ∷ w) r.2)

module _ (x : StatementRow) where
  pub here : (p q : List StatementRow) → Among x (p ++ (x ∷ q))
  here [] q = inl refl
  here (y ∷ p) q = inr (here p q)

  pub wider : (b : StatementRow) (p q : List StatementRow) → Among b (p ++ q) → Among b (p ++ (x ∷ q))
  wider b [] q m = inr m
  wider b (y ∷ p) q (inl e) = inl e
  wider b (y ∷ p) q (inr m) = inr (wider b p q m)

  narrower : (b : StatementRow) (p q : List StatementRow) → Among b (p ++ (x ∷ q)) → (x ≡ b) ⊎ Among b (p ++ q)
  narrower b [] q m = m
  narrower b (y ∷ p) q (inl e) = inr (inl e)
  narrower b (y ∷ p) q (inr m) = elim (narrower b p q m) [ inl e ↦ inl e | inr k ↦ inr (inr k) ]

  distinct_rest : (p q : List StatementRow) → OwnKeys row_name (p ++ (x ∷ q)) → OwnKeys row_name (p ++ q)
  distinct_rest [] q d = d.1
  distinct_rest (y ∷ p) q d = (
    λ m. let r = among_unmap row_name y.name (p ++ q) m in key_once row_name y r.0 (p ++ (x ∷ q)) d (wider r.0 p q r.1) r.2,
    distinct_rest p q d.1,
  )

  -- no other has the name of x
  pub own : (p q : List StatementRow) → OwnKeys row_name (p ++ (x ∷ q)) → (b : StatementRow) → Among b (p ++ q) → b.name ≡ x.name → ⊥
  own [] q d b m e = key_once row_name x b q d m e
  own (y ∷ p) q d b (inl k) e = key_once row_name y x (p ++ (x ∷ q)) d (here p q) (sym (ap row_name k ∙ e))
  own (y ∷ p) q d b (inr m) e = own p q d.1 b m e

  before_rest : (a b : StatementRow) (p q : List StatementRow) → (x ≡ a → ⊥) → (x ≡ b → ⊥) → Before a b (p ++ (x ∷ q)) → Before a b (p ++ q)
  before_rest a b [] q na nb (inl t) = absurd (na t.0)
  before_rest a b [] q na nb (inr t) = t
  before_rest a b (y ∷ p) q na nb (inl t) = elim (narrower b p q t.1) [ inl e ↦ absurd (nb e) | inr m ↦ inl (t.0, m) ]
  before_rest a b (y ∷ p) q na nb (inr t) = inr (before_rest a b p q na nb t)

-- what stands above x does not stand below it
not_below : (x b : StatementRow) (p q : List StatementRow) → OwnKeys row_name (p ++ (x ∷ q)) → Among b p → Before x b (p ++ (x ∷ q)) → ⊥
not_below x b [] q d m t = m
not_below x b (y ∷ p) q d m (inl t) = key_once row_name y x (p ++ (x ∷ q)) d (here x p q) (ap row_name (sym t.0))
not_below x b (y ∷ p) q d (inl e) (inr t) = key_once row_name y b (p ++ (x ∷ q)) d (second x b (p ++ (x ∷ q)) t) (ap row_name (sym e))
not_below x b (y ∷ p) q d (inr m) (inr t) = not_below x b p q d.1 m t

-- x may pass b
pub record Passes (x b : StatementRow) : Type 0 where
  pub apart : Touch x b → ⊥
  pub named : 1 ≤ x.name
  pub named_too : 1 ≤ b.name
  pub differ : x.name ≢ b.name

module _ (x : StatementRow) (xs p q : List StatementRow) (r : Shuffle (x ∷ xs) (p ++ (x ∷ q))) where
  -- a statement below x in the first table is not x
  other : (b : StatementRow) → Among b xs → x ≡ b → ⊥
  other b m e = key_once row_name x b xs r.distinct m (ap row_name (sym e))

  other_too : (b : StatementRow) → Among b (p ++ q) → x ≡ b → ⊥
  other_too b m e = own x p q r.distinct_too b m (ap row_name (sym e))

  there : (b : StatementRow) → Among b (p ++ q) → Among b xs
  there b m = elim ((r.same b).1 (wider x b p q m)) [ inl e ↦ absurd (other_too b m e) | inr k ↦ k ]

  rest : Shuffle xs (p ++ q)
  rest = record {
    named = λ b m. r.named b (inr m);
    distinct = r.distinct.1;
    distinct_too = distinct_rest x p q r.distinct_too;
    same = λ b. (λ m. elim (narrower x b p q ((r.same b).0 (inr m))) [ inl e ↦ absurd (other b m e) | inr k ↦ k ], there b);
    order = λ a b t l. before_rest x a b p q (other a (first a b xs l)) (other b (second a b xs l)) (r.order a b t (inr l));
  }

  passes : (b : StatementRow) → Among b p → Passes x b
  passes b m =
      let below = there b (among_left b p q m) in
      record {
        apart = λ t. not_below x b p q r.distinct_too m (r.order x b t (inl (refl, below)));
        named = r.named x (inl refl);
        named_too = r.named b (inr below);
        differ = λ e. own x p q r.distinct_too b (among_left b p q m) (sym e);
      }

none_left : (ys : List StatementRow) → Shuffle [] ys → ys ≡ []
none_left [] r = refl
none_left (y ∷ ys) r = absurd ((r.same y).1 (inl refl))

-- what holds of two empty tables and is kept by each such move holds of a table and its rearrangement
pub by_moves : (P : List StatementRow → List StatementRow → Type 0) → P [] []
    → ((x : StatementRow) (xs p q : List StatementRow) → ((b : StatementRow) → Among b p → Passes x b) → P xs (p ++ q) → P (x ∷ xs) (p ++ (x ∷ q)))
    → (xs ys : List StatementRow) → Shuffle xs ys → P xs ys
by_moves P base step [] ys r = subst (P []) (sym (none_left ys r)) base
by_moves P base step (x ∷ xs) ys r =
    let cut = split x ys ((r.same x).0 (inl refl)) in
    let p = cut.0 in
    let q = cut.1 in
    let r' : Shuffle (x ∷ xs) (p ++ (x ∷ q)) = subst (Shuffle (x ∷ xs)) cut.2 r in
    subst (P (x ∷ xs)) (sym cut.2) (step x xs p q (passes x xs p q r') (by_moves P base step xs (p ++ q) (rest x xs p q r')))
