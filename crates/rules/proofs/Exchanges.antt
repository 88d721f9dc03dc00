-- Which neighbours may be exchanged.
use Rattle.std.proofs.Common.{◌≡◌, ℕ, true, false, not, ◌&&◌, ◌||◌, ◌↔◌, List, [], ◌∷◌, ◌++◌, Ok, Err, sym, refl, ap, ◌∙◌, subst, subst₂, inl, inr, arith, ne_eqb}
use Rattle.tables.specs.declared.refusal.Refusal.TheVariants.{TouchingPair}
use Rattle.tables.specs.Lists.{Among, distinct}
use Rattle.tables.specs.Refusals.{told}
use Rattle.tables.specs.Rows.{StatementRow, PlanRow, TableRows, row_name}
use Rattle.tables.specs.Rules.{table_keeps}
use Rattle.rules.specs.Touching.{Touch}
use Rattle.rules.specs.Rearranging.{Before, Rearrangement}
use Rattle.rules.specs.Reordering.{Answer, EachOnce, Inverts, LeastInverted, Accepts, Reordered, Reorders, ReordersAsAccepted}
use Rattle.rules.specs.Exchanging.{table_of, OnlyUntouchingNeighboursExchange}
use Rattle.rules.proofs.Lists.{among_map}
use Rattle.rules.proofs.Orders.{OwnKeys, first, second, one_first, unlike, key_once, before_map}
use Rattle.rules.proofs.Names.{well_named}
use Rattle.rules.proofs.Related.{TablesAlike}
use Rattle.rules.proofs.Reorders.{reordered_names, reorders_alike, same_order}

-- ---- neighbours that do not touch

module _ (x y : StatementRow) (below : List StatementRow) where
  turned : (s : StatementRow) (above : List StatementRow) → Among s (above ++ x ∷ y ∷ below) → Among s (above ++ y ∷ x ∷ below)
  turned s [] (inl p) = inr (inl p)
  turned s [] (inr (inl p)) = inl p
  turned s [] (inr (inr k)) = inr (inr k)
  turned s (z ∷ above) (inl p) = inl p
  turned s (z ∷ above) (inr k) = inr (turned s above k)

  kept_order : (Touch x y → ⊥) → (above : List StatementRow) (a b : StatementRow) → Touch a b
      → Before a b (above ++ x ∷ y ∷ below) → Before a b (above ++ y ∷ x ∷ below)
  kept_order apart [] a b t (inl (p, inl q)) = absurd (apart (subst₂ Touch (sym p) (sym q) t))
  kept_order apart [] a b t (inl (p, inr k)) = inr (inl (p, k))
  kept_order apart [] a b t (inr (inl (p, k))) = inl (p, inr k)
  kept_order apart [] a b t (inr (inr k)) = inr (inr k)
  kept_order apart (z ∷ above) a b t (inl (p, k)) = inl (p, turned b above k)
  kept_order apart (z ∷ above) a b t (inr k) = inr (kept_order apart above a b t k)

  -- x stands above y
  pub stands_above : (above : List StatementRow) → Before x y (above ++ x ∷ y ∷ below)
  stands_above [] = inl (refl, inl refl)
  stands_above (z ∷ above) = inr (stands_above above)

  own_turned : (above : List StatementRow) → OwnKeys row_name (above ++ x ∷ y ∷ below) → Before x y (above ++ y ∷ x ∷ below) → ⊥
  own_turned [] d (inl (p, k)) = key_once row_name x y (y ∷ below) d (inl refl) (ap row_name p)
  own_turned [] d (inr (inl (p, k))) = d.1.0 (among_map row_name y below k)
  own_turned [] d (inr (inr k)) = key_once row_name x x (y ∷ below) d (inr (first x y below k)) refl
  own_turned (z ∷ above) d (inl (p, k)) = key_once row_name z x (above ++ x ∷ y ∷ below) d (first x y _ (stands_above above)) (sym (ap row_name p))
  own_turned (z ∷ above) d (inr k) = own_turned above d.1 k

-- ---- accepted orders

module _ (order : List ℕ) (t t' : TableRows) (r : Answer) where
  accepted : Reorders order t r t' → (r ≡ Ok 0) ↔ Accepts t.statements order
  accepted (inl p) = (λ _. p.accepts, λ _. p.answer)
  accepted (inr (inl p)) =
      (λ e. let z : ◌≡◌ {A = ℕ} 0 1 = cc (e, p.answer) in absurd (omega arith), λ a. absurd (p.not_whole a.whole))
  accepted (inr (inr p)) =
      (λ e. let z : ◌≡◌ {A = ℕ} 0 1 = cc (e, p.answer) in absurd (omega arith), λ a. absurd (a.none_inverted p.earlier p.later p.least.inverts))

  accepted_rearranges : table_keeps t ≡ true → Reordered order t r t' → Rearrangement t t'
  accepted_rearranges k p =
      let n = well_named t k in
      let d' = reordered_names order t t' r p in
      record {
        same = p.same;
        plans = sym p.plans;
        order = λ a b touch u.
            let ma = (p.same a).0 (first a b t.statements u) in
            let mb = (p.same b).0 (second a b t.statements u) in
            elim (one_first a b t'.statements ma mb (unlike row_name a b t.statements n.own u)) [
              | inl v ↦ v
              | inr v ↦ absurd (p.accepts.none_inverted a.name b.name (record {
                earlier = a;
                later = b;
                named_a = refl;
                named_b = refl;
                touch = touch;
                stands = u;
                inverted = subst (Before b.name a.name) p.ordered (before_map row_name b a t'.statements v);
              }))
            ];
      }

-- a table is alike to itself
self_alike : (t : TableRows) → table_keeps t ≡ true → TablesAlike t t
self_alike t k =
    let n = well_named t k in
    record {
      statements = record {
        named = λ s m. (n.bounds s m).0;
        distinct = n.own;
        distinct_too = n.own;
        same = λ s. (λ m. m, λ m. m);
        order = λ a b touch u. u;
      };
      plans = refl;
    }

-- one table after a reorder
after_once : (order : List ℕ) (t t' u' : TableRows) (r s : Answer) → table_keeps t ≡ true → r ≡ s
    → Reorders order t r t' → Reorders order t s u' → t' ≡ u'
after_once order t t' u' r s k e (inl p) (inl q) =
    let one = same_order t'.statements u'.statements (p.ordered ∙ sym q.ordered)
    (reordered_names order t t' r p) (reordered_names order t u' s q) (λ x m. (q.same x).0 ((p.same x).1 m)) in
    λ i. record { statements = one i; plans = (p.plans ∙ sym q.plans) i }
after_once order t t' u' r s k e (inl p) (inr (inl q)) = absurd (q.not_whole p.accepts.whole)
after_once order t t' u' r s k e (inl p) (inr (inr q)) = absurd (p.accepts.none_inverted q.earlier q.later q.least.inverts)
after_once order t t' u' r s k e (inr (inl p)) (inl q) = absurd (p.not_whole q.accepts.whole)
after_once order t t' u' r s k e (inr (inl p)) (inr (inl q)) = p.kept ∙ sym q.kept
after_once order t t' u' r s k e (inr (inl p)) (inr (inr q)) = absurd (p.not_whole q.whole)
after_once order t t' u' r s k e (inr (inr p)) (inl q) = absurd (q.accepts.none_inverted p.earlier p.later p.least.inverts)
after_once order t t' u' r s k e (inr (inr p)) (inr (inl q)) = absurd (q.not_whole p.whole)
after_once order t t' u' r s k e (inr (inr p)) (inr (inr q)) = p.kept ∙ sym q.kept

pub reorders_as_accepted : ReordersAsAccepted
reorders_as_accepted = record {
  accepted = accepted;
  one_answer = λ order t t' u' r s k p q.
      let answers = (reorders_alike order t t t' u' r s (self_alike t k) p q).0 in
      (answers, after_once order t t' u' r s k answers p q);
  rearranged = accepted_rearranges;
}

-- ---- two that touch

module _ (x y : StatementRow) (plans : List PlanRow) (touch : Touch x y) (keeps : table_keeps (table_of (x ∷ y ∷ []) plans) ≡ true) where
  abbrev two : TableRows
  two = table_of (x ∷ y ∷ []) plans

  abbrev inverse : List ℕ
  inverse = y.name ∷ x.name ∷ []

  differ : y.name ≡ x.name → ⊥
  differ e = key_once row_name x y (y ∷ []) (well_named two keeps).own (inl refl) e

  swapped : (n : ℕ) (a b : ℕ) → Among n (a ∷ b ∷ []) → Among n (b ∷ a ∷ [])
  swapped n a b (inl p) = inr (inl p)
  swapped n a b (inr (inl p)) = inl p
  swapped n a b (inr (inr k)) = absurd k

  whole : EachOnce inverse (x ∷ y ∷ [])
  whole = record {
    once = twice y.name x.name differ;
    all = λ n. (swapped n y.name x.name, swapped n x.name y.name);
  }
    where
      twice : (a b : ℕ) → (a ≡ b → ⊥) → distinct (a ∷ b ∷ []) ≡ true
      twice a b d = ap (λ e. not (e || false) && (true && true)) (ne_eqb a b d)

  inverts : Inverts inverse (x ∷ y ∷ []) x.name y.name
  inverts = record {
    earlier = x;
    later = y;
    named_a = refl;
    named_b = refl;
    touch = touch;
    stands = inl (refl, inl refl);
    inverted = inl (refl, inl refl);
  }

  -- there is no other pair
  only_pair : (a b : StatementRow) → Before a b (x ∷ y ∷ []) → (x ≡ a) × (y ≡ b)
  only_pair a b (inl (p, inl q)) = (p, q)
  only_pair a b (inl (p, inr k)) = absurd k
  only_pair a b (inr (inl (p, k))) = absurd k
  only_pair a b (inr (inr k)) = absurd k

  least : LeastInverted inverse (x ∷ y ∷ []) x.name y.name
  least = record {
    inverts = inverts;
    least = λ c d i.
        let pair = only_pair i.earlier i.later i.stands in
        let a : x.name ≡ c = ap row_name pair.0 ∙ i.named_a in
        let b : y.name ≡ d = ap row_name pair.1 ∙ i.named_b in
        inr (a, omega arith);
  }

  refusal : Reorders inverse two (Err (told (TouchingPair (record { 0 = x.name }) (record { 0 = y.name })))) two
  refusal = inr (inr (record { earlier = x.name; later = y.name; answer = refl; whole = whole; least = least; kept = refl }))

  pub refused : (r : Answer) (t' : TableRows) → Reorders inverse two r t'
      ↔ ((r ≡ Err (told (TouchingPair (record { 0 = x.name }) (record { 0 = y.name })))) × (t' ≡ two))
  refused r t' = (
    λ k. reorders_as_accepted.one_answer inverse two t' two r _ keeps k refusal,
    λ k. subst₂ (Reorders inverse two) (sym k.0) (sym k.1) refusal,
  )

pub only_untouching_neighbours_exchange : OnlyUntouchingNeighboursExchange
only_untouching_neighbours_exchange = record {
  apart = λ above below x y plans apart. record {
    same = λ s. (turned x y below s above, turned y x below s above);
    order = kept_order x y below apart above;
    plans = refl;
  };
  touching = λ above below x y plans touch keeps r.
      own_turned x y below above (well_named (table_of (above ++ x ∷ y ∷ below) plans) keeps).own (r.order x y touch (stands_above x y below above));
  refused = refused;
}
