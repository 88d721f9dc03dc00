-- A table and its rearrangement answer a reorder alike, and are alike after it.
use Rattle.std.proofs.Common.{◌≡◌, ℕ, ◌<◌, ◌≤◌, true, ◌⊎◌, ◌↔◌, List, [], ◌∷◌, Err, sym, refl, ap, ◌∙◌, subst, ap₂, subst₂, inl, inr, arith}
use Rattle.tables.specs.declared.refusal.Refusal.TheVariants.{TouchingPair}
use Rattle.tables.specs.Lists.{Among, distinct}
use Rattle.tables.specs.Refusals.{told}
use Rattle.tables.specs.Rows.{StatementRow, TableRows, row_name}
use Rattle.rules.specs.Reordering.{Answer, names, EachOnce, Inverts, LeastInverted, Reordered, Reorders}
use Rattle.rules.proofs.Lists.{among_map, among_unmap}
use Rattle.rules.proofs.Orders.{OwnKeys, first, second, one_first, one_way, unlike, key_once}
use Rattle.rules.proofs.Swap.{touch_back}
use Rattle.rules.proofs.Moves.{Shuffle}
use Rattle.rules.proofs.Names.{own_names}
use Rattle.rules.proofs.Related.{TablesAlike}

-- a rearrangement goes both ways
pub shuffle_back : (xs ys : List StatementRow) → Shuffle xs ys → Shuffle ys xs
shuffle_back xs ys r = record {
  named = λ s m. r.named s ((r.same s).1 m);
  distinct = r.distinct_too;
  distinct_too = r.distinct;
  same = λ s. ((r.same s).1, (r.same s).0);
  order = λ a b t k. elim (one_first a b xs ((r.same a).1 (first a b ys k)) ((r.same b).1 (second a b ys k)) (unlike row_name a b ys r.distinct_too k)) [
    | inl u ↦ u
    | inr u ↦ absurd (one_way row_name a b ys r.distinct_too k (r.order b a (touch_back a b t) u))
  ];
}

names_over : (xs ys : List StatementRow) → ((s : StatementRow) → Among s xs → Among s ys) → (n : ℕ) → Among n (names xs) → Among n (names ys)
names_over xs ys h n m =
    let r = among_unmap row_name n xs m in
    subst (λ k. Among k (names ys)) r.2 (among_map row_name r.0 ys (h r.0 r.1))

whole_over : (order : List ℕ) (xs ys : List StatementRow) → ((s : StatementRow) → Among s xs ↔ Among s ys) → EachOnce order xs → EachOnce order ys
whole_over order xs ys same w = record {
  once = w.once;
  all = λ n. (λ m. names_over xs ys (λ s. (same s).0) n ((w.all n).0 m), λ m. (w.all n).1 (names_over ys xs (λ s. (same s).1) n m));
}

inverts_over : (order : List ℕ) (xs ys : List StatementRow) → Shuffle xs ys → (a b : ℕ) → Inverts order xs a b → Inverts order ys a b
inverts_over order xs ys r a b t = record {
  earlier = t.earlier;
  later = t.later;
  named_a = t.named_a;
  named_b = t.named_b;
  touch = t.touch;
  stands = r.order t.earlier t.later t.touch t.stands;
  inverted = t.inverted;
}

-- there is one least pair
least_pair : (a b c d : ℕ) → (a < c) ⊎ ((a ≡ c) × (b ≤ d)) → (c < a) ⊎ ((c ≡ a) × (d ≤ b)) → (a ≡ c) × (b ≡ d)
least_pair a b c d (inl p) (inl q) = absurd (omega arith)
least_pair a b c d (inl p) (inr q) = absurd (omega (arith, q.0))
least_pair a b c d (inr p) (inl q) = absurd (omega (arith, p.0))
least_pair a b c d (inr p) (inr q) = (p.0, omega (arith, p.1, q.1))

pub least_once : (order : List ℕ) (xs ys : List StatementRow) → Shuffle xs ys → (a b c d : ℕ) → LeastInverted order xs a b → LeastInverted order ys c d → (a ≡ c) × (b ≡ d)
least_once order xs ys r a b c d l m =
    least_pair a b c d
    (l.least c d (inverts_over order ys xs (shuffle_back xs ys r) c d m.inverts))
    (m.least a b (inverts_over order xs ys r a b l.inverts))

-- ---- where both are accepted, the tables are one

-- two lists of the same names and members are one
pub same_order : (xs ys : List StatementRow) → names xs ≡ names ys → OwnKeys row_name xs → OwnKeys row_name ys → ((s : StatementRow) → Among s xs → Among s ys) → xs ≡ ys
same_order [] [] e d f h = refl
same_order [] (y ∷ ys) e d f h = absurd (let z : ◌≡◌ {A = ℕ} 0 1 = cc e in omega arith)
same_order (x ∷ xs) [] e d f h = absurd (h x (inl refl))
same_order (x ∷ xs) (y ∷ ys) e d f h =
    let n : x.name ≡ y.name = cc e in
    let rest : names xs ≡ names ys = cc e in
    let same : x ≡ y = elim (h x (inl refl)) [ inl p ↦ sym p | inr m ↦ absurd (key_once row_name y x ys f m n) ] in
    ap₂ (λ (a : StatementRow) (zs : List StatementRow). a ∷ zs) same
    (same_order xs ys rest d.1 f.1
    (λ s m. elim (h s (inr m)) [ inl p ↦ absurd (key_once row_name x s xs d m (sym (ap row_name p) ∙ sym n)) | inr k ↦ k ]))

-- the statements of an accepted order have each a name of its own
pub reordered_names : (order : List ℕ) (t t' : TableRows) (r : Answer) → Reordered order t r t' → OwnKeys row_name t'.statements
reordered_names order t t' r p = own_names t'.statements (subst (λ ns. distinct ns ≡ true) (sym p.ordered) p.accepts.whole.once)

itself : (xs : List StatementRow) → ((s : StatementRow) → Among s xs → 1 ≤ s.name) → OwnKeys row_name xs → Shuffle xs xs
itself xs n d = record { named = n; distinct = d; distinct_too = d; same = λ s. (λ m. m, λ m. m); order = λ a b t k. k }

module _ (order : List ℕ) (t u t' u' : TableRows) (r s : Answer) (a : TablesAlike t u) where
  over : EachOnce order t.statements → EachOnce order u.statements
  over = whole_over order t.statements u.statements a.statements.same

  back_over : EachOnce order u.statements → EachOnce order t.statements
  back_over = whole_over order u.statements t.statements (shuffle_back t.statements u.statements a.statements).same

  both_accepted : Reordered order t r t' → Reordered order u s u' → TablesAlike t' u'
  both_accepted p q =
      let dt = reordered_names order t t' r p in
      let du = reordered_names order u u' s q in
      let one : t'.statements ≡ u'.statements = same_order t'.statements u'.statements (p.ordered ∙ sym q.ordered) dt du
      (λ x m. (q.same x).0 ((a.statements.same x).0 ((p.same x).1 m))) in
      record {
        statements = subst (Shuffle t'.statements) one (itself t'.statements (λ x m. a.statements.named x ((p.same x).1 m)) dt);
        plans = p.plans ∙ a.plans ∙ sym q.plans;
      }

  kept : t' ≡ t → u' ≡ u → TablesAlike t' u'
  kept p q = subst₂ TablesAlike (sym p) (sym q) a

  pub reorders_alike : Reorders order t r t' → Reorders order u s u' → (r ≡ s) × TablesAlike t' u'
  reorders_alike (inl p) (inl q) = (p.answer ∙ sym q.answer, both_accepted p q)
  reorders_alike (inl p) (inr (inl q)) = absurd (q.not_whole (over p.accepts.whole))
  reorders_alike (inl p) (inr (inr q)) =
      absurd (p.accepts.none_inverted q.earlier q.later
      (inverts_over order u.statements t.statements (shuffle_back t.statements u.statements a.statements) q.earlier q.later q.least.inverts))
  reorders_alike (inr (inl p)) (inl q) = absurd (p.not_whole (back_over q.accepts.whole))
  reorders_alike (inr (inl p)) (inr (inl q)) = (p.answer ∙ sym q.answer, kept p.kept q.kept)
  reorders_alike (inr (inl p)) (inr (inr q)) = absurd (p.not_whole (back_over q.whole))
  reorders_alike (inr (inr p)) (inl q) =
      absurd (q.accepts.none_inverted p.earlier p.later (inverts_over order t.statements u.statements a.statements p.earlier p.later p.least.inverts))
  reorders_alike (inr (inr p)) (inr (inl q)) = absurd (q.not_whole (over p.whole))
  reorders_alike (inr (inr p)) (inr (inr q)) =
      let l = least_once order t.statements u.statements a.statements p.earlier p.later q.earlier q.later p.least q.least in
      (p.answer ∙ ap₂ (λ x y. Err (told (TouchingPair (record { 0 = x }) (record { 0 = y })))) l.0 l.1 ∙ sym q.answer, kept p.kept q.kept)
