-- A change of marks keeps a rearrangement.
use Rattle.std.proofs.Common.{◌≡◌, ℕ, ◌≤◌, List, [], ◌∷◌, map, sym, refl, ap, subst, subst₂}
use Rattle.tables.specs.declared.statement.Mark.{Mark}
use Rattle.tables.specs.Lists.{Among}
use Rattle.tables.specs.Rows.{StatementRow, row_name}
use Rattle.rules.specs.Touching.{Touch}
use Rattle.rules.specs.Rearranging.{Before}
use Rattle.rules.specs.Calls.{with_mark}
use Rattle.rules.proofs.Lists.{among_map, among_unmap}
use Rattle.rules.proofs.Orders.{OwnKeys, before_map, before_unmap}
use Rattle.rules.proofs.Moves.{Shuffle}

module _ (n : ℕ) (m : Mark) where
  pub same_names : (xs : List StatementRow) → map row_name (map (with_mark n m) xs) ≡ map row_name xs
  same_names [] = refl
  same_names (x ∷ xs) = ap (λ ns. x.name ∷ ns) (same_names xs)

  own_marked : (xs : List StatementRow) → OwnKeys row_name xs → OwnKeys row_name (map (with_mark n m) xs)
  own_marked [] d = tt
  own_marked (x ∷ xs) d = (λ k. d.0 (subst (Among x.name) (same_names xs) k), own_marked xs d.1)

  over : (xs ys : List StatementRow) → ((s : StatementRow) → Among s xs → Among s ys) → (t : StatementRow) → Among t (map (with_mark n m) xs) → Among t (map (with_mark n m) ys)
  over xs ys h t k =
      let r = among_unmap (with_mark n m) t xs k in
      subst (λ w. Among w (map (with_mark n m) ys)) r.2 (among_map (with_mark n m) r.0 ys (h r.0 r.1))

  pub shuffle_marked : (xs ys : List StatementRow) → Shuffle xs ys → Shuffle (map (with_mark n m) xs) (map (with_mark n m) ys)
  shuffle_marked xs ys r = record {
    named = λ y k. let u = among_unmap (with_mark n m) y xs k in subst (λ (w : StatementRow). 1 ≤ w.name) u.2 (r.named u.0 u.1);
    distinct = own_marked xs r.distinct;
    distinct_too = own_marked ys r.distinct_too;
    same = λ t. (over xs ys (λ s. (r.same s).0) t, over ys xs (λ s. (r.same s).1) t);
    order = λ a b t k.
        let u = before_unmap (with_mark n m) a b xs k in
        let touch : Touch u.0 u.1 = subst₂ Touch (sym u.3) (sym u.4) t in
        subst₂ (λ x y. Before x y (map (with_mark n m) ys)) u.3 u.4 (before_map (with_mark n m) u.0 u.1 ys (r.order u.0 u.1 touch u.2));
  }
