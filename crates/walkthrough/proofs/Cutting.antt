-- A cut out of a list, where it may pass the list's end.
use Rattle.std.proofs.Common.{◌≡◌, ℕ, ◌+◌, ◌-◌, min, List, ◌++◌, length, take, drop, sym, ap, ◌∙◌}
use Rattle.std.specs.List.{splice}
use Rattle.std.proofs.lemmas.List.{take_min, drop_min, drop-drop, length-drop}

module _ (xs ys : List ℕ) (place taken start count : ℕ) (starts : start ≡ min place (length xs)) (counts : count ≡ min taken (length xs - start)) where
  -- what lies before the cut, and what lies behind it
  front : take start xs ≡ take place xs
  front = ap (λ n. take n xs) starts ∙ take_min place xs

  behind : drop start xs ≡ drop place xs
  behind = ap (λ n. drop n xs) starts ∙ drop_min place xs

  back : drop (start + count) xs ≡ drop (place + taken) xs
  back =
      sym (drop-drop count start xs)
      ∙ ap (λ n. drop n (drop start xs)) (counts ∙ ap (min taken) (sym (length-drop start xs)))
      ∙ drop_min taken (drop start xs)
      ∙ ap (drop taken) behind
      ∙ drop-drop taken place xs

  -- a cut kept within the list is the same cut
  pub splice_within : splice xs start (start + count) ys ≡ splice xs place (place + taken) ys
  splice_within = ap (λ l. l ++ (ys ++ drop (start + count) xs)) front ∙ ap (λ l. take place xs ++ (ys ++ l)) back
