-- What a code stands for: found from the front, and the inverse of giving the code.
use Rattle.std.proofs.Common.{◌≡◌, ℕ, zero, suc, ◌+◌, ◌<◌, ◌≤◌, Bool, true, not, eqb, leb, List, [], ◌∷◌, ◌++◌, map, Some, None, sym, refl, ap, ◌∙◌, subst, inl, inr, ⊎_elim, arith}
use Rattle.std.specs.List.{range_with_len, flat_map}
use Rattle.std.proofs.lemmas.Bool.{cases_Bool, cond-true, cond-false, eqb-true, leb-true, eq-eqb, ne_eqb, and_parts, not-true, both_ways, cases_order}
use Rattle.tables.specs.Lists.{Among, member, distinct, every}
use Rattle.tables.specs.Decoded.{decoded}

module _ {X : Type 0} (coded : X → ℕ) where
  -- what a code stands for has that code
  pub decoded_has_code : (all : List X) (c : ℕ) (x : X) → decoded coded all c ≡ Some x → (coded x ≡ c) × Among x all
  decoded_has_code [] c x e = let z : ◌≡◌ {A = ℕ} 0 1 = cc in absurd (omega arith)
  decoded_has_code (y ∷ all) c x e =
      ⊎_elim
      (λ is.
      let same : y ≡ x = let s = cond-true (eqb (coded y) c) (Some y) (decoded coded all c) is in cc in
      (subst (λ z. coded z ≡ c) same (eqb-true (coded y) c is), inl same))
      (λ isnt.
      let rest = decoded_has_code all c x (sym (cond-false (eqb (coded y) c) (Some y) (decoded coded all c) isnt) ∙ e) in
      (rest.0, inr rest.1))
      (cases_Bool (eqb (coded y) c))

  coded_member : (all : List X) (x : X) → Among x all → member (coded x) (map coded all) ≡ true
  coded_member [] x there = absurd there
  coded_member (y ∷ all) x (inl same) =
      let e = eq-eqb (coded x) (coded y) (ap coded (sym same)) in grind arith
  coded_member (y ∷ all) x (inr there) =
      let e = coded_member all x there in ⊎_elim (λ is. grind arith) (λ isnt. grind arith) (cases_Bool (eqb (coded x) (coded y)))

  -- and where no two have one code, each is what its code stands for
  pub code_decodes : (all : List X) → distinct (map coded all) ≡ true → (x : X) → Among x all → decoded coded all (coded x) ≡ Some x
  code_decodes [] apart x there = absurd there
  code_decodes (y ∷ all) apart x (inl same) =
      cond-true (eqb (coded y) (coded x)) (Some y) (decoded coded all (coded x)) (eq-eqb (coded y) (coded x) (ap coded same)) ∙ ap Some same
  code_decodes (y ∷ all) apart x (inr there) =
      let two = and_parts (not (member (coded y) (map coded all))) (distinct (map coded all)) apart in
      ⊎_elim
      (λ is. absurd (both_ways (member (coded y) (map coded all)) (not-true (member (coded y) (map coded all)) two.0)
      (subst (λ c. member c (map coded all) ≡ true) (sym (eqb-true (coded y) (coded x) is)) (coded_member all x there))))
      (λ isnt. cond-false (eqb (coded y) (coded x)) (Some y) (decoded coded all (coded x)) isnt ∙ code_decodes all two.1 x there)
      (cases_Bool (eqb (coded y) (coded x)))

-- where an element of a list made of others stands

pub among_left : {X : Type 0} (x : X) (xs ys : List X) → Among x xs → Among x (xs ++ ys)
among_left x [] ys there = absurd there
among_left x (y ∷ xs) ys (inl same) = inl same
among_left x (y ∷ xs) ys (inr there) = inr (among_left x xs ys there)

pub among_right : {X : Type 0} (x : X) (xs ys : List X) → Among x ys → Among x (xs ++ ys)
among_right x [] ys there = there
among_right x (y ∷ xs) ys there = inr (among_right x xs ys there)

pub among_map : {X Y : Type 0} (f : X → Y) (x : X) (xs : List X) → Among x xs → Among (f x) (map f xs)
among_map f x [] there = absurd there
among_map f x (y ∷ xs) (inl same) = inl (ap f same)
among_map f x (y ∷ xs) (inr there) = inr (among_map f x xs there)

pub among_counting : (n a k : ℕ) → a ≤ k → k < a + n → Among k (range_with_len a n)
among_counting zero a k low high = absurd (omega arith)
among_counting (suc n) a k low high =
    ⊎_elim (λ same. inl same)
    (⊎_elim (λ more. inr (among_counting n (a + 1) k (omega arith) (omega arith))) (λ less. absurd (omega arith)))
    (cases_order a k)

pub among_joined : {X Y : Type 0} (f : X → List Y) (y : Y) (x : X) (xs : List X) → Among y (f x) → Among x xs → Among y (flat_map f xs)
among_joined f y x [] here there = absurd there
among_joined f y x (z ∷ xs) here (inl same) = among_left y (f z) (flat_map f xs) (subst (λ w. Among y (f w)) (sym same) here)
among_joined f y x (z ∷ xs) here (inr there) = among_right y (f z) (flat_map f xs) (among_joined f y x xs here there)

-- what every element passes, each passes
pub every_at : {X : Type 0} (p : X → Bool) (xs : List X) (x : X) → every p xs ≡ true → Among x xs → p x ≡ true
every_at p [] x all there = absurd there
every_at p (y ∷ xs) x all (inl same) = subst (λ z. p z ≡ true) same (and_parts (p y) (every p xs) all).0
every_at p (y ∷ xs) x all (inr there) = every_at p xs x (and_parts (p y) (every p xs) all).1 there

-- a code past the last stands for nothing
pub decoded_past : {X : Type 0} (coded : X → ℕ) (all : List X) (last c : ℕ) → every (λ x. leb (coded x) last) all ≡ true → last < c → decoded coded all c ≡ None
decoded_past coded [] last c under past = refl
decoded_past coded (x ∷ all) last c under past =
    let two = and_parts (leb (coded x) last) (every (λ y. leb (coded y) last) all) under in
    let le = leb-true (coded x) last two.0 in
    cond-false (eqb (coded x) c) (Some x) (decoded coded all c) (ne_eqb (coded x) c (λ e. omega arith)) ∙ decoded_past coded all last c two.1 past
