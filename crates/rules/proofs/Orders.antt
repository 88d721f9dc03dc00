-- Which of two stands first, in lists whose statements have each a name of its own.
use Rattle.std.proofs.Common.{◌≡◌, ◌⊎◌, List, [], ◌∷◌, map, sym, refl, ap, ◌∙◌, subst, subst₂, inl, inr}
use Rattle.tables.specs.Lists.{Among}
use Rattle.rules.specs.Rearranging.{Before}
use Rattle.rules.proofs.Lists.{among_map, among_unmap}

-- each of a list has a key of its own
abbrev pub OwnKeys : {X K : Type 0} → (X → K) → List X → Type 0
OwnKeys key [] = Unit {0}
OwnKeys key (x ∷ xs) = (Among (key x) (map key xs) → ⊥) × OwnKeys key xs

pub first : {X : Type 0} (a b : X) (xs : List X) → Before a b xs → Among a xs
first a b [] t = absurd t
first a b (y ∷ ys) (inl t) = inl t.0
first a b (y ∷ ys) (inr t) = inr (first a b ys t)

pub second : {X : Type 0} (a b : X) (xs : List X) → Before a b xs → Among b xs
second a b [] t = absurd t
second a b (y ∷ ys) (inl t) = inr t.1
second a b (y ∷ ys) (inr t) = inr (second a b ys t)

-- of two of a list, one stands first
pub one_first : {X : Type 0} (a b : X) (xs : List X) → Among a xs → Among b xs → (a ≡ b → ⊥) → Before a b xs ⊎ Before b a xs
one_first a b [] m k d = absurd m
one_first a b (x ∷ xs) (inl p) (inl q) d = absurd (d (sym p ∙ q))
one_first a b (x ∷ xs) (inl p) (inr k) d = inl (inl (p, k))
one_first a b (x ∷ xs) (inr m) (inl q) d = inr (inl (q, m))
one_first a b (x ∷ xs) (inr m) (inr k) d = elim (one_first a b xs m k d) [ inl t ↦ inl (inr t) | inr t ↦ inr (inr t) ]

pub before_map : {X Y : Type 0} (f : X → Y) (a b : X) (xs : List X) → Before a b xs → Before (f a) (f b) (map f xs)
before_map f a b [] k = k
before_map f a b (x ∷ xs) (inl k) = inl (ap f k.0, among_map f b xs k.1)
before_map f a b (x ∷ xs) (inr k) = inr (before_map f a b xs k)

pub before_unmap : {X Y : Type 0} (f : X → Y) (a b : Y) (xs : List X) → Before a b (map f xs)
    → (p : X) × (q : X) × Before p q xs × (f p ≡ a) × (f q ≡ b)
before_unmap f a b [] k = absurd k
before_unmap f a b (x ∷ xs) (inl k) = let r = among_unmap f b xs k.1 in (x, r.0, inl (refl, r.1), k.0, r.2)
before_unmap f a b (x ∷ xs) (inr k) = let r = before_unmap f a b xs k in (r.0, r.1, inr r.2, r.3, r.4)

module _ {X K : Type 0} (key : X → K) where
  -- a key is that of one only
  pub key_once : (x y : X) (xs : List X) → OwnKeys key (x ∷ xs) → Among y xs → key y ≡ key x → ⊥
  key_once x y xs d m e = d.0 (subst (λ k. Among k (map key xs)) e (among_map key y xs m))

  -- and only one
  pub one_way : (a b : X) (xs : List X) → OwnKeys key xs → Before a b xs → Before b a xs → ⊥
  one_way a b [] d t u = t
  one_way a b (x ∷ xs) d (inl t) (inl u) = key_once x a xs d u.1 (sym (ap key t.0))
  one_way a b (x ∷ xs) d (inl t) (inr u) = key_once x a xs d (second b a xs u) (sym (ap key t.0))
  one_way a b (x ∷ xs) d (inr t) (inl u) = key_once x b xs d (second a b xs t) (sym (ap key u.0))
  one_way a b (x ∷ xs) d (inr t) (inr u) = one_way a b xs d.1 t u

  pub unlike : (a b : X) (xs : List X) → OwnKeys key xs → Before a b xs → a ≡ b → ⊥
  unlike a b xs d t e = one_way a b xs d t (subst₂ (λ x y. Before x y xs) e (sym e) t)

  -- two members with one key are one
  pub same_key : (a b : X) (xs : List X) → OwnKeys key xs → Among a xs → Among b xs → key a ≡ key b → a ≡ b
  same_key a b [] d m k e = absurd m
  same_key a b (x ∷ xs) d (inl p) (inl q) e = sym p ∙ q
  same_key a b (x ∷ xs) d (inl p) (inr k) e = absurd (key_once x b xs d k (sym e ∙ sym (ap key p)))
  same_key a b (x ∷ xs) d (inr m) (inl q) e = absurd (key_once x a xs d m (e ∙ sym (ap key q)))
  same_key a b (x ∷ xs) d (inr m) (inr k) e = same_key a b xs d.1 m k e
