-- What one more at a list's end changes, and how what each of a list passes follows.
use Rattle.std.proofs.Common.{◌≡◌, ◌==◌, ℕ, Bool, true, false, cond, not, ◌&&◌, ◌||◌, eqb, ltb, leb, List, [], ◌∷◌, ◌++◌, map, length, sym, refl, ap, ◌∙◌, arith}
use Rattle.std.proofs.lemmas.List.{map-append, length_push}
use Rattle.std.proofs.lemmas.List.Folds.{list_all-append, list_any-append, list_all-map}
use Rattle.std.proofs.lemmas.Bool.{and_parts, and_from, or_parts, or_from, or_left, not-true, not_from_false, eqb-false, ne_eqb, leb-false, le-leb}
use Rattle.tables.specs.Lists.{every, member, distinct, rising}
use Rattle.documents.specs.Fields.{Piece, field, bodies, latest}
use Rattle.documents.proofs.Taking.{more}

module _ {X : Type 0} where
  -- a list that is below a limit is within it with one more
  pub one_more_fits : (limit : ℕ) (xs : List X) (x : X) → leb limit (length xs) ≡ false → leb (length (xs ++ x ∷ [])) limit ≡ true
  one_more_fits limit xs x few =
      let below = leb-false limit (length xs) few in
      let n = length_push xs x in
      le-leb (length (xs ++ x ∷ [])) limit (omega arith)

  module _ (passes : X → Bool) where
    -- where each passes and the added one does, each does
    pub every_push : (xs : List X) (x : X) → every passes xs ≡ true → passes x ≡ true → every passes (xs ++ x ∷ []) ≡ true
    every_push xs x all this = list_all-append passes xs (x ∷ []) ∙ and_from (every passes xs) (passes x && true) all (and_from (passes x) true this refl)

    -- where one test follows from another, each passes that passes the other
    pub every_weaker : (weaker : X → Bool) → ((x : X) → passes x ≡ true → weaker x ≡ true) → (xs : List X) → every passes xs ≡ true → every weaker xs ≡ true
    every_weaker weaker so [] all = refl
    every_weaker weaker so (x ∷ xs) all =
        let two = and_parts (passes x) (every passes xs) all in
        and_from (weaker x) (every weaker xs) (so x two.0) (every_weaker weaker so xs two.1)

    -- each image passes where each element's does
    pub every_map : {Y : Type 0} (f : Y → X) (ys : List Y) → every (λ y. passes (f y)) ys ≡ true → every passes (map f ys) ≡ true
    every_map f ys all = list_all-map passes f ys ∙ all

-- a member stays one
pub member_push : (n : ℕ) (ms : List ℕ) (m : ℕ) → member n ms ≡ true → member n (ms ++ m ∷ []) ≡ true
member_push n ms m in' = list_any-append (λ k. n == k) ms (m ∷ []) ∙ or_left (member n ms) ((n == m) || false) in'

-- what is neither in a list nor the added number is not in both together
pub not_member_push : (n : ℕ) (ms : List ℕ) (m : ℕ) → member n ms ≡ false → eqb n m ≡ false → member n (ms ++ m ∷ []) ≡ false
not_member_push n ms m out other = list_any-append (λ k. n == k) ms (m ∷ []) ∙ or_from (member n ms) (eqb n m || false) out (or_from (eqb n m) false other refl)

-- numbers that all differ, and one that is not among them, all differ
pub distinct_push : (ms : List ℕ) (m : ℕ) → distinct ms ≡ true → member m ms ≡ false → distinct (ms ++ m ∷ []) ≡ true
distinct_push [] m apart out = refl
distinct_push (k ∷ ms) m apart out =
    let two = and_parts (not (member k ms)) (distinct ms) apart in
    let neither = or_parts (eqb m k) (member m ms) out in
    let other : eqb k m ≡ false = ne_eqb k m (λ e. eqb-false m k neither.0 (sym e)) in
    let still = not_member_push k ms m (not-true (member k ms) two.0) other in
    and_from (not (member k (ms ++ m ∷ []))) (distinct (ms ++ m ∷ []))
    (not_from_false (member k (ms ++ m ∷ [])) still)
    (distinct_push ms m two.1 neither.1)

-- numbers that rise, and one above the last of them, rise
pub rising_push : (floor : ℕ) (ms : List ℕ) (m : ℕ) → rising floor ms ≡ true → ltb (latest floor ms) m ≡ true → rising floor (ms ++ m ∷ []) ≡ true
rising_push floor [] m up above = and_from (ltb floor m) true above refl
rising_push floor (k ∷ ms) m up above =
    let two = and_parts (ltb floor k) (rising k ms) up in
    and_from (ltb floor k) (rising k (ms ++ m ∷ [])) two.0 (rising_push k ms m two.1 above)

-- what the bodies of a tag say, with one more field of that tag
pub said_more : {X : Type 0} (says : List ℕ → X) (t place : ℕ) (body : List ℕ) (ps : List Piece) → cond (eqb t t) (body ∷ []) [] ≡ body ∷ [] → map says (bodies t (ps ++ field place t body ∷ [])) ≡ map says (bodies t ps) ++ says body ∷ []
said_more says t place body ps is = ap (map says) (more place body ps t is) ∙ map-append says (bodies t ps) (body ∷ [])
