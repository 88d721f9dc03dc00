-- In a list of rules with ascending numbers, the first number that applies is the least.
use Rattle.std.proofs.Common.{◌≡◌, ℕ, ◌≤◌, Bool, true, ◌&&◌, leb, [], ◌∷◌, Some, None, sym, ap, ◌∙◌, inl, inr, ⊎_elim, arith}
use Rattle.std.proofs.lemmas.Bool.{cases_Bool, cond-true, cond-false, and_parts, leb-true, both_ways}
use Rattle.documents.specs.Judging.{Rules, first}
use Rattle.documents.specs.Refused.{Applies, Least}

-- no number of a list is below the one before it, the first not below `floor`
abbrev pub ascends : ℕ → Rules → Bool
ascends floor [] = true
ascends floor (r ∷ rs) = leb floor r.1 && ascends r.1 rs

-- where the list has no first number, none applies
pub none_applies : (rules : Rules) → first rules ≡ None → (number : ℕ) → Applies rules number → ⊥
none_applies [] e number there = there
none_applies (r ∷ rs) e number (inl same) =
    let s = cond-true r.0 (Some r.1) (first rs) (ap (λ x. x.0) same) in
    cc
none_applies (r ∷ rs) e number (inr there) =
    ⊎_elim
    (λ is. let s = cond-true r.0 (Some r.1) (first rs) is in cc)
    (λ isnt. none_applies rs (sym (cond-false r.0 (Some r.1) (first rs) isnt) ∙ e) number there)
    (cases_Bool r.0)

-- a number that applies is not below the floor of an ascending list
above_floor : (rules : Rules) (floor : ℕ) → ascends floor rules ≡ true → (number : ℕ) → Applies rules number → floor ≤ number
above_floor [] floor up number there = absurd there
above_floor (r ∷ rs) floor up number (inl same) =
    let two = and_parts (leb floor r.1) (ascends r.1 rs) up in
    let le = leb-true floor r.1 two.0 in
    let is : r.1 ≡ number = ap (λ x. x.1) same in
    omega arith
above_floor (r ∷ rs) floor up number (inr there) =
    let two = and_parts (leb floor r.1) (ascends r.1 rs) up in
    let le = leb-true floor r.1 two.0 in
    let more = above_floor rs r.1 two.1 number there in
    omega arith

-- the first number applies
first_applies : (rules : Rules) (number : ℕ) → first rules ≡ Some number → Applies rules number
first_applies [] number e = absurd (cc)
first_applies (r ∷ rs) number e =
    ⊎_elim
    (λ is. let s = cond-true r.0 (Some r.1) (first rs) is in let n : r.1 ≡ number = cc in inl (ap (λ b. (b, r.1)) is ∙ ap (λ m. (true, m)) n))
    (λ isnt. inr (first_applies rs number (sym (cond-false r.0 (Some r.1) (first rs) isnt) ∙ e)))
    (cases_Bool r.0)

-- the first number of an ascending list is at most any that applies
first_at_most : (rules : Rules) (floor number : ℕ) → ascends floor rules ≡ true → first rules ≡ Some number → (other : ℕ) → Applies rules other → number ≤ other
first_at_most [] floor number up e other there = absurd there
first_at_most (r ∷ rs) floor number up e other there =
    let two = and_parts (leb floor r.1) (ascends r.1 rs) up in
    ⊎_elim
    (λ is.
    let s = cond-true r.0 (Some r.1) (first rs) is in
    let n : r.1 ≡ number = cc in
    let le : r.1 ≤ other = ⊎_elim (λ same. let o : r.1 ≡ other = ap (λ x. x.1) same in omega arith) (λ far. above_floor rs r.1 two.1 other far) there in
    omega arith)
    (λ isnt.
    let rest = sym (cond-false r.0 (Some r.1) (first rs) isnt) ∙ e in
    ⊎_elim
    (λ same. absurd (both_ways r.0 isnt (ap (λ x. x.0) same)))
    (λ far. first_at_most rs r.1 number two.1 rest other far)
    there)
    (cases_Bool r.0)

-- the first number of an ascending list is the least that applies
pub first_is_least : (rules : Rules) (number : ℕ) → ascends 0 rules ≡ true → first rules ≡ Some number → Least rules number
first_is_least rules number up e = (first_applies rules number e, first_at_most rules 0 number up e)
