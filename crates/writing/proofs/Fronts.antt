-- What the rules say of a whole list tells of each element by those before it.
-- Throughout, `all` is the elements before, the element itself, and those behind it.
use Rattle.std.proofs.Common.{◌≡◌, ℕ, ◌+◌, Bool, true, false, not, eqb, ltb, leb, List, [], ◌∷◌, ◌++◌, length, sym, refl, ap, ◌∙◌, ⊎_elim, arith}
use lib.Dec.{eqb-suc-zero}
use Rattle.std.proofs.lemmas.List.{length-append, append-nil, append_assoc}
use Rattle.std.proofs.lemmas.List.Folds.{list_all-append}
use Rattle.std.proofs.lemmas.Bool.{and_parts, or_from, or_parts, or_cases, not-true, leb-true, lt-leb, le-ltb, eqb-true, eqb-false, ne_eqb}
use Rattle.tables.specs.declared.test.JoinedTest.{JoinedTest}
use Rattle.tables.specs.declared.action.Action.{Action}
use Rattle.tables.specs.Lists.{every, member, distinct, rising}
use Rattle.tables.specs.Rules.{alike, begins, joins_keep, delays}
use Rattle.documents.specs.Fields.{latest}

-- where the whole list is within a limit, those before an element have not reached it
pub room_for_it : {X : Type 0} (limit : ℕ) (before : List X) (x : X) (behind all : List X) → before ++ x ∷ behind ≡ all → leb (length all) limit ≡ true → leb limit (length before) ≡ false
room_for_it limit before x behind all is few =
    let within = leb-true (length all) limit few in
    let long = length-append before (x ∷ behind) in
    lt-leb limit (length before) (omega (arith, ap length is))

-- one more of the elements before leaves the whole list as it is
pub one_on : {X : Type 0} (before : List X) (x : X) (behind all : List X) → before ++ x ∷ behind ≡ all → (before ++ x ∷ []) ++ behind ≡ all
one_on before x behind all is = append_assoc before (x ∷ []) behind ∙ is

-- where none is behind, those before are all
pub none_behind : {X : Type 0} (before all : List X) → before ++ [] ≡ all → before ≡ all
none_behind before all is = sym (append-nil before) ∙ is

-- where each passes a test, so does an element that stands behind others
pub passes_too : {X : Type 0} (passes : X → Bool) (before : List X) (x : X) (behind : List X) → every passes (before ++ x ∷ behind) ≡ true → passes x ≡ true
passes_too passes before x behind each =
    let two = and_parts (every passes before) (every passes (x ∷ behind)) (sym (list_all-append passes before (x ∷ behind)) ∙ each) in
    (and_parts (passes x) (every passes behind) two.1).0

-- where the joins are right, a test begins exactly where none is before it
pub begins_if_first : (before : List JoinedTest) (t : JoinedTest) (behind all : List JoinedTest) → before ++ t ∷ behind ≡ all → joins_keep all ≡ true → alike (eqb (length before) 0) (begins t.join) ≡ true
begins_if_first [] t behind all is right =
    (and_parts (begins t.join) (every (λ u. not (begins u.join)) behind) (ap joins_keep is ∙ right)).0
begins_if_first (u ∷ before) t behind all is right =
    let later = (and_parts (begins u.join) (every (λ v. not (begins v.join)) (before ++ t ∷ behind)) (ap joins_keep is ∙ right)).1 in
    ap (λ b. alike b (begins t.join)) (eqb-suc-zero (length before)) ∙ passes_too (λ v. not (begins v.join)) before t behind later

-- the DELAYs of two branches laid end to end add up
delays_append : (xs ys : List Action) → delays (xs ++ ys) ≡ delays xs + delays ys
delays_append [] ys = omega arith
delays_append (x ∷ xs) ys = let more = delays_append xs ys in omega arith

-- where the DELAYs of the whole branch are within a limit, so are those up to an action
pub short_up_to_it : (limit : ℕ) (before : List Action) (a : Action) (behind all : List Action) → before ++ a ∷ behind ≡ all → leb (delays all) limit ≡ true → ltb limit (delays (before ++ a ∷ [])) ≡ false
short_up_to_it limit before a behind all is short =
    let within = leb-true (delays all) limit short in
    let whole = delays_append before (a ∷ behind) in
    let front = delays_append before (a ∷ []) in
    le-ltb limit (delays (before ++ a ∷ [])) (omega (arith, ap delays is))

-- what is not in a list is none of its numbers
none_of_them : (before : List ℕ) (n : ℕ) (behind : List ℕ) (m : ℕ) → member m (before ++ n ∷ behind) ≡ false → m ≡ n → ⊥
none_of_them [] n behind m out e = eqb-false m n (or_parts (eqb m n) (member m behind) out).0 e
none_of_them (k ∷ before) n behind m out e = none_of_them before n behind m (or_parts (eqb m k) (member m (before ++ n ∷ behind)) out).1 e

-- where the numbers all differ, one is not among those before it
pub not_before : (before : List ℕ) (n : ℕ) (behind : List ℕ) → distinct (before ++ n ∷ behind) ≡ true → member n before ≡ false
not_before [] n behind apart = refl
not_before (m ∷ before) n behind apart =
    let two = and_parts (not (member m (before ++ n ∷ behind))) (distinct (before ++ n ∷ behind)) apart in
    let out = not-true (member m (before ++ n ∷ behind)) two.0 in
    or_from (eqb n m) (member n before) (ne_eqb n m (λ e. none_of_them before n behind m out (sym e))) (not_before before n behind two.1)

-- where the numbers rise, one is above the last before it
pub above_the_last : (floor : ℕ) (before : List ℕ) (n : ℕ) (behind : List ℕ) → rising floor (before ++ n ∷ behind) ≡ true → ltb (latest floor before) n ≡ true
above_the_last floor [] n behind up = (and_parts (ltb floor n) (rising n behind) up).0
above_the_last floor (m ∷ before) n behind up = above_the_last m before n behind (and_parts (ltb floor m) (rising m (before ++ n ∷ behind)) up).1

-- where each of a list passes a test, so does each number that is among them
pub member_passes : (passes : ℕ → Bool) (n : ℕ) (ms : List ℕ) → every passes ms ≡ true → member n ms ≡ true → passes n ≡ true
member_passes passes n [] each among = let z : ◌≡◌ {A = ℕ} 0 1 = cc in absurd (omega arith)
member_passes passes n (m ∷ ms) each among =
    let two = and_parts (passes m) (every passes ms) each in
    ⊎_elim
    (λ here. ap passes (eqb-true n m here) ∙ two.0)
    (λ there. member_passes passes n ms two.1 there)
    (or_cases (eqb n m) (member n ms) among)
