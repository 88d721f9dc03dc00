-- The tests of a statement without fault keep their rules, and once its last field is a test or an action there is one.
use Rattle.std.proofs.Common.{◌≡◌, ℕ, ◌<◌, ◌≤◌, true, false, cond, not, eqb, leb, List, [], ◌∷◌, ◌++◌, map, length, Some, None, sym, refl, ap, ◌∙◌, subst, arith}
use lib.Dec.{leb-zero, eqb-suc-zero}
use Rattle.std.proofs.lemmas.List.{length_push}
use Rattle.std.proofs.lemmas.Bool.{and_parts, and_from, eqb-true, le-leb}
use Rattle.tables.specs.declared.test.Join.{Join}
use Rattle.tables.specs.declared.test.Join.TheVariants.{First, And, Or}
use Rattle.tables.specs.declared.test.JoinedTest.{JoinedTest}
use Rattle.tables.specs.Limits.{max_tests}
use Rattle.tables.specs.Lists.{every, somes}
use Rattle.tables.specs.Codes.{join_code, join_of}
use Rattle.tables.specs.Lines.{test_of}
use Rattle.tables.specs.Rules.{alike, begins, joins_keep, test_keeps}
use Rattle.tables.proofs.Options.{both_was}
use Rattle.tables.proofs.Decoding.{decoded_has_code}
use Rattle.tables.proofs.Inverse.{test_of_keeps}
use Rattle.documents.specs.Fields.{Piece, field, last_tag, byte}
use Rattle.documents.specs.Judging.{first_fault}
use Rattle.documents.specs.Statements.{joined_test, test_codes_in, test_in, tests_in, part_fault}
use Rattle.documents.proofs.Pushing.{one_more_fits, every_push}
use Rattle.documents.proofs.Faultless.{value_there}
use Rattle.documents.proofs.Taking.{same, value_more, tag_push}
use Rattle.documents.proofs.Passing.{TestPasses, due_after}
use Rattle.documents.proofs.PartSteps.{PartSteps, parts_faultless}

-- ---- one test

-- a join begins exactly where its code is 0
begins_at : (j : Join) → eqb (join_code j) 0 ≡ begins j
begins_at First = refl
begins_at And = refl
begins_at Or = refl

-- a test that a body says is in range, and begins exactly where the body's first byte is 0
test_in_keeps : (body : List ℕ) (t : JoinedTest) → test_in body ≡ Some t → (eqb (byte body 0) 0 ≡ begins t.join) × (test_keeps t.test ≡ true)
unfolding test_in
test_in_keeps body t is =
    let two = both_was joined_test (join_of (byte body 0)) (test_of (test_codes_in body)) t is in
    let code = (decoded_has_code join_code (First ∷ And ∷ Or ∷ []) (byte body 0) two.0 two.2).0 in (
      ap (λ c. eqb c 0) (sym code) ∙ begins_at two.0 ∙ ap (λ (u : JoinedTest). begins u.join) two.4,
      subst (λ (u : JoinedTest). test_keeps u.test ≡ true) two.4 (test_of_keeps (test_codes_in body) two.1 two.3).1,
    )

-- so whether a test begins is told by the body's first byte
pub begins_by_code : (body : List ℕ) (t : JoinedTest) → test_in body ≡ Some t → begins t.join ≡ eqb (byte body 0) 0
begins_by_code body t is = sym (test_in_keeps body t is).0

-- ---- one test more

-- the joins of a list of tests are right with one more, if that one begins exactly where it is the first
joins_push : (ts : List JoinedTest) (t : JoinedTest) → joins_keep ts ≡ true → alike (eqb (length ts) 0) (begins t.join) ≡ true → joins_keep (ts ++ t ∷ []) ≡ true
joins_push [] t keep this = and_from (begins t.join) true this refl
joins_push (u ∷ ts) t keep this =
    let later = subst (λ b. alike b (begins t.join) ≡ true) (eqb-suc-zero (length ts)) this in
    let two = and_parts (begins u.join) (every (λ v. not (begins v.join)) ts) keep in
    and_from (begins u.join) (every (λ v. not (begins v.join)) (ts ++ t ∷ [])) two.0
    (every_push (λ v. not (begins v.join)) ts t two.1 later)

-- tests that keep their rules, where `last` is the tag of the field before
record TestsKeep (ts : List JoinedTest) (last : ℕ) : Type 0 where
  few : leb (length ts) max_tests ≡ true
  joins : joins_keep ts ≡ true
  each : every (λ t. test_keeps t.test) ts ≡ true
  some : 18 ≤ last → leb 1 (length ts) ≡ true
  late : 0 < length ts → 18 ≤ last

-- the tests among the pieces keep their rules
abbrev TestsKept : List Piece → Type 0
TestsKept ps = TestsKeep (tests_in ps) (last_tag ps)

-- a test with room for it is one more
kept_push : (ts : List JoinedTest) (t : JoinedTest) (last : ℕ) → TestsKeep ts last → leb max_tests (length ts) ≡ false → alike (eqb (length ts) 0) (begins t.join) ≡ true → test_keeps t.test ≡ true → TestsKeep (ts ++ t ∷ []) 18
kept_push ts t last so few joins this =
    let n = length_push ts t in
    record {
      few = one_more_fits max_tests ts t few;
      joins = joins_push ts t so.joins joins;
      each = every_push (λ u. test_keeps u.test) ts t so.each this;
      some = λ _. le-leb 1 (length (ts ++ t ∷ [])) (omega arith);
      late = λ _. omega arith;
    }

module _ (before : List Piece) (place : ℕ) (body : List ℕ) where
  -- a field with another tag leaves the tests as they are; an action has a test before it
  kept_other : (tag : ℕ) → cond (eqb tag 18) (body ∷ []) [] ≡ [] → (18 ≤ tag → 18 ≤ last_tag before) → (18 ≤ last_tag before → 18 ≤ tag) → TestsKept before → TestsKept (before ++ field place tag body ∷ [])
  kept_other tag isnt late still so =
      subst (TestsKeep (tests_in (before ++ field place tag body ∷ []))) (sym (tag_push place tag body before))
      (subst (λ bs. TestsKeep (somes (map test_in bs)) tag) (sym (same place body before 18 tag isnt))
      (record { few = so.few; joins = so.joins; each = so.each; some = λ h. so.some (late h); late = λ h. still (so.late h) }))

  -- a test without fault is one more
  kept_more : TestPasses (last_tag before) (length (tests_in before)) body → TestsKept before → TestsKept (before ++ field place 18 body ∷ [])
  kept_more h so =
      let t = value_there (test_in body) h.there in
      let keeps = test_in_keeps body t.0 t.1 in
      let joins = subst (λ b. alike (eqb (length (tests_in before)) 0) b ≡ true) keeps.0 h.joins in
      subst (TestsKeep (tests_in (before ++ field place 18 body ∷ []))) (sym (tag_push place 18 body before))
      (subst (λ ts. TestsKeep ts 18) (sym (value_more place body before test_in 18 t.0 refl t.1))
      (kept_push (tests_in before) t.0 (last_tag before) so h.few joins keeps.1))

module _ (used : List ℕ) (ps : List Piece) (none : first_fault (part_fault used) [] ps ≡ None) where
  -- from the first field to the last, the tests keep their rules
  all_kept : TestsKept ps
  all_kept =
      let steps : PartSteps used TestsKept = record {
        name = λ before place body h so. let e = eqb-true (last_tag before) 0 h.due in kept_other before place body 16 refl (λ late. absurd (omega arith)) (λ late. absurd (omega arith)) so;
        mark = λ before place body h so. let e = eqb-true (last_tag before) 16 h.due in kept_other before place body 17 refl (λ late. absurd (omega arith)) (λ late. absurd (omega arith)) so;
        test = λ before place body h so. kept_more before place body h so;
        thens = λ before place body h so. kept_other before place body 19 refl (λ _. due_after 18 (last_tag before) 19 h.in_turn) (λ _. omega arith) so;
        elses = λ before place body h so. kept_other before place body 20 refl (λ _. due_after 18 (last_tag before) 20 h.in_turn) (λ _. omega arith) so;
      } in
      parts_faultless used TestsKept steps ps none (record { few = leb-zero max_tests; joins = refl; each = refl; some = λ late. absurd (omega arith); late = λ some. absurd (omega arith) })

  -- a body without fault has few enough tests
  pub tests_few : leb (length (tests_in ps)) max_tests ≡ true
  tests_few = all_kept.few

  -- the joins of its tests are right
  pub joins_kept : joins_keep (tests_in ps) ≡ true
  joins_kept = all_kept.joins

  -- each of its tests is in range
  pub tests_kept : every (λ t. test_keeps t.test) (tests_in ps) ≡ true
  tests_kept = all_kept.each

  -- it has a test where its last field is a test or an action
  pub tests_some : 18 ≤ last_tag ps → leb 1 (length (tests_in ps)) ≡ true
  tests_some late = all_kept.some late

  -- and where it has one, its last field is a test or an action
  pub tests_late : 0 < length (tests_in ps) → 18 ≤ last_tag ps
  tests_late some = all_kept.late some
