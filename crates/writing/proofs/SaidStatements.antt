-- The bytes of a statement's body, as its fields come one after another.
use Rattle.std.proofs.Common.{◌≡◌, ℕ, ◌<◌, ◌≤◌, Bool, true, false, List, [], ◌∷◌, ◌++◌, refl, arith}
use Rattle.std.proofs.lemmas.List.{append-nil, append_assoc}
use Rattle.tables.specs.declared.statement.Mark.{Mark}
use Rattle.tables.specs.declared.statement.Mark.TheVariants.{Enabled, Disabled, Planned}
use Rattle.tables.specs.declared.test.JoinedTest.{JoinedTest}
use Rattle.tables.specs.declared.action.Action.{Action}
use Rattle.tables.specs.Codes.{mark_code}
use Rattle.tables.specs.Rows.{StatementRow}
use Rattle.documents.specs.Statements.{absent_mark}
use Rattle.writing.specs.Bytes.{field_bytes, test_body, action_body, mark_bytes, statement_body}
use Rattle.writing.proofs.Behind.{joined_push}

-- `bytes` are the body of the statement `s` so far, where `last` is the tag of the last field, 0 before the first, and `spelled`
-- says whether the mark was spelled out; what is due only behind the last field is not there yet
pub record StatementSaid (bytes : List ℕ) (last : ℕ) (s : StatementRow) : Type 0 where
  pub spelled : Bool
  pub said : 16 ≤ last → bytes ≡ statement_body spelled s
  pub unsaid : last < 16 → bytes ≡ []
  pub unmarked : last ≤ 16 → (s.mark ≡ absent_mark) × (spelled ≡ false)
  pub no_tests : last ≤ 17 → s.tests ≡ []
  pub no_thens : last ≤ 18 → s.thens ≡ []
  pub no_elses : last ≤ 19 → s.elses ≡ []

-- a mark that is spelled out is there
spelled_mark : (m : Mark) → mark_bytes true m ≡ field_bytes 17 (mark_code m ∷ [])
spelled_mark Enabled = refl
spelled_mark Disabled = refl
spelled_mark Planned = refl

module _ (bytes : List ℕ) (last : ℕ) (s : StatementRow) (so : StatementSaid bytes last s) where
  -- a name comes first
  pub said_name : (n : ℕ) → last ≡ 0 → StatementSaid (bytes ++ field_bytes 16 (n ∷ [])) 16 (record { name = n; mark = s.mark; tests = s.tests; thens = s.thens; elses = s.elses })
  said_name n first =
      let a = so.unsaid (omega arith) in
      let m = (so.unmarked (omega arith)).0 in
      let b = (so.unmarked (omega arith)).1 in
      let t = so.no_tests (omega arith) in
      let u = so.no_thens (omega arith) in
      let e = so.no_elses (omega arith) in
      record {
        spelled = so.spelled;
        said = λ _. simp (a, m, b, t, u, e);
        unsaid = λ early. absurd (omega arith);
        unmarked = λ _. (m, b);
        no_tests = λ _. t;
        no_thens = λ _. u;
        no_elses = λ _. e;
      }

  -- a mark comes after the name, and is spelled out
  pub said_mark : (m : Mark) → last ≡ 16 → StatementSaid (bytes ++ field_bytes 17 (mark_code m ∷ [])) 17 (record { name = s.name; mark = m; tests = s.tests; thens = s.thens; elses = s.elses })
  said_mark m named =
      let a = so.said (omega arith) in
      let n = (so.unmarked (omega arith)).0 in
      let b = (so.unmarked (omega arith)).1 in
      let t = so.no_tests (omega arith) in
      let u = so.no_thens (omega arith) in
      let e = so.no_elses (omega arith) in
      let w = spelled_mark m in
      record {
        spelled = true;
        said = λ _. simp (a, n, b, t, u, e, w);
        unsaid = λ early. absurd (omega arith);
        unmarked = λ early. absurd (omega arith);
        no_tests = λ _. t;
        no_thens = λ _. u;
        no_elses = λ _. e;
      }

  -- tests come before the actions
  pub said_test : (t : JoinedTest) → 16 ≤ last → last ≤ 18 → StatementSaid (bytes ++ field_bytes 18 (test_body t)) 18 (record { name = s.name; mark = s.mark; tests = s.tests ++ t ∷ []; thens = s.thens; elses = s.elses })
  said_test t low high =
      let a = so.said low in
      let u = so.no_thens (omega arith) in
      let e = so.no_elses (omega arith) in
      record {
        spelled = so.spelled;
        said = λ _. simp (a, u, e, joined_push, append_assoc, append-nil);
        unsaid = λ early. absurd (omega arith);
        unmarked = λ early. absurd (omega arith);
        no_tests = λ early. absurd (omega arith);
        no_thens = λ _. u;
        no_elses = λ _. e;
      }

  -- THEN actions come behind the tests
  pub said_then : (x : Action) → 18 ≤ last → last ≤ 19 → StatementSaid (bytes ++ field_bytes 19 (action_body x)) 19 (record { name = s.name; mark = s.mark; tests = s.tests; thens = s.thens ++ x ∷ []; elses = s.elses })
  said_then x low high =
      let a = so.said (omega arith) in
      let e = so.no_elses (omega arith) in
      record {
        spelled = so.spelled;
        said = λ _. simp (a, e, joined_push, append_assoc, append-nil);
        unsaid = λ early. absurd (omega arith);
        unmarked = λ early. absurd (omega arith);
        no_tests = λ early. absurd (omega arith);
        no_thens = λ early. absurd (omega arith);
        no_elses = λ _. e;
      }

  -- ELSE actions come last
  pub said_else : (x : Action) → 18 ≤ last → StatementSaid (bytes ++ field_bytes 20 (action_body x)) 20 (record { name = s.name; mark = s.mark; tests = s.tests; thens = s.thens; elses = s.elses ++ x ∷ [] })
  said_else x low =
      let a = so.said (omega arith) in
      record {
        spelled = so.spelled;
        said = λ _. simp (a, joined_push, append_assoc);
        unsaid = λ early. absurd (omega arith);
        unmarked = λ early. absurd (omega arith);
        no_tests = λ early. absurd (omega arith);
        no_thens = λ early. absurd (omega arith);
        no_elses = λ early. absurd (omega arith);
      }
