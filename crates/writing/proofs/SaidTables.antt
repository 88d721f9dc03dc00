-- The bytes of a document, as its fields come one after another.
use Rattle.std.proofs.Common.{◌≡◌, ℕ, ◌<◌, ◌≤◌, Bool, List, [], ◌∷◌, ◌++◌, length, sym, ap, ◌∙◌, arith}
use Rattle.std.proofs.lemmas.List.{append-nil, append_assoc, length_push}
use Rattle.tables.specs.Rows.{StatementRow, PlanRow, TableRows}
use Rattle.writing.specs.Bytes.{field_bytes, statement_body, statements_bytes, plan_bytes, spelled_bytes}
use Rattle.writing.proofs.Behind.{joined_push}

-- `bytes` are the document of the table `t` so far, where `last` is the tag of the last field, 0 before the first, and `spelled`
-- says of each statement whether its mark was spelled out; what is due only behind the last field is not there yet
pub record TableSaid (bytes : List ℕ) (last : ℕ) (t : TableRows) : Type 0 where
  pub spelled : List Bool
  pub each : length spelled ≡ length t.statements
  pub said : 1 ≤ last → bytes ≡ spelled_bytes spelled t
  pub unsaid : last < 1 → bytes ≡ []
  pub no_statements : last ≤ 1 → t.statements ≡ []
  pub no_plans : last ≤ 2 → t.plans ≡ []

-- one more statement comes behind the others, where of each of those it is said whether its mark is spelled out
statements_push : (spelled : List Bool) (ss : List StatementRow) (b : Bool) (s : StatementRow) → length spelled ≡ length ss → statements_bytes (spelled ++ b ∷ []) (ss ++ s ∷ []) ≡ statements_bytes spelled ss ++ field_bytes 2 (statement_body b s)
statements_push [] [] b s n = append-nil (field_bytes 2 (statement_body b s))
statements_push [] (r ∷ ss) b s n = absurd (omega arith)
statements_push (c ∷ spelled) [] b s n = absurd (omega arith)
statements_push (c ∷ spelled) (r ∷ ss) b s n =
    let same : length spelled ≡ length ss = omega arith in
    ap (λ l. field_bytes 2 (statement_body c r) ++ l) (statements_push spelled ss b s same)
    ∙ sym (append_assoc (field_bytes 2 (statement_body c r)) (statements_bytes spelled ss) (field_bytes 2 (statement_body b s)))

module _ (bytes : List ℕ) (last : ℕ) (t : TableRows) (so : TableSaid bytes last t) where
  -- the version comes first
  pub said_version : last ≡ 0 → TableSaid (bytes ++ field_bytes 1 (1 ∷ [])) 1 t
  said_version first =
      let a = so.unsaid (omega arith) in
      let ss = so.no_statements (omega arith) in
      let ps = so.no_plans (omega arith) in
      record {
        spelled = so.spelled;
        each = so.each;
        said = λ _. simp (a, ss, ps);
        unsaid = λ early. absurd (omega arith);
        no_statements = λ _. ss;
        no_plans = λ _. ps;
      }

  -- statements come before the plans
  pub said_statement : (b : Bool) (s : StatementRow) → 1 ≤ last → last ≤ 2 → TableSaid (bytes ++ field_bytes 2 (statement_body b s)) 2 (record { statements = t.statements ++ s ∷ []; plans = t.plans })
  said_statement b s low high =
      let a = so.said low in
      let ps = so.no_plans high in
      let more = statements_push so.spelled t.statements b s so.each in
      let m = length_push so.spelled b in
      let n = length_push t.statements s in
      record {
        spelled = so.spelled ++ b ∷ [];
        each = omega (arith, so.each);
        said = λ _. simp (a, ps, more, append_assoc, append-nil);
        unsaid = λ early. absurd (omega arith);
        no_statements = λ early. absurd (omega arith);
        no_plans = λ _. ps;
      }

  -- plans come last
  pub said_plan : (p : PlanRow) → 1 ≤ last → TableSaid (bytes ++ plan_bytes p) 3 (record { statements = t.statements; plans = t.plans ++ p ∷ [] })
  said_plan p low =
      let a = so.said low in
      record {
        spelled = so.spelled;
        each = so.each;
        said = λ _. simp (a, joined_push, append_assoc);
        unsaid = λ early. absurd (omega arith);
        no_statements = λ early. absurd (omega arith);
        no_plans = λ early. absurd (omega arith);
      }
