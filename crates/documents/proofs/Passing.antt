-- What a field without fault tells: for each kind of field, the conditions that its rules ask.
use Rattle.std.proofs.Common.{◌≡◌, ℕ, suc, ◌≤◌, Bool, true, false, ◌&&◌, eqb, ltb, leb, List, ◌++◌, length, drop, None}
use Rattle.std.proofs.lemmas.Bool.{not-false, and_parts, leb-true}
use Rattle.tables.specs.declared.action.Action.{Action}
use Rattle.tables.specs.Limits.{max_tests, max_actions, last_name, max_delay, counted_to}
use Rattle.tables.specs.Lists.{absent, member, every, rising, listed}
use Rattle.tables.specs.Rules.{alike, delays}
use Rattle.documents.specs.Fields.{byte}
use Rattle.documents.specs.Judging.{first}
use Rattle.documents.specs.Statements.{name_in, mark_in, test_in, action_in, name_rules, mark_rules, test_rules, action_rules}
use Rattle.documents.specs.Documents.{version_rules, plan_rules}
use Rattle.documents.proofs.Faultless.{none_holds}

-- a field that is due between two tags stands after the lower one at the earliest
pub due_after : (low last high : ℕ) → (leb low last && leb last high) ≡ true → low ≤ last
due_after low last high due = leb-true low last (and_parts (leb low last) (leb last high) due).0

-- what the rules of a name's field ask
pub record NamePasses (used : List ℕ) (last : ℕ) (body : List ℕ) : Type 0 where
  pub due : eqb last 0 ≡ true
  pub sized : eqb (length body) 1 ≡ true
  pub in_range : counted_to last_name (name_in body) ≡ true
  pub unused : member (name_in body) used ≡ false

-- these hold where no rule of a name gives a number
pub name_passes : (used : List ℕ) (last : ℕ) (body : List ℕ) → first (name_rules used last body) ≡ None → NamePasses used last body
unfolding name_rules
name_passes used last body none =
    let h = none_holds (name_rules used last body) none in
    record {
      due = not-false (eqb last 0) h.0;
      sized = not-false (eqb (length body) 1) h.1.0;
      in_range = not-false (counted_to last_name (name_in body)) h.1.1.0;
      unused = h.1.1.1.0;
    }

-- what the rules of a mark's field ask
pub record MarkPasses (last : ℕ) (body : List ℕ) : Type 0 where
  pub due : eqb last 16 ≡ true
  pub sized : eqb (length body) 1 ≡ true
  pub there : absent (mark_in body) ≡ false

-- these hold where no rule of a mark gives a number
pub mark_passes : (last : ℕ) (body : List ℕ) → first (mark_rules last body) ≡ None → MarkPasses last body
unfolding mark_rules
mark_passes last body none =
    let h = none_holds (mark_rules last body) none in
    record {
      due = not-false (eqb last 16) h.0;
      sized = not-false (eqb (length body) 1) h.1.0;
      there = h.1.1.0;
    }

-- what the rules of a test's field ask
pub record TestPasses (last nth : ℕ) (body : List ℕ) : Type 0 where
  pub due : (leb 16 last && leb last 18) ≡ true
  pub sized : eqb (length body) 7 ≡ true
  pub few : leb max_tests nth ≡ false
  pub there : absent (test_in body) ≡ false
  pub joins : alike (eqb nth 0) (eqb (byte body 0) 0) ≡ true

-- these hold where no rule of a test gives a number
pub test_passes : (last nth : ℕ) (body : List ℕ) → first (test_rules last nth body) ≡ None → TestPasses last nth body
unfolding test_rules
test_passes last nth body none =
    let h = none_holds (test_rules last nth body) none in
    record {
      due = not-false (leb 16 last && leb last 18) h.0;
      sized = not-false (eqb (length body) 7) h.1.0;
      few = h.1.1.0;
      there = h.1.1.1.0;
      joins = not-false (alike (eqb nth 0) (eqb (byte body 0) 0)) h.1.1.1.1.0;
    }

-- what the rules of an action's field ask
pub record ActionPasses (due : Bool) (before : List Action) (body : List ℕ) : Type 0 where
  pub in_turn : due ≡ true
  pub sized : eqb (length body) 4 ≡ true
  pub few : leb max_actions (length before) ≡ false
  pub there : absent (action_in body) ≡ false
  pub short : ltb max_delay (delays (before ++ listed (action_in body))) ≡ false

-- these hold where no rule of an action gives a number
pub action_passes : (due : Bool) (before : List Action) (body : List ℕ) → first (action_rules due before body) ≡ None → ActionPasses due before body
unfolding action_rules
action_passes due before body none =
    let h = none_holds (action_rules due before body) none in
    record {
      in_turn = not-false due h.0;
      sized = not-false (eqb (length body) 4) h.1.0;
      few = h.1.1.0;
      there = h.1.1.1.0;
      short = h.1.1.1.1.0;
    }

-- what the rules of the version's field ask
pub record VersionPasses (last : ℕ) (body : List ℕ) : Type 0 where
  pub due : eqb last 0 ≡ true
  pub sized : eqb (length body) 1 ≡ true
  pub one : eqb (byte body 0) 1 ≡ true

-- these hold where no rule of the version gives a number
pub version_passes : (last : ℕ) (body : List ℕ) → first (version_rules last body) ≡ None → VersionPasses last body
unfolding version_rules
version_passes last body none =
    let h = none_holds (version_rules last body) none in
    record {
      due = not-false (eqb last 0) h.0;
      sized = not-false (eqb (length body) 1) h.1.0;
      one = not-false (eqb (byte body 0) 1) h.1.1.0;
    }

-- what the rules of a plan's field ask
pub record PlanPasses (last above : ℕ) (names : List ℕ) (body : List ℕ) : Type 0 where
  pub due : (leb 1 last && leb last 3) ≡ true
  pub sized : counted_to (suc last_name) (length body) ≡ true
  pub in_range : counted_to last_name (byte body 0) ≡ true
  pub names_in_range : every (counted_to last_name) (drop 1 body) ≡ true
  pub rises : ltb above (byte body 0) ≡ true
  pub names_rise : rising 0 (drop 1 body) ≡ true
  pub names_known : every (λ n. member n names) (drop 1 body) ≡ true

-- these hold where no rule of a plan gives a number
pub plan_passes : (last above : ℕ) (names : List ℕ) (body : List ℕ) → first (plan_rules last above names body) ≡ None → PlanPasses last above names body
unfolding plan_rules
plan_passes last above names body none =
    let h = none_holds (plan_rules last above names body) none in
    record {
      due = not-false (leb 1 last && leb last 3) h.0;
      sized = not-false (counted_to (suc last_name) (length body)) h.1.0;
      in_range = not-false (counted_to last_name (byte body 0)) h.1.1.0;
      names_in_range = not-false (every (counted_to last_name) (drop 1 body)) h.1.1.1.0;
      rises = not-false (ltb above (byte body 0)) h.1.1.1.1.0;
      names_rise = not-false (rising 0 (drop 1 body)) h.1.1.1.1.1.0;
      names_known = not-false (every (λ n. member n names) (drop 1 body)) h.1.1.1.1.1.1.0;
    }
