-- What a field's rules ask is enough: a field that meets each condition of its rules is given no number.
use Rattle.std.proofs.Common.{◌≡◌, ℕ, suc, Bool, false, ◌&&◌, eqb, ltb, leb, List, [], ◌∷◌, length, drop, Some, None, refl, ◌∙◌}
use Rattle.std.specs.List.{AllByRecursion}
use Rattle.std.proofs.lemmas.Bool.{not_from_true, cond-false}
use Rattle.tables.specs.declared.action.Action.{Action}
use Rattle.tables.specs.Limits.{last_name, counted_to}
use Rattle.tables.specs.Lists.{member, every, rising}
use Rattle.tables.specs.Rules.{alike}
use Rattle.documents.specs.Fields.{byte}
use Rattle.documents.specs.Judging.{Rules, first}
use Rattle.documents.specs.Statements.{name_in, name_rules, mark_rules, test_rules, action_rules}
use Rattle.documents.specs.Documents.{version_rules, plan_rules}
use Rattle.documents.proofs.Passing.{NamePasses, MarkPasses, TestPasses, ActionPasses, VersionPasses, PlanPasses}

-- where no condition holds, none gives a number
none_given : (rules : Rules) → AllByRecursion (λ r. r.0 ≡ false) rules → first rules ≡ None
none_given [] none = refl
none_given (r ∷ rules) none = cond-false r.0 (Some r.1) (first rules) none.0 ∙ none_given rules none.1

-- a name's field
pub name_allowed : (used : List ℕ) (last : ℕ) (body : List ℕ) → NamePasses used last body → first (name_rules used last body) ≡ None
unfolding name_rules
name_allowed used last body h = none_given (name_rules used last body) (
  not_from_true (eqb last 0) h.due,
  (
    not_from_true (eqb (length body) 1) h.sized,
    (
      not_from_true (counted_to last_name (name_in body)) h.in_range,
      (h.unused, tt),
    ),
  ),
)

-- a mark's field
pub mark_allowed : (last : ℕ) (body : List ℕ) → MarkPasses last body → first (mark_rules last body) ≡ None
unfolding mark_rules
mark_allowed last body h = none_given (mark_rules last body) (
  not_from_true (eqb last 16) h.due,
  (
    not_from_true (eqb (length body) 1) h.sized,
    (h.there, tt),
  ),
)

-- a test's field
pub test_allowed : (last nth : ℕ) (body : List ℕ) → TestPasses last nth body → first (test_rules last nth body) ≡ None
unfolding test_rules
test_allowed last nth body h = none_given (test_rules last nth body) (
  not_from_true (leb 16 last && leb last 18) h.due,
  (
    not_from_true (eqb (length body) 7) h.sized,
    (
      h.few,
      (
        h.there,
        (not_from_true (alike (eqb nth 0) (eqb (byte body 0) 0)) h.joins, tt),
      ),
    ),
  ),
)

-- an action's field
pub action_allowed : (due : Bool) (before : List Action) (body : List ℕ) → ActionPasses due before body → first (action_rules due before body) ≡ None
unfolding action_rules
action_allowed due before body h = none_given (action_rules due before body) (
  not_from_true due h.in_turn,
  (
    not_from_true (eqb (length body) 4) h.sized,
    (
      h.few,
      (
        h.there,
        (h.short, tt),
      ),
    ),
  ),
)

-- the version's field
pub version_allowed : (last : ℕ) (body : List ℕ) → VersionPasses last body → first (version_rules last body) ≡ None
unfolding version_rules
version_allowed last body h = none_given (version_rules last body) (
  not_from_true (eqb last 0) h.due,
  (
    not_from_true (eqb (length body) 1) h.sized,
    (not_from_true (eqb (byte body 0) 1) h.one, tt),
  ),
)

-- a plan's field
pub plan_allowed : (last above : ℕ) (names : List ℕ) (body : List ℕ) → PlanPasses last above names body → first (plan_rules last above names body) ≡ None
unfolding plan_rules
plan_allowed last above names body h = none_given (plan_rules last above names body) (
  not_from_true (leb 1 last && leb last 3) h.due,
  (
    not_from_true (counted_to (suc last_name) (length body)) h.sized,
    (
      not_from_true (counted_to last_name (byte body 0)) h.in_range,
      (
        not_from_true (every (counted_to last_name) (drop 1 body)) h.names_in_range,
        (
          not_from_true (ltb above (byte body 0)) h.rises,
          (
            not_from_true (rising 0 (drop 1 body)) h.names_rise,
            (not_from_true (every (λ n. member n names) (drop 1 body)) h.names_known, tt),
          ),
        ),
      ),
    ),
  ),
)
