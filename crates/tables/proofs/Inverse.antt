-- Codes and what they stand for are inverse both ways: tests, actions, and all conversions together.
use Rattle.std.proofs.Common.{◌≡◌, ℕ, true, ◌&&◌, eqb, leb, Some, Option, sym, refl, ap, ◌∙◌, subst}
use Rattle.std.proofs.lemmas.Bool.{and_parts, and_from, eqb-true}
use Rattle.tables.specs.declared.place.State.{State}
use Rattle.tables.specs.declared.place.Place.TheVariants.{InputCell, OutputCell, Flag}
use Rattle.tables.specs.declared.codes.cases.Kind.{Kind}
use Rattle.tables.specs.declared.codes.cases.Kind.TheVariants.{Cib, Cob, LogicFlag, FamilyMember, LogicStatement, FrameNumber, DelayFor}
use Rattle.tables.specs.declared.codes.lines.TestCodes.{TestCodes}
use Rattle.tables.specs.declared.codes.lines.ActionCodes.{ActionCodes}
use Rattle.tables.specs.declared.test.Test.{Test}
use Rattle.tables.specs.declared.test.Test.TheVariants.{PlaceIs, MemberIs, StatementIs, NumberIs}
use Rattle.tables.specs.declared.action.Action.{Action}
use Rattle.tables.specs.declared.action.Action.TheVariants.{SetPlace, SetMember, Delay}
use Rattle.tables.specs.Limits.{max_delay}
use Rattle.tables.specs.Lists.{both, then}
use Rattle.tables.specs.Numbers.{number_code, numbered}
use Rattle.tables.specs.Codes.{state_code, state_of, comparison_code, comparison_of, kind_code, kind_of, number_of, entry_in, entry_value, name_of, place_of, member_of, member_code}
use Rattle.tables.specs.Lines.{asked, test_codes, asked_of, number_test, state_test, test_of_kind, test_of, action_codes, set_of, delay_of, action_of_kind, action_of}
use Rattle.tables.specs.Rules.{entry_keeps, test_keeps, action_keeps}
use Rattle.tables.specs.Inverse.{CodesAreInverse}
use Rattle.tables.proofs.Options.{none_some, same_some, then_some, then_was, only_true, only_was, only_is, both_some, both_was}
use Rattle.tables.proofs.Cases.{states_inverse, joins_inverse, comparisons_inverse, marks_inverse, kinds_inverse, families_inverse}
use Rattle.tables.proofs.Parts.{names_inverse, members_inverse, places_inverse, numbers_inverse, entries_inverse}

-- ---- a test is what its codes stand for

-- where the state of a code and what a line names are there, so is what is made of both
state_and_named : {X Y : Type 0} (s : State) (o : Option X) (x : X) (make : X → State → Y) → o ≡ Some x → then (state_of (state_code s)) (λ t. then o (λ y. Some (make y t))) ≡ Some (make x s)
state_and_named s o x make e =
    then_some (state_of (state_code s)) s (λ t. then o (λ y. Some (make y t))) (states_inverse.0 s refl)
    ∙ then_some o x (λ y. Some (make y s)) e

-- each test in range is what its codes stand for
test_decodes : (t : Test) → test_keeps t ≡ true → test_of (test_codes t) ≡ Some t
unfolding test_of
test_decodes (PlaceIs (InputCell code) s) e = state_and_named s (place_of Cib code) (InputCell code) PlaceIs (places_inverse.0 (InputCell code) e)
test_decodes (PlaceIs (OutputCell code) s) e = state_and_named s (place_of Cob code) (OutputCell code) PlaceIs (places_inverse.0 (OutputCell code) e)
test_decodes (PlaceIs (Flag number) s) e = state_and_named s (place_of LogicFlag number) (Flag number) PlaceIs (places_inverse.0 (Flag number) e)
test_decodes (MemberIs m s) e = state_and_named s (member_of (member_code m)) m MemberIs (members_inverse.0 m e)
test_decodes (StatementIs n s) e = state_and_named s (name_of n.0) n StatementIs (names_inverse.0 n e)
test_decodes (NumberIs n c v) e =
    let two = and_parts (numbered n) (entry_keeps n v) e in
    then_some (number_of (number_code n)) n (λ m. both (NumberIs m) (comparison_of (comparison_code c)) (entry_in m (entry_value v))) (numbers_inverse.0 n two.0)
    ∙ both_some (NumberIs n) (comparison_of (comparison_code c)) (entry_in n (entry_value v)) c v (comparisons_inverse.0 c refl) ((entries_inverse n).0 v two.1)

-- ---- the codes of a test are those that stand for it

-- codes stand for a test: they are its codes, and it is in range
abbrev TestHas : TestCodes → Test → Type 0
TestHas c t = (test_codes t ≡ c) × (test_keeps t ≡ true)

-- where codes stand for a test, they stand for the one that an option with that test holds
test_is : (c : TestCodes) (u t : Test) → Some u ≡ Some t → TestHas c u → TestHas c t
test_is c u t same has = subst (TestHas c) (same_some u t same) has

-- a question about a place that a kind and a code name has the codes of that kind, code and state
place_asked : (kind : Kind) (which : ℕ) (s : State) (t : Test) → then (place_of kind which) (λ place. Some (PlaceIs place s)) ≡ Some t → TestHas (asked kind which s) t
place_asked kind which s t e =
    let was = then_was (place_of kind which) (λ place. Some (PlaceIs place s)) t e in
    let has = places_inverse.1 (kind, which) was.0 was.1 in
    test_is (asked kind which s) (PlaceIs was.0 s) t was.2 (ap (λ k. asked k.0 k.1 s) has.0, has.1)

-- a question whether something is in a state has the codes of its kind, of what it names and of the state
asked_has : (kind : Kind) (which : ℕ) (s : State) (t : Test) → asked_of kind which s ≡ Some t → TestHas (asked kind which s) t
asked_has Cib which s t e = place_asked Cib which s t e
asked_has Cob which s t e = place_asked Cob which s t e
asked_has LogicFlag which s t e = place_asked LogicFlag which s t e
asked_has FamilyMember which s t e =
    let was = then_was (member_of which) (λ member. Some (MemberIs member s)) t e in
    let has = members_inverse.1 which was.0 was.1 in
    test_is (asked FamilyMember which s) (MemberIs was.0 s) t was.2 (ap (λ c. asked FamilyMember c s) has.0, has.1)
asked_has LogicStatement which s t e =
    let was = then_was (name_of which) (λ name. Some (StatementIs name s)) t e in
    let has = names_inverse.1 which was.0 was.1 in
    test_is (asked LogicStatement which s) (StatementIs was.0 s) t was.2 (ap (λ c. asked LogicStatement c s) has.0, has.1)
asked_has FrameNumber which s t e = none_some t e
asked_has DelayFor which s t e = none_some t e

-- the codes of two tests are equal where each code is
test_codes_equal : (c d : TestCodes) → c.kind ≡ d.kind → c.which ≡ d.which → c.relation ≡ d.relation → c.entry ≡ d.entry → c ≡ d
test_codes_equal c d kind which relation entry =
    ap (λ n. record { kind = n; which = c.which; relation = c.relation; entry = c.entry }) kind
    ∙ ap (λ n. record { kind = d.kind; which = n; relation = c.relation; entry = c.entry }) which
    ∙ ap (λ n. record { kind = d.kind; which = d.which; relation = n; entry = c.entry }) relation
    ∙ ap (λ n. record { kind = d.kind; which = d.which; relation = d.relation; entry = n }) entry

-- codes of a kind that asks for a state are those of the test that they stand for
state_test_has : (c : TestCodes) (kind : Kind) (t : Test) → kind_code kind ≡ c.kind → state_test c kind ≡ Some t → TestHas c t
state_test_has c kind t k e =
    let no-entry = only_was (eqb c.entry 0) (then (state_of c.relation) (asked_of kind c.which)) t e in
    let was = then_was (state_of c.relation) (asked_of kind c.which) t no-entry.1 in
    let has = asked_has kind c.which was.0 t was.2 in (
      has.0 ∙ test_codes_equal (asked kind c.which was.0) c k refl (states_inverse.1 c.relation was.0 was.1).0 (sym (eqb-true c.entry 0 no-entry.0)),
      has.1,
    )

-- codes that compare a number with an entry are those of the test that they stand for
number_test_has : (c : TestCodes) (t : Test) → kind_code FrameNumber ≡ c.kind → number_test c ≡ Some t → TestHas c t
number_test_has c t k e =
    let was = then_was (number_of c.which) (λ number. both (NumberIs number) (comparison_of c.relation) (entry_in number c.entry)) t e in
    let n = was.0 in
    let parts = both_was (NumberIs n) (comparison_of c.relation) (entry_in n c.entry) t was.2 in
    let number = numbers_inverse.1 c.which n was.1 in
    let relation = (comparisons_inverse.1 c.relation parts.0 parts.2).0 in
    let entry = (entries_inverse n).1 c.entry parts.1 parts.3 in
    subst (TestHas c) parts.4 (
      test_codes_equal (test_codes (NumberIs n parts.0 parts.1)) c k number.0 relation entry.0,
      and_from (numbered n) (entry_keeps n parts.1) number.1 entry.1,
    )

-- codes of any kind are those of the test that they stand for
kind_test_has : (c : TestCodes) (kind : Kind) (t : Test) → kind_code kind ≡ c.kind → test_of_kind c kind ≡ Some t → TestHas c t
kind_test_has c Cib t k e = state_test_has c Cib t k e
kind_test_has c Cob t k e = state_test_has c Cob t k e
kind_test_has c LogicFlag t k e = state_test_has c LogicFlag t k e
kind_test_has c FamilyMember t k e = state_test_has c FamilyMember t k e
kind_test_has c LogicStatement t k e = state_test_has c LogicStatement t k e
kind_test_has c FrameNumber t k e = number_test_has c t k e
kind_test_has c DelayFor t k e = none_some t e

-- the test that codes stand for has those codes and is in range
pub test_of_keeps : (c : TestCodes) (t : Test) → test_of c ≡ Some t → (test_codes t ≡ c) × (test_keeps t ≡ true)
unfolding test_of
test_of_keeps c t e =
    let was = then_was (kind_of c.kind) (test_of_kind c) t e in
    kind_test_has c was.0 t (kinds_inverse.1 c.kind was.0 was.1).0 was.2

-- ---- actions

-- each action in range is what its codes stand for
action_decodes : (a : Action) → action_keeps a ≡ true → action_of (action_codes a) ≡ Some a
unfolding action_of
action_decodes (SetPlace (InputCell code) s) e = state_and_named s (place_of Cib code) (InputCell code) SetPlace (places_inverse.0 (InputCell code) e)
action_decodes (SetPlace (OutputCell code) s) e = state_and_named s (place_of Cob code) (OutputCell code) SetPlace (places_inverse.0 (OutputCell code) e)
action_decodes (SetPlace (Flag number) s) e = state_and_named s (place_of LogicFlag number) (Flag number) SetPlace (places_inverse.0 (Flag number) e)
action_decodes (SetMember m s) e = state_and_named s (member_of (member_code m)) m SetMember (members_inverse.0 m e)
action_decodes (Delay tenths) e = only_true (leb tenths.0 max_delay && true) (Some (Delay tenths)) (and_from (leb tenths.0 max_delay) true e refl)

-- codes stand for an action: they are its codes, and it is in range
abbrev ActionHas : ActionCodes → Action → Type 0
ActionHas c a = (action_codes a ≡ c) × (action_keeps a ≡ true)

-- the codes of an action that sets something
abbrev set_codes : Kind → ℕ → State → ActionCodes
set_codes kind which s = record { kind = kind_code kind; which = which; state = state_code s }

-- where codes stand for an action, they stand for the one that an option with that action holds
action_is : (c : ActionCodes) (b a : Action) → Some b ≡ Some a → ActionHas c b → ActionHas c a
action_is c b a same has = subst (ActionHas c) (same_some b a same) has

-- an action on a place that a kind and a code name has the codes of that kind, code and state
place_set : (kind : Kind) (which : ℕ) (s : State) (a : Action) → then (place_of kind which) (λ place. Some (SetPlace place s)) ≡ Some a → ActionHas (set_codes kind which s) a
place_set kind which s a e =
    let was = then_was (place_of kind which) (λ place. Some (SetPlace place s)) a e in
    let has = places_inverse.1 (kind, which) was.0 was.1 in
    action_is (set_codes kind which s) (SetPlace was.0 s) a was.2 (ap (λ k. set_codes k.0 k.1 s) has.0, has.1)

-- an action that sets something has the codes of its kind, of what it names and of the state
set_has : (kind : Kind) (which : ℕ) (s : State) (a : Action) → set_of kind which s ≡ Some a → ActionHas (set_codes kind which s) a
set_has Cib which s a e = place_set Cib which s a e
set_has Cob which s a e = place_set Cob which s a e
set_has LogicFlag which s a e = place_set LogicFlag which s a e
set_has FamilyMember which s a e =
    let was = then_was (member_of which) (λ member. Some (SetMember member s)) a e in
    let has = members_inverse.1 which was.0 was.1 in
    action_is (set_codes FamilyMember which s) (SetMember was.0 s) a was.2 (ap (λ c. set_codes FamilyMember c s) has.0, has.1)
set_has LogicStatement which s a e = none_some a e
set_has FrameNumber which s a e = none_some a e
set_has DelayFor which s a e = none_some a e

-- the codes of two actions are equal where each code is
action_codes_equal : (c d : ActionCodes) → c.kind ≡ d.kind → c.which ≡ d.which → c.state ≡ d.state → c ≡ d
action_codes_equal c d kind which state =
    ap (λ n. record { kind = n; which = c.which; state = c.state }) kind
    ∙ ap (λ n. record { kind = d.kind; which = n; state = c.state }) which
    ∙ ap (λ n. record { kind = d.kind; which = d.which; state = n }) state

-- codes of a kind that sets something are those of the action that they stand for
state_action_has : (c : ActionCodes) (kind : Kind) (a : Action) → kind_code kind ≡ c.kind → then (state_of c.state) (set_of kind c.which) ≡ Some a → ActionHas c a
state_action_has c kind a k e =
    let was = then_was (state_of c.state) (set_of kind c.which) a e in
    let has = set_has kind c.which was.0 a was.2 in
    (has.0 ∙ action_codes_equal (set_codes kind c.which was.0) c k refl (states_inverse.1 c.state was.0 was.1).0, has.1)

-- codes of a DELAY are those of the action that they stand for
delay_has : (c : ActionCodes) (a : Action) → kind_code DelayFor ≡ c.kind → delay_of c ≡ Some a → ActionHas c a
delay_has c a k e =
    let two = only_is (leb c.which max_delay && eqb c.state 0) (Delay (record { 0 = c.which })) a e in
    let parts = and_parts (leb c.which max_delay) (eqb c.state 0) two.0 in
    subst (ActionHas c) two.1
    (action_codes_equal (action_codes (Delay (record { 0 = c.which }))) c k refl (sym (eqb-true c.state 0 parts.1)), parts.0)

-- codes of any kind are those of the action that they stand for
kind_action_has : (c : ActionCodes) (kind : Kind) (a : Action) → kind_code kind ≡ c.kind → action_of_kind c kind ≡ Some a → ActionHas c a
kind_action_has c Cib a k e = state_action_has c Cib a k e
kind_action_has c Cob a k e = state_action_has c Cob a k e
kind_action_has c LogicFlag a k e = state_action_has c LogicFlag a k e
kind_action_has c FamilyMember a k e = state_action_has c FamilyMember a k e
kind_action_has c LogicStatement a k e = none_some a e
kind_action_has c FrameNumber a k e = none_some a e
kind_action_has c DelayFor a k e = delay_has c a k e

-- the action that codes stand for has those codes and is in range
pub action_of_keeps : (c : ActionCodes) (a : Action) → action_of c ≡ Some a → (action_codes a ≡ c) × (action_keeps a ≡ true)
unfolding action_of
action_of_keeps c a e =
    let was = then_was (kind_of c.kind) (action_of_kind c) a e in
    kind_action_has c was.0 a (kinds_inverse.1 c.kind was.0 was.1).0 was.2

-- ---- all conversions

-- every conversion between a value and its code, or its codes, is inverse both ways
pub codes_are_inverse : CodesAreInverse
codes_are_inverse = record {
  states = states_inverse;
  joins = joins_inverse;
  comparisons = comparisons_inverse;
  marks = marks_inverse;
  kinds = kinds_inverse;
  families = families_inverse;
  names = names_inverse;
  members = members_inverse;
  places = places_inverse;
  numbers = numbers_inverse;
  entries = entries_inverse;
  tests = (test_decodes, test_of_keeps);
  actions = (action_decodes, action_of_keeps);
}
