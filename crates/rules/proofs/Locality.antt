-- What a statement's tests read, what its branches write, and which record it steps. The proofs above rest on these alone:
-- there the definitions of a test's truth, of joining, of the wait step and of what is due stay shut.
use Rattle.std.proofs.Common.{◌≡◌, ℕ, ◌+◌, ◌-◌, Bool, true, false, cond, leb, List, [], ◌∷◌, sym, refl, ap, ◌∙◌, subst, ap₂, inl, inr, arith, get_or-set_other}
use Rattle.tables.specs.declared.place.Place.{Place}
use Rattle.tables.specs.declared.number.Number.{Number}
use Rattle.tables.specs.declared.test.Test.{Test}
use Rattle.tables.specs.declared.test.Test.TheVariants.{PlaceIs, MemberIs, StatementIs, NumberIs}
use Rattle.tables.specs.declared.test.JoinedTest.{JoinedTest}
use Rattle.tables.specs.declared.action.Action.{Action}
use Rattle.tables.specs.declared.action.Action.TheVariants.{SetPlace, SetMember, Delay}
use Rattle.tables.specs.Families.{cells_named}
use Rattle.tables.specs.Lists.{Among}
use Rattle.tables.specs.Rows.{StatementRow, TableRows}
use Rattle.rules.specs.declared.branch.Branch.{Branch}
use Rattle.rules.specs.declared.branch.Branch.TheVariants.{Neither, Then, Else}
use Rattle.rules.specs.Frames.{setting}
use Rattle.rules.specs.Memory.{Places, Wait, no_wait}
use Rattle.rules.specs.Enabling.{enabled}
use Rattle.rules.specs.Testing.{View, view, in_state, compares, compared_as, truth, joined, joined_below, holds}
use Rattle.rules.specs.Acting.{Timed, timed, Write, writes, due, written_at}
use Rattle.rules.specs.Scanning.{next_count, stepped, actions, branch_by, branch_now}
use Rattle.rules.specs.Touching.{test_places, test_numbers, test_names, action_places, joined_test_places, named_by}
use Rattle.rules.specs.Locality.{SameView, TestsReadOnlyWhatTheyName, BranchesWriteOnlyWhatTheySet, RecordsStepAlone}
use Rattle.rules.proofs.Lists.{among_left, among_right, among_either, among_unmap, some_same}

-- ---- what tests read

module _ (v w : View) where
  truth_same : (x : Test)
      → ((p : Place) → Among p (test_places x) → v.place p ≡ w.place p)
      → ((n : Number) → Among n (test_numbers x) → v.number n ≡ w.number n)
      → ((n : ℕ) → Among n (test_names x) → v.enables n ≡ w.enables n)
      → truth v x ≡ truth w x
  unfolding truth
  truth_same (PlaceIs place state) hp hn hs = ap (in_state state) (hp place (inl refl))
  truth_same (MemberIs member state) hp hn hs = ap (in_state state) (some_same v.place w.place (cells_named member.family member.number) hp)
  truth_same (StatementIs name state) hp hn hs = ap (in_state state) (hs name.0 (inl refl))
  truth_same (NumberIs number comparison entry) hp hn hs = ap (λ x. compares comparison x (compared_as entry)) (hn number (inl refl))

  below_same : (ts : List JoinedTest) (b : Bool) → SameView ts v w → joined_below v b ts ≡ joined_below w b ts
  below_same [] b h = refl
  below_same (t ∷ ts) b h =
      ap (λ x. joined_below v (joined t.join b x) ts)
      (truth_same t.test
      (λ p k. h.places p (among_left p (test_places t.test) (named_by joined_test_places ts) k))
      (λ n k. h.numbers n (among_left n (test_numbers t.test) (named_by (λ (u : JoinedTest). test_numbers u.test) ts) k))
      (λ n k. h.names n (among_left n (test_names t.test) (named_by (λ (u : JoinedTest). test_names u.test) ts) k)))
      ∙ below_same ts (joined t.join b (truth w t.test)) (record {
        places = λ p k. h.places p (among_right p (test_places t.test) (named_by joined_test_places ts) k);
        numbers = λ n k. h.numbers n (among_right n (test_numbers t.test) (named_by (λ (u : JoinedTest). test_numbers u.test) ts) k);
        names = λ n k. h.names n (among_right n (test_names t.test) (named_by (λ (u : JoinedTest). test_names u.test) ts) k);
      })

pub tests_read_only_what_they_name : TestsReadOnlyWhatTheyName
unfolding holds
tests_read_only_what_they_name ts v w h = below_same v w ts false h

-- ---- what branches write

among_due : (w : Write) (count : ℕ) (ts : List Timed) → Among w (due count ts) → (a : Timed) × Among a ts × Among w.place a.places
among_due w count [] m = absurd m
among_due w count (a ∷ ts) m =
    elim (among_either w (cond (leb a.wait count) (writes a.places a.on) []) (due count ts) m) [
      | inl k ↦ (a, inl refl, here (leb a.wait count) k)
      | inr k ↦ let r = among_due w count ts k in (r.0, inr r.1, r.2)
    ]
  where
    here : (b : Bool) → Among w (cond b (writes a.places a.on) []) → Among w.place a.places
    here true k =
        let r = among_unmap (λ p. record { place = p; on = a.on }) w a.places k in
        subst (λ p. Among p a.places) (ap (λ (x : Write). x.place) r.2) r.1
    here false k = absurd k

among_timed : (a : Timed) (wait : ℕ) (p : Place) (acts : List Action) → Among a (timed wait acts) → Among p a.places → Among p (named_by action_places acts)
among_timed a wait p [] m k = m
among_timed a wait p (SetPlace place state ∷ acts) (inl e) k =
    among_left p (place ∷ []) (named_by action_places acts) (subst (λ (x : Timed). Among p x.places) (sym e) k)
among_timed a wait p (SetPlace place state ∷ acts) (inr m) k = among_right p (place ∷ []) (named_by action_places acts) (among_timed a wait p acts m k)
among_timed a wait p (SetMember member state ∷ acts) (inl e) k =
    among_left p (cells_named member.family member.number) (named_by action_places acts) (subst (λ (x : Timed). Among p x.places) (sym e) k)
among_timed a wait p (SetMember member state ∷ acts) (inr m) k =
    among_right p (cells_named member.family member.number) (named_by action_places acts) (among_timed a wait p acts m k)
among_timed a wait p (Delay tenths ∷ acts) m k = among_timed a (wait + tenths.0) p acts m k

written_is_set : (w : Write) (count : ℕ) (acts : List Action) → Among w (written_at count acts) → Among w.place (named_by action_places acts)
unfolding written_at
written_is_set w count acts m = let r = among_due w count (timed 0 acts) m in among_timed r.0 0 w.place acts r.1 r.2

pub branches_write_only_what_they_set : BranchesWriteOnlyWhatTheySet
branches_write_only_what_they_set s Neither count w m = absurd (written_is_set w count [] m)
branches_write_only_what_they_set s Then count w m = inl (written_is_set w count s.thens m)
branches_write_only_what_they_set s Else count w m = inr (written_is_set w count s.elses m)

-- no branch writes nothing
pub neither_writes_nothing : (s : StatementRow) (count : ℕ) → written_at count (actions s Neither) ≡ []
unfolding written_at
neither_writes_nothing s count = refl

-- ---- who steps which record

-- a statement that is not enabled takes neither branch
pub disabled_takes_neither : (t : TableRows) (f : List ℕ) (s : StatementRow) (ps : Places) → enabled t.plans (setting f) s ≡ false → branch_now t f s ps ≡ Neither
unfolding branch_now
disabled_takes_neither t f s ps e = ap (λ b. branch_by b (holds (view t f ps) s.tests)) e

-- and then its record holds no branch
pub stepped_to_neither : (h : Wait) → stepped h Neither ≡ no_wait
unfolding stepped
stepped_to_neither h = λ i. record { branch = Neither; count = none h.branch i }
  where
    none : (b : Branch) → next_count b Neither h.count ≡ 0
    none Neither = refl
    none Then = refl
    none Else = refl

pub records_step_alone : RecordsStepAlone
unfolding branch_now
records_step_alone = record {
  branch = λ t u f g s m n e h. ap₂ branch_by e h;
  own = λ s b c m n e h. ap₂ stepped h e;
  others = λ s b w m name h k d. get_or-set_other m.waits (s.name - 1) (name - 1) w no_wait (λ e. d (omega (arith, e)));
}
