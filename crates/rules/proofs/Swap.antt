-- Two statements that do not touch take their turns in either order.
use Rattle.std.proofs.Common.{◌≡◌, ℕ, ◌-◌, ◌≤◌, ◌≢◌, List, sym, refl, ◌∙◌, subst, ap₂, inl, inr, arith}
use lib.Seq.{set_comm}
use Rattle.tables.specs.declared.place.Place.{Place}
use Rattle.tables.specs.Rows.{StatementRow, TableRows}
use Rattle.rules.specs.declared.branch.Branch.{Branch}
use Rattle.rules.specs.Memory.{Places, place_on, Wait, Memory}
use Rattle.rules.specs.Testing.{view}
use Rattle.rules.specs.Acting.{written_at, after_writes}
use Rattle.rules.specs.Scanning.{actions, branch_now, wait_now, acted, turn}
use Rattle.rules.specs.Touching.{Sets, Tests, Touch}
use Rattle.rules.proofs.Places.{Writes, place_unwritten, writes_commute}
use Rattle.rules.proofs.Locality.{tests_read_only_what_they_name, branches_write_only_what_they_set, records_step_alone}

-- a place that a branch writes is one that the statement sets
written_place_is_set : (s : StatementRow) (b : Branch) (count : ℕ) (p : Place) → Writes (written_at count (actions s b)) p → Sets s p
written_place_is_set s b count p k = subst (Sets s) k.2 (branches_write_only_what_they_set s b count k.0 k.1)

-- a branch leaves the places that the statement does not set
pub acting_leaves : (s : StatementRow) (b : Branch) (count : ℕ) (ps : Places) (p : Place) → (Sets s p → ⊥)
    → place_on (after_writes (written_at count (actions s b)) ps) p ≡ place_on ps p
acting_leaves s b count ps p n = place_unwritten (written_at count (actions s b)) p ps (λ k. n (written_place_is_set s b count p k))

-- touching goes both ways
pub touch_back : (a b : StatementRow) → Touch a b → Touch b a
touch_back a b (p, inl (v, inl w)) = (p, inl (w, inl v))
touch_back a b (p, inl (v, inr k)) = (p, inr (v, k))
touch_back a b (p, inr (w, k)) = (p, inl (w, inr k))

acts_commute : (s u : StatementRow) (b c : Branch) (x y : Wait) (m : Memory) → (Touch s u → ⊥) → 1 ≤ s.name → 1 ≤ u.name → s.name ≢ u.name
    → acted s b x (acted u c y m) ≡ acted u c y (acted s b x m)
acts_commute s u b c x y m apart hs hu d = λ i. record { places = places i; waits = waits i }
  where
    places : after_writes (written_at x.count (actions s b)) (after_writes (written_at y.count (actions u c)) m.places)
        ≡ after_writes (written_at y.count (actions u c)) (after_writes (written_at x.count (actions s b)) m.places)
    places = writes_commute (written_at x.count (actions s b)) (written_at y.count (actions u c)) m.places
        (λ p k l. apart (p, inl (written_place_is_set s b x.count p k, inl (written_place_is_set u c y.count p l))))

    waits : (acted s b x (acted u c y m)).waits ≡ (acted u c y (acted s b x m)).waits
    waits = set_comm m.waits (u.name - 1) (s.name - 1) y x (λ e. d (omega (arith, e)))

module _ (t : TableRows) (f : List ℕ) where
  -- the branch of one does not change by a turn of another that sets nothing it tests
  branch_after : (s u : StatementRow) (c : Branch) (w : Wait) (m : Memory) → ((p : Place) → Tests s p → Sets u p → ⊥)
      → branch_now t f s (acted u c w m).places ≡ branch_now t f s m.places
  branch_after s u c w m n = records_step_alone.branch t t f f s (acted u c w m) m refl
      (tests_read_only_what_they_name s.tests (view t f (acted u c w m).places) (view t f m.places) (record {
        places = λ p k. acting_leaves u c w.count m.places p (n p k);
        numbers = λ k h. refl;
        names = λ k h. refl;
      }))

  -- so both turns can be told from the start
  half : (s u : StatementRow) → (Touch s u → ⊥) → 1 ≤ s.name → 1 ≤ u.name → s.name ≢ u.name → (m : Memory)
      → turn t f s (turn t f u m) ≡ acted s (branch_now t f s m.places) (wait_now t f s m) (turn t f u m)
  half s u apart hs hu d m =
      let c = branch_now t f u m.places in
      let w = wait_now t f u m in
      let e = branch_after s u c w m (λ p k l. apart (p, inr (l, k))) in
      ap₂ (λ b x. acted s b x (acted u c w m)) e
      (records_step_alone.own s _ _ (acted u c w m) m e (records_step_alone.others u c w m s.name hs hu d))

  pub turns_commute : (s u : StatementRow) → (Touch s u → ⊥) → 1 ≤ s.name → 1 ≤ u.name → s.name ≢ u.name → (m : Memory)
      → turn t f s (turn t f u m) ≡ turn t f u (turn t f s m)
  turns_commute s u apart hs hu d m =
      half s u apart hs hu d m
      ∙ acts_commute s u (branch_now t f s m.places) (branch_now t f u m.places) _ _ m apart hs hu d
      ∙ sym (half u s (λ k. apart (touch_back u s k)) hu hs (λ e. d (sym e)) m)
