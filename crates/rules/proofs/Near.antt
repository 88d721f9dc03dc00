-- Scans of one table from two memories that differ only in cells that no statement tests.
use Rattle.std.proofs.Common.{◌≡◌, ℕ, zero, suc, Bool, false, ◌≢◌, List, [], ◌∷◌, length, get_or, set, Some, None, Option, sym, refl, ap, ◌∙◌, subst, subst₂, inl, inr, arith, length-set, get_or-set_other}
use native.Mathlib.Decide.{ℕ_discrete}
use Rattle.tables.specs.declared.place.Place.{Place}
use Rattle.tables.specs.declared.number.Number.{Number}
use Rattle.tables.specs.Lists.{Among}
use Rattle.tables.specs.Rows.{StatementRow, TableRows}
use Rattle.rules.specs.declared.branch.Branch.{Branch}
use Rattle.rules.specs.Frames.{number_shown, setting}
use Rattle.rules.specs.Memory.{Places, Location, in_cells, in_flags, nowhere, location, on_at, set_at, place_on, place_set, Wait, wait_of, with_wait, Memory}
use Rattle.rules.specs.Enabling.{enabled, name_enabled}
use Rattle.rules.specs.Testing.{view}
use Rattle.rules.specs.Acting.{Write, written_at, after_writes}
use Rattle.rules.specs.Scanning.{actions, branch_now, wait_now, acted, turn, turns}
use Rattle.rules.specs.Touching.{Tests, TestsNumber}
use Rattle.rules.specs.RunsAlike.{Own, OwnOrOne}
use Rattle.rules.proofs.Locality.{tests_read_only_what_they_name, records_step_alone}

-- ---- two lists of cells

own_set_other : (f : Option (List ℕ)) (cs : List Bool) (i c : ℕ) (v : Bool) → c ≢ i → Own f cs c → Own f (set cs i v) c
own_set_other None cs i c v n o = o
own_set_other (Some f) cs i c v n o = get_or-set_other cs i c v false n ∙ o

set_both : (cs ds : List Bool) (i : ℕ) (v : Bool) → length cs ≡ length ds → get_or (set cs i v) i false ≡ get_or (set ds i v) i false
set_both [] [] i v e = refl
set_both [] (d ∷ ds) i v e = absurd (omega (arith, e))
set_both (c ∷ cs) [] i v e = absurd (omega (arith, e))
set_both (c ∷ cs) (d ∷ ds) zero v e = refl
set_both (c ∷ cs) (d ∷ ds) (suc i) v e = set_both cs ds i v (omega (arith, e))

module _ (cs ds : List Bool) (i : ℕ) (v : Bool) (long : length cs ≡ length ds) where
  one_set : (c : ℕ) → get_or cs c false ≡ get_or ds c false → get_or (set cs i v) c false ≡ get_or (set ds i v) c false
  one_set c e = elim (ℕ_discrete c i) [
    | yes p ↦ subst (λ k. get_or (set cs i v) k false ≡ get_or (set ds i v) k false) (sym p) (set_both cs ds i v long)
    | no n ↦ get_or-set_other cs i c v false n ∙ e ∙ sym (get_or-set_other ds i c v false n)
  ]

  own_set : (f g : Option (List ℕ)) (c : ℕ) → OwnOrOne f g cs ds c → OwnOrOne f g (set cs i v) (set ds i v) c
  own_set f g c (inr e) = inr (one_set c e)
  own_set f g c (inl e) = elim (ℕ_discrete c i) [
    | yes p ↦ inr (subst (λ k. get_or (set cs i v) k false ≡ get_or (set ds i v) k false) (sym p) (set_both cs ds i v long))
    | no n ↦ inl (own_set_other f cs i c v n e.0, own_set_other g ds i c v n e.1)
  ]

-- ---- two memories

-- Equal flags, cells that are their own frame's or one, and equal places wherever P says that somebody looks.
pub record NearPlaces (P : Place → Type 0) (f g : Option (List ℕ)) (ps qs : Places) : Type 0 where
  pub flags : ps.flags ≡ qs.flags
  pub long : length ps.cells ≡ length qs.cells
  pub cells : (i : ℕ) → OwnOrOne f g ps.cells qs.cells i
  pub looked : (p : Place) → P p → place_on ps p ≡ place_on qs p

-- and equal wait records
pub record Near (P : Place → Type 0) (f g : Option (List ℕ)) (m n : Memory) : Type 0 where
  pub places : NearPlaces P f g m.places n.places
  pub waits : m.waits ≡ n.waits

-- one location set alike in both stays alike, and so does any other that was
on_set_both : (k l : Location) (v : Bool) (ps qs : Places) → length ps.cells ≡ length qs.cells → ps.flags ≡ qs.flags
    → on_at ps l ≡ on_at qs l → on_at (set_at k v ps) l ≡ on_at (set_at k v qs) l
on_set_both (in_cells i) (in_cells j) v ps qs long flags e = one_set ps.cells qs.cells i v long j e
on_set_both (in_cells i) (in_flags j) v ps qs long flags e = e
on_set_both (in_cells i) nowhere v ps qs long flags e = refl
on_set_both (in_flags i) (in_cells j) v ps qs long flags e = e
on_set_both (in_flags i) (in_flags j) v ps qs long flags e = ap (λ fs. get_or (set fs i v) j false) flags
on_set_both (in_flags i) nowhere v ps qs long flags e = refl
on_set_both nowhere l v ps qs long flags e = e

module _ (P : Place → Type 0) (f g : Option (List ℕ)) where
  near_set : (k : Location) (v : Bool) (ps qs : Places) → NearPlaces P f g ps qs → NearPlaces P f g (set_at k v ps) (set_at k v qs)
  near_set (in_cells i) v ps qs h = record {
    flags = h.flags;
    long = length-set ps.cells i v ∙ h.long ∙ sym (length-set qs.cells i v);
    cells = λ c. own_set ps.cells qs.cells i v h.long f g c (h.cells c);
    looked = λ p k. on_set_both (in_cells i) (location p) v ps qs h.long h.flags (h.looked p k);
  }
  near_set (in_flags i) v ps qs h = record {
    flags = ap (λ fs. set fs i v) h.flags;
    long = h.long;
    cells = h.cells;
    looked = λ p k. on_set_both (in_flags i) (location p) v ps qs h.long h.flags (h.looked p k);
  }
  near_set nowhere v ps qs h = h

  near_writes : (ws : List Write) (ps qs : Places) → NearPlaces P f g ps qs → NearPlaces P f g (after_writes ws ps) (after_writes ws qs)
  near_writes [] ps qs h = h
  near_writes (w ∷ ws) ps qs h =
      near_writes ws (place_set w.place w.on ps) (place_set w.place w.on qs) (near_set (location w.place) w.on ps qs h)

  near_acted : (s : StatementRow) (b : Branch) (w : Wait) (m n : Memory) → Near P f g m n → Near P f g (acted s b w m) (acted s b w n)
  near_acted s b w m n h = record {
    places = near_writes (written_at w.count (actions s b)) m.places n.places h.places;
    waits = ap (with_wait s.name w) h.waits;
  }

-- ---- the scan

-- Two tables and frames that look alike to statements whose tests look only where P says.
pub record Views (P : Place → Type 0) (f g : List ℕ) (t u : TableRows) (xs : List StatementRow) : Type 0 where
  pub places : (s : StatementRow) → Among s xs → (p : Place) → Tests s p → P p
  pub numbers : (s : StatementRow) → Among s xs → (n : Number) → TestsNumber s n → number_shown f n ≡ number_shown g n
  pub enable : (s : StatementRow) → enabled t.plans (setting f) s ≡ enabled u.plans (setting g) s
  pub names : (name : ℕ) → name_enabled t.plans (setting f) t.statements name ≡ name_enabled u.plans (setting g) u.statements name

module _ (P : Place → Type 0) (f g : List ℕ) (t u : TableRows) where
  near_turn : (s : StatementRow) (xs : List StatementRow) → Among s xs → Views P f g t u xs → (m n : Memory) → Near P (Some f) (Some g) m n
      → Near P (Some f) (Some g) (turn t f s m) (turn u g s n)
  near_turn s xs k v m n h =
      let b = branch_now t f s m.places in
      let tests = tests_read_only_what_they_name s.tests (view t f m.places) (view u g n.places) (record {
        places = λ p q. h.places.looked p (v.places s k p q);
        numbers = v.numbers s k;
        names = λ name _. v.names name;
      }) in
      let e : b ≡ branch_now u g s n.places = records_step_alone.branch t u f g s m n (v.enable s) tests in
      subst₂ (λ c x. Near P (Some f) (Some g) (turn t f s m) (acted s c x n)) e (records_step_alone.own s _ _ m n e (ap (wait_of s.name) h.waits))
      (near_acted P (Some f) (Some g) s b (wait_now t f s m) m n h)

  pub near_turns : (xs : List StatementRow) → Views P f g t u xs → (m n : Memory) → Near P (Some f) (Some g) m n
      → Near P (Some f) (Some g) (turns t f xs m) (turns u g xs n)
  near_turns [] v m n h = h
  near_turns (s ∷ xs) v m n h =
      near_turns xs
      (record {
        places = λ x k. v.places x (inr k);
        numbers = λ x k. v.numbers x (inr k);
        enable = v.enable;
        names = v.names;
      })
      (turn t f s m) (turn u g s n) (near_turn s (s ∷ xs) (inl refl) v m n h)
