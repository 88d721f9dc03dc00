-- A scan leaves the places that no enabled statement sets.
use Rattle.std.proofs.Common.{◌≡◌, ℕ, Bool, true, false, cond, List, [], ◌∷◌, length, get_or, sym, refl, ap, ◌∙◌, subst, inl, inr}
use Rattle.std.proofs.lemmas.Bool.{eq-eqb}
use Rattle.tables.specs.declared.place.Buffer.{Buffer}
use Rattle.tables.specs.declared.place.Buffer.TheVariants.{Input, Output}
use Rattle.tables.specs.declared.place.Place.{Place}
use Rattle.tables.specs.declared.place.Place.TheVariants.{Flag}
use Rattle.tables.specs.Families.{cell_in}
use Rattle.tables.specs.Limits.{last_flag, counted_to}
use Rattle.tables.specs.Lists.{Among}
use Rattle.tables.specs.Rows.{StatementRow, TableRows}
use Rattle.cells.specs.Cells.{cell_position}
use Rattle.rules.specs.Frames.{frame_bytes, cell_on, setting}
use Rattle.rules.specs.Memory.{Places, in_flags, nowhere, on_at, place_on, Memory}
use Rattle.rules.specs.Enabling.{enabled}
use Rattle.rules.specs.Acting.{after_writes}
use Rattle.rules.specs.Scanning.{branch_now, wait_now, acted, turn, turns, frame_taken, scanned}
use Rattle.rules.specs.Touching.{Sets}
use Rattle.rules.specs.Reordering.{Answer}
use Rattle.rules.specs.Calls.{ProcessorState, Call, scan, switch, reorder, restart, Rule}
use Rattle.rules.specs.RunsAlike.{SetByEnabled, UnsetPlacesKept, UnsetKeptBy}
use Rattle.rules.proofs.Locality.{disabled_takes_neither, neither_writes_nothing}
use Rattle.rules.proofs.Swap.{acting_leaves}
use Rattle.rules.proofs.Scans.{at_location}

module _ (t : TableRows) (f : List ℕ) (p : Place) where
  turn_leaves : (s : StatementRow) (m : Memory) → (enabled t.plans (setting f) s ≡ true → Sets s p → ⊥) → place_on (turn t f s m).places p ≡ place_on m.places p
  turn_leaves s m h = by (enabled t.plans (setting f) s) refl
    where
      by : (b : Bool) → enabled t.plans (setting f) s ≡ b → place_on (turn t f s m).places p ≡ place_on m.places p
      by true e = acting_leaves s (branch_now t f s m.places) (wait_now t f s m).count m.places p (h e)
      by false e =
          subst (λ b. place_on (acted s b (wait_now t f s m) m).places p ≡ place_on m.places p) (sym (disabled_takes_neither t f s m.places e))
          (ap (λ ws. place_on (after_writes ws m.places) p) (neither_writes_nothing s (wait_now t f s m).count))

  turns_leave : (xs : List StatementRow) (m : Memory) → ((s : StatementRow) → Among s xs → enabled t.plans (setting f) s ≡ true → Sets s p → ⊥)
      → place_on (turns t f xs m).places p ≡ place_on m.places p
  turns_leave [] m h = refl
  turns_leave (s ∷ xs) m h = turns_leave xs (turn t f s m) (λ x k. h x (inr k)) ∙ turn_leaves s m (h s (inl refl))

-- a cell of a buffer, and what its place keeps
cell_place : (ps : Places) (b : Buffer) (c : ℕ) → place_on ps (cell_in b c) ≡ cell_on ps.cells b c
cell_place ps Input c = at_location ps (cell_position Input c)
cell_place ps Output c = at_location ps (cell_position Output c)

-- a flag does not hang on the cells
flag_alone : (ps qs : Places) → ps.flags ≡ qs.flags → (n : ℕ) → place_on ps (Flag n) ≡ place_on qs (Flag n)
flag_alone ps qs e n = by (counted_to last_flag n) _
  where
    by : (b : Bool) (i : ℕ) → on_at ps (cond b (in_flags i) nowhere) ≡ on_at qs (cond b (in_flags i) nowhere)
    by true i = ap (λ fs. get_or fs i false) e
    by false i = refl

module _ (frame : List ℕ) (s : ProcessorState) where
  abbrev after : ProcessorState
  after = record { table = s.table; memory = scanned s.table frame s.memory }

  stays : (p : Place) → (SetByEnabled s.table frame p → ⊥) → place_on after.memory.places p ≡ place_on (frame_taken frame s.memory).places p
  stays p n = turns_leave s.table frame p s.table.statements (frame_taken frame s.memory) (λ x k e h. n (x, k, e, h))

  kept : UnsetPlacesKept frame s after
  kept = record {
    cells = λ b c n. sym (cell_place after.memory.places b c) ∙ stays (cell_in b c) n ∙ cell_place (frame_taken frame s.memory).places b c;
    flags = λ f n. stays (Flag f) n ∙ flag_alone (frame_taken frame s.memory).places s.memory.places refl f;
  }

pub unset_kept : (c : Call) (s s' : ProcessorState) (r : Answer) → Rule c s r s' → UnsetKeptBy c s s'
unset_kept (scan frame) s s' r k = λ long.
    let e : after frame s ≡ s' =
    sym (ap (λ b. cond b (after frame s) s) (eq-eqb (length frame) frame_bytes long)) ∙ sym k.1 in
    subst (UnsetPlacesKept frame s) e (kept frame s)
unset_kept (switch n char) s s' r k = tt
unset_kept (reorder order) s s' r k = tt
unset_kept restart s s' r k = tt
