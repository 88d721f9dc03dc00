-- Two scans with frames that are alike.
use Rattle.std.proofs.Common.{◌≡◌, ℕ, ◌+◌, Bool, true, false, cond, ◌&&◌, eqb, List, [], ◌∷◌, length, get_or, take, Some, None, Ok, Err, Option, sym, refl, ap, ◌∙◌, subst, ap₂, inl, true≢false}
use mathlib.Core.Bool.{false≢true}
use Rattle.std.proofs.lemmas.Bool.{eqb-true}
use Rattle.tables.specs.declared.place.Buffer.TheVariants.{Input, Output}
use Rattle.tables.specs.declared.place.Place.{Place}
use Rattle.tables.specs.declared.place.Place.TheVariants.{InputCell, OutputCell, Flag}
use Rattle.tables.specs.declared.refusal.Refusal.TheVariants.{NotAFrame}
use Rattle.tables.specs.Limits.{last_flag, counted_to}
use Rattle.tables.specs.Refusals.{told}
use Rattle.tables.specs.Rows.{StatementRow, TableRows}
use Rattle.cells.specs.Cells.{all_cells, cell_bytes, packed_cell, cell_position, at_position}
use Rattle.cells.specs.Tabulated.{length_tabulated}
use Rattle.rules.specs.Frames.{frame_bytes, is_frame, cells_shown, setting}
use Rattle.rules.specs.Memory.{Places, in_flags, nowhere, cell_location, on_at, place_on, Memory}
use Rattle.rules.specs.Enabling.{enabled, enabled_count, name_enabled}
use Rattle.rules.specs.Scanning.{frame_taken, scanned}
use Rattle.rules.specs.Reordering.{Answer}
use Rattle.rules.specs.Calls.{ProcessorState, scan_answer, after_scan}
use Rattle.rules.specs.Runs.{Tested, LookAlike, FramesAlike}
use Rattle.rules.proofs.Lists.{some_same}
use Rattle.rules.proofs.SameScan.{order_does_not_matter, same_count, same_some}
use Rattle.rules.proofs.Near.{Near, Views, near_turns}
use Rattle.rules.proofs.Related.{TablesAlike, Covers, covered_place, covered_number, Nobody, Related, unlooked}

length_shown : (f : List ℕ) → length (cells_shown f) ≡ all_cells
length_shown f = length_tabulated all_cells (packed_cell (take cell_bytes f))

-- what a cell's position shows is what its location keeps
pub at_location : (ps : Places) (o : Option ℕ) → on_at ps (cell_location o) ≡ at_position ps.cells o
at_location ps None = refl
at_location ps (Some i) = refl

module _ (f g : List ℕ) (fs hs : List Bool) (flags : fs ≡ hs) where
  abbrev here : Places
  here = record { cells = cells_shown f; flags = fs }

  abbrev there : Places
  there = record { cells = cells_shown g; flags = hs }

  flag_same : (b : Bool) (n : ℕ) → on_at here (cond b (in_flags n) nowhere) ≡ on_at there (cond b (in_flags n) nowhere)
  flag_same true n = ap (λ xs. get_or xs n false) flags
  flag_same false n = refl

  -- places that the frames show alike, and flags that are the same
  pub shown_same : (t : TableRows) → LookAlike t f g → (p : Place) → Tested t p → place_on here p ≡ place_on there p
  shown_same t look (InputCell c) k =
      at_location here (cell_position Input c) ∙ look.cells Input c k ∙ sym (at_location there (cell_position Input c))
  shown_same t look (OutputCell c) k =
      at_location here (cell_position Output c) ∙ look.cells Output c k ∙ sym (at_location there (cell_position Output c))
  shown_same t look (Flag n) k = flag_same (counted_to last_flag n) _

module _ (z : TableRows) (f g : List ℕ) (t u : TableRows) (look : LookAlike z f g) (a : TablesAlike t u) where
  enable : (s : StatementRow) → enabled t.plans (setting f) s ≡ enabled u.plans (setting g) s
  enable s = ap₂ (λ ps now. enabled ps now s) a.plans look.settings

  names : (name : ℕ) → name_enabled t.plans (setting f) t.statements name ≡ name_enabled u.plans (setting g) u.statements name
  names name =
      some_same _ _ t.statements (λ s k. ap (λ b. eqb s.name name && b) (enable s))
      ∙ same_some (λ s. eqb s.name name && enabled u.plans (setting g) s) t.statements u.statements a.statements

  counted : (ys : List StatementRow) → enabled_count t.plans (setting f) ys ≡ enabled_count u.plans (setting g) ys
  counted [] = refl
  counted (s ∷ ys) = ap₂ (λ b n. cond b 1 0 + n) (enable s) (counted ys)

  counts : enabled_count t.plans (setting f) t.statements ≡ enabled_count u.plans (setting g) u.statements
  counts = counted t.statements ∙ same_count u.plans (setting g) t.statements u.statements a.statements

  module _ (covers : Covers z t.statements) (p q : Option (List ℕ)) (m n : Memory) (near : Near Nobody p q m n) where
    views : Views (Tested z) f g t u t.statements
    views = record {
      places = covered_place z t.statements covers;
      numbers = λ s k n h. look.numbers n (covered_number z t.statements covers s k n h);
      enable = enable;
      names = names;
    }

    start : Near (Tested z) (Some f) (Some g) (frame_taken f m) (frame_taken g n)
    start = record {
      places = record {
        flags = near.places.flags;
        long = length_shown f ∙ sym (length_shown g);
        cells = λ c. inl (refl, refl);
        looked = shown_same f g m.places.flags n.places.flags near.places.flags z look;
      };
      waits = near.waits;
    }

    scans_near : Near Nobody (Some f) (Some g) (scanned t f m) (scanned u g n)
    scans_near =
        unlooked (Tested z) (Some f) (Some g) _ _
        (subst (Near (Tested z) (Some f) (Some g) (scanned t f m))
        (order_does_not_matter u g t.statements u.statements a.statements (frame_taken g n))
        (near_turns (Tested z) f g t u t.statements views (frame_taken f m) (frame_taken g n) start))

-- one scan of each run
module _ (z : TableRows) (p q : Option (List ℕ)) (a b : ProcessorState) (rel : Related z p q a b) (f g : List ℕ) (alike : FramesAlike z f g) where
  abbrev scanned_by : List ℕ → ProcessorState → ProcessorState
  scanned_by h s = record { table = s.table; memory = scanned s.table h s.memory }

  abbrev counted_by : List ℕ → ProcessorState → ℕ
  counted_by h s = enabled_count s.table.plans (setting h) s.table.statements

  by : (x y : Bool) → is_frame f ≡ x → x ≡ y
      → (◌≡◌ {A = Answer} (cond x (Ok (counted_by f a)) (Err (told NotAFrame))) (cond y (Ok (counted_by g b)) (Err (told NotAFrame))))
      × Related z (cond x (Some f) p) (cond y (Some g) q) (cond x (scanned_by f a) a) (cond y (scanned_by g b) b)
  by true true e k =
      let look = alike.look (eqb-true (length f) frame_bytes e) in (
        ap Ok (counts z f g a.table b.table look rel.tables),
        record {
          tables = rel.tables;
          covers = rel.covers;
          memories = scans_near z f g a.table b.table look rel.tables rel.covers p q a.memory b.memory rel.memories;
        },
      )
  by true false e k = absurd (true≢false k)
  by false true e k = absurd (false≢true k)
  by false false e k = (refl, rel)

  pub scans_alike : (scan_answer f a ≡ scan_answer g b) × Related z (cond (is_frame f) (Some f) p) (cond (is_frame g) (Some g) q) (after_scan f a) (after_scan g b)
  scans_alike = by (is_frame f) (is_frame g) refl (ap (λ n. eqb n frame_bytes) alike.lengths)
