-- One call of each of two runs.
use Rattle.std.proofs.Common.{◌≡◌, ℕ, Bool, true, false, eqb, List, Some, None, Option, sym, refl, ap, ◌∙◌, subst, subst₂, inl, inr}
use Rattle.tables.specs.declared.statement.Mark.{Mark}
use Rattle.tables.specs.Codes.{mark_of}
use Rattle.tables.specs.Rows.{StatementRow, TableRows}
use Rattle.rules.specs.Memory.{blank}
use Rattle.rules.specs.Reordering.{Answer, Reorders}
use Rattle.rules.specs.Calls.{ProcessorState, fresh, Call, scan, switch, reorder, restart, has_name, with_mark, switch_answer, switched, after_switch, Rule}
use Rattle.rules.specs.Runs.{FramesAlike, CallAlike, last_frame}
use Rattle.rules.proofs.Lists.{among_unmap}
use Rattle.rules.proofs.SameScan.{same_some}
use Rattle.rules.proofs.Marks.{shuffle_marked}
use Rattle.rules.proofs.Near.{Near}
use Rattle.rules.proofs.Related.{TablesAlike, Covers, Nobody, Related, near_same}
use Rattle.rules.proofs.Reorders.{reorders_alike}
use Rattle.rules.proofs.Scans.{scans_alike}

-- what a call of each run leaves
abbrev After : TableRows → Option (List ℕ) → Option (List ℕ) → Call → Call → Answer → Answer → ProcessorState → ProcessorState → Type 0
After z p q c d r s a' b' = (r ≡ s) × Related z (last_frame p c) (last_frame q d) a' b'

-- every frame is alike to itself
itself : (z : TableRows) (f : List ℕ) → FramesAlike z f f
itself z f = record { lengths = refl; look = λ e. record { cells = λ b c k. refl; numbers = λ n k. refl; settings = refl } }

-- ---- switch

switched_alike : (n : ℕ) (b : Bool) (o : Option Mark) (t u : TableRows) → TablesAlike t u → TablesAlike (switched n b o t) (switched n b o u)
switched_alike n false o t u a = a
switched_alike n true None t u a = a
switched_alike n true (Some m) t u a = record { statements = shuffle_marked n m t.statements u.statements a.statements; plans = a.plans }

switched_covers : (n : ℕ) (b : Bool) (o : Option Mark) (z t : TableRows) → Covers z t.statements → Covers z (switched n b o t).statements
switched_covers n false o z t h = h
switched_covers n true None z t h = h
switched_covers n true (Some m) z t h = λ s k.
    let x = among_unmap (with_mark n m) s t.statements k in
    let y = h x.0 x.1 in
    (y.0, y.1, y.2 ∙ ap (λ (w : StatementRow). w.tests) x.2)

-- ---- reorder

reordered_covers : (order : List ℕ) (z t t' : TableRows) (r : Answer) → Reorders order t r t' → Covers z t.statements → Covers z t'.statements
reordered_covers order z t t' r (inl p) h = λ s k. h s ((p.same s).1 k)
reordered_covers order z t t' r (inr (inl p)) h = subst (λ (v : TableRows). Covers z v.statements) (sym p.kept) h
reordered_covers order z t t' r (inr (inr p)) h = subst (λ (v : TableRows). Covers z v.statements) (sym p.kept) h

-- ---- any call

module _ (z : TableRows) (p q : Option (List ℕ)) (a b a' b' : ProcessorState) (r s : Answer) (rel : Related z p q a b) where
  scan_pair : (f g : List ℕ) → FramesAlike z f g → Rule (scan f) a r a' → Rule (scan g) b s b' → After z p q (scan f) (scan g) r s a' b'
  scan_pair f g alike k l =
      let both = scans_alike z p q a b rel f g alike in (
        k.0 ∙ both.0 ∙ sym l.0,
        subst₂ (Related z (last_frame p (scan f)) (last_frame q (scan g))) (sym k.1) (sym l.1) both.1,
      )

  same_call : (c : Call) → Rule c a r a' → Rule c b s b' → After z p q c c r s a' b'
  same_call (scan f) k l = scan_pair f f (itself z f) k l
  same_call (switch n char) k l =
      let x = has_name n a.table.statements in
      let y = has_name n b.table.statements in
      let o = mark_of char in
      let e : x ≡ y = same_some (λ w. eqb w.name n) a.table.statements b.table.statements rel.tables.statements in
      let tables : TablesAlike (switched n x o a.table) (switched n y o b.table) =
      subst (λ v. TablesAlike (switched n x o a.table) (switched n v o b.table)) e (switched_alike n x o a.table b.table rel.tables) in
      let after : Related z p q (after_switch n char a) (after_switch n char b) =
      record { tables = tables; covers = switched_covers n x o z a.table rel.covers; memories = rel.memories } in
      (k.0 ∙ ap (λ v. switch_answer v o) e ∙ sym l.0, subst₂ (Related z p q) (sym k.1) (sym l.1) after)
  same_call (reorder order) k l =
      let both = reorders_alike order a.table b.table a'.table b'.table r s rel.tables k.0 l.0 in (
        both.0,
        record {
          tables = both.1;
          covers = reordered_covers order z a.table a'.table r k.0 rel.covers;
          memories = subst₂ (Near Nobody p q) (sym k.1) (sym l.1) rel.memories;
        },
      )
  same_call restart k l =
      let after : Related z p q (fresh a.table) (fresh b.table) =
      record { tables = rel.tables; covers = rel.covers; memories = near_same p q blank } in
      (k.0 ∙ sym l.0, subst₂ (Related z p q) (sym k.1) (sym l.1) after)

  pub calls_alike : (c d : Call) → CallAlike z c d → Rule c a r a' → Rule d b s b' → After z p q c d r s a' b'
  calls_alike c d (inl e) k l =
      subst (λ v. Rule v b s b' → After z p q c v r s a' b') e (same_call c k) l
  calls_alike c d (inr (f, g, e, h, alike)) k l =
      let pair : Rule c a r a' → Rule d b s b' → After z p q c d r s a' b' =
      subst₂ (λ x y. Rule x a r a' → Rule y b s b' → After z p q x y r s a' b') (sym e) (sym h) (scan_pair f g alike) in
      pair k l
