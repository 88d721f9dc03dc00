-- Rearranged tables run alike.
use Rattle.std.proofs.Common.{◌≡◌, ℕ, Bool, false, List, [], ◌∷◌, get_or, Some, None, Option, sym, ◌∙◌, subst, inl, inr}
use Rattle.tables.specs.Rows.{TableRows}
use Rattle.documents.proofs.Accepting.{accepted_tables_keep_the_rules}
use Rattle.rules.specs.Calls.{ProcessorState, fresh, Rule}
use Rattle.rules.specs.Runs.{Moment, calls, Run, end_of, CallAlike, CallsAlike, last_frame, last_of}
use Rattle.rules.specs.RunsAlike.{OwnOrOne, ShownAlike, Agree, AgreeAlong, RearrangedTablesRunAlike}
use Rattle.rules.proofs.Related.{Related, tables_alike, related_fresh}
use Rattle.rules.proofs.Calls.{calls_alike}
use Rattle.rules.proofs.Untouched.{unset_kept}

-- a cell that is its own frame's or one in both is one where the frames show it alike
pub shown_alike : (f g : Option (List ℕ)) (cs ds : List Bool) (i : ℕ) → OwnOrOne f g cs ds i → ShownAlike f g i → get_or cs i false ≡ get_or ds i false
shown_alike f g cs ds i (inr one) alike = one
shown_alike None None cs ds i (inl own) alike = absurd own.0
shown_alike None (Some g) cs ds i (inl own) alike = absurd alike
shown_alike (Some f) None cs ds i (inl own) alike = absurd alike
shown_alike (Some f) (Some g) cs ds i (inl own) alike = own.0 ∙ alike ∙ sym own.1

-- one call of each, from states that are related
pub agree_next : (z : TableRows) (f g : Option (List ℕ)) (m n : Moment) → Related z f g m.before n.before → CallAlike z m.call n.call
    → Rule m.call m.before m.answer m.after → Rule n.call n.before n.answer n.after
    → Agree (last_frame f m.call) (last_frame g n.call) m n
    × Related z (last_frame f m.call) (last_frame g n.call) m.after n.after
agree_next z f g m n rel alike k l =
    let next = calls_alike z f g m.before n.before m.after n.after m.answer n.answer rel m.call n.call alike k l in
    let near = next.1.memories in (
      record {
        answers = next.0;
        flags = near.places.flags;
        waits = near.waits;
        cells = λ i. shown_alike (last_frame f m.call) (last_frame g n.call) m.after.memory.places.cells n.after.memory.places.cells i (near.places.cells i);
        own_or_one = near.places.cells;
        kept = unset_kept m.call m.before m.after m.answer k;
        kept_too = unset_kept n.call n.before n.after n.answer l;
      },
      next.1,
    )

-- runs that are alike end related
pub related_end : (z : TableRows) (f g : Option (List ℕ)) (a b : ProcessorState) (ms ns : List Moment) → Related z f g a b → Run a ms → Run b ns
    → CallsAlike z (calls ms) (calls ns) → Related z (last_of f ms) (last_of g ns) (end_of a ms) (end_of b ns)
related_end z f g a b [] [] rel p q alike = rel
related_end z f g a b [] (n ∷ ns) rel p q alike = absurd alike
related_end z f g a b (m ∷ ms) [] rel p q alike = absurd alike
related_end z f g a b (m ∷ ms) (n ∷ ns) rel p q alike =
    let rel_too : Related z f g m.before n.before = subst (λ s. Related z f g s n.before) (sym p.0) (subst (Related z f g a) (sym q.0) rel) in
    let next = agree_next z f g m n rel_too alike.0 p.1 q.1 in
    related_end z (last_frame f m.call) (last_frame g n.call) m.after n.after ms ns next.1 p.2 q.2 alike.1

agree_along : (z : TableRows) (f g : Option (List ℕ)) (a b : ProcessorState) (ms ns : List Moment) → Related z f g a b → Run a ms → Run b ns
    → CallsAlike z (calls ms) (calls ns) → AgreeAlong f g ms ns
agree_along z f g a b [] [] rel p q alike = tt
agree_along z f g a b [] (n ∷ ns) rel p q alike = alike
agree_along z f g a b (m ∷ ms) [] rel p q alike = alike
agree_along z f g a b (m ∷ ms) (n ∷ ns) rel p q alike =
    let rel_too : Related z f g m.before n.before = subst (λ s. Related z f g s n.before) (sym p.0) (subst (Related z f g a) (sym q.0) rel) in
    let next = agree_next z f g m n rel_too alike.0 p.1 q.1 in
    (next.0, agree_along z (last_frame f m.call) (last_frame g n.call) m.after n.after ms ns next.1 p.2 q.2 alike.1)

pub rearranged_tables_run_alike : RearrangedTablesRunAlike
rearranged_tables_run_alike d e t u k l r ms ns p q alike =
    let tables = tables_alike t u (accepted_tables_keep_the_rules d t k) (accepted_tables_keep_the_rules e u l) r in
    agree_along t None None (fresh t) (fresh u) ms ns (related_fresh t u tables) p q alike
