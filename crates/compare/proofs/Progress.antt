-- One step more of two runs.
use Rattle.std.proofs.Common.{◌≡◌, ℕ, ◌+◌, ◌<◌, ◌≤◌, List, get_or, take, arith, [], ◌∷◌, ◌++◌, map, length, Some, None, Ok, Option, sym, refl, ap, ◌∙◌, subst, subst₂, append_assoc}
use Rattle.std.specs.Option.{option_or, option_map}
use Rattle.std.proofs.lemmas.List.{map_push, length-map, length-take-le, take_more, take_all}
use Rattle.tables.specs.Rows.{TableRows}
use Rattle.documents.specs.Documents.{reading}
use Rattle.documents.proofs.Accepting.{accepted_tables_keep_the_rules}
use Rattle.rules.specs.Rearranging.{Rearrangement}
use Rattle.rules.specs.Calls.{ProcessorState, Call, fresh, Rule}
use Rattle.rules.specs.Runs.{Moment, calls, Run, end_of, CallsAlike, last_frame, last_of}
use Rattle.rules.specs.RunsAlike.{AgreeAlong}
use Rattle.rules.proofs.Related.{Related, tables_alike, related_fresh}
use Rattle.rules.proofs.RunsAlike.{shown_alike, related_end, rearranged_tables_run_alike}
use Rattle.compare.specs.declared.kind.Kind.{Kind}
use Rattle.compare.specs.declared.kind.Kind.TheVariants.{Answer, Flag, WaitRecord, Cell}
use Rattle.compare.specs.declared.kind.Difference.{Difference}
use Rattle.compare.specs.Steps.{Step, first_call, second_call}
use Rattle.compare.specs.Differences.{FoundAt, NothingFound, FirstDifference}
use Rattle.compare.specs.Comparing.{Stepped, Compared, AlikeThroughout}

-- ---- one moment more at the end of a run

run_more : (s : ProcessorState) (ms : List Moment) (m : Moment) → Run s ms → end_of s ms ≡ m.before → Rule m.call m.before m.answer m.after
    → Run s (ms ++ m ∷ [])
run_more s [] m r e k = (sym e, k, tt)
run_more s (x ∷ ms) m r e k = (r.0, r.1, run_more x.after ms m r.2 e k)

end_more : (s : ProcessorState) (ms : List Moment) (m : Moment) → end_of s (ms ++ m ∷ []) ≡ m.after
end_more s [] m = refl
end_more s (x ∷ ms) m = end_more x.after ms m

last_more : (f : Option (List ℕ)) (ms : List Moment) (m : Moment) → last_of f (ms ++ m ∷ []) ≡ last_frame (last_of f ms) m.call
last_more f [] m = refl
last_more f (x ∷ ms) m = last_more (last_frame f x.call) ms m

nothing_more : (f g : Option (List ℕ)) (ms ns : List Moment) (m n : Moment) → NothingFound f g ms ns
    → FoundAt (last_frame (last_of f ms) m.call) (last_frame (last_of g ns) n.call) m n None → NothingFound f g (ms ++ m ∷ []) (ns ++ n ∷ [])
nothing_more f g [] [] m n h k = (k, tt)
nothing_more f g [] (y ∷ ns) m n h k = absurd h
nothing_more f g (x ∷ ms) [] m n h k = absurd h
nothing_more f g (x ∷ ms) (y ∷ ns) m n h k = (h.0, nothing_more (last_frame f x.call) (last_frame g y.call) ms ns m n h.1 k)

-- ---- the first difference, one step later

-- the difference found before, else the one of this step
abbrev pub either_found : Option Difference → (step : ℕ) → Option Kind → Option Difference
either_found found step kind = option_or found (option_map (λ k. record { step = step; kind = k }) kind)

first_more : (ms ns : List Moment) (m n : Moment) (found : Option Difference) (kind : Option Kind) → FirstDifference ms ns found
    → FoundAt (last_frame (last_of None ms) m.call) (last_frame (last_of None ns) n.call) m n kind
    → FirstDifference (ms ++ m ∷ []) (ns ++ n ∷ []) (either_found found (length ms) kind)
first_more ms ns m n None None h k = nothing_more None None ms ns m n h k
first_more ms ns m n None (Some kind) h k = record {
  before = ms;
  before_too = ns;
  at = m;
  at_too = n;
  after = [];
  after_too = [];
  all = refl;
  all_too = refl;
  step = refl;
  nothing = h;
  found = k;
}
first_more ms ns m n (Some d) kind h k = record {
  before = h.before;
  before_too = h.before_too;
  at = h.at;
  at_too = h.at_too;
  after = h.after ++ m ∷ [];
  after_too = h.after_too ++ n ∷ [];
  all = ap (λ xs. xs ++ m ∷ []) h.all ∙ append_assoc h.before (h.at ∷ h.after) (m ∷ []);
  all_too = ap (λ xs. xs ++ n ∷ []) h.all_too ∙ append_assoc h.before_too (h.at_too ∷ h.after_too) (n ∷ []);
  step = h.step;
  nothing = h.nothing;
  found = h.found;
}

-- ---- runs so far

-- Two runs so far, with the frames accepted last.
pub record SoFar (t u : TableRows) (steps : List Step) (f g : Option (List ℕ)) (a b : ProcessorState) (found : Option Difference) : Type 0 where
  pub compared : Compared t u steps a b found
  pub frame : last_of None compared.here ≡ f
  pub frame_too : last_of None compared.there ≡ g

pub none_so_far : (t u : TableRows) (f g : Option (List ℕ)) (a b : ProcessorState) → f ≡ None → g ≡ None → a ≡ fresh t → b ≡ fresh u
    → SoFar t u [] f g a b None
none_so_far t u f g a b n m p q = record {
  compared = record {
    here = [];
    there = [];
    run = tt;
    run_too = tt;
    made = refl;
    made_too = refl;
    ends = sym p;
    ends_too = sym q;
    first = tt;
  };
  frame = sym n;
  frame_too = sym m;
}

-- as many calls as steps
calls_length : (ms : List Moment) (cs : List Call) → calls ms ≡ cs → length ms ≡ length cs
calls_length ms cs e = sym (length-map ms (λ (m : Moment). m.call)) ∙ ap length e

-- one step more
one_more : {t u : TableRows} {done : List Step} {step : Step} {f g f' g' : Option (List ℕ)} {a b a' b' : ProcessorState} {found : Option Difference}
    {kind : Option Kind} → SoFar t u done f g a b found → Stepped f g step a b a' b' f' g' kind
    → SoFar t u (done ++ step ∷ []) f' g' a' b' (either_found found (length done) kind)
one_more {t} {u} {done} {step} {f} {g} {f'} {g'} {a} {b} {a'} {b'} {found} {kind} so_far made =
    let c = so_far.compared in
    let m : Moment = record { call = first_call step; answer = made.answer; before = a; after = a' } in
    let n : Moment = record { call = second_call step; answer = made.answer_too; before = b; after = b' } in
    let count : length c.here ≡ length done = calls_length c.here (map first_call done) c.made ∙ length-map done first_call in
    let frame : f' ≡ last_frame (last_of None c.here) m.call = made.frame ∙ ap (λ p. last_frame p m.call) (sym so_far.frame) in
    let frame_too : g' ≡ last_frame (last_of None c.there) n.call = made.frame_too ∙ ap (λ p. last_frame p n.call) (sym so_far.frame_too) in
    record {
      compared = record {
        here = c.here ++ m ∷ [];
        there = c.there ++ n ∷ [];
        run = run_more (fresh t) c.here m c.run c.ends made.rule;
        run_too = run_more (fresh u) c.there n c.run_too c.ends_too made.rule_too;
        made = map_push (λ (x : Moment). x.call) c.here m ∙ ap (λ cs. cs ++ m.call ∷ []) c.made ∙ sym (map_push first_call done step);
        made_too = map_push (λ (x : Moment). x.call) c.there n ∙ ap (λ cs. cs ++ n.call ∷ []) c.made_too ∙ sym (map_push second_call done step);
        ends = end_more (fresh t) c.here m;
        ends_too = end_more (fresh u) c.there n;
        first = subst (λ i. FirstDifference (c.here ++ m ∷ []) (c.there ++ n ∷ []) (either_found found i kind)) count
            (first_more c.here c.there m n found kind c.first (subst₂ (λ p q. FoundAt p q m n kind) frame frame_too made.found));
      };
      frame = last_more None c.here m ∙ sym frame;
      frame_too = last_more None c.there n ∙ sym frame_too;
    }

-- of a list of steps, one more
pub step_more : (steps : List Step) (i : ℕ) (d : Step) {t u : TableRows} {f g f' g' : Option (List ℕ)} {a b a' b' : ProcessorState}
    {found found' : Option Difference} {kind : Option Kind} → i < length steps → SoFar t u (take i steps) f g a b found
    → Stepped f g (get_or steps i d) a b a' b' f' g' kind → found' ≡ either_found found i kind
    → SoFar t u (take (i + 1) steps) f' g' a' b' found'
step_more steps i d {t} {u} {f} {g} {f'} {g'} {a} {b} {a'} {b'} {found} {found'} {kind} within so_far made e =
    let count : length (take i steps) ≡ i = length-take-le i steps (omega arith) in
    subst₂ (λ xs r. SoFar t u xs f' g' a' b' r) (sym (take_more steps i d within)) (ap (λ k. either_found found k kind) count ∙ sym e)
    (one_more so_far made)

-- and when all are made
pub all_made : (steps : List Step) (i : ℕ) {t u : TableRows} {f g : Option (List ℕ)} {a b a' b' : ProcessorState} {found : Option Difference}
    → length steps ≤ i → SoFar t u (take i steps) f g a b found → a ≡ a' → b ≡ b' → Compared t u steps a' b' found
all_made steps i {t} {u} {f} {g} {a} {b} {a'} {b'} {found} past so_far p q =
    subst₂ (λ x y. Compared t u steps x y found) p q (subst (λ xs. Compared t u xs a b found) (take_all i steps past) so_far.compared)

-- ---- rearranged tables

-- runs that agree show no difference
nothing_found : (f g : Option (List ℕ)) (ms ns : List Moment) → AgreeAlong f g ms ns → NothingFound f g ms ns
nothing_found f g [] [] h = tt
nothing_found f g [] (n ∷ ns) h = h
nothing_found f g (m ∷ ms) [] h = h
nothing_found f g (m ∷ ms) (n ∷ ns) h =
    let a = h.0 in
    ((a.answers, a.flags, a.waits, a.own_or_one), nothing_found (last_frame f m.call) (last_frame g n.call) ms ns h.1)

-- a step has a difference or none
one_or_other : (f g : Option (List ℕ)) (m n : Moment) (kind : Kind) → FoundAt f g m n None → FoundAt f g m n (Some kind) → ⊥
one_or_other f g m n Answer h k = k h.0
one_or_other f g m n Flag h k = k.1 h.1
one_or_other f g m n WaitRecord h k = k.2 h.2
one_or_other f g m n Cell h k = k.3 h.3

nothing_at : (f g : Option (List ℕ)) (ps qs : List Moment) (m n : Moment) (rest rest_too : List Moment) → NothingFound f g ps qs
    → NothingFound f g (ps ++ m ∷ rest) (qs ++ n ∷ rest_too) → FoundAt (last_frame (last_of f ps) m.call) (last_frame (last_of g qs) n.call) m n None
nothing_at f g [] [] m n rest rest_too h k = k.0
nothing_at f g [] (q ∷ qs) m n rest rest_too h k = absurd h
nothing_at f g (p ∷ ps) [] m n rest rest_too h k = absurd h
nothing_at f g (p ∷ ps) (q ∷ qs) m n rest rest_too h k = nothing_at (last_frame f p.call) (last_frame g q.call) ps qs m n rest rest_too h.1 k.1

none_first : (ms ns : List Moment) (r : Option Difference) → NothingFound None None ms ns → FirstDifference ms ns r → r ≡ None
none_first ms ns None h k = refl
none_first ms ns (Some d) h k =
    let all : NothingFound None None (k.before ++ k.at ∷ k.after) (k.before_too ++ k.at_too ∷ k.after_too) = subst₂ (NothingFound None None) k.all k.all_too h in
    absurd (one_or_other _ _ k.at k.at_too d.kind
    (nothing_at None None k.before k.before_too k.at k.at_too k.after k.after_too k.nothing all) k.found)

pub alike_throughout : (d e : List ℕ) (t u : TableRows) (steps : List Step) (a b : ProcessorState) (r : Option Difference) → reading d ≡ Ok t → reading e ≡ Ok u
    → (c : Compared t u steps a b r) → Rearrangement t u → CallsAlike t (map first_call steps) (map second_call steps) → AlikeThroughout t u steps a b r c
alike_throughout d e t u steps a b r p q c re alike =
    let calls_too : CallsAlike t (calls c.here) (calls c.there) = subst₂ (CallsAlike t) (sym c.made) (sym c.made_too) alike in
    let along = rearranged_tables_run_alike d e t u p q re c.here c.there c.run c.run_too calls_too in
    let tables = tables_alike t u (accepted_tables_keep_the_rules d t p) (accepted_tables_keep_the_rules e u q) re in
    let rel = related_end t None None (fresh t) (fresh u) c.here c.there (related_fresh t u tables) c.run c.run_too calls_too in
    let rel_ends : Related t (last_of None c.here) (last_of None c.there) a b =
    subst₂ (Related t (last_of None c.here) (last_of None c.there)) c.ends c.ends_too rel in
    let near = rel_ends.memories in
    record {
      none_found = none_first c.here c.there r (nothing_found None None c.here c.there along) c.first;
      along = along;
      at_the_end = record {
        flags = near.places.flags;
        waits = near.waits;
        cells = λ i. shown_alike (last_of None c.here) (last_of None c.there) a.memory.places.cells b.memory.places.cells i (near.places.cells i);
        own_or_one = near.places.cells;
      };
    }
