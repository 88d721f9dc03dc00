-- One write after another.
use Rattle.std.proofs.Common.{◌≡◌, ℕ, ◌+◌, ◌<◌, List, [], ◌++◌, length, get_or, take, drop, sym, ap, ◌∙◌, subst, arith}
use Rattle.std.specs.List.{flat_map}
use Rattle.std.proofs.lemmas.List.{append_assoc, take-append-drop, take_more, drop-drop, length-append, flat_map_more}
use Rattle.writing.specs.declared.output.Output.{Output}
use Rattle.writing.specs.Output.{written, rest, Wrote}

-- one write behind another
pub wrote_more : {a b c : Output} {xs ys : List ℕ} → Wrote a xs b → Wrote b ys c → Wrote a (xs ++ ys) c
wrote_more {a} {b} {c} {xs} {ys} h k = record {
  front = k.front ∙ ap (λ l. l ++ ys) h.front ∙ append_assoc (written a) xs ys;
  back = k.back ∙ ap (drop (length ys)) h.back ∙ drop-drop (length ys) (length xs) (rest a) ∙ ap (λ n. drop n (rest a)) (sym (length-append xs ys));
  room = omega (arith, h.room, k.room, length-append xs ys);
  len = omega (arith, h.len, k.len, length-append xs ys);
  same_buffer = k.same_buffer ∙ h.same_buffer;
}

-- the same bytes by another name
pub wrote_same : {a b : Output} {xs ys : List ℕ} → xs ≡ ys → Wrote a xs b → Wrote a ys b
wrote_same {a} {b} e h = subst (λ zs. Wrote a zs b) e h

-- what was written into a buffer, from nothing on: `left` is the buffer afterwards
pub wrote_whole : {a b : Output} {bytes old left : List ℕ} {count : ℕ} → a.len ≡ 0 → rest a ≡ old → Wrote a bytes b → count ≡ b.len → left ≡ b.buffer.now → (count ≡ length bytes) × (left ≡ bytes ++ drop count old)
wrote_whole {a} {b} {bytes} {old} {left} {count} empty room h n is =
    let number : count ≡ length bytes = omega (arith, h.len) in
    let front : written b ≡ bytes = h.front ∙ ap (λ k. take k a.buffer.now ++ bytes) empty in
    let back : rest b ≡ drop count old = h.back ∙ ap (drop (length bytes)) room ∙ ap (λ k. drop k old) (sym number) in
    (number, is ∙ sym (take-append-drop b.len b.buffer.now) ∙ ap (λ l. l ++ rest b) front ∙ ap (λ l. bytes ++ l) back)

-- the bytes of one item more
pub joined_next : {X : Type 0} (f : X → List ℕ) (xs : List X) (i : ℕ) (x : X) → i < length xs → flat_map f (take i xs) ++ f (get_or xs i x) ≡ flat_map f (take (i + 1) xs)
joined_next f xs i x lt =
    flat_map_more f [] (take i xs) (get_or xs i x) ∙ ap (flat_map f) (sym (take_more xs i x lt))
