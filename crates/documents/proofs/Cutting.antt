-- How the pieces of a body follow one another.
use Rattle.std.proofs.Common.{◌≡◌, ℕ, zero, suc, ◌+◌, ◌≤◌, List, [], ◌∷◌, length, get_or, take, drop, sym, refl, ap, ◌∙◌, add-zero, arith}
use Rattle.std.proofs.lemmas.List.{length-take-le}
use Rattle.std.proofs.lemmas.Bool.{le-leb, cond-true}
use Rattle.documents.specs.Fields.{field, wide, pieces}

-- bytes that belong to the field before are passed over
pub pieces_skip : (place k : ℕ) (bs : List ℕ) → pieces place k bs ≡ pieces (place + k) 0 (drop k bs)
pieces_skip place zero bs = ap (λ p. pieces p 0 bs) (sym (add-zero place))
pieces_skip place (suc k) [] = refl
pieces_skip place (suc k) (b ∷ bs) =
    let same : place + 1 + k ≡ place + suc k = omega arith in
    pieces_skip (place + 1) k bs ∙ ap (λ p. pieces p 0 (drop k bs)) same

-- a whole field, then the pieces behind it
pub pieces_whole : (place tag high low : ℕ) (bs : List ℕ) → wide high low ≤ length bs → pieces place 0 (tag ∷ high ∷ low ∷ bs) ≡ field place tag (take (wide high low) bs) ∷ pieces (place + (3 + wide high low)) 0 (drop (wide high low) bs)
pieces_whole place tag high low bs h =
    let same : place + 3 + wide high low ≡ place + (3 + wide high low) = omega arith in
    cond-true _ _ _ (le-leb (wide high low) (length bs) h) ∙ ap (λ l. field place tag (take (wide high low) bs) ∷ l) (pieces_skip (place + 3) (wide high low) bs ∙ ap (λ p. pieces p 0 (drop (wide high low) bs)) same)

-- the same, of bytes that are known by their parts
pub pieces_front : (place size : ℕ) (xs after body rest : List ℕ) → 3 ≤ length xs → after ≡ drop 3 xs → size ≡ wide (get_or xs 1 0) (get_or xs 2 0) → size ≤ length after → body ≡ take size after → rest ≡ drop size after → pieces place 0 xs ≡ field place (get_or xs 0 0) body ∷ pieces (place + (3 + length body)) 0 rest
pieces_front place size (tag ∷ high ∷ low ∷ bs) after body rest long same is fits front back =
    let n : length body ≡ wide high low = ap length front ∙ length-take-le size after fits ∙ is in
    let le : wide high low ≤ length bs = omega (arith, ap length same) in
    let whole = pieces_whole place tag high low bs le in
    cc
pieces_front place size [] after body rest long same is fits front back = absurd (omega arith)
pieces_front place size (a ∷ []) after body rest long same is fits front back = absurd (omega arith)
pieces_front place size (a ∷ b ∷ []) after body rest long same is fits front back = absurd (omega arith)
