-- A field as it is written is read as that field.
use Rattle.std.proofs.Common.{◌≡◌, ℕ, ◌+◌, ◌/◌, ◌%◌, ◌≤◌, List, ◌∷◌, ◌++◌, length, sym, ◌∙◌, arith}
use Rattle.std.proofs.lemmas.List.{length-append, take_at, drop_at}
use Rattle.documents.specs.Fields.{field, wide, pieces}
use Rattle.documents.proofs.Cutting.{pieces_whole}
use Rattle.writing.specs.Bytes.{field_bytes}

-- a number written in two bytes is read as that number
pub two_are_wide : (n : ℕ) → wide (n / 256) (n % 256) ≡ n
two_are_wide n = omega arith

-- a written field is cut off whole, and the pieces behind it are those of the bytes behind it
pub field_is_cut_off : (place tag : ℕ) (body rest : List ℕ) → pieces place 0 (field_bytes tag body ++ rest) ≡ field place tag body ∷ pieces (place + (3 + length body)) 0 rest
field_is_cut_off place tag body rest =
    let high : ℕ = length body / 256 in
    let low : ℕ = length body % 256 in
    let size : wide high low ≡ length body = two_are_wide (length body) in
    let fits : wide high low ≤ length (body ++ rest) = omega (arith, length-append body rest) in
    let front = take_at body rest (wide high low) (sym size) in
    let back = drop_at body rest (wide high low) (sym size) in
    pieces_whole place tag high low (body ++ rest) fits ∙ (cc)

-- its three bytes of head, its body and what is behind it are all the bytes
pub field_and_rest_are_all : (tag : ℕ) (body rest : List ℕ) → 3 + length body + length rest ≡ length (field_bytes tag body ++ rest)
field_and_rest_are_all tag body rest = omega (arith, length-append body rest)
