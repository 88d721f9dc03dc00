use Rattle.std.proofs.Common.{◌≡◌, ℕ, ◌+◌, ◌*◌, ◌/◌, ◌%◌, ◌<◌, false, get_or, refl, arith, rules}
use Rattle.std.proofs.lemmas.List.{places}
use Rattle.cells.specs.Bits.{bit}
use Rattle.memory.proofs.Made.{each_made}
use Rattle.memory.proofs.flags.FlagTable.bytes.Goals as goal

pub returns-clause-bits : goal.returns-clause-bits
returns-clause-bits c =
    λ i h.
    let table = c.args.self.now in
    let at : 8 * (i / 8) + i % 8 ≡ i = omega arith in
    rw at at (
    each_made (λ q. q.0.now ≡ table) (λ j y. (k : ℕ) → k < 8 → bit y k ≡ get_or table.on (8 * j + k) false) c.from_fn.result 0
    (λ p j y q called known. (search rules, search (rules, places))) 8 0 _ refl c.from_fn.ensures.items.each (i / 8)
    (omega arith) (omega arith) (i % 8) (omega arith)
    )
