-- Steps, and the calls that they are in each processor.
use Rattle.std.specs.Prelude.{◌≡◌, ℕ, List}
use Rattle.std.specs.Borrow.{Bor}
use Rattle.rules.specs.Calls.{Call as Meaning, scan, switch, restart}
use Rattle.compare.specs.declared.step.Call.{Call}
use Rattle.compare.specs.declared.step.Call.TheVariants.{Scan, Switch, Restart}

-- bytes that a call or a step borrows
abbrev pub Bytes : Type 0
Bytes = Bor (List ℕ)

-- one step: a scan has a frame for each of two processors
abbrev pub Step : Type 0
Step = Call (Bytes × Bytes)

-- what a call means, by the frame that is read from what a scan has
abbrev pub meaning_by : {F : Type 0} → (F → List ℕ) → Call F → Meaning
meaning_by frame (Scan has) = scan (frame has)
meaning_by frame (Switch name character) = switch name.0 character
meaning_by frame Restart = restart

-- what a call of the code is
abbrev pub call_meant : Call Bytes → Meaning
call_meant = meaning_by (λ frame. frame.now)

-- what a step is in the first processor
abbrev pub first_call : Step → Meaning
first_call = meaning_by (λ frames. frames.0.now)

-- what it is in the second
abbrev pub second_call : Step → Meaning
second_call = meaning_by (λ frames. frames.1.now)

-- a fact about what a scan has
abbrev pub ForScan : {F : Type 0} → Call F → (F → Type 0) → Type 0
ForScan (Scan has) P = P has
ForScan (Switch name character) P = Unit {0}
ForScan Restart P = Unit {0}

-- the same call, where a scan has something else that P says of what it had
abbrev pub Mapped : {F G : Type 0} → (F → G → Type 0) → Call F → Call G → Type 0
Mapped {F} {G} P (Scan has) call = (other : G) × P has other × (call ≡ Scan other)
Mapped P (Switch name character) call = call ≡ Switch name character
Mapped P Restart call = call ≡ Restart
