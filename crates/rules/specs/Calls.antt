-- What each call answers, and the state that it leaves.
use Rattle.std.specs.Prelude.{◌≡◌, ℕ, Bool, true, false, cond, ◌&&◌, List, map, length, Some, None, Ok, Err, Decides, Option, Result, ◌==◌, nat_eq}
use Rattle.tables.specs.declared.statement.Mark.{Mark}
use Rattle.tables.specs.declared.refusal.Refusal.{Refusal}
use Rattle.tables.specs.declared.refusal.Refusal.TheVariants.{NotAFrame, NoSuchStatement, UnknownMark}
use Rattle.tables.specs.Codes.{mark_of}
use Rattle.tables.specs.Lists.{Among, some}
use Rattle.tables.specs.Refusals.{Told, told}
use Rattle.tables.specs.Rows.{StatementRow, TableRows}
use Rattle.documents.specs.Documents.{reading}
use Rattle.rules.specs.Frames.{is_frame, setting}
use Rattle.rules.specs.Memory.{wait_of, Memory, blank}
use Rattle.rules.specs.Enabling.{enabled_count}
use Rattle.rules.specs.Acting.{TimeLeft}
use Rattle.rules.specs.Scanning.{actions, scanned}
use Rattle.rules.specs.Touching.{Touch}
use Rattle.rules.specs.Reordering.{Answer, Reorders}

-- A processor as its users know it: the table in its order, with marks and plans, and what is remembered beside it.
pub record ProcessorState : Type 0 where
  pub table : TableRows
  pub memory : Memory

-- a processor fresh from loading a table, and after a restart
abbrev pub fresh : TableRows → ProcessorState
fresh t = record { table = t; memory = blank }

-- A scan with the bytes of a frame, a switch of a name by a character, a reorder by a list of names, a restart.
pub data Call : Type 0 where
  scan : List ℕ → Call
  switch : (name character : ℕ) → Call
  reorder : List ℕ → Call
  restart : Call

-- ---- load

-- what loading answers, by what reading the document gave: how many statements there are, or the refusal
abbrev pub load_answer : Result TableRows Told → Answer
load_answer (Ok t) = Ok (length t.statements)
load_answer (Err refusal) = Err refusal

-- an accepted document replaces the table, and all else is as after a restart; a refused one changes nothing
abbrev pub after_load : Result TableRows Told → ProcessorState → ProcessorState
after_load (Ok t) s = fresh t
after_load (Err refusal) s = s

-- the rule of a load
abbrev pub Loads : (document : List ℕ) → ProcessorState → Answer → ProcessorState → Type 0
Loads document s r s' = (r ≡ load_answer (reading document)) × (s' ≡ after_load (reading document) s)

-- ---- scan

-- how many statements were enabled, or that the bytes are no frame
abbrev pub scan_answer : List ℕ → ProcessorState → Answer
scan_answer frame s = cond (is_frame frame) (Ok (enabled_count s.table.plans (setting frame) s.table.statements)) (Err (told NotAFrame))

-- bytes that are no frame change nothing
abbrev pub after_scan : List ℕ → ProcessorState → ProcessorState
after_scan frame s = cond (is_frame frame) (record { table = s.table; memory = scanned s.table frame s.memory }) s

-- ---- switch

-- whether a table has a statement of a name
abbrev pub has_name : ℕ → List StatementRow → Bool
has_name name statements = some (λ (s : StatementRow). nat_eq s.name name) statements

-- a statement, with the mark if it has the name
abbrev pub with_mark : ℕ → Mark → StatementRow → StatementRow
with_mark name mark s = record {
  name = s.name;
  mark = cond (s.name == name) mark s.mark;
  tests = s.tests;
  thens = s.thens;
  elses = s.elses;
}

-- a name that is not there comes before a character that is no mark
abbrev pub switch_answer : (there : Bool) → Option Mark → Answer
switch_answer false mark = Err (told NoSuchStatement)
switch_answer true None = Err (told UnknownMark)
switch_answer true (Some mark) = Ok 0

-- the table after a switch: one mark altered, or nothing
abbrev pub switched : ℕ → (there : Bool) → Option Mark → TableRows → TableRows
switched name false mark t = t
switched name true None t = t
switched name true (Some mark) t = record { statements = map (with_mark name mark) t.statements; plans = t.plans }

-- the state after a switch by a character
abbrev pub after_switch : (name character : ℕ) → ProcessorState → ProcessorState
after_switch name character s =
    record { table = switched name (has_name name s.table.statements) (mark_of character) s.table; memory = s.memory }

-- ---- questions of one or two names

-- a statement of a table has a name
pub record Named (statements : List StatementRow) (name : ℕ) (s : StatementRow) : Type 0 where
  pub among : Among s statements
  pub its_name : s.name ≡ name

-- what a question of a name answers: something of the statement of that name, or a refusal where the table has none
abbrev pub AskedOf : {X : Type 0} → List StatementRow → ℕ → (StatementRow → X → Type 0) → Result X Refusal → Type 0
AskedOf statements name Of (Ok x) = (s : StatementRow) × Named statements name s × Of s x
AskedOf statements name Of (Err refusal) = (told refusal ≡ told NoSuchStatement) × (has_name name statements ≡ false)

-- whether the statements of two names touch, or a refusal where the table lacks one of them
abbrev pub TouchAsked : List StatementRow → (a b : ℕ) → Result Bool Refusal → Type 0
TouchAsked statements a b (Ok answer) =
    (x : StatementRow) × (y : StatementRow) × Named statements a x × Named statements b y × Decides answer (Touch x y)
TouchAsked statements a b (Err refusal) =
    (told refusal ≡ told NoSuchStatement) × ((has_name a statements && has_name b statements) ≡ false)

-- ---- time left

-- time left of a statement: on the branch that its wait record holds, at the record's count
abbrev pub StatementTimeLeft : ProcessorState → StatementRow → Option (ℕ × ℕ) → Type 0
StatementTimeLeft s statement left =
    TimeLeft (actions statement (wait_of statement.name s.memory.waits).branch) (wait_of statement.name s.memory.waits).count left

-- ---- every call

-- the rule of a call: its answer, and the state after it
abbrev pub Rule : Call → ProcessorState → Answer → ProcessorState → Type 0
Rule (scan frame) s r s' = (r ≡ scan_answer frame s) × (s' ≡ after_scan frame s)
Rule (switch name character) s r s' =
    (r ≡ switch_answer (has_name name s.table.statements) (mark_of character)) × (s' ≡ after_switch name character s)
Rule (reorder order) s r s' = Reorders order s.table r s'.table × (s'.memory ≡ s.memory)
Rule restart s r s' = (r ≡ Ok 0) × (s' ≡ fresh s.table)
