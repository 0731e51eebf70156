-- What a line of the text program is told, and what it leads to (document 01, 'The tabbed text').
use Rattle.std.specs.Prelude.{ℕ, ◌≤◌, cond, ◌&&◌, List, [], ◌∷◌, ◌++◌, leb, length, take, drop, Option, Some, None, Result, Ok, Err}
use Rattle.ticks.specs.declared.plan.Plan as plan
use Rattle.ticks.specs.Grains.{plan_ok}
use Rattle.rate.specs.declared.answer.Numbers as numbers
use Rattle.rate.specs.declared.answer.Reason.TheVariants.{BadPlan, BadTable}
use Rattle.rate.specs.Answer.{reason_number}
use Rattle.plans.specs.Plans.{Plans, plans_of}
use Rattle.table.specs.Request.{request_of}
use Rattle.table.specs.Calls.{Step}
use Rattle.table_gcra.specs.Table.{Table, table_of, acquire, clear}
use Rattle.text_protocol.specs.declared.command.Command.{Command}
use Rattle.text_protocol.specs.declared.command.Command.TheVariants.{Plan, Ask}
use Rattle.text_protocol.specs.Reply.{refusal, unreadable}
use Rattle.text_session.specs.declared.Opened.{Opened}
use Rattle.text_session.specs.declared.Refusal.{Refusal}
use Rattle.text_session.specs.declared.Refusal.TheVariants.{NoPlan, Because}
use Rattle.text_session.specs.declared.Stage.{Stage}
use Rattle.text_session.specs.declared.Stage.TheVariants.{First, Open, Over}
use Rattle.text_session.specs.declared.Turn.{Turn}

-- the most slots (document 01's seats) in the program
abbrev pub text_slots : ℕ
text_slots = 1024

-- a plan and its slots
abbrev pub opened : plan.Plan → ℕ → Opened
opened plan slots = record { plan = plan; slots = slots }

-- the number that a first line gets which ends the run: what is no plan is 10
unfoldable pub number_of : Refusal → ℕ
number_of NoPlan = unreadable
number_of (Because reason) = reason_number reason

-- the first line: why the run ends, or the plan and the slots. More than 1,024 is no good table here
unfoldable pub opening : Option Command → Result Opened Refusal
opening (Some (Plan slots plan)) =
    cond (plan_ok plan) (cond (leb 1 slots && leb slots text_slots) (Ok (opened plan slots)) (Err (Because BadTable)))
    (Err (Because BadPlan))
opening (Some (Ask moment subscriber cost)) = Err NoPlan
opening None = Err NoPlan

-- the plan of a run is the only one that is lent, number 0 (document 02, Item 3)
abbrev pub only : plan.Plan → Plans
only plan = plans_of (plan ∷ []) 0

-- any other line: an ask is asked; a line that cannot be read is answered, and so is a second `plan` line
unfoldable pub turn : plan.Plan → Option Command → Table → Step Table
turn plan (Some (Ask moment subscriber cost)) t = acquire (request_of (only plan) moment subscriber cost) t
turn plan (Some (Plan slots another)) t = record { answer = refusal unreadable; after = t }
turn plan None t = record { answer = refusal unreadable; after = t }

-- what a line is told, and what it leads to
pub record Told : Type 0 where
  pub reply : Option numbers.Numbers
  pub stage : Stage
  pub table : Table

-- the first slots of the columns, and the newest moment, are the run's table
abbrev pub part : ℕ → Table → Table
part slots t =
    table_of (take slots t.table.ids) (take slots t.numbers) (take slots t.table.tats) t.table.newest

-- and are put back in front of the other slots
abbrev pub back : ℕ → Table → Table → Table
back slots t u =
    table_of (u.table.ids ++ drop slots t.table.ids) (u.numbers ++ drop slots t.numbers) (u.table.tats ++ drop slots t.table.tats)
    u.table.newest

-- a first line that is refused ends the run; a good one clears its slots and the newest moment
unfoldable pub first : Result Opened Refusal → Table → Told
first (Err r) t = record { reply = Some (refusal (number_of r)); stage = Over; table = t }
first (Ok o) t = record { reply = None; stage = Open o; table = back o.slots t (clear (part o.slots t)).after }

abbrev pub other : Opened → Option Command → Table → Told
other o c t =
    record {
      reply = Some (turn o.plan c (part o.slots t)).answer;
      stage = Open o;
      table = back o.slots t (turn o.plan c (part o.slots t)).after;
    }

-- a line answered
unfoldable pub answer : Stage → Option Command → Table → Told
answer First c t = first (opening c) t
answer (Open o) c t = other o c t
answer Over c t = record { reply = None; stage = Over; table = t }

-- a last line without LF is unreadable
unfoldable pub unended : Stage → Option numbers.Numbers
unended First = Some (refusal unreadable)
unended (Open o) = Some (refusal unreadable)
unended Over = None

-- the columns hold so many slots
pub record Room (slots : ℕ) (ids numbers tats : List ℕ) : Type 0 where
  pub in_ids : slots ≤ length ids
  pub in_numbers : slots ≤ length numbers
  pub in_tats : slots ≤ length tats

-- .. as many as a plan may ask for
abbrev pub Lent : List ℕ → List ℕ → List ℕ → Type 0
Lent ids numbers tats = Room text_slots ids numbers tats

-- the slots of an open run; before and after it there are none
unfoldable pub slots_of : Stage → ℕ
slots_of First = 0
slots_of (Open o) = o.slots
slots_of Over = 0

-- an open run has no more slots than a plan may ask for
abbrev pub Bounded : Stage → Type 0
Bounded stage = slots_of stage ≤ text_slots

-- what a line was told, with the table as it is then
abbrev pub told_of : Turn → Table → Told
told_of r t = record { reply = r.reply; stage = r.stage; table = t }
