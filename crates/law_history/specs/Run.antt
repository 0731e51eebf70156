-- Document 01, 'The run': any list of asks, looks and clears, each on the state as the one before left it; the same list of plans is
-- lent in every call (document 02, Item 3).
use Rattle.std.specs.Prelude.{ℕ, List, [], ◌∷◌}
use Rattle.rate.specs.declared.answer.Numbers.{Numbers}
use Rattle.ticks.specs.declared.plan.Plan.{Plan}
use Rattle.plans.specs.Plans.{Plans, plans_of}
use Rattle.table.specs.Request.{Query, Request, query_of, request_of}
use Rattle.table.specs.Rule.{Rule}
use Rattle.table.specs.Slots.{Columns}
use Rattle.table.specs.Calls as calls
use Rattle.table.specs.Calls.{Step}
use Rattle.law_history.specs.History as book
use Rattle.law_history.specs.History.{Entry}

-- a call, with its arguments except the list of plans and the columns; it names its plan by number
pub data Call : Type 0 where
  acquire : (moment subscriber plan cost : ℕ) → Call
  peek : (moment subscriber plan : ℕ) → Call
  clear : Call

-- what answers calls, and keeps a state S
pub record Machine (S : Type 0) : Type 0 where
  pub acquire : Request Plans → S → Step S
  pub peek : Query Plans → S → Step S
  pub clear : S → Step S

-- an engine over its columns
unfoldable pub engine : {C R : Type 0} → Rule Plans R → Columns C R → Machine C
engine U K = record { acquire = calls.acquire U K; peek = calls.peek U K; clear = calls.clear K }

-- the history (document 01's book), of a table with so many slots
unfoldable pub history : ℕ → Machine (List Entry)
history slots = record { acquire = book.acquire slots; peek = book.peek slots; clear = book.clear }

unfoldable pub step : {S : Type 0} → Machine S → List Plan → S → Call → Step S
step M ps s (acquire moment subscriber plan cost) = M.acquire (request_of (plans_of ps plan) moment subscriber cost) s
step M ps s (peek moment subscriber plan) = M.peek (query_of (plans_of ps plan) moment subscriber) s
step M ps s clear = M.clear s

-- the answer at every place of a run
unfoldable pub answers : {S : Type 0} → Machine S → List Plan → S → List Call → List Numbers
answers M ps s [] = []
answers M ps s (c ∷ rest) = (step M ps s c).answer ∷ answers M ps (step M ps s c).after rest
