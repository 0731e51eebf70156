-- Document 01, 'The book', with document 02, Item 3: the admitted calls since the table was cleared, and what they come to. It is fed
-- the plans, the number of slots and the calls, and nothing that an engine answers or stores.
use Rattle.std.specs.Prelude.{ℕ, ◌+◌, ◌-◌, max, Bool, true, false, cond, not, ◌&&◌, List, [], ◌∷◌, ◌++◌, eqb, leb, length}
use Rattle.ticks.specs.declared.plan.Plan.{Plan}
use Rattle.ticks.specs.Grains.{ticks_in, price}
use Rattle.rate.specs.Answer.{answered}
use Rattle.rate.specs.Decision.{Verdict, admissible, bare, reported, admitted, throttled}
use Rattle.rate.specs.Account.{guard}
use Rattle.plans.specs.Plans.{Plans, plan_at, plans_ok, asked}
use Rattle.table.specs.Request.{Query, Request}
use Rattle.table.specs.Checks.{Gate, gate_of, Toll, toll_of, query_check, request_check}
use Rattle.table.specs.Calls.{Step}

-- an admitted call
pub record Entry : Type 0 where
  pub subscriber : ℕ
  pub moment : ℕ
  -- the number of the plan that it named
  pub plan : ℕ
  pub cost : ℕ

-- the calls of one subscriber, in order
unfoldable pub calls_of : ℕ → List Entry → List Entry
calls_of who [] = []
calls_of who (e ∷ rest) = cond (eqb e.subscriber who) (e ∷ calls_of who rest) (calls_of who rest)

-- the number of the plan that a run of calls is under (an empty run owes nothing under any)
unfoldable pub number_of : List Entry → ℕ
number_of [] = 0
number_of (e ∷ rest) = e.plan

-- a call under the same plan extends the run; one under another breaks it, and starts the next
unfoldable pub extend : List Entry → Entry → List Entry
extend run e = cond (eqb (number_of run) e.plan) (run ++ (e ∷ [])) (e ∷ [])

-- the latest unbroken run under one plan, after a run and some more calls
unfoldable pub latest_from : List Entry → List Entry → List Entry
latest_from run [] = run
latest_from run (e ∷ rest) = latest_from (extend run e) rest

-- a subscriber's book is its latest unbroken run of admitted calls under one plan (document 02, Item 3)
unfoldable pub run_of : ℕ → List Entry → List Entry
run_of who h = latest_from [] (calls_of who h)

-- the number of that plan
unfoldable pub plan_number : ℕ → List Entry → ℕ
plan_number who h = number_of (run_of who h)

-- the costs from a call to the end
unfoldable pub costs : List Entry → ℕ
costs [] = 0
costs (e ∷ rest) = e.cost + costs rest

-- the largest, over every call i, of P × (costs from call i to the end) − N × (s − moment of i), or 0 if none is positive
unfoldable pub debt : Plan → ℕ → List Entry → ℕ
debt p s [] = 0
debt p s (e ∷ rest) = max (price p (costs (e ∷ rest)) + ticks_in p e.moment - ticks_in p s) (debt p s rest)

-- what a subscriber owes: its book's debt, reckoned by that plan
unfoldable pub owed : List Plan → ℕ → ℕ → List Entry → ℕ
owed ps s who h = debt (plan_at ps (plan_number who h)) s (run_of who h)

-- a number stands in a list
unfoldable pub member : ℕ → List ℕ → Bool
member x [] = false
member x (y ∷ ys) = cond (eqb x y) true (member x ys)

-- the subscribers in the history, each once
unfoldable pub names : List Entry → List ℕ
names [] = []
names (e ∷ rest) = cond (member e.subscriber (names rest)) (names rest) (e.subscriber ∷ names rest)

-- the numbers of a list that pass a test
unfoldable pub keep : (ℕ → Bool) → List ℕ → List ℕ
keep test [] = []
keep test (x ∷ xs) = cond (test x) (x ∷ keep test xs) (keep test xs)

-- D, the caller's debt at the moment
abbrev pub caller_debt : Query Plans → List Entry → ℕ
caller_debt q h = owed q.setting.plans q.moment q.subscriber h

-- another subscriber has a positive debt at the moment, by the plan of its own book
unfoldable pub owes : Query Plans → List Entry → ℕ → Bool
owes q h x = not (eqb x q.subscriber) && leb 1 (owed q.setting.plans q.moment x h)

-- how many other subscribers have a positive debt
unfoldable pub debtors : Query Plans → List Entry → ℕ
debtors q h = length (keep (owes q h) (names h))

-- D is positive and the call names another plan
unfoldable pub owes_elsewhere : Query Plans → List Entry → Bool
owes_elsewhere q h = leb 1 (caller_debt q h) && not (eqb (plan_number q.subscriber h) q.setting.number)

-- the call as it stands in the list
abbrev pub entry_of : Request Plans → Entry
entry_of r = record { subscriber = r.query.subscriber; moment = r.query.moment; plan = r.query.setting.number; cost = r.cost }

-- a verdict on an ask, and the book afterwards
abbrev pub says : Request Plans → Verdict → List Entry → Step (List Entry)
says r v h = record { answer = answered r.query.subscriber v; after = h }

-- an ask that passes the checks before 12: number 12 exactly when D is positive and another plan is named (document 02, Item 3);
-- number 9 exactly when as many others owe as there are slots; otherwise admitted exactly when D + P×cost ≤ P×B, and added at the
-- end, and 8 if not
unfoldable pub decide : ℕ → Request Plans → List Entry → Step (List Entry)
decide slots r h =
    cond (owes_elsewhere r.query h) (says r (bare 12) h)
    (cond (eqb (debtors r.query h) slots) (says r (bare 9) h)
    (cond (admissible (asked r.query.setting) (caller_debt r.query h) r.cost)
    (says r (admitted (asked r.query.setting) r.query.moment (caller_debt r.query h) r.cost) (h ++ (entry_of r ∷ [])))
    (says r (throttled (asked r.query.setting) r.query.moment (caller_debt r.query h) r.cost) h)))

-- the newest moment in the lists of all subscribers, 0 if all are empty (document 02, Item 6)
unfoldable pub newest : List Entry → ℕ
newest [] = 0
newest (e ∷ rest) = max e.moment (newest rest)

-- what the checks look at, on a table of so many slots; 1 goes by all the plans lent, and 6 by the one asked for
abbrev pub gate_at : ℕ → Query Plans → List Entry → Gate
gate_at slots q h = gate_of (plans_ok q.setting) slots (newest h) q.moment q.subscriber

abbrev pub toll_at : ℕ → Request Plans → List Entry → Toll
toll_at slots r h = toll_of (gate_at slots r.query h) (asked r.query.setting).burst r.cost

-- ask
unfoldable pub acquire : ℕ → Request Plans → List Entry → Step (List Entry)
acquire slots r h = guard (λ n. says r (bare n) h) (request_check (toll_at slots r h)) (decide slots r h)

-- what a look at a subscriber shows: 12 likewise, or left and reset from D
unfoldable pub shown : Query Plans → List Entry → Verdict
shown q h = cond (owes_elsewhere q h) (bare 12) (reported (asked q.setting) q.moment (caller_debt q h))

-- look
unfoldable pub peek : ℕ → Query Plans → List Entry → Step (List Entry)
peek slots q h = record { answer = answered q.subscriber (guard bare (query_check (gate_at slots q h)) (shown q h)); after = h }

-- clear empties every list
unfoldable pub clear : List Entry → Step (List Entry)
clear h = record { answer = answered 0 (bare 0); after = [] }
