-- Document 01, 'The tabbed text': its ten asks with their answers, cost B on a cleared table, and subscriber 0 with cost 0;
-- resets are those of document 02 (Item 2), and so is the number of the last ask (Item 6).
use Rattle.std.specs.Prelude.{ℕ, List, [], ◌∷◌, ◌++◌}
use Rattle.rate.specs.declared.answer.Numbers.{Numbers}
use Rattle.ticks.specs.declared.plan.Plan.{Plan}
use Rattle.plans.specs.Plans.{Plans, plans_of}
use Rattle.table.specs.Request.{Request, request_of}
use Rattle.table.specs.Rule.{Rule}
use Rattle.table.specs.Slots.{Columns}
use Rattle.table.specs.Calls.{acquire, clear}

-- plan 3 1000 2
unfoldable pub plan : Plan
plan = record { limit = 3; period = 1000; burst = 2 }

-- .. the only one that is lent
unfoldable pub ask : ℕ → ℕ → ℕ → Request Plans
ask = request_of (plans_of (plan ∷ []) 0)

unfoldable pub asks : List (Request Plans)
asks =
    ask 1000 7 1
    ∷ ask 1000 7 1
    ∷ ask 1000 7 1
    ∷ ask 1333 7 1
    ∷ ask 1334 7 1
    ∷ ask 1334 7 3
    ∷ ask 1334 8 2
    ∷ ask 2000 8 2
    ∷ ask 2000 7 1
    ∷ ask 1999 8 1
    ∷ []

-- outcome, subscriber, left, reset, wait
unfoldable pub line : ℕ → ℕ → ℕ → ℕ → ℕ → Numbers
line number subscriber left reset wait =
    record { number = number; subscriber = subscriber; left = left; reset = reset; wait = wait }

unfoldable pub answers : List Numbers
answers =
    line 0 7 1 1334 0
    ∷ line 0 7 0 1667 0
    ∷ line 8 7 0 1667 334
    ∷ line 8 7 0 1667 1
    ∷ line 0 7 0 2000 0
    ∷ line 6 7 0 0 0
    ∷ line 9 8 0 0 0
    ∷ line 0 8 0 2667 0
    ∷ line 9 7 0 0 0
    ∷ line 11 8 0 0 0
    ∷ []

-- cost B on a cleared table is admitted with 0 left: P×B / N = 2000 / 3 = 666.7, so 667 ms later all is there again
unfoldable pub burst_answer : Numbers
burst_answer = line 0 7 0 1667 0

-- subscriber 0 with cost 0 gives 4
unfoldable pub nobody_answer : Numbers
nobody_answer = line 4 0 0 0 0

module _ {C R : Type 0} (U : Rule Plans R) (K : Columns C R) where
  -- the answers to a list of asks, each on the columns as the one before left them
  unfoldable pub played : C → List (Request Plans) → List Numbers
  played c [] = []
  played c (r ∷ rest) = (acquire U K r c).answer ∷ played (acquire U K r c).after rest

  -- every example, each on a table that a clear has left
  unfoldable pub examples : C → List Numbers
  examples c =
      played (clear K c).after asks
      ++ (played (clear K c).after (ask 1000 7 2 ∷ []) ++ played (clear K c).after (ask 1000 0 0 ∷ []))

-- .. and what document 01 says of them
unfoldable pub expected : List Numbers
expected = answers ++ (burst_answer ∷ nobody_answer ∷ [])
