-- The laws of the five numbers that a host receives: each has its place, in the order of document 01's output line. And of the calls
-- that its plain numbers name, for any table.
use Rattle.std.specs.Prelude.{ℕ, ◌≡◌, List, length, get_or}
use Rattle.rate.specs.declared.answer.Numbers.{Numbers}
use Rattle.plans.specs.Lent.{plans_in}
use Rattle.plans.specs.Plans.{Plans, plans_of}
use Rattle.table.specs.Request.{Query, Request, query_of, request_of}
use Rattle.table.specs.Calls.{Step}
use Rattle.c_answer.specs.Five.{five, plan_of}

-- the numbers of an answer stand in a list at their places
pub record Places (n : Numbers) (l : List ℕ) : Type 0 where
  pub how_many : length l ≡ 5
  pub number : get_or l 0 0 ≡ n.number
  pub subscriber : get_or l 1 0 ≡ n.subscriber
  pub left : get_or l 2 0 ≡ n.left
  pub reset : get_or l 3 0 ≡ n.reset
  pub wait : get_or l 4 0 ≡ n.wait

pub record Laws : Type 0 where
  pub five_places : (n : Numbers) → Places n (five n)
  -- a host names a plan by limit, period and burst, in this order
  pub plan_named : (limit period burst : ℕ) → plan_of limit period burst ≡ record { limit = limit; period = period; burst = burst }

-- the look that a host's numbers name, and the ask: the plans that are lent in one slice, and the number of the one asked for
abbrev pub look : List ℕ → ℕ → ℕ → ℕ → Query Plans
look plans moment subscriber plan =
    record { setting = record { plans = plans_in plans; number = plan }; moment = moment; subscriber = subscriber }

abbrev pub ask : List ℕ → ℕ → ℕ → ℕ → ℕ → Request Plans
ask plans moment subscriber plan cost = record { query = look plans moment subscriber plan; cost = cost }

-- what a host receives of the three calls on tables of some kind: the five numbers of the call that it names, each at its place
pub record CallPlaces
    {T : Type 0} (acquire : Request Plans → T → Step T) (peek : Query Plans → T → Step T) (clear : T → Step T) : Type 0 where
  pub acquire_places :
      (plans : List ℕ) (moment subscriber plan cost : ℕ) (t : T) →
      Places (acquire (ask plans moment subscriber plan cost) t).answer
      (five (acquire (request_of (plans_of (plans_in plans) plan) moment subscriber cost) t).answer)
  pub peek_places :
      (plans : List ℕ) (moment subscriber plan : ℕ) (t : T) →
      Places (peek (look plans moment subscriber plan) t).answer
      (five (peek (query_of (plans_of (plans_in plans) plan) moment subscriber) t).answer)
  pub clear_places : (t : T) → Places (clear t).answer (five (clear t).answer)
