-- Demand 2, the reset (document 02, Item 2): the first moment at which nothing is owed, and with it the first at which the whole
-- burst is admitted, of the columns as the call left them, with nothing else written meanwhile.
use Rattle.std.specs.Prelude.{ℕ, ◌≤◌, ◌<◌, ◌≡◌, true, false}
use Rattle.ticks.specs.Grains.{on_clock}
use Rattle.rate.specs.Account.{Account}
use Rattle.table.specs.Request.{Query, Request, query_of, request_of}
use Rattle.table.specs.Rule.{rule_of}
use Rattle.table.specs.Slots.{Columns}
use Rattle.table.specs.Calls.{held, acquire}

-- the whole burst, asked for at a moment
abbrev pub whole_burst : {P R : Type 0} → Account P R → Query P → ℕ → Request P
whole_burst A q m = request_of q.setting m q.subscriber (A.plan q.setting).burst

module _ {C P R : Type 0} (A : Account P R) (K : Columns C R) (q : Query P) (c : C) where
  -- what the subscriber owes at a moment, by its record; without a slot by a fresh one
  abbrev pub owed : ℕ → ℕ
  owed m = A.backlog q.setting m (held (rule_of A) K (query_of q.setting m q.subscriber) c)

  -- a reset is the first moment, from the call on, at which nothing is owed
  pub record FirstDrained (reset : ℕ) : Type 0 where
    pub not_before : q.moment ≤ reset
    -- from then on nothing is owed
    pub drained : (m : ℕ) → reset ≤ m → owed m ≡ 0
    -- and at any earlier moment something is
    pub owing : (m : ℕ) → q.moment ≤ m → m < reset → 1 ≤ owed m

  -- .. and the first at which the whole burst is admitted
  pub record WholeBurst (reset : ℕ) : Type 0 where
    -- from then on it is admitted, at every moment of the clock
    pub enough : (m : ℕ) → reset ≤ m → on_clock m ≡ true → (acquire (rule_of A) K (whole_burst A q m) c).answer.number ≡ 0
    -- and at any earlier moment it must wait
    pub short :
        (m : ℕ) → q.moment ≤ m → m < reset → on_clock reset ≡ true → (acquire (rule_of A) K (whole_burst A q m) c).answer.number ≡ 8
    -- if the reset is beyond the clock's limit, it gets 13 at every moment of the clock
    pub never :
        (m : ℕ) → q.moment ≤ m → on_clock m ≡ true → on_clock reset ≡ false → (acquire (rule_of A) K (whole_burst A q m) c).answer.number ≡ 13

  pub record ResetMoment (reset : ℕ) : Type 0 where
    pub first_drained : FirstDrained reset
    pub whole_burst : WholeBurst reset
