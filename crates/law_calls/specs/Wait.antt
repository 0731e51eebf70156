-- Demand 2, the wait: with the table untouched, the same acquire after the wait is admitted, and after any shorter one must wait
-- again. And where there is none, under 13 (document 02, Item 13): it is not admitted while the clock lasts.
use Rattle.std.specs.Prelude.{ℕ, ◌+◌, ◌≤◌, ◌<◌, ◌≡◌, true}
use Rattle.ticks.specs.Grains.{price, div_up, last_moment, on_clock}
use Rattle.rate.specs.Account.{Account}
use Rattle.table.specs.Request.{Request}
use Rattle.table.specs.Rule.{rule_of}
use Rattle.table.specs.Slots.{Columns}
use Rattle.table.specs.Calls.{acquire}
use Rattle.law_calls.specs.Refusal.{Refusal}

-- the same request some milliseconds later
abbrev pub later : {P : Type 0} → ℕ → Request P → Request P
later k r =
    record {
      query = record { setting = r.query.setting; moment = r.query.moment + k; subscriber = r.query.subscriber };
      cost = r.cost;
    }

module _ {C P R : Type 0} (A : Account P R) (K : Columns C R) (r : Request P) (c : C) where
  -- what the wait of an answer is
  pub record LeastWait (wait : ℕ) : Type 0 where
    -- at least 1, and never above cost×P/N rounded up
    pub positive : 1 ≤ wait
    pub most : wait ≤ div_up (price (A.plan r.query.setting) r.cost) (A.plan r.query.setting).limit
    -- its end is within the clock's limit
    pub ends : on_clock (r.query.moment + wait) ≡ true
    -- waiting that long gets the request in
    pub enough : (acquire (rule_of A) K (later wait r) c).answer.number ≡ 0
    -- and no shorter wait does
    pub short : (k : ℕ) → k < wait → (acquire (rule_of A) K (later k r) c).answer.number ≡ 8
    -- at every moment of the clock from then on it would be admitted
    pub onwards :
        (k : ℕ) → wait ≤ k → on_clock (r.query.moment + k) ≡ true → (acquire (rule_of A) K (later k r) c).answer.number ≡ 0

  -- what 13 says: the request is refused, and gets 13 again at every moment of the clock from the call on
  pub record NeverServed : Type 0 where
    pub refusal : Refusal 13 r.query.subscriber c (acquire (rule_of A) K r c)
    pub never : (k : ℕ) → on_clock (r.query.moment + k) ≡ true → (acquire (rule_of A) K (later k r) c).answer.number ≡ 13
    -- less is left of the clock than the cost takes to be earned
    pub soon :
        last_moment < r.query.moment + div_up (price (A.plan r.query.setting) r.cost) (A.plan r.query.setting).limit
