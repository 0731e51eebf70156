-- The laws of what an HTTP response says: of any five numbers, and of the answer to a request or a look, what a client may rely on.
use Rattle.std.specs.Prelude.{ℕ, ◌+◌, ◌-◌, ◌*◌, ◌≤◌, ◌<◌, ◌≡◌, ◌⊎◌, true, false}
use Rattle.ticks.specs.declared.plan.Plan.{Plan}
use Rattle.ticks.specs.Grains.{plan_ok, on_clock}
use Rattle.rate.specs.declared.answer.Numbers.{Numbers}
use Rattle.rate.specs.Account.{Account}
use Rattle.table.specs.Request.{Query, Request}
use Rattle.table.specs.Rule.{rule_of}
use Rattle.table.specs.Slots.{Columns, carries}
use Rattle.table.specs.Calls.{acquire, peek}
use Rattle.law_calls.specs.Wait.{later}
use Rattle.law_calls.specs.Reset.{whole_burst}
use Rattle.http_fields.specs.declared.Fields.{Fields}
use Rattle.http_fields.specs.Fields.{seconds, window_of, fields_of}
use Rattle.http_fields.specs.Worked.{examples, expected}

-- so many seconds are the least that cover a time in milliseconds
abbrev pub Covers : ℕ → ℕ → Type 0
Covers told span = (k : ℕ) → (told ≤ k → span ≤ k * 1000) × (span ≤ k * 1000 → told ≤ k)

-- the fields of any five numbers, at any moment, under any plan
pub record FieldLaws (p : Plan) (at : ℕ) (a : Numbers) : Type 0 where
  -- nothing is told of a plan outside its limits
  pub bad_plan : plan_ok p ≡ false → fields_of p at a ≡ record { quota = 0; window = 0; remaining = 0; reset = 0; retry_after = 0 }
  -- the quota is the burst; under 0 what is left and the seconds until the reset are told
  pub admitted :
      plan_ok p ≡ true → a.number ≡ 0 →
      fields_of p at a
      ≡ record { quota = p.burst; window = window_of p; remaining = a.left; reset = seconds (a.reset - at); retry_after = 0 }
  -- under 8 the wait besides
  pub throttled :
      plan_ok p ≡ true → a.number ≡ 8 →
      fields_of p at a
      ≡ record {
        quota = p.burst;
        window = window_of p;
        remaining = a.left;
        reset = seconds (a.reset - at);
        retry_after = seconds a.wait;
      }
  -- and under any other number the plan alone
  pub refused :
      plan_ok p ≡ true → (a.number ≡ 0 → ⊥) → (a.number ≡ 8 → ⊥) →
      fields_of p at a ≡ record { quota = p.burst; window = window_of p; remaining = 0; reset = 0; retry_after = 0 }
  -- Retry-After covers the wait, and no fewer seconds do
  pub retry_least : plan_ok p ≡ true → a.number ≡ 8 → Covers (fields_of p at a).retry_after a.wait
  -- it is 0, and so is not sent, unless the number is 8
  pub retry_none : (a.number ≡ 8 → ⊥) → (fields_of p at a).retry_after ≡ 0
  -- the seconds until the reset cover the time from the moment to it, and no fewer do
  pub reset_least : plan_ok p ≡ true → (a.number ≡ 0) ⊎ (a.number ≡ 8) → Covers (fields_of p at a).reset (a.reset - at)

pub record Laws : Type 0 where
  pub of_fields : (p : Plan) (at : ℕ) (a : Numbers) → FieldLaws p at a
  -- times are told in the least whole seconds that cover them
  pub seconds_least : (span : ℕ) → Covers (seconds span) span
  -- the window is the least whole seconds in which a whole burst, P×B ticks at N a millisecond, is earned
  pub window_least :
      (p : Plan) → 1 ≤ p.limit → (k : ℕ) →
      (window_of p ≤ k → p.period * p.burst ≤ k * 1000 * p.limit) × (p.period * p.burst ≤ k * 1000 * p.limit → window_of p ≤ k)
  -- some answers, computed
  pub worked : examples ≡ expected

module _ {C P R : Type 0} (A : Account P R) (K : Columns C R) where
  -- the fields told of the answer to a request
  abbrev pub told : Request P → C → Fields
  told r c = fields_of (A.plan r.query.setting) r.query.moment (acquire (rule_of A) K r c).answer

  -- .. and to a look
  abbrev pub told_of_look : Query P → C → Fields
  told_of_look q c = fields_of (A.plan q.setting) q.moment (peek (rule_of A) K q c).answer

  -- what a Retry-After of so many seconds is worth
  pub record Kept (r : Request P) (c : C) (delay : ℕ) : Type 0 where
    pub positive : 1 ≤ delay
    -- with the table untouched, a client that waits that long or longer is admitted
    pub enough :
        (k : ℕ) → delay * 1000 ≤ k → on_clock (r.query.moment + k) ≡ true → (acquire (rule_of A) K (later k r) c).answer.number ≡ 0
    -- and one that waits fewer whole seconds must wait again
    pub short : (s : ℕ) → s < delay → (acquire (rule_of A) K (later (s * 1000) r) c).answer.number ≡ 8

  -- what a reset after so many seconds is worth, of the columns as the call left them
  pub record Renewed (q : Query P) (c : C) (delay : ℕ) : Type 0 where
    -- with the table untouched, a client that waits that long or longer is admitted with its whole burst
    pub enough :
        (k : ℕ) → delay * 1000 ≤ k → on_clock (q.moment + k) ≡ true →
        (acquire (rule_of A) K (whole_burst A q (q.moment + k)) c).answer.number ≡ 0
    -- and one that waits fewer whole seconds must wait, or its wait runs off the clock
    pub short :
        (s : ℕ) → s < delay → on_clock (q.moment + s * 1000) ≡ true →
        ((acquire (rule_of A) K (whole_burst A q (q.moment + s * 1000)) c).answer.number ≡ 8)
        ⊎ ((acquire (rule_of A) K (whole_burst A q (q.moment + s * 1000)) c).answer.number ≡ 13)

  -- what a client may rely on
  pub record ClientLaws : Type 0 where
    -- no more remains than the quota
    pub remaining_within : (r : Request P) (c : C) → (told r c).remaining ≤ (told r c).quota
    pub look_remaining_within : (q : Query P) (c : C) → (told_of_look q c).remaining ≤ (told_of_look q c).quota
    -- Retry-After is enough, and no fewer seconds are
    pub retry_kept : (r : Request P) (c : C) → (acquire (rule_of A) K r c).answer.number ≡ 8 → Kept r c (told r c).retry_after
    -- so is the reset, for the whole burst
    pub reset_kept :
        (r : Request P) (c : C) → ((acquire (rule_of A) K r c).answer.number ≡ 0) ⊎ ((acquire (rule_of A) K r c).answer.number ≡ 8) →
        Renewed r.query (acquire (rule_of A) K r c).after (told r c).reset
    -- .. and that of a look at a subscriber with a slot
    pub look_reset_kept :
        (q : Query P) (c : C) (i : ℕ) → i < K.slots c → carries (K.ids c) q.subscriber i ≡ true →
        (peek (rule_of A) K q c).answer.number ≡ 0 → Renewed q c (told_of_look q c).reset
    -- a request that is not served while the clock lasts is told no Retry-After
    pub never_told : (r : Request P) (c : C) → (acquire (rule_of A) K r c).answer.number ≡ 13 → (told r c).retry_after ≡ 0
