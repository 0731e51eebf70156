-- An account: an engine as a setting sees it, the setting being what a host lends to say what is allowed. And what its
-- formulas decide together, of an ask and of a look.
use Rattle.std.specs.Prelude.{ℕ, zero, suc, Bool, true, false, cond, eqb}
use Rattle.ticks.specs.declared.plan.Plan.{Plan}
use Rattle.ticks.specs.Grains.{plan_ok}
use Rattle.rate.specs.Decision.{Verdict, bare, reported, admitted, throttled}
use Rattle.rate.specs.Engine.{Engine}

-- P is the setting, R is what is stored for one subscriber; each formula is of a setting and a moment
pub record Account (P R : Type 0) : Type 0 where
  -- the setting is within its limits (check 1)
  pub ok : P → Bool
  -- the plan that a setting asks for
  pub plan : P → Plan
  -- the record of a subscriber without one: the bucket is full
  pub fresh : P → ℕ → R
  -- the number that refuses the record, or 0 if it is judged
  pub fault : P → ℕ → R → ℕ
  -- the record owes nothing, so that its place may be taken over
  pub free : P → ℕ → R → Bool
  -- what the record owes (document 01's debt, as if nothing is admitted)
  pub backlog : P → ℕ → R → ℕ
  -- a cost is admitted
  pub admits : P → ℕ → R → ℕ → Bool
  -- the record after a cost was admitted
  pub spend : P → ℕ → R → ℕ → R

-- number 7 if the record is impossible
unfoldable pub soundness : Bool → ℕ
soundness true = 0
soundness false = 7

-- an engine under one plan, which is the setting
abbrev pub alone : {R : Type 0} → Engine R → Account Plan R
alone E =
    record {
      ok = plan_ok;
      plan = λ p. p;
      fresh = E.fresh;
      fault = λ p at r. soundness (E.sound p at r);
      free = E.free;
      backlog = E.backlog;
      admits = E.admits;
      spend = E.spend;
    }

-- a number that is not 0 answers by itself; after 0 the rest decides
unfoldable pub guard : {A : Type 0} → (ℕ → A) → ℕ → A → A
guard refuse zero rest = rest
guard refuse (suc n) rest = refuse (suc n)

-- what is answered, and the record afterwards
pub record Judged (R : Type 0) : Type 0 where
  pub verdict : Verdict
  pub after : R

-- an ask, judged on one record: the number of its fault, 0 or 8; only an admission changes the record
unfoldable pub judge : {P R : Type 0} → Account P R → P → ℕ → R → ℕ → Judged R
judge A p at r cost =
    guard (λ n. record { verdict = bare n; after = r }) (A.fault p at r)
    (cond (A.admits p at r cost)
    (record { verdict = admitted (A.plan p) at (A.backlog p at r) cost; after = A.spend p at r cost })
    (record { verdict = throttled (A.plan p) at (A.backlog p at r) cost; after = r }))

-- a look at one record: the number of its fault, or 0
unfoldable pub report : {P R : Type 0} → Account P R → P → ℕ → R → Verdict
report A p at r = guard bare (A.fault p at r) (reported (A.plan p) at (A.backlog p at r))

-- what is to be done with the record: keep it, or put another in its place
pub data Settled (R : Type 0) : Type 0 where
  kept : Verdict → Settled R
  spent : Verdict → R → Settled R

-- only an admission spends
unfoldable pub settled : {R : Type 0} → Judged R → Settled R
settled j = cond (eqb j.verdict.number 0) (spent j.verdict j.after) (kept j.verdict)
