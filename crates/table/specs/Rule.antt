-- What the table needs of a rule, and no more.
use Rattle.std.specs.Prelude.{ℕ, Bool}
use Rattle.rate.specs.Decision.{Verdict, ZerosBeside, retry_after, admitted, throttled}
use Rattle.rate.specs.Account.{Account, Judged, judge, report}
use Rattle.table.specs.Request.{Request}

-- P is the setting, R is what is stored for one subscriber; each is of a setting and a moment
pub record Rule (P R : Type 0) : Type 0 where
  -- the setting is within its limits (check 1)
  pub ok : P → Bool
  -- the most that a cost may be (check 6)
  pub most : P → ℕ
  -- the record of a subscriber without one
  pub fresh : P → ℕ → R
  -- the record owes nothing
  pub free : P → ℕ → R → Bool
  -- an ask of a cost: the verdict, and the record afterwards
  pub judge : P → ℕ → R → ℕ → Judged R
  -- a look
  pub report : P → ℕ → R → Verdict

-- demand 1: the verdicts of a rule have zeros beside every number other than 0 and 8
pub record BareRefusals {P R : Type 0} (U : Rule P R) : Type 0 where
  pub of_judge : (p : P) (at : ℕ) (held : R) (cost : ℕ) → ZerosBeside (U.judge p at held cost).verdict
  pub of_report : (p : P) (at : ℕ) (held : R) → ZerosBeside (U.report p at held)

-- the rule of an account
abbrev pub rule_of : {P R : Type 0} → Account P R → Rule P R
rule_of A =
    record {
      ok = A.ok;
      most = λ p. (A.plan p).burst;
      fresh = A.fresh;
      free = A.free;
      judge = judge A;
      report = report A;
    }

-- an account's formulas at a request
abbrev pub fresh_at : {P R : Type 0} → Account P R → Request P → R
fresh_at A r = A.fresh r.query.setting r.query.moment

-- .. on a record
module _ {P R : Type 0} (A : Account P R) (r : Request P) (held : R) where
  abbrev pub fault_at : ℕ
  fault_at = A.fault r.query.setting r.query.moment held

  abbrev pub admits_at : Bool
  admits_at = A.admits r.query.setting r.query.moment held r.cost

  abbrev pub owed_at : ℕ
  owed_at = A.backlog r.query.setting r.query.moment held

  abbrev pub spent_at : R
  spent_at = A.spend r.query.setting r.query.moment held r.cost

  abbrev pub admitted_at : Verdict
  admitted_at = admitted (A.plan r.query.setting) r.query.moment owed_at r.cost

  abbrev pub wait_at : ℕ
  wait_at = retry_after (A.plan r.query.setting) owed_at r.cost

  abbrev pub throttled_at : Verdict
  throttled_at = throttled (A.plan r.query.setting) r.query.moment owed_at r.cost
