-- What stands in the way of judging a record under the plans lent, or else the engine's record that is judged by the plan asked for.
use Rattle.std.specs.Prelude.{ℕ, cond, eqb, Result, Ok, Err}
use Rattle.rate.specs.declared.answer.Reason.{Reason}
use Rattle.rate.specs.Answer.{reason_number}
use Rattle.rate.specs.Decision.{Verdict, bare}
use Rattle.rate.specs.Engine.{Engine}
use Rattle.rate.specs.Account.{alone, judge, report, Settled, kept, spent, settled}
use Rattle.plans.specs.Plans.{Plans, Planned, planned_of, asked, possible, owing}

pub data Standing (R : Type 0) : Type 0 where
  refused : ℕ → Standing R
  judged : R → Standing R

-- what the code answers of that
unfoldable pub standing_of : {R : Type 0} → Result R Reason → Standing R
standing_of (Ok r) = judged r
standing_of (Err reason) = refused (reason_number reason)

module _ {R : Type 0} (E : Engine R) (p : Plans) (at : ℕ) where
  -- a record of the plan asked for is judged as it is; of another, one that is impossible gets 7, one that owes 12
  unfoldable pub standing : Planned R → Standing R
  standing r =
      cond (eqb r.number p.number) (judged r.held)
      (cond (possible E p at r)
      (cond (eqb (owing E p at r) 0) (judged (E.fresh (asked p) at)) (refused 12))
      (refused 7))

  -- .. and what that comes to: a look
  unfoldable pub report_on : Standing R → Verdict
  report_on (refused n) = bare n
  report_on (judged x) = report (alone E) (asked p) at x

-- a record is put in place under the number of the plan asked for
unfoldable pub under : {R : Type 0} → ℕ → Settled R → Settled (Planned R)
under number (kept v) = kept v
under number (spent v x) = spent v (planned_of number x)

-- .. an ask
unfoldable pub settled_on : {R : Type 0} → Engine R → Plans → ℕ → ℕ → Standing R → Settled (Planned R)
settled_on E p at cost (refused n) = kept (bare n)
settled_on E p at cost (judged x) = under p.number (settled (judge (alone E) (asked p) at x cost))
