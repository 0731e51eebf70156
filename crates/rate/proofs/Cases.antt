-- What an ask and a look on one record are answered in each case, for any account, and what becomes of the record.
-- Assumes nothing.
use mathlib.Core.Path.{◌≡◌, refl, ◌∙◌}
use mathlib.Core.Bool.{true, false}
use lib.Dec.{eqb}
use native.Mathlib.Omega.{arith}
use Prim.Native.Nat.{ℕ, zero, suc}
use Rattle.rate.specs.Decision.{bare, admitted, throttled, reported}
use Rattle.rate.specs.Account.{Account, Judged, judge, report, guard, kept, spent, settled}

-- a number that is not 0 is given by itself
pub guard_not_0 : {A : Type 0} (refuse : ℕ → A) (n : ℕ) (rest : A) → eqb n 0 ≡ false → guard refuse n rest ≡ refuse n
unfolding guard
guard_not_0 refuse zero rest h = let z : ◌≡◌ {A = ℕ} 0 1 = cc in absurd (omega arith)
guard_not_0 refuse (suc n) rest h = refl

pub guard_0 : {A : Type 0} (refuse : ℕ → A) (n : ℕ) (rest : A) → n ≡ 0 → guard refuse n rest ≡ rest
unfolding guard
guard_0 refuse n rest e = rw e refl

module _ {P R : Type 0} (A : Account P R) (p : P) (at : ℕ) (r : R) where
  pub judge_faulty :
      (cost : ℕ) → eqb (A.fault p at r) 0 ≡ false → judge A p at r cost ≡ record { verdict = bare (A.fault p at r); after = r }
  unfolding judge
  judge_faulty cost s = guard_not_0 _ (A.fault p at r) _ s

  pub judge_admitted :
      (cost : ℕ) → A.fault p at r ≡ 0 → A.admits p at r cost ≡ true →
      judge A p at r cost ≡ record { verdict = admitted (A.plan p) at (A.backlog p at r) cost; after = A.spend p at r cost }
  unfolding judge
  judge_admitted cost s a = guard_0 _ (A.fault p at r) _ s ∙ rw a

  pub judge_throttled :
      (cost : ℕ) → A.fault p at r ≡ 0 → A.admits p at r cost ≡ false →
      judge A p at r cost ≡ record { verdict = throttled (A.plan p) at (A.backlog p at r) cost; after = r }
  unfolding judge
  judge_throttled cost s a = guard_0 _ (A.fault p at r) _ s ∙ rw a

  pub report_faulty : eqb (A.fault p at r) 0 ≡ false → report A p at r ≡ bare (A.fault p at r)
  unfolding report
  report_faulty s = guard_not_0 bare (A.fault p at r) _ s

  pub report_sound : A.fault p at r ≡ 0 → report A p at r ≡ reported (A.plan p) at (A.backlog p at r)
  unfolding report
  report_sound s = guard_0 bare (A.fault p at r) _ s

-- only an admission spends
module _ {R : Type 0} (j : Judged R) where
  pub settled_spent : eqb j.verdict.number 0 ≡ true → settled j ≡ spent j.verdict j.after
  unfolding settled
  settled_spent e = rw e

  pub settled_kept : eqb j.verdict.number 0 ≡ false → settled j ≡ kept j.verdict
  unfolding settled
  settled_kept e = rw e
