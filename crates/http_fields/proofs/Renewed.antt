-- What a client may rely on of the reset that it is told: after so many seconds, with the table untouched, its whole burst is
-- there, and after any fewer it is not. It is so for any account with the backlog law, over any columns that keep what is written.
-- Assumes nothing.
use mathlib.Core.Path.{◌≡◌, refl}
use mathlib.Core.Logic.{◌⊎◌, inl, inr}
use mathlib.Core.Bool.{Bool, true, false}
use Prim.Native.Nat.{ℕ, ◌+◌, ◌-◌, ◌*◌, ◌≤◌, ◌<◌}
use native.Mathlib.Nat.{lt_of_not-le}
use native.Mathlib.Omega.{arith}
use Rattle.ticks.specs.Grains.{plan_ok, on_clock}
use Rattle.rate.specs.Account.{Account}
use Rattle.rate.specs.Balanced.{Balanced}
use Rattle.table.specs.Request.{Query, Request}
use Rattle.table.specs.Rule.{rule_of}
use Rattle.table.specs.Slots.{Columns, carries}
use Rattle.table.specs.Calls.{acquire, peek}
use Rattle.table.specs.Stored.{Stored}
use Rattle.law_calls.specs.Grounds.{Ground, stopped, admitted, admitted_new}
use Rattle.law_calls.specs.PeekGrounds as looks
use Rattle.law_calls.specs.PeekGrounds.{PeekGround, known, unknown}
use Rattle.law_calls.specs.Reset.{whole_burst, ResetMoment}
use Rattle.law_calls.proofs.Numbers.{grounds}
use Rattle.law_calls.proofs.PeekNumbers.{peek_grounds}
use Rattle.law_calls.proofs.Reset.{acquire_reset, peek_held_reset}
use Rattle.http_fields.specs.Laws.{Covers, told, told_of_look, Renewed}
use Rattle.http_fields.proofs.Client.{within_plan}
use Rattle.http_fields.proofs.Least.{reset_least}

module _ {C P R : Type 0} (A : Account P R) (K : Columns C R) (q : Query P) (c : C) where
  -- before the reset the whole burst must wait, or its wait runs off the clock
  denied :
      {reset : ℕ} (m : ℕ) → q.moment ≤ m → m < reset → on_clock m ≡ true → ResetMoment A K q c reset →
      ((acquire (rule_of A) K (whole_burst A q m) c).answer.number ≡ 8) ⊎ ((acquire (rule_of A) K (whole_burst A q m) c).answer.number ≡ 13)
  denied {reset} m from before t moment = by (on_clock reset) refl
    where
      by :
          (b : Bool) → on_clock reset ≡ b →
          ((acquire (rule_of A) K (whole_burst A q m) c).answer.number ≡ 8) ⊎ ((acquire (rule_of A) K (whole_burst A q m) c).answer.number ≡ 13)
      by true e = inl (moment.whole_burst.short m from before e)
      by false e = inr (moment.whole_burst.never m from t e)

  -- the seconds that cover the time to the first moment at which the whole burst is admitted
  renewed : {delay reset : ℕ} → Covers delay (reset - q.moment) → ResetMoment A K q c reset → Renewed A K q c delay
  renewed {delay} {reset} covers moment =
      record {
        enough = λ k h t.
            let most = (covers delay).0 (omega arith) in
            moment.whole_burst.enough (q.moment + k) (omega arith) t;
        short = λ s h t.
            let more : s * 1000 < reset - q.moment = lt_of_not-le (λ z. let most = (covers s).1 z in omega arith) in
            denied (q.moment + s * 1000) (omega arith) (omega arith) t moment;
      }

-- told of the answer to a request
module _ {C P R : Type 0} {A : Account P R} (L : Balanced A) (K : Columns C R) (S : Stored K) (r : Request P) (c : C) where
  plan_admitted : Ground A K r c 0 → plan_ok (A.plan r.query.setting) ≡ true
  plan_admitted (admitted p i o s a) = L.ok_plan _ p.asked.plan
  plan_admitted (admitted_new p i u v) = L.ok_plan _ p.asked.plan
  plan_admitted (stopped h) = elim h [ ]

  plan_within :
      ((acquire (rule_of A) K r c).answer.number ≡ 0) ⊎ ((acquire (rule_of A) K r c).answer.number ≡ 8) → plan_ok (A.plan r.query.setting) ≡ true
  plan_within (inl e) = plan_admitted (grounds A K r c L e)
  plan_within (inr e) = within_plan L K r c (grounds A K r c L e)

  pub reset_kept :
      ((acquire (rule_of A) K r c).answer.number ≡ 0) ⊎ ((acquire (rule_of A) K r c).answer.number ≡ 8) →
      Renewed A K r.query (acquire (rule_of A) K r c).after (told A K r c).reset
  reset_kept n =
      renewed A K r.query (acquire (rule_of A) K r c).after (reset_least _ _ _ (plan_within n) n) (acquire_reset L K S r c n)

-- told of a look at a subscriber with a slot
module _ {C P R : Type 0} {A : Account P R} (L : Balanced A) (K : Columns C R) (q : Query P) (c : C) where
  plan_seen : PeekGround A K q c 0 → plan_ok (A.plan q.setting) ≡ true
  plan_seen (known a i o s) = L.ok_plan _ a.plan
  plan_seen (unknown a u) = L.ok_plan _ a.plan
  plan_seen (looks.stopped h) = elim h [ ]

  pub look_reset_kept :
      (i : ℕ) → i < K.slots c → carries (K.ids c) q.subscriber i ≡ true → (peek (rule_of A) K q c).answer.number ≡ 0 →
      Renewed A K q c (told_of_look A K q c).reset
  look_reset_kept i within carried e =
      renewed A K q c (reset_least _ _ _ (plan_seen (peek_grounds A K q c L e)) (inl e)) (peek_held_reset L K q c i within carried e)
