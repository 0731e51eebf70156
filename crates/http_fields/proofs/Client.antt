-- What a client may rely on: of the fields told of a request's answer, for any account with the backlog law and any columns.
-- Assumes nothing.
use mathlib.Core.Path.{◌≡◌, refl, sym, ap}
use mathlib.Core.Bool.{true, false, false≢true}
use Prim.Native.Nat.{ℕ, ◌*◌, ◌≤◌}
use native.Mathlib.Nat.{lt_of_not-le}
use native.Mathlib.Omega.{arith}
use lib.Dec.{eqb}
use Rattle.ticks.specs.Grains.{plan_ok}
use Rattle.rate.specs.Answer.{answered}
use Rattle.rate.specs.Decision.{Verdict, reported}
use Rattle.rate.specs.Account.{Account}
use Rattle.rate.specs.Balanced.{Balanced}
use Rattle.rate.proofs.Answers.{answered_left}
use Rattle.rate.proofs.Cases.{report_sound}
use Rattle.rate.proofs.Left.{reported_left_most, admitted_left_most}
use Rattle.rate.proofs.Look.{throttled_left}
use Rattle.table.specs.Request.{Query, Request}
use Rattle.table.specs.Rule.{rule_of}
use Rattle.table.specs.Slots.{Columns}
use Rattle.table.specs.Calls.{acquire, peek}
use Rattle.table.specs.Passed.{bad_plan, bad_table, late_moment, early_moment, no_subscriber}
use Rattle.table.proofs.Outcomes.{waits, admits, admits_new}
use Rattle.law_calls.specs.Grounds as grounds
use Rattle.law_calls.specs.Grounds.{Ground, throttled, admitted, admitted_new}
use Rattle.law_calls.specs.PeekGrounds.{PeekGround, stopped, corrupt_record, other_plan, known, unknown}
use Rattle.law_calls.proofs.Numbers.{grounds}
use Rattle.law_calls.proofs.Peek.{peek_own, peek_unknown}
use Rattle.law_calls.proofs.PeekNumbers.{peek_grounds}
use Rattle.law_calls.proofs.Wait.{call_least_wait}
use Rattle.http_fields.specs.Laws.{told, told_of_look, Kept}
use Rattle.http_fields.proofs.Least.{retry_least, retry_none, remaining_most}

pub never_told :
    {C P R : Type 0} (A : Account P R) (K : Columns C R) (r : Request P) (c : C) → (acquire (rule_of A) K r c).answer.number ≡ 13 →
    (told A K r c).retry_after ≡ 0
never_told A K r c e = retry_none _ _ _ (ap (λ (n : ℕ). eqb n 8) e)

module _ {C P R : Type 0} {A : Account P R} (L : Balanced A) (K : Columns C R) (r : Request P) (c : C) where
  pub within_plan : Ground A K r c 8 → plan_ok (A.plan r.query.setting) ≡ true
  within_plan (throttled p i o s a e) = L.ok_plan _ p.asked.plan
  within_plan (grounds.stopped h) = elim h [ ]

  pub retry_kept : (acquire (rule_of A) K r c).answer.number ≡ 8 → Kept A K r c (told A K r c).retry_after
  retry_kept e =
      let covers = retry_least _ _ _ (within_plan (grounds A K r c L e)) e in
      let least = call_least_wait L K r c e in
      record {
        positive = lt_of_not-le (λ z. let none = (covers 0).0 z in omega (arith, least.positive));
        enough = λ k h t. least.onwards k (omega (arith, (covers (told A K r c).retry_after).0 (omega arith))) t;
        short = λ s h. least.short (s * 1000) (lt_of_not-le (λ z. let most = (covers s).1 z in omega arith));
      }

  -- no more is left than the burst
  left_within :
      (v : Verdict) {after : C} →
      acquire (rule_of A) K r c ≡ record { answer = answered r.query.subscriber v; after = after } → v.left ≤ (A.plan r.query.setting).burst →
      (acquire (rule_of A) K r c).answer.left ≤ (A.plan r.query.setting).burst
  left_within v e h = rw (e, answered_left r.query.subscriber v) h

  left_admitted : Ground A K r c 0 → (acquire (rule_of A) K r c).answer.left ≤ (A.plan r.query.setting).burst
  left_admitted (admitted p i o s a) = left_within _ (admits A K r c p i o s a) (admitted_left_most _ _ _ _)
  left_admitted (admitted_new p i u v) = left_within _ (admits_new L K r c p i u v) (admitted_left_most _ _ _ _)
  left_admitted (grounds.stopped h) = elim h [ ]

  left_throttled : Ground A K r c 8 → (acquire (rule_of A) K r c).answer.left ≤ (A.plan r.query.setting).burst
  left_throttled (throttled p i o s a e) =
      left_within _ (waits A K r c p i o s a) (rw (throttled_left _ _ _ _ e) (reported_left_most _ _ _))
  left_throttled (grounds.stopped h) = elim h [ ]

  -- no more remains than the quota
  pub remaining_within : (told A K r c).remaining ≤ (told A K r c).quota
  remaining_within =
      remaining_most _ _ _ (λ e. left_admitted (grounds A K r c L e))
      (λ e. left_throttled (grounds A K r c L e))

-- .. told of a look, which has nobody wait
module _ {C P R : Type 0} {A : Account P R} (L : Balanced A) (K : Columns C R) (q : Query P) (c : C) where
  never_8 : {n : ℕ} → PeekGround A K q c n → eqb n 8 ≡ false
  never_8 (stopped (bad_plan a)) = refl
  never_8 (stopped (bad_table a b)) = refl
  never_8 (stopped (late_moment a b m)) = refl
  never_8 (stopped (early_moment a b m e)) = refl
  never_8 (stopped (no_subscriber a b m e s)) = refl
  never_8 (corrupt_record a i o s) = refl
  never_8 (other_plan a i o s) = refl
  never_8 (known a i o s) = refl
  never_8 (unknown a u) = refl

  left_reported : PeekGround A K q c 0 → (peek (rule_of A) K q c).answer.left ≤ (A.plan q.setting).burst
  left_reported (known a i o s) =
      rw (peek_own (rule_of A) K q c i a o, report_sound A q.setting q.moment (K.row c i) s, answered_left q.subscriber (reported (A.plan q.setting) q.moment (A.backlog q.setting q.moment (K.row c i))))
      (reported_left_most _ _ _)
  left_reported (unknown a u) =
      rw (peek_unknown L K q c a u, answered_left q.subscriber (record { number = 0; left = (A.plan q.setting).burst; reset = q.moment; wait = 0 })) (omega arith)
  left_reported (stopped h) = elim h [ ]

  -- no more remains than the quota
  pub look_remaining_within : (told_of_look A K q c).remaining ≤ (told_of_look A K q c).quota
  look_remaining_within =
      remaining_most _ _ _ (λ e. left_reported (peek_grounds A K q c L e))
      (λ e. absurd (false≢true (sym (never_8 (peek_grounds A K q c L e)))))
