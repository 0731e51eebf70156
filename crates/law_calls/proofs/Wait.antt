-- The wait of a call is the least: with the table untouched, the same acquire after the wait is admitted, and after any
-- shorter one must wait again. As time passes the wait ends at the same moment, so one that runs off the clock does so at every
-- moment of it.
-- Assumes nothing.
use mathlib.Core.Path.{◌≡◌, sym, ap, subst, ◌∙◌}
use mathlib.Core.Bool.{true, false}
use Prim.Native.Nat.{ℕ, ◌+◌, ◌≤◌, ◌<◌}
use native.Mathlib.Omega.{arith}
use lib.Dec.{leb}
use borrow.Author.Tests.{le-leb, lt-leb, ltb-false}
use Rattle.ticks.specs.Grains.{price, div_up, on_clock}
use Rattle.ticks.proofs.Limits.{within_limits, clock_within, on_clock_lem, off_clock}
use Rattle.rate.specs.Decision.{Verdict}
use Rattle.rate.specs.Account.{Account}
use Rattle.rate.specs.Balanced.{Balanced}
use Rattle.rate.proofs.Answers.{answered_wait}
use Rattle.rate.proofs.ClockEnd.{throttled_8, throttled_13}
use Rattle.rate.proofs.Wait.{wait_positive, wait_most, least_wait, wait_ends}
use Rattle.table.specs.Request.{Request}
use Rattle.table.specs.Rule.{rule_of, fault_at, admits_at, owed_at, wait_at, throttled_at}
use Rattle.table.specs.Slots.{Columns}
use Rattle.table.specs.Calls.{Step, acquire, toll}
use Rattle.table.specs.Passed.{Payable}
use Rattle.table.specs.Places.{Own}
use Rattle.table.proofs.Outcomes.{stays, waits}
use Rattle.law_calls.specs.Wait.{later, LeastWait, NeverServed}
use Rattle.law_calls.specs.Grounds.{Ground, stopped, throttled, not_on_clock, admitted}
use Rattle.law_calls.proofs.Newest.{asked_later}
use Rattle.law_calls.proofs.Numbers.{decides, grounds}
use Rattle.law_calls.proofs.Zeros.{refusal}

module _ {C P R : Type 0} {A : Account P R} (L : Balanced A) (K : Columns C R) (r : Request P) (c : C) where
  module _ (p : Payable (toll (rule_of A) K r c)) (i : ℕ) (o : Own K r.query c i) (s : fault_at A r (K.row c i) ≡ 0) where
    payable_later : (k : ℕ) → on_clock (r.query.moment + k) ≡ true → Payable (toll (rule_of A) K (later k r) c)
    payable_later k t =
        record {
          asked = asked_later (rule_of A) K r.query c (r.query.moment + k) p.asked (omega arith) t;
          cost = p.cost;
          burst = p.burst;
        }

    sound_later : (k : ℕ) → fault_at A (later k r) (K.row c i) ≡ 0
    sound_later k = L.stays_sound r.query.setting r.query.moment (r.query.moment + k) (K.row c i) (omega arith) s

    rate : 1 ≤ (A.plan r.query.setting).limit
    rate = (within_limits (A.plan r.query.setting) (L.ok_plan r.query.setting p.asked.plan)).limit_least

    admits_later : (k : ℕ) → admits_at A (later k r) (K.row c i) ≡ leb (wait_at A r (K.row c i)) k
    admits_later k = least_wait L r.query.setting r.query.moment (K.row c i) r.cost rate (ltb-false _ _ p.burst) s k

    -- a shorter wait has the same end
    same_end : (k : ℕ) → k < wait_at A r (K.row c i) → r.query.moment + k + wait_at A (later k r) (K.row c i) ≡ r.query.moment + wait_at A r (K.row c i)
    same_end k h =
        wait_ends L r.query.setting r.query.moment (K.row c i) r.cost rate (ltb-false _ _ p.burst) s (r.query.moment + k) (omega arith) (omega arith)

    admitted_later :
        (k : ℕ) → wait_at A r (K.row c i) ≤ k → on_clock (r.query.moment + k) ≡ true → (acquire (rule_of A) K (later k r) c).answer.number ≡ 0
    admitted_later k w t = decides A K (later k r) c L (admitted (payable_later k t) i o (sound_later k) (admits_later k ∙ le-leb _ _ w))

    most : wait_at A r (K.row c i) ≤ div_up (price (A.plan r.query.setting) r.cost) (A.plan r.query.setting).limit
    most =
        wait_most (A.plan r.query.setting) (owed_at A r (K.row c i)) r.cost rate (L.within r.query.setting r.query.moment (K.row c i) s)

    least :
        admits_at A r (K.row c i) ≡ false → on_clock (r.query.moment + wait_at A r (K.row c i)) ≡ true →
        LeastWait A K r c (wait_at A r (K.row c i))
    least a e =
        record {
          positive =
              wait_positive (A.plan r.query.setting) (owed_at A r (K.row c i)) r.cost rate (sym (L.admits_iff r.query.setting r.query.moment (K.row c i) r.cost) ∙ a);
          most = most;
          ends = e;
          enough = admitted_later (wait_at A r (K.row c i)) (omega arith) e;
          short = λ k w.
              let t = clock_within (r.query.moment + k) (omega (arith, on_clock_lem _ e)) in
              decides A K (later k r) c L
              (throttled (payable_later k t) i o (sound_later k) (admits_later k ∙ lt-leb _ _ w) (ap (λ (end : ℕ). on_clock end) (same_end k w) ∙ e));
          onwards = admitted_later;
        }

    never :
        on_clock (r.query.moment + wait_at A r (K.row c i)) ≡ false → (k : ℕ) → on_clock (r.query.moment + k) ≡ true →
        (acquire (rule_of A) K (later k r) c).answer.number ≡ 13
    never e k t =
        let w : k < wait_at A r (K.row c i) = omega (arith, on_clock_lem (r.query.moment + k) t, off_clock (r.query.moment + wait_at A r (K.row c i)) e) in
        decides A K (later k r) c L
        (not_on_clock (payable_later k t) i o (sound_later k) (admits_later k ∙ lt-leb _ _ w) (ap (λ (end : ℕ). on_clock end) (same_end k w) ∙ e))

  wait_of : Ground A K r c 8 → LeastWait A K r c (acquire (rule_of A) K r c).answer.wait
  wait_of (throttled p i o s a e) =
      subst (LeastWait A K r c)
      (sym (ap (λ (x : Step C). x.answer.wait) (waits A K r c p i o s a) ∙ answered_wait r.query.subscriber (throttled_at A r (K.row c i))
      ∙ ap (λ (v : Verdict). v.wait) (throttled_8 (A.plan r.query.setting) r.query.moment (owed_at A r (K.row c i)) r.cost e)))
      (least p i o s a e)
  wait_of (stopped h) = elim h [ ]

  pub call_least_wait : (acquire (rule_of A) K r c).answer.number ≡ 8 → LeastWait A K r c (acquire (rule_of A) K r c).answer.wait
  call_least_wait e = wait_of (grounds A K r c L e)

  unserved : Ground A K r c 13 → NeverServed A K r c
  unserved (not_on_clock p i o s a e) =
      let whole =
      waits A K r c p i o s a
      ∙ ap (λ (v : Verdict). stays r c v) (throttled_13 (A.plan r.query.setting) r.query.moment (owed_at A r (K.row c i)) r.cost e) in
      record {
        refusal =
            refusal 13 r.query.subscriber c (acquire (rule_of A) K r c) (ap (λ (x : Step C). x.answer) whole) (ap (λ (x : Step C). x.after) whole);
        never = never p i o s e;
        soon = omega (arith, off_clock (r.query.moment + wait_at A r (K.row c i)) e, most p i o s);
      }
  unserved (stopped h) = elim h [ ]

  pub call_never_served : (acquire (rule_of A) K r c).answer.number ≡ 13 → NeverServed A K r c
  call_never_served e = unserved (grounds A K r c L e)
