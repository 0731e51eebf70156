-- The newest moment at which anything was admitted (document 02, Item 6): a call at an earlier one gets 11, since that check comes
-- before the subscriber's and before any record; and only an admission and a clear write it.
-- Assumes nothing.
use mathlib.Core.Path.{◌≡◌, refl, ap}
use mathlib.Core.Logic.{◌⊎◌, inl, inr}
use mathlib.Core.Bool.{Bool, true, false}
use Prim.Native.Nat.{ℕ, ◌≤◌}
use native.Mathlib.Omega.{arith}
use borrow.Author.Tests.{ltb-true, lt-ltb, le-ltb}
use Rattle.ticks.specs.Grains.{on_clock}
use Rattle.ticks.proofs.Limits.{on_clock_lem}
use Rattle.rate.specs.Account.{Account}
use Rattle.rate.specs.Balanced.{Balanced}
use Rattle.table.specs.Request.{Query, Request, query_of}
use Rattle.table.specs.Checks.{slots_ok}
use Rattle.table.specs.Rule.{Rule, rule_of}
use Rattle.table.specs.Slots.{Columns}
use Rattle.table.specs.Calls.{Step, acquire, peek, clear, gate}
use Rattle.table.specs.Passed.{Asked, Stopped, early_moment}
use Rattle.table.specs.Stored.{Stored}
use Rattle.table.proofs.Cases.{peek_keeps}
use Rattle.table.proofs.Checks.{asked_or_stopped, asked_since}
use Rattle.table.proofs.Writes.{admission_writes_one, denied_changes_nothing, newest_taken}
use Rattle.law_calls.specs.Newest.{Early, Written, BeyondClock, Locked}
use Rattle.law_calls.specs.Refusal.{Refusal}
use Rattle.law_calls.specs.Grounds.{Ground, stopped}
use Rattle.law_calls.specs.PeekGrounds as looks
use Rattle.law_calls.specs.PeekGrounds.{PeekGround}
use Rattle.law_calls.proofs.Causes.{stays_stopped}
use Rattle.law_calls.proofs.Cleared.{cleared_newest, unfit_kept}
use Rattle.law_calls.proofs.Numbers.{grounds}
use Rattle.law_calls.proofs.PeekCauses.{peek_stopped}
use Rattle.law_calls.proofs.PeekNumbers.{peek_grounds, clear_0}
use Rattle.law_calls.proofs.Zeros.{refusal}

-- a moment that is not before one that has passed passes too
pub asked_later :
    {C P R : Type 0} (U : Rule P R) (K : Columns C R) (q : Query P) (c : C) (m : ℕ) → Asked (gate U K q c) → q.moment ≤ m →
    on_clock m ≡ true → Asked (gate U K (query_of q.setting m q.subscriber) c)
asked_later U K q c m a from t =
    record {
      plan = a.plan;
      table = a.table;
      moment = t;
      newest = le-ltb m (K.newest c) (omega (arith, asked_since (gate U K q c) a));
      subscriber = a.subscriber;
    }

module _ {C P R : Type 0} (U : Rule P R) (K : Columns C R) where
  stops_early : (q : Query P) (c : C) → Early U K q c → Stopped (gate U K q c) 11
  stops_early q c e = early_moment e.setting e.table e.moment (lt-ltb _ _ e.before)

  stopped_early : (q : Query P) (c : C) → Stopped (gate U K q c) 11 → Early U K q c
  stopped_early q c (early_moment a b m e) = record { setting = a; table = b; moment = m; before = ltb-true _ _ e }

  pub early_refused : (r : Request P) (c : C) → Early U K r.query c → Refusal 11 r.query.subscriber c (acquire U K r c)
  early_refused r c e =
      let whole = stays_stopped U K r c (stops_early r.query c e) in
      refusal 11 r.query.subscriber c (acquire U K r c) (ap (λ (s : Step C). s.answer) whole) (ap (λ (s : Step C). s.after) whole)

  pub peek_early_refused : (q : Query P) (c : C) → Early U K q c → Refusal 11 q.subscriber c (peek U K q c)
  peek_early_refused q c e = refusal 11 q.subscriber c (peek U K q c) (peek_stopped U K q c (stops_early q c e)) (peek_keeps U K c q)

  pub locked : (c : C) → BeyondClock U K c → Locked U K c
  locked c beyond =
      record {
        acquire_11 = λ r setting table moment. (early_refused r c (early r.query setting table moment)).number;
        peek_11 = λ q setting table moment. (peek_early_refused q c (early q setting table moment)).number;
        acquire_keeps = λ r. keeps r (asked_or_stopped (gate U K r.query c));
      }
    where
      early : (q : Query P) → U.ok q.setting ≡ true → slots_ok (K.slots c) ≡ true → on_clock q.moment ≡ true → Early U K q c
      early q setting table moment =
          record { setting = setting; table = table; moment = moment; before = omega (arith, on_clock_lem q.moment moment) }

      keeps :
          (r : Request P) → Asked (gate U K r.query c) ⊎ ((n : ℕ) × Stopped (gate U K r.query c) n) → (acquire U K r c).after ≡ c
      keeps r (inl a) =
          absurd (omega (arith, asked_since (gate U K r.query c) a, on_clock_lem r.query.moment a.moment))
      keeps r (inr s) = ap (λ (x : Step C). x.after) (stays_stopped U K r c s.1)

module _ {C P R : Type 0} (U : Rule P R) {K : Columns C R} (S : Stored K) where
  pub written : Written U K
  written =
      record {
        admitted = λ r c e. newest_taken U K r c S (admission_writes_one U K r c e);
        denied = λ r c e. ap (λ (d : C). K.newest d) (denied_changes_nothing U K r c e);
        looked = λ q c. ap (λ (d : C). K.newest d) (peek_keeps U K c q);
        cleared = λ c. cleared_newest K c S;
        unfit = λ c e. by c e (slots_ok (K.slots c)) refl;
      }
    where
      by : (c : C) → (clear K c).answer.number ≡ 2 → (t : Bool) → slots_ok (K.slots c) ≡ t → K.newest (clear K c).after ≡ K.newest c
      by c e true t = absurd (omega (arith, e, (clear_0 K c).1 t))
      by c e false t = ap (λ (d : C). K.newest d) (unfit_kept K c t)

-- no record of an account gets 11
module _ {C P R : Type 0} {A : Account P R} (L : Balanced A) (K : Columns C R) where
  is_early : (r : Request P) (c : C) → Ground A K r c 11 → Early (rule_of A) K r.query c
  is_early r c (stopped s) = stopped_early (rule_of A) K r.query c s

  pub number_11 :
      (r : Request P) (c : C) →
      ((acquire (rule_of A) K r c).answer.number ≡ 11 → Early (rule_of A) K r.query c)
      × (Early (rule_of A) K r.query c → (acquire (rule_of A) K r c).answer.number ≡ 11)
  number_11 r c = (λ e. is_early r c (grounds A K r c L e), λ e. (early_refused (rule_of A) K r c e).number)

  peeked_early : (q : Query P) (c : C) → PeekGround A K q c 11 → Early (rule_of A) K q c
  peeked_early q c (looks.stopped s) = stopped_early (rule_of A) K q c s

  pub peek_number_11 :
      (q : Query P) (c : C) →
      ((peek (rule_of A) K q c).answer.number ≡ 11 → Early (rule_of A) K q c)
      × (Early (rule_of A) K q c → (peek (rule_of A) K q c).answer.number ≡ 11)
  peek_number_11 q c =
      (λ e. peeked_early q c (peek_grounds A K q c L e), λ e. (peek_early_refused (rule_of A) K q c e).number)
