-- The reset of a call is the first moment at which nothing is owed, and with it the first at which the whole burst is admitted, of
-- the columns as the call left them, with nothing else written meanwhile.
-- Assumes nothing.
use mathlib.Core.Path.{◌≡◌, sym, ap, subst, ◌∙◌}
use mathlib.Core.Logic.{◌⊎◌, inl, inr}
use mathlib.Core.Bool.{true, false≢true}
use Prim.Native.Nat.{ℕ, ◌+◌, ◌≤◌, ◌<◌}
use native.Mathlib.Nat.{le_refl, lt_of_not-le}
use native.Mathlib.Omega.{arith}
use lib.Dec.{eqb, leb}
use borrow.Author.Tests.{le-leb, lt-leb, eq-eqb, ne_eqb, eqb-true, le-ltb}
use Rattle.ticks.specs.Grains.{on_clock}
use Rattle.ticks.proofs.Limits.{within_limits, clock_within, on_clock_lem, off_clock}
use Rattle.rate.specs.declared.answer.Numbers.{Numbers}
use Rattle.rate.specs.Answer.{answered}
use Rattle.rate.specs.Decision.{Verdict, reported, reset_at, retry_after}
use Rattle.rate.specs.Account.{Account}
use Rattle.rate.specs.Balanced.{Balanced}
use Rattle.rate.proofs.Answers.{answered_reset, reported_reset}
use Rattle.rate.proofs.Cases.{report_sound}
use Rattle.rate.proofs.Reset.{reset_from, burst_from_reset, drained_from_reset, burst_wait_ends}
use Rattle.table.specs.Request.{Query, Request, query_of}
use Rattle.table.specs.Rule.{rule_of}
use Rattle.table.specs.Slots.{Columns, carries}
use Rattle.table.specs.Calls.{acquire, peek, gate, toll}
use Rattle.table.specs.Passed.{Asked, Payable}
use Rattle.table.specs.Places.{Own, Unknown}
use Rattle.table.specs.Stored.{Stored}
use Rattle.table.proofs.Cases.{held_own, held_fresh}
use Rattle.table.proofs.Placing.{own_at, own_nowhere}
use Rattle.table.proofs.Writes.{admission_writes_one, taken_place, denied_changes_nothing}
use Rattle.law_calls.specs.Reset.{whole_burst, owed, FirstDrained, WholeBurst, ResetMoment}
use Rattle.law_calls.specs.Grounds.{Ground, stopped, throttled, not_on_clock, admitted}
use Rattle.law_calls.specs.Peek.{SameReport}
use Rattle.law_calls.specs.PeekGrounds as looks
use Rattle.law_calls.specs.PeekGrounds.{PeekGround, known, unknown}
use Rattle.law_calls.proofs.Newest.{asked_later}
use Rattle.law_calls.proofs.Numbers.{decides, grounds}
use Rattle.law_calls.proofs.Peek.{peek_own, peek_unknown, peek_after_admission, peek_of_denied}
use Rattle.law_calls.proofs.PeekNumbers.{peek_grounds}

module _ {C P R : Type 0} {A : Account P R} (L : Balanced A) (K : Columns C R) (q : Query P) (c : C) (a : Asked (gate (rule_of A) K q c)) where
  payable_burst : (m : ℕ) → q.moment ≤ m → on_clock m ≡ true → Payable (toll (rule_of A) K (whole_burst A q m) c)
  payable_burst m from t =
      record {
        asked = asked_later (rule_of A) K q c m a from t;
        cost = ne_eqb (A.plan q.setting).burst 0 (λ z. let some = (within_limits (A.plan q.setting) (L.ok_plan q.setting a.plan)).burst_least in omega arith);
        burst = le-ltb (A.plan q.setting).burst (A.plan q.setting).burst (le_refl (A.plan q.setting).burst);
      }

  -- with a slot of its own
  module _ (i : ℕ) (o : Own K q c i) (s : A.fault q.setting q.moment (K.row c i) ≡ 0) where
    -- the reset that is reckoned from the record
    abbrev recorded : ℕ
    recorded = reset_at (A.plan q.setting) q.moment (A.backlog q.setting q.moment (K.row c i))

    owed_own : (m : ℕ) → owed A K q c m ≡ A.backlog q.setting m (K.row c i)
    owed_own m =
        ap (λ (h : R). A.backlog q.setting m h)
        (held_own (rule_of A) K c (query_of q.setting m q.subscriber) (own_at K q c o))

    drained_at : (m : ℕ) → q.moment ≤ m → eqb (owed A K q c m) 0 ≡ leb recorded m
    drained_at m from =
        ap (λ (b : ℕ). eqb b 0) (owed_own m)
        ∙ drained_from_reset L q.setting q.moment (K.row c i) (within_limits (A.plan q.setting) (L.ok_plan q.setting a.plan)).limit_least s m from

    own_drained : FirstDrained A K q c recorded
    own_drained =
        let from = reset_from (A.plan q.setting) q.moment (A.backlog q.setting q.moment (K.row c i)) in
        record {
          not_before = from;
          drained = λ m h. eqb-true _ _ (drained_at m (omega arith) ∙ le-leb _ _ h);
          owing = λ m h l.
              lt_of_not-le (λ z.
              let none : owed A K q c m ≡ 0 = omega arith in
              false≢true (sym (drained_at m h ∙ lt-leb _ _ l) ∙ eq-eqb _ _ none));
        }

    sound_at : (m : ℕ) → q.moment ≤ m → A.fault q.setting m (K.row c i) ≡ 0
    sound_at m from = L.stays_sound q.setting q.moment m (K.row c i) from s

    admits_at_lem : (m : ℕ) → q.moment ≤ m → A.admits q.setting m (K.row c i) (A.plan q.setting).burst ≡ leb recorded m
    admits_at_lem m from =
        burst_from_reset L q.setting q.moment (K.row c i) (within_limits (A.plan q.setting) (L.ok_plan q.setting a.plan)).limit_least s m from

    ends_at :
        (m : ℕ) → q.moment ≤ m → m ≤ recorded →
        m + retry_after (A.plan q.setting) (A.backlog q.setting m (K.row c i)) (A.plan q.setting).burst ≡ recorded
    ends_at m from =
        burst_wait_ends L q.setting q.moment (K.row c i) (within_limits (A.plan q.setting) (L.ok_plan q.setting a.plan)).limit_least s m from

    own_burst : WholeBurst A K q c recorded
    own_burst =
        let from = reset_from (A.plan q.setting) q.moment (A.backlog q.setting q.moment (K.row c i)) in
        record {
          enough = λ m h t.
              decides A K (whole_burst A q m) c L
              (admitted (payable_burst m (omega arith) t) i o (sound_at m (omega arith)) (admits_at_lem m (omega arith) ∙ le-leb _ _ h));
          short = λ m h l e.
              let t = clock_within m (omega (arith, on_clock_lem recorded e)) in
              decides A K (whole_burst A q m) c L
              (throttled (payable_burst m h t) i o (sound_at m h) (admits_at_lem m h ∙ lt-leb _ _ l)
              (ap (λ (end : ℕ). on_clock end) (ends_at m h (omega arith)) ∙ e));
          never = λ m h t e.
              let l : m < recorded = omega (arith, on_clock_lem m t, off_clock recorded e) in
              decides A K (whole_burst A q m) c L
              (not_on_clock (payable_burst m h t) i o (sound_at m h) (admits_at_lem m h ∙ lt-leb _ _ l)
              (ap (λ (end : ℕ). on_clock end) (ends_at m h (omega arith)) ∙ e));
        }

    peek_reset : (peek (rule_of A) K q c).answer.reset ≡ recorded
    peek_reset =
        let backlog = A.backlog q.setting q.moment (K.row c i) in
        ap (λ (x : Numbers). x.reset)
        (peek_own (rule_of A) K q c i a o ∙ ap (λ (v : Verdict). answered q.subscriber v) (report_sound A q.setting q.moment (K.row c i) s))
        ∙ answered_reset q.subscriber (reported (A.plan q.setting) q.moment backlog) ∙ reported_reset (A.plan q.setting) q.moment backlog

    pub peek_own_reset : ResetMoment A K q c (peek (rule_of A) K q c).answer.reset
    peek_own_reset = subst (ResetMoment A K q c) (sym peek_reset) (record { first_drained = own_drained; whole_burst = own_burst })

  -- without a slot nothing is owed, and the reset is the moment itself
  peek_unknown_drained : Unknown K q c → FirstDrained A K q c (peek (rule_of A) K q c).answer.reset
  peek_unknown_drained u =
      let verdict : Verdict = record { number = 0; left = (A.plan q.setting).burst; reset = q.moment; wait = 0 } in
      let reset : (peek (rule_of A) K q c).answer.reset ≡ q.moment =
      ap (λ (x : Numbers). x.reset) (peek_unknown L K q c a u) ∙ answered_reset q.subscriber verdict in
      record {
        not_before = omega arith;
        drained = λ m h.
            ap (λ (h : R). A.backlog q.setting m h)
            (held_fresh (rule_of A) K c (query_of q.setting m q.subscriber) (own_nowhere K q c u))
            ∙ L.fresh_owes_nothing q.setting m;
        owing = λ m h l. absurd (omega arith);
      }

-- of a look
module _ {C P R : Type 0} {A : Account P R} (L : Balanced A) (K : Columns C R) (q : Query P) (c : C) where
  drained_by : PeekGround A K q c 0 → FirstDrained A K q c (peek (rule_of A) K q c).answer.reset
  drained_by (known a i o s) = (peek_own_reset L K q c a i o s).first_drained
  drained_by (unknown a u) = peek_unknown_drained L K q c a u
  drained_by (looks.stopped h) = elim h [ ]

  pub peek_first_drained :
      (peek (rule_of A) K q c).answer.number ≡ 0 → FirstDrained A K q c (peek (rule_of A) K q c).answer.reset
  peek_first_drained e = drained_by (peek_grounds A K q c L e)

  module _ (i : ℕ) (within : i < K.slots c) (carried : carries (K.ids c) q.subscriber i ≡ true) where
    held_by : PeekGround A K q c 0 → ResetMoment A K q c (peek (rule_of A) K q c).answer.reset
    held_by (known a i o s) = peek_own_reset L K q c a i o s
    held_by (unknown a u) = absurd (false≢true (sym (u i within) ∙ carried))
    held_by (looks.stopped h) = elim h [ ]

    -- of a subscriber with a slot
    pub peek_held_reset : (peek (rule_of A) K q c).answer.number ≡ 0 → ResetMoment A K q c (peek (rule_of A) K q c).answer.reset
    peek_held_reset e = held_by (peek_grounds A K q c L e)

-- of an ask
module _ {C P R : Type 0} {A : Account P R} (L : Balanced A) (K : Columns C R) (S : Stored K) (r : Request P) (c : C) where
  admitted_reset :
      (acquire (rule_of A) K r c).answer.number ≡ 0 →
      ResetMoment A K r.query (acquire (rule_of A) K r c).after (acquire (rule_of A) K r c).answer.reset
  admitted_reset e =
      let seen = peek_after_admission L K S r c e in
      let taken = admission_writes_one (rule_of A) K r c e in
      let place = taken_place (rule_of A) K r c S taken in
      subst (ResetMoment A K r.query (acquire (rule_of A) K r c).after) (ap (λ (x : Numbers). x.reset) seen)
      (peek_held_reset L K r.query (acquire (rule_of A) K r c).after taken.place place.0 place.1 (ap (λ (x : Numbers). x.number) seen ∙ e))

  throttled_reset :
      Ground A K r c 8 → (acquire (rule_of A) K r c).after ≡ c → SameReport A K r c →
      ResetMoment A K r.query (acquire (rule_of A) K r c).after (acquire (rule_of A) K r c).answer.reset
  throttled_reset (throttled p i o s a e) after same =
      rw (after, ← same.reset) (peek_own_reset L K r.query c p.asked i o s)
  throttled_reset (stopped h) after same = elim h [ ]

  pub acquire_reset :
      ((acquire (rule_of A) K r c).answer.number ≡ 0) ⊎ ((acquire (rule_of A) K r c).answer.number ≡ 8) →
      ResetMoment A K r.query (acquire (rule_of A) K r c).after (acquire (rule_of A) K r c).answer.reset
  acquire_reset (inl e) = admitted_reset e
  acquire_reset (inr e) =
      throttled_reset (grounds A K r c L e)
      (denied_changes_nothing (rule_of A) K r c (ap (λ (n : ℕ). eqb n 0) e)) (peek_of_denied L K r c e)
