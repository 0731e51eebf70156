-- A peek is an acquire's report without the cost: it is answered as an acquire of cost 0 would be judged; after an acquire
-- that was admitted it shows the same numbers; and where one must wait, the same left and reset.
-- Assumes nothing.
use mathlib.Core.Path.{◌≡◌, sym, ap, ◌∙◌}
use mathlib.Core.Bool.{true}
use mathlib.Core.List.{List}
use Prim.Native.Nat.{ℕ, ◌<◌}
use native.Mathlib.Omega.{arith}
use lib.ListN.{get_or}
use lib.Seq.{get_or-set_same, get_or-set_other}
use borrow.Author.Tests.{ltb-false, le-ltb}
use Rattle.ticks.proofs.Limits.{within_limits}
use Rattle.rate.specs.declared.answer.Numbers.{Numbers}
use Rattle.rate.specs.Answer.{answered}
use Rattle.rate.specs.Decision.{Verdict, bare, reported}
use Rattle.rate.specs.Account.{Account, judge, report, guard}
use Rattle.rate.specs.Balanced.{Balanced}
use Rattle.rate.proofs.Answers.{answered_left, answered_reset}
use Rattle.rate.proofs.Cases.{report_sound}
use Rattle.rate.proofs.Fresh.{fresh_report, fresh_admits}
use Rattle.rate.proofs.Look.{look_is_free_ask, look_after, throttled_left, throttled_reset}
use Rattle.table.specs.Request.{Query, Request}
use Rattle.table.specs.Checks.{slots_ok, query_check}
use Rattle.table.specs.Rule.{Rule, rule_of, admits_at, owed_at, spent_at, admitted_at, throttled_at, fresh_at}
use Rattle.table.specs.Slots.{Columns, carries, NoneBelow}
use Rattle.table.specs.Calls.{Step, acquire, held, peek_verdict, peek, gate, toll}
use Rattle.table.specs.Passed.{Asked, Payable}
use Rattle.table.specs.Places.{Own, Unknown}
use Rattle.table.specs.Stored.{Stored}
use Rattle.table.proofs.Cases.{held_own, held_fresh, peek_reported, peek_answers, peek_checks}
use Rattle.table.proofs.Checks.{asks}
use Rattle.table.proofs.Outcomes.{writes, waits, admits, admits_new}
use Rattle.table.proofs.Placing.{own_at, own_nowhere}
use Rattle.table.proofs.Slots.{not_carried, carries_own, carries_other}
use Rattle.law_calls.specs.Peek.{SameReport}
use Rattle.law_calls.specs.Grounds.{Ground, stopped, throttled, admitted, admitted_new}
use Rattle.law_calls.proofs.Numbers.{grounds}

-- what a look is answered, for any rule
module _ {C P R : Type 0} (U : Rule P R) (K : Columns C R) (q : Query P) (c : C) where
  peeks :
      {h : R} → Asked (gate U K q c) → held U K q c ≡ h →
      (peek U K q c).answer ≡ answered q.subscriber (U.report q.setting q.moment h)
  peeks a e =
      peek_answers U K c q
      ∙ ap (λ (v : Verdict). answered q.subscriber v)
      (peek_reported U K c q (asks (gate U K q c) a) ∙ ap (λ (h : R). U.report q.setting q.moment h) e)

  -- with a slot of its own
  pub peek_own :
      (i : ℕ) → Asked (gate U K q c) → Own K q c i →
      (peek U K q c).answer ≡ answered q.subscriber (U.report q.setting q.moment (K.row c i))
  peek_own i a o = peeks a (held_own U K c q (own_at K q c o))

  -- without one
  pub peek_fresh :
      Asked (gate U K q c) → Unknown K q c →
      (peek U K q c).answer ≡ answered q.subscriber (U.report q.setting q.moment (U.fresh q.setting q.moment))
  peek_fresh a u = peeks a (held_fresh U K c q (own_nowhere K q c u))

module _ {C P R : Type 0} {A : Account P R} (L : Balanced A) (K : Columns C R) (q : Query P) (c : C) where
  pub peek_is_free_acquire :
      peek_verdict (rule_of A) K q c
      ≡ guard bare (query_check (gate (rule_of A) K q c)) (judge A q.setting q.moment (held (rule_of A) K q c) 0).verdict
  peek_is_free_acquire =
      peek_checks (rule_of A) K c q
      ∙ ap (λ (v : Verdict). guard bare (query_check (gate (rule_of A) K q c)) v) (look_is_free_ask L q.setting q.moment (held (rule_of A) K q c))

  -- an unknown subscriber has B left, and reset at the moment asked
  pub peek_unknown :
      Asked (gate (rule_of A) K q c) → Unknown K q c →
      (peek (rule_of A) K q c).answer
      ≡ answered q.subscriber (record { number = 0; left = (A.plan q.setting).burst; reset = q.moment; wait = 0 })
  peek_unknown a u =
      peek_fresh (rule_of A) K q c a u
      ∙ ap (λ (v : Verdict). answered q.subscriber v)
      (fresh_report L q.setting q.moment a.plan (within_limits (A.plan q.setting) (L.ok_plan q.setting a.plan)).period_least)

-- a slot that the subscriber was put into, with none below it that carries its number, is its own
pub put_own :
    {C P R : Type 0} {K : Columns C R} → Stored K → (q : Query P) (c : C) (i : ℕ) (held : R) → i < K.slots c →
    NoneBelow (carries (K.ids c) q.subscriber) i → Own K q (K.put c i q.subscriber q.moment held) i
put_own {K = K} S q c i held within first =
    let ids = S.ids_put c i q.subscriber q.moment held in
    record {
      within = omega (arith, S.slots_put c i q.subscriber q.moment held);
      passes =
          carries_own _ _ _ (ap (λ (l : List ℕ). get_or l i 0) ids ∙ get_or-set_same (K.ids c) i q.subscriber 0 (omega (arith, S.ids_length c (omega arith))));
      first = λ j l.
          let stays = ap (λ (l : List ℕ). get_or l j 0) ids ∙ get_or-set_other (K.ids c) i j q.subscriber 0 (λ e. omega arith) in
          carries_other _ _ j (λ e. not_carried (K.ids c) q.subscriber j (first j l) (sym stays ∙ e));
    }

module _ {C P R : Type 0} {A : Account P R} (L : Balanced A) (K : Columns C R) (S : Stored K) (r : Request P) (c : C) where
  -- what a look shows of the record that an admission has put
  shows :
      (h : R) (i : ℕ) → Payable (toll (rule_of A) K r c) → i < K.slots c → NoneBelow (carries (K.ids c) r.query.subscriber) i →
      admits_at A r h ≡ true → acquire (rule_of A) K r c ≡ writes K r c (admitted_at A r h) i (spent_at A r h) →
      (peek (rule_of A) K r.query (acquire (rule_of A) K r c).after).answer ≡ (acquire (rule_of A) K r c).answer
  shows h i p within first a e =
      rw e
      (peek_own (rule_of A) K r.query (K.put c i r.query.subscriber r.query.moment (spent_at A r h)) i
      (record {
        plan = p.asked.plan;
        table = ap (λ (n : ℕ). slots_ok n) (S.slots_put c i r.query.subscriber r.query.moment (spent_at A r h)) ∙ p.asked.table;
        moment = p.asked.moment;
        newest =
            le-ltb r.query.moment (K.newest (K.put c i r.query.subscriber r.query.moment (spent_at A r h)))
            (omega (arith, S.newest_put c i r.query.subscriber r.query.moment (spent_at A r h)));
        subscriber = p.asked.subscriber;
      })
      (put_own S r.query c i (spent_at A r h) within first)
      ∙ ap (λ (x : R). answered r.query.subscriber (report A r.query.setting r.query.moment x)) (S.row_same c i r.query.subscriber r.query.moment (spent_at A r h) within)
      ∙ ap (λ (v : Verdict). answered r.query.subscriber v) (look_after L r.query.setting r.query.moment h r.cost p.asked.plan a))

  shows_by : Ground A K r c 0 → (peek (rule_of A) K r.query (acquire (rule_of A) K r c).after).answer ≡ (acquire (rule_of A) K r c).answer
  shows_by (admitted p i o s a) = shows (K.row c i) i p o.within o.first a (admits A K r c p i o s a)
  shows_by (admitted_new p i u v) =
      shows (fresh_at A r) i p v.within (λ j l. u j (omega (arith, v.within)))
      (fresh_admits L r.query.setting r.query.moment r.cost (ltb-false _ _ p.burst)) (admits_new L K r c p i u v)
  shows_by (stopped h) = elim h [ ]

  -- after an acquire that was admitted a peek at the same moment gives the same five numbers
  pub peek_after_admission :
      (acquire (rule_of A) K r c).answer.number ≡ 0 →
      (peek (rule_of A) K r.query (acquire (rule_of A) K r c).after).answer ≡ (acquire (rule_of A) K r c).answer
  peek_after_admission e = shows_by (grounds A K r c L e)

-- where an acquire must wait, a peek shows the same left and reset
module _ {C P R : Type 0} {A : Account P R} (L : Balanced A) (K : Columns C R) (r : Request P) (c : C) where
  same_report : Ground A K r c 8 → SameReport A K r c
  same_report (throttled p i o s a e) =
      let seen =
      peek_own (rule_of A) K r.query c i p.asked o
      ∙ ap (λ (v : Verdict). answered r.query.subscriber v) (report_sound A r.query.setting r.query.moment (K.row c i) s) in
      let said = waits A K r c p i o s a in
      let look = reported (A.plan r.query.setting) r.query.moment (owed_at A r (K.row c i)) in
      record {
        left =
            ap (λ (x : Numbers). x.left) seen ∙ answered_left r.query.subscriber look
            ∙ sym (ap (λ (x : Step C). x.answer.left) said ∙ answered_left r.query.subscriber (throttled_at A r (K.row c i))
            ∙ throttled_left (A.plan r.query.setting) r.query.moment (owed_at A r (K.row c i)) r.cost e);
        reset =
            ap (λ (x : Numbers). x.reset) seen ∙ answered_reset r.query.subscriber look
            ∙ sym (ap (λ (x : Step C). x.answer.reset) said ∙ answered_reset r.query.subscriber (throttled_at A r (K.row c i))
            ∙ throttled_reset (A.plan r.query.setting) r.query.moment (owed_at A r (K.row c i)) r.cost e);
      }
  same_report (stopped h) = elim h [ ]

  pub peek_of_denied : (acquire (rule_of A) K r c).answer.number ≡ 8 → SameReport A K r c
  peek_of_denied e = same_report (grounds A K r c L e)
