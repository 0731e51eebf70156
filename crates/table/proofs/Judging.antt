-- What a table's functions owe at each call and each return, from what their callees said. It is the same for every rule
-- and every kind of columns, so the generic function's proof only cites it.
-- Assumes nothing.
use mathlib.Core.Path.{◌≡◌, sym, ap, ◌∙◌}
use mathlib.Core.Bool.{Bool, false}
use Prim.Native.Nat.{ℕ, ◌<◌}
use native.Mathlib.Omega.{arith}
use lib.Dec.{eqb}
use Rattle.rate.specs.declared.answer.Outcome.{Outcome}
use Rattle.rate.specs.declared.answer.Outcome.TheVariants.{Refused}
use Rattle.rate.specs.declared.answer.Reason.{Reason}
use Rattle.rate.specs.declared.answer.Reason.TheVariants.{TableFull}
use Rattle.rate.specs.Answer.{answered, reason_number, verdict_of, numbers_of}
use Rattle.rate.specs.Decision.{Verdict, bare}
use Rattle.rate.specs.Account.{Settled, settled}
use Rattle.rate.proofs.Answers.{refused, refuses, table_full, numbers}
use Rattle.std.specs.Prelude.{Result, Ok, Err}
use Rattle.std.specs.Prelude.{Option}
use Rattle.std.specs.Prelude.{Some, None}
use Rattle.table.specs.Request.{Query, Request}
use Rattle.table.specs.Checks.{check_number, Gate, gate_of, Toll, query_check, request_check}
use Rattle.table.specs.Rule.{Rule}
use Rattle.table.specs.Slots.{Columns, common, seek, carries, own, vacant, lowest_free}
use Rattle.table.specs.Calls.{Step, none, at, Ruling, keep, write, ruled, slot_for, judge_call, acquire, held, peek_verdict, peek, gate, toll}
use Rattle.table.specs.Passed.{Asked}
use Rattle.table.proofs.Cases.{judge_refused, judge_full, judge_at, held_own, held_fresh, peek_refused, peek_reported, peek_answers}
use Rattle.table.proofs.Checks.{asked, payable, slots_least}
use Rattle.table.proofs.Outcomes.{acquire_keeps, acquire_writes}
use Rattle.table.proofs.Seek.{found}
use Rattle.table.proofs.Slots.{common_equal}

-- what the checks said
module _ {k : Result (Unit {0}) Reason} {n : ℕ} (says : check_number k ≡ n) where
  pub told_passed : k ≡ Ok tt → n ≡ 0
  unfolding check_number
  told_passed e = sym says ∙ ap (λ (x : Result (Unit {0}) Reason). check_number x) e

  pub told_failed : {reason : Reason} → k ≡ Err reason → n ≡ reason_number reason
  unfolding check_number
  told_failed e = sym says ∙ ap (λ (x : Result (Unit {0}) Reason). check_number x) e

-- a refusal answers the number of its check
refusal : (reason : Reason) {n : ℕ} → n ≡ reason_number reason → verdict_of (Refused reason) ≡ bare n
refusal reason e = refused reason ∙ ap (λ (x : ℕ). bare x) (sym e)

not_0 : (reason : Reason) {n : ℕ} → n ≡ reason_number reason → eqb n 0 ≡ false
not_0 reason e = ap (λ (x : ℕ). eqb x 0) e ∙ refuses reason

-- what the checks were asked, by what they were given
pub gate_says :
    {C P R : Type 0} (U : Rule P R) (K : Columns C R) (q : Query P) (c : C) {ok : Bool} {slots newest : ℕ} → ok ≡ U.ok q.setting →
    slots ≡ K.slots c → newest ≡ K.newest c → gate_of ok slots newest q.moment q.subscriber ≡ gate U K q c
gate_says U K q c e f g = λ k. gate_of (e k) (f k) (g k) q.moment q.subscriber

-- an ask, in each of the cases in which it is judged
module _ {C P R : Type 0} (U : Rule P R) (K : Columns C R) (c : C) (r : Request P) where
  abbrev judged_on : R → Settled R
  judged_on h = settled (U.judge r.query.setting r.query.moment h r.cost)

  pub judges_refused :
      {k : Result (Unit {0}) Reason} {reason : Reason} → check_number k ≡ request_check (toll U K r c) → k ≡ Err reason →
      keep (verdict_of (Refused reason)) ≡ judge_call U K r c
  judges_refused {reason = reason} says e =
      let told = told_failed says e in
      ap (λ (v : Verdict). keep v) (refusal reason told) ∙ sym (judge_refused U K c r (not_0 reason told))

  module _ {k : Result (Unit {0}) Reason} (says : check_number k ≡ request_check (toll U K r c)) (passed : k ≡ Ok tt) where
    module _ {i : ℕ} {h : R} {s : Settled R} (slot : slot_for U K r.query c ≡ at i h) (on : s ≡ judged_on h) where
      pub judges_at : ruled i s ≡ judge_call U K r c
      judges_at = ap (λ (x : Settled R). ruled i x) on ∙ sym (judge_at U K c r (told_passed says passed) slot)

    pub judges_full : slot_for U K r.query c ≡ none → keep (verdict_of (Refused TableFull)) ≡ judge_call U K r c
    judges_full slot =
        ap (λ (v : Verdict). keep v) (refusal TableFull (sym table_full))
        ∙ sym (judge_full U K c r (told_passed says passed) slot)

-- a look, likewise
module _ {C P R : Type 0} (U : Rule P R) (K : Columns C R) (c : C) (q : Query P) where
  pub peeks_refused :
      {k : Result (Unit {0}) Reason} {reason : Reason} → check_number k ≡ query_check (gate U K q c) → k ≡ Err reason →
      verdict_of (Refused reason) ≡ peek_verdict U K q c
  peeks_refused {reason = reason} says e =
      let told = told_failed says e in
      refusal reason told ∙ sym (peek_refused U K c q (not_0 reason told))

  module _ {k : Result (Unit {0}) Reason} (says : check_number k ≡ query_check (gate U K q c)) (passed : k ≡ Ok tt) {h : R} {v : Verdict} where
    peeks : h ≡ held U K q c → v ≡ U.report q.setting q.moment h → v ≡ peek_verdict U K q c
    peeks e v =
        v ∙ ap (λ (h : R). U.report q.setting q.moment h) e ∙ sym (peek_reported U K c q (told_passed says passed))

    pub peeks_own :
        {i : ℕ} → own K q.subscriber c ≡ Some i → h ≡ K.row c i → v ≡ U.report q.setting q.moment h → v ≡ peek_verdict U K q c
    peeks_own o e v = peeks (e ∙ sym (held_own U K c q o)) v

    pub peeks_fresh :
        own K q.subscriber c ≡ None → h ≡ U.fresh q.setting q.moment → v ≡ U.report q.setting q.moment h →
        v ≡ peek_verdict U K q c
    peeks_fresh o e v = peeks (e ∙ sym (held_fresh U K c q o)) v

-- the five numbers of a look
pub peek_told :
    {C P R : Type 0} (U : Rule P R) (K : Columns C R) (c : C) (q : Query P) (outcome : Outcome) → verdict_of outcome ≡ peek_verdict U K q c →
    numbers_of (record { subscriber = q.subscriber; outcome = outcome }) ≡ (peek U K q c).answer
peek_told U K c q outcome e =
    numbers q.subscriber outcome ∙ ap (λ (v : Verdict). answered q.subscriber v) e ∙ sym (peek_answers U K c q)

-- .. and of an ask, with what it leaves: a ruling that keeps, and one that writes
module _ {C P R : Type 0} (U : Rule P R) (K : Columns C R) (c : C) (r : Request P) (outcome : Outcome) where
  told : {after : C} →
      acquire U K r c ≡ record { answer = answered r.query.subscriber (verdict_of outcome); after = after } →
      (numbers_of (record { subscriber = r.query.subscriber; outcome = outcome }) ≡ (acquire U K r c).answer) × (after ≡ (acquire U K r c).after)
  told e =
      (numbers r.query.subscriber outcome ∙ sym (ap (λ (s : Step C). s.answer) e), sym (ap (λ (s : Step C). s.after) e))

  pub keep_told :
      {x : Ruling R} → x ≡ judge_call U K r c → x ≡ keep (verdict_of outcome) →
      (numbers_of (record { subscriber = r.query.subscriber; outcome = outcome }) ≡ (acquire U K r c).answer) × (c ≡ (acquire U K r c).after)
  keep_told e f = told (acquire_keeps U K r c (sym e ∙ f))

  pub write_told :
      {x : Ruling R} {i : ℕ} {held : R} → x ≡ judge_call U K r c → x ≡ write (verdict_of outcome) i held →
      (numbers_of (record { subscriber = r.query.subscriber; outcome = outcome }) ≡ (acquire U K r c).answer)
      × (K.put c i r.query.subscriber r.query.moment held ≡ (acquire U K r c).after)
  write_told e f = told (acquire_writes U K r c (sym e ∙ f))

-- the own slot lies within the columns
pub own_within : {C R : Type 0} (K : Columns C R) (c : C) (subscriber : ℕ) {i : ℕ} → own K subscriber c ≡ Some i → i < K.slots c
unfolding own
own_within K c subscriber e = (found _ _ _ e).within

-- a search over all slots
module _ {C R : Type 0} (K : Columns C R) (c : C) {n : ℕ} (count : K.slots c ≡ n) {found : Option ℕ} where
  pub own_found : (subscriber : ℕ) {p : Option ℕ} → found ≡ seek (carries (K.ids c) subscriber) n → found ≡ p → own K subscriber c ≡ p
  unfolding own
  own_found subscriber says e = ap (λ (k : ℕ). seek (carries (K.ids c) subscriber) k) count ∙ sym says ∙ e

  pub free_found : {P : Type 0} (U : Rule P R) (p : P) (moment : ℕ) → found ≡ seek (vacant U K p moment c) n → found ≡ lowest_free U K p moment c
  unfolding lowest_free
  free_found U p moment says = says ∙ sym (ap (λ (k : ℕ). seek (vacant U K p moment c) k) count)

-- what the checks have shown, where they passed
pub query_asked : (g : Gate) {k : Result (Unit {0}) Reason} → check_number k ≡ query_check g → k ≡ Ok tt → Asked g
query_asked g says e = asked g (told_passed says e)

pub request_asked : (t : Toll) {k : Result (Unit {0}) Reason} → check_number k ≡ request_check t → k ≡ Ok tt → Asked t.gate
request_asked t says e = (payable t (told_passed says e)).asked

-- columns that passed are equal
pub asked_equal : (g : Gate) (a b : ℕ) → g.slots ≡ common a b → Asked g → a ≡ b
asked_equal g a b e h = common_equal a b (omega (arith, e, slots_least g.slots h.table))
