-- What an acquire writes under the plans lent is of the plan asked for, which is one of 16 at most.
-- Assumes nothing.
use Rattle.std.proofs.Common.{◌≡◌, ℕ, Bool, true, false, eqb, ◌<◌, refl, sym, ap, subst, ◌∙◌, arith}
use mathlib.Core.Bool.{false≢true}
use borrow.Author.Tests.{eqb-true}
use Rattle.rate.specs.Engine.{Engine}
use Rattle.rate.specs.Decision.{bare}
use Rattle.rate.specs.Account.{Judged, judge, guard, settled}
use Rattle.rate.proofs.Answers.{bare_number}
use Rattle.rate.proofs.Cases.{guard_0, guard_not_0, judge_faulty, judge_admitted, judge_throttled}
use Rattle.rate.proofs.ClockEnd.{throttled_not_0}
use Rattle.plans.specs.declared.planned.Planned.{Planned}
use Rattle.plans.specs.Plans.{Plans, asked, planned}
use Rattle.plans.proofs.Accounts.{ok_known, ok_facts}
use Rattle.plans.proofs.Lent.{lent_below}
use Rattle.table.specs.Request.{Request}
use Rattle.table.specs.Checks.{request_check}
use Rattle.table.specs.Rule.{rule_of}
use Rattle.table.specs.Slots.{Columns}
use Rattle.table.specs.Calls.{Slot, none, at, Ruling, keep, write, ruled, slot_for, judge_in, judge_call, toll}
use Rattle.table.proofs.Cases.{ruled_writes, ruled_keeps}
use Rattle.table.proofs.Placing.{write_payable}

module _ {C R : Type 0} (E : Engine R) (K : Columns C (Planned R)) (r : Request Plans) (c : C) where
  abbrev Asked : Ruling (Planned R) → Type 0
  Asked (keep v) = Unit {0}
  Asked (write v i held) = held.number ≡ r.query.setting.number

  -- what is judged as admitted is of the plan asked for afterwards
  after : (held : Planned R) → eqb (judge (planned E) r.query.setting r.query.moment held r.cost).verdict.number 0 ≡ true →
      (judge (planned E) r.query.setting r.query.moment held r.cost).after.number ≡ r.query.setting.number
  after held e = by (eqb ((planned E).fault r.query.setting r.query.moment held) 0) refl ((planned E).admits r.query.setting r.query.moment held r.cost) refl
    where
      by :
          (f : Bool) → eqb ((planned E).fault r.query.setting r.query.moment held) 0 ≡ f →
          (a : Bool) → (planned E).admits r.query.setting r.query.moment held r.cost ≡ a →
          (judge (planned E) r.query.setting r.query.moment held r.cost).after.number ≡ r.query.setting.number
      by false f a ea =
          let j = judge_faulty (planned E) r.query.setting r.query.moment held r.cost f in
          absurd (false≢true (sym f ∙ sym (ap (λ (n : ℕ). eqb n 0) (bare_number _)) ∙ sym (ap (λ (j : Judged (Planned R)). eqb j.verdict.number 0) j) ∙ e))
      by true f true ea =
          ap (λ (j : Judged (Planned R)). j.after.number) (judge_admitted (planned E) r.query.setting r.query.moment held r.cost (eqb-true _ _ f) ea)
      by true f false ea =
          let j = judge_throttled (planned E) r.query.setting r.query.moment held r.cost (eqb-true _ _ f) ea in
          absurd (false≢true
          (sym (throttled_not_0 (asked r.query.setting) r.query.moment ((planned E).backlog r.query.setting r.query.moment held) r.cost)
          ∙ sym (ap (λ (j : Judged (Planned R)). eqb j.verdict.number 0) j) ∙ e))

  in_slot : (i : ℕ) (held : Planned R) → Asked (ruled i (settled (judge (planned E) r.query.setting r.query.moment held r.cost)))
  in_slot i held = by (eqb (judge (planned E) r.query.setting r.query.moment held r.cost).verdict.number 0) refl
    where
      by : (b : Bool) → eqb (judge (planned E) r.query.setting r.query.moment held r.cost).verdict.number 0 ≡ b →
          Asked (ruled i (settled (judge (planned E) r.query.setting r.query.moment held r.cost)))
      by true e = subst (λ (x : Ruling (Planned R)). Asked x) (sym (ruled_writes i _ e)) (after held e)
      by false e = subst (λ (x : Ruling (Planned R)). Asked x) (sym (ruled_keeps i _ e)) tt

  judged_in : (s : Slot (Planned R)) → Asked (judge_in (rule_of (planned E)) r s)
  unfolding judge_in
  judged_in none = tt
  judged_in (at i held) = in_slot i held

  guarded : (n : ℕ) (x : Ruling (Planned R)) → Asked x → Asked (guard (λ n. keep (bare n)) n x)
  guarded n x h = by (eqb n 0) refl
    where
      by : (b : Bool) → eqb n 0 ≡ b → Asked (guard (λ n. keep (bare n)) n x)
      by true e = subst (λ (x : Ruling (Planned R)). Asked x) (sym (guard_0 (λ n. keep (bare n)) n x (eqb-true n 0 e))) h
      by false e = subst (λ (x : Ruling (Planned R)). Asked x) (sym (guard_not_0 (λ n. keep (bare n)) n x e)) tt

  judged : Asked (judge_call (rule_of (planned E)) K r c)
  unfolding judge_call
  judged = guarded (request_check (toll (rule_of (planned E)) K r c)) _ (judged_in (slot_for (rule_of (planned E)) K r.query c))

  module _ {v : _} {i : ℕ} {held : Planned R} (e : judge_call (rule_of (planned E)) K r c ≡ write v i held) where
    pub written_number : held.number ≡ r.query.setting.number
    written_number = subst (λ (x : Ruling (Planned R)). Asked x) e judged

    pub written_fits : held.number < 256
    written_fits =
        let p = r.query.setting in
        let ok = (write_payable (rule_of (planned E)) K r c e).asked.plan in
        omega (arith, written_number, lent_below p.plans p.number (ok_known p ok), (ok_facts p ok).most)
