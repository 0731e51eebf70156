-- Of every subscriber and every plan, whichever others the subscriber named meanwhile: the calls under that plan up to any moment owe no
-- more there than a full bucket holds. At a change of plan nothing is owed, so the calls under one plan owe together what the latest of
-- them do.
-- Assumes nothing.
use mathlib.Core.Path.{◌≡◌, refl, sym, ap, subst, ◌∙◌}
use mathlib.Core.Bool.{true, false}
use mathlib.Core.List.{List, [], ◌∷◌, ◌++◌}
use Prim.Native.Nat.{ℕ, ◌+◌, ◌-◌, ◌≤◌}
use native.Mathlib.Decide.{ℕ_discrete}
use native.Mathlib.Omega.{arith}
use lib.Dec.{leb}
use borrow.Author.Tests.{eq-eqb, ne_eqb, eqb-false, leb-true}
use Rattle.ticks.specs.declared.plan.Plan.{Plan}
use Rattle.ticks.specs.Grains.{ticks_in, price, capacity}
use Rattle.ticks.proofs.Tests.{by_leb}
use Rattle.plans.specs.Plans.{plan_at}
use Rattle.law_history.specs.History.{Entry, calls_of, debt, owed, plan_number, newest}
use Rattle.law_history.proofs.Latest.{calls_none, calls_own, calls_other, number_own, number_others}
use Rattle.law_history.proofs.Owing.{debt_none, drains, adds, owed_drains, owed_spends, owed_others, newest_end}
use Rattle.law_ceiling.specs.Counted.{select, under, calls_under}
use Rattle.law_ceiling.proofs.Lists.{select_none, select_in, select_out, debt_part}
use Rattle.law_ceiling.proofs.Stretch.{up_to}

-- a subscriber's calls under one plan owe at most what the subscriber owes, if that is its plan, and otherwise nothing
pub record Latest (ps : List Plan) (s who number : ℕ) (h : List Entry) : Type 0 where
  pub here : plan_number who h ≡ number → debt (plan_at ps number) s (calls_under who number h) ≤ owed ps s who h
  pub elsewhere : (plan_number who h ≡ number → ⊥) → debt (plan_at ps number) s (calls_under who number h) ≡ 0

pub record Covered (ps : List Plan) (h : List Entry) : Type 0 where
  pub latest : (s who number : ℕ) → newest h ≤ s → Latest ps s who number h
  pub most : (to who number : ℕ) → debt (plan_at ps number) to (up_to to (calls_under who number h)) ≤ capacity (plan_at ps number)

module _ (h : List Entry) (e : Entry) where
  -- a call at the end
  pub under_own : calls_under e.subscriber e.plan (h ++ (e ∷ [])) ≡ calls_under e.subscriber e.plan h ++ (e ∷ [])
  under_own =
      ap (λ (l : List Entry). select (under e.plan) l) (calls_own h e)
      ∙ select_in (under e.plan) (calls_of e.subscriber h) e (eq-eqb e.plan e.plan refl)

  under_another :
      (number : ℕ) → (e.plan ≡ number → ⊥) → calls_under e.subscriber number (h ++ (e ∷ [])) ≡ calls_under e.subscriber number h
  under_another number other =
      ap (λ (l : List Entry). select (under number) l) (calls_own h e)
      ∙ select_out (under number) (calls_of e.subscriber h) e (ne_eqb _ _ other)

  under_others :
      (who number : ℕ) → (e.subscriber ≡ who → ⊥) → calls_under who number (h ++ (e ∷ [])) ≡ calls_under who number h
  under_others who number other = ap (λ (l : List Entry). select (under number) l) (calls_other h e who other)

pub covered_none : (ps : List Plan) → Covered ps []
covered_none ps =
    record {
      latest = λ s who number late. record { here = λ n. omega (arith, nothing s who number); elsewhere = λ n. nothing s who number };
      most = λ to who number.
          omega (arith, debt_part (λ e. leb e.moment to) (plan_at ps number) to (calls_under who number []), nothing to who number);
    }
  where
    nothing : (s who number : ℕ) → debt (plan_at ps number) s (calls_under who number []) ≡ 0
    nothing s who number =
        ap (λ (l : List Entry). debt (plan_at ps number) s (select (under number) l)) (calls_none who)
        ∙ ap (λ (l : List Entry). debt (plan_at ps number) s l) (select_none (under number)) ∙ debt_none (plan_at ps number) s

-- an admission at the end
module _
    (ps : List Plan) (h : List Entry) (e : Entry) (c : Covered ps h) (late : newest h ≤ e.moment)
    (drained : (plan_number e.subscriber h ≡ e.plan → ⊥) → owed ps e.moment e.subscriber h ≡ 0) where
  abbrev after : List Entry
  after = h ++ (e ∷ [])

  abbrev who : ℕ
  who = e.subscriber

  abbrev p : Plan
  p = plan_at ps e.plan

  -- what the calls under its plan owed just before it
  before : debt p e.moment (calls_under who e.plan h) ≤ owed ps e.moment who h
  before = by (ℕ_discrete (plan_number who h) e.plan)
    where
      by : Dec (plan_number who h ≡ e.plan) → debt p e.moment (calls_under who e.plan h) ≤ owed ps e.moment who h
      by (yes n) = (c.latest e.moment who e.plan late).here n
      by (no n) = omega (arith, (c.latest e.moment who e.plan late).elsewhere n)

  -- .. and with it
  own_debt :
      debt p e.moment (calls_under who e.plan after) ≡ debt p e.moment (calls_under who e.plan h) + price p e.cost
  own_debt = ap (λ (l : List Entry). debt p e.moment l) (under_own h e) ∙ adds p (calls_under who e.plan h) e

  own_plan : (s : ℕ) → e.moment ≤ s → debt p s (calls_under who e.plan after) ≤ owed ps s who after
  own_plan s l =
      let calls = drains p e.moment s l (calls_under who e.plan after) in
      let owes = owed_drains ps e.moment s l who after in
      let spends = owed_spends ps h e (λ n. drained (eqb-false _ _ n)) in
      let same = ap (λ (k : ℕ). ticks_in (plan_at ps k) (s - e.moment)) (number_own h e) in
      omega (arith, calls, own_debt, before, owes, spends, same)

  -- the calls under another plan owe nothing any more
  other_plan : (s number : ℕ) → e.moment ≤ s → (e.plan ≡ number → ⊥) → debt (plan_at ps number) s (calls_under who number after) ≡ 0
  other_plan s number l other =
      ap (λ (x : List Entry). debt (plan_at ps number) s x) (under_another h e number other) ∙ by (ℕ_discrete (plan_number who h) number)
    where
      by : Dec (plan_number who h ≡ number) → debt (plan_at ps number) s (calls_under who number h) ≡ 0
      by (yes n) =
          let none = drained (λ k. other (sym k ∙ n)) in
          omega (arith, (c.latest s who number (omega arith)).here n, owed_drains ps e.moment s l who h, none)
      by (no n) = (c.latest s who number (omega arith)).elsewhere n

  latest_own : (s number : ℕ) → e.moment ≤ s → Latest ps s who number after
  latest_own s number l = by (ℕ_discrete e.plan number)
    where
      by : Dec (e.plan ≡ number) → Latest ps s who number after
      by (yes k) =
          subst (λ (x : ℕ). Latest ps s who x after) k
          (record { here = λ n. own_plan s l; elsewhere = λ n. absurd (n (number_own h e)) })
      by (no k) = record { here = λ n. absurd (k (sym (number_own h e) ∙ n)); elsewhere = λ n. other_plan s number l k }

  latest_others : (s x number : ℕ) → e.moment ≤ s → (who ≡ x → ⊥) → Latest ps s x number after
  latest_others s x number l other =
      let calls = ap (λ (y : List Entry). debt (plan_at ps number) s y) (under_others h e x number other) in
      let old = c.latest s x number (omega arith) in
      record {
        here = λ n. omega (arith, calls, old.here (sym (number_others h e x other) ∙ n), owed_others ps s h e x other);
        elsewhere = λ n. calls ∙ old.elsewhere (λ k. n (number_others h e x other ∙ k));
      }

  latest_after : (s x number : ℕ) → newest after ≤ s → Latest ps s x number after
  latest_after s x number l = by (ℕ_discrete who x)
    where
      on : e.moment ≤ s
      on = omega (arith, newest_end h e late)

      by : Dec (who ≡ x) → Latest ps s x number after
      by (yes k) = subst (λ (y : ℕ). Latest ps s y number after) k (latest_own s number on)
      by (no k) = latest_others s x number on k

  -- up to a moment from the call on, and up to an earlier one
  module _ (fits : owed ps e.moment who h + price p e.cost ≤ capacity p) where
    most_own : (to : ℕ) → debt p to (up_to to (calls_under who e.plan after)) ≤ capacity p
    most_own to = by_leb e.moment to since until
      where
        since : leb e.moment to ≡ true → debt p to (up_to to (calls_under who e.plan after)) ≤ capacity p
        since l =
            let part = debt_part (λ x. leb x.moment to) p to (calls_under who e.plan after) in
            omega (arith, part, drains p e.moment to (leb-true _ _ l) (calls_under who e.plan after), own_debt, before)

        until : leb e.moment to ≡ false → debt p to (up_to to (calls_under who e.plan after)) ≤ capacity p
        until l =
            let old =
            ap (λ (x : List Entry). debt p to (up_to to x)) (under_own h e)
            ∙ ap (λ (x : List Entry). debt p to x) (select_out (λ x. leb x.moment to) (calls_under who e.plan h) e l)
            in
            omega (arith, old, c.most to who e.plan)

    most_after : (to x number : ℕ) → debt (plan_at ps number) to (up_to to (calls_under x number after)) ≤ capacity (plan_at ps number)
    most_after to x number = by (ℕ_discrete who x) (ℕ_discrete e.plan number)
      where
        unchanged :
            calls_under x number after ≡ calls_under x number h →
            debt (plan_at ps number) to (up_to to (calls_under x number after)) ≤ capacity (plan_at ps number)
        unchanged same = omega (arith, ap (λ (l : List Entry). debt (plan_at ps number) to (up_to to l)) same, c.most to x number)

        by :
            Dec (who ≡ x) → Dec (e.plan ≡ number) →
            debt (plan_at ps number) to (up_to to (calls_under x number after)) ≤ capacity (plan_at ps number)
        by (no k) d = unchanged (under_others h e x number k)
        by (yes k) (no m) =
            unchanged (subst (λ (y : ℕ). calls_under y number after ≡ calls_under y number h) k (under_another h e number m))
        by (yes k) (yes m) =
            subst (λ (y : ℕ). debt (plan_at ps number) to (up_to to (calls_under y number after)) ≤ capacity (plan_at ps number)) k
            (subst (λ (y : ℕ). debt (plan_at ps y) to (up_to to (calls_under who y after)) ≤ capacity (plan_at ps y)) m (most_own to))

    pub covered_more : Covered ps after
    covered_more = record { latest = latest_after; most = most_after }
