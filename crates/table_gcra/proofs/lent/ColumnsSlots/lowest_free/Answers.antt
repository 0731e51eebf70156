-- `table_gcra::lent::ColumnsSlots::lowest_free` meets its contract: no block that is passed over has a free slot.
-- Assumes nothing.
use Rattle.std.proofs.Common.{ℕ, ◌≤◌, ◌<◌, ◌^◌, get_or, sym, ◌∙◌, arith, rules, length}
use Rattle.ticks.specs.Grains.{ticks_in}
use Rattle.ticks.proofs.Limits.{ticks_most, on_clock_lem}
use Rattle.ticks.proofs.Products.{ticks_larger}
use Rattle.plans.specs.Lent.{plans_in}
use Rattle.plans.specs.Plans.{Plans, plan_at}
use Rattle.plans.proofs.Accounts.{ok_facts}
use Rattle.rule_gcra.proofs.Freeing.{beyond_not_free}
use Rattle.table.specs.Slots.{vacant, carries, at_most, NoneFrom}
use Rattle.table.specs.Lent.{asked_of}
use Rattle.table.proofs.Judging.{free_found}
use Rattle.table.proofs.Seen.{free_seen}
use Rattle.table.proofs.Slots.{none_vacant, at_most_test}
use Rattle.table_gcra.specs.Table.{records, lent_of, columns, rule}
use Rattle.table_gcra.proofs.Columns.{least}
use Rattle.table_gcra.proofs.lent.ColumnsSlots.lowest_free.Goals as goal
use Rattle.table_gcra.proofs.lent.ColumnsSlots.lowest_free.Goals.{After-ticks_in-most}

-- what none of the plans exceeds at the moment
module _ (c : After-ticks_in-most) where
  small : c.ticks_in-most.result.0 < 2 ^ 63
  small =
      let most = ticks_most c.loosest.result c.loosest.ensures.within_limits c.args.query.now.moment.0 (on_clock_lem _ c.requires.moment) in
      omega (arith, most, c.ticks_in-most.ensures)

  largest : (k : ℕ) → k < length (plans_in c.args.query.now.setting.plans.now) → ticks_in (plan_at (plans_in c.args.query.now.setting.plans.now) k) c.args.query.now.moment.0 ≤ c.ticks_in-most.result.0
  largest k h =
      let most = ticks_most c.loosest.result c.loosest.ensures.within_limits c.args.query.now.moment.0 (on_clock_lem _ c.requires.moment) in
      let larger = ticks_larger (plan_at (plans_in c.args.query.now.setting.plans.now) k) c.loosest.result c.args.query.now.moment.0 (c.loosest.ensures.looser k h).limit in
      omega (arith, larger, most, c.ticks_in-most.ensures)

  -- a block in which none is empty and no TAT is at most that has no free slot
  beyond : (from to : ℕ) → NoneFrom (carries c.args.self.now.ids.now 0) from to → NoneFrom (at_most c.args.self.now.tats.now c.ticks_in-most.result.0) from to →
      NoneFrom (vacant rule columns (asked_of c.args.query.now).setting c.args.query.now.moment.0 (lent_of c.args.self.now)) from to
  unfolding records
  beyond from to empty owes =
      let T = c.args.self.now in
      none_vacant rule columns _ _ _ from to empty
      (λ j above below.
      beyond_not_free (plans_in c.args.query.now.setting.plans.now) c.args.query.now.moment.0 (get_or T.numbers.now j 0) (record { 0 = get_or T.tats.now j 0 }) c.ticks_in-most.result.0 largest
      (sym (at_most_test T.tats.now c.ticks_in-most.result.0 j) ∙ owes j above below))

pub new-drained-requires : goal.new-drained-requires
new-drained-requires c = (ok_facts _ c.requires.plans).most

pub loosest-requires : goal.loosest-requires
loosest-requires c = ok_facts _ c.requires.plans

pub lowest-requires-clause-quick_callable : goal.lowest-requires-clause-quick_callable
lowest-requires-clause-quick_callable c = let all = least (lent_of c.args.self.now) in λ at room. search rules

pub returns : goal.returns
returns c =
    let t = lent_of c.args.self.now in
    let setting : Plans = (asked_of c.args.query.now).setting in
    let state = (goal.at.returns c).After-ticks_in-most in
    let tight = small state in
    let lending = c.requires in
    free_found columns t (sym c.count.ensures) rule setting c.args.query.now.moment.0
    (c.lowest.ensures (vacant rule columns setting c.args.query.now.moment.0 t)
    (λ at room no. beyond state at _ (search rules) (search rules))
    (λ at room no. search rules)
    (λ i b below is. search rules))
    ∙ sym (free_seen rule columns t setting c.args.query.now.moment.0)
