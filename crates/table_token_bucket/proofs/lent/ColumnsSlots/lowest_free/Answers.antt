-- `table_token_bucket::lent::ColumnsSlots::lowest_free` meets its contract: no block that is passed over has a free slot.
-- Assumes nothing.
use Rattle.std.proofs.Common.{sym, ◌∙◌, rules}
use Rattle.ticks.proofs.Limits.{on_clock_lem}
use Rattle.plans.specs.Lent.{plans_in}
use Rattle.plans.proofs.Accounts.{ok_facts}
use Rattle.table.specs.Slots.{vacant}
use Rattle.table.specs.Lent.{asked_of}
use Rattle.table.proofs.Judging.{free_found}
use Rattle.table.proofs.Seen.{free_seen}
use Rattle.table_token_bucket.specs.Table.{lent_of, columns, rule}
use Rattle.table_token_bucket.proofs.Planned.{block_taken}
use Rattle.table_token_bucket.proofs.lent.ColumnsSlots.lowest_free.Goals as goal

pub loosest-loosest-requires : goal.loosest-loosest-requires
loosest-loosest-requires c = ok_facts _ c.requires.plans

pub lowest-requires-clause-quick_callable : goal.lowest-requires-clause-quick_callable
lowest-requires-clause-quick_callable c =
    let within = c.loosest-loosest.ensures.within_limits in
    let moment = on_clock_lem _ c.requires.moment in
    λ at room. search rules

pub lowest-requires-clause-closer_callable : goal.lowest-requires-clause-closer_callable
lowest-requires-clause-closer_callable c =
    let lent = ok_facts _ c.requires.plans in
    let moment = c.requires.moment in
    λ at room. search rules

pub returns : goal.returns
returns c =
    let query = c.args.query.now in
    let t = lent_of c.args.self.now in
    let setting = (asked_of query).setting in
    let found = c.loosest-loosest.ensures in
    free_found columns t (sym c.count.ensures) rule setting query.moment.0
    (c.lowest.ensures (vacant rule columns setting query.moment.0 t)
    (λ at room no.
    block_taken (plans_in query.setting.plans.now) query.setting.number query.moment.0 t (ok_facts _ c.requires.plans) found.looser
    (search rules) (search rules))
    (λ at room no. search rules)
    (λ i b below is. search rules))
    ∙ sym (free_seen rule columns t setting query.moment.0)
