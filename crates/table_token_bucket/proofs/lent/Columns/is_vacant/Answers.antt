-- `table_token_bucket::lent::Columns::is_vacant` meets its contract: the slot is empty, or its record owes nothing.
-- Assumes nothing.
use Rattle.std.proofs.Common.{refl, sym, ap, ◌∙◌, arith, eq-eqb, get_or}
use Rattle.plans.specs.Lent.{plans_in}
use Rattle.plans.specs.Plans.{plans_of, planned_of}
use Rattle.rule_token_bucket.specs.declared.Bucket.{Bucket}
use Rattle.table.proofs.Slots.{vacant_empty, vacant_held}
use Rattle.table_token_bucket.specs.Table.{lent_of, records, columns, rule}
use Rattle.table_token_bucket.proofs.Columns.{least}
use Rattle.table_token_bucket.proofs.lent.Columns.is_vacant.Goals as goal

pub offset_bounds-self-place : goal.offset_bounds-self-place
offset_bounds-self-place c = omega (arith, (least (lent_of c.args.self.now)).ids)

pub bounds-self-place : goal.bounds-self-place
bounds-self-place c = omega (arith, (least (lent_of c.args.self.now)).ids)

pub bounds-self-place-else-self-place-eq0 : goal.bounds-self-place-else-self-place-eq0
bounds-self-place-else-self-place-eq0 c = omega (arith, (least (lent_of c.args.self.now)).numbers)

pub returns-then-self-place-eq0 : goal.returns-then-self-place-eq0
unfolding records
returns-then-self-place-eq0 c =
    λ asked.
    eq-eqb _ _ c.if-self-place-eq0.true
    ∙ sym (vacant_empty rule columns (plans_of (plans_in c.args.plans.now) asked) c.args.moment.0 (lent_of c.args.self.now) _ c.if-self-place-eq0.true)

pub returns-else-self-place-eq0 : goal.returns-else-self-place-eq0
unfolding records
returns-else-self-place-eq0 c =
    λ asked.
    let read = ap (λ (b : Bucket). planned_of (get_or c.args.self.now.numbers.now c.args.place 0) b) c.bucket_at.ensures in
    sym (vacant_held rule columns (plans_of (plans_in c.args.plans.now) asked) c.args.moment.0 (lent_of c.args.self.now) _ c.if-self-place-eq0.false
    read c.is_free.ensures refl)
