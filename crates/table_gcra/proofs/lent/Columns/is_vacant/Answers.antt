-- `table_gcra::lent::Columns::is_vacant` meets its contract: the slot is empty, or its TAT is drained.
-- Assumes nothing.
use Rattle.std.proofs.Common.{refl, sym, ◌∙◌, arith, eq-eqb}
use Rattle.table.proofs.Slots.{vacant_empty, vacant_held}
use Rattle.table_gcra.specs.Table.{lent_of, records, columns, rule}
use Rattle.table_gcra.proofs.Columns.{least}
use Rattle.table_gcra.proofs.lent.Columns.is_vacant.Goals as goal

pub offset_bounds-self-place : goal.offset_bounds-self-place
offset_bounds-self-place c = omega (arith, (least (lent_of c.args.self.now)).ids)

pub bounds-self-place : goal.bounds-self-place
bounds-self-place c = omega (arith, (least (lent_of c.args.self.now)).ids)

pub bounds-self-place-else-self-place-eq0 : goal.bounds-self-place-else-self-place-eq0
bounds-self-place-else-self-place-eq0 c = omega (arith, (least (lent_of c.args.self.now)).numbers)

pub bounds-self-place-else-self-place-eq0-2 : goal.bounds-self-place-else-self-place-eq0-2
bounds-self-place-else-self-place-eq0-2 c = omega (arith, (least (lent_of c.args.self.now)).tats)

pub returns-then-self-place-eq0 : goal.returns-then-self-place-eq0
unfolding records
returns-then-self-place-eq0 c = λ p at n d. eq-eqb _ _ c.if-self-place-eq0.true ∙ sym (vacant_empty rule columns p at (lent_of c.args.self.now) _ c.if-self-place-eq0.true)

pub returns-else-self-place-eq0 : goal.returns-else-self-place-eq0
unfolding records
returns-else-self-place-eq0 c =
    λ p at n d.
    sym (vacant_held rule columns p at (lent_of c.args.self.now) _ c.if-self-place-eq0.false refl (c.is_free.ensures p.plans at n d) refl)
