-- A host that plays the run `meeting` counts what the history has, by either engine.
-- Assumes nothing.
use mathlib.Core.Path.{◌≡◌, ap, ◌∙◌}
use mathlib.Core.List.{List}
use Prim.Native.Nat.{ℕ}
use Rattle.rate.specs.Engine.{Engine}
use Rattle.rate.specs.Lawful.{Lawful}
use Rattle.plans.specs.declared.planned.Planned.{Planned}
use Rattle.plans.specs.Plans.{planned}
use Rattle.rule_gcra.proofs.Laws.{gcra_lawful}
use Rattle.rule_token_bucket.proofs.Laws.{token_bucket_lawful}
use Rattle.table.specs.Rule.{rule_of}
use Rattle.table.specs.Slots.{Columns}
use Rattle.table.specs.Calls.{clear}
use Rattle.table.specs.Stored.{Stored}
use Rattle.table_gcra.specs.Table as gcra_table
use Rattle.table_gcra.proofs.Columns.{gcra_stored}
use Rattle.table_token_bucket.specs.Table as token_bucket_table
use Rattle.table_token_bucket.proofs.Columns.{token_bucket_stored}
use Rattle.law_history.specs.History.{Entry}
use Rattle.law_ceiling.specs.Counted.{units, booked, notes}
use Rattle.law_ceiling.specs.Worked.{plans, meeting, Played}
use Rattle.law_ceiling.proofs.Worked.{counts}
use Rattle.law_ceiling.proofs.Ceiling.{notes_are_booked}

five :
    {C R : Type 0} {E : Engine R} → Lawful E → (K : Columns C (Planned R)) → Stored K → (c : C) → K.slots c ≡ 2 →
    (clear K c).answer.number ≡ 0 → units 7 0 0 1000 (notes (rule_of (planned E)) K plans c meeting) ≡ 5
five L K S c two e =
    ap (λ (h : List Entry). units 7 0 0 1000 h) (notes_are_booked L K S plans c meeting e)
    ∙ ap (λ (n : ℕ). units 7 0 0 1000 (booked n plans meeting)) two ∙ counts.five

pub played : Played
played =
    record {
      by_gcra = five gcra_lawful gcra_table.columns gcra_stored;
      by_token_bucket = five token_bucket_lawful token_bucket_table.columns token_bucket_stored;
    }
