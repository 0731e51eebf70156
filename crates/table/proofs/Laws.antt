-- The laws of the table hold.
-- Assumes nothing.
use mathlib.Core.Bool.{Bool}
use Prim.Native.Nat.{ℕ}
use Rattle.table.specs.Request.{Request}
use Rattle.table.specs.Checks.{Gate, Toll}
use Rattle.table.specs.Rule.{Rule}
use Rattle.table.specs.Slots.{Columns}
use Rattle.table.specs.Laws.{SlotLimits, QueryNumbers, RequestNumbers, SearchLaws, AcquireCases, ClearCases}
use Rattle.table.proofs.Cases as cases
use Rattle.table.proofs.Checks as checks
use Rattle.table.proofs.Outcomes as outcomes
use Rattle.table.proofs.Seek as searches
use Rattle.table.proofs.Slots as slots

pub slot_limits : SlotLimits
slot_limits =
    record {
      slots_none = checks.slots_none;
      slots_within = checks.slots_within;
      slots_beyond = checks.slots_beyond;
      common_same = slots.common_same;
      common_unequal = slots.common_unequal;
    }

pub query_numbers : (g : Gate) → QueryNumbers g
query_numbers g =
    record {
      number_1 = checks.number_1 g;
      number_2 = checks.number_2 g;
      number_3 = checks.number_3 g;
      number_11 = checks.number_11 g;
      number_4 = checks.number_4 g;
    }

pub request_numbers : (t : Toll) → RequestNumbers t
request_numbers t =
    record {
      query_first = checks.query_first t;
      number_5 = checks.number_5 t;
      number_6 = checks.number_6 t;
      pays = checks.pays t;
    }

pub search_laws : (test : ℕ → Bool) (n : ℕ) → SearchLaws test n
search_laws test n = record { seek_at = searches.seek_at test n; seek_nowhere = searches.seek_nowhere test n }

pub acquire_cases : {C P R : Type 0} (U : Rule P R) (K : Columns C R) (r : Request P) (c : C) → AcquireCases U K r c
acquire_cases U K r c =
    record {
      refused = outcomes.refused U K r c;
      full = outcomes.full U K r c;
      own_answer = outcomes.own_answer U K r c;
      new_answer = outcomes.new_answer U K r c;
    }

pub clear_cases : {C R : Type 0} (K : Columns C R) (c : C) → ClearCases K c
clear_cases K c = record { clear_done = cases.clear_done K c; clear_unfit = cases.clear_unfit K c }
