-- The calls: for any request and any columns the whole answer, and the whole content of the columns afterwards. They are
-- generic over the rule and over the columns; a run of calls goes by these functions.
use Rattle.std.specs.Prelude.{ℕ, cond, Option, Some, None}
use Rattle.rate.specs.declared.answer.Numbers.{Numbers}
use Rattle.rate.specs.Answer.{answered}
use Rattle.rate.specs.Decision.{Verdict, bare}
use Rattle.rate.specs.Account.{guard, Settled, kept, spent, settled}
use Rattle.table.specs.Request.{Query, Request}
use Rattle.table.specs.Checks.{slots_ok, Gate, gate_of, Toll, toll_of, query_check, request_check}
use Rattle.table.specs.Rule.{Rule}
use Rattle.table.specs.Slots.{Columns, own, lowest_free}

-- document 01's five numbers, and the columns afterwards
pub record Step (C : Type 0) : Type 0 where
  pub answer : Numbers
  pub after : C

-- the slot that an ask is judged in: its place and its record, if there is one
pub data Slot (R : Type 0) : Type 0 where
  none : Slot R
  at : ℕ → R → Slot R

-- an ask as judged: nothing is to be written, or a record into a slot
pub data Ruling (R : Type 0) : Type 0 where
  keep : Verdict → Ruling R
  write : Verdict → ℕ → R → Ruling R

-- what becomes of the record, in its slot
unfoldable pub ruled : {R : Type 0} → ℕ → Settled R → Ruling R
ruled i (kept v) = keep v
ruled i (spent v held) = write v i held

-- a newcomer starts afresh in a free slot
unfoldable pub newcomer : {P R : Type 0} → Rule P R → Query P → Option ℕ → Slot R
newcomer U q None = none
newcomer U q (Some i) = at i (U.fresh q.setting q.moment)

-- without a slot of its own and a free one the answer is 9
unfoldable pub judge_in : {P R : Type 0} → Rule P R → Request P → Slot R → Ruling R
judge_in U r none = keep (bare 9)
judge_in U r (at i held) = ruled i (settled (U.judge r.query.setting r.query.moment held r.cost))

-- what a ruling answers and leaves
unfoldable pub commit : {C P R : Type 0} → Columns C R → Query P → C → Ruling R → Step C
commit K q c (keep v) = record { answer = answered q.subscriber v; after = c }
commit K q c (write v i held) =
    record { answer = answered q.subscriber v; after = K.put c i q.subscriber q.moment held }

module _ {C P R : Type 0} (U : Rule P R) (K : Columns C R) where
  -- what the checks look at
  abbrev pub gate : Query P → C → Gate
  gate q c = gate_of (U.ok q.setting) (K.slots c) (K.newest c) q.moment q.subscriber

  abbrev pub toll : Request P → C → Toll
  toll r c = toll_of (gate r.query c) (U.most r.query.setting) r.cost

  -- the own slot, or else a newcomer's
  unfoldable pub slot_from : Query P → C → Option ℕ → Slot R
  slot_from q c None = newcomer U q (lowest_free U K q.setting q.moment c)
  slot_from q c (Some i) = at i (K.row c i)

  unfoldable pub slot_for : Query P → C → Slot R
  slot_for q c = slot_from q c (own K q.subscriber c)

  -- an ask judged: the checks, then on the record in its slot
  unfoldable pub judge_call : Request P → C → Ruling R
  judge_call r c = guard (λ n. keep (bare n)) (request_check (toll r c)) (judge_in U r (slot_for r.query c))

  -- ask
  unfoldable pub acquire : Request P → C → Step C
  acquire r c = commit K r.query c (judge_call r c)

  -- the own record; without a slot the bucket is full
  unfoldable pub held_at : Query P → C → Option ℕ → R
  held_at q c None = U.fresh q.setting q.moment
  held_at q c (Some i) = K.row c i

  unfoldable pub held : Query P → C → R
  held q c = held_at q c (own K q.subscriber c)

  -- look: the checks but the cost's, then the own record; nothing is written
  unfoldable pub peek_verdict : Query P → C → Verdict
  peek_verdict q c = guard bare (query_check (gate q c)) (U.report q.setting q.moment (held q c))

  unfoldable pub peek : Query P → C → Step C
  peek q c = record { answer = answered q.subscriber (peek_verdict q c); after = c }

-- clear: all zeros and 0, or 2 and nothing touched
unfoldable pub clear : {C R : Type 0} → Columns C R → C → Step C
clear K c =
    cond (slots_ok (K.slots c))
    (record { answer = answered 0 (bare 0); after = K.zeros c })
    (record { answer = answered 0 (bare 2); after = c })
