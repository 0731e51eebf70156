-- What the functions of the code are asked and answer, as the definitions have it.
use Rattle.std.specs.Prelude.{Option, Some, None}
use Rattle.rate.specs.Answer.{verdict_of}
use Rattle.rate.specs.Decision.{Verdict}
use Rattle.plans.specs.Lent.{setting_of}
use Rattle.plans.specs.Plans.{Plans}
use Rattle.table.specs.declared.check.Gate as looks
use Rattle.table.specs.declared.check.Toll as weighs
use Rattle.table.specs.declared.request.Query as query
use Rattle.table.specs.declared.request.Request as request
use Rattle.table.specs.declared.calls.Slot as code
use Rattle.table.specs.declared.calls.Ruling as judged
use Rattle.table.specs.Request.{Query, Request, query_of}
use Rattle.table.specs.Checks.{Gate, gate_of, Toll, toll_of}
use Rattle.table.specs.Calls.{Slot, none, at, Ruling, keep, write}

abbrev pub asked_of : query.Query → Query Plans
asked_of q = query_of (setting_of q.setting) q.moment.0 q.subscriber

abbrev pub asks_of : request.Request → Request Plans
asks_of r = record { query = asked_of r.query; cost = r.cost }

-- what the checks look at
abbrev pub gate_in : looks.Gate → Gate
gate_in g = gate_of g.ok g.slots g.newest.0 g.moment.0 g.subscriber

abbrev pub toll_in : weighs.Toll → Toll
toll_in t = toll_of (gate_in t.gate) t.most t.cost

-- the slot that an ask is judged in
unfoldable pub slot_of : {R : Type 0} → Option (code.Slot R) → Slot R
slot_of None = none
slot_of (Some s) = at s.place s.held

-- a verdict, and what is to be written
unfoldable pub written_of : {R : Type 0} → Verdict → Option (code.Slot R) → Ruling R
written_of v None = keep v
written_of v (Some s) = write v s.place s.held

-- .. an ask as judged
unfoldable pub ruling_of : {R : Type 0} → judged.Ruling R → Ruling R
ruling_of r = written_of (verdict_of r.outcome) r.written
