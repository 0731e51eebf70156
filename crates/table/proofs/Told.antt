-- What an acquire and a clear owe at their returns: an ask was judged, and is then written to the columns.
-- Assumes nothing.
use Rattle.std.proofs.Common.{◌≡◌, Option, Some, None, Ok, Err, true, false, ◌<◌, sym, ap, ◌∙◌}
use Rattle.rate.specs.declared.answer.Reason.TheVariants.{BadTable}
use Rattle.rate.specs.Answer.{verdict_of, numbers_of, cleared_numbers}
use Rattle.rate.specs.Engine.{Engine}
use Rattle.rate.proofs.Answers.{cleared_done, cleared_unfit}
use Rattle.plans.specs.declared.planned.Planned.{Planned}
use Rattle.plans.specs.Plans.{Plans, planned}
use Rattle.table.specs.declared.calls.Slot as code
use Rattle.table.specs.declared.calls.Ruling as judged
use Rattle.table.specs.Request.{Request}
use Rattle.table.specs.Checks.{slots_ok}
use Rattle.table.specs.Rule.{rule_of}
use Rattle.table.specs.Slots.{Columns}
use Rattle.table.specs.Lent.{written_of, ruling_of}
use Rattle.table.specs.Calls.{Step, write, judge_call, acquire, clear}
use Rattle.table.proofs.Cases as cases
use Rattle.table.proofs.Judging.{keep_told, write_told}
use Rattle.table.proofs.Placing.{write_within}
use Rattle.table.proofs.Seen.{ruling_is, written_none, written_some}
use Rattle.table.proofs.Written.{written_fits}

module _
    {C R : Type 0} (E : Engine R) (K : Columns C (Planned R)) (r : Request Plans) (c : C) (ruling : judged.Ruling (Planned R))
    (says : ruling_of ruling ≡ judge_call (rule_of (planned E)) K r c) where
  comes_to : {w : Option (code.Slot (Planned R))} → ruling.written ≡ w → ruling_of ruling ≡ written_of (verdict_of ruling.outcome) w
  comes_to e = ruling_is ruling ∙ ap (λ w. written_of (verdict_of ruling.outcome) w) e

  -- nothing is to be written
  pub acquire_keeps :
      ruling.written ≡ None →
      (numbers_of (record { subscriber = r.query.subscriber; outcome = ruling.outcome }) ≡ (acquire (rule_of (planned E)) K r c).answer)
      × (c ≡ (acquire (rule_of (planned E)) K r c).after)
  acquire_keeps e = keep_told (rule_of (planned E)) K c r ruling.outcome says (comes_to e ∙ written_none (verdict_of ruling.outcome))

  -- one slot is to be written: it lies within the columns, and its plan's number fits its column
  module _ {s : code.Slot (Planned R)} (e : ruling.written ≡ Some s) where
    writes : ruling_of ruling ≡ write (verdict_of ruling.outcome) s.place s.held
    writes = comes_to e ∙ written_some (verdict_of ruling.outcome) s

    pub acquire_place : s.place < K.slots c
    acquire_place = write_within (rule_of (planned E)) K r c (sym says ∙ writes)

    pub acquire_number : s.held.number < 256
    acquire_number = written_fits E K r c (sym says ∙ writes)

    pub acquire_writes :
        (numbers_of (record { subscriber = r.query.subscriber; outcome = ruling.outcome }) ≡ (acquire (rule_of (planned E)) K r c).answer)
        × (K.put c s.place r.query.subscriber r.query.moment s.held ≡ (acquire (rule_of (planned E)) K r c).after)
    acquire_writes = write_told (rule_of (planned E)) K c r ruling.outcome says writes

-- a clear
module _ {C R : Type 0} (K : Columns C R) (c : C) where
  pub clear_refuses :
      slots_ok (K.slots c) ≡ false → (cleared_numbers (Err BadTable) ≡ (clear K c).answer) × (c ≡ (clear K c).after)
  clear_refuses e =
      let step = cases.clear_unfit K c e in
      (cleared_unfit ∙ sym (ap (λ (s : Step C). s.answer) step), sym (ap (λ (s : Step C). s.after) step))

  pub clear_zeros : slots_ok (K.slots c) ≡ true → (cleared_numbers (Ok tt) ≡ (clear K c).answer) × (K.zeros c ≡ (clear K c).after)
  clear_zeros e =
      let step = cases.clear_done K c e in
      (cleared_done ∙ sym (ap (λ (s : Step C). s.answer) step), sym (ap (λ (s : Step C). s.after) step))
