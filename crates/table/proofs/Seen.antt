-- A call by any columns is the call by what is read of them; and what the functions of the code answer, case by case.
-- Assumes nothing.
use Rattle.std.proofs.Common.{◌≡◌, ℕ, Option, Some, None, MatchOption, IsSomeAnd, refl, sym, ap, ◌∙◌}
use Rattle.rate.specs.declared.answer.Outcome.{Outcome}
use Rattle.rate.specs.Answer.{answered, verdict_of}
use Rattle.rate.specs.Account.{guard, Settled}
use Rattle.rate.specs.Decision.{Verdict, bare}
use Rattle.rate.specs.Judgement.{judgement_of}
use Rattle.rate.proofs.Judging.{judgement_keep, judgement_spend}
use Rattle.table.specs.declared.calls.Slot as code
use Rattle.table.specs.declared.calls.Ruling as judged
use Rattle.table.specs.Request.{Query, Request}
use Rattle.table.specs.Checks.{query_check, request_check}
use Rattle.table.specs.Rule.{Rule}
use Rattle.table.specs.Slots.{Columns, seek, carries, own, vacant, lowest_free}
use Rattle.table.specs.Seen.{sight_in, sights}
use Rattle.table.specs.Lent.{slot_of, written_of, ruling_of}
use Rattle.table.specs.Calls.{Slot, none, at, keep, write, ruled, slot_from, slot_for, judge_in, judge_call, held_at, held, peek_verdict, peek, gate, toll}
use Rattle.table.proofs.Cases.{ruled_kept, ruled_spent}

module _ {C P R : Type 0} (U : Rule P R) (K : Columns C R) (c : C) where
  slot_seen_from : (q : Query P) (p : Option ℕ) → slot_from U sights q (sight_in K c) p ≡ slot_from U K q c p
  unfolding slot_from lowest_free vacant
  slot_seen_from q None = refl
  slot_seen_from q (Some i) = refl

  slot_seen : (q : Query P) → slot_for U sights q (sight_in K c) ≡ slot_for U K q c
  unfolding slot_for own
  slot_seen q = slot_seen_from q (seek (carries (K.ids c) q.subscriber) (K.slots c))

  held_seen_at : (q : Query P) (p : Option ℕ) → held_at U sights q (sight_in K c) p ≡ held_at U K q c p
  unfolding held_at
  held_seen_at q None = refl
  held_seen_at q (Some i) = refl

  held_seen : (q : Query P) → held U sights q (sight_in K c) ≡ held U K q c
  unfolding held own
  held_seen q = held_seen_at q (seek (carries (K.ids c) q.subscriber) (K.slots c))

  pub free_seen : (p : P) (moment : ℕ) → lowest_free U sights p moment (sight_in K c) ≡ lowest_free U K p moment c
  unfolding lowest_free vacant
  free_seen p moment = refl

  pub judge_seen : (r : Request P) → judge_call U sights r (sight_in K c) ≡ judge_call U K r c
  unfolding judge_call
  judge_seen r = ap (λ (s : Slot R). guard (λ n. keep (bare n)) (request_check (toll U K r c)) (judge_in U r s)) (slot_seen r.query)

  pub peek_seen : (q : Query P) → (peek U sights q (sight_in K c)).answer ≡ (peek U K q c).answer
  unfolding peek peek_verdict
  peek_seen q =
      ap (λ (h : R). answered q.subscriber (guard bare (query_check (gate U K q c)) (U.report q.setting q.moment h)))
      (held_seen q)

-- what the code answers: a slot, or none
pub slot_some : {R : Type 0} (s : code.Slot R) → slot_of (Some s) ≡ at s.place s.held
unfolding slot_of
slot_some s = refl

pub slot_none : {R : Type 0} → slot_of {R = R} None ≡ none
unfolding slot_of
slot_none = refl

-- .. an ask as judged: nothing is to be written, or one slot
module _ {R : Type 0} (v : Verdict) where
  pub written_none : written_of {R = R} v None ≡ keep v
  unfolding written_of
  written_none = refl

  pub written_some : (s : code.Slot R) → written_of v (Some s) ≡ write v s.place s.held
  unfolding written_of
  written_some s = refl

pub ruling_is : {R : Type 0} (r : judged.Ruling R) → ruling_of r ≡ written_of (verdict_of r.outcome) r.written
unfolding ruling_of
ruling_is r = refl

-- what is judged of a record in its slot is to be written there
pub ruling_judged :
    {R : Type 0} (place : ℕ) (outcome : Outcome) (held : Option R) (m : Option (code.Slot R)) →
    MatchOption held (m ≡ None) (λ x. IsSomeAnd m (λ s. s ≡ record { place = place; held = x })) →
    ruling_of (record { outcome = outcome; written = m }) ≡ ruled place (judgement_of (record { outcome = outcome; «record» = held }))
ruling_judged place outcome None m e =
    ap (λ (m : Option (code.Slot _)). ruling_of (record { outcome = outcome; written = m })) e
    ∙ ruling_is _ ∙ written_none (verdict_of outcome) ∙ sym (ruled_kept place (verdict_of outcome))
    ∙ sym (ap (λ (s : Settled _). ruled place s) (judgement_keep refl))
ruling_judged place outcome (Some x) (Some s) e =
    ruling_is _ ∙ written_some (verdict_of outcome) s ∙ ap (λ (s : code.Slot _). write (verdict_of outcome) s.place s.held) e
    ∙ sym (ruled_spent place (verdict_of outcome) x)
    ∙ sym (ap (λ (s : Settled _). ruled place s) (judgement_spend outcome x))
ruling_judged place outcome (Some x) None e = elim e [ ]
