-- What each call comes to in each case, for any rule and any columns. A function's proof cites the case that it returns in.
-- Assumes nothing.
use mathlib.Core.Path.{◌≡◌, refl, ap, ◌∙◌}
use mathlib.Core.Bool.{true, false, ◌||◌}
use Prim.Native.Nat.{ℕ}
use lib.Dec.{eqb}
use Rattle.rate.specs.Answer.{answered}
use Rattle.rate.specs.Decision.{Verdict, bare}
use Rattle.rate.specs.Account.{guard, Judged, Settled, kept, spent, settled}
use Rattle.std.specs.Prelude.{Option}
use Rattle.std.specs.Prelude.{Some, None}
use Rattle.table.specs.Request.{Query, Request}
use Rattle.table.specs.Checks.{slots_ok, query_check, request_check}
use Rattle.table.specs.Rule.{Rule}
use Rattle.table.specs.Slots.{Columns, seek, carries, own, vacant, lowest_free}
use Rattle.table.specs.Calls.{Slot, none, at, keep, write, ruled, newcomer, slot_from, slot_for, judge_in, judge_call}
use Rattle.table.specs.Calls.{commit, acquire, held_at, held, peek_verdict, peek, clear, gate, toll}
use Rattle.rate.proofs.Cases.{guard_0, guard_not_0, settled_spent, settled_kept}

-- what becomes of a record, in its slot
module _ {R : Type 0} (i : ℕ) where
  pub ruled_kept : (v : Verdict) → ruled {R = R} i (kept v) ≡ keep v
  unfolding ruled
  ruled_kept v = refl

  pub ruled_spent : (v : Verdict) (held : R) → ruled i (spent v held) ≡ write v i held
  unfolding ruled
  ruled_spent v held = refl

-- only an admission writes
module _ {R : Type 0} (i : ℕ) (j : Judged R) where
  pub ruled_writes : eqb j.verdict.number 0 ≡ true → ruled i (settled j) ≡ write j.verdict i j.after
  ruled_writes e = ap (λ (s : Settled R). ruled i s) (settled_spent j e) ∙ ruled_spent i j.verdict j.after

  pub ruled_keeps : eqb j.verdict.number 0 ≡ false → ruled i (settled j) ≡ keep j.verdict
  ruled_keeps e = ap (λ (s : Settled R). ruled i s) (settled_kept j e) ∙ ruled_kept i j.verdict

module _ {C P R : Type 0} (U : Rule P R) (K : Columns C R) (c : C) where
  module _ (q : Query P) where
    -- the slot of an ask
    pub slot_own : {i : ℕ} → own K q.subscriber c ≡ Some i → slot_for U K q c ≡ at i (K.row c i)
    unfolding slot_for slot_from
    slot_own e = ap (λ (p : Option ℕ). slot_from U K q c p) e

    slot_newcomer : {p : Option ℕ} → own K q.subscriber c ≡ None → lowest_free U K q.setting q.moment c ≡ p → slot_for U K q c ≡ newcomer U q p
    unfolding slot_for slot_from
    slot_newcomer e f = ap (λ (p : Option ℕ). slot_from U K q c p) e ∙ ap (λ (p : Option ℕ). newcomer U q p) f

    pub slot_new :
        {i : ℕ} → own K q.subscriber c ≡ None → lowest_free U K q.setting q.moment c ≡ Some i →
        slot_for U K q c ≡ at i (U.fresh q.setting q.moment)
    unfolding newcomer
    slot_new e f = slot_newcomer e f

    pub slot_none : own K q.subscriber c ≡ None → lowest_free U K q.setting q.moment c ≡ None → slot_for U K q c ≡ none
    unfolding newcomer
    slot_none e f = slot_newcomer e f

    -- the slot goes by how many there are, their numbers and their records, and not by the newest moment
    slot_from_reads :
        (d : C) → K.slots c ≡ K.slots d → K.ids c ≡ K.ids d → K.row c ≡ K.row d → (p : Option ℕ) →
        slot_from U K q c p ≡ slot_from U K q d p
    unfolding slot_from lowest_free vacant
    slot_from_reads d slots ids row None =
        λ k. newcomer U q (seek (λ (j : ℕ). carries (ids k) 0 j || U.free q.setting q.moment (row k j)) (slots k))
    slot_from_reads d slots ids row (Some i) = λ k. at i (row k i)

    pub slot_reads :
        (d : C) → K.slots c ≡ K.slots d → K.ids c ≡ K.ids d → K.row c ≡ K.row d → slot_for U K q c ≡ slot_for U K q d
    unfolding slot_for own
    slot_reads d slots ids row =
        slot_from_reads d slots ids row (own K q.subscriber c)
        ∙ (λ k. slot_from U K q d (seek (carries (ids k) q.subscriber) (slots k)))

    -- the record of a look
    pub held_own : {i : ℕ} → own K q.subscriber c ≡ Some i → held U K q c ≡ K.row c i
    unfolding held held_at
    held_own e = ap (λ (p : Option ℕ). held_at U K q c p) e

    pub held_fresh : own K q.subscriber c ≡ None → held U K q c ≡ U.fresh q.setting q.moment
    unfolding held held_at
    held_fresh e = ap (λ (p : Option ℕ). held_at U K q c p) e

    pub peek_refused : eqb (query_check (gate U K q c)) 0 ≡ false → peek_verdict U K q c ≡ bare (query_check (gate U K q c))
    unfolding peek_verdict
    peek_refused h = guard_not_0 bare (query_check (gate U K q c)) (U.report q.setting q.moment (held U K q c)) h

    pub peek_reported :
        query_check (gate U K q c) ≡ 0 → peek_verdict U K q c ≡ U.report q.setting q.moment (held U K q c)
    unfolding peek_verdict
    peek_reported e = guard_0 bare (query_check (gate U K q c)) (U.report q.setting q.moment (held U K q c)) e

  module _ (r : Request P) where
    -- an ask judged
    pub judge_refused :
        eqb (request_check (toll U K r c)) 0 ≡ false → judge_call U K r c ≡ keep (bare (request_check (toll U K r c)))
    unfolding judge_call
    judge_refused h = guard_not_0 (λ n. keep (bare n)) (request_check (toll U K r c)) (judge_in U r (slot_for U K r.query c)) h

    judge_passed : {s : Slot R} → request_check (toll U K r c) ≡ 0 → slot_for U K r.query c ≡ s → judge_call U K r c ≡ judge_in U r s
    unfolding judge_call
    judge_passed e f =
        guard_0 (λ n. keep (bare n)) (request_check (toll U K r c)) (judge_in U r (slot_for U K r.query c)) e
        ∙ ap (λ (s : Slot R). judge_in U r s) f

    pub judge_full : request_check (toll U K r c) ≡ 0 → slot_for U K r.query c ≡ none → judge_call U K r c ≡ keep (bare 9)
    unfolding judge_in
    judge_full e f = judge_passed e f

    pub judge_at :
        {i : ℕ} {h : R} → request_check (toll U K r c) ≡ 0 → slot_for U K r.query c ≡ at i h →
        judge_call U K r c ≡ ruled i (settled (U.judge r.query.setting r.query.moment h r.cost))
    unfolding judge_in
    judge_at e f = judge_passed e f

-- what a ruling answers and leaves
module _ {C P R : Type 0} (K : Columns C R) (q : Query P) (c : C) where
  pub commit_keep : (v : Verdict) → commit K q c (keep v) ≡ record { answer = answered q.subscriber v; after = c }
  unfolding commit
  commit_keep v = refl

  pub commit_write :
      (v : Verdict) (i : ℕ) (held : R) →
      commit K q c (write v i held)
      ≡ record { answer = answered q.subscriber v; after = K.put c i q.subscriber q.moment held }
  unfolding commit
  commit_write v i held = refl

-- an ask is judged and committed; a look answers its verdict and leaves the columns
module _ {C P R : Type 0} (U : Rule P R) (K : Columns C R) (c : C) where
  pub acquire_commits : (r : Request P) → acquire U K r c ≡ commit K r.query c (judge_call U K r c)
  unfolding acquire
  acquire_commits r = refl

  pub peek_answers : (q : Query P) → (peek U K q c).answer ≡ answered q.subscriber (peek_verdict U K q c)
  unfolding peek
  peek_answers q = refl

  pub peek_checks :
      (q : Query P) → peek_verdict U K q c ≡ guard bare (query_check (gate U K q c)) (U.report q.setting q.moment (held U K q c))
  unfolding peek_verdict
  peek_checks q = refl

  pub peek_keeps : (q : Query P) → (peek U K q c).after ≡ c
  unfolding peek
  peek_keeps q = refl

-- a clear
module _ {C R : Type 0} (K : Columns C R) (c : C) where
  pub clear_done : slots_ok (K.slots c) ≡ true → clear K c ≡ record { answer = answered 0 (bare 0); after = K.zeros c }
  unfolding clear
  clear_done e = rw e

  pub clear_unfit : slots_ok (K.slots c) ≡ false → clear K c ≡ record { answer = answered 0 (bare 2); after = c }
  unfolding clear
  clear_unfit e = rw e
