-- What is left is what would be admitted now, at the same moment, on the columns as the call left them.
-- Assumes nothing.
use mathlib.Core.Path.{◌≡◌, sym, ap, subst, ◌∙◌}
use mathlib.Core.Logic.{◌⊎◌, inl, inr}
use mathlib.Core.Bool.{true, false≢true}
use Prim.Native.Nat.{ℕ, ◌≤◌, ◌<◌}
use native.Mathlib.Omega.{arith}
use lib.Dec.{eqb, leb}
use borrow.Author.Tests.{le-leb, lt-leb, ne_eqb, le-ltb}
use Rattle.rate.specs.declared.answer.Numbers.{Numbers}
use Rattle.rate.specs.Answer.{answered}
use Rattle.rate.specs.Decision.{Verdict, remaining, reported}
use Rattle.rate.specs.Account.{Account}
use Rattle.rate.specs.Balanced.{Balanced}
use Rattle.rate.proofs.Answers.{answered_left, reported_left}
use Rattle.rate.proofs.Cases.{report_sound}
use Rattle.rate.proofs.Laws.{record_laws}
use Rattle.rate.proofs.Left.{remaining_most}
use Rattle.std.specs.Prelude.{Option}
use Rattle.std.specs.Prelude.{Some, None}
use Rattle.table.specs.Request.{Query, Request}
use Rattle.table.specs.Rule.{rule_of}
use Rattle.table.specs.Slots.{Columns, seek, carries, vacant}
use Rattle.table.specs.Calls.{acquire, peek, gate, toll}
use Rattle.table.specs.Passed.{Asked, Payable}
use Rattle.table.specs.Places.{Own, Unknown, Vacant}
use Rattle.table.specs.Stored.{Stored}
use Rattle.table.proofs.Seek.{Sought, sought}
use Rattle.table.proofs.Writes.{admission_writes_one, taken_place, denied_changes_nothing}
use Rattle.law_calls.specs.Grounds.{Ground, stopped, throttled, admitted, admitted_new}
use Rattle.law_calls.specs.PeekGrounds as looks
use Rattle.law_calls.specs.PeekGrounds.{PeekGround, known, unknown}
use Rattle.law_calls.specs.Peek.{SameReport}
use Rattle.law_calls.specs.Left.{asking, LeftNow}
use Rattle.law_calls.proofs.Numbers.{decides, denies, grounds}
use Rattle.law_calls.proofs.Peek.{peek_own, peek_unknown, peek_after_admission, peek_of_denied}
use Rattle.law_calls.proofs.PeekNumbers.{peek_grounds}

module _ {C P R : Type 0} {A : Account P R} (L : Balanced A) (K : Columns C R) (q : Query P) (c : C) (a : Asked (gate (rule_of A) K q c)) where
  payable : (cost : ℕ) → 1 ≤ cost → cost ≤ (A.plan q.setting).burst → Payable (toll (rule_of A) K (asking q cost) c)
  payable cost some most =
      record {
        asked = a;
        cost = ne_eqb cost 0 (λ z. omega arith);
        burst = le-ltb (A.plan q.setting).burst cost most;
      }

  -- with a slot of its own
  module _ (i : ℕ) (o : Own K q c i) (s : A.fault q.setting q.moment (K.row c i) ≡ 0) where
    abbrev backlog : ℕ
    backlog = A.backlog q.setting q.moment (K.row c i)

    admits_left : (cost : ℕ) → A.admits q.setting q.moment (K.row c i) cost ≡ leb cost (remaining (A.plan q.setting) backlog)
    admits_left = (record_laws L q.setting q.moment a.plan (K.row c i) s).admits_left

    own_left : LeftNow A K q c (remaining (A.plan q.setting) backlog)
    own_left =
        let most = remaining_most (A.plan q.setting) backlog in
        record {
          most = most;
          enough = λ cost some h.
              decides A K (asking q cost) c L (admitted (payable cost some (omega arith)) i o s (admits_left cost ∙ le-leb _ _ h));
          beyond = λ cost h within.
              denies A K (asking q cost) c L (payable cost (omega arith) within) i o s (admits_left cost ∙ lt-leb _ _ h);
        }

    peek_left : (peek (rule_of A) K q c).answer.left ≡ remaining (A.plan q.setting) backlog
    peek_left =
        ap (λ (x : Numbers). x.left)
        (peek_own (rule_of A) K q c i a o ∙ ap (λ (v : Verdict). answered q.subscriber v) (report_sound A q.setting q.moment (K.row c i) s))
        ∙ answered_left q.subscriber (reported (A.plan q.setting) q.moment backlog) ∙ reported_left (A.plan q.setting) q.moment backlog

    pub peek_own_left : LeftNow A K q c (peek (rule_of A) K q c).answer.left
    peek_own_left = subst (LeftNow A K q c) (sym peek_left) own_left

  -- without one, with a free slot: the whole burst
  peek_new_left : (i : ℕ) → Unknown K q c → Vacant (rule_of A) K q c i → LeftNow A K q c (peek (rule_of A) K q c).answer.left
  peek_new_left i u v =
      let verdict : Verdict = record { number = 0; left = (A.plan q.setting).burst; reset = q.moment; wait = 0 } in
      let whole : (peek (rule_of A) K q c).answer.left ≡ (A.plan q.setting).burst =
      ap (λ (x : Numbers). x.left) (peek_unknown L K q c a u) ∙ answered_left q.subscriber verdict in
      record {
        most = omega arith;
        enough = λ cost some h. decides A K (asking q cost) c L (admitted_new (payable cost some (omega arith)) i u v);
        beyond = λ cost h within. absurd (omega arith);
      }

-- of a look by a subscriber that has a slot, or for whom one is free
module _ {C P R : Type 0} {A : Account P R} (L : Balanced A) (K : Columns C R) (q : Query P) (c : C) (i : ℕ) (within : i < K.slots c) where
  known_left :
      carries (K.ids c) q.subscriber i ≡ true → PeekGround A K q c 0 → LeftNow A K q c (peek (rule_of A) K q c).answer.left
  known_left e (known a j o s) = peek_own_left L K q c a j o s
  known_left e (unknown a u) = absurd (false≢true (sym (u i within) ∙ e))
  known_left e (looks.stopped h) = elim h [ ]

  -- the lowest free slot
  in_place :
      Asked (gate (rule_of A) K q c) → Unknown K q c → vacant (rule_of A) K q.setting q.moment c i ≡ true → (p : Option ℕ) →
      Sought (vacant (rule_of A) K q.setting q.moment c) (K.slots c) p → LeftNow A K q c (peek (rule_of A) K q c).answer.left
  in_place a u e None full = absurd (false≢true (sym (full i within) ∙ e))
  in_place a u e (Some j) v = peek_new_left L K q c a j u v

  vacant_left :
      vacant (rule_of A) K q.setting q.moment c i ≡ true → PeekGround A K q c 0 → LeftNow A K q c (peek (rule_of A) K q c).answer.left
  vacant_left e (known a j o s) = peek_own_left L K q c a j o s
  vacant_left e (unknown a u) =
      in_place a u e (seek (vacant (rule_of A) K q.setting q.moment c) (K.slots c))
      (sought (vacant (rule_of A) K q.setting q.moment c) (K.slots c))
  vacant_left e (looks.stopped h) = elim h [ ]

  pub peek_left_now :
      (carries (K.ids c) q.subscriber i ≡ true) ⊎ (vacant (rule_of A) K q.setting q.moment c i ≡ true) →
      (peek (rule_of A) K q c).answer.number ≡ 0 → LeftNow A K q c (peek (rule_of A) K q c).answer.left
  peek_left_now (inl e) n = known_left e (peek_grounds A K q c L n)
  peek_left_now (inr e) n = vacant_left e (peek_grounds A K q c L n)

-- of an ask
module _ {C P R : Type 0} {A : Account P R} (L : Balanced A) (K : Columns C R) (S : Stored K) (r : Request P) (c : C) where
  admitted_left :
      (acquire (rule_of A) K r c).answer.number ≡ 0 →
      LeftNow A K r.query (acquire (rule_of A) K r c).after (acquire (rule_of A) K r c).answer.left
  admitted_left e =
      let seen = peek_after_admission L K S r c e in
      let taken = admission_writes_one (rule_of A) K r c e in
      let place = taken_place (rule_of A) K r c S taken in
      subst (LeftNow A K r.query (acquire (rule_of A) K r c).after) (ap (λ (x : Numbers). x.left) seen)
      (peek_left_now L K r.query (acquire (rule_of A) K r c).after taken.place place.0 (inl place.1) (ap (λ (x : Numbers). x.number) seen ∙ e))

  throttled_left :
      Ground A K r c 8 → (acquire (rule_of A) K r c).after ≡ c → SameReport A K r c →
      LeftNow A K r.query (acquire (rule_of A) K r c).after (acquire (rule_of A) K r c).answer.left
  throttled_left (throttled p i o s a e) after same = rw (after, ← same.left) (peek_own_left L K r.query c p.asked i o s)
  throttled_left (stopped h) after same = elim h [ ]

  pub acquire_left_now :
      ((acquire (rule_of A) K r c).answer.number ≡ 0) ⊎ ((acquire (rule_of A) K r c).answer.number ≡ 8) →
      LeftNow A K r.query (acquire (rule_of A) K r c).after (acquire (rule_of A) K r c).answer.left
  acquire_left_now (inl e) = admitted_left e
  acquire_left_now (inr e) =
      throttled_left (grounds A K r c L e)
      (denied_changes_nothing (rule_of A) K r c (ap (λ (n : ℕ). eqb n 0) e)) (peek_of_denied L K r c e)
