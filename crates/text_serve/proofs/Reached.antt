-- How far a run has come: a piece more leads on, since what is said of two pieces is what is said of the first and then of the
-- second; and what it comes to.
-- Assumes nothing.
use Rattle.std.proofs.Common.{◌≡◌, ℕ, ◌+◌, ◌-◌, ◌≤◌, List, [], ◌++◌, length, refl, sym, ap, subst, ◌∙◌, add-zero, arith, length-append}
use Rattle.table_gcra.specs.Table.{Table}
use Rattle.text_protocol.specs.Reply.{header}
use Rattle.text_session.specs.Session.{Lent}
use Rattle.text_session.specs.Stream.{State, said, after, ending}
use Rattle.text_session.proofs.LineEnds.{ending_any}
use Rattle.text_session.proofs.Streamed.{said_none, after_none, said_append, after_append, streamed}
use Rattle.text_stream.specs.Running.{Session, state_of, started, no_table, ending_of}
use Rattle.text_io.specs.Piece.{Counted, Written}
use Rattle.text_io.proofs.Counting.{counted_as, counted_none, counted_on}
use Rattle.std.specs.Prelude.{Result, Ok, Err, IsErrAnd}
use Rattle.text_serve.specs.declared.error.RunError.{RunError}
use Rattle.text_serve.specs.declared.error.RunError.TheVariants.{Unread, TooLong, Unwritten}
use Rattle.text_serve.specs.Serving.{Finished, Account, account_of, start_of, too_long, Ran, Answers, Serves}
use Rattle.text_serve.specs.Laws.{Reached}

pub reached_start :
    (a : Account) {turns : ℕ} {s : Session} (line : List ℕ) → too_long ≤ turns → s ≡ started →
    Reached a turns (state_of s line a.table) a.taken a.sent
reached_start a line h e =
    record {
      input = [];
      turned = omega arith;
      state_is = ap (λ (x : Session). state_of x line a.table) e ∙ sym (after_none (start_of a));
      taken_is = counted_none a.taken;
      sent_is = counted_as (ap (λ (l : List ℕ). length l) (sym (said_none (start_of a)))) (counted_none a.sent);
    }

module _ {a : Account} {turns : ℕ} {σ : State} {taken sent : ℕ} (r : Reached a turns σ taken sent) where
  -- a piece that was read and answered
  pub reached_on :
      (p : List ℕ) {τ : State} {taken' sent' : ℕ} → 1 ≤ length p → τ ≡ after σ p →
      Counted taken (length p) taken' → Counted sent (length (said σ p)) sent' → Reached a (turns - 1) τ taken' sent'
  reached_on p h e t s =
      let σ₀ = start_of a in
      let so_far = said σ₀ r.input in
      record {
        input = r.input ++ p;
        turned = omega (arith, length-append r.input p, r.turned);
        state_is = e ∙ ap (λ (x : State). after x p) r.state_is ∙ sym (after_append σ₀ r.input p);
        taken_is = counted_as (sym (length-append r.input p)) (counted_on r.taken_is t);
        sent_is = counted_as
            (ap (λ (x : State). length so_far + length (said x p)) r.state_is
            ∙ sym (length-append so_far (said (after σ₀ r.input) p))
            ∙ ap (λ (l : List ℕ). length l) (sym (said_append σ₀ r.input p)))
            (counted_on r.sent_is s);
      }

  -- a run that reads no more
  module _ {taken' : ℕ} (none : Counted taken 0 taken') where
    stopped :
        (text : List ℕ → List ℕ) {least sent' : ℕ} → least ≤ length r.input → Counted a.sent (length (text r.input)) sent' →
        Ran least text a (account_of σ.table taken' sent')
    stopped text h c =
        record {
          input = r.input;
          at_least = h;
          taken_is = counted_as (add-zero (length r.input)) (counted_on r.taken_is none);
          sent_is = c;
          table_is = ap (λ (x : State). x.table) r.state_is;
        }

    pub unended :
        {least : ℕ} → least ≤ length r.input →
        Ran least (λ input. said (start_of a) input) a (account_of σ.table taken' sent)
    unended h = stopped (λ input. said (start_of a) input) h r.sent_is

    ended :
        {sent' : ℕ} → Counted sent (length (ending σ)) sent' →
        Ran 0 (λ input. said (start_of a) input ++ ending (after (start_of a) input)) a (account_of σ.table taken' sent')
    ended c =
        let so_far = said (start_of a) r.input in
        stopped (λ input. said (start_of a) input ++ ending (after (start_of a) input)) (omega arith)
        (counted_as
        (ap (λ (x : State). length so_far + length (ending x)) r.state_is
        ∙ sym (length-append so_far (ending (after (start_of a) r.input))))
        (counted_on r.sent_is c))

-- an error that a `?` hands on: nothing is promised of a write that failed, and a read that failed ends the run
on_error :
    (run : Result (Unit {0}) RunError) {error : RunError} (P : Result (Unit {0}) RunError → Type 0) →
    IsErrAnd run (λ e. e ≡ error) → P (Err error) → P run
on_error (Ok done) P h p = absurd h
on_error (Err e) P h p = subst (λ (x : RunError). P (Err x)) (sym h) p

pub on_unwritten :
    (run : Result (Unit {0}) RunError) (ended unended long : Type 0) → IsErrAnd run (λ e. e ≡ Unwritten) →
    Finished run ended unended long
unfolding Finished
on_unwritten run ended unended long h = on_error run (λ (r : Result (Unit {0}) RunError). Finished r ended unended long) h tt

pub on_unread :
    (run : Result (Unit {0}) RunError) (ended unended long : Type 0) → IsErrAnd run (λ e. e ≡ Unread) → unended →
    Finished run ended unended long
unfolding Finished
on_unread run ended unended long h p = on_error run (λ (r : Result (Unit {0}) RunError). Finished r ended unended long) h p

-- as `close` leaves it
pub closed :
    {a : Account} {turns : ℕ} (s : Session) (line : List ℕ) {t : Table} {taken taken' sent : ℕ} →
    Reached a turns (state_of s line t) taken sent → Counted taken 0 taken' → (run : Result (Unit {0}) RunError) (out : List ℕ) (sent' : ℕ) →
    Finished run (Written (ending_of s line) out sent sent') ⊥ ⊥ → Answers run a (account_of t taken' sent')
unfolding Finished
closed s line {t} r none (Ok done) out sent' f =
    ended r none (counted_as (ap (λ (l : List ℕ). length l) (ending_any (state_of s line no_table) t)) f.sent_is)
closed s line r none (Err Unread) out sent' f = absurd f
closed s line r none (Err TooLong) out sent' f = absurd f
closed s line r none (Err Unwritten) out sent' f = tt

-- with the header in front
module _ (a : Account) (lent : Lent a.table.table.ids a.table.numbers a.table.table.tats) {sent : ℕ} (h : Counted a.sent (length header) sent) where
  abbrev begun : Account
  begun = account_of a.table a.taken sent

  headed :
      {least : ℕ} {text whole : List ℕ → List ℕ} {b : Account} → ((input : List ℕ) → header ++ text input ≡ whole input) →
      Ran least text begun b → Ran least whole a b
  headed {text = text} is ran =
      record {
        input = ran.input;
        at_least = ran.at_least;
        taken_is = ran.taken_is;
        sent_is = counted_as
            (sym (length-append header (text ran.input)) ∙ ap (λ (l : List ℕ). length l) (is ran.input))
            (counted_on h ran.sent_is);
        table_is = ran.table_is;
      }

  pub served : (run : Result (Unit {0}) RunError) (b : Account) → Answers run begun b → Serves run a b
  unfolding Finished
  served (Ok done) b f = headed (λ input. streamed a.table input lent) f
  served (Err Unread) b f = headed (λ input. refl) f
  served (Err TooLong) b f = headed (λ input. refl) f
  served (Err Unwritten) b f = tt
