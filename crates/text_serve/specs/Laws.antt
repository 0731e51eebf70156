-- The laws of a whole run: how far it has come after each piece, and what it comes to.
use Rattle.std.specs.Prelude.{◌≡◌, List, ◌++◌, ℕ, ◌+◌, ◌-◌, ◌≤◌, length, Result, Ok, Err}
use Rattle.text_protocol.specs.Reply.{header}
use Rattle.text_session.specs.Session.{Lent}
use Rattle.text_session.specs.Stream.{State, said, after}
use Rattle.text_session.specs.Transcript.{transcript}
use Rattle.text_io.specs.Piece.{Counted}
use Rattle.text_serve.specs.declared.error.RunError.{RunError}
use Rattle.text_serve.specs.declared.error.RunError.TheVariants.{Unread, TooLong}
use Rattle.text_serve.specs.Serving.{Account, account_of, start_of, too_long, Ran, Answers, Serves}

-- how far a run has come, with so many turns left: what was read so far is an input, of which each turn read a byte at least
pub record Reached (a : Account) (turns : ℕ) (σ : State) (taken sent : ℕ) : Type 0 where
  pub input : List ℕ
  pub turned : too_long ≤ turns + length input
  pub state_is : σ ≡ after (start_of a) input
  pub taken_is : Counted a.taken (length input) taken
  pub sent_is : Counted a.sent (length (said (start_of a) input)) sent

pub record RunLaws (a : Account) : Type 0 where
  -- a run starts with 2^64 − 1 turns, and a piece that was read and answered leads on
  pub reached_start : Reached a 18446744073709551615 (start_of a) a.taken a.sent
  pub reached_on :
      {turns : ℕ} {σ : State} {taken sent : ℕ} → Reached a turns σ taken sent → (p : List ℕ) {τ : State} {taken' sent' : ℕ} →
      1 ≤ length p → τ ≡ after σ p → Counted taken (length p) taken' → Counted sent (length (said σ p)) sent' →
      Reached a (turns - 1) τ taken' sent'
  -- the header and then the answers are the whole run
  pub served :
      Lent a.table.table.ids a.table.numbers a.table.table.tats → {sent : ℕ} → Counted a.sent (length header) sent → (run : Result (Unit {0}) RunError) (b : Account) →
      Answers run (account_of a.table a.taken sent) b → Serves run a b
  -- what a run comes to that ended with the input, that could not read on, and that was too long for it
  pub ended : {b : Account} → Serves (Ok tt) a b → Ran 0 transcript a b
  pub unended : {b : Account} → Serves (Err Unread) a b → Ran 0 (λ input. header ++ said (start_of a) input) a b
  pub too_long : {b : Account} → Serves (Err TooLong) a b → Ran 18446744073709551615 (λ input. header ++ said (start_of a) input) a b
