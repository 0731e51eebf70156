-- The laws of a stream that is fed piece by piece (document 01, 'The tabbed text'), by the session that it stands for and the bytes of its line.
use Rattle.std.specs.Prelude.{◌≡◌, List, ◌++◌, ℕ, ◌≤◌, length}
use Rattle.table_gcra.specs.Table.{Table}
use Rattle.text_protocol.specs.Reply.{header}
use Rattle.text_session.specs.Session.{Lent}
use Rattle.text_session.specs.Stream.{State, said, after, start}
use Rattle.text_session.specs.Transcript.{transcript}
use Rattle.text_stream.specs.Running.{Session, Fed, Ready, Moved, state_of, started, ending_of}

pub record StreamLaws : Type 0 where
  -- a session starts before the first byte, whatever stands in the line's bytes, of which there are 128, and never holds more
  pub starts : (line : List ℕ) (t : Table) → state_of started line t ≡ start t
  pub ready_start : (line : List ℕ) → 128 ≤ length line → Ready started line
  pub held_most : {s : Session} {line : List ℕ} → Ready s line → s.held ≤ 128
  -- however the input is cut: two pieces, one fed after the other, come to what both together come to
  pub cut :
      (σ : State) (p q : List ℕ) {at : ℕ} {r r' : Fed} {line line' : List ℕ} {t t' : Table} {out out' out'' : List ℕ} →
      Moved (said σ p) (after σ p) at r line t out out' →
      Moved (said (state_of r.session line t) q) (after (state_of r.session line t) q) r.at r' line' t' out' out'' →
      Moved (said σ (p ++ q)) (after σ (p ++ q)) at r' line' t' out out''
  -- from the start to the input's end: the header, what is said of the text, and what is said at the end, are its transcript
  pub text_is :
      (text : List ℕ) (t : Table) → Lent t.table.ids t.numbers t.table.tats → (s : Session) (line : List ℕ) (t' : Table) →
      state_of s line t' ≡ after (start t) text → header ++ said (start t) text ++ ending_of s line ≡ transcript text
