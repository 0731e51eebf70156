-- A session from its start on: what is said of two pieces is what is said of the first and then of the second.
-- Assumes nothing.
use mathlib.Core.Path.{◌≡◌, sym, ap, subst, ◌∙◌}
use mathlib.Core.List.{List, ◌++◌, append_assoc}
use Prim.Native.Nat.{ℕ, ◌+◌, ◌≤◌}
use native.Mathlib.Omega.{arith}
use lib.ListN.{length, length-append}
use lib.Seq.{sets}
use Rattle.table_gcra.specs.Table.{Table}
use Rattle.text_tsv.proofs.Scanning.{sets_append}
use Rattle.text_protocol.specs.Reply.{header}
use Rattle.text_session.specs.Session.{Lent}
use Rattle.text_session.specs.Stream.{State, said, after, start, ending}
use Rattle.text_session.specs.Transcript.{transcript}
use Rattle.text_session.proofs.LineEnds.{ending_any}
use Rattle.text_session.proofs.Streamed.{said_append, after_append, streamed}
use Rattle.text_session.proofs.Turning.{bounded_first}
use Rattle.text_stream.specs.declared.Stream.{Stream}
use Rattle.text_stream.specs.Running.{Session, Fed, Ready, Moved, session_of, state_of, started, no_table, ending_of}

-- a line's buffer for a session that starts
pub ready_start : (s : Session) (line : List ℕ) → s ≡ started → 128 ≤ length line → Ready s line
ready_start s line e h =
    subst (λ (x : Session). Ready x line) (sym e) (record { bounded = bounded_first; held_within = omega arith; line_enough = h })

-- a stream is ready
pub ready_in : (s : Stream) → Ready (session_of s) s.line
ready_in s = record { bounded = s.bounded; held_within = s.held_within; line_enough = s.line_enough }

pub cut :
    (σ : State) (p q : List ℕ) {at : ℕ} {r r' : Fed} {line line' : List ℕ} {t t' : Table} {out out' out'' : List ℕ} →
    Moved (said σ p) (after σ p) at r line t out out' →
    Moved (said (state_of r.session line t) q) (after (state_of r.session line t) q) r.at r' line' t' out' out'' →
    Moved (said σ (p ++ q)) (after σ (p ++ q)) at r' line' t' out out''
cut σ p q {at} {r} {line = line} {t = t} {out} {out'} m n =
    let first = said σ p in
    let second = said (state_of r.session line t) q in
    let text = said_append σ p q ∙ ap (λ (x : State). first ++ said x q) (sym m.state_is) in
    record {
      state_is = n.state_is ∙ ap (λ (x : State). after x q) m.state_is ∙ sym (after_append σ p q);
      at_is = omega (arith, n.at_is, m.at_is, ap (λ (l : List ℕ). length l) text, length-append first second);
      out_is =
          n.out_is ∙ ap (λ (k : ℕ). sets out' k second) m.at_is
          ∙ ap (λ (o : List ℕ). sets o (at + length first) second) m.out_is
          ∙ sym (sets_append out at first second) ∙ ap (λ (l : List ℕ). sets out at l) (sym text);
      ready = n.ready;
      lent = n.lent;
    }

pub text_is :
    (text : List ℕ) (t : Table) → Lent t.table.ids t.numbers t.table.tats → (s : Session) (line : List ℕ) (t' : Table) →
    state_of s line t' ≡ after (start t) text → header ++ said (start t) text ++ ending_of s line ≡ transcript text
text_is text t lent s line t' leads =
    let ending_is = sym (ending_any (state_of s line t') no_table) ∙ ap (λ (σ : State). ending σ) leads in
    ap (λ (l : List ℕ). header ++ said (start t) text ++ l) ending_is
    ∙ append_assoc header (said (start t) text) (ending (after (start t) text))
    ∙ streamed t text lent
