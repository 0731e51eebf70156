-- The byte-wise machine gives the transcript of the whole. Whatever it has read, what it still says is what is to be said of
-- the lines that are left, the first of them with the bytes in front of which it keeps 128; each byte keeps this. It may be
-- fed in any pieces: what two pieces say is what the first says and then the second.
-- Assumes nothing.
use mathlib.Core.Path.{◌≡◌, refl, sym, ap, ◌∙◌}
use mathlib.Core.Bool.{Bool, true, false, cond}
use mathlib.Core.List.{List, [], ◌∷◌, ◌++◌, append_assoc}
use Prim.Native.Nat.{ℕ, zero, suc}
use lib.Dec.{eqb}
use lib.ListN.{take}
use Rattle.table_gcra.specs.Table.{Table}
use Rattle.text_tsv.specs.Text.{Line, lf, lines}
use Rattle.text_tsv.proofs.Lines.{ended_line, continued, unbegun, continued_none, lines_none, lines_lf, lines_other}
use Rattle.text_protocol.specs.Command.{most_line, line_command}
use Rattle.text_protocol.specs.Reply.{header}
use Rattle.text_protocol.proofs.Reading.{cut_off}
use Rattle.text_session.specs.Session.{unended, Lent}
use Rattle.text_session.specs.Transcript.{transcript}
use Rattle.text_session.specs.Stream.{State, kept, at_lf, says, moved, said, after, text_of, is_held, ending, start}
use Rattle.text_session.proofs.Told.{Right, Fit, rest, answer_right, unended_right, rest_none}

-- fed nothing
pub said_none : (σ : State) → said σ [] ≡ []
unfolding said
said_none σ = refl

pub after_none : (σ : State) → after σ [] ≡ σ
unfolding after
after_none σ = refl

-- fed in pieces
pub said_append : (σ : State) (a b : List ℕ) → said σ (a ++ b) ≡ said σ a ++ said (after σ a) b
unfolding said after
said_append σ [] b = refl
said_append σ (x ∷ a) b =
    rw (said_append (moved σ x) a b) (sym (append_assoc (says σ x) (said (moved σ x) a) (said (after (moved σ x) a) b)))

pub after_append : (σ : State) (a b : List ℕ) → after σ (a ++ b) ≡ after (after σ a) b
unfolding after
after_append σ [] b = refl
after_append σ (x ∷ a) b = after_append (moved σ x) a b

-- what is kept of more bytes depends on what was kept alone
pub cut_append : (n : ℕ) (a b : List ℕ) → take n (take n a ++ b) ≡ take n (a ++ b)
cut_append zero a b = refl
cut_append (suc n) [] b = refl
cut_append (suc n) (x ∷ a) b = ap (λ (l : List ℕ). x ∷ l) (cut_append n a b)

-- the machine keeps 128 bytes of the line that has begun
abbrev Holds : List ℕ → State → Type 0
Holds p σ = σ.held ≡ take most_line p

-- that is enough to tell at the LF what the line says
held_command : (p : List ℕ) (σ : State) → Holds p σ → line_command (ended_line σ.held) ≡ line_command (ended_line p)
held_command p σ h = ap (λ (l : List ℕ). line_command (ended_line l)) h ∙ cut_off p

-- and whether it has begun
held_some : (b : ℕ) (p : List ℕ) (σ : State) → Holds (b ∷ p) σ → is_held σ.held ≡ true
unfolding is_held
held_some b p σ h = rw h

held_none : (σ : State) → Holds [] σ → is_held σ.held ≡ false
unfolding is_held
held_none σ h = rw h

kept_holds : (p : List ℕ) (σ : State) (b : ℕ) → Holds p σ → Holds (p ++ (b ∷ [])) (kept σ (b ∷ []))
kept_holds p σ b h = ap (λ (l : List ℕ). take most_line (l ++ (b ∷ []))) h ∙ cut_append most_line p (b ∷ [])

-- what a machine still has to say, and the slots that it needs
unfoldable still : State → List Line → List ℕ
still σ ls = rest σ.stage σ.table ls

abbrev Fits : State → Type 0
Fits σ = Fit σ.stage σ.table

-- an LF answers the line
abbrev after_lf : State → State
after_lf σ = record { stage = (at_lf σ).stage; table = (at_lf σ).table; held = [] }

module _ (σ : State) (p : List ℕ) (fit : Fits σ) (h : Holds p σ) where
  line_right : Right (at_lf σ) (λ ls. still σ (ended_line p ∷ ls))
  unfolding still
  line_right = rw (held_command p σ h) (answer_right σ.table σ.stage fit (ended_line p))

  lf_still : (ls : List Line) → still σ (ended_line p ∷ ls) ≡ text_of (at_lf σ).reply ++ still (after_lf σ) ls
  unfolding still
  lf_still ls = sym (line_right.says ls)

  lf_fits : Fits (after_lf σ)
  lf_fits = line_right.fits

-- the end of the input
ending_by : (σ : State) {t : Bool} → is_held σ.held ≡ t → ending σ ≡ cond t (text_of (unended σ.stage)) []
unfolding ending
ending_by σ e = ap (λ (t : Bool). cond t (text_of (unended σ.stage)) []) e

ending_still : (σ : State) (p : List ℕ) → Holds p σ → ending σ ≡ still σ (continued p [])
unfolding still
ending_still σ [] h = ending_by σ (held_none σ h) ∙ sym (rest_none σ.table σ.stage) ∙ ap (still σ) (sym (unbegun []))
ending_still σ (b ∷ p) h =
    ending_by σ (held_some b p σ h)
    ∙ unended_right σ.table σ.stage (b ∷ p)
    ∙ ap (still σ) (sym (continued_none b p))

-- what is said of a text whose first line has begun with p
abbrev Streams : State → List ℕ → List ℕ → Type 0
Streams σ p s = said σ s ++ ending (after σ s) ≡ still σ (continued p (lines s))

module _ (σ : State) (p : List ℕ) (fit : Fits σ) (h : Holds p σ) (b : ℕ) (s : List ℕ) where
  streams_lf : eqb b lf ≡ true → Streams (after_lf σ) [] s → Streams σ p (b ∷ s)
  unfolding said after says moved
  streams_lf e ih =
      rw (e, lines_lf p b s e, lf_still σ p fit h (lines s), append_assoc)
      (ap (λ (l : List ℕ). text_of (at_lf σ).reply ++ l) (ih ∙ ap (still (after_lf σ)) (unbegun (lines s))))

  streams_other : eqb b lf ≡ false → Streams (kept σ (b ∷ [])) (p ++ (b ∷ [])) s → Streams σ p (b ∷ s)
  unfolding said after says moved still
  streams_other e ih = rw (e, lines_other p b s e) ih

streams : (s : List ℕ) (σ : State) (p : List ℕ) → Fits σ → Holds p σ → Streams σ p s
unfolding said after
streams [] σ p fit h = ending_still σ p h ∙ ap (λ (ls : List Line). still σ (continued p ls)) (sym lines_none)
streams (b ∷ s) σ p fit h = by (eqb b lf) refl (streams s)
  where
    by :
        (t : Bool) → eqb b lf ≡ t → ((τ : State) (q : List ℕ) → Fits τ → Holds q τ → Streams τ q s) →
        Streams σ p (b ∷ s)
    by true e ih = streams_lf σ p fit h b s e (ih (after_lf σ) [] (lf_fits σ p fit h) refl)
    by false e ih = streams_other σ p fit h b s e (ih (kept σ (b ∷ [])) (p ++ (b ∷ [])) fit (kept_holds p σ b h))

pub streamed :
    (t : Table) (text : List ℕ) → Lent t.table.ids t.numbers t.table.tats →
    header ++ (said (start t) text ++ ending (after (start t) text)) ≡ transcript text
unfolding transcript still rest
streamed t text lent =
    ap (λ (l : List ℕ). header ++ l)
    (streams text (start t) [] lent refl
    ∙ ap (still (start t)) (unbegun (lines text)))
