-- A whole text: the room that it needs, and that header, body and end come to its transcript.
-- Assumes nothing.
use mathlib.Core.Path.{◌≡◌, ap, subst, ◌∙◌}
use mathlib.Core.List.{List, ◌++◌}
use Prim.Native.Nat.{ℕ, ◌+◌, ◌-◌, ◌/◌, ◌≤◌, ◌<◌, min}
use native.Mathlib.Nat.{div-lt_iff_lt-mul, le-div_iff_mul-le}
use native.Mathlib.Omega.{arith}
use lib.ListN.{length, length-append}
use lib.Seq.{sets}
use borrow.Author.Tests.{le-leb, lt-leb, leb-true, leb-false}
use Rattle.ticks.proofs.Tests.{by_leb}
use Rattle.table_gcra.specs.Table.{Table}
use Rattle.text_protocol.specs.Reply.{header}
use Rattle.text_protocol.proofs.Lengths.{header_length}
use Rattle.text_protocol.proofs.Putting.{Put, put_length}
use Rattle.text_session.specs.Session.{text_slots, Lent}
use Rattle.text_session.specs.Stream.{State, said, after, start, ending, endings}
use Rattle.text_session.specs.Transcript.{transcript}
use Rattle.text_session.proofs.Lengths.{said_most, ending_most}
use Rattle.text_stream.specs.Running.{Session, state_of, started, ending_of}
use Rattle.text_stream.proofs.Laws.{stream_laws}
use Rattle.std.specs.Prelude.{Result, Err}
use Rattle.text_transcript.specs.declared.TooShort.{TooShort}
use Rattle.text_transcript.specs.declared.TooShort.TheVariants.{Columns, Output}
use Rattle.text_transcript.specs.Whole.{room, transcribed, written, lent_of, Done}

module _ (text out : List ℕ) (fits : room text ≤ length out) where
  pub header_fits : length header ≤ length out
  header_fits = omega arith

  -- after the header
  pub body_fits :
      {w : ℕ} {o : List ℕ} → Put out 0 header w o → (σ : State) → w + length (said σ text) ≤ length o
  body_fits p σ = omega (arith, p.place, put_length p, said_most σ text)

  -- and after the body
  pub end_fits :
      (σ : State) {w : ℕ} {o : List ℕ} → Put out 0 (header ++ said σ text) w o → (τ : State) → w + length (ending τ) ≤ length o
  end_fits σ p τ = omega (arith, p.place, put_length p, said_most σ text, ending_most τ, length-append header (said σ text))

-- a session that starts stands for the start
module _ (text : List ℕ) (t : Table) {s : Session} (e : s ≡ started) (line : List ℕ) where
  start_is : state_of s line t ≡ start t
  start_is = ap (λ (x : Session). state_of x line t) e ∙ stream_laws.starts line t

  module _ (s' : Session) (line' : List ℕ) {t' : Table} (m : state_of s' line' t' ≡ after (state_of s line t) text) where
    leads : state_of s' line' t' ≡ after (start t) text
    leads = m ∙ ap (λ (σ : State). after σ text) start_is

    pub table_after : t' ≡ (after (start t) text).table
    table_after = ap (λ (σ : State). σ.table) leads

    pub text_after :
        Lent t.table.ids t.numbers t.table.tats → header ++ said (state_of s line t) text ++ ending_of s' line' ≡ transcript text
    text_after lent =
        ap (λ (σ : State). header ++ said σ text ++ ending_of s' line') start_is ∙ stream_laws.text_is text t lent s' line' t' leads

-- the header is put at the start
pub header_put : (out : List ℕ) {w : ℕ} {o : List ℕ} → w ≡ length header → o ≡ sets out 0 header → Put out 0 header w o
header_put out e f = record { place = omega arith; bytes = f }

-- what is put is what it is equal to
pub put_as : {l : List ℕ} {at : ℕ} {s t : List ℕ} {w : ℕ} {out : List ℕ} → s ≡ t → Put l at s w out → Put l at t w out
put_as {l} {at} {w = w} {out = out} e p = subst (λ (x : List ℕ). Put l at x w out) e p

-- the tests of `transcribe`
module _ (text : List ℕ) (t : Table) (out : List ℕ) where
  abbrev pub as_it_was : Result ℕ TooShort → Done
  as_it_was answer = record { answer = answer; left = lent_of t out }

  short_ids : length t.table.ids < text_slots → transcribed text t out ≡ as_it_was (Err Columns)
  unfolding transcribed
  short_ids h = rw (lt-leb _ _ h)

  short_numbers : text_slots ≤ length t.table.ids → length t.numbers < text_slots → transcribed text t out ≡ as_it_was (Err Columns)
  unfolding transcribed
  short_numbers i h = rw (le-leb _ _ i, lt-leb _ _ h)

  short_tats :
      text_slots ≤ length t.table.ids → text_slots ≤ length t.numbers → length t.table.tats < text_slots →
      transcribed text t out ≡ as_it_was (Err Columns)
  unfolding transcribed
  short_tats i n h = rw (le-leb _ _ i, le-leb _ _ n, lt-leb _ _ h)

  -- the shortest column is too short
  pub short_columns :
      min (min (length t.table.ids) (length t.numbers)) (length t.table.tats) < text_slots → transcribed text t out ≡ as_it_was (Err Columns)
  short_columns h =
      by_leb text_slots (length t.table.ids)
      (λ i.
      by_leb text_slots (length t.numbers)
      (λ n. short_tats (leb-true _ _ i) (leb-true _ _ n) (omega (arith, leb-true _ _ i, leb-true _ _ n)))
      (λ n. short_numbers (leb-true _ _ i) (leb-false _ _ n)))
      (λ i. short_ids (leb-false _ _ i))

  module _ (i : text_slots ≤ length t.table.ids) (n : text_slots ≤ length t.numbers) (j : text_slots ≤ length t.table.tats) where
    pub short_out : length out < room text → transcribed text t out ≡ as_it_was (Err Output)
    unfolding transcribed
    short_out h = rw (le-leb _ _ i, le-leb _ _ n, le-leb _ _ j, lt-leb _ _ h)

    pub long_enough : room text ≤ length out → transcribed text t out ≡ written text t out
    unfolding transcribed
    long_enough h = rw (le-leb _ _ i, le-leb _ _ n, le-leb _ _ j, le-leb _ _ h)

-- the room, as a division finds it
module _ (text out : List ℕ) {n : ℕ} (counted : n ≡ endings text) where
  pub too_short : 140 ≤ length out → (length out - 140) / 105 < n → length out < room text
  too_short l h =
      let past = (div-lt_iff_lt-mul {k = 105} (omega arith)).0 h in
      omega (arith, past, header_length)

  pub enough : 140 ≤ length out → n ≤ (length out - 140) / 105 → room text ≤ length out
  enough l h =
      let within = (le-div_iff_mul-le {k = 105} (omega arith)).0 h in
      omega (arith, within, header_length)

pub least_room : (text out : List ℕ) → length out < 140 → length out < room text
least_room text out h = omega (arith, header_length)

pub lent_same :
    {t t' : Table} {out out' : List ℕ} → t ≡ t' → out ≡ out' → lent_of t out ≡ lent_of t' out'
lent_same e o k = lent_of (e k) (o k)
