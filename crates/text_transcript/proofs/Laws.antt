-- The page of laws holds: the cases of the definition with their numbers, and the transcript as header, body and end.
-- Assumes nothing.
use mathlib.Core.Path.{◌≡◌, ap, ◌∙◌}
use mathlib.Core.List.{List, ◌++◌}
use Prim.Native.Nat.{ℕ, ◌+◌, ◌*◌, ◌≤◌}
use native.Mathlib.Omega.{arith}
use lib.ListN.{length, drop, replicate, length-append, length-replicate}
use lib.Seq.{sets, sets-eq}
use Rattle.std.specs.Prelude.{Ok}
use Rattle.table_gcra.specs.Table.{Table, table_of}
use Rattle.text_protocol.specs.Reply.{header}
use Rattle.text_protocol.proofs.Lengths.{header_length}
use Rattle.text_session.specs.Session.{Lent}
use Rattle.text_session.specs.Stream.{said, after, start, ending, endings}
use Rattle.text_session.specs.Transcript.{transcript}
use Rattle.text_session.proofs.Lengths.{said_most, ending_most}
use Rattle.text_session.proofs.Streamed.{streamed}
use Rattle.text_transcript.specs.Whole.{lent_of}
use Rattle.text_transcript.specs.Laws.{TranscriptLaws}
use Rattle.text_transcript.proofs.Entire as entire

-- a table that any run fits
abbrev some_table : Table
some_table = table_of (replicate 1024 0) (replicate 1024 0) (replicate 1024 0) 0

some_lent : Lent some_table.table.ids some_table.numbers some_table.table.tats
some_lent =
    let long = length-replicate {A = ℕ} 1024 0 in
    record { in_ids = omega (arith, long); in_numbers = omega (arith, long); in_tats = omega (arith, long) }

at_most : (text : List ℕ) → length (transcript text) ≤ 35 + 105 + 105 * endings text
at_most text =
    let body = said (start some_table) text in
    let end = ending (after (start some_table) text) in
    omega (
      arith,
      ap (λ (l : List ℕ). length l) (streamed some_table text some_lent),
      length-append header (body ++ end),
      length-append body end,
      header_length,
      said_most (start some_table) text,
      ending_most (after (start some_table) text),
    )

-- at the output's start
at_the_start : (text out : List ℕ) → length text ≤ length out → sets out 0 text ≡ text ++ drop (length text) out
at_the_start text out h =
    let same : 0 + length text ≡ length text = omega arith in
    sets-eq text out 0 (omega arith) ∙ ap (λ (k : ℕ). text ++ drop k out) same

module _ (text : List ℕ) (t : Table) (out : List ℕ) where
  pub transcript_laws : TranscriptLaws text t out
  transcript_laws =
      record {
        short_ids = λ h. entire.short_columns text t out (omega arith);
        short_numbers = λ h. entire.short_columns text t out (omega arith);
        short_tats = λ h. entire.short_columns text t out (omega arith);
        short_output = λ i n j h. entire.short_out text t out i n j (omega (arith, h, header_length));
        whole = λ i n j h.
            entire.long_enough text t out i n j (omega (arith, h, header_length))
            ∙ ap
            (λ (l : List ℕ). record { answer = Ok (length (transcript text)); left = lent_of (after (start t) text).table l })
            (at_the_start (transcript text) out (omega (arith, h, at_most text)));
        at_most = at_most text;
      }
