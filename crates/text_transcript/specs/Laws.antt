-- The laws of a whole text (document 01, 'The tabbed text'): when it is transcribed, what then stands where, and how long it can get.
use Rattle.std.specs.Prelude.{◌≡◌, List, ◌++◌, ℕ, ◌+◌, ◌*◌, ◌≤◌, ◌<◌, length, drop, Ok, Err}
use Rattle.table_gcra.specs.Table.{Table}
use Rattle.text_session.specs.Stream.{after, start, endings}
use Rattle.text_session.specs.Transcript.{transcript}
use Rattle.text_transcript.specs.declared.TooShort.TheVariants.{Columns, Output}
use Rattle.text_transcript.specs.Whole.{transcribed, lent_of}

pub record TranscriptLaws (text : List ℕ) (t : Table) (out : List ℕ) : Type 0 where
  -- with fewer than 1,024 slots in a column nothing is touched
  pub short_ids : length t.table.ids < 1024 → transcribed text t out ≡ record { answer = Err Columns; left = lent_of t out }
  pub short_numbers : length t.numbers < 1024 → transcribed text t out ≡ record { answer = Err Columns; left = lent_of t out }
  pub short_tats : length t.table.tats < 1024 → transcribed text t out ≡ record { answer = Err Columns; left = lent_of t out }
  -- nor with an output that is shorter than the header's 35 bytes, and 105 for each line that ends and for one that does not
  pub short_output :
      1024 ≤ length t.table.ids → 1024 ≤ length t.numbers → 1024 ≤ length t.table.tats → length out < 35 + 105 + 105 * endings text →
      transcribed text t out ≡ record { answer = Err Output; left = lent_of t out }
  -- otherwise the transcript stands at the output's start and the bytes after it stay; the table is as the text leaves it
  pub whole :
      1024 ≤ length t.table.ids → 1024 ≤ length t.numbers → 1024 ≤ length t.table.tats → 35 + 105 + 105 * endings text ≤ length out →
      transcribed text t out
      ≡ record {
        answer = Ok (length (transcript text));
        left = lent_of (after (start t) text).table (transcript text ++ drop (length (transcript text)) out);
      }
  -- so much room is enough for any text
  pub at_most : length (transcript text) ≤ 35 + 105 + 105 * endings text
