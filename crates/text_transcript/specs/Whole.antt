-- What `transcribe` answers and leaves, for any text, table and output.
use Rattle.std.specs.Prelude.{cond, ◌&&◌, List, ℕ, ◌+◌, ◌*◌, leb, length, Result, Ok, Err}
use Rattle.std.proofs.lemmas.List.Edits.{sets}
use Rattle.table_gcra.specs.Table.{Table}
use Rattle.text_protocol.specs.Reply.{header, most_reply}
use Rattle.text_session.specs.Session.{text_slots}
use Rattle.text_session.specs.Transcript.{transcript}
use Rattle.text_session.specs.Stream.{after, start, endings}
use Rattle.text_transcript.specs.declared.TooShort.{TooShort}
use Rattle.text_transcript.specs.declared.TooShort.TheVariants.{Columns, Output}

-- an output this long is long enough: the header, and a longest line for each line that ends and for one that does not
abbrev pub room : List ℕ → ℕ
room text = length header + most_reply + most_reply * endings text

-- what was lent
pub record Lending : Type 0 where
  pub table : Table
  pub out : List ℕ

pub record Done : Type 0 where
  pub answer : Result ℕ TooShort
  pub left : Lending

abbrev pub lent_of : Table → List ℕ → Lending
lent_of t out = record { table = t; out = out }

-- the transcript is written, and the bytes after it stay; the table, its newest moment too, is as the run leaves it
abbrev pub written : List ℕ → Table → List ℕ → Done
written text t out =
    record {
      answer = Ok (length (transcript text));
      left = lent_of (after (start t) text).table (sets out 0 (transcript text));
    }

-- a refusal leaves everything as it was
unfoldable pub transcribed : List ℕ → Table → List ℕ → Done
transcribed text t out =
    cond (leb text_slots (length t.table.ids) && (leb text_slots (length t.numbers) && leb text_slots (length t.table.tats)))
    (cond (leb (room text) (length out)) (written text t out) (record { answer = Err Output; left = lent_of t out }))
    (record { answer = Err Columns; left = lent_of t out })
