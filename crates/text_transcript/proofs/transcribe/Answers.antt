-- `text_transcript::transcribe` meets its contract: the columns and the output are long enough, or nothing is touched.
-- Assumes nothing.
use mathlib.Core.Path.{sym, ap, ◌∙◌}
use Prim.Native.Nat.{ℕ}
use native.Mathlib.Omega.{arith}
use Rattle.std.specs.Prelude.{Ok}
use Rattle.std.proofs.Common.{rules}
use Rattle.table_gcra.specs.Table.{table_of}
use Rattle.text_transcript.specs.Whole.{Done}
use Rattle.text_transcript.proofs.Entire.{short_columns, short_out, long_enough, too_short, enough, least_room, lent_same}
use Rattle.text_transcript.proofs.transcribe.Goals as goal
use Rattle.text_transcript.proofs.transcribe.Goals.{After-run}

pub returns-then-slots-lt-TEXT_SLOTS : goal.returns-then-slots-lt-TEXT_SLOTS
returns-then-slots-lt-TEXT_SLOTS c =
    let S = c.args in
    let step = short_columns S.text.now (table_of S.ids.now S.numbers.now S.tats.now S.newest.now) S.out.now (omega arith) in
    record { answer = sym (ap (λ (d : Done). d.answer) step); left = sym (ap (λ (d : Done). d.left) step) }

pub returns-then-out : goal.returns-then-out
returns-then-out c =
    let S = c.args in
    let step =
    short_out S.text.now (table_of S.ids.now S.numbers.now S.tats.now S.newest.now) S.out.now (omega arith) (omega arith) (omega arith)
    (least_room S.text.now S.out.now c.if-out.true) in
    record { answer = sym (ap (λ (d : Done). d.answer) step); left = sym (ap (λ (d : Done). d.left) step) }

pub returns-then-out-endings : goal.returns-then-out-endings
returns-then-out-endings c =
    let S = c.args in
    let step =
    short_out S.text.now (table_of S.ids.now S.numbers.now S.tats.now S.newest.now) S.out.now (omega arith) (omega arith) (omega arith)
    (too_short S.text.now S.out.now c.endings.ensures c.if-out.false c.if-out-endings.true) in
    record { answer = sym (ap (λ (d : Done). d.answer) step); left = sym (ap (λ (d : Done). d.left) step) }

pub run-requires : goal.run-requires
run-requires c = enough c.args.text.now c.args.out.now c.endings.ensures c.if-out.false c.if-out-endings.false

pub returns : goal.returns
returns c =
    let S = c.args in
    let fits = enough S.text.now S.out.now c.endings.ensures c.if-out.false c.if-out-endings.false in
    let step =
    long_enough S.text.now (table_of S.ids.now S.numbers.now S.tats.now S.newest.now) S.out.now (omega arith) (omega arith) (omega arith) fits in
    let left = lent_same c.run.ensures.table_after c.run.ensures.written.1 ∙ sym (ap (λ (d : Done). d.left) step) in
    record {
      answer = ap (λ (n : ℕ). Ok n) c.run.ensures.written.0 ∙ sym (ap (λ (d : Done). d.answer) step);
      left = rw (← left) (search rules);
    }
