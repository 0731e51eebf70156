-- The loop starts at the empty input, a piece that was read and answered leads on, and each end comes to what the run promises.
use Rattle.std.proofs.Common.{take, refl, sym, arith, length-take-le}
use Rattle.text_session.specs.Store.{table_in}
use Rattle.text_session.proofs.Columns.{loan_none, loan_on}
use Rattle.text_stream.specs.Running.{session_of, stream_state}
use Rattle.text_io.proofs.Counting.{counted_as, counted_none}
use Rattle.text_io.proofs.Telling.{took_got, took_end, took_failed}
use Rattle.text_serve.specs.Serving.{Finished}
use Rattle.text_serve.proofs.Reached.{reached_start, reached_on, unended, closed, on_unread, on_unwritten}
use Rattle.text_serve.proofs.pieces.Goals as goal

pub loop-turn-init : goal.loop-turn-init
loop-turn-init g c =
    record {
      loan = loan_none c.args.store.now;
      buffers = record { same_piece = refl; same_out = refl };
      reached = reached_start _ c.start-stream.result.line (omega arith) c.start-stream.ensures;
    }

pub slice_bounds-answer-end : goal.slice_bounds-answer-end
slice_bounds-answer-end g c =
    sym (length-take-le c.in-Some.n c.read.new.piece (took_got _ _ _ _ c.in_ok-n.ensures c.in-Some.is).1.0)

pub returns-in_err-n-clause-answers : goal.returns-in_err-n-clause-answers
returns-in_err-n-clause-answers g c =
    on_unread c.from_residual.result _ _ _ c.from_residual.ensures.1
    (unended c.loop-turn.invariant.reached (took_failed _ _ _ c.in_err-n.ensures) (omega arith))

pub returns-in_default-clause-answers : goal.returns-in_default-clause-answers
returns-in_default-clause-answers g c =
    let none = took_end _ _ _ _ c.in_ok-n.ensures c.in_default.is in
    closed (session_of c.loop-turn.stream) c.loop-turn.stream.line c.loop-turn.invariant.reached none _ _ _ c.close.ensures

pub returns-in_err-answer-clause-answers : goal.returns-in_err-answer-clause-answers
returns-in_err-answer-clause-answers g c = on_unwritten c.from_residual-in_err-answer.result _ _ _ c.from_residual-in_err-answer.ensures.1

pub returns-clause-answers : goal.returns-clause-answers
unfolding Finished
returns-clause-answers g c =
    let reached = c.loop-turn.invariant.reached in
    unended reached (counted_none _) (omega (arith, reached.turned, c.loop-turn-test.false))

pub loop-turn-preserved : goal.loop-turn-preserved
loop-turn-preserved g c =
    let read = took_got _ _ _ _ c.in_ok-n.ensures c.in-Some.is in
    let whole = length-take-le c.in-Some.n c.read.new.piece read.1.0 in
    let advanced = c.in_ok-answer.ensures.onwards in
    let next = stream_state c.answer.new.stream (table_in c.answer.new.store) in
    let on =
    reached_on c.loop-turn.invariant.reached (take c.in-Some.n c.read.new.piece) {τ = next} (omega (arith, whole, read.0))
    advanced.state_is (counted_as (sym whole) read.1.1) advanced.written.sent_is in
    record {
      loan = loan_on c.loop-turn.invariant.loan c.answer.ensures.loan;
      buffers = record { same_piece = c.loop-turn.invariant.buffers.same_piece; same_out = c.loop-turn.invariant.buffers.same_out };
      reached = record {
        input = on.input;
        turned = omega (arith, on.turned);
        state_is = on.state_is;
        taken_is = on.taken_is;
        sent_is = on.sent_is;
      };
    }
