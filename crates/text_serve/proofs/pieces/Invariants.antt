-- What was read so far is an input whose state is the stream's, and what is said of it was written.
use Rattle.std.proofs.Common.{◌-◌}
use Rattle.text_session.specs.Store.{table_in, SameLoan}
use Rattle.text_stream.specs.Running.{stream_state}
use Rattle.text_serve.specs.Serving.{account_of, SameBuffers}
use Rattle.text_serve.specs.Laws.{Reached}
use Rattle.text_serve.proofs.pieces.Given as goal

abbrev pub invariant-loop-turn : goal.invariant-loop-turn
invariant-loop-turn g l =
    record {
      loan : SameLoan l.fn.store l.store;
      buffers : SameBuffers l.fn.buffers l.buffers;
      reached : Reached (account_of (table_in l.fn.store) l.fn.input.count l.fn.output.count) (18446744073709551615 - l._turn)
          (stream_state l.stream (table_in l.store)) l.input.count l.output.count;
    }
