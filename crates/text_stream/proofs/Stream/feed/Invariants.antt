-- `text_stream::Stream::feed` meets its contract: what is still to be said leads where the whole piece does.
-- Assumes nothing.
use Rattle.text_session.specs.Store.{table_in, SameLoan}
use Rattle.text_stream.specs.Running.{session_of, stream_state}
use Rattle.text_stream.proofs.Feeding.{Parted}
use Rattle.text_stream.proofs.Stream.feed.Given as goal

abbrev pub invariant-loop-part : goal.invariant-loop-part
invariant-loop-part l =
    record {
      loan : SameLoan l.fn.store l.store;
      parted : Parted (stream_state l.fn.self (table_in l.fn.store)) l.piece l.fn.out l.at (session_of l.self) l.self.line
          (table_in l.store) l.out l.w l.part-iterator.rest.now;
    }
