-- `text_transcript::run` meets its contract: the header, the lines that end, and one that does not.
-- Assumes nothing.
use native.Mathlib.Omega.{arith}
use Rattle.text_session.specs.Store.{table_in}
use Rattle.text_session.specs.Stream.{said}
use Rattle.text_session.proofs.Columns.{lent_in}
use Rattle.text_stream.specs.Running.{stream_state, session_of, no_table, ending_of}
use Rattle.text_protocol.proofs.Putting.{put_then}
use Rattle.text_transcript.proofs.Entire.{header_fits, body_fits, end_fits, header_put, put_as, text_after, table_after}
use Rattle.text_transcript.proofs.run.Goals as goal

pub put_header-at-requires : goal.put_header-at-requires
put_header-at-requires c = header_fits c.args.text.now c.args.out.now c.requires

pub feed-at-requires : goal.feed-at-requires
feed-at-requires c =
    let head = header_put c.args.out.now c.put_header-at.ensures.0 c.put_header-at.ensures.1 in
    body_fits c.args.text.now c.args.out.now c.requires head (stream_state c.start-stream.result (table_in c.args.store.now))

pub finish-requires : goal.finish-requires
finish-requires c =
    let σ = stream_state c.start-stream.result (table_in c.args.store.now) in
    let head = header_put c.args.out.now c.put_header-at.ensures.0 c.put_header-at.ensures.1 in
    let body = put_then head (said σ c.args.text.now) c.feed-at.ensures.moved.at_is c.feed-at.ensures.moved.out_is in
    end_fits c.args.text.now c.args.out.now c.requires σ body (stream_state c.feed-at.new.self no_table)

pub returns-clause-written : goal.returns-clause-written
returns-clause-written c =
    let text = c.args.text.now in
    let t = table_in c.args.store.now in
    let moved = c.feed-at.ensures.moved in
    let s = c.feed-at.new.self in
    let head = header_put c.args.out.now c.put_header-at.ensures.0 c.put_header-at.ensures.1 in
    let body = put_then head (said (stream_state c.start-stream.result t) text) moved.at_is moved.out_is in
    let whole = text_after text t c.start-stream.ensures c.start-stream.result.line (session_of s) s.line moved.state_is (lent_in c.args.store.now) in
    let all = put_as whole (put_then body (ending_of (session_of s) s.line) c.finish.ensures.0 c.finish.ensures.1) in
    (omega (arith, all.place), all.bytes)

pub returns-clause-table_after : goal.returns-clause-table_after
returns-clause-table_after c =
    let s = c.feed-at.new.self in
    table_after c.args.text.now (table_in c.args.store.now) c.start-stream.ensures c.start-stream.result.line (session_of s) s.line
    c.feed-at.ensures.moved.state_is
