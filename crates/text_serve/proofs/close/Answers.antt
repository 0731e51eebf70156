-- What is said at the input's end fits the output, and all of it is written.
use Rattle.std.proofs.Common.{sym, arith, length-take-le}
use Rattle.text_stream.specs.Running.{session_of, ending_of}
use Rattle.text_io.proofs.Counting.{written}
use Rattle.text_io.proofs.Suffices.{end_fits}
use Rattle.text_serve.specs.Serving.{Finished}
use Rattle.text_serve.proofs.Reached.{on_unwritten}
use Rattle.text_serve.proofs.close.Goals as goal

pub finish-end-requires : goal.finish-end-requires
finish-end-requires g c = end_fits (session_of c.args.stream.now) c.args.stream.now.line c.args.out.now c.requires

pub slice_bounds-write-end : goal.slice_bounds-write-end
slice_bounds-write-end g c =
    let fits = end_fits (session_of c.args.stream.now) c.args.stream.now.line c.args.out.now c.requires in
    omega (arith, fits, c.finish-end.auto.out, c.finish-end.ensures.0)

pub slice_bounds-write-end-2 : goal.slice_bounds-write-end-2
slice_bounds-write-end-2 g c =
    let fits = end_fits (session_of c.args.stream.now) c.args.stream.now.line c.args.out.now c.requires in
    sym (length-take-le c.finish-end.result c.finish-end.new.out (omega (arith, fits, c.finish-end.auto.out, c.finish-end.ensures.0)))

pub returns-in_err-write : goal.returns-in_err-write
returns-in_err-write g c = on_unwritten c.from_residual.result _ _ _ c.from_residual.ensures.1

pub returns : goal.returns
unfolding Finished
returns g c =
    let fits = end_fits (session_of c.args.stream.now) c.args.stream.now.line c.args.out.now c.requires in
    let put = c.finish-end.ensures in
    written (ending_of (session_of c.args.stream.now) c.args.stream.now.line) c.args.out.now fits put.0 put.1 c.in_ok-write.ensures
