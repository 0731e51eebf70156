-- The header is put to the output's start, and all of it is written.
use Rattle.std.proofs.Common.{arith}
use Rattle.std.proofs.lemmas.Result.{on_ok_weaker}
use Rattle.text_protocol.specs.Reply.{header}
use Rattle.text_io.proofs.Counting.{written}
use Rattle.text_io.proofs.Counter.begin.Goals as goal

pub returns : goal.returns
returns g c =
    let put = c.put_header-end.ensures in
    on_ok_weaker _ (written header c.args.out.now {n = c.put_header-end.result} (omega (arith, c.requires)) (omega (arith, put.0)) put.1) c.write.ensures
