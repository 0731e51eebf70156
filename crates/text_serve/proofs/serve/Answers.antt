-- The header and then the answers are the transcript.
use Rattle.std.proofs.Common.{arith}
use Rattle.std.proofs.lemmas.Result.{IfOk-at_ok}
use Rattle.text_protocol.proofs.Lengths.{header_length}
use Rattle.text_session.proofs.Columns.{lent_in}
use Rattle.text_serve.proofs.Reached.{served, on_unwritten}
use Rattle.text_serve.proofs.serve.Goals as goal

pub begin-requires : goal.begin-requires
begin-requires g c = omega (arith, header_length, c.args.buffers.now.ample.one_line)

pub returns-in_err-begin-clause-serves : goal.returns-in_err-begin-clause-serves
returns-in_err-begin-clause-serves g c = on_unwritten c.from_residual.result _ _ _ c.from_residual.ensures.1

pub returns-clause-serves : goal.returns-clause-serves
returns-clause-serves g c =
    served _ (lent_in c.args.store.now) (IfOk-at_ok _ {r = c.begin.result} c.in_ok-begin.was c.begin.ensures).sent_is _ _
    c.pieces.ensures.answers
