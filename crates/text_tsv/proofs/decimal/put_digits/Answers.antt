-- `decimal::put_digits`: the last digits have room, and those of what is left go before them.
use Rattle.std.proofs.Common.{arith}
use Rattle.text_tsv.proofs.Digits.{digits_log}
use Rattle.text_tsv.proofs.Writing.{rest_room, two_more, rest_done}
use Rattle.text_tsv.proofs.decimal.put_digits.Goals as goal

pub overflow_sub-place : goal.overflow_sub-place
overflow_sub-place c = omega (arith, two_more c.loop-rest.invariant c.loop-rest-test.true)

pub put_pair-requires-clause-at_in_bounds : goal.put_pair-requires-clause-at_in_bounds
put_pair-requires-clause-at_in_bounds c =
    let r = c.loop-rest.invariant in
    omega (arith, rest_room r c.requires, two_more r c.loop-rest-test.true)

pub returns : goal.returns
returns c =
    let log = c.ilog10.ensures in
    let width = digits_log c.args.n _ log.power_le log.next_power_gt (omega arith) in
    (omega (arith, width), rest_done c.loop-rest.invariant c.put_short-2.ensures.1)
