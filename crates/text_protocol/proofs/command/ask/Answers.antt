-- `command::ask`: a field too many, or none.
use Rattle.std.proofs.Common.{sym, ◌∙◌}
use Rattle.text_protocol.proofs.Reading.{number_first, ask_left_over, ask_read}
use Rattle.text_protocol.proofs.command.ask.Goals as goal

pub returns-then-is_some : goal.returns-then-is_some
returns-then-is_some c =
    let moment = number_first _ _ c.number.ensures.number c.in_ok-moment.was in
    let subscriber = number_first _ _ c.small.ensures c.in_ok-subscriber.was in
    let cost = number_first _ _ c.small-2.ensures c.in_ok-cost.was in
    ask_left_over moment subscriber cost _ _ c.next.ensures.steps (sym c.is_some.ensures ∙ c.if-is_some.true)

pub returns : goal.returns
returns c =
    let moment = number_first _ _ c.number.ensures.number c.in_ok-moment.was in
    let subscriber = number_first _ _ c.small.ensures c.in_ok-subscriber.was in
    let cost = number_first _ _ c.small-2.ensures c.in_ok-cost.was in
    ask_read moment subscriber cost _ _ c.next.ensures.steps (sym c.is_some.ensures ∙ c.if-is_some.false)
