-- `command::plan`: a field too many, or none.
use Rattle.std.proofs.Common.{sym, ◌∙◌}
use Rattle.text_protocol.proofs.Reading.{number_first, plan_left_over, plan_read}
use Rattle.text_protocol.proofs.command.plan.Goals as goal

pub returns-then-is_some : goal.returns-then-is_some
returns-then-is_some c =
    let slots = number_first _ _ c.small.ensures c.in_ok-slots.was in
    let limit = number_first _ _ c.small-2.ensures c.in_ok-limit.was in
    let period = number_first _ _ c.small-3.ensures c.in_ok-period.was in
    let burst = number_first _ _ c.small-4.ensures c.in_ok-burst.was in
    plan_left_over slots limit period burst _ _ c.next.ensures.steps (sym c.is_some.ensures ∙ c.if-is_some.true)

pub returns : goal.returns
returns c =
    let slots = number_first _ _ c.small.ensures c.in_ok-slots.was in
    let limit = number_first _ _ c.small-2.ensures c.in_ok-limit.was in
    let period = number_first _ _ c.small-3.ensures c.in_ok-period.was in
    let burst = number_first _ _ c.small-4.ensures c.in_ok-burst.was in
    plan_read slots limit period burst _ _ c.next.ensures.steps (sym c.is_some.ensures ∙ c.if-is_some.false)
