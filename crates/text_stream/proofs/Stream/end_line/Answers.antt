-- `text_stream::Stream::end_line` meets its contract: what the line says is answered, and the reply written.
-- Assumes nothing.
use mathlib.Core.Path.{◌≡◌, ap₂, ◌∙◌}
use Rattle.std.specs.Prelude.{Option}
use Rattle.text_protocol.specs.declared.command.Command.{Command}
use Rattle.text_session.specs.declared.Stage.{Stage}
use Rattle.text_session.specs.Session.{answer, told_of}
use Rattle.text_session.specs.Store.{table_in}
use Rattle.text_session.specs.Stream.{State, kept, at_lf}
use Rattle.text_session.proofs.Columns.{lent_in}
use Rattle.text_stream.specs.Running.{stream_state}
use Rattle.text_stream.proofs.Holding.{reply_room, told_bounded, ended_moved}
use Rattle.text_stream.proofs.Stream.end_line.Goals as goal
use Rattle.text_stream.proofs.Stream.end_line.Goals.{After-answer-turn}

-- the state at the LF, and what the line is told in it
abbrev σ : After-answer-turn → State
σ c = kept (stream_state c.args.self.now (table_in c.args.store.now)) c.args.rest.now

told : (c : After-answer-turn) → told_of c.answer-turn.result (table_in c.answer-turn.new.store) ≡ at_lf (σ c)
told c =
    c.answer-turn.ensures.told
    ∙ ap₂ (λ (s : Stage) (x : Option Command). answer s x (table_in c.args.store.now)) c.ended-command.ensures.same_stage
    c.ended-command.ensures.says

pub invariant_of-self-clause-bounded : goal.invariant_of-self-clause-bounded
invariant_of-self-clause-bounded c =
    let a = (goal.at.invariant_of-self-clause-bounded c).After-answer-turn in
    told_bounded (σ a) a.answer-turn.result (told a) c.args.self.now.bounded

pub put-requires : goal.put-requires
put-requires c =
    let a = (goal.at.put-requires c).After-answer-turn in
    reply_room (σ a) a.answer-turn.result (told a) c.args.at c.requires

pub returns-clause-moved : goal.returns-clause-moved
returns-clause-moved c =
    let a = (goal.at.returns-clause-moved c).After-answer-turn in
    ended_moved (σ a) a.answer-turn.result (told a) c.args.self.now.bounded c.ended-command.new.self.line_enough
    (lent_in c.answer-turn.new.store) c.put.ensures
