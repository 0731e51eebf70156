-- `c_text::railcadence_transcribe` meets its contract: the numbers of the result, and what was lent as the call left it.
-- Assumes nothing.
use mathlib.Core.Path.{ap, ◌∙◌}
use Rattle.c_text.specs.Text.{two}
use Rattle.std.proofs.Common.{ap}
use Rattle.c_text.proofs.railcadence_transcribe.Goals as goal

pub returns : goal.returns
returns c =
    let done = c.transcribe-transcribed.ensures in
    record {
      res_after = c.two.ensures ∙ ap two done.answer;
      out_after = done.left;
    }
