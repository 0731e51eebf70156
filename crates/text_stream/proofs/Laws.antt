-- The page of laws holds.
-- Assumes nothing.
use mathlib.Core.Path.{refl}
use Rattle.text_stream.specs.Running.{started}
use Rattle.text_stream.specs.Laws.{StreamLaws}
use Rattle.text_stream.proofs.Cutting as cutting

pub stream_laws : StreamLaws
stream_laws =
    record {
      starts = λ line t. refl;
      ready_start = λ line h. cutting.ready_start started line refl h;
      held_most = λ ready. ready.held_within;
      cut = cutting.cut;
      text_is = cutting.text_is;
    }
