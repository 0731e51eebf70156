-- What is said of a piece fits the output, and all of it is written.
use Rattle.std.proofs.Common.{length, take, refl, sym, arith, length-take-le}
use Rattle.std.proofs.lemmas.Result.{on_ok_weaker}
use Rattle.text_io.specs.Piece.{Counted}
use Rattle.text_io.proofs.Suffices.{answers_fit}
use Rattle.text_io.proofs.Counting.{written}
use Rattle.text_io.proofs.Counter.answer.Goals as goal

pub feed-said-requires : goal.feed-said-requires
feed-said-requires g c = answers_fit _ c.args.piece.now refl c.requires

pub slice_bounds-write-end : goal.slice_bounds-write-end
slice_bounds-write-end g c =
    let within = answers_fit _ c.args.piece.now c.feed-said.ensures.moved.at_is c.requires in
    omega (arith, within, c.feed-said.auto.out)

pub slice_bounds-write-end-2 : goal.slice_bounds-write-end-2
slice_bounds-write-end-2 g c =
    let within = answers_fit _ c.args.piece.now c.feed-said.ensures.moved.at_is c.requires in
    sym (length-take-le c.feed-said.result c.feed-said.new.out (omega (arith, within, c.feed-said.auto.out)))

pub returns-clause-onwards : goal.returns-clause-onwards
returns-clause-onwards g c =
    let moved = c.feed-said.ensures.moved in
    let room = answers_fit _ c.args.piece.now refl c.requires in
    on_ok_weaker _
    (λ (counted : Counted c.args.self.now.count (length (take c.feed-said.result c.feed-said.new.out)) c.write.new.self.count).
    record {
      state_is = moved.state_is;
      written = written _ c.args.out.now room moved.at_is moved.out_is counted;
      ready = moved.ready;
    })
    c.write.ensures
