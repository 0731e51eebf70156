-- `text_stream::Stream::feed` meets its contract: what is still to be said leads where the whole piece does.
-- Assumes nothing.
use Rattle.std.proofs.Common.{rules, tests, eqb, nat_eq, arith, [], ◌∷◌, Some, None}
use Rattle.std.proofs.lemmas.Bool.Decides.{Decides-eqb}
use Rattle.std.proofs.lemmas.Fn.{always_returns_same}
use Rattle.std.proofs.lemmas.Slice.Eq.{strip_suffix_is}
use Rattle.text_tsv.specs.Text.{lf}
use mathlib.Core.Path.{refl, ap, ◌∙◌}
use Rattle.text_session.proofs.Columns.{lent_in, loan_none, loan_on}
use Rattle.text_stream.proofs.Cutting.{ready_in}
use Rattle.text_stream.proofs.Feeding.{parted_end, parted_room, parted_next, parted_rest}
use Rattle.text_stream.proofs.Stream.feed.Goals as goal

pub loop-part-init : goal.loop-part-init
loop-part-init c =
    record {
      loan = loan_none c.args.store.now;
      parted = record {
        i = 0;
        left_is = ap (λ s. s.rest.now) c.into_iter-part-iterator.ensures.into_iter_gives ∙ c.split_inclusive-part-items.ensures.rest;
        going = record {
          leads = refl;
          writes = refl;
          place = refl;
          long_as = refl;
          ready = ready_in c.args.self.now;
          lent = lent_in c.args.store.now;
          inside = omega arith;
        };
      };
    }

pub end_line-w-requires : goal.end_line-w-requires
end_line-w-requires c =
    let s = c.in-Some.ensures.steps in
    let first = (s.1.2 (λ b. eqb b lf) (always_returns_same _ _ _ (λ a r q k. search (rules, tests)))).1 in
    parted_room c.loop-part.invariant.parted c.in-Some.part.now c.next.new.self.rest.now s.1.0 s.0 s.1.1 first
    c.in-Some-strip_suffix.line.now (strip_suffix_is {E = nat_eq} Decides-eqb c.in-Some.part.now (lf ∷ []) (Some c.in-Some-strip_suffix.line) c.in-Some-strip_suffix.ensures.cases) c.requires

pub loop-part-preserved : goal.loop-part-preserved
loop-part-preserved c =
    let s = c.in-Some.ensures.steps in
    let first = (s.1.2 (λ b. eqb b lf) (always_returns_same _ _ _ (λ a r q k. search (rules, tests)))).1 in
    record {
      loan = loan_on c.loop-part.invariant.loan c.end_line-w.ensures.loan;
      parted =
          parted_next c.loop-part.invariant.parted c.in-Some.part.now c.next.new.self.rest.now s.1.0 s.0 s.1.1 first
          c.in-Some-strip_suffix.line.now (strip_suffix_is {E = nat_eq} Decides-eqb c.in-Some.part.now (lf ∷ []) (Some c.in-Some-strip_suffix.line) c.in-Some-strip_suffix.ensures.cases) c.end_line-w.ensures.moved;
    }

pub returns-in-None-strip_suffix-clause-loan : goal.returns-in-None-strip_suffix-clause-loan
returns-in-None-strip_suffix-clause-loan c = c.loop-part.invariant.loan

pub returns-in-None-strip_suffix-clause-moved : goal.returns-in-None-strip_suffix-clause-moved
returns-in-None-strip_suffix-clause-moved c =
    let s = c.in-Some.ensures.steps in
    let first = (s.1.2 (λ b. eqb b lf) (always_returns_same _ _ _ (λ a r q k. search (rules, tests)))).1 in
    parted_rest c.loop-part.invariant.parted c.in-Some.part.now c.next.new.self.rest.now s.1.0 s.0 s.1.1 first
    (strip_suffix_is {E = nat_eq} Decides-eqb c.in-Some.part.now (lf ∷ []) None c.in-None-strip_suffix.ensures.cases)
    _ _ (ready_in c.hold.new.self) c.hold.ensures.same_stage c.hold.ensures.line_after

pub returns-clause-loan : goal.returns-clause-loan
returns-clause-loan c = c.loop-part.invariant.loan

pub returns-clause-moved : goal.returns-clause-moved
returns-clause-moved c = parted_end c.loop-part.invariant.parted c.in-None.ensures.steps.0
