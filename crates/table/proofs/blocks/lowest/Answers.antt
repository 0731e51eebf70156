-- `table::blocks::lowest` meets its contract: no place before `at` passes.
-- Assumes nothing.
use Rattle.std.proofs.Common.{◌≡◌, ℕ, Bool, false, ◌+◌, ◌≤◌, ◌<◌, ◌∙◌, arith}
use Rattle.table.specs.Slots.{seek, NoneFrom}
use Rattle.table.proofs.Seek.{none_block, none_before, seek_before, seek_end}
use Rattle.table.proofs.blocks.lowest.Given as given
use Rattle.table.proofs.blocks.lowest.Goals as goal
use Rattle.table.proofs.blocks.lowest.Goals.{After-first_between, in-Some, in_default+then-slots-end}

-- what the search of a block says of the places before its end
searched : (g : given.Over) (c : After-first_between g) (test : ℕ → Bool) →
    ((at : ℕ) → at + g.row.SIZE ≤ c.args.slots → given.Q-post g c.args.quick at false → NoneFrom test at (at + g.row.SIZE)) →
    ((at : ℕ) → at + g.row.SIZE ≤ c.args.slots → given.C-post g c.args.closer at false → NoneFrom test at (at + g.row.SIZE)) →
    ((i : ℕ) (b : Bool) → i < c.args.slots → given.P-post g c.args.passes i b → b ≡ test i) →
    c.first_between.result ≡ seek test c.block_end-end.result
searched g c test quick closer passes =
    let at-loop = c.loop-lowest in
    let skipped = c.skip_blocks-beyond.ensures.none_from test (λ at above room no. quick at room no) in
    let near = c.skip_blocks-from.ensures.none_from test (λ at above room no. closer at room no) in
    c.first_between.ensures test (λ i b above below is. passes i b (omega arith) is)
    (none_block test _ _ (none_block test _ _ (at-loop.invariant.1 test quick closer passes) skipped) near)

pub loop-lowest-preserved : goal.loop-lowest-preserved
loop-lowest-preserved g c = (
  omega arith,
  λ test quick closer passes. none_before _ (searched g (goal.at.loop-lowest-preserved g c).After-first_between test quick closer passes) c.in_default.is,
)

pub returns : goal.returns
returns g c =
    λ test quick closer passes.
    let says = searched g (goal.at.returns g c).After-first_between test quick closer passes in
    elim c.match-first_between.branch [
      | in-Some w ↦ w.result-is ∙ seek_before _ (omega arith) says w.in-Some.is
      | in_default+then-slots-end w ↦ w.result-is ∙ seek_end _ _ _ (none_before _ says w.in_default.is) w.if-slots-end.true
    ]
