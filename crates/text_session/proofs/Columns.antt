-- What the calls leave of the columns: a turn keeps the length of all, so that the table fits back in front of the other
-- slots; and a clear of the first slots leaves zeros in them.
-- Assumes nothing.
use mathlib.Core.Path.{◌≡◌, refl, sym, ap, ◌∙◌}
use mathlib.Core.Bool.{true}
use Prim.Native.Nat.{ℕ, ◌≤◌}
use native.Mathlib.Omega.{arith}
use lib.Dec.{leb}
use lib.ListN.{length, take, drop, replicate, length-append, length-replicate, take-append-drop}
use lib.Seq.{length-take-le, take_at}
use Rattle.std.specs.Prelude.{Option, Some, None}
use Rattle.ticks.specs.declared.plan.Plan as plan
use Rattle.table.specs.Request.{request_of}
use Rattle.table.specs.Calls.{Step}
use Rattle.table.proofs.Checks.{slots_some}
use Rattle.table_gcra.specs.Table.{Table, table_of, clear}
use Rattle.table_gcra.proofs.Lengths.{SameLengths, same_lengths, acquire_lengths, clear_zeros}
use Rattle.text_protocol.specs.declared.command.Command.{Command}
use Rattle.text_protocol.specs.declared.command.Command.TheVariants.{Plan, Ask}
use Rattle.text_session.specs.declared.store.Store.{Store}
use Rattle.text_session.specs.Session.{only, turn, text_slots, part, back, Room, Lent}
use Rattle.text_session.specs.Store.{SameLoan}

pub turn_lengths : (plan : plan.Plan) (c : Option Command) (t : Table) → SameLengths (turn plan c t).after t
unfolding turn
turn_lengths plan (Some (Ask moment subscriber cost)) t = acquire_lengths (request_of (only plan) moment subscriber cost) t
turn_lengths plan (Some (Plan slots another)) t = same_lengths t
turn_lengths plan None t = same_lengths t

-- a store has the slots that a plan may ask for
pub lent_in : (s : Store) → Lent s.ids.now s.numbers.now s.tats.now
lent_in s = record { in_ids = s.in_ids; in_numbers = s.in_numbers; in_tats = s.in_tats }

-- what is lent stays so where nothing is done, and over two steps where it does over each
pub loan_none : (s : Store) → SameLoan s s
loan_none s = record { same_ids = refl; same_numbers = refl; same_tats = refl; same_newest = refl }

pub loan_on : {s t u : Store} → SameLoan s t → SameLoan t u → SameLoan s u
loan_on first second =
    record {
      same_ids = second.same_ids ∙ first.same_ids;
      same_numbers = second.same_numbers ∙ first.same_numbers;
      same_tats = second.same_tats ∙ first.same_tats;
      same_newest = second.same_newest ∙ first.same_newest;
    }

-- a table that is put back as it was
pub back_same : (slots : ℕ) (t : Table) → back slots t (part slots t) ≡ t
back_same slots t =
    λ k.
    table_of (take-append-drop slots t.table.ids k) (take-append-drop slots t.numbers k) (take-append-drop slots t.table.tats k)
    t.table.newest

-- a table of zeros
abbrev pub zeros : ℕ → Table
zeros slots = table_of (replicate slots 0) (replicate slots 0) (replicate slots 0) 0

-- columns that have so many slots
abbrev pub Roomy : ℕ → Table → Type 0
Roomy slots t = Room slots t.table.ids t.numbers t.table.tats

module _ (slots : ℕ) (t : Table) (room : Roomy slots t) where
  part_ids : length (take slots t.table.ids) ≡ slots
  part_ids = length-take-le slots t.table.ids room.in_ids

  part_numbers : length (take slots t.numbers) ≡ slots
  part_numbers = length-take-le slots t.numbers room.in_numbers

  part_tats : length (take slots t.table.tats) ≡ slots
  part_tats = length-take-le slots t.table.tats room.in_tats

  module _ (u : Table) (same : SameLengths u (part slots t)) where
    ids_length : length u.table.ids ≡ slots
    ids_length = same.ids ∙ part_ids

    numbers_length : length u.numbers ≡ slots
    numbers_length = same.numbers ∙ part_numbers

    tats_length : length u.table.tats ≡ slots
    tats_length = same.tats ∙ part_tats

    -- a table that was put back is the part again
    pub put_back : part slots (back slots t u) ≡ u
    put_back =
        let ids = take_at u.table.ids (drop slots t.table.ids) slots ids_length in
        let numbers = take_at u.numbers (drop slots t.numbers) slots numbers_length in
        let tats = take_at u.table.tats (drop slots t.table.tats) slots tats_length in
        λ k. table_of (ids k) (numbers k) (tats k) u.table.newest

    -- and there is as much room as before
    pub room_back : Roomy slots (back slots t u)
    room_back =
        record {
          in_ids = simp length-append (omega (arith, ids_length));
          in_numbers = simp length-append (omega (arith, numbers_length));
          in_tats = simp length-append (omega (arith, tats_length));
        }

  -- zeros are as long as the part
  pub zeros_lengths : SameLengths (zeros slots) (part slots t)
  zeros_lengths =
      record {
        ids = length-replicate slots 0 ∙ sym part_ids;
        numbers = length-replicate slots 0 ∙ sym part_numbers;
        tats = length-replicate slots 0 ∙ sym part_tats;
      }

  -- a clear of the part
  pub cleared : leb 1 slots ≡ true → slots ≤ text_slots → (clear (part slots t)).after ≡ zeros slots
  cleared some most =
      let ok = slots_some slots (omega arith) ∙ some in
      ap (λ (s : Step Table). s.after)
      (clear_zeros (take slots t.table.ids) (take slots t.numbers) (take slots t.table.tats) t.table.newest part_ids part_numbers part_tats ok)
