-- The GCRA engine's table (document 01, 'Seats'): the subscribers' numbers, the TATs, in ticks, the newest moment (document 02,
-- Item 6), and the numbers of the plans (Item 3). Its calls are the table's, by the rule of GCRA.
use Rattle.std.specs.Prelude.{◌≡◌, ℕ, List, length, get_or, set, replicate}
use Rattle.ticks.specs.declared.units.Ticks.{Ticks}
use Rattle.plans.specs.declared.planned.Planned.{Planned}
use Rattle.plans.specs.Plans.{Plans, planned}
use Rattle.rule_gcra.specs.Gcra.{gcra}
use Rattle.table.specs.Request.{Query, Request}
use Rattle.table.specs.Rule.{Rule, rule_of}
use Rattle.table.specs.Slots.{Columns, common}
use Rattle.table.specs.Numbered.{Numbered, numbered_of, numbered}
use Rattle.table.specs.Calls as calls
use Rattle.table.specs.Calls.{Step}
use Rattle.table_gcra.specs.declared.Table as writes
use Rattle.table_gcra.specs.declared.lent.Columns as reads

-- what is stored but for the numbers of the plans
pub record Records : Type 0 where
  pub ids : List ℕ
  pub tats : List ℕ
  pub newest : ℕ

abbrev pub records_of : List ℕ → List ℕ → ℕ → Records
records_of ids tats newest = record { ids = ids; tats = tats; newest = newest }

unfoldable pub records : Columns Records Ticks
records =
    record {
      slots = λ t. common (length t.ids) (length t.tats);
      ids = λ t. t.ids;
      row = λ t i. record { 0 = get_or t.tats i 0 };
      newest = λ t. t.newest;
      put = λ t i subscriber moment tat. records_of (set t.ids i subscriber) (set t.tats i tat.0) moment;
      zeros = λ t. records_of (replicate (length t.ids) 0) (replicate (length t.tats) 0) 0;
    }

-- .. and with them
abbrev pub Table : Type 0
Table = Numbered Records

abbrev pub table_of : List ℕ → List ℕ → List ℕ → ℕ → Table
table_of ids numbers tats newest = numbered_of (records_of ids tats newest) numbers

-- .. as it is lent to be read
abbrev pub lent_of : reads.Columns → Table
lent_of c = table_of c.ids.now c.numbers.now c.tats.now c.newest.now

-- .. and to be written
abbrev pub table_in : writes.Table → Table
table_in t = table_of t.ids.now t.numbers.now t.tats.now t.newest.now

-- what is lent stays so: the same columns, and the same newest moment
pub record SameLoan (t t' : writes.Table) : Type 0 where
  pub same_ids : t'.ids.ghost_name ≡ t.ids.ghost_name
  pub same_numbers : t'.numbers.ghost_name ≡ t.numbers.ghost_name
  pub same_tats : t'.tats.ghost_name ≡ t.tats.ghost_name
  pub same_newest : t'.newest.ghost_name ≡ t.newest.ghost_name

abbrev pub columns : Columns Table (Planned Ticks)
columns = numbered records

-- GCRA under the plans lent
abbrev pub rule : Rule Plans (Planned Ticks)
rule = rule_of (planned gcra)

-- ask
abbrev pub acquire : Request Plans → Table → Step Table
acquire = calls.acquire rule columns

-- look
abbrev pub peek : Query Plans → Table → Step Table
peek = calls.peek rule columns

-- clear
abbrev pub clear : Table → Step Table
clear = calls.clear columns
