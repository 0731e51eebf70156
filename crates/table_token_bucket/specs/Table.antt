-- The token bucket engine's table (document 01, 'Seats'): the subscribers' numbers, the levels, in ticks, the moments of the
-- last admission, in milliseconds, the newest moment (document 02, Item 6), and the numbers of the plans (Item 3). Its calls are the
-- table's, by the rule of the token bucket.
use Rattle.std.specs.Prelude.{◌≡◌, ℕ, List, length, get_or, set, replicate}
use Rattle.ticks.specs.declared.plan.Plan.{Plan}
use Rattle.ticks.specs.Grains.{WithinLimits}
use Rattle.plans.specs.declared.planned.Planned.{Planned}
use Rattle.plans.specs.Plans.{Plans, planned, Looser}
use Rattle.rule_token_bucket.specs.declared.Bucket.{Bucket}
use Rattle.rule_token_bucket.specs.TokenBucket.{token_bucket}
use Rattle.table.specs.Request.{Query, Request}
use Rattle.table.specs.Rule.{Rule, rule_of}
use Rattle.table.specs.Slots.{Columns, common, NoneFrom}
use Rattle.table.specs.Numbered.{Numbered, numbered_of, numbered}
use Rattle.table.specs.Calls as calls
use Rattle.table.specs.Calls.{Step}
use Rattle.table_token_bucket.specs.declared.Table as writes
use Rattle.table_token_bucket.specs.declared.lent.Columns as reads

-- what is stored but for the numbers of the plans
pub record Records : Type 0 where
  pub ids : List ℕ
  pub levels : List ℕ
  pub lasts : List ℕ
  pub newest : ℕ

abbrev pub records_of : List ℕ → List ℕ → List ℕ → ℕ → Records
records_of ids levels lasts newest = record { ids = ids; levels = levels; lasts = lasts; newest = newest }

-- the record of a slot
abbrev pub bucket_at : List ℕ → List ℕ → ℕ → Bucket
bucket_at levels lasts i = record { level = record { 0 = get_or levels i 0 }; last = record { 0 = get_or lasts i 0 } }

unfoldable pub records : Columns Records Bucket
records =
    record {
      slots = λ t. common (common (length t.ids) (length t.levels)) (length t.lasts);
      ids = λ t. t.ids;
      row = λ t i. bucket_at t.levels t.lasts i;
      newest = λ t. t.newest;
      put = λ t i subscriber moment b.
          records_of (set t.ids i subscriber) (set t.levels i b.level.0) (set t.lasts i b.last.0) moment;
      zeros = λ t. records_of (replicate (length t.ids) 0) (replicate (length t.levels) 0) (replicate (length t.lasts) 0) 0;
    }

-- .. and with them
abbrev pub Table : Type 0
Table = Numbered Records

abbrev pub table_of : List ℕ → List ℕ → List ℕ → List ℕ → ℕ → Table
table_of ids numbers levels lasts newest = numbered_of (records_of ids levels lasts newest) numbers

-- .. as it is lent to be read
abbrev pub lent_of : reads.Columns → Table
lent_of c = table_of c.ids.now c.numbers.now c.levels.now c.lasts.now c.newest.now

-- .. and to be written
abbrev pub table_in : writes.Table → Table
table_in t = table_of t.ids.now t.numbers.now t.levels.now t.lasts.now t.newest.now

-- what is lent stays so: the same columns, and the same newest moment
pub record SameLoan (t t' : writes.Table) : Type 0 where
  pub same_ids : t'.ids.ghost_name ≡ t.ids.ghost_name
  pub same_numbers : t'.numbers.ghost_name ≡ t.numbers.ghost_name
  pub same_levels : t'.levels.ghost_name ≡ t.levels.ghost_name
  pub same_lasts : t'.lasts.ghost_name ≡ t.lasts.ghost_name
  pub same_newest : t'.newest.ghost_name ≡ t.newest.ghost_name

abbrev pub columns : Columns Table (Planned Bucket)
columns = numbered records

-- the token bucket under the plans lent
abbrev pub rule : Rule Plans (Planned Bucket)
rule = rule_of (planned token_bucket)

-- ask
abbrev pub acquire : Request Plans → Table → Step Table
acquire = calls.acquire rule columns

-- look
abbrev pub peek : Query Plans → Table → Step Table
peek = calls.peek rule columns

-- clear
abbrev pub clear : Table → Step Table
clear = calls.clear columns

-- no record from one place up to another is free by a plan, or by one that is no looser
abbrev pub NoneFree : Plan → ℕ → List ℕ → List ℕ → ℕ → ℕ → Type 0
NoneFree p at levels lasts from to =
    (q : Plan) → WithinLimits q → Looser p q → NoneFrom (λ j. token_bucket.free q at (bucket_at levels lasts j)) from to
