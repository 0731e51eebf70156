-- Document 02, Item 6: the newest moment at which anything was admitted, of any rule. A call at an earlier one gets 11; who writes it.
use Rattle.std.specs.Prelude.{◌<◌, ◌≡◌, true, false, eqb}
use Rattle.ticks.specs.Grains.{on_clock, last_moment}
use Rattle.table.specs.Request.{Query, Request}
use Rattle.table.specs.Checks.{slots_ok}
use Rattle.table.specs.Rule.{Rule}
use Rattle.table.specs.Slots.{Columns}
use Rattle.table.specs.Calls.{acquire, peek, clear}

-- checks 1 to 3 pass, and the moment is before the newest
pub record Early {C P R : Type 0} (U : Rule P R) (K : Columns C R) (q : Query P) (c : C) : Type 0 where
  pub setting : U.ok q.setting ≡ true
  pub table : slots_ok (K.slots c) ≡ true
  pub moment : on_clock q.moment ≡ true
  pub before : q.moment < K.newest c

module _ {C P R : Type 0} (U : Rule P R) (K : Columns C R) where
  -- who writes the newest moment
  pub record Written : Type 0 where
    -- an admission makes its own moment the newest
    pub admitted :
        (r : Request P) (c : C) → (acquire U K r c).answer.number ≡ 0 → K.newest (acquire U K r c).after ≡ r.query.moment
    -- an ask with another number leaves it, and so does a look
    pub denied :
        (r : Request P) (c : C) → eqb (acquire U K r c).answer.number 0 ≡ false → K.newest (acquire U K r c).after ≡ K.newest c
    pub looked : (q : Query P) (c : C) → K.newest (peek U K q c).after ≡ K.newest c
    -- a clear that answers 0 makes it 0, and one that answers 2 leaves it
    pub cleared : (c : C) → (clear K c).answer.number ≡ 0 → K.newest (clear K c).after ≡ 0
    pub unfit : (c : C) → (clear K c).answer.number ≡ 2 → K.newest (clear K c).after ≡ K.newest c

  -- a newest moment beyond the clock's limit, which no admission writes
  abbrev pub BeyondClock : C → Type 0
  BeyondClock c = last_moment < K.newest c

  -- .. until a clear nothing is admitted
  pub record Locked (c : C) : Type 0 where
    -- every moment within the limit gets 11
    pub acquire_11 :
        (r : Request P) → U.ok r.query.setting ≡ true → slots_ok (K.slots c) ≡ true → on_clock r.query.moment ≡ true →
        (acquire U K r c).answer.number ≡ 11
    pub peek_11 :
        (q : Query P) → U.ok q.setting ≡ true → slots_ok (K.slots c) ≡ true → on_clock q.moment ≡ true →
        (peek U K q c).answer.number ≡ 11
    -- and no ask changes anything, at any moment
    pub acquire_keeps : (r : Request P) → (acquire U K r c).after ≡ c
