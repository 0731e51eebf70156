-- Document 01, 'Seats': what is meant by the own slot, a free one and a full table, and what an admission has written.
use Rattle.std.specs.Prelude.{ℕ, ◌<◌, ◌≡◌, Bool, true}
use Rattle.table.specs.Request.{Query, Request}
use Rattle.table.specs.Rule.{Rule}
use Rattle.table.specs.Slots.{Columns, NoneBelow, carries, vacant}
use Rattle.table.specs.Calls.{acquire}

-- the place passes, and none below it does
pub record Lowest (test : ℕ → Bool) (n i : ℕ) : Type 0 where
  pub within : i < n
  pub passes : test i ≡ true
  pub first : NoneBelow test i

module _ {C P R : Type 0} (K : Columns C R) (q : Query P) (c : C) where
  -- slot i carries the subscriber's number, and none below it does
  abbrev pub Own : ℕ → Type 0
  Own i = Lowest (carries (K.ids c) q.subscriber) (K.slots c) i

  -- no slot carries it
  abbrev pub Unknown : Type 0
  Unknown = NoneBelow (carries (K.ids c) q.subscriber) (K.slots c)

module _ {C P R : Type 0} (U : Rule P R) (K : Columns C R) (q : Query P) (c : C) where
  -- slot i is free, and none below it is
  abbrev pub Vacant : ℕ → Type 0
  Vacant i = Lowest (vacant U K q.setting q.moment c) (K.slots c) i

  -- no slot is free
  abbrev pub Full : Type 0
  Full = NoneBelow (vacant U K q.setting q.moment c) (K.slots c)

  -- the slot that an admission takes: its own, or without one the lowest free one
  pub data Taken (i : ℕ) : Type 0 where
    kept : Own K q c i → Taken i
    taken : Unknown K q c → Vacant i → Taken i

module _ {C P R : Type 0} (U : Rule P R) (K : Columns C R) (r : Request P) (c : C) where
  -- what an admission has written
  pub record Admission : Type 0 where
    pub place : ℕ
    pub held : R
    pub takes : Taken U K r.query c place
    pub after : (acquire U K r c).after ≡ K.put c place r.query.subscriber r.query.moment held
