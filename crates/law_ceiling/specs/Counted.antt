-- What document 02, Item 7 counts: the cost that one subscriber was admitted under one plan, told by its number, in a stretch of time; in
-- the history since the last clear, and in what a host notes of a run.
use Rattle.std.specs.Prelude.{ℕ, Bool, cond, ◌&&◌, List, [], ◌∷◌, ◌++◌, eqb, leb}
use Rattle.ticks.specs.declared.plan.Plan.{Plan}
use Rattle.rate.specs.declared.answer.Numbers.{Numbers}
use Rattle.plans.specs.Plans.{Plans}
use Rattle.table.specs.Rule.{Rule}
use Rattle.table.specs.Slots.{Columns}
use Rattle.table.specs.Calls as calls
use Rattle.law_history.specs.History.{Entry, calls_of, costs}
use Rattle.law_history.specs.Run.{Call, acquire, peek, clear, Machine, engine, history, step, answers}

-- the calls that pass a test, in order
unfoldable pub select : (Entry → Bool) → List Entry → List Entry
select test [] = []
select test (e ∷ rest) = cond (test e) (e ∷ select test rest) (select test rest)

-- a call names the plan with the number
abbrev pub under : ℕ → Entry → Bool
under number e = eqb e.plan number

-- a subscriber's calls under one plan
abbrev pub calls_under : ℕ → ℕ → List Entry → List Entry
calls_under who number h = select (under number) (calls_of who h)

-- a call's moment is in the stretch, both end moments included
abbrev pub during : ℕ → ℕ → Entry → Bool
during from to e = leb from e.moment && leb e.moment to

-- c: what the subscriber was admitted under the plan in the stretch
unfoldable pub units : ℕ → ℕ → ℕ → ℕ → List Entry → ℕ
units who number from to h = costs (select (during from to) (calls_under who number h))

-- the state after a run
unfoldable pub final : {S : Type 0} → Machine S → List Plan → S → List Call → S
final M ps s [] = s
final M ps s (c ∷ rest) = final M ps (step M ps s c).after rest

-- the history after a run, on a table of so many slots
abbrev pub booked : ℕ → List Plan → List Call → List Entry
booked slots ps run = final (history slots) ps [] run

-- what a host notes of a call that was answered 0: an acquire is added, and a clear begins anew
unfoldable pub note : List Entry → Call → List Entry
note h (acquire moment subscriber plan cost) =
    h ++ (record { subscriber = subscriber; moment = moment; plan = plan; cost = cost } ∷ [])
note h (peek moment subscriber plan) = h
note h clear = []

-- .. and of a run, from the calls and their answers alone
unfoldable pub noted : List Entry → List Call → List Numbers → List Entry
noted h [] said = h
noted h (c ∷ rest) [] = h
noted h (c ∷ rest) (a ∷ more) = noted (cond (eqb a.number 0) (note h c) h) rest more

-- what a host notes of an engine's answers to a run, on columns that it has cleared
abbrev pub notes : {C R : Type 0} → Rule Plans R → Columns C R → List Plan → C → List Call → List Entry
notes U K ps c run = noted [] run (answers (engine U K) ps (calls.clear K c).after run)
