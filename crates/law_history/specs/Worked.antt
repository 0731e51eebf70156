-- Runs on one slot, under three plans, with their answers, which follow from document 01's rules and document 02, Items 2, 3, 6 and 13.
use Rattle.std.specs.Prelude.{ℕ, List, [], ◌∷◌, replicate}
use Rattle.rate.specs.declared.answer.Numbers.{Numbers}
use Rattle.ticks.specs.declared.plan.Plan.{Plan}
use Rattle.table.specs.Worked.{line}
use Rattle.law_history.specs.Run.{Call, acquire, peek, clear}

-- limit, period, burst
unfoldable pub terms : ℕ → ℕ → ℕ → Plan
terms limit period burst = record { limit = limit; period = period; burst = burst }

-- plan 0 is document 01's; plan 1 is slower and has a larger burst; plan 2 has the values of plan 0
unfoldable pub plans : List Plan
plans =
    terms 3 1000 2
    ∷ terms 1 1000 4
    ∷ terms 3 1000 2
    ∷ []

-- In the lists below an acquire has a moment, a subscriber, a plan's number and a cost, and a peek all but the cost; an answer has
-- its outcome, subscriber, left, reset and wait.

-- Moments fall: after an admission, after a refusal, and after a clear; some are equal, and some lie beyond the limit.
unfoldable pub falling : List Call
falling =
    -- two admissions at one moment, and a wait
    acquire 1000 7 0 1
    ∷ acquire 1000 7 0 1
    ∷ acquire 1000 7 0 1
    -- before the newest moment: 11 comes before 4 and 5
    ∷ acquire 999 7 0 1
    ∷ acquire 999 0 0 0
    ∷ peek 999 7 0
    -- at it, and beyond the limit
    ∷ acquire 1000 0 0 0
    ∷ acquire 1000 7 0 0
    ∷ acquire 1000 7 0 3
    ∷ acquire 4398046511104 7 0 1
    ∷ peek 4398046511104 7 0
    -- no free slot; neither that nor a look is an admission, so 1200 is not before the newest
    ∷ acquire 1334 8 0 2
    ∷ peek 1334 7 0
    ∷ acquire 1200 7 0 1
    -- shop 8 takes the slot, and its moment is the newest for shop 7 too
    ∷ acquire 1667 8 0 2
    ∷ acquire 1666 7 0 1
    ∷ peek 1667 7 0
    -- after a clear an early moment is admitted again
    ∷ clear
    ∷ acquire 5 7 0 2
    ∷ acquire 4 7 0 1
    -- a rest leaves no credit
    ∷ acquire 1000000 7 0 2
    ∷ acquire 1000000 7 0 1
    ∷ []

unfoldable pub falling_answers : List Numbers
falling_answers =
    line 0 7 1 1334 0
    ∷ line 0 7 0 1667 0
    ∷ line 8 7 0 1667 334
    ∷ line 11 7 0 0 0
    ∷ line 11 0 0 0 0
    ∷ line 11 7 0 0 0
    ∷ line 4 0 0 0 0
    ∷ line 5 7 0 0 0
    ∷ line 6 7 0 0 0
    ∷ line 3 7 0 0 0
    ∷ line 3 7 0 0 0
    ∷ line 9 8 0 0 0
    ∷ line 0 7 1 1667 0
    ∷ line 8 7 0 1667 134
    ∷ line 0 8 0 2334 0
    ∷ line 11 7 0 0 0
    ∷ line 0 7 2 1667 0
    ∷ line 0 0 0 0 0
    ∷ line 0 7 0 672 0
    ∷ line 11 7 0 0 0
    ∷ line 0 7 0 1000667 0
    ∷ line 8 7 0 1000667 334
    ∷ []

-- Waits near the clock's end.
unfoldable pub ending : List Call
ending =
    -- a wait that ends at the last moment is told, and enough; one that would end later is not on this clock
    acquire 4398046510769 7 0 2
    ∷ acquire 4398046510769 7 0 1
    ∷ acquire 4398046510769 7 0 2
    ∷ acquire 4398046511103 7 0 1
    ∷ acquire 4398046511103 7 0 1
    -- after an admission at the last moment none is left
    ∷ acquire 1667 8 0 1
    ∷ acquire 4398046511104 8 0 1
    -- the same wait a millisecond later runs off the clock, and changes nothing
    ∷ clear
    ∷ acquire 4398046510770 7 0 2
    ∷ acquire 4398046510770 7 0 1
    ∷ peek 4398046510770 7 0
    ∷ []

unfoldable pub ending_answers : List Numbers
ending_answers =
    line 0 7 0 4398046511436 0
    ∷ line 8 7 0 4398046511436 334
    ∷ line 13 7 0 0 0
    ∷ line 0 7 0 4398046511769 0
    ∷ line 13 7 0 0 0
    ∷ line 11 8 0 0 0
    ∷ line 3 8 0 0 0
    ∷ line 0 0 0 0 0
    ∷ line 0 7 0 4398046511437 0
    ∷ line 13 7 0 0 0
    ∷ line 0 7 0 4398046511437 0
    ∷ []

-- A change of plan while something is owed (Item 3), and slots that are free by their own plan.
unfoldable pub owing : List Call
owing =
    -- shop 7 owes 1000 ticks by plan 0, which are gone after 1000 / 3 = 333.4 ms, at 1334
    acquire 1000 7 0 1
    -- till then another plan gets 12, also one with the same values; and nothing changes
    ∷ acquire 1100 7 1 1
    ∷ peek 1100 7 1
    ∷ acquire 1100 7 2 1
    ∷ peek 1100 7 2
    ∷ peek 1100 7 0
    -- a plan that is not lent; and before 12 the other checks, of which 6 goes by the plan asked for
    ∷ acquire 1100 7 3 1
    ∷ peek 1100 7 3
    ∷ peek 999 7 1
    ∷ acquire 1100 7 1 0
    ∷ acquire 1100 7 1 5
    ∷ acquire 1100 7 1 3
    ∷ acquire 1100 7 0 3
    -- at 1333 shop 7 owes 1000 − 3×333 = 1, at 1334 nothing, and the slot is free; by plan 1 it would owe 1000 − 334 = 666
    ∷ acquire 1333 8 1 2
    ∷ acquire 1334 8 1 2
    -- at 2100 shop 8 owes 2000 − 766 = 1234, and the slot is not free; by plan 0 it would owe nothing, as 3×766 = 2298
    ∷ acquire 2100 7 0 1
    -- whoever owes nothing may look under any plan
    ∷ peek 2100 7 0
    ∷ peek 2100 7 1
    ∷ []

unfoldable pub owing_answers : List Numbers
owing_answers =
    line 0 7 1 1334 0
    ∷ line 12 7 0 0 0
    ∷ line 12 7 0 0 0
    ∷ line 12 7 0 0 0
    ∷ line 12 7 0 0 0
    ∷ line 0 7 1 1334 0
    ∷ line 1 7 0 0 0
    ∷ line 1 7 0 0 0
    ∷ line 11 7 0 0 0
    ∷ line 5 7 0 0 0
    ∷ line 6 7 0 0 0
    ∷ line 12 7 0 0 0
    ∷ line 6 7 0 0 0
    ∷ line 9 8 0 0 0
    ∷ line 0 8 2 3334 0
    ∷ line 9 7 0 0 0
    ∷ line 0 7 2 2100 0
    ∷ line 0 7 4 2100 0
    ∷ []

-- A change of plan once nothing is owed, and the way back.
unfoldable pub changing : List Call
changing =
    acquire 1334 8 1 2
    ∷ acquire 3333 8 0 2
    ∷ acquire 3334 8 0 2
    -- back under plan 1 the new call alone counts, 3000; with the call at 3334 it would be 1333 more, and 4333 is above 4000
    ∷ peek 4000 8 1
    ∷ acquire 4001 8 1 3
    ∷ acquire 4001 8 1 2
    -- shop 7 takes the slot under plan 2; plan 0 has the same values, and is another
    ∷ acquire 7000 7 2 1
    ∷ acquire 7001 7 2 1
    ∷ acquire 7334 7 0 1
    ∷ acquire 7335 7 0 2
    ∷ peek 7335 7 2
    ∷ peek 7335 7 0
    -- a clear ends every book
    ∷ clear
    ∷ acquire 0 7 1 4
    ∷ []

unfoldable pub changing_answers : List Numbers
changing_answers =
    line 0 8 2 3334 0
    ∷ line 12 8 0 0 0
    ∷ line 0 8 0 4001 0
    ∷ line 12 8 0 0 0
    ∷ line 0 8 1 7001 0
    ∷ line 8 8 1 7001 1000
    ∷ line 9 7 0 0 0
    ∷ line 0 7 1 7335 0
    ∷ line 12 7 0 0 0
    ∷ line 0 7 0 8002 0
    ∷ line 12 7 0 0 0
    ∷ line 0 7 0 8002 0
    ∷ line 0 0 0 0 0
    ∷ line 0 7 0 4000 0
    ∷ []

-- Plans of which one is bad, with a burst of 0: number 4, which no call asks for.
unfoldable pub spoilt : List Plan
spoilt =
    terms 3 1000 2
    ∷ terms 1 1000 4
    ∷ terms 3 1000 2
    ∷ terms 3 1000 2
    ∷ terms 3 1000 0
    ∷ []

-- more than 16, all of them good
unfoldable pub too_many : List Plan
too_many = replicate 17 (terms 3 1000 2)

-- under these, and under none, every ask and look gets 1, and a clear still 0
unfoldable pub refusals : List Call → List Numbers
refusals [] = []
refusals (acquire moment subscriber plan cost ∷ rest) = line 1 subscriber 0 0 0 ∷ refusals rest
refusals (peek moment subscriber plan ∷ rest) = line 1 subscriber 0 0 0 ∷ refusals rest
refusals (clear ∷ rest) = line 0 0 0 0 0 ∷ refusals rest
