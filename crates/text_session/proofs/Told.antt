-- A line answered: its reply, and then what is still to be said of the lines after it, is what was to be said before. The
-- first line ends the run or clears the table, and any other is a turn.
-- Assumes nothing.
use mathlib.Core.Path.{◌≡◌, refl, sym, ap}
use mathlib.Core.Bool.{Bool, true, false, cond, ◌&&◌}
use mathlib.Core.List.{List, [], ◌∷◌, ◌++◌, append-nil}
use Prim.Native.Nat.{ℕ, ◌≤◌}
use native.Mathlib.Omega.{arith}
use lib.Dec.{leb}
use borrow.Author.Tests.{leb-true}
use Rattle.ticks.specs.declared.plan.Plan as plan
use Rattle.ticks.specs.Grains.{plan_ok}
use Rattle.ticks.proofs.Tests.{both}
use Rattle.table_gcra.specs.Table.{Table}
use Rattle.table_gcra.proofs.Lengths.{SameLengths}
use Rattle.text_tsv.specs.Text.{Line}
use Rattle.text_tsv.proofs.Lines.{unended_line}
use Rattle.text_protocol.specs.declared.command.Command.{Command}
use Rattle.text_protocol.specs.declared.command.Command.TheVariants.{Plan, Ask}
use Rattle.text_protocol.specs.Command.{line_command}
use Rattle.text_protocol.specs.Reply.{line, refusal, unreadable}
use Rattle.text_protocol.proofs.Reading.{unended_says_nothing}
use Rattle.std.specs.Prelude.{Option, Some, None, Ok, Err}
use Rattle.rate.specs.declared.answer.Numbers as numbers
use Rattle.rate.specs.declared.answer.Reason.TheVariants.{BadPlan, BadTable}
use Rattle.text_session.specs.declared.Opened.{Opened}
use Rattle.text_session.specs.declared.Refusal.{Refusal}
use Rattle.text_session.specs.declared.Refusal.TheVariants.{NoPlan, Because}
use Rattle.text_session.specs.declared.Stage.{Stage}
use Rattle.text_session.specs.declared.Stage.TheVariants.{First, Open, Over}
use Rattle.text_session.specs.Session.{text_slots, opened, number_of, opening, turn, Told, part, back, first, answer, unended}
use Rattle.text_session.specs.Transcript.{run, begun, answers}
use Rattle.text_session.specs.Stream.{text_of}
use Rattle.text_session.proofs.Columns.{turn_lengths, zeros, Roomy, put_back, room_back, zeros_lengths, cleared}

-- what is still to be said of some lines
unfoldable pub rest : Stage → Table → List Line → List ℕ
rest First t ls = answers ls
rest (Open o) t ls = run o.plan (part o.slots t) ls
rest Over t ls = []

-- the columns have the slots that a stage needs
abbrev pub Fit : Stage → Table → Type 0
Fit First t = Roomy text_slots t
Fit (Open o) t = Roomy o.slots t
Fit Over t = Unit {0}

-- what is told and left is right for what should be said, whatever lines come after
pub record Right (d : Told) (should : List Line → List ℕ) : Type 0 where
  pub says : (ls : List Line) → text_of d.reply ++ rest d.stage d.table ls ≡ should ls
  pub fits : Fit d.stage d.table

refused_right : (r : Refusal) (t : Table) → Right (first (Err r) t) (begun (Err r))
unfolding first rest begun text_of
refused_right r t = record { says = λ ls. append-nil (line (refusal (number_of r))); fits = tt }

-- an open run goes on with the table that is put back
open_right :
    (o : Opened) (t : Table) → Roomy o.slots t → (reply : Option numbers.Numbers) (u : Table) → SameLengths u (part o.slots t) →
    Right (record { reply = reply; stage = Open o; table = back o.slots t u }) (λ ls. text_of reply ++ run o.plan u ls)
unfolding rest
open_right o t room reply u same =
    record {
      says = λ ls. ap (λ (v : Table). text_of reply ++ run o.plan v ls) (put_back o.slots t room u same);
      fits = room_back o.slots t room u same;
    }

opened_right :
    (plan : plan.Plan) (slots : ℕ) (t : Table) → Roomy text_slots t → leb 1 slots ≡ true → slots ≤ text_slots →
    Right (first (Ok (opened plan slots)) t) (begun (Ok (opened plan slots)))
unfolding first begun text_of
opened_right plan slots t enough some most =
    let room : Roomy slots t = record {
      in_ids = omega (arith, enough.in_ids);
      in_numbers = omega (arith, enough.in_numbers);
      in_tats = omega (arith, enough.in_tats);
    } in
    rw (cleared slots t room some most) (open_right (opened plan slots) t room None (zeros slots) (zeros_lengths slots t room))

module _ (t : Table) (enough : Roomy text_slots t) where
  plan_right : (plan : plan.Plan) (slots : ℕ) → Right (first (opening (Some (Plan slots plan))) t) (begun (opening (Some (Plan slots plan))))
  unfolding opening
  plan_right plan slots = by (plan_ok plan) (leb 1 slots && leb slots text_slots) refl
    where
      by :
          (ok within : Bool) → (leb 1 slots && leb slots text_slots) ≡ within →
          Right (first (cond ok (cond within (Ok (opened plan slots)) (Err (Because BadTable))) (Err (Because BadPlan))) t)
          (begun (cond ok (cond within (Ok (opened plan slots)) (Err (Because BadTable))) (Err (Because BadPlan))))
      by false within e = refused_right (Because BadPlan) t
      by true false e = refused_right (Because BadTable) t
      by true true e = let h = both _ _ e in opened_right plan slots t enough h.0 (leb-true _ _ h.1)

  first_right : (c : Option Command) → Right (first (opening c) t) (begun (opening c))
  unfolding opening
  first_right (Some (Plan slots plan)) = plan_right plan slots
  first_right (Some (Ask moment subscriber cost)) = refused_right NoPlan t
  first_right None = refused_right NoPlan t

module _ (t : Table) where
  -- a line answered at any stage
  pub answer_right :
      (stage : Stage) → Fit stage t → (l : Line) → Right (answer stage (line_command l) t) (λ ls. rest stage t (l ∷ ls))
  unfolding answer rest answers run text_of
  answer_right First fit l = first_right t fit (line_command l)
  answer_right (Open o) fit l =
      let step = turn o.plan (line_command l) (part o.slots t) in
      open_right o t fit (Some step.answer) step.after (turn_lengths o.plan (line_command l) (part o.slots t))
  answer_right Over fit l = record { says = λ ls. refl; fits = tt }

  -- the last line, if it lacks its LF
  pub unended_right : (stage : Stage) (p : List ℕ) → text_of (unended stage) ≡ rest stage t (unended_line p ∷ [])
  unfolding unended rest answers run begun number_of opening turn text_of
  unended_right First p = rw (unended_says_nothing p)
  unended_right (Open o) p = rw (unended_says_nothing p) (sym (append-nil (line (refusal unreadable))))
  unended_right Over p = refl

  -- and if there is none
  pub rest_none : (stage : Stage) → rest stage t [] ≡ []
  unfolding rest answers run
  rest_none First = refl
  rest_none (Open o) = refl
  rest_none Over = refl
