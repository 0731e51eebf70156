-- The laws of `specs/Laws`, each by its proof.
-- Assumes nothing.
use mathlib.Core.Path.{◌≡◌, refl, sym, ap, ◌∙◌}
use mathlib.Core.Bool.{Bool, true, false, cond, ◌&&◌, and-false}
use mathlib.Core.List.{List, [], ◌∷◌, ◌++◌, append-nil}
use Prim.Native.Nat.{ℕ, ◌≤◌, ◌<◌}
use native.Mathlib.Omega.{arith}
use lib.Dec.{eqb, leb}
use lib.ListN.{length, length-take}
use borrow.Author.Tests.{le-leb, lt-leb}
use Rattle.ticks.specs.declared.plan.Plan as plan
use Rattle.ticks.specs.Grains.{plan_ok}
use Rattle.table.specs.Request.{request_of}
use Rattle.table_gcra.specs.Table.{Table, acquire}
use Rattle.text_tsv.specs.Text.{Line, lf, lines}
use Rattle.text_tsv.proofs.Laws as tsv
use Rattle.text_protocol.specs.declared.command.Command.{Command}
use Rattle.text_protocol.specs.declared.command.Command.TheVariants.{Plan, Ask}
use Rattle.text_protocol.specs.Command.{most_line, line_command}
use Rattle.text_protocol.specs.Reply.{header, line, refusal}
use Rattle.std.specs.Prelude.{Option, Some, None, Result, Ok, Err}
use Rattle.rate.specs.declared.answer.Reason.TheVariants.{BadTable}
use Rattle.rate.proofs.Answers.{bad_plan, bad_table}
use Rattle.text_session.specs.declared.Opened.{Opened}
use Rattle.text_session.specs.declared.Refusal.{Refusal}
use Rattle.text_session.specs.declared.Refusal.TheVariants.{Because}
use Rattle.text_session.specs.declared.Stage.TheVariants.{First, Open}
use Rattle.text_session.specs.Session.{text_slots, opened, number_of, opening, only, turn, back, answer, unended, Lent}
use Rattle.text_session.specs.Transcript.{run, begun, answers, transcript}
use Rattle.text_session.specs.Stream.{State, at_lf, kept, moved, after, start}
use Rattle.text_session.specs.Laws.{OpeningLaws, AnswerLaws, TranscriptLaws, Laws}
use Rattle.text_session.proofs.Columns.{Roomy, back_same, cleared, zeros}
use Rattle.text_session.proofs.Streamed as streamed
use Rattle.text_session.proofs.Turning as turning
use Rattle.text_session.proofs.Worked as worked

-- what the first line comes to
module _ (n : ℕ) (p : plan.Plan) (ok : plan_ok p ≡ true) where
  slots_within : 1 ≤ n → n ≤ 1024 → opening (Some (Plan n p)) ≡ Ok (opened p n)
  slots_within some most =
      let within : n ≤ text_slots = omega arith in
      sym (turning.opening_good (Some (Plan n p)) refl ok (rw (le-leb 1 n some, le-leb n text_slots within)))

  slots_beyond : 1025 ≤ n → opening (Some (Plan n p)) ≡ Err (Because BadTable)
  slots_beyond h =
      let beyond : text_slots < n = omega arith in
      turning.opening_bad_slots (Some (Plan n p)) refl ok (ap (λ (t : Bool). leb 1 n && t) (lt-leb n text_slots beyond) ∙ and-false (leb 1 n))

of_openings : OpeningLaws
unfolding number_of opening
of_openings =
    record {
      no_plan_10 = refl;
      bad_plan_1 = bad_plan;
      bad_slots_2 = bad_table;
      unreadable_first = refl;
      ask_first = λ m s c. refl;
      plan_outside = λ n p bad. turning.opening_bad_plan (Some (Plan n p)) refl bad;
      slots_within = slots_within;
      slots_beyond = slots_beyond;
      slots_none = λ p ok. turning.opening_bad_slots (Some (Plan 0 p)) refl ok refl;
    }

-- what a line is told
first_opened :
    (n : ℕ) (p : plan.Plan) (t : Table) → plan_ok p ≡ true → 1 ≤ n → n ≤ 1024 → Lent t.table.ids t.numbers t.table.tats →
    answer First (Some (Plan n p)) t ≡ record { reply = None; stage = Open (opened p n); table = back n t (zeros n) }
unfolding answer
first_opened n p t ok some most lent =
    let room : Roomy n t =
    record { in_ids = omega (arith, lent.in_ids); in_numbers = omega (arith, lent.in_numbers); in_tats = omega (arith, lent.in_tats) } in
    let zeroed = cleared n t room (le-leb 1 n some) (omega arith) in
    sym (turning.first_opened (Some (Plan n p)) t (slots_within n p ok some most) (sym zeroed))

of_answers : AnswerLaws
unfolding answer turn unended
of_answers =
    record {
      first_refused = λ c t r e. sym (turning.first_refused c t e refl refl);
      first_opened = first_opened;
      asked = λ p n m s c t. refl;
      unreadable_told = λ p n t. ap (λ (u : Table). record { reply = Some (refusal 10); stage = Open (opened p n); table = u }) (back_same n t);
      second_plan = λ p n k q t. ap (λ (u : Table). record { reply = Some (refusal 10); stage = Open (opened p n); table = u }) (back_same n t);
      over_told = λ c t. refl;
      unended_first = refl;
      unended_open = λ p n. refl;
      unended_over = refl;
    }

-- the whole output
empty_input : transcript [] ≡ header
unfolding transcript answers
empty_input =
    ap (λ (ls : List Line). header ++ answers ls) (tsv.laws).of_lines.no_line ∙ append-nil header

-- by what the first line comes to
begun_is :
    (text : List ℕ) (l : Line) (ls : List Line) (o : Result Opened Refusal) → lines text ≡ l ∷ ls → opening (line_command l) ≡ o →
    transcript text ≡ header ++ begun o ls
unfolding transcript answers
begun_is text l ls o e f =
    ap (λ (k : List Line). header ++ answers k) e ∙ ap (λ (x : Result Opened Refusal). header ++ begun x ls) f

refused_run :
    (text : List ℕ) (l : Line) (ls : List Line) (r : Refusal) → lines text ≡ l ∷ ls → opening (line_command l) ≡ Err r →
    transcript text ≡ header ++ line (refusal (number_of r))
unfolding begun
refused_run text l ls r e f = begun_is text l ls (Err r) e f

opened_run :
    (text : List ℕ) (l : Line) (ls : List Line) (p : plan.Plan) (n : ℕ) → lines text ≡ l ∷ ls → opening (line_command l) ≡ Ok (opened p n) →
    transcript text ≡ header ++ run p (zeros n) ls
unfolding begun
opened_run text l ls p n e f = begun_is text l ls (Ok (opened p n)) e f

-- by what any other line says
module _ (p : plan.Plan) (t : Table) (l : Line) (ls : List Line) where
  next_is : (c : Option Command) → line_command l ≡ c → run p t (l ∷ ls) ≡ line (turn p c t).answer ++ run p (turn p c t).after ls
  unfolding run
  next_is c e = ap (λ (d : Option Command). line (turn p d t).answer ++ run p (turn p d t).after ls) e

  ask_next :
      (m s c : ℕ) → line_command l ≡ Some (Ask m s c) →
      run p t (l ∷ ls) ≡ line (acquire (request_of (only p) m s c) t).answer ++ run p (acquire (request_of (only p) m s c) t).after ls
  unfolding turn
  ask_next m s c e = next_is (Some (Ask m s c)) e

  unreadable_next : line_command l ≡ None → run p t (l ∷ ls) ≡ line (refusal 10) ++ run p t ls
  unfolding turn
  unreadable_next e = next_is None e

  plan_next : (k : ℕ) (q : plan.Plan) → line_command l ≡ Some (Plan k q) → run p t (l ∷ ls) ≡ line (refusal 10) ++ run p t ls
  unfolding turn
  plan_next k q e = next_is (Some (Plan k q)) e

moved_held : (σ : State) (b : ℕ) → length (moved σ b).held ≤ 128
unfolding moved
moved_held σ b = by (eqb b lf)
  where
    by :
        (t : Bool) →
        length (cond {A = State} t (record { stage = (at_lf σ).stage; table = (at_lf σ).table; held = [] }) (kept σ (b ∷ []))).held ≤ 128
    by true = omega arith
    by false = omega (arith, length-take most_line (σ.held ++ (b ∷ [])))

after_held : (s : List ℕ) (σ : State) → length σ.held ≤ 128 → length (after σ s).held ≤ 128
unfolding after
after_held [] σ h = h
after_held (b ∷ s) σ h = after_held s (moved σ b) (moved_held σ b)

of_transcripts : TranscriptLaws
unfolding run
of_transcripts =
    record {
      empty_input = empty_input;
      refused_run = refused_run;
      opened_run = opened_run;
      ask_next = ask_next;
      unreadable_next = unreadable_next;
      plan_next = plan_next;
      none_next = λ p t. refl;
      streamed = streamed.streamed;
      said_append = streamed.said_append;
      after_append = streamed.after_append;
      held_most = λ t text. after_held text (start t) (omega arith);
      worked = worked.worked;
    }

pub laws : Laws
laws = record { of_openings = of_openings; of_answers = of_answers; of_transcripts = of_transcripts }
