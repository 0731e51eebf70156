-- The laws of a run of the text program (document 01, 'The tabbed text'), with its numbers.
use Rattle.std.specs.Prelude.{ℕ, ◌≤◌, ◌≡◌, true, false, List, [], ◌∷◌, ◌++◌, length, drop, replicate, Option, Some, None, Ok, Err}
use Rattle.ticks.specs.declared.plan.Plan as plan
use Rattle.ticks.specs.Grains.{plan_ok}
use Rattle.rate.specs.declared.answer.Numbers as numbers
use Rattle.rate.specs.declared.answer.Reason.TheVariants.{BadPlan, BadTable}
use Rattle.plans.specs.Plans.{plans_of}
use Rattle.table.specs.Request.{request_of}
use Rattle.table_gcra.specs.Table.{Table, table_of, acquire}
use Rattle.text_tsv.specs.Text.{Line, lines}
use Rattle.text_protocol.specs.declared.command.Command.{Command}
use Rattle.text_protocol.specs.declared.command.Command.TheVariants.{Plan, Ask}
use Rattle.text_protocol.specs.Command.{line_command}
use Rattle.text_protocol.specs.Reply.{header, line}
use Rattle.text_session.specs.declared.Refusal.{Refusal}
use Rattle.text_session.specs.declared.Refusal.TheVariants.{NoPlan, Because}
use Rattle.text_session.specs.declared.Stage.TheVariants.{First, Open, Over}
use Rattle.text_session.specs.Session.{opened, number_of, opening, part, back, answer, unended, Lent}
use Rattle.text_session.specs.Transcript.{run, transcript}
use Rattle.text_session.specs.Stream.{State, said, after, ending, start}
use Rattle.text_session.specs.Worked.{input, expected}

-- a number and four zeros
abbrev pub with_zeros : ℕ → numbers.Numbers
with_zeros n = record { number = n; subscriber = 0; left = 0; reset = 0; wait = 0 }

-- what the first line comes to
pub record OpeningLaws : Type 0 where
  -- the numbers of what ends the run: no plan, a plan outside its limits, and slots outside theirs
  pub no_plan_10 : number_of NoPlan ≡ 10
  pub bad_plan_1 : number_of (Because BadPlan) ≡ 1
  pub bad_slots_2 : number_of (Because BadTable) ≡ 2
  -- one that is no plan
  pub unreadable_first : opening None ≡ Err NoPlan
  pub ask_first : (m s c : ℕ) → opening (Some (Ask m s c)) ≡ Err NoPlan
  -- a plan outside its limits, with however many slots
  pub plan_outside : (n : ℕ) (p : plan.Plan) → plan_ok p ≡ false → opening (Some (Plan n p)) ≡ Err (Because BadPlan)
  -- more than 1,024 slots is 2 here, and so is none
  pub slots_within : (n : ℕ) (p : plan.Plan) → plan_ok p ≡ true → 1 ≤ n → n ≤ 1024 → opening (Some (Plan n p)) ≡ Ok (opened p n)
  pub slots_beyond : (n : ℕ) (p : plan.Plan) → plan_ok p ≡ true → 1025 ≤ n → opening (Some (Plan n p)) ≡ Err (Because BadTable)
  pub slots_none : (p : plan.Plan) → plan_ok p ≡ true → opening (Some (Plan 0 p)) ≡ Err (Because BadTable)

-- what a line is told, and what it leads to
pub record AnswerLaws : Type 0 where
  -- a first line that is refused is answered with its number and zeros, and ends the run
  pub first_refused :
      (c : Option Command) (t : Table) (r : Refusal) → opening c ≡ Err r →
      answer First c t ≡ record { reply = Some (with_zeros (number_of r)); stage = Over; table = t }
  -- a good one prints nothing, and clears its slots and the newest moment (document 02, Item 6)
  pub first_opened :
      (n : ℕ) (p : plan.Plan) (t : Table) → plan_ok p ≡ true → 1 ≤ n → n ≤ 1024 → Lent t.table.ids t.numbers t.table.tats →
      answer First (Some (Plan n p)) t
      ≡ record {
        reply = None;
        stage = Open (opened p n);
        table =
            table_of (replicate n 0 ++ drop n t.table.ids) (replicate n 0 ++ drop n t.numbers) (replicate n 0 ++ drop n t.table.tats) 0;
      }
  -- an ask is asked of the run's slots, under the run's plan, the only one that is lent
  pub asked :
      (p : plan.Plan) (n m s c : ℕ) (t : Table) →
      answer (Open (opened p n)) (Some (Ask m s c)) t
      ≡ record {
        reply = Some (acquire (request_of (plans_of (p ∷ []) 0) m s c) (part n t)).answer;
        stage = Open (opened p n);
        table = back n t (acquire (request_of (plans_of (p ∷ []) 0) m s c) (part n t)).after;
      }
  -- a line that cannot be read gets 10 and four zeros, and so does a second `plan` line; the run goes on
  pub unreadable_told :
      (p : plan.Plan) (n : ℕ) (t : Table) →
      answer (Open (opened p n)) None t ≡ record { reply = Some (with_zeros 10); stage = Open (opened p n); table = t }
  pub second_plan :
      (p : plan.Plan) (n k : ℕ) (q : plan.Plan) (t : Table) →
      answer (Open (opened p n)) (Some (Plan k q)) t ≡ record { reply = Some (with_zeros 10); stage = Open (opened p n); table = t }
  -- after its end a run says nothing
  pub over_told : (c : Option Command) (t : Table) → answer Over c t ≡ record { reply = None; stage = Over; table = t }
  -- a last line without LF
  pub unended_first : unended First ≡ Some (with_zeros 10)
  pub unended_open : (p : plan.Plan) (n : ℕ) → unended (Open (opened p n)) ≡ Some (with_zeros 10)
  pub unended_over : unended Over ≡ None

-- the whole output
pub record TranscriptLaws : Type 0 where
  -- empty input gives the header alone
  pub empty_input : transcript [] ≡ header
  -- after a first line that is refused nothing more is said
  pub refused_run :
      (text : List ℕ) (l : Line) (ls : List Line) (r : Refusal) → lines text ≡ l ∷ ls → opening (line_command l) ≡ Err r →
      transcript text ≡ header ++ line (with_zeros (number_of r))
  -- a good one prints nothing, and the others are answered on a table of empty slots
  pub opened_run :
      (text : List ℕ) (l : Line) (ls : List Line) (p : plan.Plan) (n : ℕ) →
      lines text ≡ l ∷ ls → opening (line_command l) ≡ Ok (opened p n) →
      transcript text ≡ header ++ run p (table_of (replicate n 0) (replicate n 0) (replicate n 0) 0) ls
  -- each line is answered and the next is taken: an ask
  pub ask_next :
      (p : plan.Plan) (t : Table) (l : Line) (ls : List Line) (m s c : ℕ) → line_command l ≡ Some (Ask m s c) →
      run p t (l ∷ ls) ≡ line (acquire (request_of (plans_of (p ∷ []) 0) m s c) t).answer ++ run p (acquire (request_of (plans_of (p ∷ []) 0) m s c) t).after ls
  -- a line that cannot be read
  pub unreadable_next :
      (p : plan.Plan) (t : Table) (l : Line) (ls : List Line) → line_command l ≡ None →
      run p t (l ∷ ls) ≡ line (with_zeros 10) ++ run p t ls
  -- a second `plan` line
  pub plan_next :
      (p : plan.Plan) (t : Table) (l : Line) (ls : List Line) (k : ℕ) (q : plan.Plan) → line_command l ≡ Some (Plan k q) →
      run p t (l ∷ ls) ≡ line (with_zeros 10) ++ run p t ls
  -- and none
  pub none_next : (p : plan.Plan) (t : Table) → run p t [] ≡ []
  -- byte by byte it is the same
  pub streamed :
      (t : Table) (text : List ℕ) → Lent t.table.ids t.numbers t.table.tats →
      header ++ (said (start t) text ++ ending (after (start t) text)) ≡ transcript text
  -- however the input is cut into pieces
  pub said_append : (σ : State) (a b : List ℕ) → said σ (a ++ b) ≡ said σ a ++ said (after σ a) b
  pub after_append : (σ : State) (a b : List ℕ) → after σ (a ++ b) ≡ after (after σ a) b
  -- with at most 128 bytes of the unfinished line kept
  pub held_most : (t : Table) (text : List ℕ) → length (after (start t) text).held ≤ 128
  -- document 01's example
  pub worked : transcript input ≡ expected

pub record Laws : Type 0 where
  pub of_openings : OpeningLaws
  pub of_answers : AnswerLaws
  pub of_transcripts : TranscriptLaws
