-- The laws of the text program's lines (document 01, 'The tabbed text'), with its words, its order of fields and its numbers.
use Rattle.std.specs.Prelude.{ℕ, ◌+◌, ◌≤◌, ◌≡◌, true, false, ◌⊎◌, List, [], ◌∷◌, ◌++◌, length, Some, None}
use Rattle.ticks.specs.declared.plan.Plan as plan
use Rattle.rate.specs.declared.answer.Numbers.{Numbers}
use Rattle.text_tsv.specs.Text.{bytes_of}
use Rattle.text_tsv.specs.Decimal.{digits}
use Rattle.text_tsv.specs.Laws.{joined, Numeral}
use Rattle.text_protocol.specs.declared.command.Command.TheVariants.{Plan, Ask}
use Rattle.text_protocol.specs.Command.{command, line_command}
use Rattle.text_protocol.specs.Reply.{header, line, refusal, unreadable}

-- the moment fits 64 bits and the rest 32
abbrev pub Fits64 : List ℕ → ℕ → Type 0
Fits64 text n = Numeral text n × (n ≤ 18446744073709551615)

abbrev pub Fits32 : List ℕ → ℕ → Type 0
Fits32 text n = Numeral text n × (n ≤ 4294967295)

-- `ask`, moment, subscriber, cost, parted by one tab, and no more
pub record AskLine (bytes : List ℕ) (m s c : ℕ) : Type 0 where
  pub first : List ℕ
  pub second : List ℕ
  pub third : List ℕ
  pub is : bytes ≡ joined (bytes_of "ask" ∷ first ∷ second ∷ third ∷ [])
  pub moment : Fits64 first m
  pub subscriber : Fits32 second s
  pub cost : Fits32 third c

-- `plan`, seats, limit, period, burst
pub record PlanLine (bytes : List ℕ) (n : ℕ) (p : plan.Plan) : Type 0 where
  pub first : List ℕ
  pub second : List ℕ
  pub third : List ℕ
  pub fourth : List ℕ
  pub is : bytes ≡ joined (bytes_of "plan" ∷ first ∷ second ∷ third ∷ fourth ∷ [])
  pub slots : Fits32 first n
  pub limit : Fits32 second p.limit
  pub period : Fits32 third p.period
  pub burst : Fits32 fourth p.burst

-- what a line says; it says nothing unless it is an ask or a plan
pub record CommandLaws : Type 0 where
  pub ask_exactly :
      (bytes : List ℕ) (m s c : ℕ) → (command bytes ≡ Some (Ask m s c) → AskLine bytes m s c) × (AskLine bytes m s c → command bytes ≡ Some (Ask m s c))
  pub plan_exactly :
      (bytes : List ℕ) (n : ℕ) (p : plan.Plan) →
      (command bytes ≡ Some (Plan n p) → PlanLine bytes n p) × (PlanLine bytes n p → command bytes ≡ Some (Plan n p))
  -- and so is one with a number that does not fit
  pub ask_beyond :
      (first second third : List ℕ) (m s c : ℕ) → Numeral first m → Numeral second s → Numeral third c →
      (18446744073709551616 ≤ m) ⊎ ((4294967296 ≤ s) ⊎ (4294967296 ≤ c)) →
      command (joined (bytes_of "ask" ∷ first ∷ second ∷ third ∷ [])) ≡ None
  pub plan_beyond :
      (first second third fourth : List ℕ) (n l p b : ℕ) → Numeral first n → Numeral second l → Numeral third p → Numeral fourth b →
      (4294967296 ≤ n) ⊎ ((4294967296 ≤ l) ⊎ ((4294967296 ≤ p) ⊎ (4294967296 ≤ b))) →
      command (joined (bytes_of "plan" ∷ first ∷ second ∷ third ∷ fourth ∷ [])) ≡ None
  -- a line of up to 128 bytes with its LF is read
  pub line_read : (bytes : List ℕ) → length bytes + 1 ≤ 128 → line_command (record { bytes = bytes; ended = true }) ≡ command bytes
  -- one of 129 or more is not
  pub line_too_long : (bytes : List ℕ) → 129 ≤ length bytes + 1 → line_command (record { bytes = bytes; ended = true }) ≡ None
  -- nor is one that lacks its LF
  pub line_unended : (bytes : List ℕ) → line_command (record { bytes = bytes; ended = false }) ≡ None

-- what is written
pub record ReplyLaws : Type 0 where
  pub header_bytes : header ≡ bytes_of "outcome\tsubscriber\tleft\treset\twait\n"
  -- the numbers of an answer in the header's order, and an LF
  pub answer_line :
      (a : Numbers) →
      line a
      ≡ joined (digits a.number ∷ digits a.subscriber ∷ digits a.left ∷ digits a.reset ∷ digits a.wait ∷ []) ++ (10 ∷ [])
  -- it has at most 105 bytes
  pub answer_length : (a : Numbers) → length (line a) ≤ 105
  -- a line that cannot be read gets number 10 and four zeros
  pub unreadable_line : refusal unreadable ≡ record { number = 10; subscriber = 0; left = 0; reset = 0; wait = 0 }

pub record Laws : Type 0 where
  pub of_commands : CommandLaws
  pub of_replies : ReplyLaws
