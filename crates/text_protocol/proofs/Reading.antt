-- What a line says, by where its reading ends: at its first word, at a field that is no number, at a field too many, or after
-- its last field. A line that is too long says nothing, and that shows in its first 128 bytes.
-- Assumes nothing.
use mathlib.Core.Path.{◌≡◌, refl, sym, ap, ◌∙◌}
use mathlib.Core.Bool.{Bool, true, false}
use mathlib.Core.List.{List, [], ◌∷◌}
use Prim.Native.Nat.{ℕ, ◌+◌, ◌≤◌, ◌<◌}
use native.Mathlib.Omega.{arith}
use lib.Dec.{eqb, ltb}
use lib.ListN.{length, take}
use lib.Seq.{length-take-le, take_all}
use borrow.Author.Tests.{le-leb, lt-leb, ltb-true, ltb-false}
use Rattle.std.specs.Prelude.{Option, Some, None, is_some}
use Rattle.std.specs.Borrow.{Bor}
use Rattle.std.specs.Cmp.Lexicographic.{pointwise}
use Rattle.std.specs.Iterator.{YieldsFirstBy}
use Rattle.text_tsv.specs.Text.{same}
use Rattle.text_tsv.specs.Fields.{unreadable, number, fields_at, take_number, taken_as}
use Rattle.text_tsv.proofs.Lines.{ended_line, unended_line}
use Rattle.text_tsv.proofs.Fields.{fields_all, taken_number, taken_unreadable}
use Rattle.text_tsv.proofs.Parts.{compared}
use Rattle.text_tsv.proofs.Within.{takes_within}
use Rattle.text_protocol.specs.declared.command.Command.{Command}
use Rattle.text_protocol.specs.declared.command.Command.TheVariants.{Plan, Ask}
use Rattle.text_protocol.specs.Command.{most64, most32, ask_word, plan_word, given, then, last, ask_of, plan_of, worded, command}
use Rattle.text_protocol.specs.Command.{most_line, line_command}

-- some fields begin with a number of at most so much, and these are left
pub record NumberFirst (most : ℕ) (fs : List (List ℕ)) (v : ℕ) (rest : List (List ℕ)) : Type 0 where
  pub takes : take_number most fs ≡ number v rest

-- they begin with no such number, or there is no field
pub record NoNumberFirst (most : ℕ) (fs : List (List ℕ)) : Type 0 where
  pub takes : take_number most fs ≡ unreadable

-- as a reader tells it
module _ {most : ℕ} (fs rest : List (List ℕ)) {r : Option ℕ} (told : taken_as r rest ≡ take_number most fs) where
  pub number_first : {v : ℕ} → r ≡ Some v → NumberFirst most fs v rest
  number_first e = record { takes = sym told ∙ taken_number rest e }

  pub no_number_first : r ≡ None → NoNumberFirst most fs
  no_number_first e = record { takes = sym told ∙ taken_unreadable rest e }

  pub number_within : {v : ℕ} → r ≡ Some v → v ≤ most
  number_within e = takes_within most fs (sym (taken_number rest e) ∙ told)

-- a reader tells the first of some fields, if there is one
abbrev TellsFirst : List (List ℕ) → Option (Bor (List ℕ)) → List (List ℕ) → Type 0
TellsFirst fs r rest = YieldsFirstBy (λ f. f.now) (λ gs. gs) fs r rest

-- so it tells whether one is left
module _ (fs rest : List (List ℕ)) (r : Option (Bor (List ℕ))) (told : TellsFirst fs r rest) (c : Option Command) where
  left_over : is_some r ≡ true → last fs c ≡ None
  unfolding last
  left_over e = by r told e
    where
      by : (q : Option (Bor (List ℕ))) → TellsFirst fs q rest → is_some q ≡ true → last fs c ≡ None
      by None t e = cc
      by (Some x) t e = rw t refl

  none_left : is_some r ≡ false → last fs c ≡ c
  unfolding last
  none_left e = by r told e
    where
      by : (q : Option (Bor (List ℕ))) → TellsFirst fs q rest → is_some q ≡ false → last fs c ≡ c
      by None t e = rw t.0 refl
      by (Some x) t e = cc

-- the fields after `ask`
module _ {fs : List (List ℕ)} where
  pub ask_no_moment : NoNumberFirst most64 fs → None ≡ ask_of fs
  unfolding ask_of then given
  ask_no_moment x = rw x.takes

  module _ {moment : ℕ} {fs1 : List (List ℕ)} (m : NumberFirst most64 fs moment fs1) where
    pub ask_no_subscriber : NoNumberFirst most32 fs1 → None ≡ ask_of fs
    unfolding ask_of then given
    ask_no_subscriber x = rw (m.takes, x.takes)

    module _ {subscriber : ℕ} {fs2 : List (List ℕ)} (s : NumberFirst most32 fs1 subscriber fs2) where
      pub ask_no_cost : NoNumberFirst most32 fs2 → None ≡ ask_of fs
      unfolding ask_of then given
      ask_no_cost x = rw (m.takes, s.takes, x.takes)

      module _ {cost : ℕ} {fs3 : List (List ℕ)} (k : NumberFirst most32 fs2 cost fs3)
          (rest : List (List ℕ)) (r : Option (Bor (List ℕ))) (told : TellsFirst fs3 r rest) where
        pub ask_left_over : is_some r ≡ true → None ≡ ask_of fs
        unfolding ask_of then given
        ask_left_over e = rw (m.takes, s.takes, k.takes) (sym (left_over fs3 rest r told _ e))

        pub ask_read : is_some r ≡ false → Some (Ask moment subscriber cost) ≡ ask_of fs
        unfolding ask_of then given
        ask_read e = rw (m.takes, s.takes, k.takes) (sym (none_left fs3 rest r told _ e))

-- the fields after `plan`
module _ {fs : List (List ℕ)} where
  pub plan_no_slots : NoNumberFirst most32 fs → None ≡ plan_of fs
  unfolding plan_of then given
  plan_no_slots x = rw x.takes

  module _ {slots : ℕ} {fs1 : List (List ℕ)} (s : NumberFirst most32 fs slots fs1) where
    pub plan_no_limit : NoNumberFirst most32 fs1 → None ≡ plan_of fs
    unfolding plan_of then given
    plan_no_limit x = rw (s.takes, x.takes)

    module _ {limit : ℕ} {fs2 : List (List ℕ)} (l : NumberFirst most32 fs1 limit fs2) where
      pub plan_no_period : NoNumberFirst most32 fs2 → None ≡ plan_of fs
      unfolding plan_of then given
      plan_no_period x = rw (s.takes, l.takes, x.takes)

      module _ {period : ℕ} {fs3 : List (List ℕ)} (p : NumberFirst most32 fs2 period fs3) where
        pub plan_no_burst : NoNumberFirst most32 fs3 → None ≡ plan_of fs
        unfolding plan_of then given
        plan_no_burst x = rw (s.takes, l.takes, p.takes, x.takes)

        module _ {burst : ℕ} {fs4 : List (List ℕ)} (b : NumberFirst most32 fs3 burst fs4)
            (rest : List (List ℕ)) (r : Option (Bor (List ℕ))) (told : TellsFirst fs4 r rest) where
          pub plan_left_over : is_some r ≡ true → None ≡ plan_of fs
          unfolding plan_of then given
          plan_left_over e = rw (s.takes, l.takes, p.takes, b.takes) (sym (left_over fs4 rest r told _ e))

          pub plan_read :
              is_some r ≡ false → Some (Plan slots (record { limit = limit; period = period; burst = burst })) ≡ plan_of fs
          unfolding plan_of then given
          plan_read e = rw (s.takes, l.takes, p.takes, b.takes) (sym (none_left fs4 rest r told _ e))

-- what `==` says of a word
pub is_word : (word : List ℕ) {other bytes : List ℕ} {r : Bool} → r ≡ pointwise eqb word bytes → bytes ≡ other → r ≡ same word other
is_word word {other} e b = e ∙ ap (λ (s : List ℕ). pointwise eqb word s) b ∙ compared word other

-- the first word, and the fields after it
module _ (line : List ℕ) where
  pub says_no_word : fields_at line 0 ≡ [] → None ≡ command line
  unfolding command worded
  says_no_word e = rw (sym (fields_all line) ∙ e) refl

  module _ {word : List ℕ} {rest : List (List ℕ)} (first : fields_at line 0 ≡ word ∷ rest) where
    command_is : command line ≡ worded (word ∷ rest)
    unfolding command
    command_is = ap (λ (fs : List (List ℕ)). worded fs) (sym (fields_all line) ∙ first)

    pub says_ask : same word ask_word ≡ true → ask_of rest ≡ command line
    unfolding worded
    says_ask a = rw (command_is, a)

    module _ (a : same word ask_word ≡ false) where
      pub says_plan : same word plan_word ≡ true → plan_of rest ≡ command line
      unfolding worded
      says_plan p = rw (command_is, a, p)

      pub says_nothing : same word plan_word ≡ false → None ≡ command line
      unfolding worded
      says_nothing p = rw (command_is, a, p)

-- a line that ended
pub too_long : (line : List ℕ) → most_line ≤ length line → None ≡ line_command (ended_line line)
unfolding line_command
too_long line h = rw (lt-leb (length line + 1) most_line (omega arith))

module _ (line : List ℕ) where
  pub short_enough : length line < most_line → command line ≡ line_command (ended_line line)
  unfolding line_command
  short_enough h = rw (le-leb (length line + 1) most_line (omega arith))

  -- its first bytes tell as much, up to the first that is too many
  pub cut_off : line_command (ended_line (take most_line line)) ≡ line_command (ended_line line)
  cut_off = by (ltb (length line) most_line) refl
    where
      by : (t : Bool) → ltb (length line) most_line ≡ t → line_command (ended_line (take most_line line)) ≡ line_command (ended_line line)
      by true e =
          let short : length line < most_line = ltb-true _ _ e in
          ap (λ (l : List ℕ). line_command (ended_line l)) (take_all most_line line (omega arith))
      by false e =
          let long : most_line ≤ length line = ltb-false _ _ e in
          let full : most_line ≤ length (take most_line line) = omega (arith, length-take-le most_line line long) in
          sym (too_long (take most_line line) full) ∙ too_long line long

pub ruleset by_length = (too_long, short_enough)

-- a line that lacks its LF
pub unended_says_nothing : (line : List ℕ) → line_command (unended_line line) ≡ None
unfolding line_command
unended_says_nothing line = refl

pub ruleset by_fields_of_ask = (number_first, no_number_first, ask_no_moment, ask_no_subscriber, ask_no_cost)

pub ruleset by_fields_of_plan = (number_first, no_number_first, plan_no_slots, plan_no_limit, plan_no_period, plan_no_burst)

pub ruleset by_word = (says_no_word, is_word, says_ask, says_plan, says_nothing)
