-- A line is an ask, or a plan, exactly if it has the word and the numbers of one.
-- Assumes nothing.
use mathlib.Core.Path.{◌≡◌, refl, sym, ap, subst, ◌∙◌}
use mathlib.Core.Bool.{Bool, true, false, cond}
use mathlib.Core.List.{List, [], ◌∷◌, ◌++◌, append_assoc}
use mathlib.Core.Logic.{◌⊎◌, inl, inr}
use Prim.Native.Nat.{ℕ, ◌≤◌, ◌<◌}
use native.Mathlib.Omega.{arith}
use lib.Dec.{leb}
use lib.ListN.{get_or}
use borrow.Author.Tests.{lt-leb, leb-true, leb-false}
use Rattle.std.specs.Prelude.{Option, Some, None}
use Rattle.ticks.specs.declared.plan.Plan as plan
use Rattle.rate.specs.declared.answer.Numbers.{Numbers}
use Rattle.text_tsv.specs.Text.{fields, same}
use Rattle.text_tsv.specs.Fields.{Taken, unreadable, number, take_number}
use Rattle.text_tsv.specs.Decimal.{digits}
use Rattle.text_tsv.specs.Laws.{Without, joined, TabFree, Numeral, Front}
use Rattle.text_tsv.proofs.Laws.{laws}
use Rattle.text_tsv.proofs.Numerals.{numeral_without}
use Rattle.text_protocol.specs.declared.command.Command.{Command}
use Rattle.text_protocol.specs.declared.command.Command.TheVariants.{Plan, Ask}
use Rattle.text_protocol.specs.Command.{most64, most32, ask_word, plan_word, given, then, last, ask_of, plan_of, worded, command}
use Rattle.text_protocol.specs.Reply.{line}
use Rattle.text_protocol.specs.Laws.{AskLine, PlanLine}

-- what a line says is what it has
abbrev Says : List ℕ → Option Command → Type 0
Says bytes None = Unit
Says bytes (Some (Ask m s c)) = AskLine bytes m s c
Says bytes (Some (Plan n p)) = PlanLine bytes n p

-- a number off the front, and then the rest
given_says :
    (bytes : List ℕ) (most : ℕ) (fs : List (List ℕ)) (rest : ℕ → List (List ℕ) → Option Command) (t : Taken) → take_number most fs ≡ t →
    ((n : ℕ) (left : List (List ℕ)) → Front most fs n left → Says bytes (rest n left)) → Says bytes (given t rest)
unfolding given
given_says bytes most fs rest unreadable e k = tt
given_says bytes most fs rest (number n left) e k = k n left ((laws.of_numbers.taken most fs n left).0 e)

then_says :
    (bytes : List ℕ) (most : ℕ) (fs : List (List ℕ)) (rest : ℕ → List (List ℕ) → Option Command) →
    ((n : ℕ) (left : List (List ℕ)) → Front most fs n left → Says bytes (rest n left)) → Says bytes (then most fs rest)
unfolding then
then_says bytes most fs rest k = given_says bytes most fs rest (take_number most fs) refl k

last_says : (bytes : List ℕ) (fs : List (List ℕ)) (c : Option Command) → (fs ≡ [] → Says bytes c) → Says bytes (last fs c)
unfolding last
last_says bytes [] c k = k refl
last_says bytes (f ∷ fs) c k = tt

module _ (bytes : List ℕ) (fs : List (List ℕ)) where
  ask_says : fields bytes ≡ ask_word ∷ fs → Says bytes (ask_of fs)
  unfolding ask_of
  ask_says e =
      then_says bytes most64 fs _ λ m f1 a.
      then_says bytes most32 f1 _ λ s f2 b.
      then_says bytes most32 f2 _ λ c f3 d.
      last_says bytes f3 (Some (Ask m s c)) λ z.
      record {
        first = a.text;
        second = b.text;
        third = d.text;
        is =
            sym (laws.of_fields.rejoined bytes)
            ∙ ap (λ (l : List (List ℕ)). joined l) (e ∙ ap (λ (l : List (List ℕ)). ask_word ∷ l) a.fields)
            ∙ ap (λ (l : List (List ℕ)). joined (ask_word ∷ a.text ∷ l)) b.fields
            ∙ ap (λ (l : List (List ℕ)). joined (ask_word ∷ a.text ∷ b.text ∷ l)) (d.fields ∙ ap (λ (l : List (List ℕ)). d.text ∷ l) z);
        moment = (a.numeral, omega (arith, a.within));
        subscriber = (b.numeral, omega (arith, b.within));
        cost = (d.numeral, omega (arith, d.within));
      }

  plan_says : fields bytes ≡ plan_word ∷ fs → Says bytes (plan_of fs)
  unfolding plan_of
  plan_says e =
      then_says bytes most32 fs _ λ n f1 a.
      then_says bytes most32 f1 _ λ l f2 b.
      then_says bytes most32 f2 _ λ p f3 c.
      then_says bytes most32 f3 _ λ q f4 d.
      last_says bytes f4 (Some (Plan n (record { limit = l; period = p; burst = q }))) λ z.
      record {
        first = a.text;
        second = b.text;
        third = c.text;
        fourth = d.text;
        is =
            sym (laws.of_fields.rejoined bytes)
            ∙ ap (λ (l : List (List ℕ)). joined l) (e ∙ ap (λ (l : List (List ℕ)). plan_word ∷ l) a.fields)
            ∙ ap (λ (l : List (List ℕ)). joined (plan_word ∷ a.text ∷ l)) b.fields
            ∙ ap (λ (l : List (List ℕ)). joined (plan_word ∷ a.text ∷ b.text ∷ l)) c.fields
            ∙ ap (λ (l : List (List ℕ)). joined (plan_word ∷ a.text ∷ b.text ∷ c.text ∷ l)) (d.fields ∙ ap (λ (l : List (List ℕ)). d.text ∷ l) z);
        slots = (a.numeral, omega (arith, a.within));
        limit = (b.numeral, omega (arith, b.within));
        period = (c.numeral, omega (arith, c.within));
        burst = (d.numeral, omega (arith, d.within));
      }

worded_says : (bytes : List ℕ) (fs : List (List ℕ)) → fields bytes ≡ fs → Says bytes (worded fs)
unfolding worded
worded_says bytes [] e = tt
worded_says bytes (word ∷ fs) e = by (same word ask_word) refl (same word plan_word) refl
  where
    by :
        (a : Bool) → same word ask_word ≡ a → (p : Bool) → same word plan_word ≡ p →
        Says bytes (cond a (ask_of fs) (cond p (plan_of fs) None))
    by true i p j =
        ask_says bytes fs (e ∙ ap (λ (w : List ℕ). w ∷ fs) ((laws.of_fields.same_exactly word ask_word).0 i))
    by false i true j =
        plan_says bytes fs (e ∙ ap (λ (w : List ℕ). w ∷ fs) ((laws.of_fields.same_exactly word plan_word).0 j))
    by false i false j = tt

command_says : (bytes : List ℕ) → Says bytes (command bytes)
unfolding command
command_says bytes = worded_says bytes (fields bytes) refl

pub ask_only : (bytes : List ℕ) (m s c : ℕ) → command bytes ≡ Some (Ask m s c) → AskLine bytes m s c
ask_only bytes m s c e = subst (Says bytes) e (command_says bytes)

pub plan_only : (bytes : List ℕ) (n : ℕ) (p : plan.Plan) → command bytes ≡ Some (Plan n p) → PlanLine bytes n p
plan_only bytes n p e = subst (Says bytes) e (command_says bytes)

-- and what it has it says
takes :
    (most : ℕ) (f : List ℕ) (fs : List (List ℕ)) (n : ℕ) → Numeral f n → n ≤ most → take_number most (f ∷ fs) ≡ number n fs
takes most f fs n x h = (laws.of_numbers.taken most (f ∷ fs) n fs).1 (record { text = f; fields = refl; numeral = x; within = h })

same_self : (a : List ℕ) → same a a ≡ true
same_self a = (laws.of_fields.same_exactly a a).1 refl

plan_is_no_ask : same plan_word ask_word ≡ false
plan_is_no_ask = by (same plan_word ask_word) refl
  where
    by : (t : Bool) → same plan_word ask_word ≡ t → t ≡ false
    by true e =
        let first : ◌≡◌ {A = ℕ} 112 97 = ap (λ (l : List ℕ). get_or l 0 0) ((laws.of_fields.same_exactly plan_word ask_word).0 e) in
        absurd (omega (arith, first))
    by false e = refl

ask_without : Without 9 ask_word
ask_without = (λ e. absurd (omega (arith, e)), (λ e. absurd (omega (arith, e)), (λ e. absurd (omega (arith, e)), tt)))

plan_without : Without 9 plan_word
plan_without = (
  λ e. absurd (omega (arith, e)),
  (λ e. absurd (omega (arith, e)), (λ e. absurd (omega (arith, e)), (λ e. absurd (omega (arith, e)), tt))),
)

module _ (bytes : List ℕ) (m s c : ℕ) (x : AskLine bytes m s c) where
  ask_fields : fields bytes ≡ ask_word ∷ x.first ∷ x.second ∷ x.third ∷ []
  ask_fields =
      let free : TabFree (x.first ∷ x.second ∷ x.third ∷ []) =
      (numeral_without x.moment.0, (numeral_without x.subscriber.0, (numeral_without x.cost.0, tt))) in
      ap (λ (l : List ℕ). fields l) x.is
      ∙ laws.of_fields.parted ask_word (x.first ∷ x.second ∷ x.third ∷ []) (ask_without, free)

  pub ask_line : command bytes ≡ Some (Ask m s c)
  unfolding command worded ask_of then given last
  ask_line =
      let moment = takes most64 x.first (x.second ∷ x.third ∷ []) m x.moment.0 x.moment.1 in
      let subscriber = takes most32 x.second (x.third ∷ []) s x.subscriber.0 x.subscriber.1 in
      let cost = takes most32 x.third [] c x.cost.0 x.cost.1 in
      rw (ask_fields, same_self ask_word, moment, subscriber, cost)

module _ (bytes : List ℕ) (n : ℕ) (p : plan.Plan) (x : PlanLine bytes n p) where
  plan_fields : fields bytes ≡ plan_word ∷ x.first ∷ x.second ∷ x.third ∷ x.fourth ∷ []
  plan_fields =
      let last : TabFree (x.third ∷ x.fourth ∷ []) = (numeral_without x.period.0, (numeral_without x.burst.0, tt)) in
      let free : TabFree (x.first ∷ x.second ∷ x.third ∷ x.fourth ∷ []) =
      (numeral_without x.slots.0, (numeral_without x.limit.0, last)) in
      ap (λ (l : List ℕ). fields l) x.is
      ∙ laws.of_fields.parted plan_word (x.first ∷ x.second ∷ x.third ∷ x.fourth ∷ []) (plan_without, free)

  pub plan_line : command bytes ≡ Some (Plan n p)
  unfolding command worded plan_of then given last
  plan_line =
      let slots = takes most32 x.first (x.second ∷ x.third ∷ x.fourth ∷ []) n x.slots.0 x.slots.1 in
      let limit = takes most32 x.second (x.third ∷ x.fourth ∷ []) p.limit x.limit.0 x.limit.1 in
      let period = takes most32 x.third (x.fourth ∷ []) p.period x.period.0 x.period.1 in
      let burst = takes most32 x.fourth [] p.burst x.burst.0 x.burst.1 in
      rw (plan_fields, plan_is_no_ask, same_self plan_word, slots, limit, period, burst)

-- a number that does not fit shuts the line
abbrev gate : ℕ → ℕ → Option Command → Option Command
gate most n c = cond (leb n most) c None

shut : (most n : ℕ) (c : Option Command) → most < n → gate most n c ≡ None
shut most n c h = rw (lt-leb n most h)

shut_behind : (most n : ℕ) (c : Option Command) → c ≡ None → gate most n c ≡ None
shut_behind most n c e = ap (λ (d : Option Command). gate most n d) e ∙ by (leb n most)
  where
    by : (t : Bool) → cond {A = Option Command} t None None ≡ None
    by true = refl
    by false = refl

then_gate :
    (most : ℕ) (f : List ℕ) (fs : List (List ℕ)) (n : ℕ) (rest : ℕ → List (List ℕ) → Option Command) → Numeral f n →
    then most (f ∷ fs) rest ≡ gate most n (rest n fs)
unfolding then given
then_gate most f fs n rest x = by (leb n most) refl
  where
    by : (t : Bool) → leb n most ≡ t → given (take_number most (f ∷ fs)) rest ≡ cond t (rest n fs) None
    by true e = rw (takes most f fs n x (leb-true n most e))
    by false e = rw (laws.of_numbers.not_taken most f fs n x (leb-false n most e))

module _ (first second third : List ℕ) (m s c : ℕ) (x : Numeral first m) (y : Numeral second s) (z : Numeral third c) where
  abbrev ask_cost : Option Command
  ask_cost = gate most32 c (Some (Ask m s c))

  abbrev ask_subscriber : Option Command
  ask_subscriber = gate most32 s ask_cost

  ask_gates : command (joined (ask_word ∷ first ∷ second ∷ third ∷ [])) ≡ gate most64 m ask_subscriber
  unfolding command worded ask_of last
  ask_gates =
      let free : TabFree (first ∷ second ∷ third ∷ []) = (numeral_without x, (numeral_without y, (numeral_without z, tt))) in
      rw (laws.of_fields.parted ask_word (first ∷ second ∷ third ∷ []) (ask_without, free), same_self ask_word)
      (then_gate most64 first (second ∷ third ∷ []) m _ x
      ∙ ap (λ (d : Option Command). gate most64 m d) (then_gate most32 second (third ∷ []) s _ y)
      ∙ ap (λ (d : Option Command). gate most64 m (gate most32 s d)) (then_gate most32 third [] c _ z))

  pub ask_beyond :
      (18446744073709551616 ≤ m) ⊎ ((4294967296 ≤ s) ⊎ (4294967296 ≤ c)) →
      command (joined (ask_word ∷ first ∷ second ∷ third ∷ [])) ≡ None
  ask_beyond (inl h) = ask_gates ∙ shut most64 m ask_subscriber (omega arith)
  ask_beyond (inr (inl h)) = ask_gates ∙ shut_behind most64 m ask_subscriber (shut most32 s ask_cost (omega arith))
  ask_beyond (inr (inr h)) =
      ask_gates ∙ shut_behind most64 m ask_subscriber (shut_behind most32 s ask_cost (shut most32 c (Some (Ask m s c)) (omega arith)))

module _ (first second third fourth : List ℕ) (n l p b : ℕ)
    (w : Numeral first n) (x : Numeral second l) (y : Numeral third p) (z : Numeral fourth b) where
  abbrev plan_whole : Option Command
  plan_whole = Some (Plan n (record { limit = l; period = p; burst = b }))

  abbrev plan_burst : Option Command
  plan_burst = gate most32 b plan_whole

  abbrev plan_period : Option Command
  plan_period = gate most32 p plan_burst

  abbrev plan_limit : Option Command
  plan_limit = gate most32 l plan_period

  plan_gates : command (joined (plan_word ∷ first ∷ second ∷ third ∷ fourth ∷ [])) ≡ gate most32 n plan_limit
  unfolding command worded plan_of last
  plan_gates =
      let behind : TabFree (third ∷ fourth ∷ []) = (numeral_without y, (numeral_without z, tt)) in
      let free : TabFree (first ∷ second ∷ third ∷ fourth ∷ []) = (numeral_without w, (numeral_without x, behind)) in
      rw (laws.of_fields.parted plan_word (first ∷ second ∷ third ∷ fourth ∷ []) (plan_without, free), plan_is_no_ask, same_self plan_word)
      (then_gate most32 first (second ∷ third ∷ fourth ∷ []) n _ w
      ∙ ap (λ (d : Option Command). gate most32 n d) (then_gate most32 second (third ∷ fourth ∷ []) l _ x)
      ∙ ap (λ (d : Option Command). gate most32 n (gate most32 l d)) (then_gate most32 third (fourth ∷ []) p _ y)
      ∙ ap (λ (d : Option Command). gate most32 n (gate most32 l (gate most32 p d))) (then_gate most32 fourth [] b _ z))

  pub plan_beyond :
      (4294967296 ≤ n) ⊎ ((4294967296 ≤ l) ⊎ ((4294967296 ≤ p) ⊎ (4294967296 ≤ b))) →
      command (joined (plan_word ∷ first ∷ second ∷ third ∷ fourth ∷ [])) ≡ None
  plan_beyond (inl h) = plan_gates ∙ shut most32 n plan_limit (omega arith)
  plan_beyond (inr (inl h)) = plan_gates ∙ shut_behind most32 n plan_limit (shut most32 l plan_period (omega arith))
  plan_beyond (inr (inr (inl h))) =
      plan_gates ∙ shut_behind most32 n plan_limit (shut_behind most32 l plan_period (shut most32 p plan_burst (omega arith)))
  plan_beyond (inr (inr (inr h))) =
      let last = shut_behind most32 p plan_burst (shut most32 b plan_whole (omega arith)) in
      plan_gates ∙ shut_behind most32 n plan_limit (shut_behind most32 l plan_period last)

-- an answer's line, cell by cell
pub answer_line :
    (a : Numbers) →
    line a ≡ joined (digits a.number ∷ digits a.subscriber ∷ digits a.left ∷ digits a.reset ∷ digits a.wait ∷ []) ++ (10 ∷ [])
unfolding line
answer_line a =
    let cell_is = laws.of_numbers.written_cell in
    rw (cell_is a.number 9, cell_is a.subscriber 9, cell_is a.left 9, cell_is a.reset 9, cell_is a.wait 10)
    (simp append_assoc refl)
