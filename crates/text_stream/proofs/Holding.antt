-- A line in pieces: what is held of it, and what its end leads to.
-- Assumes nothing.
use mathlib.Core.Path.{◌≡◌, refl, sym, ap, subst, ◌∙◌}
use mathlib.Core.Bool.{Bool, true, false}
use mathlib.Core.List.{List, ◌++◌}
use Prim.Native.Nat.{ℕ, suc, ◌+◌, ◌-◌, ◌≤◌, min}
use native.Mathlib.Omega.{arith}
use lib.Dec.{leb}
use lib.ListN.{length, take, drop, length-append}
use lib.Seq.{sets, sets-eq, length-take-le, take_all, take_at, take-append-add}
use borrow.Author.Tests.{leb-true, leb-false}
use Rattle.table_gcra.specs.Table.{Table}
use Rattle.text_tsv.specs.Text.{lf}
use Rattle.text_tsv.proofs.Lines.{ended_line}
use Rattle.text_protocol.specs.Command.{most_line, line_command}
use Rattle.text_protocol.proofs.Reading.{cut_off}
use Rattle.text_session.specs.declared.Stage.{Stage}
use Rattle.text_session.specs.declared.Turn.{Turn}
use Rattle.text_session.specs.Session.{Told, Lent, Bounded, told_of}
use Rattle.text_session.specs.Stream.{State, text_of, at_lf, says, moved}
use Rattle.text_session.proofs.Turning.{answer_bounded}
use Rattle.text_session.proofs.LineEnds.{says_reply, moved_is}
use Rattle.text_stream.specs.Running.{Moved}

-- as many bytes as there are, or as are kept
take_least : (n : ℕ) (l : List ℕ) → take (min n (length l)) l ≡ take n l
take_least n l = by (leb n (length l)) refl
  where
    by : (t : Bool) → leb n (length l) ≡ t → take (min n (length l)) l ≡ take n l
    by true e =
        let few : n ≤ length l = leb-true n (length l) e in
        ap (λ (k : ℕ). take k l) {x = min n (length l)} {y = n} (omega arith)
    by false e =
        let many : suc (length l) ≤ n = leb-false n (length l) e in
        take_all (min n (length l)) l (omega arith) ∙ sym (take_all n l (omega arith))

-- more bytes of a line that is held
module _ (line more : List ℕ) (held : ℕ) {count : ℕ} (within : held ≤ most_line) (enough : most_line ≤ length line)
    (counted : count ≡ min (most_line - held) (length more)) where
  pub count_length : count ≡ length (take count more)
  count_length = sym (length-take-le count more (omega arith))

  pub count_fits : held + length (take count more) ≤ length line
  count_fits = omega (arith, count_length)

  pub hold_is :
      take (held + length (take count more)) (sets line held (take count more)) ≡ take most_line (take held line ++ more)
  hold_is =
      let here : length (take held line) ≡ held = length-take-le held line (omega arith) in
      let all = length-append (take held line) (take count more) in
      let set_is = ap (λ (l : List ℕ). take (held + length (take count more)) l) (sets-eq (take count more) line held count_fits) in
      let front =
      take_at (take held line ++ take count more) (drop (held + length (take count more)) line) (held + length (take count more)) (omega (arith, here, all)) in
      let few = ap (λ (k : ℕ). take k more) counted ∙ take_least (most_line - held) more in
      let whole = sym (take-append-add (take held line) more (most_line - held)) in
      let most = ap (λ (k : ℕ). take k (take held line ++ more)) {x = length (take held line) + (most_line - held)} {y = most_line} (omega (arith, here)) in
      set_is ∙ front ∙ ap (λ (l : List ℕ). take held line ++ l) few ∙ whole ∙ most

-- a line of which nothing is held is read where it stands
pub read_here :
    (line rest : List ℕ) {held : ℕ} → held ≡ 0 →
    line_command (ended_line rest) ≡ line_command (ended_line (take most_line (take held line ++ rest)))
read_here line rest e = rw e (sym (cut_off rest))

module _ (σ : State) (r : Turn) {t : Table} (told : told_of r t ≡ at_lf σ) where
  pub told_bounded : Bounded σ.stage → Bounded r.stage
  told_bounded bounded =
      subst (λ (x : Stage). Bounded x) (sym (ap (λ (d : Told). d.stage) told)) (answer_bounded σ.stage _ σ.table bounded)

  pub reply_room : (at : ℕ) {room : ℕ} → at + length (says σ lf) ≤ room → at + length (text_of r.reply) ≤ room
  reply_room at {room} h = subst (λ (l : List ℕ). at + length l ≤ room) (sym (says_reply σ told)) h

  pub ended_moved :
      {line out out' : List ℕ} {at w : ℕ} → Bounded σ.stage → most_line ≤ length line → Lent t.table.ids t.numbers t.table.tats →
      (w ≡ at + length (text_of r.reply)) × (out' ≡ sets out at (text_of r.reply)) →
      Moved (says σ lf) (moved σ lf) at (record { session = record { stage = r.stage; held = 0 }; at = w }) line t out out'
  ended_moved {line} {out} {out'} {at} {w} bounded enough lent put =
      let text = says_reply σ told in
      record {
        state_is = moved_is σ told;
        at_is = put.0 ∙ ap (λ (l : List ℕ). at + length l) text;
        out_is = put.1 ∙ ap (λ (l : List ℕ). sets out at l) text;
        ready =
            record {
              bounded = told_bounded bounded;
              held_within = omega arith;
              line_enough = enough;
            };
        lent = lent;
      }
