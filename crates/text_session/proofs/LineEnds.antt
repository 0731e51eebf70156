-- What a run does at an LF, and with the bytes of a line before it: they say nothing and are kept; the LF answers the line.
-- Assumes nothing.
use mathlib.Core.Path.{◌≡◌, refl, sym, ap, subst, ◌∙◌}
use mathlib.Core.Bool.{true}
use mathlib.Core.List.{List, [], ◌∷◌, ◌++◌, append-nil, append_assoc}
use Prim.Native.Nat.{ℕ, zero, suc, ◌+◌, ◌-◌, ◌≤◌, ◌<◌}
use native.Mathlib.Omega.{arith}
use lib.ListN.{length, take, drop, length-drop, length-take}
use lib.Seq.{drop-drop, take_all}
use Rattle.rate.specs.declared.answer.Numbers as numbers
use Rattle.table_gcra.specs.Table.{Table}
use Rattle.text_tsv.specs.Text.{lf, up_to}
use Rattle.text_tsv.proofs.Scanning.{Lacks, before_lacks, found_within, found_split}
use Rattle.text_tsv.proofs.Splitting.{front}
use Rattle.text_protocol.specs.Command.{most_line}
use Rattle.text_protocol.specs.Reply.{line as reply_line}
use Rattle.std.specs.Prelude.{Option, Some, None}
use Rattle.text_session.specs.Session.{Told, unended}
use Rattle.text_session.specs.Stream.{State, text_of, kept, at_lf, says, moved, said, after, is_held, ending}
use Rattle.text_session.proofs.Streamed.{said_append, after_append, cut_append}

-- the bytes of a reply
pub text_nothing : {r : Option numbers.Numbers} → r ≡ None → text_of r ≡ []
unfolding text_of
text_nothing e = rw e

pub text_numbers : {r : Option numbers.Numbers} {n : numbers.Numbers} → r ≡ Some n → text_of r ≡ reply_line n
unfolding text_of
text_numbers e = rw e

-- an LF: what is said, and what it leads to
module _ (σ : State) {d : Told} (told : d ≡ at_lf σ) where
  pub says_reply : text_of d.reply ≡ says σ lf
  unfolding says
  says_reply = ap (λ (e : Told). text_of e.reply) told

  pub moved_is : record { stage = d.stage; table = d.table; held = [] } ≡ moved σ lf
  unfolding moved
  moved_is = ap (λ (e : Told). record { stage = e.stage; table = e.table; held = [] }) told

-- bytes that end no line say nothing, and are kept
lacking_said : (s : List ℕ) (σ : State) → Lacks lf s → said σ s ≡ []
unfolding said says
lacking_said [] σ h = refl
lacking_said (b ∷ s) σ h = rw h.0 (lacking_said s (moved σ b) h.1)

lacking_after : (s : List ℕ) (σ : State) → length σ.held ≤ most_line → Lacks lf s → after σ s ≡ kept σ s
unfolding after moved
lacking_after [] σ short h =
    ap (λ (l : List ℕ). record { stage = σ.stage; table = σ.table; held = l })
    (sym (ap (λ (l : List ℕ). take most_line l) (append-nil σ.held) ∙ take_all most_line σ.held short))
lacking_after (b ∷ s) σ short h =
    let one = kept σ (b ∷ []) in
    let fits : length one.held ≤ most_line = omega (arith, length-take most_line (σ.held ++ (b ∷ []))) in
    let joined = cut_append most_line (σ.held ++ (b ∷ [])) s ∙ ap (λ (l : List ℕ). take most_line l) (append_assoc σ.held (b ∷ []) s) in
    rw h.0 (lacking_after s one fits h.1 ∙ ap (λ (l : List ℕ). record { stage = σ.stage; table = σ.table; held = l }) joined)

-- the bytes from a place on, up to an LF or to the end
module _ (piece : List ℕ) (i : ℕ) {end : ℕ} (found : end ≡ i + length (up_to lf (drop i piece))) (inside : i ≤ length piece) where
  pub end_within : end ≤ length piece
  end_within = omega (arith, found_within lf (drop i piece), length-drop i piece)

  part_is : take (end - i) (drop i piece) ≡ up_to lf (drop i piece)
  part_is = ap (λ (k : ℕ). take k (drop i piece)) {x = end - i} {y = length (up_to lf (drop i piece))} (omega arith) ∙ front lf (drop i piece)

  -- no LF, so it is all that is left
  part_all : length piece ≤ end → take (end - i) (drop i piece) ≡ drop i piece
  part_all h = take_all (end - i) (drop i piece) (omega (arith, length-drop i piece))

  line_split : end < length piece → drop i piece ≡ take (end - i) (drop i piece) ++ lf ∷ drop (end + 1) piece
  line_split h =
      let more : length (up_to lf (drop i piece)) < length (drop i piece) = omega (arith, length-drop i piece) in
      let behind = drop-drop (suc (length (up_to lf (drop i piece)))) i piece ∙ ap (λ (k : ℕ). drop k piece) {x = i + suc (length (up_to lf (drop i piece)))} {y = end + 1} (omega arith) in
      found_split lf (drop i piece) more
      ∙ ap (λ (l : List ℕ). up_to lf (drop i piece) ++ lf ∷ l) behind
      ∙ ap (λ (l : List ℕ). l ++ lf ∷ drop (end + 1) piece) (sym part_is)

  module _ (σ : State) (short : length σ.held ≤ most_line) where
    part_lacks : Lacks lf (take (end - i) (drop i piece))
    part_lacks = subst (λ (l : List ℕ). Lacks lf l) (sym part_is) (before_lacks lf (drop i piece))

    -- a line, and the rest
    pub line_said :
        end < length piece →
        said σ (drop i piece)
        ≡ says (kept σ (take (end - i) (drop i piece))) lf
        ++ said (moved (kept σ (take (end - i) (drop i piece))) lf) (drop (end + 1) piece)
    unfolding said
    line_said h =
        let part = take (end - i) (drop i piece) in
        ap (λ (l : List ℕ). said σ l) (line_split h)
        ∙ said_append σ part (lf ∷ drop (end + 1) piece)
        ∙ ap (λ (l : List ℕ). l ++ said (after σ part) (lf ∷ drop (end + 1) piece)) (lacking_said part σ part_lacks)
        ∙ ap (λ (τ : State). said τ (lf ∷ drop (end + 1) piece)) (lacking_after part σ short part_lacks)

    pub line_after :
        end < length piece →
        after σ (drop i piece) ≡ after (moved (kept σ (take (end - i) (drop i piece))) lf) (drop (end + 1) piece)
    unfolding after
    line_after h =
        let part = take (end - i) (drop i piece) in
        ap (λ (l : List ℕ). after σ l) (line_split h)
        ∙ after_append σ part (lf ∷ drop (end + 1) piece)
        ∙ ap (λ (τ : State). after τ (lf ∷ drop (end + 1) piece)) (lacking_after part σ short part_lacks)

    -- no line ends
    pub none_said : length piece ≤ end → said σ (drop i piece) ≡ []
    none_said h = ap (λ (l : List ℕ). said σ l) (sym (part_all h)) ∙ lacking_said (take (end - i) (drop i piece)) σ part_lacks

    pub none_after : length piece ≤ end → after σ (drop i piece) ≡ kept σ (take (end - i) (drop i piece))
    none_after h =
        ap (λ (l : List ℕ). after σ l) (sym (part_all h)) ∙ lacking_after (take (end - i) (drop i piece)) σ short part_lacks

-- the input's end: nothing is held; or a line is, which is answered or not
held_some : (held : ℕ) (l : List ℕ) → held ≤ length l → (held ≡ 0 → ⊥) → is_held (take held l) ≡ true
unfolding is_held
held_some zero l h n = absurd (n refl)
held_some (suc k) [] h n = absurd (omega arith)
held_some (suc k) (x ∷ l) h n = refl

module _ (σ : State) (line : List ℕ) {held : ℕ} (holds : σ.held ≡ take held line) where
  pub ending_none : held ≡ 0 → ending σ ≡ []
  unfolding ending is_held
  ending_none e = rw (holds, e)

  pub ending_some : held ≤ length line → (held ≡ 0 → ⊥) → ending σ ≡ text_of (unended σ.stage)
  unfolding ending
  ending_some h n = rw (holds, held_some held line h n)

-- whatever the columns hold
pub ending_any : (σ : State) (t : Table) → ending σ ≡ ending (record { stage = σ.stage; table = t; held = σ.held })
unfolding ending
ending_any σ t = refl
