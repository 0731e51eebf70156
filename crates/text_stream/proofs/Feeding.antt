-- A piece fed line by line: what is still to be said and where it leads, from where the loop stands, is what the whole piece
-- says and leads to.
-- Assumes nothing.
use mathlib.Core.Path.{◌≡◌, sym, ap, ap₂, subst, ◌∙◌}
use mathlib.Core.Logic.{◌≢◌}
use mathlib.Core.List.{List, [], ◌∷◌, ◌++◌, append_assoc, append-nil}
use Prim.Native.Nat.{ℕ, ◌+◌, ◌-◌, ◌≤◌, ◌<◌, min}
use native.Mathlib.Omega.{arith}
use lib.Dec.{eqb}
use lib.ListN.{length, take, drop, length-append, length-drop, length-take}
use lib.Seq.{sets, length-sets, drop-drop, take_all, take-append_seam}
use Rattle.std.specs.List.{IsFirstMatchOrLen}
use Rattle.std.proofs.lemmas.List.{nil_from_length}
use Rattle.std.proofs.Common.{drop_of_length-le}
use Rattle.std.proofs.Math.Seq.{drop-append-add}
use Rattle.text_session.proofs.Streamed.{said_none, after_none}
use Rattle.text_stream.proofs.Parts.{line_place, rest_place}
use Rattle.table_gcra.specs.Table.{Table}
use Rattle.text_tsv.specs.Text.{lf, up_to}
use Rattle.text_tsv.proofs.Scanning.{sets_append, first_place}
use Rattle.text_protocol.specs.Command.{most_line}
use Rattle.text_session.specs.declared.Stage.{Stage}
use Rattle.text_session.specs.Session.{Lent}
use Rattle.text_session.specs.Stream.{State, kept, says, said, moved, after}
use Rattle.text_session.proofs.LineEnds.{line_said, line_after, none_said, none_after}
use Rattle.text_stream.specs.Running.{Session, Fed, Ready, Moved, state_of}

module _ (σ₀ : State) (piece out₀ : List ℕ) (at : ℕ) where
  pub record Going (s : Session) (line : List ℕ) (t : Table) (out : List ℕ) (w i : ℕ) : Type 0 where
    pub leads : after (state_of s line t) (drop i piece) ≡ after σ₀ piece
    pub writes : sets out w (said (state_of s line t) (drop i piece)) ≡ sets out₀ at (said σ₀ piece)
    pub place : w + length (said (state_of s line t) (drop i piece)) ≡ at + length (said σ₀ piece)
    pub long_as : length out ≡ length out₀
    pub ready : Ready s line
    pub lent : Lent t.table.ids t.numbers t.table.tats
    pub inside : i ≤ length piece

-- what a session holds is no more than is kept
pub held_short : {s : Session} {line : List ℕ} → Ready s line → length (take s.held line) ≤ most_line
held_short {s} {line} ready = omega (arith, ready.held_within, length-take s.held line)

module _ {σ₀ : State} {piece out₀ : List ℕ} {at : ℕ} {s : Session} {line : List ℕ} {t : Table} {out : List ℕ} {w i end : ℕ}
    (g : Going σ₀ piece out₀ at s line t out w i) (found : end ≡ i + length (up_to lf (drop i piece))) where
  abbrev σ : State
  σ = state_of s line t

  abbrev this : State
  this = kept σ (take (end - i) (drop i piece))

  short : length σ.held ≤ most_line
  short = held_short g.ready

  said_next : end < length piece → said σ (drop i piece) ≡ says this lf ++ said (moved this lf) (drop (end + 1) piece)
  said_next = line_said piece i found g.inside σ short

  length_next :
      end < length piece →
      length (said σ (drop i piece)) ≡ length (says this lf) + length (said (moved this lf) (drop (end + 1) piece))
  length_next h =
      ap (λ (l : List ℕ). length l) (said_next h) ∙ length-append (says this lf) (said (moved this lf) (drop (end + 1) piece))

  -- there is room for what the line is told
  pub going_room :
      end < length piece → at + length (said σ₀ piece) ≤ length out₀ → w + length (says this lf) ≤ length out
  going_room h fits = omega (arith, g.place, g.long_as, length_next h)

  pub going_next :
      {r : Fed} {line' : List ℕ} {t' : Table} {out' : List ℕ} → end < length piece →
      Moved (says this lf) (moved this lf) w r line' t' out out' →
      Going σ₀ piece out₀ at r.session line' t' out' r.at (end + 1)
  going_next {r} {line'} {t'} {out'} h m =
      let rest = said (moved this lf) (drop (end + 1) piece) in
      let same = ap (λ (τ : State). said τ (drop (end + 1) piece)) m.state_is in
      let apart = sym (sets_append out w (says this lf) rest) ∙ ap (λ (l : List ℕ). sets out w l) (sym (said_next h)) in
      record {
        leads =
            ap (λ (τ : State). after τ (drop (end + 1) piece)) m.state_is
            ∙ sym (line_after piece i found g.inside σ short h) ∙ g.leads;
        writes =
            ap (λ (l : List ℕ). sets out' r.at l) same ∙ ap (λ (k : ℕ). sets out' k rest) m.at_is
            ∙ ap (λ (o : List ℕ). sets o (w + length (says this lf)) rest) m.out_is ∙ apart ∙ g.writes;
        place = omega (arith, m.at_is, g.place, length_next h, ap (λ (l : List ℕ). length l) same);
        long_as = ap (λ (l : List ℕ). length l) m.out_is ∙ length-sets out w (says this lf) ∙ g.long_as;
        ready = m.ready;
        lent = m.lent;
        inside = omega arith;
      }

  -- the rest of the piece ends no line, and is held
  pub going_end :
      (s' : Session) (line' : List ℕ) → length piece ≤ end → Ready s' line' → s'.stage ≡ s.stage →
      take s'.held line' ≡ take most_line (take s.held line ++ take (end - i) (drop i piece)) →
      Moved (said σ₀ piece) (after σ₀ piece) at (record { session = s'; at = w }) line' t out₀ out
  going_end s' line' h ready same kept_is =
      let none = none_said piece i found g.inside σ short h in
      record {
        state_is =
            ap₂ (λ (x : Stage) (l : List ℕ). record { stage = x; table = σ.table; held = l }) same kept_is
            ∙ sym (none_after piece i found g.inside σ short h) ∙ g.leads;
        at_is = omega (arith, g.place, ap (λ (l : List ℕ). length l) none);
        out_is = sym (ap (λ (l : List ℕ). sets out w l) none) ∙ g.writes;
        ready = ready;
        lent = g.lent;
      }

-- a piece of which parts were fed, and these bytes are left
pub record Parted (σ₀ : State) (piece out₀ : List ℕ) (at : ℕ) (s : Session) (line : List ℕ) (t : Table) (out : List ℕ) (w : ℕ) (left : List ℕ) : Type 0 where
  pub i : ℕ
  pub left_is : left ≡ drop i piece
  pub going : Going σ₀ piece out₀ at s line t out w i

module _ {σ₀ : State} {piece out₀ : List ℕ} {at : ℕ} {s : Session} {line : List ℕ} {t : Table} {out : List ℕ} {w : ℕ} {left : List ℕ}
    (p : Parted σ₀ piece out₀ at s line t out w left) where
  -- nothing is left
  pub parted_end : length left ≡ 0 → Moved (said σ₀ piece) (after σ₀ piece) at (record { session = s; at = w }) line t out₀ out
  parted_end h =
      let σ = state_of s line t in
      let g = p.going in
      let none : drop p.i piece ≡ [] = sym p.left_is ∙ nil_from_length left h in
      let quiet = ap (λ (l : List ℕ). said σ l) none ∙ said_none σ in
      record {
        state_is = sym (after_none σ) ∙ ap (λ (l : List ℕ). after σ l) (sym none) ∙ g.leads;
        at_is = omega (arith, g.place, ap (λ (l : List ℕ). length l) quiet);
        out_is = sym (ap (λ (l : List ℕ). sets out w l) quiet) ∙ g.writes;
        ready = g.ready;
        lent = g.lent;
      }

  module _ (part rest : List ℕ) (e : ℕ) (cut : left ≡ part ++ rest) (long : length part ≡ min (e + 1) (length left))
      (first : IsFirstMatchOrLen (λ x. eqb x lf) left e) where
    -- a line and its LF
    module _ (l : List ℕ) (ends : part ≡ l ++ (lf ∷ [])) where
      whole : drop p.i piece ≡ l ++ (lf ∷ rest)
      whole = sym p.left_is ∙ cut ∙ ap (λ (m : List ℕ). m ++ rest) ends ∙ append_assoc l (lf ∷ []) rest

      place : p.i + length l ≡ p.i + length (up_to lf (drop p.i piece))
      place =
          ap (λ (n : ℕ). p.i + n)
          (line_place left l rest e (p.left_is ∙ whole) (omega (arith, long, ap (λ (m : List ℕ). length m) ends, length-append l (lf ∷ []))) first
          ∙ ap (λ (m : List ℕ). length (up_to lf m)) p.left_is)

      line_is : take (p.i + length l - p.i) (drop p.i piece) ≡ l
      line_is =
          ap (λ (n : ℕ). take n (drop p.i piece)) {x = p.i + length l - p.i} {y = length l} (omega arith)
          ∙ ap (λ (m : List ℕ). take (length l) m) whole ∙ take-append_seam l (lf ∷ rest)

      within : p.i + length l < length piece
      within = omega (arith, p.going.inside, length-drop p.i piece, ap (λ (m : List ℕ). length m) whole, length-append l (lf ∷ rest))

      rest_is : rest ≡ drop (p.i + length l + 1) piece
      rest_is =
          sym (ap (λ (m : List ℕ). drop (length l + 1) m) whole ∙ drop-append-add l (lf ∷ rest) 1)
          ∙ drop-drop (length l + 1) p.i piece
          ∙ ap (λ (n : ℕ). drop n piece) {x = p.i + (length l + 1)} {y = p.i + length l + 1} (omega arith)

      pub parted_room :
          at + length (said σ₀ piece) ≤ length out₀ → w + length (says (kept (state_of s line t) l) lf) ≤ length out
      parted_room fits =
          subst (λ (m : List ℕ). w + length (says (kept (state_of s line t) m) lf) ≤ length out) line_is
          (going_room p.going place within fits)

      pub parted_next :
          {r : Fed} {line' : List ℕ} {t' : Table} {out' : List ℕ} →
          Moved (says (kept (state_of s line t) l) lf) (moved (kept (state_of s line t) l) lf) w r line' t' out out' →
          Parted σ₀ piece out₀ at r.session line' t' out' r.at rest
      parted_next {r} {line'} {t'} {out'} m =
          record {
            i = p.i + length l + 1;
            left_is = rest_is;
            going = going_next p.going place within
                (subst (λ (k : List ℕ). Moved (says (kept (state_of s line t) k) lf) (moved (kept (state_of s line t) k) lf) w r line' t' out out') (sym line_is) m);
          }

    -- the rest of the piece, which ends no line
    module _ (unended : (front : List ℕ) → part ≢ front ++ (lf ∷ [])) where
      far : length left ≤ e
      far = rest_place left part rest e cut long first unended

      ended_at : length piece ≡ p.i + length (up_to lf (drop p.i piece))
      ended_at =
          omega (arith, far, p.going.inside, length-drop p.i piece, ap (λ (m : List ℕ). length m) p.left_is, first_place lf left e first, ap (λ (m : List ℕ). length (up_to lf m)) p.left_is)

      none_left : rest ≡ []
      none_left = nil_from_length rest (omega (arith, far, long, ap (λ (m : List ℕ). length m) cut, length-append part rest))

      part_is : part ≡ take (length piece - p.i) (drop p.i piece)
      part_is =
          sym (append-nil part) ∙ ap (λ (m : List ℕ). part ++ m) (sym none_left) ∙ sym cut ∙ p.left_is
          ∙ sym (take_all (length piece - p.i) (drop p.i piece) (omega (arith, length-drop p.i piece)))

      pub parted_rest :
          (s' : Session) (line' : List ℕ) → Ready s' line' → s'.stage ≡ s.stage →
          take s'.held line' ≡ take most_line (take s.held line ++ part) →
          Moved (said σ₀ piece) (after σ₀ piece) at (record { session = s'; at = w }) line' t out₀ out
      parted_rest s' line' ready same kept_is =
          going_end p.going ended_at s' line' (omega arith) ready same
          (kept_is ∙ ap (λ (m : List ℕ). take most_line (take s.held line ++ m)) part_is)
