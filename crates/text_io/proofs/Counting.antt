-- What is read and written adds up: a count is kept modulo 2^64, and the remainder of a sum comes from the remainders of its parts.
-- Assumes nothing.
use Rattle.std.proofs.Common.{◌≡◌, ℕ, ◌+◌, ◌%◌, ◌^◌, ◌≤◌, List, length, take, drop, sym, ap, ◌∙◌, subst, add-zero, add_assoc, arith}
use Rattle.std.proofs.Math.Nat.{mod-mod, mod-add-mod}
use Rattle.std.proofs.Math.Seq.{take-append_seam}
use Rattle.std.proofs.lemmas.List.Edits.{sets, sets-eq}
use Rattle.text_io.specs.Piece.{Counted, Written}

-- a sum that wraps
pub wrapped : (count n : ℕ) {sum : ℕ} → sum ≡ (count + n) % 2 ^ 64 → Counted count n sum
wrapped count n e = record { modulo = ap (λ (x : ℕ). x % 2 ^ 64) e ∙ mod-mod (count + n) (2 ^ 64) }

-- as many bytes
pub counted_as : {count m n sum : ℕ} → m ≡ n → Counted count m sum → Counted count n sum
counted_as {count} {sum = sum} e counted = subst (λ (x : ℕ). Counted count x sum) e counted

pub counted_none : (count : ℕ) → Counted count 0 count
counted_none count = record { modulo = ap (λ (x : ℕ). x % 2 ^ 64) (sym (add-zero count)) }

pub counted_on : {count m mid n sum : ℕ} → Counted count m mid → Counted mid n sum → Counted count (m + n) sum
counted_on {count} {m} {mid} {n} e f =
    record {
      modulo = f.modulo
          ∙ sym (mod-add-mod mid (2 ^ 64) n)
          ∙ ap (λ (x : ℕ). (x + n) % 2 ^ 64) e.modulo
          ∙ mod-add-mod (count + m) (2 ^ 64) n
          ∙ ap (λ (x : ℕ). x % 2 ^ 64) (add_assoc count m n);
    }

-- a text that was put to the output's start stands there
at_the_start : (text out : List ℕ) → 0 + length text ≤ length out → take (length text) (sets out 0 text) ≡ text
at_the_start text out h =
    ap (λ (l : List ℕ). take (length text) l) (sets-eq text out 0 h) ∙ take-append_seam text (drop (0 + length text) out)

pub written :
    (text out : List ℕ) {out' : List ℕ} {n sent sent' : ℕ} → 0 + length text ≤ length out → n ≡ 0 + length text →
    out' ≡ sets out 0 text → Counted sent (length (take n out')) sent' → Written text out' sent sent'
written text out {out'} {n} h e f counted =
    let whole : n ≡ length text = omega arith in
    let begins = ap (λ (l : List ℕ). take (length text) l) f ∙ at_the_start text out h in
    record { begins = begins; sent_is = counted_as (ap (λ (k : ℕ). length (take k out')) whole ∙ ap (λ (l : List ℕ). length l) begins) counted }
