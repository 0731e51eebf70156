-- A number written two digits at a time, the last two first: the digits after a place are written, and those of what is left go before it.
-- Assumes nothing.
use Rattle.std.proofs.Common.{◌≡◌, ℕ, ◌+◌, ◌-◌, ◌/◌, ◌%◌, ◌^◌, ◌<◌, ◌≤◌, List, [], ◌∷◌, ◌++◌, length, sym, refl, ap, ◌∙◌, append_assoc, append-nil, arith, length-append}
use Rattle.std.proofs.Math.Seq.{sets, length-sets}
use Rattle.text_tsv.specs.Decimal.{digit, digits}
use Rattle.text_tsv.proofs.Digits.{pair_of, digits_pair, digits_log, cell_length}
use Rattle.text_tsv.proofs.Scanning.{sets_append, sets_before}

pub record Rest (l : List ℕ) (at n : ℕ) (out : List ℕ) (rest place : ℕ) : Type 0 where
  pub written : List ℕ
  pub digits_all : digits rest ++ written ≡ digits n
  pub out_is : out ≡ sets l place written
  pub place_is : place ≡ at + length (digits rest)
  pub small : rest < 2 ^ 64

pub rest_all :
    (l : List ℕ) (at n place : ℕ) → n < 2 ^ 64 → place ≡ at + length (digits n) → Rest l at n l n place
rest_all l at n place h e =
    record { written = []; digits_all = append-nil (digits n); out_is = refl; place_is = e; small = h }

module _ {l : List ℕ} {at n : ℕ} {out : List ℕ} {rest place : ℕ} (r : Rest l at n out rest place) where
  -- what is left ends within the output, where the whole does
  pub rest_room : at + length (digits n) ≤ length l → place ≤ length out
  rest_room room =
      let same = ap (λ (s : List ℕ). length s) r.out_is ∙ length-sets l place r.written in
      let all = sym (length-append (digits rest) r.written) ∙ ap (λ (s : List ℕ). length s) r.digits_all in
      omega (arith, r.place_is)

  module _ (h : 100 ≤ rest) where
    pub two_more : place ≡ at + length (digits (rest / 100)) + 2
    two_more =
        let pair = ap (λ (s : List ℕ). length s) (digits_pair rest h r.small) in
        omega (arith, r.place_is, pair, length-append (digits (rest / 100)) (pair_of (rest % 100)))

    pub rest_next :
        {next : List ℕ} → next ≡ sets out (place - 2) (pair_of (rest % 100)) → Rest l at n next (rest / 100) (place - 2)
    rest_next e =
        record {
          written = digit (rest % 100 / 10) ∷ digit (rest % 100 % 10) ∷ r.written;
          digits_all =
              sym (append_assoc (digits (rest / 100)) (pair_of (rest % 100)) r.written)
              ∙ sym (ap (λ (s : List ℕ). s ++ r.written) (digits_pair rest h r.small)) ∙ r.digits_all;
          out_is =
              e ∙ ap (λ (s : List ℕ). sets s (place - 2) (pair_of (rest % 100)))
              (r.out_is ∙ ap (λ (k : ℕ). sets l k r.written) {x = place} {y = place - 2 + 2} (omega (arith, two_more)))
              ∙ sets_before l (place - 2) (pair_of (rest % 100)) r.written;
          place_is = omega (arith, two_more);
          small = omega (arith, r.small);
        }

  -- what is left, written in front
  pub rest_done : {next : List ℕ} → next ≡ sets out at (digits rest) → next ≡ sets l at (digits n)
  rest_done e =
      e ∙ ap (λ (s : List ℕ). sets s at (digits rest)) (r.out_is ∙ ap (λ (k : ℕ). sets l k r.written) r.place_is)
      ∙ sets_before l at (digits rest) r.written ∙ ap (λ (s : List ℕ). sets l at s) r.digits_all

pub ruleset by_end = (cell_length, sets_append)

pub ruleset by_two = (digits_log, rest_all, rest_next)
