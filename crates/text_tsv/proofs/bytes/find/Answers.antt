-- `bytes::find`: where there is such a byte, and where there is none.
use Rattle.std.proofs.Common.{ℕ, ◌+◌, ◌-◌, ◌∙◌, eqb, length, drop, ap, arith, rules, tests, length-drop}
use Rattle.std.proofs.Math.Seq.{take_all}
use Rattle.std.proofs.lemmas.Iterator.{YieldsList-from_slice}
use Rattle.std.proofs.lemmas.Iterator.Search.{position_from_yields_List}
use Rattle.text_tsv.proofs.Scanning.{Position, place_found, place_none}
use Rattle.text_tsv.proofs.bytes.find.Goals.{After-position}
use Rattle.text_tsv.proofs.bytes.find.Goals as goal

found : (c : After-position) →
    let S = c.args in
    Position S.byte (drop S.at S.text.now) c.position.result
found c =
    let S = c.args in
    record {
      is =
          position_from_yields_List (λ b. eqb b c.args.byte) _ _ c.position.result c.position.ensures.ran (YieldsList-from_slice _ (c.iter.ensures.rest ∙ take_all (length S.text.now - S.at) (drop S.at S.text.now) (omega (arith, length-drop S.at S.text.now)))) (λ x b q k. search (rules, tests));
    }

pub returns-in-Some : goal.returns-in-Some
returns-in-Some c = ap (λ (k : ℕ). c.args.at + k) (place_found (found (goal.at.returns-in-Some c).After-position) c.in-Some.is)

pub returns-in-None : goal.returns-in-None
returns-in-None c =
    omega (arith, place_none (found (goal.at.returns-in-None c).After-position) c.in-None.is, length-drop c.args.at c.args.text.now)
