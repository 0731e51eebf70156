-- The token bucket has the backlog law: its backlog is what the level now lacks of a full bucket. This is a proof, and no definition:
-- the code's `TokenBucket` names it, which may only name what stands in specs/.
use Rattle.std.proofs.Common.{◌≡◌, ℕ, ◌+◌, ◌-◌, ◌<◌, ◌≤◌, min, Bool, true, false, ◌&&◌, eqb, leb, refl, arith, eq-eqb, ne_eqb, le-leb, leb-false, leb-true}
use Rattle.ticks.specs.declared.plan.Plan.{Plan}
use Rattle.ticks.specs.Grains.{ticks_in, price, capacity}
use Rattle.ticks.proofs.Products.{ticks_split, ticks_none}
use Rattle.ticks.proofs.Tests.{both, by_leb}
use Rattle.rate.specs.Decision.{admissible}
use Rattle.rate.specs.Lawful.{Lawful}
use Rattle.rate.proofs.Left.{fits_test}
use Rattle.rule_token_bucket.specs.declared.Bucket.{Bucket}
use Rattle.rule_token_bucket.specs.TokenBucket.{token_bucket, fresh, sound, refilled, free, level_now, backlog, admits, spend}

regroup : (a b c : Bool) → (a && (b && c)) ≡ ((b && a) && c)
regroup true true c = refl
regroup true false c = refl
regroup false true c = refl
regroup false false c = refl

-- what `sound` tests
record Possible (p : Plan) (at : ℕ) (b : Bucket) : Type 0 where
  pub level : b.level.0 ≤ capacity p
  pub last : b.last.0 ≤ at

pub token_bucket_lawful : Lawful token_bucket
unfolding token_bucket fresh sound refilled free level_now backlog admits spend
token_bucket_lawful =
    record {
      stays_sound = stays_sound;
      within = within;
      drains = drains;
      free_iff = free_iff;
      admits_iff = admits_iff;
      spends = spends;
      spends_sound = spends_sound;
      fresh_sound = λ p at. fact_sound p at (fresh p at) (omega arith);
      fresh_owes_nothing = λ p at. omega arith;
    }
  where
    sound_fact : (p : Plan) (at : ℕ) (b : Bucket) → sound p at b ≡ true → Possible p at b
    sound_fact p at b e = let h = both _ _ e in record { level = leb-true _ _ h.0; last = leb-true _ _ h.1 }

    fact_sound : (p : Plan) (at : ℕ) (b : Bucket) → Possible p at b → sound p at b ≡ true
    fact_sound p at b h = rw (le-leb b.level.0 (capacity p) h.level, le-leb b.last.0 at h.last)

    stays_sound : (p : Plan) (l k : ℕ) (b : Bucket) → l ≤ k → sound p l b ≡ true → sound p k b ≡ true
    stays_sound p l k b h e =
        let s = sound_fact p l b e in
        fact_sound p k b (record { level = s.level; last = omega arith })

    within : (p : Plan) (at : ℕ) (b : Bucket) → sound p at b ≡ true → backlog p at b ≤ capacity p
    within p at b e = omega arith

    drains : (p : Plan) (l k : ℕ) (b : Bucket) → l ≤ k → sound p l b ≡ true → backlog p k b ≡ backlog p l b - ticks_in p (k - l)
    drains p l k b h e =
        let s = sound_fact p l b e in
        let d : k - b.last.0 - (l - b.last.0) ≡ k - l = omega arith in
        let t : ticks_in p (k - b.last.0) ≡ ticks_in p (l - b.last.0) + ticks_in p (k - l) =
        rw d at (ticks_split p (l - b.last.0) (k - b.last.0) (omega arith)) in
        omega arith

    admits_iff : (p : Plan) (at : ℕ) (b : Bucket) (cost : ℕ) → admits p at b cost ≡ admissible p (backlog p at b) cost
    admits_iff p at b cost =
        fits_test p (capacity p - min (capacity p) (refilled p at b)) cost (price p cost) (min (capacity p) (refilled p at b))
        (λ h. omega arith) (λ h. omega arith)

    -- a full bucket owes nothing
    owes_nothing_iff : (p : Plan) (at : ℕ) (b : Bucket) → eqb (backlog p at b) 0 ≡ leb (capacity p) (refilled p at b)
    owes_nothing_iff p at b = by_leb (capacity p) (refilled p at b) full lacking
      where
        full :
            leb (capacity p) (refilled p at b) ≡ true →
            eqb (capacity p - min (capacity p) (refilled p at b)) 0 ≡ leb (capacity p) (refilled p at b)
        full e = let h : capacity p ≤ refilled p at b = leb-true _ _ e in rw (e, eq-eqb (capacity p - min (capacity p) (refilled p at b)) 0 (omega arith))

        lacking :
            leb (capacity p) (refilled p at b) ≡ false →
            eqb (capacity p - min (capacity p) (refilled p at b)) 0 ≡ leb (capacity p) (refilled p at b)
        lacking e =
            let h : refilled p at b < capacity p = leb-false _ _ e in
            rw (e, ne_eqb (capacity p - min (capacity p) (refilled p at b)) 0 (λ z. omega arith))

    free_iff : (p : Plan) (at : ℕ) (b : Bucket) → free p at b ≡ (sound p at b && eqb (backlog p at b) 0)
    free_iff p at b = rw owes_nothing_iff (regroup (leb b.last.0 at) (leb b.level.0 (capacity p)) (leb (capacity p) (refilled p at b)))

    spends :
        (p : Plan) (at : ℕ) (b : Bucket) (cost : ℕ) → admits p at b cost ≡ true →
        backlog p at (spend p at b cost) ≡ backlog p at b + price p cost
    spends p at b cost e =
        let h : price p cost ≤ min (capacity p) (refilled p at b) = leb-true _ _ e in
        omega (arith, ticks_none p at)

    spends_sound :
        (p : Plan) (at : ℕ) (b : Bucket) (cost : ℕ) → admits p at b cost ≡ true → sound p at (spend p at b cost) ≡ true
    spends_sound p at b cost e = fact_sound p at (spend p at b cost) (omega arith)
