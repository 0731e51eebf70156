-- The plans for which nothing is lost: what comes in within any millisecond fits beside the ticks of the next unit. They are those with
-- N + P ≤ P × B + d for a common divisor d of N and P, since these ticks are multiples of d, and one of them is P − d.
-- Assumes nothing.
use mathlib.Core.Path.{◌≡◌, refl, sym, ap, ◌∙◌}
use Prim.Native.Nat.{ℕ, zero, suc, ◌+◌, ◌-◌, ◌*◌, ◌/◌, ◌%◌, ◌≤◌, ◌<◌}
use native.Mathlib.Nat.{add-mul, mul-add, mul_assoc, mul_comm, zero-mul, one-mul, mul_right_comm, mul_left_comm, zero-mod, mod_self, mod-lt, mod-eq_of_lt, div-add-mod', mul-add-mod_self_left, mul-le-mul_right, lt_of_mul-lt-mul_right, dvd_of_mod-eq-zero, mod-eq-zero_of_dvd, dvd-mod_iff, dvd-mul_left_of_dvd, div-mul_cancel, pos_of_dvd_of_pos}
use native.Mathlib.Omega.{arith}
use Rattle.ticks.specs.declared.plan.Plan.{Plan}
use Rattle.ticks.specs.Grains.{ticks_in, capacity}
use Rattle.ticks.proofs.Limits.{ticks_are}
use Rattle.law_ceiling.specs.Least.{Attainable}

abbrev pub Lossless : Plan → Type 0
Lossless p = (t : ℕ) → ticks_in p t % p.period + p.limit ≤ capacity p

-- two multiples of d, the first smaller
apart : (d x y : ℕ) → x % d ≡ 0 → y % d ≡ 0 → x < y → x + d ≤ y
apart d x y ex ey h =
    let wx = div-mul_cancel d (dvd_of_mod-eq-zero d ex) in
    let wy = div-mul_cancel d (dvd_of_mod-eq-zero d ey) in
    let below : x / d * d < y / d * d = omega (arith, wx, wy) in
    let quotients = lt_of_mul-lt-mul_right d {m = x / d} {n = y / d} below in
    let next : (x / d + 1) * d ≤ y / d * d = mul-le-mul_right d (omega (arith, quotients)) in
    omega (arith, next, add-mul (x / d) 1 d, one-mul d, wx, wy)

pub lossless : (p : Plan) → 1 ≤ p.period → Attainable p → Lossless p
lossless p unit a t =
    let d = a.divisor in
    let of_period = dvd_of_mod-eq-zero d a.of_period in
    let of_ticks = dvd-mul_left_of_dvd d (dvd_of_mod-eq-zero d a.of_limit) t in
    let multiple : t * p.limit % p.period % d ≡ 0 = mod-eq-zero_of_dvd d ((dvd-mod_iff d {m = t * p.limit} of_period).1 of_ticks) in
    let below = mod-lt (t * p.limit) {m = p.period} unit in
    let same = ap (λ (x : ℕ). x % p.period) (ticks_are p t) in
    omega (arith, a.fits, same, apart d (t * p.limit % p.period) p.period multiple a.of_period below)

-- a common divisor d of n and p, and a multiple of n that leaves p − d
record Common (n p : ℕ) : Type 0 where
  divisor : ℕ
  of_first : n % divisor ≡ 0
  of_second : p % divisor ≡ 0
  times : ℕ
  leaves : times * n % p + divisor ≡ p

-- where p divides n
whole : (n p : ℕ) → n % p ≡ 0 → Common n p
whole n p e =
    record {
      divisor = p;
      of_first = e;
      of_second = mod_self p;
      times = 0;
      leaves = omega (arith, ap (λ (x : ℕ). x % p) (zero-mul n), zero-mod p);
    }

-- .. and otherwise from p and what n leaves: (q + 1)×r = p×t + d, so n×(q + 1) leaves d, and p/d − 1 times that leaves p − d
module _ (n p : ℕ) (unit : 1 ≤ p) (c : Common p (n % p)) where
  abbrev d : ℕ
  d = c.divisor

  abbrev q : ℕ
  q = c.times * p / (n % p)

  abbrev rounds : ℕ
  rounds = n / p * (q + 1) + c.times

  -- n×(q + 1) leaves d
  turn : (q + 1) * n ≡ p * rounds + d
  turn =
      let parts = ap (λ (x : ℕ). (q + 1) * x) (sym (div-add-mod' n p)) ∙ mul-add (q + 1) (n / p * p) (n % p) in
      let wholes = mul_comm (q + 1) (n / p * p) ∙ mul_right_comm (n / p) p (q + 1) ∙ mul_comm (n / p * (q + 1)) p in
      let rest = add-mul q 1 (n % p) in
      omega (arith, parts, wholes, rest, one-mul (n % p), div-add-mod' (c.times * p) (n % p), c.leaves, mul-add p (n / p * (q + 1)) c.times, mul_comm p c.times)

  abbrev less : ℕ
  less = p / d - 1

  short : less * d + d ≡ p
  short = by (p / d) refl
    where
      cancels : p / d * d ≡ p
      cancels = div-mul_cancel d (dvd_of_mod-eq-zero d c.of_first)

      by : (k : ℕ) → p / d ≡ k → less * d + d ≡ p
      by zero e = absurd (omega (arith, unit, cancels, ap (λ (x : ℕ). x * d) e, zero-mul d))
      by (suc k) e =
          let more : p / d ≡ less + 1 = omega (arith, e) in
          omega (arith, cancels, ap (λ (x : ℕ). x * d) more, add-mul less 1 d, one-mul d)

  -- .. and p/d − 1 times as much leaves p − d
  leaves : less * (q + 1) * n % p + d ≡ p
  leaves =
      let all =
      mul_assoc less (q + 1) n ∙ ap (λ (x : ℕ). less * x) turn ∙ mul-add less (p * rounds) d
      ∙ ap (λ (x : ℕ). x + less * d) (mul_left_comm less p rounds)
      in
      let some = pos_of_dvd_of_pos (dvd_of_mod-eq-zero d c.of_first) unit in
      let rest = mul-add-mod_self_left p (less * rounds) (less * d) ∙ mod-eq_of_lt {n = less * d} {m = p} (omega (arith, short, some)) in
      omega (arith, ap (λ (x : ℕ). x % p) all ∙ rest, short)

  euclid_step : Common n p
  euclid_step =
      record {
        divisor = d;
        of_first = mod-eq-zero_of_dvd d ((dvd-mod_iff d {m = n} (dvd_of_mod-eq-zero d c.of_first)).0 (dvd_of_mod-eq-zero d c.of_second));
        of_second = c.of_first;
        times = less * (q + 1);
        leaves = leaves;
      }

euclid : (most n p : ℕ) → p ≤ most → 1 ≤ p → Common n p
euclid zero n p most unit = absurd (omega (arith, most, unit))
euclid (suc m) n p most unit = by (n % p) refl (λ some. euclid m p (n % p) (omega (arith, most, mod-lt n {m = p} unit)) some)
  where
    by : (r : ℕ) → n % p ≡ r → (1 ≤ n % p → Common p (n % p)) → Common n p
    by zero e further = whole n p e
    by (suc r) e further = euclid_step n p unit (further (omega (arith, e)))

pub attainable : (p : Plan) → 1 ≤ p.period → Lossless p → Attainable p
attainable p unit l =
    let c = euclid p.period p.limit p.period (omega arith) unit in
    let same = ap (λ (x : ℕ). x % p.period) (ticks_are p c.times) in
    record {
      divisor = c.divisor;
      of_limit = c.of_first;
      of_period = c.of_second;
      fits = omega (arith, l c.times, same, c.leaves);
    }
