-- How many units octets need and how many octets units hold: bounds, each other's inverse, and no product too large. Assumes nothing.
use mathlib.Core.Path.{◌≡◌, ap, ◌∙◌}
use Prim.Native.Nat.{ℕ, ◌+◌, ◌*◌, ◌-◌, ◌/◌, ◌%◌, ◌≤◌, ◌<◌}
use native.Mathlib.Nat.{mul-add, mul_left_comm, mul-add-div, div-add-mod, mul-le-mul_right, mul-div-le, lt-mul-div-succ}
use native.Mathlib.Omega.{arith}
use Rattle.packing.specs.FormsOfData.{units_for, octets_in}

-- k u, by the eights of u and the rest
eights : (k u : ℕ) → k * u ≡ 8 * (k * (u / 8)) + k * (u % 8)
eights k u =
    let e : u ≡ 8 * (u / 8) + u % 8 = omega arith in
    ap (λ (n : ℕ). k * n) e ∙ mul-add k (8 * (u / 8)) (u % 8) ∙ ap (λ (n : ℕ). n + k * (u % 8)) (mul_left_comm k 8 (u / 8))

pub octets_split : (k u : ℕ) → octets_in k u ≡ k * (u / 8) + k * (u % 8) / 8
unfolding octets_in
octets_split k u = omega (arith, eights k u)

pub eights_le : (k u : ℕ) → k ≤ 8 → k * (u / 8) ≤ 8 * (u / 8)
eights_le k u h = mul-le-mul_right (u / 8) h

pub rest_le : (k u : ℕ) → k ≤ 8 → k * (u % 8) ≤ 8 * (u % 8)
rest_le k u h = mul-le-mul_right (u % 8) h

-- octets are no more than units
pub octets_few : (k u : ℕ) → k ≤ 8 → octets_in k u ≤ u
octets_few k u h = omega (arith, octets_split k u, eights_le k u h, rest_le k u h)

-- the bits left over are as many as the eights of bits leave
pub spare_split : (k u : ℕ) → 8 * octets_in k u + k * (u % 8) % 8 ≡ k * u
unfolding octets_in
spare_split k u = omega (arith, eights k u)

module _ (k n : ℕ) (pos : 0 < k) where
  pub units_split : units_for k n ≡ 8 * (n / k) + (8 * (n % k) + (k - 1)) / k
  unfolding units_for
  units_split =
      let e : k * (n / k) + n % k ≡ n = div-add-mod n k in
      let g : k * (8 * (n / k)) ≡ 8 * (k * (n / k)) = mul_left_comm k 8 (n / k) in
      let f : 8 * n + (k - 1) ≡ k * (8 * (n / k)) + (8 * (n % k) + (k - 1)) = omega arith in
      ap (λ (m : ℕ). m / k) f ∙ mul-add-div pos (8 * (n / k)) (8 * (n % k) + (k - 1))

  -- k U lies between 8 N and 8 N + k - 1
  pub units_low : 8 * n ≤ k * units_for k n
  unfolding units_for
  units_low =
      let q : ℕ = (8 * n + (k - 1)) / k in
      let l : 8 * n + (k - 1) < k * (q + 1) = lt-mul-div-succ (8 * n + (k - 1)) pos in
      omega (arith, mul-add k q 1)

  units_high : k * units_for k n ≤ 8 * n + (k - 1)
  unfolding units_for
  units_high = mul-div-le (8 * n + (k - 1)) k

  pub octets_units : k ≤ 8 → octets_in k (units_for k n) ≡ n
  unfolding octets_in
  octets_units h = omega (arith, units_low, units_high)

-- where as many units came as their octets need, fewer bits than a unit has are left over
pub spare_lt : (k u : ℕ) → 0 < k → u ≡ units_for k (octets_in k u) → k * (u % 8) % 8 < k
spare_lt k u p e =
    let f : k * u ≡ k * units_for k (octets_in k u) = ap (λ (n : ℕ). k * n) e in
    omega (arith, spare_split k u, units_high k (octets_in k u) p)
