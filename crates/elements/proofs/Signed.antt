-- Two's complement as the code computes it, for every width of a signed integer.
use Prim.Native.Nat.{ℕ, suc, ◌+◌, ◌*◌, ◌-◌, ◌≤◌, ◌<◌, ◌^◌}
use mathlib.Core.Path.{◌≡◌, refl, ap}
use mathlib.Core.Bool.{Bool, true, false}
use native.Mathlib.Omega.{arith}
use borrow.Author.Tests.{lt-ltb, le-ltb}
use lib.Dec.{T, ltb, leb-zero}
use lib.IntN.{ℤ, pos, negsuc, nat_abs}
use lib.Signed.{le_z, non_neg, mag}
use mir.Syntax.{Width, w8, w16, w32, w64, w128}
use mir.Val.{Fits, SFits, to_z, of_z, bits, hbits}
use mir.ValLaws.{to_z-of_z, to_z_pos}
use Rattle.laws.specs.Numbers.{signed_of, bits_of}

-- a width has one bit more than its half range
halves : (w : Width) → 2 ^ bits w ≡ 2 ^ hbits w * 2
halves w8 = refl
halves w16 = refl
halves w32 = refl
halves w64 = refl
halves w128 = refl

half_bits : (w : Width) → 2 ^ (bits w - 1) ≡ 2 ^ hbits w
half_bits w8 = refl
half_bits w16 = refl
half_bits w32 = refl
half_bits w64 = refl
half_bits w128 = refl

module _ (w : Width) where
  -- a number from half the range on, as the code computes it: the complement of the complement
  pub signed_high : (n : ℕ) → 2 ^ hbits w ≤ n → n ≤ 2 ^ bits w - 1 → to_z w (2 ^ bits w - 1 - (2 ^ bits w - 1 - n)) ≡ signed_of (bits w) n
  signed_high n h g =
      let e : 2 ^ bits w - 1 - (2 ^ bits w - 1 - n) ≡ n = omega arith in
      let k : 2 ^ (bits w - 1) ≤ n = rw (half_bits w) h in
      rw (e, le-ltb n (2 ^ hbits w) h, le-ltb n (2 ^ (bits w - 1)) k)

  positive : (z : ℤ) → SFits w z → le_z (pos 0) z ≡ true → (T (non_neg z) × Fits w (nat_abs z)) × (nat_abs z ≡ bits_of (bits w) z)
  positive (pos n) f h = ((tt, record { fits = omega (arith, f.sfits, halves w) }), refl)
  positive (negsuc n) f h = let z : ◌≡◌ {A = ℕ} 0 1 = cc in absurd (omega arith)

  abbrev complement : ℤ → ℤ
  complement z = to_z w (2 ^ bits w - 1 - of_z w z)

  negative : (z : ℤ) → SFits w z → le_z (pos 0) z ≡ false
      → (T (non_neg (complement z)) × Fits w (nat_abs (complement z)))
      × (nat_abs (complement z) ≤ 2 ^ bits w - 1) × (2 ^ bits w - 1 - nat_abs (complement z) ≡ bits_of (bits w) z)
  negative (pos n) f h = absurd (let g : ◌≡◌ {A = Bool} true false = cc (leb-zero n) in let e : ◌≡◌ {A = ℕ} 0 1 = cc in omega arith)
  negative (negsuc n) f h =
      let t = halves w in
      let s = f.sfits in
      let e : 2 ^ bits w - 1 - (2 ^ bits w - suc n) ≡ n = omega arith in
      rw (e, to_z_pos w n s) ((tt, record { fits = omega arith }), omega arith, omega arith)

  module _ (z : ℤ) (f : SFits w z) where
    same : to_z w (of_z w z) ≡ z
    same = to_z-of_z w z f

    -- what the code's two branches compute: z itself, and the top less the complement of z
    pub from_zero : le_z (pos 0) (to_z w (of_z w z)) ≡ true
        → let k = to_z w (of_z w z) in (T (non_neg k) × Fits w (nat_abs k)) × (nat_abs k ≡ bits_of (bits w) z)
    from_zero h = rw same (positive z f (rw same at h))

    pub below_zero : le_z (pos 0) (to_z w (of_z w z)) ≡ false
        → (T (non_neg (complement z)) × Fits w (nat_abs (complement z)))
        × (nat_abs (complement z) ≤ 2 ^ bits w - 1) × (2 ^ bits w - 1 - nat_abs (complement z) ≡ bits_of (bits w) z)
    below_zero h = negative z f (rw same at h)

-- ---- seven bits within eight, as VTI has them

pub widen_low : (n : ℕ) → n < 64 → signed_of 8 n ≡ signed_of 7 n
widen_low n h = rw (lt-ltb n 64 h, lt-ltb n 128 (omega arith))

pub widen_high : (n : ℕ) → 64 ≤ n → n < 128 → signed_of 8 (n + 128) ≡ signed_of 7 n
widen_high n h g = rw (le-ltb (n + 128) 128 (omega arith), le-ltb n 64 h) (ap negsuc (omega arith))

-- the eight bits of a signed octet tell whether seven hold it, and which they are
pub narrow_low : (z : ℤ) → mag z < 128 → bits_of 8 z < 64 → (ltb (mag z) 64 ≡ true) × (bits_of 7 z ≡ bits_of 8 z)
narrow_low (pos n) f h = (lt-ltb n 64 h, refl)
narrow_low (negsuc n) f h = absurd (omega arith)

pub narrow_high : (z : ℤ) → mag z < 128 → 192 ≤ bits_of 8 z → (ltb (mag z) 64 ≡ true) × (bits_of 7 z ≡ bits_of 8 z - 128)
narrow_high (pos n) f h = absurd (omega arith)
narrow_high (negsuc n) f h = (lt-ltb n 64 (omega arith), omega arith)

pub narrow_none : (z : ℤ) → mag z < 128 → 64 ≤ bits_of 8 z → bits_of 8 z < 192 → ltb (mag z) 64 ≡ false
narrow_none (pos n) f h g = le-ltb n 64 h
narrow_none (negsuc n) f h g = le-ltb n 64 (omega arith)
