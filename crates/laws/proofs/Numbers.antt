-- Laws of numbers of n octets, for every n, and of two's complement, for every width.
use Prim.Native.Nat.{ℕ, zero, suc, ◌+◌, ◌*◌, ◌/◌, ◌%◌, ◌^◌, ◌-◌, ◌<◌, ◌≤◌}
use mathlib.Core.Path.{◌≡◌, refl, ap, ◌∙◌}
use mir.Syntax.{w32}
use mir.Val.{Fits}
use mathlib.Core.Bool.{Bool, true, false}
use mathlib.Core.List.{List, [], ◌∷◌}
use native.Mathlib.Omega.{arith}
use native.Mathlib.Nat.{add-zero, pow-suc}
use native.Mathlib.Numerals.{add-one}
use borrow.Author.Tests.{lt-ltb, le-ltb, ltb-true, ltb-false}
use lib.Dec.{ltb}
use lib.IntN.{ℤ, pos, negsuc}
use lib.ListN.{get_or, drop, length, set}
use lib.Seq.{get_or-drop, drop-drop, sets}
use lib.Signed.{mag}
use Rattle.laws.specs.Choice.{pick}
use Rattle.laws.specs.Lists.{Octets}
use Rattle.laws.specs.Numbers.{le_of, le_octets, signed_of, bits_of}
use Rattle.laws.specs.Promises.{NumberReadsBack, NumberWritesAgain, SignedReadsBack, SignedWritesAgain}

-- one octet more in front
pub le_step : (n : ℕ) (s : List ℕ) (at : ℕ) → le_of (suc n) (drop at s) ≡ get_or s at 0 + le_of n (drop (at + 1) s) * 256
unfolding le_of
le_step n s at = rw (get_or-drop at s 0 0, add-zero at, drop-drop 1 at s)

pub le_one : (s : List ℕ) (at : ℕ) → le_of 1 (drop at s) ≡ get_or s at 0
unfolding le_of
le_one s at = rw (get_or-drop at s 0 0, add-zero at) (omega arith)

-- a number of one octet more, as it is read and as it is written
pub le_more : (n : ℕ) (s : List ℕ) (at : ℕ) {a b : ℕ} → a ≡ get_or s at 0 → b ≡ le_of n (drop (at + 1) s) → a + b * 256 ≡ le_of (suc n) (drop at s)
le_more n s at p q = omega (arith, le_step n s at)

pub put_more : (n : ℕ) (l : List ℕ) (at v : ℕ) → sets (set l at (v % 256)) (at + 1) (le_octets n (v / 256)) ≡ sets l at (le_octets (suc n) v)
unfolding le_octets
put_more n l at v = rw add-one

-- a number read from its last octet on: m octets in all, of which those from place i on are read and give b
module _ (m i : ℕ) (some : 0 < i) (most : i ≤ m) {a b : ℕ} (octet : a < 256) (fits : b < 256 ^ (m - i)) where
  one_more : suc (m - i) ≡ m - (i - 1)
  one_more = omega arith

  -- the octet before them, and that what it gives fits
  pub le_turn : (s : List ℕ) → a ≡ get_or s (i - 1) 0 → b ≡ le_of (m - i) (drop i s)
      → (b * 256 + a ≡ le_of (m - (i - 1)) (drop (i - 1) s)) × (b * 256 + a < 256 ^ (m - (i - 1)))
  le_turn s p q =
      let e : i ≡ i - 1 + 1 = omega arith in
      let here = q ∙ ap (λ (j : ℕ). le_of (m - i) (drop j s)) e in
      rw (← one_more) (omega (arith, le_more (m - i) s (i - 1) p here), omega (arith, pow-suc 256 (m - i)))

  pub four_fit : m ≤ 4 → Fits w32 (b * 256 + a)
  four_fit four = record { fits = by (m - i) (omega arith) fits }
    where
      by : (k : ℕ) → k ≤ 3 → b < 256 ^ k → b * 256 + a < 4294967296
      by zero h g = omega arith
      by (suc zero) h g = omega arith
      by (suc (suc zero)) h g = omega arith
      by (suc (suc (suc zero))) h g = omega arith
      by (suc (suc (suc (suc k)))) h g = absurd (omega arith)

-- a number of m octets written from its first octet on: the octets before place i are written, and v is left
pub put_turn : (m i : ℕ) → i < m → (l : List ℕ) (v : ℕ) {k vs : List ℕ} {a : ℕ}
    → k ≡ set l i a → a ≡ v % 256 → sets l i (le_octets (m - i) v) ≡ vs → sets k (i + 1) (le_octets (m - (i + 1)) (v / 256)) ≡ vs
put_turn m i h l v p q r =
    let e : suc (m - (i + 1)) ≡ m - i = omega arith in
    rw (p, q) (put_more (m - (i + 1)) l i v ∙ ap (λ (n : ℕ). sets l i (le_octets n v)) e ∙ r)

pub reads_back : NumberReadsBack
unfolding le_of le_octets
reads_back zero v rest h = omega arith
reads_back (suc n) v rest h =
    let g : v / 256 < 256 ^ n = omega (arith, pow-suc 256 n) in
    omega (arith, reads_back n (v / 256) rest g)

pub length_octets : (n v : ℕ) → length (le_octets n v) ≡ n
unfolding le_octets
length_octets zero v = refl
length_octets (suc n) v = ap suc (length_octets n (v / 256))

pub octets_fit : (n v : ℕ) → Octets (le_octets n v)
unfolding le_octets
octets_fit zero v = tt
octets_fit (suc n) v = (omega arith, octets_fit n (v / 256))

pub writes_again : NumberWritesAgain
unfolding le_of le_octets
writes_again zero s a h = refl
writes_again (suc n) [] a h = absurd (omega arith)
writes_again (suc n) (b ∷ s) a h =
    let p : (b + le_of n s * 256) % 256 ≡ b = omega (arith, a.0) in
    let q : (b + le_of n s * 256) / 256 ≡ le_of n s = omega (arith, a.0) in
    rw (p, q, writes_again n s a.1 (omega arith))

pub le_fits : (n : ℕ) (s : List ℕ) → Octets s → le_of n s < 256 ^ n
unfolding le_of
le_fits zero s a = omega arith
le_fits (suc n) [] a = omega (arith, le_fits n [] tt, pow-suc 256 n)
le_fits (suc n) (b ∷ s) a = omega (arith, le_fits n s a.1, pow-suc 256 n, a.0)

module _ (w : ℕ) (some : 1 ≤ w) where
  twice : 2 ^ w ≡ 2 ^ (w - 1) * 2
  twice = let e : w ≡ suc (w - 1) = omega arith in ap (λ (n : ℕ). 2 ^ n) e ∙ pow-suc 2 (w - 1)

  pub signed_fits : (n : ℕ) → n < 2 ^ w → mag (signed_of w n) < 2 ^ (w - 1)
  signed_fits n h = by (ltb n (2 ^ (w - 1))) refl
    where
      by : (b : Bool) → ltb n (2 ^ (w - 1)) ≡ b → mag (pick b (pos n) (negsuc (2 ^ w - suc n))) < 2 ^ (w - 1)
      by true e = ltb-true n (2 ^ (w - 1)) e
      by false e = omega (arith, twice, ltb-false n (2 ^ (w - 1)) e)

  pub bits_fit : (z : ℤ) → mag z < 2 ^ (w - 1) → bits_of w z < 2 ^ w
  bits_fit (pos n) h = omega (arith, twice)
  bits_fit (negsuc n) h = omega (arith, twice)

pub signed_reads_back : SignedReadsBack
signed_reads_back w some (pos n) h = rw (lt-ltb n (2 ^ (w - 1)) h)
signed_reads_back w some (negsuc n) h =
    let t = twice w some in
    let g : 2 ^ (w - 1) ≤ 2 ^ w - suc n = omega arith in
    rw (le-ltb (2 ^ w - suc n) (2 ^ (w - 1)) g) (ap negsuc (omega arith))

pub signed_writes_again : SignedWritesAgain
signed_writes_again w some n h = by (ltb n (2 ^ (w - 1)))
  where
    by : (b : Bool) → bits_of w (pick b (pos n) (negsuc (2 ^ w - suc n))) ≡ n
    by true = refl
    by false = omega arith
