-- One law for every octet: fields that lie apart come back, an octet written from an octet's fields has just the bits
-- that a field keeps, and what is left over has just the others.
use Prim.Native.Nat.{ℕ, zero, suc, ◌+◌, ◌*◌, ◌/◌, ◌%◌, ◌^◌, ◌-◌, ◌<◌, ◌≤◌}
use mathlib.Core.Path.{◌≡◌, refl, sym, ap, ◌∙◌}
use mathlib.Core.Bool.{Bool, true, false, ◌&&◌}
use mathlib.Core.List.{List, [], ◌∷◌}
use native.Mathlib.Omega.{arith}
use native.Mathlib.Numerals.{one-add}
use native.Mathlib.Decide.{dec_lt}
use native.Mathlib.Nat.{div-one, add-mul, mul_assoc, mul_comm, add_assoc, zero-add, lt_of_lt_of_le, mod-lt, zero-mul, pow-suc, add-mul-div_right, zero-div}
use lib.Pow.{pow-add, pow_pos, pow_mono, high, low, mod-pow-add, shr-shr, shl-shr, mod-mod-pow}
use lib.Arith.{digits_lt, bin_ind}
use lib.Dec.{T, leb, leb→le, eqb, eqb→eq}
use borrow.Author.Tests.{le-leb, lt-leb, lt-ltb, le-ltb}
use Rattle.laws.specs.Choice.{pick}
use Rattle.laws.specs.Bits.{field, flag, num, Field, Layout, fields, octet, kept, reserved, keeps, apart}
use Rattle.laws.specs.Promises.{Fitting, ReadsBack, WritesAgain, Reserves}

field_is : (p w b : ℕ) → field p w b ≡ b / 2 ^ p % 2 ^ w
field_is zero w b = rw (div-one b)
field_is (suc p) w b = refl

both : (a b : Bool) → T (a && b) → T a × T b
both true b h = (tt, h)
both false b h = absurd h

-- where the first field of a layout begins, and how its rest lies
begins : (lo hi : ℕ) (f : Field) (l : Layout) → T (apart lo (f ∷ l) hi) → lo ≤ f.pos
begins lo hi f l o = leb→le lo f.pos (both (leb lo f.pos) (apart (f.pos + f.wide) l hi) o).0

rest_apart : (lo hi : ℕ) (f : Field) (l : Layout) → T (apart lo (f ∷ l) hi) → T (apart (f.pos + f.wide) l hi)
rest_apart lo hi f l o = (both (leb lo f.pos) (apart (f.pos + f.wide) l hi) o).1

power : (p w : ℕ) → 2 ^ (p + w) ≡ 2 ^ w * 2 ^ p
power p w = pow-add 2 p w ∙ mul_comm (2 ^ p) (2 ^ w)

raise : (v m d w lo : ℕ) → v * 2 ^ (d + lo) + m * 2 ^ ((d + lo) + w) ≡ (v * 2 ^ d + m * 2 ^ (w + d)) * 2 ^ lo
raise v m d w lo =
    let a : (d + lo) + w ≡ (w + d) + lo = omega arith in
    rw (a, pow-add 2 d lo, pow-add 2 (w + d) lo, add-mul (v * 2 ^ d) (m * 2 ^ (w + d)) (2 ^ lo), mul_assoc v (2 ^ d) (2 ^ lo), mul_assoc m (2 ^ (w + d)) (2 ^ lo))

regroup : (x v m p w : ℕ) → x + (v * 2 ^ p + m * 2 ^ (p + w)) ≡ (m * 2 ^ w + v) * 2 ^ p + x
regroup x v m p w =
    let a : m * 2 ^ (p + w) ≡ m * 2 ^ w * 2 ^ p = ap (λ (y : ℕ). m * y) (power p w) ∙ sym (mul_assoc m (2 ^ w) (2 ^ p)) in
    omega (arith, a, add-mul (m * 2 ^ w) v (2 ^ p))

lowest : (x v m p w : ℕ) → x < 2 ^ p → v < 2 ^ w → field p w (x + (v * 2 ^ p + m * 2 ^ (p + w))) ≡ v
lowest x v m p w h g =
    field_is p w (x + (v * 2 ^ p + m * 2 ^ (p + w)))
    ∙ ap (λ (y : ℕ). y / 2 ^ p % 2 ^ w) (regroup x v m p w)
    ∙ ap (λ (y : ℕ). y % 2 ^ w) (high (m * 2 ^ w + v) p h)
    ∙ low m w g

below : (x v p w : ℕ) → x < 2 ^ p → v < 2 ^ w → x + v * 2 ^ p < 2 ^ (p + w)
below x v p w h g = omega (arith, digits_lt {q = v} {m = 2 ^ w} {r = x} {c = 2 ^ p} g h, power p w)

-- fields from lo on make a multiple of 2 ^ lo
raised : (lo hi : ℕ) (l : Layout) (vs : List ℕ) → T (apart lo l hi) → (m : ℕ) × (octet l vs ≡ m * 2 ^ lo)
raised lo hi [] vs o = (0, sym (zero-mul (2 ^ lo)))
raised lo hi (f ∷ l) [] o = (0, sym (zero-mul (2 ^ lo)))
raised lo hi (f ∷ l) (v ∷ vs) o =
    let (m, e) = raised (f.pos + f.wide) hi l vs (rest_apart lo hi f l o) in
    let h = begins lo hi f l o in
    let a : f.pos ≡ (f.pos - lo) + lo = omega arith in (
      v * 2 ^ (f.pos - lo) + m * 2 ^ (f.wide + (f.pos - lo)),
      ap (λ (y : ℕ). v * 2 ^ f.pos + y) e
          ∙ ap (λ (q : ℕ). v * 2 ^ q + m * 2 ^ (q + f.wide)) a
          ∙ raise v m (f.pos - lo) f.wide lo,
    )

fields_above : (lo hi x : ℕ) (l : Layout) (vs : List ℕ) → T (apart lo l hi) → Fitting l vs → x < 2 ^ lo → fields l (x + octet l vs) ≡ vs
fields_above lo hi x [] [] o g h = refl
fields_above lo hi x [] (v ∷ vs) o g h = absurd g
fields_above lo hi x (f ∷ l) [] o g h = absurd g
fields_above lo hi x (f ∷ l) (v ∷ vs) o g h =
    let p = f.pos in
    let w = f.wide in
    let o' = rest_apart lo hi f l o in
    let (m, e) = raised (p + w) hi l vs o' in
    let h' : x < 2 ^ p = lt_of_lt_of_le h (pow_mono (begins lo hi f l o)) in
    let first : field p w (x + (v * 2 ^ p + octet l vs)) ≡ v = ap (λ (y : ℕ). field p w (x + (v * 2 ^ p + y))) e ∙ lowest x v m p w h' g.0 in
    let rest : fields l (x + (v * 2 ^ p + octet l vs)) ≡ vs =
    ap (fields l) (sym (add_assoc x (v * 2 ^ p) (octet l vs))) ∙ fields_above (p + w) hi (x + v * 2 ^ p) l vs o' g.1 (below x v p w h' g.0) in
    λ i. first i ∷ rest i

pub fields_octet : ReadsBack
fields_octet hi l vs o g = ap (fields l) (sym (zero-add (octet l vs))) ∙ fields_above 0 hi 0 l vs o g (pow_pos 0)

pub fields_fit : (l : Layout) (b : ℕ) → Fitting l (fields l b)
fields_fit [] b = tt
fields_fit (f ∷ l) b = (rw (field_is f.pos f.wide b) (mod-lt (b / 2 ^ f.pos) (pow_pos f.wide)), fields_fit l b)

-- ---- bit by bit

bit_is : (i b : ℕ) → field i 1 b ≡ b / 2 ^ i % 2
bit_is i b = field_is i 1 b

-- a bit below what is a multiple of 2 ^ q, and one from bit q on
bit_under : (x m q i : ℕ) → i < q → field i 1 (x + m * 2 ^ q) ≡ field i 1 x
bit_under x m q i h =
    let k = m * 2 ^ (q - suc i) in
    let a : q ≡ (q - suc i) + suc i = omega arith in
    let b : m * 2 ^ q ≡ k * 2 * 2 ^ i =
    ap (λ (n : ℕ). m * 2 ^ n) a
    ∙ (ap (λ (y : ℕ). m * y) (pow-add 2 (q - suc i) (suc i))
    ∙ (sym (mul_assoc m (2 ^ (q - suc i)) (2 ^ suc i)) ∙ (ap (λ (y : ℕ). k * y) (pow-suc 2 i ∙ mul_comm (2 ^ i) 2) ∙ sym (mul_assoc k 2 (2 ^ i))))) in
    let c : (x + k * 2 * 2 ^ i) / 2 ^ i ≡ x / 2 ^ i + k * 2 = add-mul-div_right x (k * 2) (pow_pos i) in
    bit_is i (x + m * 2 ^ q)
    ∙ (ap (λ (y : ℕ). (x + y) / 2 ^ i % 2) b ∙ (ap (λ (y : ℕ). y % 2) c ∙ (omega arith ∙ sym (bit_is i x))))

bit_above : (x m q i : ℕ) → x < 2 ^ q → q ≤ i → field i 1 (x + m * 2 ^ q) ≡ field i 1 (m * 2 ^ q)
bit_above x m q i h g =
    let a : i ≡ q + (i - q) = omega arith in
    let up : (y : ℕ) → y < 2 ^ q → field i 1 (m * 2 ^ q + y) ≡ m / 2 ^ (i - q) % 2 =
    λ y s. bit_is i (m * 2 ^ q + y) ∙ (ap (λ (n : ℕ). (m * 2 ^ q + y) / 2 ^ n % 2) a
    ∙ (ap (λ (n : ℕ). n % 2) (sym (shr-shr (m * 2 ^ q + y) q (i - q))) ∙ ap (λ (n : ℕ). n / 2 ^ (i - q) % 2) (high m q s))) in
    ap (field i 1) (omega arith) ∙ (up x h ∙ sym (ap (field i 1) (omega arith) ∙ up 0 (pow_pos q)))

bit_zero : (i : ℕ) → field i 1 0 ≡ 0
bit_zero i = bit_is i 0 ∙ (ap (λ (y : ℕ). y % 2) (zero-div (2 ^ i)) ∙ omega arith)

-- a field has the octet's bits
bit_within : (b p w i : ℕ) → p ≤ i → i < p + w → field i 1 (field p w b * 2 ^ p) ≡ field i 1 b
bit_within b p w i h g =
    let j = i - p in
    let a : i ≡ p + j = omega arith in
    let n = b / 2 ^ p in
    let u : w ≡ (w - j) + j = omega arith in
    let t : w - j ≡ (w - suc j) + 1 = omega arith in
    let back : field i 1 b ≡ n / 2 ^ j % 2 = bit_is i b ∙ ap (λ (y : ℕ). y % 2) (ap (λ (y : ℕ). b / 2 ^ y) a ∙ sym (shr-shr b p j)) in
    let down : (v : ℕ) → v * 2 ^ p / 2 ^ i ≡ v / 2 ^ j = λ v. ap (λ (y : ℕ). v * 2 ^ p / 2 ^ y) a ∙ (sym (shr-shr (v * 2 ^ p) p j) ∙ ap (λ (y : ℕ). y / 2 ^ j) (shl-shr v p)) in
    let cut : n % 2 ^ w / 2 ^ j ≡ n / 2 ^ j % 2 ^ (w - j) = ap (λ (y : ℕ). n % 2 ^ y / 2 ^ j) u ∙ lib.Pow.field n (w - j) j in
    let one : n / 2 ^ j % 2 ^ (w - j) % 2 ≡ n / 2 ^ j % 2 = ap (λ (y : ℕ). n / 2 ^ j % 2 ^ y % 2) t ∙ mod-mod-pow (n / 2 ^ j) (w - suc j) 1 in
    bit_is i (field p w b * 2 ^ p)
    ∙ (ap (λ (y : ℕ). y % 2) (down (field p w b))
    ∙ (ap (λ (y : ℕ). y / 2 ^ j % 2) (field_is p w b) ∙ (ap (λ (y : ℕ). y % 2) cut ∙ (one ∙ sym back))))

-- a layout keeps no bit below its first field
keeps_none : (lo hi i : ℕ) (l : Layout) → T (apart lo l hi) → i < lo → keeps l i ≡ false
keeps_none lo hi i [] o h = refl
keeps_none lo hi i (f ∷ l) o h =
    let s = begins lo hi f l o in
    rw (lt-leb f.pos i (omega arith)) (keeps_none (f.pos + f.wide) hi i l (rest_apart lo hi f l o) (omega arith))

kept_bits : (lo hi : ℕ) (l : Layout) (b i : ℕ) → T (apart lo l hi) → field i 1 (kept l b) ≡ pick (keeps l i) (field i 1 b) 0
kept_bits lo hi [] b i o = bit_zero i
kept_bits lo hi (f ∷ l) b i o =
    let p = f.pos in
    let w = f.wide in
    let v = field p w b in
    let o' = rest_apart lo hi f l o in
    let (m, e) = raised (p + w) hi l (fields l b) o' in
    let fits : v < 2 ^ w = (fields_fit (f ∷ []) b).0 in
    let small : v * 2 ^ p < 2 ^ (p + w) = omega (arith, below 0 v p w (pow_pos p) fits) in
    let joined : field i 1 (v * 2 ^ p + kept l b) ≡ field i 1 (v * 2 ^ p + m * 2 ^ (p + w)) = ap (λ (y : ℕ). field i 1 (v * 2 ^ p + y)) e in
    elim (dec_lt i p) [
      | yes u ↦
          rw (lt-leb p i u, keeps_none (p + w) hi i l o' (omega arith))
          (joined ∙ (bit_under (v * 2 ^ p) m (p + w) i (omega arith) ∙ (ap (field i 1) (sym (zero-add (v * 2 ^ p))) ∙ (bit_under 0 v p i u ∙ bit_zero i))))
      | no u ↦ elim (dec_lt i (p + w)) [
        | yes t ↦
            rw (le-leb p i (omega arith), lt-ltb i (p + w) t)
            (joined ∙ (bit_under (v * 2 ^ p) m (p + w) i t ∙ bit_within b p w i (omega arith) t))
        | no t ↦
            rw (le-leb p i (omega arith), le-ltb i (p + w) (omega arith))
            (joined ∙ (bit_above (v * 2 ^ p) m (p + w) i small (omega arith) ∙ (ap (field i 1) (sym e) ∙ kept_bits (p + w) hi l b i o')))
      ]
    ]

pub writes_again : WritesAgain
writes_again hi l b i o = kept_bits 0 hi l b i o

-- ---- subtracting bits that are there

-- each bit of k is one of b's
abbrev Within : ℕ → ℕ → Type 0
Within k b = (i : ℕ) → k / 2 ^ i % 2 ≤ b / 2 ^ i % 2

first_bit : (k b : ℕ) → Within k b → k % 2 ≤ b % 2
first_bit k b h = rw (div-one k, div-one b) at (h 0)

halves : (k b : ℕ) → Within k b → Within (k / 2) (b / 2)
halves k b h i = rw (shr-shr k 1 i, shr-shr b 1 i, one-add i) (h (suc i))

within_le : (k b : ℕ) → Within k b → k ≤ b
within_le = bin_ind (λ (k : ℕ). (b : ℕ) → Within k b → k ≤ b) (λ b h. omega arith)
    (λ k go b h. let s = go (b / 2) (halves k b h) in let t = first_bit k b h in omega arith)

sub_bits : (i k b : ℕ) → Within k b → (b - k) / 2 ^ i % 2 ≡ b / 2 ^ i % 2 - k / 2 ^ i % 2
sub_bits zero k b h =
    let s = within_le (k / 2) (b / 2) (halves k b h) in
    let t = first_bit k b h in
    rw (div-one (b - k), div-one b, div-one k) (omega arith)
sub_bits (suc i) k b h =
    let s = within_le (k / 2) (b / 2) (halves k b h) in
    let t = first_bit k b h in
    let d : (b - k) / 2 ≡ b / 2 - k / 2 = omega arith in
    let up : (n : ℕ) → n / 2 ^ suc i ≡ n / 2 / 2 ^ i = λ n. ap (λ (y : ℕ). n / 2 ^ y) (sym (one-add i)) ∙ sym (shr-shr n 1 i) in
    rw (up (b - k), up b, up k, d) (sub_bits i (k / 2) (b / 2) (halves k b h))

-- what a layout keeps is there
kept_within : (hi : ℕ) (l : Layout) (b : ℕ) → T (apart 0 l hi) → Within (kept l b) b
kept_within hi l b o j = at_most (keeps l j) (field j 1 b) (sym (bit_is j b)) (sym (bit_is j (kept l b)) ∙ writes_again hi l b j o)
  where
    at_most : (t : Bool) (x : ℕ) {y z : ℕ} → y ≡ x → z ≡ pick t x 0 → z ≤ y
    at_most true x p q = omega arith
    at_most false x p q = omega arith

pub kept_most : (hi : ℕ) (l : Layout) (b : ℕ) → T (apart 0 l hi) → kept l b ≤ b
kept_most hi l b o = within_le (kept l b) b (kept_within hi l b o)

pub reserves : Reserves
reserves hi l b i o =
    bit_is i (reserved l b)
    ∙ (sub_bits i (kept l b) b (kept_within hi l b o)
    ∙ (rw (← bit_is i b, ← bit_is i (kept l b), writes_again hi l b i o) (rest (keeps l i) (field i 1 b))))
  where
    rest : (t : Bool) (x : ℕ) → x - pick t x 0 ≡ pick t 0 x
    rest true x = omega arith
    rest false x = omega arith

-- ---- one bit as a mark

pub flag_num : (p b : ℕ) → num (flag p b) ≡ field p 1 b
flag_num p b = by (field p 1 b) (rw (field_is p 1 b) (mod-lt (b / 2 ^ p) {m = 2} (omega arith)))
  where
    by : (x : ℕ) → x < 2 → num (eqb x 1) ≡ x
    by zero h = refl
    by (suc zero) h = refl
    by (suc (suc x)) h = absurd (omega arith)

pub num_flag : (x : Bool) → eqb (num x) 1 ≡ x
num_flag true = refl
num_flag false = refl

pub num_fits : (x : Bool) → num x < 2
num_fits true = omega arith
num_fits false = omega arith

-- ---- no reserved bit

-- each field begins where the one before ends, from lo up to hi
abbrev pub Covers : ℕ → Layout → ℕ → Type 0
Covers lo [] hi = T (eqb lo hi)
Covers lo (f ∷ l) hi = T (eqb lo f.pos) × Covers (f.wide + f.pos) l hi

kept_above : (lo hi b : ℕ) (l : Layout) → Covers lo l hi → b % 2 ^ lo + kept l b ≡ b % 2 ^ hi
kept_above lo hi b [] c = omega (arith, ap (λ (n : ℕ). b % 2 ^ n) (eqb→eq lo hi c))
kept_above lo hi b (f ∷ l) c =
    let e = eqb→eq lo f.pos c.0 in
    omega (
      arith,
      ap (λ (n : ℕ). b % 2 ^ n) e,
      ap (λ (n : ℕ). n * 2 ^ f.pos) (field_is f.pos f.wide b),
      mod-pow-add b f.wide f.pos,
      kept_above (f.wide + f.pos) hi b l c.1,
    )

-- a layout that covers an octet keeps it as it is
pub kept_whole : (b : ℕ) (l : Layout) → Covers 0 l 8 → b < 256 → kept l b ≡ b
kept_whole b l c h = omega (arith, kept_above 0 8 b l c, mod-lt b {m = 2 ^ 0} (omega arith))
