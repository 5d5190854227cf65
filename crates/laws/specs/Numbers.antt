-- Numbers of n octets, the lowest octet first, and two's complement of w bits.
use Rattle.std.specs.Prelude.{ℕ, zero, suc, ◌+◌, ◌*◌, ◌/◌, ◌%◌, ◌^◌, ◌-◌, List, [], ◌∷◌, get_or, drop, ltb, ℤ, pos, negsuc}
use Rattle.laws.specs.Choice.{pick}

-- the number in the first n octets of a list; an octet past its end counts 0
unfoldable pub le_of : ℕ → List ℕ → ℕ
le_of zero s = 0
le_of (suc n) s = get_or s 0 0 + le_of n (drop 1 s) * 256

-- the n octets of a number
unfoldable pub le_octets : ℕ → ℕ → List ℕ
le_octets zero v = []
le_octets (suc n) v = v % 256 ∷ le_octets n (v / 256)

-- w bits as a signed number: from 2 ^ (w - 1) on they stand for n - 2 ^ w (negsuc m is -(m + 1))
abbrev pub signed_of : ℕ → ℕ → ℤ
signed_of w n = pick (ltb n (2 ^ (w - 1))) (pos n) (negsuc (2 ^ w - suc n))

-- the w bits of a signed number
abbrev pub bits_of : ℕ → ℤ → ℕ
bits_of w (pos n) = n
bits_of w (negsuc n) = 2 ^ w - suc n
