-- An octet by bit positions as document 01 numbers them: bit 0 is the lowest (the standard counts the same bits 1 to 8).
-- A layout lists the fields that an octet keeps. Reading, writing and the reserved bits all follow from it.
use Rattle.std.specs.Prelude.{ℕ, zero, suc, ◌+◌, ◌*◌, ◌/◌, ◌%◌, ◌^◌, ◌-◌, Bool, true, false, ◌&&◌, ◌||◌, List, [], ◌∷◌, eqb, leb, ltb}

-- the w bits of b from bit p on; bit 0 has a clause of its own so that no division by 1 stands in a goal
abbrev pub field : ℕ → ℕ → ℕ → ℕ
field zero w b = b % 2 ^ w
field (suc p) w b = b / 2 ^ suc p % 2 ^ w

-- whether bit p is set
abbrev pub flag : ℕ → ℕ → Bool
flag p b = eqb (field p 1 b) 1

-- a mark as a bit
abbrev pub num : Bool → ℕ
num true = 1
num false = 0

-- a kept field: its lowest bit and its width
pub record Field : Type 0 where
  pub pos : ℕ
  pub wide : ℕ

-- "5 at 0": five bits from bit 0 on
infix 70 ◌at◌
abbrev pub ◌at◌ : ℕ → ℕ → Field
w at p = record { pos = p; wide = w }

-- the kept fields of an octet, lowest first
abbrev pub Layout : Type 0
Layout = List Field

-- no bit is reserved
abbrev pub whole : Layout
whole = 8 at 0 ∷ []

-- the values of the kept fields of an octet
abbrev pub fields : Layout → ℕ → List ℕ
fields [] b = []
fields (f ∷ l) b = field f.pos f.wide b ∷ fields l b

-- the octet that holds these values; every other bit is 0
abbrev pub octet : Layout → List ℕ → ℕ
octet [] vs = 0
octet (f ∷ l) [] = 0
octet (f ∷ l) (v ∷ vs) = v * 2 ^ f.pos + octet l vs

-- what is kept of an octet, and what is left over
abbrev pub kept : Layout → ℕ → ℕ
kept l b = octet l (fields l b)

abbrev pub reserved : Layout → ℕ → ℕ
reserved l b = b - kept l b

-- whether some field of the layout has bit i
abbrev pub keeps : Layout → ℕ → Bool
keeps [] i = false
keeps (f ∷ l) i = (leb f.pos i && ltb i (f.pos + f.wide)) || keeps l i

-- the fields lie in order and apart from each other, from bit lo up to bit hi at most
abbrev pub apart : ℕ → Layout → ℕ → Bool
apart lo [] hi = leb lo hi
apart lo (f ∷ l) hi = leb lo f.pos && apart (f.pos + f.wide) l hi
