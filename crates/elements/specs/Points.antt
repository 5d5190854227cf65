-- IEC 60870-5-101: single point SIQ and double point DIQ, each with its quality marks.
use Rattle.std.specs.Prelude.{ℕ, [], ◌∷◌, eqb}
use Rattle.laws.specs.Bits.{field, flag, num, Layout, ◌at◌, octet}
use Rattle.laws.specs.Choice.{pick}
use Rattle.elements.specs.declared.information_elements.Spi.{Spi}
use Rattle.elements.specs.declared.information_elements.Siq.{Siq}
use Rattle.elements.specs.declared.information_elements.Dpi.{Dpi}
use Rattle.elements.specs.declared.information_elements.Diq.{Diq}

-- single point: 0 off, else on
abbrev pub spi_of : ℕ → Spi
spi_of n = pick (eqb n 0) Spi.Off Spi.On

abbrev pub spi_bits : Spi → ℕ
spi_bits Spi.Off = 0
spi_bits Spi.On = 1

-- SIQ: spi 0, bl 4, sb 5, nt 6, iv 7; bits 1 to 3 are reserved, so octet 0E is off with all marks clear
abbrev pub siq_layout : Layout
siq_layout = 1 at 0 ∷ 1 at 4 ∷ 1 at 5 ∷ 1 at 6 ∷ 1 at 7 ∷ []

abbrev pub siq_of : ℕ → Siq
siq_of b = record { iv = flag 7 b; nt = flag 6 b; sb = flag 5 b; bl = flag 4 b; spi = spi_of (field 0 1 b) }

abbrev pub siq_octet : Siq → ℕ
siq_octet q = octet siq_layout (spi_bits q.spi ∷ num q.bl ∷ num q.sb ∷ num q.nt ∷ num q.iv ∷ [])

-- double point: 0 indeterminate or intermediate, 1 off, 2 on, 3 indeterminate (here Invalid, as the Rust names it)
abbrev pub dpi_of : ℕ → Dpi
dpi_of n = pick (eqb n 0) Dpi.Indeterminate (pick (eqb n 1) Dpi.Off (pick (eqb n 2) Dpi.On Dpi.Invalid))

abbrev pub dpi_bits : Dpi → ℕ
dpi_bits Dpi.Indeterminate = 0
dpi_bits Dpi.Off = 1
dpi_bits Dpi.On = 2
dpi_bits Dpi.Invalid = 3

-- DIQ: dpi 0 and 1, bl 4, sb 5, nt 6, iv 7; bits 2 and 3 are reserved
abbrev pub diq_layout : Layout
diq_layout = 2 at 0 ∷ 1 at 4 ∷ 1 at 5 ∷ 1 at 6 ∷ 1 at 7 ∷ []

abbrev pub diq_of : ℕ → Diq
diq_of b = record { iv = flag 7 b; nt = flag 6 b; sb = flag 5 b; bl = flag 4 b; dpi = dpi_of (field 0 2 b) }

abbrev pub diq_octet : Diq → ℕ
diq_octet q = octet diq_layout (dpi_bits q.dpi ∷ num q.bl ∷ num q.sb ∷ num q.nt ∷ num q.iv ∷ [])
