-- The octet level of demand 2, from the one law of layouts and the one of numbers. Assumes nothing.
use Prim.Native.Nat.{ℕ, zero, suc, ◌+◌, ◌*◌, ◌^◌, ◌<◌, ◌≤◌}
use mathlib.Core.Path.{◌≡◌, refl, sym, ap, ◌∙◌}
use mathlib.Core.Bool.{Bool, true, false}
use mathlib.Core.List.{List, [], ◌∷◌}
use native.Mathlib.Omega.{arith}
use native.Mathlib.Nat.{pow-suc}
use borrow.Author.Tests.{lt-ltb, le-ltb, ltb-true, ltb-false, ne_eqb}
use lib.Dec.{T, eqb, ltb}
use lib.ListN.{get_or}
use lib.Pow.{pow-add}
use lib.Signed.{mag}
use Rattle.laws.specs.Bits.{Layout, ◌at◌, field, flag, num, octet, kept, apart, whole}
use Rattle.laws.specs.Numbers.{le_of, le_octets, signed_of, bits_of}
use Rattle.laws.proofs.Layouts.{fields_octet, fields_fit, writes_again, reserves, flag_num, num_flag, num_fits, kept_whole}
use Rattle.laws.proofs.Numbers as numbers
use Rattle.laws.specs.Choice.{pick}
use Rattle.elements.specs.Refusals.{refusal, value_out_of_range, answer_number, octet_in, pair_first, pair_second}
use Rattle.elements.specs.Quality.{qds_layout, qds_of, qds_octet, seq_qd_layout, seq_qd_of, seq_qd_octet, seq_qd_answer}
use Rattle.elements.specs.Points.{siq_layout, siq_of, siq_octet, spi_of, spi_bits, diq_layout, diq_of, diq_octet, dpi_of, dpi_bits}
use Rattle.elements.specs.Steps.{vti_layout, vti_of, vti_octet}
use Rattle.elements.specs.Causes.{coi_of, coi_answer}
use Rattle.elements.specs.Promises.{Bitwise, Octetwise, StepPair, SignedOctets, OctetLevel}
use Rattle.std.specs.Prelude.{Result, Ok, Err}
use Rattle.elements.specs.declared.refusals.Refusal.{Refusal}
use Rattle.elements.specs.declared.quality_descriptors.Qds.{Qds}
use Rattle.elements.specs.declared.quality_descriptors.SeqQd.{SeqQd}
use Rattle.elements.specs.declared.information_elements.Spi.{Spi}
use Rattle.elements.specs.declared.information_elements.Siq.{Siq}
use Rattle.elements.specs.declared.information_elements.Dpi.{Dpi}
use Rattle.elements.specs.declared.information_elements.Diq.{Diq}
use Rattle.elements.specs.declared.information_elements.Vti.{Vti}
use Rattle.elements.specs.declared.information_elements.Coi.{Coi}

bitwise : (l : Layout) (mask : ℕ) → T (apart 0 l 8) → kept l 255 ≡ mask → Bitwise l mask
bitwise l mask o m = record { lies = o; masked = m; keeping = λ b i. writes_again 8 l b i o; reserving = λ b i. reserves 8 l b i o }

-- ---- the quality marks, which QDS, SIQ and DIQ share: bl 4, sb 5, nt 6, iv 7 above a low field of w bits

abbrev marked : ℕ → Layout
marked w = w at 0 ∷ 1 at 4 ∷ 1 at 5 ∷ 1 at 6 ∷ 1 at 7 ∷ []

abbrev marks : ℕ → Bool → Bool → Bool → Bool → List ℕ
marks v bl sb nt iv = v ∷ num bl ∷ num sb ∷ num nt ∷ num iv ∷ []

record Marks (w v : ℕ) (bl sb nt iv : Bool) (b : ℕ) : Type 0 where
  low : field 0 w b ≡ v
  bl_is : flag 4 b ≡ bl
  sb_is : flag 5 b ≡ sb
  nt_is : flag 6 b ≡ nt
  iv_is : flag 7 b ≡ iv

marks_back : (w v : ℕ) (bl sb nt iv : Bool) → T (apart 0 (marked w) 8) → v < 2 ^ w → Marks w v bl sb nt iv (octet (marked w) (marks v bl sb nt iv))
marks_back w v bl sb nt iv o h =
    let e = fields_octet 8 (marked w) (marks v bl sb nt iv) o (h, (num_fits bl, (num_fits sb, (num_fits nt, (num_fits iv, tt))))) in
    record {
      low = ap (λ (l : List ℕ). get_or l 0 0) e;
      bl_is = ap (λ (l : List ℕ). eqb (get_or l 1 0) 1) e ∙ num_flag bl;
      sb_is = ap (λ (l : List ℕ). eqb (get_or l 2 0) 1) e ∙ num_flag sb;
      nt_is = ap (λ (l : List ℕ). eqb (get_or l 3 0) 1) e ∙ num_flag nt;
      iv_is = ap (λ (l : List ℕ). eqb (get_or l 4 0) 1) e ∙ num_flag iv;
    }

-- ---- values of a small field

field_small : (w b : ℕ) → field 0 w b < 2 ^ w
field_small w b = (fields_fit (w at 0 ∷ []) b).0

spi_back : (s : Spi) → spi_of (spi_bits s) ≡ s
spi_back Spi.Off = refl
spi_back Spi.On = refl

spi_small : (s : Spi) → spi_bits s < 2
spi_small Spi.Off = omega arith
spi_small Spi.On = omega arith

spi_again : (n : ℕ) → n < 2 → spi_bits (spi_of n) ≡ n
spi_again zero h = refl
spi_again (suc zero) h = refl
spi_again (suc (suc n)) h = absurd (omega arith)

dpi_back : (d : Dpi) → dpi_of (dpi_bits d) ≡ d
dpi_back Dpi.Indeterminate = refl
dpi_back Dpi.Off = refl
dpi_back Dpi.On = refl
dpi_back Dpi.Invalid = refl

dpi_small : (d : Dpi) → dpi_bits d < 4
dpi_small Dpi.Indeterminate = omega arith
dpi_small Dpi.Off = omega arith
dpi_small Dpi.On = omega arith
dpi_small Dpi.Invalid = omega arith

dpi_again : (n : ℕ) → n < 4 → dpi_bits (dpi_of n) ≡ n
dpi_again zero h = refl
dpi_again (suc zero) h = refl
dpi_again (suc (suc zero)) h = refl
dpi_again (suc (suc (suc zero))) h = refl
dpi_again (suc (suc (suc (suc n)))) h = absurd (omega arith)

-- ---- each octet

-- an octet that is always written
written : {R : Type 0} {l : Layout} {mask : ℕ} (of : ℕ → R) (octetOf : R → ℕ)
    → Bitwise l mask
    → ((v : R) → of (octetOf v) ≡ v)
    → ((b : ℕ) → octetOf (of b) ≡ kept l b)
    → Octetwise l mask of (λ v. Ok (octetOf v))
written of octetOf bits back again = record { bits = bits; back = λ v e. back v; again = λ b h. (refl, again b) }

pub qds_back : (q : Qds) → qds_of (qds_octet q) ≡ q
qds_back q =
    let m = marks_back 1 (num q.ov) q.bl q.sb q.nt q.iv tt (num_fits q.ov) in
    λ i. record { iv = m.iv_is i; nt = m.nt_is i; sb = m.sb_is i; bl = m.bl_is i; ov = (ap (λ (x : ℕ). eqb x 1) m.low ∙ num_flag q.ov) i }

pub qds_again : (b : ℕ) → qds_octet (qds_of b) ≡ kept qds_layout b
qds_again b = rw (flag_num 0 b, flag_num 4 b, flag_num 5 b, flag_num 6 b, flag_num 7 b)

pub siq_back : (q : Siq) → siq_of (siq_octet q) ≡ q
siq_back q =
    let m = marks_back 1 (spi_bits q.spi) q.bl q.sb q.nt q.iv tt (spi_small q.spi) in
    λ i. record { iv = m.iv_is i; nt = m.nt_is i; sb = m.sb_is i; bl = m.bl_is i; spi = (ap spi_of m.low ∙ spi_back q.spi) i }

pub siq_again : (b : ℕ) → siq_octet (siq_of b) ≡ kept siq_layout b
siq_again b = rw (spi_again (field 0 1 b) (field_small 1 b), flag_num 4 b, flag_num 5 b, flag_num 6 b, flag_num 7 b)

pub diq_back : (q : Diq) → diq_of (diq_octet q) ≡ q
diq_back q =
    let m = marks_back 2 (dpi_bits q.dpi) q.bl q.sb q.nt q.iv tt (dpi_small q.dpi) in
    λ i. record { iv = m.iv_is i; nt = m.nt_is i; sb = m.sb_is i; bl = m.bl_is i; dpi = (ap dpi_of m.low ∙ dpi_back q.dpi) i }

pub diq_again : (b : ℕ) → diq_octet (diq_of b) ≡ kept diq_layout b
diq_again b = rw (dpi_again (field 0 2 b) (field_small 2 b), flag_num 4 b, flag_num 5 b, flag_num 6 b, flag_num 7 b)

pub seq_qd_back : (q : SeqQd) → q.seq ≤ 31 → seq_qd_of (seq_qd_octet q) ≡ q
seq_qd_back q h =
    let e = fields_octet 8 seq_qd_layout (q.seq ∷ num q.cy ∷ num q.ca ∷ num q.iv ∷ []) tt
    (omega arith, (num_fits q.cy, (num_fits q.ca, (num_fits q.iv, tt)))) in
    λ i. record {
      iv = (ap (λ (l : List ℕ). eqb (get_or l 3 0) 1) e ∙ num_flag q.iv) i;
      ca = (ap (λ (l : List ℕ). eqb (get_or l 2 0) 1) e ∙ num_flag q.ca) i;
      cy = (ap (λ (l : List ℕ). eqb (get_or l 1 0) 1) e ∙ num_flag q.cy) i;
      seq = ap (λ (l : List ℕ). get_or l 0 0) e i;
    }

pub seq_qd_again : (b : ℕ) → seq_qd_octet (seq_qd_of b) ≡ kept seq_qd_layout b
seq_qd_again b = rw (flag_num 5 b, flag_num 6 b, flag_num 7 b)

-- what a writer that may refuse with 15 has accepted, and what it has written
abbrev answered : Bool → ℕ → Result ℕ Refusal
answered t x = pick t (Err (refusal value_out_of_range)) (Ok x)

accepted : (t : Bool) (x : ℕ) → answer_number (answered t x) ≡ 0 → (t ≡ false) × (octet_in (answered t x) ≡ x)
unfolding refusal
accepted true x e = absurd (omega arith)
accepted false x e = (refl, refl)

counter : Octetwise seq_qd_layout 255 seq_qd_of seq_qd_answer
counter =
    record {
      bits = bitwise seq_qd_layout 255 tt refl;
      back = λ q e.
          let a = accepted (ltb 31 q.seq) (seq_qd_octet q) e in
          ap seq_qd_of a.1 ∙ seq_qd_back q (ltb-false 31 q.seq a.0);
      again = λ b h. let s = field_small 5 b in rw (le-ltb 31 (field 0 5 b) (omega arith)) (refl, seq_qd_again b);
    }

coi_other : (n : ℕ) → 3 ≤ n → coi_of n ≡ Coi.Other n
coi_other n h =
    rw (ne_eqb n 0 (λ e. omega arith), ne_eqb n 1 (λ e. omega arith), ne_eqb n 2 (λ e. omega arith))

coi_back : (c : Coi) → answer_number (coi_answer c) ≡ 0 → coi_of (octet_in (coi_answer c)) ≡ c
coi_back Coi.LocalPowerOn e = refl
coi_back Coi.LocalManualReset e = refl
coi_back Coi.RemoteReset e = refl
coi_back (Coi.Other n) e = let a = accepted (ltb n 3) n e in ap coi_of a.1 ∙ coi_other n (ltb-false n 3 a.0)

coi_again : (b : ℕ) → (answer_number (coi_answer (coi_of b)) ≡ 0) × (octet_in (coi_answer (coi_of b)) ≡ b)
coi_again zero = (refl, refl)
coi_again (suc zero) = (refl, refl)
coi_again (suc (suc zero)) = (refl, refl)
coi_again (suc (suc (suc n))) =
    rw (coi_other (suc (suc (suc n))) (omega arith), le-ltb (suc (suc (suc n))) 3 (omega arith)) (refl, refl)

-- VTI: seven signed bits and a mark
vti_first : (v : Vti) → mag v.value < 64 → (field 0 7 (vti_octet v) ≡ bits_of 7 v.value) × (flag 7 (vti_octet v) ≡ v.transient)
vti_first v h =
    let e = fields_octet 8 vti_layout (bits_of 7 v.value ∷ num v.transient ∷ []) tt
    (numbers.bits_fit 7 (omega arith) v.value h, (num_fits v.transient, tt)) in
    (ap (λ (l : List ℕ). get_or l 0 0) e, ap (λ (l : List ℕ). eqb (get_or l 1 0) 1) e ∙ num_flag v.transient)

vti_back : (v : Vti) → mag v.value < 64 → vti_of (vti_octet v) (qds_octet v.qds) ≡ v
vti_back v h =
    let f = vti_first v h in
    let value = ap (signed_of 7) f.0 ∙ numbers.signed_reads_back 7 (omega arith) v.value h in
    λ i. record { value = value i; transient = f.1 i; qds = qds_back v.qds i }

pair_accepted : (t : Bool) (x y : ℕ) → let answer = pick {A = Result (ℕ × ℕ) Refusal} t (Ok (x, y)) (Err (refusal value_out_of_range)) in
    answer_number answer ≡ 0 → (t ≡ true) × (pair_first answer ≡ x) × (pair_second answer ≡ y)
unfolding refusal
pair_accepted false x y e = absurd (omega arith)
pair_accepted true x y e = (refl, refl, refl)

step : StepPair
step =
    record {
      step = bitwise vti_layout 255 tt refl;
      back = λ v e.
          let k = pair_accepted (ltb (mag v.value) 64) (vti_octet v) (qds_octet v.qds) e in
          (λ i. vti_of (k.1 i) (k.2 i)) ∙ vti_back v (ltb-true (mag v.value) 64 k.0);
      again = λ a b h g.
          let s = field_small 7 a in
          let z = signed_of 7 (field 0 7 a) in
          let small : mag z < 64 = numbers.signed_fits 7 (omega arith) (field 0 7 a) s in
          rw (lt-ltb (mag z) 64 small, numbers.signed_writes_again 7 (omega arith) (field 0 7 a) s, flag_num 7 a)
          (record { accepted = refl; first = refl; second = qds_again b });
    }

-- ---- signed numbers of n octets

power : (n : ℕ) → 256 ^ n ≡ 2 ^ (8 * n)
power zero = refl
power (suc n) =
    let e : 8 * suc n ≡ 8 * n + 8 = omega arith in
    pow-suc 256 n ∙ (ap (λ (x : ℕ). x * 256) (power n) ∙ sym (ap (λ (x : ℕ). 2 ^ x) e ∙ pow-add 2 (8 * n) 8))

pub signed_octets : (n : ℕ) → 1 ≤ n → SignedOctets n
signed_octets n some =
    let wide : 1 ≤ 8 * n = omega arith in
    record {
      back = λ z rest h.
          let fits : bits_of (8 * n) z < 256 ^ n = rw (power n) (numbers.bits_fit (8 * n) wide z h) in
          ap (signed_of (8 * n)) (numbers.reads_back n (bits_of (8 * n) z) rest fits) ∙ numbers.signed_reads_back (8 * n) wide z h;
      again = λ s o h.
          let fits : le_of n s < 2 ^ (8 * n) = rw (power n) at (numbers.le_fits n s o) in
          ap (le_octets n) (numbers.signed_writes_again (8 * n) wide (le_of n s) fits) ∙ numbers.writes_again n s o h;
    }

pub octet_level : OctetLevel
octet_level =
    record {
      qds = written qds_of qds_octet (bitwise qds_layout 241 tt refl) qds_back qds_again;
      counter = counter;
      siq = written siq_of siq_octet (bitwise siq_layout 241 tt refl) siq_back siq_again;
      diq = written diq_of diq_octet (bitwise diq_layout 243 tt refl) diq_back diq_again;
      coi = record {
        bits = bitwise whole 255 tt refl;
        back = coi_back;
        again = λ b h. let a = coi_again b in (a.0, a.1 ∙ sym (kept_whole b whole (tt, tt) h));
      };
      vti = step;
      i16 = signed_octets 2 (omega arith);
      i32 = signed_octets 4 (omega arith);
      bits32 = record { back = numbers.reads_back 4; again = numbers.writes_again 4 };
      command = record { back = numbers.reads_back 1; again = numbers.writes_again 1 };
    }
