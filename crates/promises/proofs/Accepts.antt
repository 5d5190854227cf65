-- What lists of octets the reader accepts: those that are laid out by the standard, and no others. Assumes nothing.
use Prim.Native.Nat.{ℕ, ◌+◌, ◌≤◌}
use mathlib.Core.Path.{◌≡◌, refl, sym, ap, ◌∙◌}
use mathlib.Core.Bool.{Bool, true, false}
use mathlib.Core.List.{List, ◌++◌}
use native.Mathlib.Omega.{arith}
use native.Mathlib.Nat.{mod-lt}
use lib.ListN.{length, get_or, drop, length-drop, take-append-drop}
use Rattle.laws.specs.Bits.{flag}
use Rattle.laws.specs.Lists.{Octets}
use Rattle.laws.specs.Numbers.{le_of}
use Rattle.laws.proofs.Lists.{octets_drop}
use Rattle.laws.proofs.Numbers.{le_fits}
use Rattle.objects.specs.declared.kinds.Kind.{Kind}
use Rattle.asdu.specs.Header.{sequence_in, count_in, cause_in, header_in, header_answer}
use Rattle.asdu.specs.Reading.{objects_refusal, read_refusal}
use Rattle.asdu.specs.declared.header.Header.{Header}
use Rattle.asdu.proofs.Walk.{plain_refusal, sequence_low}
use Rattle.promises.specs.Asdus.{Laid, Accepts}
use Rattle.promises.proofs.Bodies.{head_octets, Fields, header_passes, after_head, Headed, head_read, Accepted, accepted, rising}
use Rattle.asdu.proofs.Checked.{read_passes}
use Rattle.std.specs.Prelude.{Ok}

-- ---- what is laid out is accepted

-- addresses of three octets each are never refused; in a sequence the last one must still fit
objects_pass : (h : Header) (s : List ℕ) (q : Bool) → h.sequence ≡ q → Octets s → (q ≡ true → le_of 3 (drop 6 s) + h.count ≤ 16777216) → objects_refusal h s ≡ 0
objects_pass h s true e o r = sequence_low h s e (r refl)
objects_pass h s false e o r = plain_refusal h s e o

takes : (s : List ℕ) → Laid s → Octets s → read_refusal s ≡ 0
takes s l o =
    let h : Header = record {
      kind = l.kind;
      count = l.count;
      sequence = l.sequence;
      test = l.test;
      negative = l.negative;
      cause = l.cause;
      originator = l.originator;
      address = l.address;
    } in
    let f : Fields h = record { counted = l.counted; listed = l.listed; addressed = l.addressed } in
    let answer : header_answer s ≡ Ok h = ap header_answer l.laid ∙ header_passes h l.body f l.long l.short l.some in
    let first : le_of 3 (drop 6 s) ≡ le_of 3 l.body = ap (λ (x : List ℕ). le_of 3 (drop 6 x)) l.laid ∙ ap (le_of 3) (after_head h l.body) in
    read_passes s h answer (objects_pass h s l.sequence refl o (λ q. rw first (l.rising q)))

-- ---- what is accepted is laid out

-- the octets are those of the fields, and then the rest
laid_again : (k : Kind) (s : List ℕ) → Octets s → Headed k s → s ≡ head_octets (header_in k s) ++ drop 6 s
laid_again k s o h = sym (ap (λ (l : List ℕ). l ++ drop 6 s) (head_read k s o h) ∙ take-append-drop 6 s)

only_of : (k : Kind) (s : List ℕ) → Octets s → Accepted k s → Laid s
unfolding header_in
only_of k s o a =
    let g = a.headed in
    let long : 6 + length (drop 6 s) ≡ length s = omega (arith, length-drop 6 s, g.six) in
    record {
      kind = k;
      count = count_in s;
      sequence = sequence_in s;
      test = flag 7 (get_or s 2 0);
      negative = flag 6 (get_or s 2 0);
      cause = cause_in s;
      originator = get_or s 3 0;
      address = le_of 2 (drop 4 s);
      body = drop 6 s;
      laid = laid_again k s o g;
      counted = omega (arith, mod-lt (get_or s 1 0) {m = 128} (omega arith));
      listed = g.listed;
      addressed = le_fits 2 (drop 4 s) (octets_drop 4 s o);
      long = long ∙ g.long;
      short = omega (arith, g.short);
      some = g.some;
      rising = rising k s o a;
    }

pub accepts : (s : List ℕ) → Accepts s
accepts s = record { takes = takes s; only = λ o h. let (k, a) = accepted s h in only_of k s o a }
