-- What has the form of a contract has one answer, and the contracts that write a frame have the form. Assumes nothing.
use mathlib.Core.Path.{◌≡◌, sym, ◌∙◌}
use mathlib.Core.List.{List, [], ◌∷◌}
use Prim.Native.Nat.{ℕ}
use lib.ListN.{length}
use Rattle.apdu.specs.Writing.{s_octets, s_refusal, answer_for, output_for}
use Rattle.promises.specs.Settled.{Left, Settles, FormSettles}
use Rattle.std.specs.Prelude.{Result}
use Rattle.elements.specs.declared.refusals.Refusal.{Refusal}

both : (R : Type 0) (a b : R) (l m : List (List ℕ)) → a ≡ b → l ≡ m → ◌≡◌ {A = Left R} (record { result = a; lent = l }) (record { result = b; lent = m })
both R a b l m e f = rw (e, f)

pub form_settles : FormSettles
form_settles R result lent more x y h k =
    both R x.result y.result x.lent y.lent (h.answers ∙ sym k.answers) (h.leaves ∙ sym k.leaves)

-- a contract as it stands in the code, with one equation for the answer and one for the output: that of `write_s`
abbrev WritesS : ℕ → List ℕ → Left (Result ℕ Refusal) → Type 0
WritesS receive out x =
    (x.result ≡ answer_for (s_refusal receive (length out)) (s_octets receive))
    × (x.lent ≡ (output_for (s_refusal receive (length out)) (s_octets receive) out ∷ []))

pub write_s_settles : (receive : ℕ) (out : List ℕ) → Settles (WritesS receive out)
write_s_settles receive out x y h k =
    form_settles (Result ℕ Refusal) _ _ (λ (z : Left (Result ℕ Refusal)). Unit {0}) x y
    (record { answers = h.0; leaves = h.1; besides = tt })
    (record { answers = k.0; leaves = k.1; besides = tt })
