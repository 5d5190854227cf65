-- Kinds and their numbers: each kind has its own. Assumes nothing.
use Prim.Native.Nat.{ℕ}
use mathlib.Core.Path.{◌≡◌, refl, ap, ◌∙◌}
use mathlib.Core.Bool.{Bool, true, false}
use mathlib.Core.List.{List, [], ◌∷◌}
use native.Mathlib.Omega.{arith}
use lib.Dec.{eqb}
use borrow.Author.Tests.{eqb-true}
use Rattle.laws.specs.Choice.{pick}
use Rattle.objects.specs.Kinds.{type_of, kind_of, kinds, among}
use Rattle.objects.specs.declared.kinds.Kind.{Kind}
use Rattle.std.specs.Prelude.{Some}

pub kind_type : (k : Kind) → kind_of (type_of k) ≡ Some k
kind_type Kind.MSpNa1 = refl
kind_type Kind.MDpNa1 = refl
kind_type Kind.MStNa1 = refl
kind_type Kind.MBoNa1 = refl
kind_type Kind.MMeNa1 = refl
kind_type Kind.MMeNb1 = refl
kind_type Kind.MMeNc1 = refl
kind_type Kind.MItNa1 = refl
kind_type Kind.MMeNd1 = refl
kind_type Kind.MEiNa1 = refl
kind_type Kind.CIcNa1 = refl
kind_type Kind.CCiNa1 = refl
kind_type Kind.CRdNa1 = refl

among_type : (ks : List Kind) (t : ℕ) (k : Kind) → among ks t ≡ Some k → t ≡ type_of k
among_type [] t k e = let z : ◌≡◌ {A = ℕ} 0 1 = cc in absurd (omega arith)
among_type (j ∷ ks) t k e = by (eqb t (type_of j)) refl e (λ g. among_type ks t k g)
  where
    by : (b : Bool) → eqb t (type_of j) ≡ b → pick b (Some j) (among ks t) ≡ Some k → (among ks t ≡ Some k → t ≡ type_of k) → t ≡ type_of k
    by true f g rest = let s : j ≡ k = cc in eqb-true t (type_of j) f ∙ ap type_of s
    by false f g rest = rest g

pub type_kind : (t : ℕ) (k : Kind) → kind_of t ≡ Some k → t ≡ type_of k
type_kind t k e = among_type kinds t k e

pub same_kind : (k j : Kind) → type_of k ≡ type_of j → k ≡ j
same_kind k j e = cc (kind_type k, kind_type j, ap kind_of e)
