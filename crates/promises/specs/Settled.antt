-- "Each public function's contract settles its result and every lent byte on all inputs, refused ones too: show that no two
-- results satisfy it" (document 01). Every contract has one form, which tools/audit looks for; what has the form settles.
use Rattle.std.specs.Prelude.{◌≡◌, List, ℕ}

-- what a call leaves behind: its result, and the contents of each slice that was lent to it for writing
pub record Left (R : Type 0) : Type 0 where
  pub result : R
  pub lent : List (List ℕ)

-- the form: an equation for the result and one for each lent slice, whose right sides know only what the call was given;
-- and whatever a contract says besides
pub record Form {R : Type 0} (result : R) (lent : List (List ℕ)) (more : Left R → Type 0) (x : Left R) : Type 0 where
  pub answers : x.result ≡ result
  pub leaves : x.lent ≡ lent
  pub besides : more x

-- no two satisfy it
abbrev pub Settles : {R : Type 0} → (Left R → Type 0) → Type 0
Settles {R} contract = (x y : Left R) → contract x → contract y → x ≡ y

abbrev pub FormSettles : Type 1
FormSettles = (R : Type 0) (result : R) (lent : List (List ℕ)) (more : Left R → Type 0) → Settles (Form result lent more)
