-- Plain form: no octet has a reserved bit set. `promises` shows that this is "writing its reading gives the same octets".
use Rattle.std.specs.Prelude.{ℕ, ◌+◌, ◌*◌, Bool, true, false, ◌&&◌, ◌||◌, not, List, [], ◌∷◌, get_or, drop, eqb, Result, Ok, Err}
use Rattle.laws.specs.Bits.{Layout, kept, reserved}
use Rattle.laws.specs.Choice.{pick}
use Rattle.laws.specs.Lists.{every}
use Rattle.elements.specs.declared.refusals.Refusal.{Refusal}
use Rattle.objects.specs.Kinds.{form_of}
use Rattle.objects.specs.declared.kinds.Kind.{Kind}
use Rattle.asdu.specs.Header.{step_of}
use Rattle.asdu.specs.Reading.{checked_header}
use Rattle.asdu.specs.declared.header.Header.{Header}
use Rattle.asdu.specs.declared.Form.{Form}
use Rattle.asdu.specs.declared.Form.TheVariants.{Plain, Reserved}

-- no reserved bit in the octets of this form that begin a list
abbrev pub plain_form : List Layout → List ℕ → Bool
plain_form [] s = true
plain_form (l ∷ ls) s = eqb (reserved l (get_or s 0 0)) 0 && plain_form ls (drop 1 s)

-- whether an octet of the kind's form has a reserved bit: only then is there anything to look at
abbrev pub any_reserved : List Layout → Bool
any_reserved [] = false
any_reserved (l ∷ ls) = not (eqb (kept l 255) 255) || any_reserved ls

abbrev pub has_reserved : Kind → Bool
has_reserved k = any_reserved (form_of k)

-- element i begins after the header, an address, and i elements, in the plain layout with an address each
unfoldable pub plain_element : Header → List ℕ → ℕ → Bool
plain_element h s i = plain_form (form_of h.kind) (drop (9 + i * step_of h.kind h.sequence) s)

-- every element; header and addresses have no reserved bit
unfoldable pub plain_objects : Header → List ℕ → Bool
plain_objects h s = every (plain_element h s) h.count

-- plain, or with reserved bits set, or the reading's refusal
abbrev pub plain_by : Result Header Refusal → List ℕ → Result Form Refusal
plain_by (Ok h) s = Ok (pick (plain_objects h s) Plain Reserved)
plain_by (Err r) s = Err r

unfoldable pub plain_answer : List ℕ → Result Form Refusal
plain_answer s = plain_by (checked_header s) s
