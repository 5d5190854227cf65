-- The octets of frames one after the other. Assumes nothing.
use mathlib.Core.Path.{◌≡◌, refl}
use mathlib.Core.List.{List, [], ◌∷◌, ◌++◌, append_assoc, append-nil}
use Rattle.link.specs.Frames.{Frame, octets_of, wire}

pub wire_append : (fs gs : List Frame) → wire (fs ++ gs) ≡ wire fs ++ wire gs
unfolding wire
wire_append [] gs = refl
wire_append (f ∷ fs) gs = rw (wire_append fs gs, append_assoc)

pub wire_one : (f : Frame) → wire (f ∷ []) ≡ octets_of f
unfolding wire
wire_one f = append-nil (octets_of f)
