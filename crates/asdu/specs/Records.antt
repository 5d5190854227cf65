-- The record of an ASDU: the header's fields, the count, and 127 objects of which the first count are its own.
use Rattle.std.specs.Prelude.{false, List, []}
use Rattle.laws.specs.Lists.{padded}
use Rattle.objects.specs.Kinds.{type_of}
use Rattle.objects.specs.Objects.{blank}
use Rattle.objects.specs.declared.Object.{Object}
use Rattle.asdu.specs.declared.header.Header.{Header}
use Rattle.asdu.specs.declared.Asdu.{Asdu}

-- 127 objects: the given ones, the rest blank
abbrev pub filled : List Object → List Object
filled os = padded 127 blank os

-- no object at all
unfoldable pub blanks : List Object
blanks = filled []

-- the record of a header and 127 objects
abbrev pub asdu_of : Header → List Object → Asdu
asdu_of h os = record {
  objects = os;
  count = h.count;
  type_id = type_of h.kind;
  sequence = h.sequence;
  test = h.test;
  negative = h.negative;
  cause = h.cause;
  originator = h.originator;
  address = h.address;
}

-- all 0 and clear
abbrev pub no_asdu : Asdu
no_asdu = record {
  objects = blanks;
  count = 0;
  type_id = 0;
  sequence = false;
  test = false;
  negative = false;
  cause = 0;
  originator = 0;
  address = 0;
}
