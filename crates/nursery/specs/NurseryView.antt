-- The numbers that a `Nursery` keeps.
use Rattle.nursery.specs.NurseryValue.{NurseryValue}
use Rattle.nursery.specs.declared.filling.Nursery.TheInside.{Inside}

abbrev pub view_of : Inside → NurseryValue
view_of n = record { first = n.first; blocks = n.blocks; current = n.current }

abbrev pub fields_of : NurseryValue → Inside
fields_of n = record { first = n.first; blocks = n.blocks; current = n.current }
