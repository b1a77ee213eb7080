-- The object that a reference shows.
use Rattle.layout.specs.Object.{Raw}
use Rattle.layout.specs.declared.object.ObjectRef.{ObjectRef}

-- its words, without where they lie
abbrev pub raw_of : ObjectRef → Raw
raw_of object = record { pointers = object.pointers.now; plain = object.words.now }
