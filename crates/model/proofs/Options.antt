-- What an equation between options tells.
use Rattle.std.proofs.Common.{◌≡◌, Some, None}

pub some_is : {X : Type 0} {x y : X} → Some x ≡ Some y → x ≡ y
some_is e = cc

pub some_not_none : {X : Type 0} {x : X} → Some x ≡ None → ⊥
some_not_none e = cc
