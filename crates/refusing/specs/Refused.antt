-- What an allocator that refuses requests shows.
use Rattle.std.specs.Prelude.{ℕ}
use Rattle.refusing.specs.declared.Refusing.{Refusing}

-- the number of the first request that is refused, counted from 0
abbrev pub first_refused : {B : Type 0} → Refusing B → ℕ
first_refused r = r.requests.first_refused

-- the number of the last one
abbrev pub last_refused : {B : Type 0} → Refusing B → ℕ
last_refused r = r.requests.last_refused

-- the allocator that answers the other requests
abbrev pub inner_allocator : {B : Type 0} → Refusing B → B
inner_allocator r = r.inner
