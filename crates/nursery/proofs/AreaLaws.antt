-- Flags by number for each generation, written one generation after the other.
use Rattle.std.proofs.Common.{◌≡◌, ◌≢◌, ℕ, ◌+◌, ◌-◌, ◌<◌, ◌≤◌, min, Bool, true, false, cond, ◌&&◌, List, [], length, set, get_or, refl, ap, ◌∙◌, arith, ⊎_elim, get_or-set_other, get_or-set_same}
use Rattle.std.proofs.lemmas.Bool.{cases_eq, cases_lt, eq-eqb, ne_eqb}
use Rattle.std.proofs.lemmas.Bool.Decides.{nat_tests}
use Rattle.std.proofs.lemmas.List.{length-set}
use Rattle.std.specs.Prelude.{nat_eq, nat_le}
use Rattle.nursery.specs.Areas.{is_flagged, HasRoom}

-- the flags of a generation after that of one number was written
pub record OneWritten (flag : Bool) (old now : List Bool) (number : ℕ) : Type 0 where
  pub there : get_or now number false ≡ flag
  pub others : (k : ℕ) → k ≢ number → get_or now k false ≡ get_or old k false
  pub len : length now ≡ length old

-- the number's flag was written in the generations from one on and below another
pub record Written (flag : Bool) (old now : List (List Bool)) (number from to : ℕ) : Type 0 where
  pub many : length now ≡ length old
  pub done : (h : ℕ) → from ≤ h → h < to → OneWritten flag (get_or old h []) (get_or now h []) number
  pub low : (h : ℕ) → h < from → get_or now h [] ≡ get_or old h []
  pub high : (h : ℕ) → to ≤ h → get_or now h [] ≡ get_or old h []

module _ (flag : Bool) (old : List (List Bool)) (number from : ℕ) where
  pub none_written : Written flag old old number from from
  none_written = record {
    many = refl;
    done = λ h le lt. absurd (omega arith);
    low = λ h lt. refl;
    high = λ h le. refl;
  }

  pub more_written : (now : List (List Bool)) (to : ℕ) (x : List Bool) → to < length now → from ≤ to → Written flag old now number from to → OneWritten flag (get_or now to []) x number → Written flag old (set now to x) number from (to + 1)
  more_written now to x lt low so_far one = record {
    many = length-set now to x ∙ so_far.many;
    done = λ h le below. ⊎_elim
        (λ e. let here : h ≡ to = e in rw (here, get_or-set_same now to x [] lt, ← so_far.high to (omega arith)) one)
        (λ ne. let other : h ≢ to = ne in rw (get_or-set_other now to h x [] other) (so_far.done h le (omega arith)))
        (cases_eq h to);
    low = λ h below. get_or-set_other now to h x [] (omega arith) ∙ so_far.low h below;
    high = λ h le. get_or-set_other now to h x [] (omega arith) ∙ so_far.high h (omega arith);
  }

  module _ (now : List (List Bool)) (to : ℕ) (all : length old ≤ to) (inside : from < length old) (written : Written flag old now number from to) where
    flag_in : (g h n : ℕ) → h ≡ min g (length old - 1) → get_or (get_or now h []) n false ≡ cond (nat_le from g && nat_eq n number) flag (get_or (get_or old h []) n false)
    flag_in g h n h_is = ⊎_elim
        (λ lt.
        let below : g < from = lt in
        let no : nat_le from g ≡ false = grind (arith, nat_tests, below) in
        rw no (ap (λ xs. get_or xs n false) (written.low h (omega arith))))
        (λ le.
        let above : from ≤ g = le in
        let yes : nat_le from g ≡ true = grind (arith, nat_tests, above) in
        let one = written.done h (omega arith) (omega arith) in
        rw yes (⊎_elim
        (λ e. let same : n ≡ number = e in rw (eq-eqb n number same, same) one.there)
        (λ ne. rw (ne_eqb n number ne) (one.others n ne))
        (cases_eq n number)))
        (cases_lt g from)

    pub written_flags : (g n : ℕ) → is_flagged now g n ≡ cond (nat_le from g && nat_eq n number) flag (is_flagged old g n)
    written_flags g n =
        let many : length now - 1 ≡ length old - 1 = ap (λ len. len - 1) written.many in
        ap (λ len. get_or (get_or now (min g len) []) n false) many ∙ flag_in g (min g (length old - 1)) n refl

    pub written_room : (len : ℕ) → HasRoom old len → HasRoom now len
    written_room len room = record {
      each = λ h lt. ⊎_elim
          (λ low. let below : h < from = low in rw (written.low h below) (room.each h (omega (arith, written.many))))
          (λ le. let above : from ≤ h = le in let one = written.done h above (omega (arith, written.many)) in omega (arith, one.len, room.each h (omega (arith, written.many))))
          (cases_lt h from);
    }

-- the flags mean the same, there are no fewer, and there is room in the generations below one
pub record Widened (old now : List (List Bool)) (len to : ℕ) : Type 0 where
  pub many : length now ≡ length old
  pub no_fewer : (h : ℕ) → length (get_or old h []) ≤ length (get_or now h [])
  pub same : (h k : ℕ) → get_or (get_or now h []) k false ≡ get_or (get_or old h []) k false
  pub room : (h : ℕ) → h < to → len ≤ length (get_or now h [])

module _ (old : List (List Bool)) (len : ℕ) where
  pub none_widened : Widened old old len 0
  none_widened = record {
    many = refl;
    no_fewer = λ h. omega arith;
    same = λ h k. refl;
    room = λ h lt. absurd (omega arith);
  }

  module _ (now : List (List Bool)) (to : ℕ) (x : List Bool) (lt : to < length now) (so_far : Widened old now len to) (kept : (k : ℕ) → get_or x k false ≡ get_or (get_or now to []) k false) where
    same_still : (h k : ℕ) → get_or (get_or (set now to x) h []) k false ≡ get_or (get_or old h []) k false
    same_still h k = ⊎_elim
        (λ e. let here : h ≡ to = e in rw (here, get_or-set_same now to x [] lt) (kept k ∙ so_far.same to k))
        (λ ne. rw (get_or-set_other now to h x [] ne) (so_far.same h k))
        (cases_eq h to)

    no_fewer_still : length (get_or now to []) ≤ length x → (h : ℕ) → length (get_or old h []) ≤ length (get_or (set now to x) h [])
    no_fewer_still more h = ⊎_elim
        (λ e. let here : h ≡ to = e in rw (here, get_or-set_same now to x [] lt) (omega (arith, more, so_far.no_fewer to)))
        (λ ne. rw (get_or-set_other now to h x [] ne) (so_far.no_fewer h))
        (cases_eq h to)

    pub more_widened : len ≤ length x → length (get_or now to []) ≤ length x → Widened old (set now to x) len (to + 1)
    more_widened le more = record {
      many = length-set now to x ∙ so_far.many;
      no_fewer = no_fewer_still more;
      same = same_still;
      room = λ h below. ⊎_elim
          (λ e. let here : h ≡ to = e in rw (here, get_or-set_same now to x [] lt) le)
          (λ ne. let other : h ≢ to = ne in rw (get_or-set_other now to h x [] other) (so_far.room h (omega arith)))
          (cases_eq h to);
    }

    pub kept_widened : length (get_or now to []) ≤ length x → Widened old (set now to x) 0 0
    kept_widened more = record {
      many = length-set now to x ∙ so_far.many;
      no_fewer = no_fewer_still more;
      same = same_still;
      room = λ h below. absurd (omega arith);
    }

  pub widened_flags : (now : List (List Bool)) (few to : ℕ) → Widened old now few to → (g n : ℕ) → is_flagged now g n ≡ is_flagged old g n
  widened_flags now few to widened g n =
      ap (λ len. get_or (get_or now (min g (len - 1)) []) n false) widened.many ∙ widened.same (min g (length old - 1)) n

  pub widened_room : (now : List (List Bool)) (to : ℕ) → Widened old now len to → length now ≤ to → HasRoom now len
  widened_room now to widened all = record { each = λ h lt. widened.room h (omega arith) }

  pub no_less_room : (now : List (List Bool)) (few to : ℕ) → Widened old now few to → (l : ℕ) → HasRoom old l → HasRoom now l
  no_less_room now few to widened l room = record { each = λ h lt. omega (arith, room.each h (omega (arith, widened.many)), widened.no_fewer h) }
