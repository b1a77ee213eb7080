-- The blocks of a worker stay as a collection makes them.
use Rattle.std.proofs.Common.{◌≡◌, ℕ, List, [], ◌∷◌, ◌++◌, set, Option, Some, sym, subst}
use Rattle.model.specs.Config.{Config}
use Rattle.block_pool.specs.BlockValue.{BlockValue}
use Rattle.workers.specs.Joined.{Each, OnSome}
use Rattle.workers.proofs.Lists.{set-at, Each-append}
use Rattle.scavenge.specs.Fronts.{slot_at}
use Rattle.scavenge.specs.Shown.{IsMade, AreMade}

pub slots_made : (k : Config) (slots : List (Option BlockValue)) (aside done : List BlockValue) (held : Option BlockValue) (d : ℕ) (b b' : BlockValue) → slot_at slots d ≡ Some b → (IsMade k b → IsMade k b')
    → AreMade k slots aside done held → AreMade k (set slots d (Some b')) aside done held
slots_made k slots aside done held d b b' at f n =
    record { in_slots = set-at (λ e. IsMade k) slots d b' (f (subst (OnSome (IsMade k)) at (n.in_slots d))) n.in_slots; in_aside = n.in_aside; in_done = n.in_done; in_hand = n.in_hand }

pub made_more : (k : Config) (xs : List BlockValue) (b : BlockValue) → Each (IsMade k) xs → IsMade k b → Each (IsMade k) (xs ++ b ∷ [])
made_more k xs b h n = Each-append (IsMade k) xs (b ∷ []) h (n, tt)

-- the same, for a table that is the changed one, and a block whose words and label stayed
pub table_made : (k : Config) {slots slots' : List (Option BlockValue)} {aside done done' : List BlockValue} {held held' : Option BlockValue} (d : ℕ) (b b' : BlockValue) → slot_at slots d ≡ Some b → (IsMade k b → IsMade k b') → slots' ≡ set slots d (Some b') → done' ≡ done → OnSome (IsMade k) held'
    → AreMade k slots aside done held → AreMade k slots' aside done' held'
table_made k {slots = slots} {slots' = slots'} {aside = aside} {done = done} {done' = done'} {held = held} {held' = held'} d b b' at f se de h n =
    let m : AreMade k (set slots d (Some b')) aside done held = slots_made k slots aside done held d b b' at f n in
    record { in_slots = subst (λ xs. (e : ℕ) → OnSome (IsMade k) (slot_at xs e)) (sym se) m.in_slots; in_aside = n.in_aside; in_done = subst (Each (IsMade k)) (sym de) n.in_done; in_hand = h }
