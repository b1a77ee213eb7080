-- What the flags of the numbers in use say of the objects.
use Rattle.std.proofs.Common.{◌≡◌, ℕ, ◌≤◌, Bool, true, false, List, Option, Some, None, is_some, get_or, refl, sym, ◌∙◌}
use Rattle.std.proofs.lemmas.Bool.{true≢false}
use Rattle.block_pool.specs.NumberSetsWords.{NoneSetBetween}
use Rattle.large_objects.specs.LargeValue.{LargeObject, LargeValue, IsFirstFrom}
use Rattle.large_objects.specs.Stored.{AreNumbered}

unused : (slot : Option LargeObject) → is_some slot ≡ false → slot ≡ None
unused None is = refl
unused (Some object) is = absurd (true≢false is)

pub first_is : (large : LargeValue) (flags : List Bool) (from number : ℕ) → AreNumbered large.slots flags → from ≤ number → get_or flags number false ≡ true → NoneSetBetween flags from number → IsFirstFrom large from number
first_is large flags from number are le flag none =
    record {
      from_on = le;
      in_use = sym (are.flagged number) ∙ flag;
      lowest = λ n low lt. unused (get_or large.slots n None) (sym (are.flagged n) ∙ none n low lt);
    }
