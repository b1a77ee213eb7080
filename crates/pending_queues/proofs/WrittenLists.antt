-- Lists of lists, where one is written to.
use Rattle.std.proofs.Common.{◌≡◌, ℕ, ◌<◌, List, [], length, map, set, get_or, sym, ap, ◌∙◌}
use Rattle.std.proofs.lemmas.List.{map-set, get_or-map}

pub items_set : {V X : Type 0} (f : V → List X) (lists : List V) (e : ℕ) (x new : V) (g : List X → List X) → e < length lists → x ≡ get_or lists e x → f new ≡ g (f x)
    → map f (set lists e new) ≡ set (map f lists) e (g (get_or (map f lists) e []))
items_set f lists e x new g lt there is = map-set f lists e new ∙ ap (set (map f lists) e) (is ∙ ap g (sym (get_or-map f lists e x [] lt ∙ ap f (sym there))))
