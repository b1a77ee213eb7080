-- What an object points to, one pointer further.
use Rattle.std.proofs.Common.{◌≡◌, ℕ, ◌+◌, ◌<◌, List, [], ◌∷◌, ◌++◌, length, get_or, take, sym, ap, ◌∙◌}
use Rattle.std.proofs.lemmas.List.{append-nil, take_more}
use Rattle.std.proofs.lemmas.Grind.{flat_map-append}
use Rattle.std.specs.Prelude.{flat_map}

pub flat_map_take : {X Y : Type 0} (f : X → List Y) (xs : List X) (i : ℕ) (d : X) → i < length xs → flat_map f (take (i + 1) xs) ≡ flat_map f (take i xs) ++ f (get_or xs i d)
flat_map_take f xs i d h = ap (flat_map f) (take_more xs i d h) ∙ flat_map-append f (take i xs) (get_or xs i d ∷ []) ∙ ap (λ ys. flat_map f (take i xs) ++ ys) (append-nil (f (get_or xs i d)))

-- what one more element gives, at the end of what those before it gave
pub flat_map_pushed : {X Y : Type 0} (f : X → List Y) (xs : List X) (out out' : List Y) (i : ℕ) (d x : X) → i < length xs → get_or xs i d ≡ x → out' ≡ out ++ f x → out ≡ flat_map f (take i xs) → out' ≡ flat_map f (take (i + 1) xs)
flat_map_pushed f xs out out' i d x lt at new old = new ∙ ap (λ ys. ys ++ f x) old ∙ ap (λ z. flat_map f (take i xs) ++ f z) (sym at) ∙ sym (flat_map_take f xs i d lt)
