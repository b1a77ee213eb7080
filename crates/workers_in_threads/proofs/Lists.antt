-- Lists and sums over them.
use Rattle.std.proofs.Common.{◌≡◌, ℕ, zero, suc, ◌+◌, ◌<◌, true, List, [], ◌∷◌, All, map, length, Option, Some, None, refl, sym, ap, subst, ◌∙◌, arith, nat_eq}
use Rattle.std.proofs.lemmas.Map.Views.{list_any-from_Contains}
use Rattle.std.specs.Prelude.{slice_get, flat_map, if◌then◌else◌, Contains}
use Rattle.std.specs.Cmp.{nat_eq_equiv}
use Rattle.model.specs.Reached.{has}
use Rattle.block_pool.specs.BlockValue.{BlockValue}
use Rattle.block_pool.specs.Drawn.{times_in}
use Rattle.pending_queues.specs.Labelled.{times_at, is_label}
use Rattle.model.specs.Destination.{Shape}
use Rattle.pending_queues.proofs.Unique.{sum-total}
use Rattle.workers.specs.Block.{Block}
use Rattle.workers.specs.Total.{total, one_if, times}
use Rattle.workers.specs.Joined.{Each, deliveries, is_sent}
pub use Rattle.workers.proofs.Totals.{total-append}
use Rattle.scavenge.specs.Named.{named}

pub all_each : {X : Type 0} (P : X → Type 0) (xs : List X) → All P xs → Each P xs
all_each P [] h = tt
all_each P (x ∷ xs) h = (h 0 x (omega arith), all_each P xs (λ k d lt. h (suc k) d (omega arith)))

pub each_get : {X : Type 0} (P : X → Type 0) (xs : List X) (i : ℕ) (x : X) → Each P xs → slice_get xs i ≡ Some x → P x
each_get P [] i x h e = absurd (cc)
each_get P (y ∷ xs) zero x h e = let q : y ≡ x = cc in subst P q h.0
each_get P (y ∷ xs) (suc i) x h e = each_get P xs i x h.1 e

pub get-map : {X Y : Type 0} (f : X → Y) (xs : List X) (i : ℕ) (x : X) → slice_get xs i ≡ Some x → slice_get (map f xs) i ≡ Some (f x)
get-map f [] i x e = absurd (cc)
get-map f (y ∷ ys) zero x e = let q : y ≡ x = cc in ap (λ z. Some (f z)) q
get-map f (y ∷ ys) (suc i) x e = get-map f ys i x e

pub get-some : {X : Type 0} (xs : List X) (i : ℕ) → i < length xs → (x : X) × (slice_get xs i ≡ Some x)
get-some [] i l = absurd (omega (arith, l))
get-some (x ∷ xs) zero l = (x, refl)
get-some (x ∷ xs) (suc i) l = get-some xs i (omega (arith, l))

pub length-map : {X Y : Type 0} (f : X → Y) (xs : List X) → length (map f xs) ≡ length xs
length-map f [] = refl
length-map f (x ∷ xs) = ap suc (length-map f xs)

pub each_map : {X Y : Type 0} (f : X → Y) (P : Y → Type 0) (xs : List X) → Each (λ x. P (f x)) xs → Each P (map f xs)
each_map f P [] h = tt
each_map f P (x ∷ xs) h = (h.0, each_map f P xs h.1)

pub each_of_map : {X Y : Type 0} (f : X → Y) (P : Y → Type 0) (xs : List X) → Each P (map f xs) → Each (λ x. P (f x)) xs
each_of_map f P [] h = tt
each_of_map f P (x ∷ xs) h = (h.0, each_of_map f P xs h.1)

pub each_and : {X : Type 0} (P Q R : X → Type 0) → ((x : X) → P x → Q x → R x) → (xs : List X) → Each P xs → Each Q xs → Each R xs
each_and P Q R f [] h k = tt
each_and P Q R f (x ∷ xs) h k = (f x h.0 k.0, each_and P Q R f xs h.1 k.1)

pub total-map : {X Y : Type 0} (h : X → Y) (f : Y → ℕ) (xs : List X) → total f (map h xs) ≡ total (λ x. f (h x)) xs
total-map h f [] = refl
total-map h f (x ∷ xs) = ap (λ n. f (h x) + n) (total-map h f xs)

pub total-flat : {X Y : Type 0} (g : X → List Y) (f : Y → ℕ) (xs : List X) → total f (flat_map g xs) ≡ total (λ x. total f (g x)) xs
total-flat g f [] = refl
total-flat g f (x ∷ xs) = total-append f (g x) (flat_map g xs) ∙ ap (λ n. total f (g x) + n) (total-flat g f xs)

-- the two ways to count a number in a list
pub times-is : (n : ℕ) (xs : List ℕ) → times n xs ≡ times_in n xs
times-is n [] = refl
times-is n (x ∷ xs) = ap (λ k. one_if (nat_eq x n) + k) (times-is n xs)

-- the two ways to count the deliveries of an export
pub delivered-is : (shape : Shape) (u i : ℕ) (bs : List BlockValue) → deliveries u i (map (named shape) bs) ≡ times_at u i bs
delivered-is shape u i bs = total-map (named shape) (λ (b : Block). one_if (is_sent u i b.sent)) bs ∙ same bs ∙ sym (sum-total (λ (b : BlockValue). if is_label u i b.sent then 1 else 0) bs)
  where
    one : (o : Option (ℕ × ℕ)) → one_if (is_sent u i o) ≡ (if is_label u i o then 1 else 0)
    one None = refl
    one (Some at) = refl

    same : (bs : List BlockValue) → total (λ (b : BlockValue). one_if (is_sent u i b.sent)) bs ≡ total (λ (b : BlockValue). if is_label u i b.sent then 1 else 0) bs
    same [] = refl
    same (b ∷ bs) = let p : one_if (is_sent u i b.sent) ≡ (if is_label u i b.sent then 1 else 0) = one b.sent in let r : total (λ (x : BlockValue). one_if (is_sent u i x.sent)) bs ≡ total (λ (x : BlockValue). if is_label u i x.sent then 1 else 0) bs = same bs in omega arith

pub has-contains : (xs : List ℕ) (q : ℕ) → Contains xs q → has xs q ≡ true
has-contains xs q h = list_any-from_Contains nat_eq_equiv q xs h
