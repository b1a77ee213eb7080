-- The blocks put in so far.
use Rattle.std.proofs.Common.{◌≡◌, ◌≢◌, ℕ, ◌<◌, Bool, true, false, cond, ◌&&◌, not, List, [], ◌∷◌, ◌++◌, length, set, get_or, Option, Some, None, refl, sym, ap, subst, ◌∙◌, arith, ⊎_elim, get_or-set_other, get_or-set_same, append_assoc, length-append}
use Rattle.std.proofs.Math.Seq.{get_or-append_seam}
use Rattle.std.proofs.lemmas.Bool.{cases_eq, true≢false, eq-eqb, ne_eqb}
use Rattle.std.proofs.lemmas.Bool.Decides.{nat_tests}
use Rattle.std.proofs.lemmas.List.{append-nil}
use Rattle.std.specs.Prelude.{nat_eq, nat_lt, is_some, All, Contains}
use Rattle.std.specs.List.{IsDistinct}
use Rattle.model.specs.Reached.{has}
use Rattle.model.proofs.Same.{distinct_absent}
use Rattle.layout.specs.Object.{Raw}
use Rattle.block_pool.specs.BlockValue.{BlockValue}
use Rattle.block_pool.specs.PoolValue.{without}
use Rattle.nursery.specs.Installed.{is_installed_at, installed}
use Rattle.nursery.proofs.Installed.{numbers_of, none_installed, distinct_rest}
use Rattle.nursery.proofs.Areas.{has-without, contains-has}

pub record Installing (all rest : List BlockValue) (old now : List (Option BlockValue)) (before free : List ℕ) : Type 0 where
  pub done : List BlockValue
  pub whole : all ≡ rest ++ done
  pub slots : (n : ℕ) → get_or now n None ≡ cond (is_some (installed done n)) (installed done n) (get_or old n None)
  pub free_is : (n : ℕ) → has free n ≡ (has before n && not (is_some (installed done n)))

and_yes : (b : Bool) → b ≡ (b && true)
and_yes true = refl
and_yes false = refl

pub none_distinct : IsDistinct nat_eq []
unfolding IsDistinct
none_distinct = tt

pub Installing-none : (all : List BlockValue) (old : List (Option BlockValue)) (before : List ℕ) → Installing all all old old before before
Installing-none all old before = record {
  done = [];
  whole = sym (append-nil all);
  slots = λ n. refl;
  free_is = λ n. and_yes (has before n);
}

pub All-middle : {X : Type 0} (P : X → Type 0) (xs : List X) (y : X) (ys : List X) → All P (xs ++ y ∷ ys) → P y
All-middle P xs y ys all = subst P (get_or-append_seam xs y ys y) (all (length xs) y (omega (arith, length-append xs (y ∷ ys))))

distinct_after : (xs : List BlockValue) (b : BlockValue) (ys : List BlockValue) → IsDistinct nat_eq (numbers_of (xs ++ b ∷ ys)) → has (numbers_of ys) b.number ≡ false
distinct_after [] b ys once = distinct_absent b.number (numbers_of ys) once
distinct_after (x ∷ xs) b ys once = distinct_after xs b ys (distinct_rest x.number (numbers_of (xs ++ b ∷ ys)) once)

module _ (all rest rest' : List BlockValue) (b : BlockValue) (old now : List (Option BlockValue)) (before free : List ℕ) (was : rest ≡ rest' ++ b ∷ []) (so_far : Installing all rest old now before free) where
  pub whole_is : all ≡ rest' ++ b ∷ so_far.done
  whole_is = so_far.whole ∙ ap (λ xs. xs ++ so_far.done) was ∙ append_assoc rest' (b ∷ []) so_far.done

  skipped : (n : ℕ) → b.objects ≡ [] → installed (b ∷ so_far.done) n ≡ installed so_far.done n
  skipped n none = go (is_installed_at n b) (no_test (nat_eq b.number n))
    where
      no_test : (t : Bool) → (t && nat_lt 0 (length b.objects)) ≡ false
      no_test t = ap (λ os. t && nat_lt 0 (length os)) none ∙ and_no t
        where
          and_no : (u : Bool) → (u && false) ≡ false
          and_no true = refl
          and_no false = refl

      go : (t : Bool) → t ≡ false → cond t (Some b) (installed so_far.done n) ≡ installed so_far.done n
      go true e = absurd (true≢false e)
      go false e = refl

  pub Installing-skip : b.objects ≡ [] → Installing all rest' old now before free
  Installing-skip none = record {
    done = b ∷ so_far.done;
    whole = whole_is;
    slots = λ n. so_far.slots n ∙ sym (ap (λ o. cond (is_some o) o (get_or old n None)) (skipped n none));
    free_is = λ n. so_far.free_is n ∙ sym (ap (λ o. has before n && not (is_some o)) (skipped n none));
  }

  module _ (once : IsDistinct nat_eq (numbers_of all)) (some : 0 < length b.objects) where
    absent : installed so_far.done b.number ≡ None
    absent = none_installed so_far.done b.number (distinct_after rest' b so_far.done (subst (λ xs. IsDistinct nat_eq (numbers_of xs)) whole_is once))

    here : installed (b ∷ so_far.done) b.number ≡ Some b
    here = ap (λ t. cond t (Some b) (installed so_far.done b.number)) test
      where
        test : is_installed_at b.number b ≡ true
        test = ap (λ t. t && nat_lt 0 (length b.objects)) (eq-eqb b.number b.number refl) ∙ lt (length b.objects) some
          where
            lt : (n : ℕ) → 0 < n → nat_lt 0 n ≡ true
            lt n h = grind (arith, nat_tests, h)

    elsewhere : (n : ℕ) → n ≢ b.number → installed (b ∷ so_far.done) n ≡ installed so_far.done n
    elsewhere n ne = ap (λ t. cond (t && nat_lt 0 (length b.objects)) (Some b) (installed so_far.done n)) (ne_eqb b.number n (λ e. ne (sym e)))

    pub still_free : has before b.number ≡ true → Contains free b.number
    still_free was_free = contains-has free b.number (so_far.free_is b.number ∙ ap (λ t. t && not (is_some (installed so_far.done b.number))) was_free ∙ ap (λ o. true && not (is_some o)) absent)

    pub Installing-put : b.number < length now → has before b.number ≡ true → Installing all rest' old (set now b.number (Some b)) before (without b.number free)
    Installing-put room was_free = record {
      done = b ∷ so_far.done;
      whole = whole_is;
      slots = λ n. ⊎_elim
          (λ e. ap (λ m. get_or (set now b.number (Some b)) m None) e ∙ get_or-set_same now b.number (Some b) None room
          ∙ sym (ap (λ m. cond (is_some (installed (b ∷ so_far.done) m)) (installed (b ∷ so_far.done) m) (get_or old m None)) e ∙ ap (λ o. cond (is_some o) o (get_or old b.number None)) here))
          (λ ne. get_or-set_other now b.number n (Some b) None ne ∙ so_far.slots n ∙ sym (ap (λ o. cond (is_some o) o (get_or old n None)) (elsewhere n ne)))
          (cases_eq n b.number);
      free_is = λ n. has-without b.number free n ∙ ⊎_elim
          (λ e. ap (λ t. has free n && not t) (eq-eqb n b.number e) ∙ never (has free n) ∙ sym (ap (λ m. has before n && not (is_some (installed (b ∷ so_far.done) m))) e ∙ ap (λ o. has before n && not (is_some o)) here ∙ never (has before n)))
          (λ ne. ap (λ t. has free n && not t) (ne_eqb n b.number ne) ∙ sym (and_yes (has free n)) ∙ so_far.free_is n ∙ sym (ap (λ o. has before n && not (is_some o)) (elsewhere n ne)))
          (cases_eq n b.number);
    }
      where
        never : (t : Bool) → (t && not true) ≡ false
        never true = refl
        never false = refl

pub Installing-all : (all rest : List BlockValue) (old now : List (Option BlockValue)) (before free : List ℕ) → rest ≡ [] → (so_far : Installing all rest old now before free) → so_far.done ≡ all
Installing-all all rest old now before free none so_far = sym (so_far.whole ∙ ap (λ xs. xs ++ so_far.done) none)

pub some_object : (block : BlockValue) → ¬ (block.objects ≡ []) → 0 < length block.objects
some_object block other = go block.objects other
  where
    go : (xs : List Raw) → ¬ (xs ≡ []) → 0 < length xs
    go [] h = absurd (h refl)
    go (x ∷ xs) h = omega arith

pub no_blocks : (xs : List BlockValue) → length xs ≡ 0 → xs ≡ []
no_blocks [] e = refl
no_blocks (x ∷ xs) e = absurd (omega arith)
