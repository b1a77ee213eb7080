-- Objects with numbers, one more of them.
use Rattle.std.proofs.Common.{◌≡◌, ◌≢◌, ℕ, ◌+◌, ◌<◌, true, false, List, [], ◌∷◌, ◌++◌, length, get_or, set, replicate, Option, Some, None, refl, sym, subst, ap, ◌∙◌, arith, ⊎_elim}
use Rattle.std.proofs.lemmas.Bool.{cases_eq, eq-eqb, ne_eqb}
use Rattle.std.proofs.lemmas.List.{get_or-set_same, get_or-set_other, get_or-replicate, get_or_read, length-set, length-replicate}
use Rattle.std.proofs.lemmas.List.Elements.{All-nil, All-push, All-head, All-tail}
use Rattle.std.specs.Prelude.{nat_eq, position, IsSome, is_some, All, unwrap_or}
use Rattle.std.specs.Option.{option_map}
use Rattle.model.specs.Graph.{object_at}
use Rattle.model.specs.OldSlots.{is_young_name}
use Rattle.model.specs.Reached.{has}
use Rattle.model.specs.Text.{number_of}
use Rattle.model.proofs.Has.{has_none, has-cons}
use Rattle.heap.specs.HeapValue.{HeapValue}
use Rattle.heap.specs.CollectionValue.{young_names}
use Rattle.model.proofs.RisingKeys.{same_index, keys-filter_rise}
use Rattle.heap_text.specs.Numbering.{IsNumbering, number_in, visited}
use Rattle.heap_text.proofs.Positions.{position-push_other, position-push_here, position-is_some}
use Rattle.heap_text.proofs.Visiting.{visited_old}

some_map : (o : Option ℕ) → is_some (option_map (λ i. i + 1) o) ≡ is_some o
some_map None = refl
some_map (Some i) = refl

-- a name has a number where it is in the order
pub number_in-is_some : (order : List ℕ) (name : ℕ) → is_some (number_in order name) ≡ has order name
number_in-is_some order name = some_map (position (nat_eq name) order) ∙ position-is_some (nat_eq name) order

number_of_some : (order : List ℕ) (name : ℕ) (n : ℕ) → number_in order name ≡ Some n → n ≡ number_of order name
number_of_some order name n is = go (position (nat_eq name) order) is
  where
    go : (o : Option ℕ) → option_map (λ i. i + 1) o ≡ Some n → n ≡ unwrap_or o 0 + 1
    go None e = cc
    go (Some i) e = cc

pub All_has : (P : ℕ → Type 0) (xs : List ℕ) (name : ℕ) → All P xs → has xs name ≡ true → P name
All_has P [] name all h = has_none name h
All_has P (x ∷ xs) name all h =
    ⊎_elim
    (λ (e : name ≡ x). subst P (sym e) (All-head P x xs all))
    (λ (r : has xs name ≡ true). All_has P xs name (All-tail P x xs all) r)
    (has-cons x xs name h)

-- what is in the order is there
pub has_there : (heap : HeapValue) (g : ℕ) (numbers : List (Option ℕ)) (order : List ℕ) → IsNumbering heap g numbers order → (name : ℕ) → has order name ≡ true → IsSome (object_at heap.graph name)
has_there heap g numbers order numbering name h = All_has (λ x. IsSome (object_at heap.graph x)) order name numbering.there h

-- the number of an object at its index
module _ (heap : HeapValue) (g : ℕ) (numbers : List (Option ℕ)) (order : List ℕ) (numbering : IsNumbering heap g numbers order) (index word : ℕ) (lt : index < length numbers) (is : get_or (young_names heap.graph g) index 0 ≡ word) where
  pub number_at : (n : Option ℕ) → n ≡ get_or numbers index n → n ≡ number_in order word
  number_at n read = get_or_read numbers index n lt read None ∙ numbering.numbers_are index lt ∙ ap (number_in order) is

  pub number_is : (n : Option ℕ) (m : ℕ) → n ≡ get_or numbers index n → n ≡ Some m → m ≡ number_of order word
  number_is n m read some = number_of_some order word m (sym (number_at n read) ∙ some)

  pub number_there : (n : Option ℕ) → n ≡ get_or numbers index n → has order word ≡ true → IsSome n
  number_there n read there = ap is_some (number_at n read) ∙ number_in-is_some order word ∙ there

  pub order_old : (n : Option ℕ) → n ≡ get_or numbers index n → is_some n ≡ true → order ≡ visited order word
  order_old n read some = sym (visited_old order word (sym (ap is_some (number_at n read) ∙ number_in-is_some order word) ∙ some))

  pub lacks : (n : Option ℕ) → n ≡ get_or numbers index n → is_some n ≡ false → has order word ≡ false
  lacks n read none = sym (ap is_some (number_at n read) ∙ number_in-is_some order word) ∙ none

  pub numbered_more : (count : ℕ) (order' : List ℕ) → has order word ≡ false → order' ≡ order ++ word ∷ [] → count ≡ length order + 1 → IsSome (object_at heap.graph word) → IsNumbering heap g (set numbers index (Some count)) order'
  numbered_more count order' none new count_is there =
      let names : List ℕ = young_names heap.graph g in
      let in_names : index < length names = omega (arith, numbering.count) in
      let here : number_in order' word ≡ Some count =
      ap (λ ys. number_in ys word) new
      ∙ ap (option_map (λ i. i + 1)) (position-push_here (nat_eq word) order word none (eq-eqb word word refl))
      ∙ ap Some (sym count_is) in
      let other : (name : ℕ) → nat_eq name word ≡ false → number_in order' name ≡ number_in order name =
      λ name ne. ap (λ ys. number_in ys name) new ∙ ap (option_map (λ i. i + 1)) (position-push_other (nat_eq name) order word ne) in
      record {
        count = length-set numbers index (Some count) ∙ numbering.count;
        numbers_are = λ k h. let h' : k < length numbers = omega (arith, length-set numbers index (Some count)) in
            ⊎_elim
            (λ (same : k ≡ index). ap (λ i. get_or (set numbers index (Some count)) i None) same ∙ get_or-set_same numbers index (Some count) None lt ∙ sym here ∙ ap (number_in order') (sym is ∙ ap (λ i. get_or names i 0) (sym same)))
            (λ (ne : k ≢ index).
            let apart : get_or names k 0 ≢ word = λ e. ne (same_index names k index (keys-filter_rise heap.graph.objects (is_young_name heap.graph g)) (omega (arith, numbering.count)) in_names (e ∙ sym is)) in
            get_or-set_other numbers index k (Some count) None ne ∙ numbering.numbers_are k h' ∙ sym (other (get_or names k 0) (ne_eqb (get_or names k 0) word apart)))
            (cases_eq k index);
        there = subst (All (λ name. IsSome (object_at heap.graph name))) (sym new) (All-push (λ name. IsSome (object_at heap.graph name)) order word numbering.there there);
      }

pub numbered_none : (heap : HeapValue) (g cells : ℕ) (numbers : List (Option ℕ)) (order : List ℕ) → cells ≡ length (young_names heap.graph g) → numbers ≡ replicate cells None → order ≡ [] → IsNumbering heap g numbers order
numbered_none heap g cells numbers order count n o =
    let numbers_len : length numbers ≡ cells = ap length n ∙ length-replicate cells None in
    record {
      count = numbers_len ∙ count;
      numbers_are = λ k lt. ap (λ xs. get_or xs k None) n ∙ get_or-replicate cells k None None (omega arith) ∙ ap (λ ys. number_in ys (get_or (young_names heap.graph g) k 0)) (sym o);
      there = subst (All (λ name. IsSome (object_at heap.graph name))) (sym o) (All-nil (λ name. IsSome (object_at heap.graph name)));
    }
