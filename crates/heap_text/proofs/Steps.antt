-- The steps of the loops that number objects.
use Rattle.std.proofs.Common.{◌≡◌, ℕ, ◌+◌, ◌<◌, ◌≤◌, List, [], ◌∷◌, ◌++◌, length, map, drop, get_or, Some, None, sym, ap, ◌∙◌}
use Rattle.std.proofs.lemmas.List.{get_or-map, map-append}
use Rattle.std.proofs.Math.Seq.{drop-cons}
use Rattle.std.proofs.Math.ListN.{drop_of_length-le}
use Rattle.std.proofs.Math.Numerals.{add-one}
use Rattle.std.specs.Prelude.{flat_map, unwrap_or}
use Rattle.model.specs.Graph.{Graph, root_at}
use Rattle.model.specs.Store.{some_of}
use Rattle.layout.specs.declared.place.Place.{Place}
use Rattle.layout.specs.Place.{place_word}
use Rattle.heap.specs.Words.{target_of_word}
use Rattle.heap_text.specs.declared.listing.Name.{Name}
use Rattle.heap_text.specs.HeapLines.{name_value, named_objects}
use Rattle.heap_text.specs.Numbering.{visited, visited_all}
use Rattle.heap_text.proofs.Visiting.{visited-more, visited_none}

pub pushed : (old new : List Place) (place : Place) → new ≡ old ++ place ∷ [] → map place_word new ≡ map place_word old ++ place_word place ∷ []
pushed old new place is = ap (map place_word) is ∙ map-append place_word old (place ∷ [])

-- the word of a place of a list
pub word_at : (places : List Place) (k : ℕ) (place : Place) → k < length places → place ≡ get_or places k place → get_or (map place_word places) k 0 ≡ place_word place
word_at places k place lt is = get_or-map place_word places k place 0 lt ∙ ap place_word (sym is)

drop_one : {X : Type 0} (xs : List X) (k : ℕ) (d : X) → k < length xs → drop k xs ≡ get_or xs k d ∷ drop (k + 1) xs
drop_one xs k d lt = drop-cons xs k d lt ∙ ap (λ n. get_or xs k d ∷ drop n xs) (sym (add-one k))

abbrev pub targets_from : List ℕ → ℕ → List ℕ
targets_from pointers k = flat_map some_of (map target_of_word (drop k pointers))

targets_step : (pointers : List ℕ) (k d : ℕ) → k < length pointers → targets_from pointers k ≡ some_of (target_of_word (get_or pointers k d)) ++ targets_from pointers (k + 1)
targets_step pointers k d lt = ap (λ ws. flat_map some_of (map target_of_word ws)) (drop_one pointers k d lt)

pub target_nil : (order : List ℕ) (pointers : List ℕ) (k d : ℕ) → k < length pointers → target_of_word (get_or pointers k d) ≡ None → visited_all order (targets_from pointers (k + 1)) ≡ visited_all order (targets_from pointers k)
target_nil order pointers k d lt nil = sym (ap (visited_all order) (targets_step pointers k d lt ∙ ap (λ t. some_of t ++ targets_from pointers (k + 1)) nil))

pub target_more : (order order' : List ℕ) (pointers : List ℕ) (k d name : ℕ) → k < length pointers → target_of_word (get_or pointers k d) ≡ Some name → order' ≡ visited order name → visited_all order' (targets_from pointers (k + 1)) ≡ visited_all order (targets_from pointers k)
target_more order order' pointers k d name lt is new =
    ap (λ ys. visited_all ys (targets_from pointers (k + 1))) new
    ∙ visited-more order name (targets_from pointers (k + 1))
    ∙ sym (ap (visited_all order) (targets_step pointers k d lt ∙ ap (λ t. some_of t ++ targets_from pointers (k + 1)) is))

abbrev pub starts_from : Graph → List Name → ℕ → List ℕ
starts_from graph names k = map (λ e. e.1) (named_objects graph (map name_value (drop k names)))

pub start_more : (graph : Graph) (order order' : List ℕ) (names : List Name) (k : ℕ) (d : Name) (word : ℕ) → k < length names → root_at graph (get_or names k d).root.number ≡ Some word → order' ≡ visited order word → visited_all order' (starts_from graph names (k + 1)) ≡ visited_all order (starts_from graph names k)
start_more graph order order' names k d word lt leads new =
    let at : starts_from graph names k ≡ word ∷ starts_from graph names (k + 1) =
    ap (λ ns. map {B = ℕ} (λ e. e.1) (named_objects graph (map name_value ns))) (drop_one names k d lt)
    ∙ ap (λ o. unwrap_or o 0 ∷ starts_from graph names (k + 1)) leads in
    ap (λ ys. visited_all ys (starts_from graph names (k + 1))) new
    ∙ visited-more order word (starts_from graph names (k + 1))
    ∙ sym (ap (visited_all order) at)

pub starts_done : (graph : Graph) (order whole : List ℕ) (names : List Name) (k : ℕ) → length names ≤ k → visited_all order (starts_from graph names k) ≡ whole → order ≡ whole
starts_done graph order whole names k le is =
    sym (ap (λ ns. visited_all order (map {B = ℕ} (λ e. e.1) (named_objects graph (map name_value ns)))) (drop_of_length-le names le) ∙ visited_none order) ∙ is
