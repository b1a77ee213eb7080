-- The lines of a store are those of the heap that stands for it.
use Rattle.std.proofs.Common.{◌≡◌, ℕ, ◌+◌, true, cond, List, [], ◌∷◌, ◌++◌, map, length, Option, Some, None, T, refl, sym, ap, subst, ◌∙◌, arith, codes}
use Rattle.std.specs.Prelude.{nat_lt, flat_map, decimal, unwrap_or}
use Rattle.std.specs.Option.{option_map, option_map_or}
use Rattle.std.specs.Ordering.{nat_cmp}
use Rattle.std.specs.Cmp.Lexicographic.{slice_cmp}
use Rattle.std.specs.List.{join_with_byte}
use Rattle.std.specs.FinMap.{len, is_sorted}
use Rattle.std.proofs.lemmas.List.{length-map}
use Rattle.model.specs.Graph as graph
use Rattle.model.specs.Graph.{Graph, Object}
use Rattle.model.specs.Reached.{has, reached_list}
use Rattle.model.specs.Store.{Store, object_at, targets, some_of}
use Rattle.model.specs.Text.{targets_at, numbered, number_of, pointer_text, root_line, object_line, graph_text, heap_text}
use Rattle.model.proofs.SpreadSame.{AllPass, pass_head, pass_tail, pass_reached, reached_list-map, reached_list-fuel, position_or_len-map}
use Rattle.trace_session.specs.NamesView.{named}
use Rattle.trace_session.specs.Stands.{IsPlaced, IsNamed}
use Rattle.trace_session.proofs.NamedLemmas.{none_is_some, one_value, sorted_of}
use Rattle.trace_session.proofs.NameLists.{led_to}
use Rattle.trace_session.proofs.NamesSame.{led_by, root_place, same_names}
use Rattle.trace_session.proofs.PresentLists.{present_names, name_present, present_name, few_present, same_number}

module _ (place : ℕ → ℕ) where
  targets-map : (pointers : List (Option ℕ)) → flat_map some_of (map (option_map place) pointers) ≡ map place (flat_map some_of pointers)
  targets-map [] = refl
  targets-map (None ∷ pointers) = targets-map pointers
  targets-map (Some target ∷ pointers) = ap (λ xs. place target ∷ xs) (targets-map pointers)

  names-map : (names : List (List ℕ × ℕ)) → map (λ (e : List ℕ × ℕ). e.1) (led_by place names) ≡ map place (map (λ (e : List ℕ × ℕ). e.1) names)
  names-map [] = refl
  names-map (e ∷ names) = ap (λ xs. place e.1 ∷ xs) (names-map names)

module _ (store : Store) (place : ℕ → ℕ) (heap : Graph) (placed : IsPlaced store place heap) where
  -- an object of that name is in the store
  abbrev IsThere : ℕ → Type 0
  IsThere name = (o : Object) × (object_at store name ≡ Some o)

  one : (a b : ℕ) → IsThere a → IsThere b → place a ≡ place b → a ≡ b
  one a b p q same = placed.one_to_one a b p.0 q.0 p.1 q.1 same

  abbrev next : ℕ → List ℕ
  next = targets_at (object_at store)

  abbrev next' : ℕ → List ℕ
  next' = targets_at (graph.object_at heap)

  same_targets : (name : ℕ) → IsThere name → next' (place name) ≡ map place (next name)
  same_targets name (o, at) =
      ap (λ x. option_map_or targets x []) (placed.objects name o at) ∙ targets-map place o.pointers
      ∙ sym (ap (λ x. map place (option_map_or targets x [])) at)

  keeps : (name : ℕ) → IsThere name → AllPass IsThere (next name)
  keeps name (o, at) target points =
      placed.closed name target o at (subst (λ x. has (option_map_or targets x []) target ≡ true) at points)

  module _ (names : List (List ℕ × ℕ)) (begins : AllPass IsThere (map (λ e. e.1) names)) where
    abbrev start : List ℕ
    start = map (λ e. e.1) names

    -- the names in the order of their numbers
    abbrev order : List ℕ
    order = numbered (object_at store) (length store.objects) names

    same_order : numbered (graph.object_at heap) (len heap.objects) (led_by place names) ≡ map place order
    same_order =
        let within : (k : ℕ) → IsThere k → has (present_names store) k ≡ true = λ k p. name_present store k p.0 p.1 in
        let number = same_number store place heap placed in
        let few = few_present store in
        ap (reached_list next' (len heap.objects)) (names-map place names)
        ∙ reached_list-map IsThere place one next next' keeps same_targets (len heap.objects) start begins
        ∙ ap (map place) (sym (reached_list-fuel next start (present_names store) (len heap.objects) (length store.objects)
        (λ k h. within k (begins k h))
        (λ m k h leads. within k (keeps m (present_name store m h) k leads))
        (omega (arith, number)) (omega (arith, number, few))))

    all_there : AllPass IsThere order
    all_there = pass_reached IsThere next keeps (length store.objects) start begins

    same_numbers : (name : ℕ) → IsThere name → number_of (map place order) (place name) ≡ number_of order name
    same_numbers name p =
        let at = position_or_len-map IsThere place one order name all_there p in
        let long = length-map order place in
        λ i. unwrap_or (cond (nat_lt (at i) (long i)) (Some (at i)) None) 0 + 1

    same_pointers : (pointers : List (Option ℕ)) → AllPass IsThere (flat_map some_of pointers) → map (pointer_text (map place order)) (map (option_map place) pointers) ≡ map (pointer_text order) pointers
    same_pointers [] all = refl
    same_pointers (None ∷ pointers) all = ap (λ xs. codes "nil" ∷ xs) (same_pointers pointers all)
    same_pointers (Some target ∷ pointers) all =
        let number = same_numbers target (pass_head IsThere target (flat_map some_of pointers) all) in
        let rest = same_pointers pointers (pass_tail IsThere target (flat_map some_of pointers) all) in
        λ i. (codes "#" ++ decimal (number i)) ∷ rest i

    same_object : (name : ℕ) → IsThere name → object_line (map place order) (place name) (graph.object_at heap (place name)) ≡ object_line order name (object_at store name)
    same_object name (o, at) =
        let number = same_numbers name (o, at) in
        let pointers = same_pointers o.pointers (λ target points. placed.closed name target o at points) in
        ap (object_line (map place order) (place name)) (placed.objects name o at)
        ∙ (λ i. (codes "#" ++ decimal (number i)) ++ codes " gen " ++ decimal o.generation ++ codes " step " ++ decimal o.step ++ codes " ptrs [" ++ join_with_byte 32 (pointers i) ++ codes "] words [" ++ join_with_byte 32 (map decimal o.plain) ++ codes "]\n")
        ∙ sym (ap (object_line order name) at)

    same_objects : (xs : List ℕ) → AllPass IsThere xs → flat_map (λ name. object_line (map place order) name (graph.object_at heap name)) (map place xs) ≡ flat_map (λ name. object_line order name (object_at store name)) xs
    same_objects [] all = refl
    same_objects (x ∷ xs) all =
        let here = same_object x (pass_head IsThere x xs all) in
        let rest = same_objects xs (pass_tail IsThere x xs all) in
        λ i. here i ++ rest i

    same_roots : (es : List (List ℕ × ℕ)) → AllPass IsThere (map (λ e. e.1) es) → flat_map (root_line (map place order)) (led_by place es) ≡ flat_map (root_line order) es
    same_roots [] all = refl
    same_roots (e ∷ es) all =
        let number = same_numbers e.1 (pass_head IsThere e.1 (map (λ d. d.1) es) all) in
        let rest = same_roots es (pass_tail IsThere e.1 (map (λ d. d.1) es) all) in
        λ i. (codes "root " ++ e.0 ++ codes " " ++ (codes "#" ++ decimal (number i)) ++ codes "\n") ++ rest i

    abbrev lines : List (List ℕ × ℕ) → List ℕ → List ℕ
    lines es numbers = flat_map (root_line numbers) es ++ flat_map (λ name. object_line numbers name (graph.object_at heap name)) numbers

    same_lines : graph_text (graph.object_at heap) (len heap.objects) (led_by place names) ≡ graph_text (object_at store) (length store.objects) names
    same_lines =
        ap (lines (led_by place names)) same_order
        ∙ (let roots = same_roots names begins in let objects = same_objects order all_there in λ i. roots i ++ objects i)

module _ (store : Store) (place : ℕ → ℕ) (heap : Graph) (names : List (List ℕ × ℕ)) (placed : IsPlaced store place heap) (before : IsNamed store place heap names) where
  -- each name of the store leads to an object
  names_there : (name : ℕ) → has (map (λ e. e.1) store.names) name ≡ true → (o : Object) × (object_at store name ≡ Some o)
  names_there name there =
      let found = led_to store.names name (sorted_of store.names before.sorted) there in
      go found.0 found.1 (named names found.0) refl
    where
      go : (text : List ℕ) → named store.names text ≡ Some name → (r : Option ℕ) → named names text ≡ r → (o : Object) × (object_at store name ≡ Some o)
      go text found None is = none_is_some (named store.names text) name (before.free text is) found
      go text found (Some root) is =
          let leads = before.leads text root is in
          let name_is : leads.name ≡ name = one_value (named store.names text) leads.name name leads.named_is found in
          (leads.object, ap (object_at store) (sym name_is) ∙ leads.there)

  pub same_text : T (is_sorted (slice_cmp nat_cmp) names) → graph_text (graph.object_at heap) (len heap.objects) (led_by (root_place heap) names) ≡ heap_text store
  same_text rise =
      ap (graph_text (graph.object_at heap) (len heap.objects)) (same_names store place heap names before rise)
      ∙ same_lines store place heap placed store.names names_there
