-- How copies lie in their blocks.
use Rattle.std.proofs.Common.{◌≡◌, ℕ, zero, suc, ◌+◌, ◌-◌, ◌/◌, ◌<◌, ◌≤◌, Bool, true, false, List, [], ◌∷◌, ◌++◌, Option, Some, None, refl, sym, ap, subst, ◌∙◌, arith, true≢false, nat_eq, nat_le, eqb-true, eq-eqb, leb-true}
use Rattle.std.proofs.lemmas.List.Sums.{sum_by-cons}
use Rattle.std.specs.Prelude.{slice_set, sum_by, length}
use Rattle.std.specs.Option.{option_map_or}
use Rattle.model.specs.Graph.{Object, size_of}
use Rattle.workers.specs.Block.{Block, Copy, copy_words, used_words, empty_block, updated, with_field, with_copy, with_front_moved}
use Rattle.layout.specs.Place.{small_word}
use Rattle.workers.specs.Setting.{Setting, is_collected, words_of, copy_into, fits_in, destination_of}
use Rattle.workers.specs.Worker.{Worker, Hand, Nothing, Open, Holding, HoldingLarge, allocation_at}
use Rattle.workers.specs.WorkerRun.{History}
use Rattle.workers.specs.Total.{total, one_if}
pub use Rattle.workers.specs.Laid.{LaidCopy, LaidFrom, Laid, words_in}
use Rattle.workers.specs.Joined.{Each, OnSome}
use Rattle.workers.proofs.Lists.{length-set_any, Each-append, Each-left, Each-right, at, set-at, updated-at}
use Rattle.workers.proofs.Totals.{total-push, total-updated_same}
use Rattle.workers.proofs.Moves.{Move, Moves, none, more, learns, proposes, finishes, writes_open, writes_held, writes_large, draws, retires_open, retires_aside, retires_done, copies, claims, scans_open_more, scans_open_last, scans_held_more, scans_held_last, scans_large, exports, takes, owns, owns_large}

pub sum_by-total : {A : Type 0} (f : A → ℕ) (xs : List A) → sum_by f xs ≡ total f xs
sum_by-total f [] = refl
sum_by-total f (x ∷ xs) = sum_by-cons f x xs ∙ ap (λ n. f x + n) (sum_by-total f xs)

module _ (setting : Setting) where
  LaidFrom-updated : (number destination offset i : ℕ) (g : List (Option ℕ) → List (Option ℕ)) → ((ps : List (Option ℕ)) → length (g ps) ≡ length ps) → (cs : List Copy) → LaidFrom setting number destination offset cs → LaidFrom setting number destination offset (updated (λ copy. record copy { pointers = g copy.pointers }) cs i)
  LaidFrom-updated number destination offset i g k [] h = h
  LaidFrom-updated number destination offset zero g k (c ∷ cs) h = (record { place = h.0.place; goes = h.0.goes; has_words = h.0.has_words; size = ap (λ n. 1 + n + length c.plain) (k c.pointers) ∙ h.0.size; plain = h.0.plain }, h.1)
  LaidFrom-updated number destination offset (suc i) g k (c ∷ cs) h = (h.0, LaidFrom-updated number destination (offset + words_of setting c.name) i g k cs h.1)

  LaidFrom-push : (number destination offset end : ℕ) (cs : List Copy) (c : Copy) → end ≡ offset + words_in setting cs → LaidCopy setting number destination end c → LaidFrom setting number destination offset cs → LaidFrom setting number destination offset (cs ++ c ∷ [])
  LaidFrom-push number destination offset end [] c e l h = let q : end ≡ offset = omega arith in (subst (λ x. LaidCopy setting number destination x c) q l, tt)
  LaidFrom-push number destination offset end (x ∷ cs) c e l h = (h.0, LaidFrom-push number destination (offset + words_of setting x.name) end cs c (omega arith) l h.1)

  field-laid : (i : ℕ) (v : Option ℕ) (b : Block) → Laid setting b → Laid setting (with_field i v b)
  field-laid i v b l =
      let w : words_in setting (with_field i v b).copies ≡ words_in setting b.copies = total-updated_same (λ (c : Copy). words_of setting c.name) (λ copy. record copy { pointers = slice_set copy.pointers i v }) (λ c. refl) b.copies b.front in
      record { from = LaidFrom-updated b.number b.destination 0 b.front (λ ps. slice_set ps i v) (λ ps. length-set_any ps i v) b.copies l.from; within = subst (λ n. n ≤ setting.block_words) (sym w) l.within }

  pub words-positive : (name : ℕ) → is_collected setting name ≡ true → 0 < words_of setting name
  words-positive name y = go (setting.object name) y
    where
      go : (o : Option Object) → option_map_or (λ (x : Object). nat_le x.generation setting.oldest_collected) o false ≡ true → 0 < option_map_or size_of o 0
      go None y = absurd (true≢false (sym y))
      go (Some o) y = omega arith

  used_in : (number destination offset : ℕ) (cs : List Copy) → LaidFrom setting number destination offset cs → sum_by copy_words cs ≡ words_in setting cs
  used_in number destination offset [] h = refl
  used_in number destination offset (c ∷ cs) h =
      let e : copy_words c ≡ words_of setting c.name = h.0.size in
      let r : sum_by copy_words cs ≡ words_in setting cs = used_in number destination (offset + words_of setting c.name) cs h.1 in
      sum_by-cons copy_words c cs ∙ omega arith

  pub copied-size : (name : ℕ) (b : Block) (copy : Copy) → copy ≡ copy_into setting b name → is_collected setting name ≡ true → copy_words copy ≡ words_of setting name
  copied-size name b copy i y = ap copy_words i ∙ go (setting.object name) y
    where
      go : (o : Option Object) → option_map_or (λ (x : Object). nat_le x.generation setting.oldest_collected) o false ≡ true → 1 + length (option_map_or (λ (x : Object). x.pointers) o []) + length (option_map_or (λ (x : Object). x.plain) o []) ≡ option_map_or size_of o 0
      go None y = absurd (true≢false (sym y))
      go (Some o) y = refl

  copy-laid : (d : ℕ) (b : Block) (copy : Copy) → copy ≡ copy_into setting b copy.name → fits_in setting copy.name (Some b) ≡ true → is_collected setting copy.name ≡ true → d ≡ destination_of setting copy.name → Laid setting b × (b.destination ≡ d) → Laid setting (with_copy copy b) × (b.destination ≡ d)
  copy-laid d b copy i z y to l =
      let u : used_words b ≡ words_in setting b.copies = used_in b.number b.destination 0 b.copies l.0.from in
      let w : words_in setting (b.copies ++ copy ∷ []) ≡ words_in setting b.copies + words_of setting copy.name = total-push (λ (c : Copy). words_of setting c.name) b.copies copy in
      let f : used_words b + words_of setting copy.name ≤ setting.block_words = leb-true _ _ z in (
        record {
          from = LaidFrom-push b.number b.destination 0 (used_words b) b.copies copy (u ∙ omega arith)
              (record { place = ap (λ (c : Copy). c.place) i; goes = sym to ∙ sym l.1; has_words = words-positive copy.name y; size = copied-size copy.name b copy i y; plain = ap (λ (c : Copy). c.plain) i }) l.0.from;
          within = omega arith;
        },
        l.1,
      )

  module _ (P : Type 0) where
    abbrev pub HandLaid : Hand → Type 0
    HandLaid Nothing = Unit {0}
    HandLaid (Open d) = Unit {0}
    HandLaid (Holding b) = Laid setting b
    HandLaid (HoldingLarge n) = Unit {0}

    abbrev LaidAt : ℕ → Block → Type 0
    LaidAt d b = Laid setting b × (b.destination ≡ d)

    pub record LaidOut (w : Worker) (h : History) : Type 0 where
      pub allocation : (d : ℕ) → OnSome (LaidAt d) (at w.allocation d)
      pub hand : P → HandLaid w.hand
      pub aside : Each (Laid setting) w.aside
      pub done : P → Each (Laid setting) w.done
      pub exported : Each (Laid setting) h.exported

    laid_at : (w : Worker) (h : History) (d : ℕ) (b : Block) → LaidOut w h → allocation_at w d ≡ Some b → LaidAt d b
    laid_at w h d b l a = subst (OnSome (LaidAt d)) a (l.allocation d)

    fresh : (n d : ℕ) → LaidAt d (empty_block n d)
    fresh n d = (record { from = tt; within = omega arith }, refl)

    moved : (d : ℕ) (b : Block) → LaidAt d b → LaidAt d (with_front_moved b)
    moved d b l = (record { from = l.0.from; within = l.0.within }, l.1)

    move_laid : {w w' : Worker} {h h' : History} → Move setting w h w' h' → (P → Each (Laid setting) h'.taken) → LaidOut w h → LaidOut w' h'
    move_laid (learns name place y) t l = record { allocation = l.allocation; hand = l.hand; aside = l.aside; done = l.done; exported = l.exported }
    move_laid (proposes x) t l = record { allocation = l.allocation; hand = l.hand; aside = l.aside; done = l.done; exported = l.exported }
    move_laid (finishes x xs v e q) t l = record { allocation = l.allocation; hand = l.hand; aside = l.aside; done = l.done; exported = l.exported }
    move_laid {w = w} {h = h} (writes_open d b c o v e a r s q) t l =
        let g = laid_at w h d b l a in
        record { allocation = updated-at LaidAt w.allocation d b (with_field w.fields v) a (field-laid w.fields v b g.0, g.1) l.allocation; hand = l.hand; aside = l.aside; done = l.done; exported = l.exported }
    move_laid {w = w} {h = h} (writes_held b c o v e r s q) t l =
        record { allocation = l.allocation; hand = λ p. field-laid w.fields v b (subst HandLaid e (l.hand p)); aside = l.aside; done = l.done; exported = l.exported }
    move_laid (writes_large n o v e s q) t l = record { allocation = l.allocation; hand = l.hand; aside = l.aside; done = l.done; exported = l.exported }
    move_laid {w = w} (draws d n e r) t l = record { allocation = set-at LaidAt w.allocation d (empty_block n d) (fresh n d) l.allocation; hand = l.hand; aside = l.aside; done = l.done; exported = l.exported }
    move_laid {w = w} {h = h} (retires_open d n b a e fu) t l =
        let g = laid_at w h d b l a in
        record { allocation = set-at LaidAt w.allocation d (empty_block n d) (fresh n d) l.allocation; hand = λ p. g.0; aside = l.aside; done = l.done; exported = l.exported }
    move_laid {w = w} {h = h} (retires_aside d n b a ne u fu) t l =
        let g = laid_at w h d b l a in
        record { allocation = set-at LaidAt w.allocation d (empty_block n d) (fresh n d) l.allocation; hand = l.hand; aside = Each-append (Laid setting) w.aside (b ∷ []) l.aside (g.0, tt); done = l.done; exported = l.exported }
    move_laid {w = w} {h = h} (retires_done d n b a ne u fu) t l =
        let g = laid_at w h d b l a in
        record { allocation = set-at LaidAt w.allocation d (empty_block n d) (fresh n d) l.allocation; hand = l.hand; aside = l.aside; done = λ p. Each-append (Laid setting) w.done (b ∷ []) (l.done p) (g.0, tt); exported = l.exported }
    move_laid {w = w} {h = h} (copies d b copy rest a i q s z y to) t l =
        record { allocation = updated-at LaidAt w.allocation d b (with_copy copy) a (copy-laid d b copy i z y to (laid_at w h d b l a)) l.allocation; hand = l.hand; aside = l.aside; done = l.done; exported = l.exported }
    move_laid (claims n rest q s) t l = record { allocation = l.allocation; hand = l.hand; aside = l.aside; done = l.done; exported = l.exported }
    move_laid {w = w} {h = h} (scans_open_more d b c e a r s u) t l =
        record { allocation = set-at LaidAt w.allocation d (with_front_moved b) (moved d b (laid_at w h d b l a)) l.allocation; hand = λ p. tt; aside = l.aside; done = l.done; exported = l.exported }
    move_laid {w = w} {h = h} (scans_open_last d b c e a r s u) t l =
        record { allocation = set-at LaidAt w.allocation d (with_front_moved b) (moved d b (laid_at w h d b l a)) l.allocation; hand = λ p. tt; aside = l.aside; done = l.done; exported = l.exported }
    move_laid {w = w} {h = h} (scans_held_more b c e r s u) t l =
        record { allocation = l.allocation; hand = λ p. (let g = subst HandLaid e (l.hand p) in record { from = g.from; within = g.within }); aside = l.aside; done = l.done; exported = l.exported }
    move_laid {w = w} {h = h} (scans_held_last b c e r s u) t l =
        record { allocation = l.allocation; hand = λ p. tt; aside = l.aside; done = λ p. (let g = subst HandLaid e (l.hand p) in Each-append (Laid setting) w.done (with_front_moved b ∷ []) (l.done p) (record { from = g.from; within = g.within }, tt)); exported = l.exported }
    move_laid (scans_large n e s) t l = record { allocation = l.allocation; hand = λ p. tt; aside = l.aside; done = l.done; exported = l.exported }
    move_laid {w = w} {h = h} (exports b bs e) t l =
        let x : Each (Laid setting) (b ∷ bs) = subst (Each (Laid setting)) e l.aside in
        record { allocation = l.allocation; hand = l.hand; aside = x.1; done = l.done; exported = Each-append (Laid setting) h.exported (b ∷ []) l.exported (x.0, tt) }
    move_laid {w = w} {h = h} (takes b e u) t l =
        record { allocation = l.allocation; hand = λ p. (Each-right (Laid setting) h.taken (b ∷ []) (t p)).0; aside = l.aside; done = l.done; exported = l.exported }
    move_laid (owns d b e a u) t l = record { allocation = l.allocation; hand = λ p. tt; aside = l.aside; done = l.done; exported = l.exported }
    move_laid (owns_large n ns e a) t l = record { allocation = l.allocation; hand = λ p. tt; aside = l.aside; done = l.done; exported = l.exported }

    move_taken : {w w' : Worker} {h h' : History} → Move setting w h w' h' → Each (Laid setting) h'.taken → Each (Laid setting) h.taken
    move_taken {h = h} (takes b e u) a = Each-left (Laid setting) h.taken (b ∷ []) a
    move_taken _ a = a

    pub moves_laid : {s : Worker} {k : History} {w : Worker} {h : History} → Moves setting s k w h → (P → Each (Laid setting) h.taken) → LaidOut s k → LaidOut w h
    moves_laid none t l = l
    moves_laid (more ms m) t l = move_laid m t (moves_laid ms (λ p. move_taken m (t p)) l)

  -- the place of a copy tells its block, and stands once in it
  module _ (small_blocks : setting.block_words ≤ 65536) (p : ℕ) where
    below : (number destination offset : ℕ) (cs : List Copy) → LaidFrom setting number destination offset cs → p < small_word number offset → total (λ (c : Copy). one_if (nat_eq c.place p)) cs ≡ 0
    below number destination offset [] h l = refl
    below number destination offset (c ∷ cs) h l =
        let r : total (λ (x : Copy). one_if (nat_eq x.place p)) cs ≡ 0 = below number destination (offset + words_of setting c.name) cs h.1 (omega arith) in
        let e : c.place ≡ small_word number offset = h.0.place in
        go (nat_eq c.place p) refl r e
      where
        go : (b : Bool) → nat_eq c.place p ≡ b → total (λ (x : Copy). one_if (nat_eq x.place p)) cs ≡ 0 → c.place ≡ small_word number offset → one_if b + total (λ (x : Copy). one_if (nat_eq x.place p)) cs ≡ 0
        go true q r e = let s : c.place ≡ p = eqb-true _ _ q in absurd (omega arith)
        go false q r e = omega arith

    once_in : (number destination offset : ℕ) (cs : List Copy) → LaidFrom setting number destination offset cs → offset + words_in setting cs ≤ 65536 → total (λ (c : Copy). one_if (nat_eq c.place p)) cs ≤ one_if (nat_eq number (p / 65536 - 1))
    once_in number destination offset [] h l = omega arith
    once_in number destination offset (c ∷ cs) h l =
        go (nat_eq c.place p) refl
        (once_in number destination (offset + words_of setting c.name) cs h.1 (omega arith))
        (λ q. below number destination (offset + words_of setting c.name) cs h.1 (let e : c.place ≡ small_word number offset = h.0.place in let w : 0 < words_of setting c.name = h.0.has_words in omega arith))
      where
        go : (b : Bool) → nat_eq c.place p ≡ b → total (λ (x : Copy). one_if (nat_eq x.place p)) cs ≤ one_if (nat_eq number (p / 65536 - 1)) → (c.place ≡ p → total (λ (x : Copy). one_if (nat_eq x.place p)) cs ≡ 0) → one_if b + total (λ (x : Copy). one_if (nat_eq x.place p)) cs ≤ one_if (nat_eq number (p / 65536 - 1))
        go false q r z = omega arith
        go true q r z =
            let s : c.place ≡ p = eqb-true _ _ q in
            let zero_rest : total (λ (x : Copy). one_if (nat_eq x.place p)) cs ≡ 0 = z s in
            let e : c.place ≡ small_word number offset = h.0.place in
            let w : 0 < words_of setting c.name = h.0.has_words in
            let k : number ≡ p / 65536 - 1 = omega arith in
            let o : one_if (nat_eq number (p / 65536 - 1)) ≡ 1 = ap one_if (eq-eqb number (p / 65536 - 1) k) in
            omega arith

    pub block_once : (b : Block) → Laid setting b → total (λ (c : Copy). one_if (nat_eq c.place p)) b.copies ≤ one_if (nat_eq b.number (p / 65536 - 1))
    block_once b l = let w : words_in setting b.copies ≤ setting.block_words = l.within in once_in b.number b.destination 0 b.copies l.from (omega arith)
