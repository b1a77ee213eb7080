-- One worker by itself scans in the order in which it copied: what its acts keep.
use Rattle.std.proofs.Common.{◌≡◌, ◌≢◌, ℕ, ◌+◌, ◌<◌, ◌≤◌, Bool, true, false, not, List, [], ◌∷◌, ◌++◌, Option, Some, None, refl, sym, ap, subst, ◌∙◌, set, cond, length, length-append, arith, map, filter, true≢false, leb-true}
use Rattle.std.proofs.lemmas.List.{append-nil, append_assoc, map-append}
use Rattle.std.specs.Prelude.{slice_set}
use Rattle.workers.specs.Block.{Block, Copy, used_words, empty_block, has_unscanned, updated, with_field, with_copy}
use Rattle.layout.specs.Place.{small_word}
use Rattle.workers.specs.Setting.{Setting, is_collected, is_large_name, destination_of, words_of}
use Rattle.workers.specs.Worker.{Worker, Proposal, Copied, Claimed, Hand, Nothing, Open, Holding, HoldingLarge, allocation_at}
use Rattle.workers.specs.WorkerSteps.{current_slot, collected_target, write_hand, finish_first, finish_slot, is_open_at, retired, with_new_block, draws_for, draw_at, draw_wanted, propose_into, look_at, look_slot, after_look, race_of, after_race}
use Rattle.workers.specs.Total.{times}
use Rattle.workers.specs.Joined.{Each, OnSome}
use Rattle.workers.specs.Alone.{TellsSmall}
use Rattle.workers.proofs.Lists.{Each-set, Each-updated, mapped, at-Each, either, length-set_any, length-updated}
use Rattle.workers.proofs.Moves.{HandFit, Fit}
use Rattle.workers.proofs.Acts.{ProposalFit, is_open-true, is_open-false, wanted-slot}
use Rattle.workers.proofs.Laid.{words-positive}
use Rattle.workers.proofs.AloneLists.{left_in, waiting, open_waiting, in_hand, large_in_hand, left-none, left-field, left-copy, waiting-push, only_one, open-new, open-is, open-set, open-updated, open-field, filter-yes, filter-no}

pub not-true : (b : Bool) → not b ≡ true → b ≡ false
not-true true e = absurd (true≢false (sym e))
not-true false e = refl

abbrev pub places_won : Worker → List ℕ
places_won w = map (λ (q : ℕ × ℕ). q.1) w.won

-- small places that wait: in hand, then queued, then aside, then in the allocation block
abbrev pub behind_hand : Worker → List Block → List ℕ
behind_hand w q = waiting q ++ (waiting w.aside ++ open_waiting w.allocation)

abbrev pub pending : Worker → List Block → List ℕ
pending w q = in_hand w.hand ++ behind_hand w q

abbrev pub OpenBlock : List ℕ → Block → Type 0
OpenBlock free b = (0 < times b.number free) × (b.front ≤ length b.copies)

pub held-open : {d : ℕ} {b : Block} → Holding b ≡ Open d → ⊥
held-open e = cc

pub nothing-open : {d : ℕ} → Nothing ≡ Open d → ⊥
nothing-open e = cc

pub large-open : {d n : ℕ} → HoldingLarge n ≡ Open d → ⊥
large-open e = cc

module _ (setting : Setting) (free : List ℕ) (small : ℕ → Bool) (tells : TellsSmall setting free small) (room : setting.block_words ≤ 65536) where
  abbrev large : ℕ → Bool
  large place = not (small place)

  -- of a worker with one allocation block and this queue: what it won is what it scanned and then what waits
  pub record Orders (w : Worker) (q : List Block) : Type 0 where
    pub one : length w.allocation ≤ 1
    pub blocks : Each (OnSome (OpenBlock free)) w.allocation
    pub first : (d : ℕ) → w.hand ≡ Open d → (q ≡ []) × (w.aside ≡ [])
    pub small_ones : filter small w.scanned ++ pending w q ≡ filter small (places_won w)
    pub large_ones : filter large w.scanned ++ (large_in_hand w.hand ++ w.large) ≡ filter large (places_won w)

  -- a slot is finished
  field_blocks : (i : ℕ) (v : Option ℕ) (o : Option Block) → OnSome (OpenBlock free) o → OnSome (OpenBlock free) (mapped (with_field i v) o)
  field_blocks i v None h = tt
  field_blocks i v (Some b) h = (h.0, subst (λ n. b.front ≤ n) (sym (length-updated (λ (c : Copy). record c { pointers = slice_set c.pointers i v }) b.copies b.front)) h.1)

  finish_orders : (v : Option ℕ) (w : Worker) (q : List Block) → Orders w q → Orders (finish_slot v w) q
  finish_orders v w q h = on_starts w.starts
    where
      on_hand : (hand : Hand) → w.hand ≡ hand → Orders (write_hand v w hand) q
      on_hand Nothing e = h
      on_hand (Open d) e =
          record {
            one = subst (λ n. n ≤ 1) (sym (length-updated (mapped (with_field w.fields v)) w.allocation d)) h.one;
            blocks = Each-updated (OnSome (OpenBlock free)) (mapped (with_field w.fields v)) (field_blocks w.fields v) w.allocation d h.blocks;
            first = h.first;
            small_ones = ap (λ o. filter small w.scanned ++ (in_hand w.hand ++ (waiting q ++ (waiting w.aside ++ o)))) (open-field w.fields v w.allocation d) ∙ h.small_ones;
            large_ones = h.large_ones;
          }
      on_hand (Holding b) e =
          record {
            one = h.one;
            blocks = h.blocks;
            first = λ d p. absurd (held-open p);
            small_ones = ap (λ o. filter small w.scanned ++ (o ++ (waiting q ++ (waiting w.aside ++ open_waiting w.allocation)))) (left-field w.fields v b ∙ ap in_hand (sym e)) ∙ h.small_ones;
            large_ones = ap (λ x. filter large w.scanned ++ (large_in_hand x ++ w.large)) (sym e) ∙ h.large_ones;
          }
      on_hand (HoldingLarge n) e = record { one = h.one; blocks = h.blocks; first = h.first; small_ones = h.small_ones; large_ones = h.large_ones }

      on_starts : (xs : List ℕ) → Orders (finish_first v w xs) q
      on_starts [] = on_hand w.hand refl
      on_starts (t ∷ ts) = record { one = h.one; blocks = h.blocks; first = h.first; small_ones = h.small_ones; large_ones = h.large_ones }

  -- the allocation block is retired behind all that waits
  new_block_orders : (w : Worker) (q : List Block) (d number : ℕ) → Fit w → 0 < times number free → Orders w q → Orders (with_new_block w d number) q
  new_block_orders w q d number f n h = go (allocation_at w d) refl
    where
      empty : Block
      empty = empty_block number d

      len : length (set w.allocation d (Some (empty_block number d))) ≤ 1
      len = subst (λ m. m ≤ 1) (sym (length-set_any w.allocation d (Some (empty_block number d)))) h.one

      all : Each (OnSome (OpenBlock free)) (set w.allocation d (Some (empty_block number d)))
      all = Each-set (OnSome (OpenBlock free)) w.allocation d (Some (empty_block number d)) (n, omega arith) h.blocks

      line : (x q a o : List ℕ) → q ≡ [] → a ≡ [] → o ≡ [] → x ++ (q ++ (a ++ o)) ≡ x
      line x q a o e1 e2 e3 = ap (λ y. x ++ (y ++ (a ++ o))) e1 ∙ ap (λ y. x ++ (y ++ o)) e2 ∙ ap (λ y. x ++ y) e3 ∙ append-nil x

      line2 : (q a o : List ℕ) → q ≡ [] → a ≡ [] → q ++ (a ++ o) ≡ o
      line2 q a o e1 e2 = ap (λ y. y ++ (a ++ o)) e1 ∙ ap (λ y. y ++ o) e2

      go : (o : Option Block) → allocation_at w d ≡ o → Orders (record (retired w d o) { allocation = set w.allocation d (Some (empty_block number d)) }) q
      go None a =
          record {
            one = len;
            blocks = all;
            first = h.first;
            small_ones = ap (λ o. filter small w.scanned ++ (in_hand w.hand ++ (waiting q ++ (waiting w.aside ++ o)))) (open-new w.allocation d number a) ∙ h.small_ones;
            large_ones = h.large_ones;
          }
      go (Some b) a = on (is_open_at d w.hand) refl
        where
          before : open_waiting w.allocation ≡ left_in b
          before = open-is w.allocation d b h.one a

          after : open_waiting (set w.allocation d (Some (empty_block number d))) ≡ []
          after = open-set w.allocation d b h.one a (empty_block number d)

          none_open : w.hand ≢ Open d → (e : ℕ) → w.hand ≢ Open e
          none_open ne e p =
              let x : HandFit w (Open e) = subst (HandFit w) p f in
              let i = only_one w.allocation e x.0 h.one x.1.0 in
              let j = only_one w.allocation d b h.one a in
              ne (p ∙ ap Open (i.0 ∙ sym j.0))

          aside : w.hand ≢ Open d → (u : Bool) → has_unscanned b ≡ u → Orders (record (cond u (record w { aside = w.aside ++ b ∷ [] }) (record w { done = w.done ++ b ∷ [] })) { allocation = set w.allocation d (Some (empty_block number d)) }) q
          aside ne true u =
              record {
                one = len;
                blocks = all;
                first = λ e p. absurd (none_open ne e p);
                small_ones =
                    ap (λ o. filter small w.scanned ++ (in_hand w.hand ++ (waiting q ++ o)))
                    (ap (λ o. waiting (w.aside ++ b ∷ []) ++ o) after ∙ append-nil (waiting (w.aside ++ b ∷ [])) ∙ waiting-push w.aside b ∙ ap (λ o. waiting w.aside ++ o) (sym before)) ∙ h.small_ones;
                large_ones = h.large_ones;
              }
          aside ne false u =
              record {
                one = len;
                blocks = all;
                first = h.first;
                small_ones = ap (λ o. filter small w.scanned ++ (in_hand w.hand ++ (waiting q ++ (waiting w.aside ++ o)))) (after ∙ sym (left-none b u) ∙ sym before) ∙ h.small_ones;
                large_ones = h.large_ones;
              }

          on : (x : Bool) → is_open_at d w.hand ≡ x → Orders (record (cond x (record w { hand = Holding b }) (cond (has_unscanned b) (record w { aside = w.aside ++ b ∷ [] }) (record w { done = w.done ++ b ∷ [] }))) { allocation = set w.allocation d (Some (empty_block number d)) }) q
          on true x =
              let p : w.hand ≡ Open d = is_open-true d w.hand x in
              let r = h.first d p in
              record {
                one = len;
                blocks = all;
                first = λ e y. absurd (held-open y);
                small_ones =
                    ap (λ o. filter small w.scanned ++ o)
                    (line (left_in b) (waiting q) (waiting w.aside) _ (ap waiting r.0) (ap waiting r.1) after
                    ∙ sym (ap (λ y. in_hand y ++ (waiting q ++ (waiting w.aside ++ open_waiting w.allocation))) p ∙ line2 (waiting q) (waiting w.aside) (open_waiting w.allocation) (ap waiting r.0) (ap waiting r.1) ∙ before))
                    ∙ h.small_ones;
                large_ones = ap (λ y. filter large w.scanned ++ (large_in_hand y ++ w.large)) (sym p) ∙ h.large_ones;
              }
          on false x = aside (is_open-false d w.hand x) (has_unscanned b) refl

  propose_orders : (w : Worker) (q : List Block) (name d : ℕ) (o : Option Block) → Orders w q → Orders (propose_into setting w name d o) q
  propose_orders w q name d None h = h
  propose_orders w q name d (Some b) h = record { one = h.one; blocks = h.blocks; first = h.first; small_ones = h.small_ones; large_ones = h.large_ones }

  pub look_orders : (w : Worker) (q : List Block) (cell : Option ℕ) (number : ℕ) → Fit w → (draw_wanted setting w cell ≡ true → 0 < times number free) → Orders w q → Orders (after_look setting w cell number) q
  look_orders w q cell number f drawn h = go (current_slot setting w) refl
    where
      go : (o : Option (Option ℕ)) → current_slot setting w ≡ o → Orders (look_slot setting w cell number o) q
      go None e = h
      go (Some None) e = finish_orders None w q h
      go (Some (Some name)) e = on (is_collected setting name) refl
        where
          new : (b : Bool) → (b ≡ true → 0 < times number free) → Orders (cond b (with_new_block w (destination_of setting name) number) w) q
          new true n = new_block_orders w q (destination_of setting name) number f (n refl) h
          new false n = h

          on_cell : is_collected setting name ≡ true → (c : Option ℕ) → cell ≡ c → Orders (look_at setting w c number name) q
          on_cell y (Some place) s = finish_orders (Some place) w q h
          on_cell y None s =
              let wanted : draw_wanted setting w cell ≡ draws_for setting w name =
              ap (draw_wanted setting w) s ∙ ap (λ o. draw_at setting w (collected_target setting o) None) e ∙ ap (λ b. draw_at setting w (cond b (Some name) None) None) y in
              either (λ x. Orders x q) (is_large_name setting name) _ _
              (record { one = h.one; blocks = h.blocks; first = h.first; small_ones = h.small_ones; large_ones = h.large_ones })
              (propose_orders _ q name (destination_of setting name) _ (new (draws_for setting w name) (λ t. drawn (wanted ∙ t))))

          on : (b : Bool) → is_collected setting name ≡ b → Orders (cond b (look_at setting w cell number name) (finish_slot (Some name) w)) q
          on true y = on_cell y cell refl
          on false y = finish_orders (Some name) w q h

  -- what is won goes behind all that waits
  copy_blocks : (copy : Copy) (o : Option Block) → OnSome (OpenBlock free) o → OnSome (OpenBlock free) (mapped (with_copy copy) o)
  copy_blocks copy None h = tt
  copy_blocks copy (Some b) h = (h.0, (let l : b.front ≤ length b.copies = h.1 in let m : length (b.copies ++ copy ∷ []) ≡ length b.copies + 1 = length-append b.copies (copy ∷ []) in omega arith))

  push : (s h q a o : List ℕ) (p : ℕ) → s ++ (h ++ (q ++ (a ++ (o ++ p ∷ [])))) ≡ (s ++ (h ++ (q ++ (a ++ o)))) ++ p ∷ []
  push s h q a o p =
      ap (λ x. s ++ (h ++ (q ++ x))) (sym (append_assoc a o (p ∷ [])))
      ∙ ap (λ x. s ++ (h ++ x)) (sym (append_assoc q (a ++ o) (p ∷ [])))
      ∙ ap (λ x. s ++ x) (sym (append_assoc h (q ++ (a ++ o)) (p ∷ [])))
      ∙ sym (append_assoc s (h ++ (q ++ (a ++ o))) (p ∷ []))

  push2 : (s h l : List ℕ) (p : ℕ) → s ++ (h ++ (l ++ p ∷ [])) ≡ (s ++ (h ++ l)) ++ p ∷ []
  push2 s h l p = ap (λ x. s ++ x) (sym (append_assoc h l (p ∷ []))) ∙ sym (append_assoc s (h ++ l) (p ∷ []))

  won-push : (w : Worker) (name place : ℕ) → map (λ (q : ℕ × ℕ). q.1) (w.won ++ (name, place) ∷ []) ≡ places_won w ++ place ∷ []
  won-push w name place = map-append (λ (q : ℕ × ℕ). q.1) w.won ((name, place) ∷ [])

  pub race_orders : (w : Worker) (q : List Block) (lost : Option ℕ) → ProposalFit setting w w.proposal → Orders w q → Orders (after_race w lost) q
  race_orders w q lost fit h = go w.proposal lost fit
    where
      free_of : Orders (record w { proposal = None }) q
      free_of = record { one = h.one; blocks = h.blocks; first = h.first; small_ones = h.small_ones; large_ones = h.large_ones }

      go : (o : Option Proposal) (lost : Option ℕ) → ProposalFit setting w o → Orders (race_of w o lost) q
      go None lost k = h
      go (Some (Copied copy d)) (Some place) k = finish_orders (Some place) (record w { proposal = None }) q free_of
      go (Some (Claimed n)) (Some place) k = finish_orders (Some place) (record w { proposal = None }) q free_of
      go (Some (Copied copy d)) None k =
          let b : Block = k.block in
          let o : OpenBlock free b = at-Each (OpenBlock free) w.allocation d b k.there h.blocks in
          let y : is_collected setting copy.name ≡ true = (wanted-slot setting (current_slot setting w) copy.name k.wanted).1 in
          let wp : 0 < words_of setting copy.name = words-positive setting copy.name y in
          let fw : used_words b + words_of setting copy.name ≤ setting.block_words = leb-true _ _ k.fits in
          let below : used_words b < 65536 = omega arith in
          let is : copy.place ≡ small_word b.number (used_words b) = ap (λ (c : Copy). c.place) k.made in
          let yes : small copy.place ≡ true = ap small is ∙ tells.in_block b.number (used_words b) o.0 below in
          let no : large copy.place ≡ false = ap not yes in
          finish_orders (Some copy.place) (record w { proposal = None; allocation = updated (mapped (with_copy copy)) w.allocation d; won = w.won ++ (copy.name, copy.place) ∷ [] }) q
          (record {
            one = subst (λ n. n ≤ 1) (sym (length-updated (mapped (with_copy copy)) w.allocation d)) h.one;
            blocks = Each-updated (OnSome (OpenBlock free)) (mapped (with_copy copy)) (copy_blocks copy) w.allocation d h.blocks;
            first = h.first;
            small_ones =
                ap (λ x. filter small w.scanned ++ (in_hand w.hand ++ (waiting q ++ (waiting w.aside ++ x)))) (open-updated w.allocation d b h.one k.there (with_copy copy) ∙ left-copy copy b o.1 ∙ ap (λ x. x ++ copy.place ∷ []) (sym (open-is w.allocation d b h.one k.there)))
                ∙ push (filter small w.scanned) (in_hand w.hand) (waiting q) (waiting w.aside) (open_waiting w.allocation) copy.place
                ∙ ap (λ x. x ++ copy.place ∷ []) h.small_ones
                ∙ sym (ap (filter small) (won-push w copy.name copy.place) ∙ filter-yes small (places_won w) copy.place yes);
            large_ones = h.large_ones ∙ sym (ap (filter large) (won-push w copy.name copy.place) ∙ filter-no large (places_won w) copy.place no);
          })
      go (Some (Claimed n)) None k =
          let no : small n ≡ false = tells.large n k.1 in
          let yes : large n ≡ true = ap not no in
          finish_orders (Some n) (record w { proposal = None; large = w.large ++ n ∷ []; won = w.won ++ (n, n) ∷ [] }) q
          (record {
            one = h.one;
            blocks = h.blocks;
            first = h.first;
            small_ones = h.small_ones ∙ sym (ap (filter small) (won-push w n n) ∙ filter-no small (places_won w) n no);
            large_ones = push2 (filter large w.scanned) (large_in_hand w.hand) w.large n ∙ ap (λ x. x ++ n ∷ []) h.large_ones ∙ sym (ap (filter large) (won-push w n n) ∙ filter-yes large (places_won w) n yes);
          })
