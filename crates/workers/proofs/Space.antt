-- Blocks that were drawn hold words of what was won, but for the last of each destination.
use Rattle.std.proofs.Common.{◌≡◌, ℕ, zero, suc, ◌+◌, ◌-◌, ◌/◌, ◌<◌, ◌≤◌, Bool, true, false, not, ◌&&◌, List, [], ◌∷◌, ◌++◌, Option, Some, None, refl, sym, ap, subst, ◌∙◌, set, cond, length, arith, true≢false}
use Rattle.std.specs.Prelude.{slice_set}
use Rattle.workers.specs.Block.{Block, Copy, copy_words, used_words, empty_block, updated, with_field, with_copy, with_front_moved}
use Rattle.workers.specs.Setting.{Setting, is_large_name, is_collected, words_of, destination_of, fits_in}
use Rattle.workers.specs.Worker.{Worker, allocation_at}
use Rattle.workers.specs.WorkerSteps.{current_slot, collected_target, draw_at, draw_wanted}
use Rattle.workers.specs.WorkerRun.{History, no_history}
use Rattle.workers.specs.Total.{total}
use Rattle.workers.specs.Joined.{OnSome, Part}
use Rattle.workers.specs.Refused.{HasBegun}
use Rattle.workers.proofs.Lists.{at, mapped, length-set_any}
use Rattle.workers.proofs.Totals.{total-push, total-updated_same, of_some, total-set_some, total-set_none, total-updated_some}
use Rattle.workers.proofs.Moves.{Move, Moves, none, more, writes_open, draws, retires_open, retires_aside, retires_done, copies, claims, scans_open_more, scans_open_last, destinations, IsFullBlock}
use Rattle.workers.proofs.Acts.{run_moves, wanted-slot, not-fits-full}
use Rattle.workers.proofs.Laid.{sum_by-total, copied-size}
use Rattle.workers.proofs.OnePart.{opening-fit, total-none}

module _ (setting : Setting) where
  -- a full block holds at least so many words
  abbrev pub least_full : ℕ
  least_full = setting.block_words - setting.block_words / 4 + 1

  -- the words that a won name takes in blocks
  abbrev pub won_words : ℕ → ℕ
  won_words name = cond (is_large_name setting name) 0 (words_of setting name)

  abbrev pub won_pair : ℕ × ℕ → ℕ
  won_pair q = won_words q.0

  field-used : (i : ℕ) (v : Option ℕ) (b : Block) → used_words (with_field i v b) ≡ used_words b
  field-used i v b =
      sum_by-total copy_words (with_field i v b).copies
      ∙ total-updated_same copy_words (λ copy. record copy { pointers = slice_set copy.pointers i v }) (λ c. ap (λ n. 1 + n + length c.plain) (length-set_any c.pointers i v)) b.copies b.front
      ∙ sym (sum_by-total copy_words b.copies)

  copy-used : (c : Copy) (b : Block) → used_words (with_copy c b) ≡ used_words b + copy_words c
  copy-used c b =
      sum_by-total copy_words (b.copies ++ c ∷ []) ∙ total-push copy_words b.copies c ∙ ap (λ n. n + copy_words c) (sym (sum_by-total copy_words b.copies))

  -- the blocks that were drawn, the open ones at what they hold, the others as full
  abbrev pub Holds : Worker → History → Type 0
  Holds w h = total (λ _. least_full) h.drawn + total (of_some used_words) w.allocation ≤ total won_pair w.won + total (of_some (λ _. least_full)) w.allocation

  retires : (w : Worker) (h : History) (d n : ℕ) (b : Block) → allocation_at w d ≡ Some b → IsFullBlock setting b → Holds w h
      → total (λ _. least_full) (h.drawn ++ n ∷ []) + total (of_some used_words) (set w.allocation d (Some (empty_block n d))) ≤ total won_pair w.won + total (of_some (λ _. least_full)) (set w.allocation d (Some (empty_block n d)))
  retires w h d n b a fu k =
      let x : total (of_some used_words) (set w.allocation d (Some (empty_block n d))) + used_words b ≡ total (of_some used_words) w.allocation + 0 = total-set_some used_words w.allocation d b (empty_block n d) a in
      let y : total (of_some (λ _. least_full)) (set w.allocation d (Some (empty_block n d))) + least_full ≡ total (of_some (λ _. least_full)) w.allocation + least_full = total-set_some (λ _. least_full) w.allocation d b (empty_block n d) a in
      let z : total (λ _. least_full) (h.drawn ++ n ∷ []) ≡ total (λ _. least_full) h.drawn + least_full = total-push (λ _. least_full) h.drawn n in
      omega arith

  moved : (w : Worker) (h : History) (d : ℕ) (b : Block) → allocation_at w d ≡ Some b → Holds w h
      → total (λ _. least_full) h.drawn + total (of_some used_words) (set w.allocation d (Some (with_front_moved b))) ≤ total won_pair w.won + total (of_some (λ _. least_full)) (set w.allocation d (Some (with_front_moved b)))
  moved w h d b a k =
      let x : total (of_some used_words) (set w.allocation d (Some (with_front_moved b))) + used_words b ≡ total (of_some used_words) w.allocation + used_words b = total-set_some used_words w.allocation d b (with_front_moved b) a in
      let y : total (of_some (λ _. least_full)) (set w.allocation d (Some (with_front_moved b))) + least_full ≡ total (of_some (λ _. least_full)) w.allocation + least_full = total-set_some (λ _. least_full) w.allocation d b (with_front_moved b) a in
      omega arith

  move_holds : {w w' : Worker} {h h' : History} → Move setting w h w' h' → Holds w h → Holds w' h'
  move_holds {w = w} (writes_open d b c o v e a r s q) k =
      let x : total (of_some used_words) (updated (mapped (with_field w.fields v)) w.allocation d) + used_words b ≡ total (of_some used_words) w.allocation + used_words (with_field w.fields v b) = total-updated_some used_words (with_field w.fields v) w.allocation d b a in
      let y : total (of_some (λ _. least_full)) (updated (mapped (with_field w.fields v)) w.allocation d) + least_full ≡ total (of_some (λ _. least_full)) w.allocation + least_full = total-updated_some (λ _. least_full) (with_field w.fields v) w.allocation d b a in
      let z : used_words (with_field w.fields v b) ≡ used_words b = field-used w.fields v b in
      omega arith
  move_holds {w = w} {h = h} (draws d n a r) k =
      let x : total (of_some used_words) (set w.allocation d (Some (empty_block n d))) ≡ total (of_some used_words) w.allocation + 0 = total-set_none used_words w.allocation d (empty_block n d) a r in
      let y : total (of_some (λ _. least_full)) (set w.allocation d (Some (empty_block n d))) ≡ total (of_some (λ _. least_full)) w.allocation + least_full = total-set_none (λ _. least_full) w.allocation d (empty_block n d) a r in
      let z : total (λ _. least_full) (h.drawn ++ n ∷ []) ≡ total (λ _. least_full) h.drawn + least_full = total-push (λ _. least_full) h.drawn n in
      omega arith
  move_holds {w = w} {h = h} (retires_open d n b a p fu) k = retires w h d n b a fu k
  move_holds {w = w} {h = h} (retires_aside d n b a ne u fu) k = retires w h d n b a fu k
  move_holds {w = w} {h = h} (retires_done d n b a ne u fu) k = retires w h d n b a fu k
  move_holds {w = w} (copies d b c rest a i q l z yc to) k =
      let x : total (of_some used_words) (updated (mapped (with_copy c)) w.allocation d) + used_words b ≡ total (of_some used_words) w.allocation + used_words (with_copy c b) = total-updated_some used_words (with_copy c) w.allocation d b a in
      let y : total (of_some (λ _. least_full)) (updated (mapped (with_copy c)) w.allocation d) + least_full ≡ total (of_some (λ _. least_full)) w.allocation + least_full = total-updated_some (λ _. least_full) (with_copy c) w.allocation d b a in
      let m : total won_pair (w.won ++ (c.name, c.place) ∷ []) ≡ total won_pair w.won + won_words c.name = total-push won_pair w.won (c.name, c.place) in
      let n : won_words c.name ≡ copy_words c = ap (λ x. cond x 0 (words_of setting c.name)) l ∙ sym (copied-size setting c.name b c i yc) in
      let u : used_words (with_copy c b) ≡ used_words b + copy_words c = copy-used c b in
      omega arith
  move_holds {w = w} (claims n rest q l) k =
      let m : total won_pair (w.won ++ (n, n) ∷ []) ≡ total won_pair w.won + won_words n = total-push won_pair w.won (n, n) in
      omega arith
  move_holds {w = w} {h = h} (scans_open_more d b c p a r s u) k = moved w h d b a k
  move_holds {w = w} {h = h} (scans_open_last d b c p a r s u) k = moved w h d b a k
  move_holds _ k = k

  moves_hold : {s : Worker} {k : History} {w : Worker} {h : History} → Moves setting s k w h → Holds s k → Holds w h
  moves_hold none k = k
  moves_hold (more ms m) k = move_holds m (moves_hold ms k)

  -- over places for allocation blocks
  abbrev pub open_full : List (Option Block) → ℕ
  open_full al = total (of_some (λ _. least_full)) al

  abbrev pub open_used : List (Option Block) → ℕ
  open_used al = total (of_some used_words) al

  abbrev pub all_full : List (Option Block) → ℕ
  all_full al = total (λ _. least_full) al

  some-full : (al : List (Option Block)) → open_full al ≤ all_full al
  some-full [] = omega arith
  some-full (None ∷ al) = let h : open_full al ≤ all_full al = some-full al in omega arith
  some-full (Some b ∷ al) = let h : open_full al ≤ all_full al = some-full al in omega arith

  -- where the block of a destination is full or there is none
  one-full : (al : List (Option Block)) (d : ℕ) → d < length al → OnSome (IsFullBlock setting) (at al d) → open_full al + least_full ≤ open_used al + all_full al
  one-full [] d l f = absurd (omega arith)
  one-full (None ∷ al) zero l f = let h : open_full al ≤ all_full al = some-full al in omega arith
  one-full (Some b ∷ al) zero l f = let h : open_full al ≤ all_full al = some-full al in let g : IsFullBlock setting b = f in omega arith
  one-full (None ∷ al) (suc d) l f = let h : open_full al + least_full ≤ open_used al + all_full al = one-full al d (omega arith) f in omega arith
  one-full (Some b ∷ al) (suc d) l f = let h : open_full al + least_full ≤ open_used al + all_full al = one-full al d (omega arith) f in omega arith

  module _ (part : Part) (r : HasBegun setting part) where
    pub moves : Moves setting part.start no_history part.final part.history
    moves = (run_moves setting r.run (opening-fit part.start r.opening) r.room r.opening.no_proposal).moves

    holds : Holds part.final part.history
    holds =
        moves_hold moves
        (let a : total won_pair part.start.won ≡ 0 = ap (total won_pair) r.opening.no_won in
        let b : open_used part.start.allocation ≡ 0 = total-none used_words part.start.allocation r.opening.no_allocation in
        omega arith)

    -- what a worker drew is covered by what it won and a block for each destination
    pub covered : total (λ _. least_full) part.history.drawn ≤ total won_pair part.final.won + all_full part.final.allocation
    covered = let h = holds in let s : open_full part.final.allocation ≤ all_full part.final.allocation = some-full part.final.allocation in omega arith

    -- and with one less where it wants another
    pub refused_covered : (cell : Option ℕ) → draw_wanted setting part.final cell ≡ true → total (λ _. least_full) part.history.drawn + least_full ≤ total won_pair part.final.won + all_full part.final.allocation
    refused_covered cell e = go (collected_target setting (current_slot setting part.final)) cell refl e
      where
        parts_of : (a b : Bool) → (not a && not b) ≡ true → (a ≡ false) × (b ≡ false)
        parts_of true b e = absurd (true≢false (sym e))
        parts_of false true e = absurd (true≢false (sym e))
        parts_of false false e = (refl, refl)

        go : (o cell : Option ℕ) → collected_target setting (current_slot setting part.final) ≡ o → draw_at setting part.final o cell ≡ true → total (λ _. least_full) part.history.drawn + least_full ≤ total won_pair part.final.won + all_full part.final.allocation
        go None cell q e = absurd (true≢false (sym e))
        go (Some name) (Some place) q e = absurd (true≢false (sym e))
        go (Some name) None q e =
            let y : is_collected setting name ≡ true = (wanted-slot setting (current_slot setting part.final) name q).1 in
            let z = parts_of (is_large_name setting name) (fits_in setting name (allocation_at part.final (destination_of setting name))) e in
            let f : OnSome (IsFullBlock setting) (at part.final.allocation (destination_of setting name)) = not-fits-full setting name (allocation_at part.final (destination_of setting name)) z.0 z.1 in
            let l : destination_of setting name < length part.final.allocation = subst (λ n. destination_of setting name < n) (sym (destinations setting moves)) (r.room name y) in
            let h = holds in
            let s : open_full part.final.allocation + least_full ≤ open_used part.final.allocation + all_full part.final.allocation = one-full part.final.allocation (destination_of setting name) l f in
            omega arith
