-- What a worker has accounts for what it got.
use Rattle.std.proofs.Common.{◌≡◌, ℕ, ◌+◌, ◌<◌, ◌≤◌, true, false, [], ◌∷◌, ◌++◌, Option, Some, None, sym, ap, subst, set, length, arith, length-append}
use Rattle.workers.specs.Block.{Block, Copy, empty_block, has_unscanned, front_copy, updated, with_field, with_copy, with_front_moved}
use Rattle.workers.specs.Setting.{Setting, is_large_name}
use Rattle.workers.specs.Worker.{Worker, Hand, Nothing, Open, Holding, HoldingLarge}
use Rattle.workers.specs.WorkerRun.{History}
use Rattle.workers.specs.Total.{total, front_total}
use Rattle.workers.proofs.Lists.{Each, OnSome, Each-append, Each-updated, Each-set, mapped, at-Each, length-updated, get-lt}
use Rattle.workers.proofs.Totals.{total-push, of_some, total-set_some, total-set_none, total-updated_some}
use Rattle.workers.proofs.Moves.{Move, Moves, none, more, learns, proposes, finishes, writes_open, writes_held, writes_large, draws, retires_open, retires_aside, retires_done, copies, claims, scans_open_more, scans_open_last, scans_held_more, scans_held_last, scans_large, exports, takes, owns, owns_large}

abbrev pub InFront : Block → Type 0
InFront b = b.front ≤ length b.copies

module _ (setting : Setting) where
  -- no front is past the end
  move_fronts : {w w' : Worker} {h h' : History} → Move setting w h w' h' → Each (OnSome InFront) w.allocation → Each (OnSome InFront) w'.allocation
  move_fronts {w = w} (writes_open d b c o v e a r s q) k = Each-updated (OnSome InFront) _ on_some w.allocation d k
    where
      on_some : (x : Option Block) → OnSome InFront x → OnSome InFront (mapped (with_field w.fields v) x)
      on_some None h = tt
      on_some (Some x) h = subst (λ n. x.front ≤ n) (sym (length-updated _ x.copies x.front)) h
  move_fronts {w = w} (draws d number e r) k = Each-set (OnSome InFront) w.allocation d _ (omega arith) k
  move_fronts {w = w} (retires_open d number b a e fu) k = Each-set (OnSome InFront) w.allocation d _ (omega arith) k
  move_fronts {w = w} (retires_aside d number b a ne u fu) k = Each-set (OnSome InFront) w.allocation d _ (omega arith) k
  move_fronts {w = w} (retires_done d number b a ne u fu) k = Each-set (OnSome InFront) w.allocation d _ (omega arith) k
  move_fronts {w = w} (copies d b copy rest a i q l z y to) k = Each-updated (OnSome InFront) _ on_some w.allocation d k
    where
      on_some : (x : Option Block) → OnSome InFront x → OnSome InFront (mapped (with_copy copy) x)
      on_some None h = tt
      on_some (Some x) h = let m : length (x.copies ++ copy ∷ []) ≡ length x.copies + 1 = length-append x.copies (copy ∷ []) in omega arith
  move_fronts {w = w} (scans_open_more d b c e a r s u) k = Each-set (OnSome InFront) w.allocation d _ (let l : b.front < length b.copies = get-lt b.copies b.front c r in omega arith) k
  move_fronts {w = w} (scans_open_last d b c e a r s u) k = Each-set (OnSome InFront) w.allocation d _ (let l : b.front < length b.copies = get-lt b.copies b.front c r in omega arith) k
  move_fronts _ k = k

  pub fronts : {s : Worker} {k : History} {w : Worker} {h : History} → Moves setting s k w h → Each (OnSome InFront) s.allocation → Each (OnSome InFront) w.allocation
  fronts none k = k
  fronts (more ms m) k = move_fronts m (fronts ms k)

  -- what is done is scanned
  move_done : {w w' : Worker} {h h' : History} → Move setting w h w' h' → Each (λ b. has_unscanned b ≡ false) w.done → Each (λ b. has_unscanned b ≡ false) w'.done
  move_done {w = w} (retires_done d number b a ne u fu) k = Each-append _ w.done (b ∷ []) k (u, tt)
  move_done {w = w} (scans_held_last b c e r s u) k = Each-append _ w.done (with_front_moved b ∷ []) k (u, tt)
  move_done _ k = k

  pub done_scanned : {s : Worker} {k : History} {w : Worker} {h : History} → Moves setting s k w h → Each (λ b. has_unscanned b ≡ false) s.done → Each (λ b. has_unscanned b ≡ false) w.done
  done_scanned none k = k
  done_scanned (more ms m) k = move_done m (done_scanned ms k)

  -- weights of blocks, of what was won, scanned and drawn, and of large objects before and after their scan
  module _ (φ : Block → ℕ) (pair : ℕ × ℕ → ℕ) (scan number unshut shut : ℕ → ℕ)
      (of_empty : (n d : ℕ) → φ (empty_block n d) ≡ number n)
      (of_field : (i : ℕ) (v : Option ℕ) (b : Block) → φ (with_field i v b) ≡ φ b)
      (of_copy : (c : Copy) (b : Block) → InFront b → is_large_name setting c.name ≡ false → φ (with_copy c b) ≡ φ b + pair (c.name, c.place))
      (of_moved : (b : Block) (c : Copy) → front_copy b ≡ Some c → φ (with_front_moved b) ≡ φ b + scan c.place)
      (of_claim : (n : ℕ) → is_large_name setting n ≡ true → pair (n, n) ≡ unshut n)
      (of_large : (n : ℕ) → shut n ≡ unshut n + scan n) where
    abbrev pub in_hand : Hand → ℕ
    in_hand Nothing = 0
    in_hand (Open d) = 0
    in_hand (Holding b) = φ b
    in_hand (HoldingLarge n) = unshut n

    abbrev pub got : Worker → History → ℕ
    got w h = total pair w.won + total scan w.scanned + total number h.drawn + total φ h.taken

    abbrev pub has : Worker → History → ℕ
    has w h = total (of_some φ) w.allocation + total φ w.aside + total φ w.done + in_hand w.hand + total φ h.exported + total unshut w.large + total shut w.large_done

    move_balance : {w w' : Worker} {h h' : History} → Move setting w h w' h' → Each (OnSome InFront) w.allocation → got w h ≡ has w h → got w' h' ≡ has w' h'
    move_balance (learns name place y) k e = e
    move_balance (proposes x) k e = e
    move_balance (finishes x xs v p q) k e = e
    move_balance {w = w} {h = h} (writes_open d b c o v p a r s q) k e =
        let x : total (of_some φ) (updated (mapped (with_field w.fields v)) w.allocation d) + φ b ≡ total (of_some φ) w.allocation + φ (with_field w.fields v b) = total-updated_some φ (with_field w.fields v) w.allocation d b a in
        let y : φ (with_field w.fields v b) ≡ φ b = of_field w.fields v b in
        omega arith
    move_balance {w = w} {h = h} (writes_held b c o v p r s q) k e =
        let x : in_hand w.hand ≡ φ b = ap in_hand p in
        let y : φ (with_field w.fields v b) ≡ φ b = of_field w.fields v b in
        omega arith
    move_balance (writes_large n o v p s q) k e = e
    move_balance {w = w} {h = h} (draws d n a r) k e =
        let x : total (of_some φ) (set w.allocation d (Some (empty_block n d))) ≡ total (of_some φ) w.allocation + φ (empty_block n d) = total-set_none φ w.allocation d (empty_block n d) a r in
        let y : φ (empty_block n d) ≡ number n = of_empty n d in
        let z : total number (h.drawn ++ n ∷ []) ≡ total number h.drawn + number n = total-push number h.drawn n in
        omega arith
    move_balance {w = w} {h = h} (retires_open d n b a p fu) k e =
        let x : total (of_some φ) (set w.allocation d (Some (empty_block n d))) + φ b ≡ total (of_some φ) w.allocation + φ (empty_block n d) = total-set_some φ w.allocation d b (empty_block n d) a in
        let y : φ (empty_block n d) ≡ number n = of_empty n d in
        let z : total number (h.drawn ++ n ∷ []) ≡ total number h.drawn + number n = total-push number h.drawn n in
        let i : in_hand w.hand ≡ 0 = ap in_hand p in
        omega arith
    move_balance {w = w} {h = h} (retires_aside d n b a ne u fu) k e =
        let x : total (of_some φ) (set w.allocation d (Some (empty_block n d))) + φ b ≡ total (of_some φ) w.allocation + φ (empty_block n d) = total-set_some φ w.allocation d b (empty_block n d) a in
        let y : φ (empty_block n d) ≡ number n = of_empty n d in
        let z : total number (h.drawn ++ n ∷ []) ≡ total number h.drawn + number n = total-push number h.drawn n in
        let i : total φ (w.aside ++ b ∷ []) ≡ total φ w.aside + φ b = total-push φ w.aside b in
        omega arith
    move_balance {w = w} {h = h} (retires_done d n b a ne u fu) k e =
        let x : total (of_some φ) (set w.allocation d (Some (empty_block n d))) + φ b ≡ total (of_some φ) w.allocation + φ (empty_block n d) = total-set_some φ w.allocation d b (empty_block n d) a in
        let y : φ (empty_block n d) ≡ number n = of_empty n d in
        let z : total number (h.drawn ++ n ∷ []) ≡ total number h.drawn + number n = total-push number h.drawn n in
        let i : total φ (w.done ++ b ∷ []) ≡ total φ w.done + φ b = total-push φ w.done b in
        omega arith
    move_balance {w = w} {h = h} (copies d b c rest a i q l z yc to) k e =
        let x : total (of_some φ) (updated (mapped (with_copy c)) w.allocation d) + φ b ≡ total (of_some φ) w.allocation + φ (with_copy c b) = total-updated_some φ (with_copy c) w.allocation d b a in
        let y : φ (with_copy c b) ≡ φ b + pair (c.name, c.place) = of_copy c b (at-Each InFront w.allocation d b a k) l in
        let m : total pair (w.won ++ (c.name, c.place) ∷ []) ≡ total pair w.won + pair (c.name, c.place) = total-push pair w.won (c.name, c.place) in
        omega arith
    move_balance {w = w} {h = h} (claims n rest q l) k e =
        let x : total pair (w.won ++ (n, n) ∷ []) ≡ total pair w.won + pair (n, n) = total-push pair w.won (n, n) in
        let y : pair (n, n) ≡ unshut n = of_claim n l in
        let m : total unshut (w.large ++ n ∷ []) ≡ total unshut w.large + unshut n = total-push unshut w.large n in
        omega arith
    move_balance {w = w} {h = h} (scans_open_more d b c p a r s u) k e =
        let x : total (of_some φ) (set w.allocation d (Some (with_front_moved b))) + φ b ≡ total (of_some φ) w.allocation + φ (with_front_moved b) = total-set_some φ w.allocation d b (with_front_moved b) a in
        let y : φ (with_front_moved b) ≡ φ b + scan c.place = of_moved b c r in
        let z : total scan (w.scanned ++ c.place ∷ []) ≡ total scan w.scanned + scan c.place = total-push scan w.scanned c.place in
        let i : in_hand w.hand ≡ 0 = ap in_hand p in
        omega arith
    move_balance {w = w} {h = h} (scans_open_last d b c p a r s u) k e =
        let x : total (of_some φ) (set w.allocation d (Some (with_front_moved b))) + φ b ≡ total (of_some φ) w.allocation + φ (with_front_moved b) = total-set_some φ w.allocation d b (with_front_moved b) a in
        let y : φ (with_front_moved b) ≡ φ b + scan c.place = of_moved b c r in
        let z : total scan (w.scanned ++ c.place ∷ []) ≡ total scan w.scanned + scan c.place = total-push scan w.scanned c.place in
        let i : in_hand w.hand ≡ 0 = ap in_hand p in
        omega arith
    move_balance {w = w} {h = h} (scans_held_more b c p r s u) k e =
        let y : φ (with_front_moved b) ≡ φ b + scan c.place = of_moved b c r in
        let z : total scan (w.scanned ++ c.place ∷ []) ≡ total scan w.scanned + scan c.place = total-push scan w.scanned c.place in
        let i : in_hand w.hand ≡ φ b = ap in_hand p in
        omega arith
    move_balance {w = w} {h = h} (scans_held_last b c p r s u) k e =
        let y : φ (with_front_moved b) ≡ φ b + scan c.place = of_moved b c r in
        let z : total scan (w.scanned ++ c.place ∷ []) ≡ total scan w.scanned + scan c.place = total-push scan w.scanned c.place in
        let i : in_hand w.hand ≡ φ b = ap in_hand p in
        let x : total φ (w.done ++ with_front_moved b ∷ []) ≡ total φ w.done + φ (with_front_moved b) = total-push φ w.done (with_front_moved b) in
        omega arith
    move_balance {w = w} {h = h} (scans_large n p s) k e =
        let z : total scan (w.scanned ++ n ∷ []) ≡ total scan w.scanned + scan n = total-push scan w.scanned n in
        let i : in_hand w.hand ≡ unshut n = ap in_hand p in
        let x : total shut (w.large_done ++ n ∷ []) ≡ total shut w.large_done + shut n = total-push shut w.large_done n in
        let y : shut n ≡ unshut n + scan n = of_large n in
        omega arith
    move_balance {w = w} {h = h} (exports b bs p) k e =
        let x : total φ w.aside ≡ φ b + total φ bs = ap (total φ) p in
        let y : total φ (h.exported ++ b ∷ []) ≡ total φ h.exported + φ b = total-push φ h.exported b in
        omega arith
    move_balance {w = w} {h = h} (takes b p u) k e =
        let x : total φ (h.taken ++ b ∷ []) ≡ total φ h.taken + φ b = total-push φ h.taken b in
        let i : in_hand w.hand ≡ 0 = ap in_hand p in
        omega arith
    move_balance {w = w} {h = h} (owns d b p a u) k e =
        let i : in_hand w.hand ≡ 0 = ap in_hand p in
        omega arith
    move_balance {w = w} {h = h} (owns_large n ns p l) k e =
        let i : in_hand w.hand ≡ 0 = ap in_hand p in
        let x : total unshut w.large ≡ unshut n + total unshut ns = ap (total unshut) l in
        omega arith

    pub balance : {s : Worker} {k : History} {w : Worker} {h : History} → Moves setting s k w h → Each (OnSome InFront) s.allocation → got s k ≡ has s k → got w h ≡ has w h
    balance none k e = e
    balance (more ms m) k e = move_balance m (fronts ms k) (balance ms k e)

  -- the three weights
  abbrev pub pairs_in : (ℕ × ℕ → ℕ) → Block → ℕ
  pairs_in pair b = total (λ (c : Copy). pair (c.name, c.place)) b.copies

  abbrev pub scans_in : (ℕ → ℕ) → Block → ℕ
  scans_in scan b = front_total (λ (c : Copy). scan c.place) b.front b.copies
