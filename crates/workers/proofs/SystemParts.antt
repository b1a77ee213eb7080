-- A run of the system gives each worker a run of its own, and cells and claims as they should be.
use Rattle.std.proofs.Common.{◌≡◌, ◌≢◌, ℕ, zero, suc, ◌+◌, ◌<◌, ◌≤◌, Bool, true, false, not, List, [], ◌∷◌, ◌++◌, Option, Some, None, refl, sym, ap, subst, ◌∙◌, ⊎_elim, set, cond, length, arith, nat_eq, eqb-true, eq-eqb, ne_eqb, map, is_some, Contains}
use Rattle.std.proofs.lemmas.Bool.{cases_eq, cond-true, cond-false}
use Rattle.std.specs.Prelude.{slice_get, slice_index_or, if◌then◌else◌}
use Rattle.std.specs.Bool.{OnTrue}
use Rattle.std.specs.Ordering.{nat_cmp}
use Rattle.std.specs.Cmp.{unsigned_tied}
use Rattle.std.specs.FinMap.{find}
use Rattle.workers.specs.Block.{Block, has_unscanned, with_front_moved}
use Rattle.workers.specs.Setting.{Setting, is_collected, is_large_name, destination_of}
use Rattle.workers.specs.Worker.{Worker, Proposal, Copied, Claimed, Hand, Nothing, Open, Holding, HoldingLarge, allocation_at, current_object}
use Rattle.workers.specs.WorkerSteps.{current_slot, write_hand, finish_first, finish_slot, draws_for, draw_wanted, cell_wanted, is_open_at, retired, propose_into, look_at, look_slot, after_look, race_of, after_race, scan_open, scan_hand, log_scan, without_oldest, claim_first, CanLook}
use Rattle.workers.specs.WorkerRun.{WorkerRun, go, Act, Looked, Raced, Scanned, Exported, Took, Owned, OwnedLarge, after, CanAct, History, noted, known_by_look, known_by_race, proposed_name, proposed_place}
use Rattle.workers.specs.System.{System, cell_of, without_number}
use Rattle.workers.specs.Total.{total, one_if, times, wins_of, ones}
use Rattle.workers.specs.Joined.{Each, Part}
use Rattle.workers.proofs.Lists.{Each-at, Each-set, Each-map, none-some}
use Rattle.workers.proofs.Totals.{total-push}

-- won lists change by a race alone
module _ where
  either-won : (b : Bool) (x y : Worker) (v : List (ℕ × ℕ)) → x.won ≡ v → y.won ≡ v → (cond b x y).won ≡ v
  either-won true x y v p q = p
  either-won false x y v p q = q

  finish-won : (v : Option ℕ) (w : Worker) → (finish_slot v w).won ≡ w.won
  finish-won v w = on_starts w.starts
    where
      on_hand : (hand : Hand) → (write_hand v w hand).won ≡ w.won
      on_hand Nothing = refl
      on_hand (Open d) = refl
      on_hand (Holding b) = refl
      on_hand (HoldingLarge n) = refl

      on_starts : (xs : List ℕ) → (finish_first v w xs).won ≡ w.won
      on_starts [] = on_hand w.hand
      on_starts (t ∷ ts) = refl

  retired-won : (w : Worker) (d : ℕ) (o : Option Block) → (retired w d o).won ≡ w.won
  retired-won w d None = refl
  retired-won w d (Some b) = either-won (is_open_at d w.hand) _ _ w.won refl (either-won (has_unscanned b) _ _ w.won refl refl)

  propose-won : (setting : Setting) (w : Worker) (name d : ℕ) (o : Option Block) → (propose_into setting w name d o).won ≡ w.won
  propose-won setting w name d None = refl
  propose-won setting w name d (Some b) = refl

  look_at-won : (setting : Setting) (w : Worker) (cell : Option ℕ) (number name : ℕ) → (look_at setting w cell number name).won ≡ w.won
  look_at-won setting w (Some place) number name = finish-won (Some place) w
  look_at-won setting w None number name =
      either-won (is_large_name setting name) _ _ w.won refl
      (propose-won setting _ name (destination_of setting name) _ ∙ either-won (draws_for setting w name) _ _ w.won (retired-won w (destination_of setting name) (allocation_at w (destination_of setting name))) refl)

  look-won : (setting : Setting) (w : Worker) (cell : Option ℕ) (number : ℕ) → (after_look setting w cell number).won ≡ w.won
  look-won setting w cell number = go (current_slot setting w)
    where
      go : (o : Option (Option ℕ)) → (look_slot setting w cell number o).won ≡ w.won
      go None = refl
      go (Some None) = finish-won None w
      go (Some (Some name)) = either-won (is_collected setting name) _ _ w.won (look_at-won setting w cell number name) (finish-won (Some name) w)

  log-won : (w : Worker) (o : Option (ℕ × ℕ)) → (log_scan w o).won ≡ w.won
  log-won w None = refl
  log-won w (Some c) = refl

  scan_open-won : (w : Worker) (d : ℕ) (o : Option Block) → (scan_open w d o).won ≡ w.won
  scan_open-won w d None = refl
  scan_open-won w d (Some b) = refl

  scan_hand-won : (w : Worker) (hand : Hand) → (scan_hand w hand).won ≡ w.won
  scan_hand-won w Nothing = refl
  scan_hand-won w (Open d) = scan_open-won w d _
  scan_hand-won w (Holding b) = either-won (has_unscanned (with_front_moved b)) _ _ w.won refl refl
  scan_hand-won w (HoldingLarge n) = refl

  -- acts but a race
  abbrev pub IsQuiet : Act → Type 0
  IsQuiet (Looked cell number) = ⊥
  IsQuiet (Raced lost) = ⊥
  IsQuiet Scanned = Unit {0}
  IsQuiet Exported = Unit {0}
  IsQuiet (Took b) = Unit {0}
  IsQuiet (Owned d) = Unit {0}
  IsQuiet OwnedLarge = Unit {0}

  quiet-won : (setting : Setting) (w : Worker) (act : Act) → IsQuiet act → (after setting w act).won ≡ w.won
  quiet-won setting w (Looked cell number) q = absurd q
  quiet-won setting w (Raced lost) q = absurd q
  quiet-won setting w Scanned q = scan_hand-won (log_scan w (current_object w)) w.hand ∙ log-won w (current_object w)
  quiet-won setting w Exported q = go w.aside
    where
      go : (bs : List Block) → (without_oldest w bs).won ≡ w.won
      go [] = refl
      go (b ∷ bs) = refl
  quiet-won setting w (Took b) q = refl
  quiet-won setting w (Owned d) q = refl
  quiet-won setting w OwnedLarge q = go w.large
    where
      go : (ns : List ℕ) → (claim_first w ns).won ≡ w.won
      go [] = refl
      go (n ∷ ns) = refl

  pub quiet-noted : (setting : Setting) (w : Worker) (act : Act) (h : History) → IsQuiet act → ((noted setting w act h).known ≡ h.known) × ((noted setting w act h).drawn ≡ h.drawn)
  quiet-noted setting w (Looked cell number) h q = absurd q
  quiet-noted setting w (Raced lost) h q = absurd q
  quiet-noted setting w Scanned h q = (refl, refl)
  quiet-noted setting w Exported h q = (refl, refl)
  quiet-noted setting w (Took b) h q = (refl, refl)
  quiet-noted setting w (Owned d) h q = (refl, refl)
  quiet-noted setting w OwnedLarge h q = (refl, refl)

pub total-set : {A : Type 0} (f : A → ℕ) (xs : List A) (i : ℕ) (x y : A) → slice_get xs i ≡ Some x → total f (set xs i y) + f x ≡ total f xs + f y
total-set f [] i x y e = absurd (none-some e)
total-set f (z ∷ xs) zero x y e = let q : z ≡ x = cc in let s : f z ≡ f x = ap f q in omega arith
total-set f (z ∷ xs) (suc i) x y e = let h : total f (set xs i y) + f x ≡ total f xs + f y = total-set f xs i x y e in omega arith

pub map-set : {A B : Type 0} (g : A → B) (xs : List A) (i : ℕ) (y : A) → map g (set xs i y) ≡ set (map g xs) i (g y)
map-set g [] i y = refl
map-set g (x ∷ xs) zero y = refl
map-set g (x ∷ xs) (suc i) y = ap (λ t. g x ∷ t) (map-set g xs i y)

get-map : {A B : Type 0} (g : A → B) (xs : List A) (i : ℕ) (b : B) → slice_get (map g xs) i ≡ Some b → (x : A) × ((slice_get xs i ≡ Some x) × (g x ≡ b))
get-map g [] i b e = absurd (none-some e)
get-map g (x ∷ xs) zero b e = (x, (refl, cc))
get-map g (x ∷ xs) (suc i) b e = get-map g xs i b e

-- pairs that are found stay found
pub find-push : (es : List (ℕ × ℕ)) (k v : ℕ) (q w : ℕ) → find nat_cmp q es ≡ Some w → find nat_cmp q (es ++ (k, v) ∷ []) ≡ Some w
find-push [] k v q w e = absurd (none-some e)
find-push (x ∷ es) k v q w e =
    ⊎_elim
    (λ (s : q ≡ x.0). (let t = unsigned_tied q x.0 ∙ eq-eqb q x.0 s in cond-true _ _ _ t ∙ sym (cond-true _ _ _ t) ∙ e))
    (λ (n : q ≢ x.0). (let t = unsigned_tied q x.0 ∙ ne_eqb q x.0 n in cond-false _ _ _ t ∙ find-push es k v q w (sym (cond-false _ _ _ t) ∙ e)))
    (cases_eq q x.0)

pub find-new : (es : List (ℕ × ℕ)) (k v : ℕ) → find nat_cmp k es ≡ None → find nat_cmp k (es ++ (k, v) ∷ []) ≡ Some v
find-new [] k v e = cond-true _ _ _ (unsigned_tied k k ∙ eq-eqb k k refl)
find-new (x ∷ es) k v e =
    ⊎_elim
    (λ (s : k ≡ x.0). (let t = unsigned_tied k x.0 ∙ eq-eqb k x.0 s in absurd (none-some (sym e ∙ cond-true _ _ _ t))))
    (λ (n : k ≢ x.0). (let t = unsigned_tied k x.0 ∙ ne_eqb k x.0 n in cond-false _ _ _ t ∙ find-new es k v (sym (cond-false _ _ _ t) ∙ e)))
    (cases_eq k x.0)

find-other_push : (es : List (ℕ × ℕ)) (k v q : ℕ) → q ≢ k → find nat_cmp q (es ++ (k, v) ∷ []) ≡ find nat_cmp q es
find-other_push [] k v q n = cond-false _ _ _ (unsigned_tied q k ∙ ne_eqb q k n)
find-other_push (x ∷ es) k v q n =
    ⊎_elim
    (λ (e : q ≡ x.0). (let t = unsigned_tied q x.0 ∙ eq-eqb q x.0 e in cond-true _ _ _ t ∙ sym (cond-true _ _ _ t)))
    (λ (m : q ≢ x.0). (let t = unsigned_tied q x.0 ∙ ne_eqb q x.0 m in cond-false _ _ _ t ∙ find-other_push es k v q n ∙ sym (cond-false _ _ _ t)))
    (cases_eq q x.0)

times-without_same : (n : ℕ) (xs : List ℕ) → times n (without_number n xs) ≡ 0
times-without_same n [] = refl
times-without_same n (x ∷ xs) = go (nat_eq x n) refl (times-without_same n xs)
  where
    go : (b : Bool) → nat_eq x n ≡ b → times n (without_number n xs) ≡ 0 → times n (cond (not b) (x ∷ without_number n xs) (without_number n xs)) ≡ 0
    go true e h = h
    go false e h = let z : one_if (nat_eq x n) ≡ 0 = ap one_if e in omega arith

times-without_other : (k n : ℕ) (xs : List ℕ) → k ≢ n → times k (without_number n xs) ≡ times k xs
times-without_other k n [] ne = refl
times-without_other k n (x ∷ xs) ne = go (nat_eq x n) refl (times-without_other k n xs ne)
  where
    go : (b : Bool) → nat_eq x n ≡ b → times k (without_number n xs) ≡ times k xs → times k (cond (not b) (x ∷ without_number n xs) (without_number n xs)) ≡ one_if (nat_eq x k) + times k xs
    go true e h = let z : one_if (nat_eq x k) ≡ 0 = ap one_if (ne_eqb x k (λ p. ne (sym p ∙ eqb-true x n e))) in omega arith
    go false e h = ap (λ m. one_if (nat_eq x k) + m) h

pub member-times : (xs : List ℕ) (x i : ℕ) → i < length xs → slice_index_or xs i x ≡ x → 0 < times x xs
member-times [] x i l e = absurd (omega arith)
member-times (y ∷ xs) x zero l e = let o : one_if (nat_eq y x) ≡ 1 = ap one_if (eq-eqb y x e) in omega arith
member-times (y ∷ xs) x (suc i) l e = let h : 0 < times x xs = member-times xs x i (omega arith) e in omega arith

module _ (setting : Setting) where
  -- the parts as the system is
  pub record Agree (s : System) (parts : List Part) : Type 0 where
    pub workers : map (λ (p : Part). p.final) parts ≡ s.workers
    pub runs : Each (λ (p : Part). WorkerRun setting p.start p.final p.history) parts
    pub known : Each (λ (p : Part). Each (λ (q : ℕ × ℕ). find nat_cmp q.0 s.forwarded ≡ Some q.1) p.history.known) parts
    pub won : (name : ℕ) → total (λ (p : Part). wins_of name p.final.won) parts ≡ ones (find nat_cmp name s.forwarded)
    pub drawn : (k : ℕ) → total (λ (p : Part). times k p.history.drawn) parts + times k s.free ≤ 1

  abbrev pub acted : Part → Act → Part
  acted p act = record { start = p.start; final = after setting p.final act; history = noted setting p.final act p.history }

  pub is_there : (s : System) (parts : List Part) (t : ℕ) (w : Worker) → Agree s parts → slice_get s.workers t ≡ Some w → (p : Part) × ((slice_get parts t ≡ Some p) × (p.final ≡ w))
  is_there s parts t w a e = get-map (λ (p : Part). p.final) parts t w (ap (λ ws. slice_get ws t) a.workers ∙ e)

  module _ (s : System) (parts : List Part) (a : Agree s parts) (t : ℕ) (p : Part) (there : slice_get parts t ≡ Some p) where
    workers_after : (act : Act) → map (λ (q : Part). q.final) (set parts t (acted p act)) ≡ set s.workers t (after setting p.final act)
    workers_after act = map-set (λ (q : Part). q.final) parts t (acted p act) ∙ ap (λ ws. set ws t (after setting p.final act)) a.workers

    runs_after : (act : Act) → CanAct setting p.final act → Each (λ (q : Part). WorkerRun setting q.start q.final q.history) (set parts t (acted p act))
    runs_after act can = Each-set (λ (q : Part). WorkerRun setting q.start q.final q.history) parts t (acted p act) (go act (Each-at _ parts t p there a.runs) can) a.runs

    abbrev Found : List (ℕ × ℕ) → ℕ × ℕ → Type 0
    Found forwarded q = find nat_cmp q.0 forwarded ≡ Some q.1

    known_here : Each (Found s.forwarded) p.history.known
    known_here = Each-at (λ (q : Part). Each (Found s.forwarded) q.history.known) parts t p there a.known

    won_same : (act : Act) → (after setting p.final act).won ≡ p.final.won → (name : ℕ) → total (λ (q : Part). wins_of name q.final.won) (set parts t (acted p act)) ≡ ones (find nat_cmp name s.forwarded)
    won_same act e name =
        let x : total (λ (q : Part). wins_of name q.final.won) (set parts t (acted p act)) + wins_of name p.final.won ≡ total (λ (q : Part). wins_of name q.final.won) parts + wins_of name (after setting p.final act).won = total-set (λ (q : Part). wins_of name q.final.won) parts t p (acted p act) there in
        let y : wins_of name (after setting p.final act).won ≡ wins_of name p.final.won = ap (wins_of name) e in
        let z = a.won name in
        omega arith

    drawn_same : (act : Act) → (noted setting p.final act p.history).drawn ≡ p.history.drawn → (k : ℕ) → total (λ (q : Part). times k q.history.drawn) (set parts t (acted p act)) + times k s.free ≤ 1
    drawn_same act e k =
        let x : total (λ (q : Part). times k q.history.drawn) (set parts t (acted p act)) + times k p.history.drawn ≡ total (λ (q : Part). times k q.history.drawn) parts + times k (noted setting p.final act p.history).drawn = total-set (λ (q : Part). times k q.history.drawn) parts t p (acted p act) there in
        let y : times k (noted setting p.final act p.history).drawn ≡ times k p.history.drawn = ap (times k) e in
        let z = a.drawn k in
        omega arith

    -- an act that asks neither cells nor claims
    pub quiet_agree : (s' : System) (act : Act) → IsQuiet act → CanAct setting p.final act → s'.workers ≡ set s.workers t (after setting p.final act) → s'.forwarded ≡ s.forwarded → s'.free ≡ s.free → Agree s' (set parts t (acted p act))
    quiet_agree s' act q can ws fw fr =
        let n = quiet-noted setting p.final act p.history q in
        record {
          workers = workers_after act ∙ sym ws;
          runs = runs_after act can;
          known = subst (λ es. Each (λ (x : Part). Each (Found es) x.history.known) (set parts t (acted p act))) (sym fw) (Each-set (λ (x : Part). Each (Found s.forwarded) x.history.known) parts t (acted p act) (subst (Each (Found s.forwarded)) (sym n.0) known_here) a.known);
          won = λ name. won_same act (quiet-won setting p.final act q) name ∙ ap (λ es. ones (find nat_cmp name es)) (sym fw);
          drawn = λ k. subst (λ xs. total (λ (x : Part). times k x.history.drawn) (set parts t (acted p act)) + times k xs ≤ 1) (sym fr) (drawn_same act n.1 k);
        }

    -- a look, at what the cell holds
    pub look_agree : (number : ℕ) → CanLook setting p.final → OnTrue (draw_wanted setting p.final (cell_of s (cell_wanted setting p.final))) (Contains s.free number)
        → Agree (record s { workers = set s.workers t (after_look setting p.final (cell_of s (cell_wanted setting p.final)) number); free = if draw_wanted setting p.final (cell_of s (cell_wanted setting p.final)) then without_number number s.free else s.free }) (set parts t (acted p (Looked (cell_of s (cell_wanted setting p.final)) number)))
    look_agree number can draw =
        record {
          workers = workers_after act;
          runs = runs_after act can;
          known = Each-set (λ (x : Part). Each (Found s.forwarded) x.history.known) parts t (acted p act) (learned (cell_wanted setting p.final)) a.known;
          won = won_same act (look-won setting p.final (cell_of s (cell_wanted setting p.final)) number);
          drawn = λ k. drawn_after k (draw_wanted setting p.final (cell_of s (cell_wanted setting p.final))) draw _ (total-set (λ (q : Part). times k q.history.drawn) parts t p (acted p act) there);
        }
      where
        act : Act
        act = Looked (cell_of s (cell_wanted setting p.final)) number

        learned : (o : Option ℕ) → Each (Found s.forwarded) (known_by_look o (cell_of s o) p.history.known)
        learned None = known_here
        learned (Some name) = on (find nat_cmp name s.forwarded) refl
          where
            on : (c : Option ℕ) → find nat_cmp name s.forwarded ≡ c → Each (Found s.forwarded) (known_by_look (Some name) c p.history.known)
            on None e = known_here
            on (Some place) e = (e, known_here)

        drawn_after : (k : ℕ) (b : Bool) → OnTrue b (Contains s.free number) → (n : ℕ) → n + times k p.history.drawn ≡ total (λ (q : Part). times k q.history.drawn) parts + times k (cond b (p.history.drawn ++ number ∷ []) p.history.drawn) → n + times k (cond b (without_number number s.free) s.free) ≤ 1
        drawn_after k false c n e = let z = a.drawn k in omega arith
        drawn_after k true c n e =
            let z = a.drawn k in
            let m : times k (p.history.drawn ++ number ∷ []) ≡ times k p.history.drawn + one_if (nat_eq number k) = total-push (λ x. one_if (nat_eq x k)) p.history.drawn number in
            ⊎_elim
            (λ (q : k ≡ number).
            let w : 0 < times number s.free = member-times s.free number c.0 c.1 c.2 in
            let w2 : 0 < times k s.free = subst (λ x. 0 < times x s.free) (sym q) w in
            let y : times k (without_number number s.free) ≡ 0 = subst (λ x. times x (without_number number s.free) ≡ 0) (sym q) (times-without_same number s.free) in
            let o : one_if (nat_eq number k) ≡ 1 = ap one_if (eq-eqb number k (sym q)) in
            omega arith)
            (λ (q : k ≢ number).
            let y : times k (without_number number s.free) ≡ times k s.free = times-without_other k number s.free q in
            let o : one_if (nat_eq number k) ≡ 0 = ap one_if (ne_eqb number k (λ r. q (sym r))) in
            omega arith)
            (cases_eq k number)

    -- a race, for the proposed name's cell
    pub race_agree : (proposal : Proposal) → p.final.proposal ≡ Some proposal
        → Agree (record s { workers = set s.workers t (after_race p.final (cell_of s (Some (proposed_name proposal)))); forwarded = if is_some (cell_of s (Some (proposed_name proposal))) then s.forwarded else s.forwarded ++ (proposed_name proposal, proposed_place proposal) ∷ [] }) (set parts t (acted p (Raced (cell_of s (Some (proposed_name proposal))))))
    race_agree proposal e = on (find nat_cmp (proposed_name proposal) s.forwarded) refl
      where
        n : ℕ
        n = proposed_name proposal

        lost_won : (o : Option Proposal) (place : ℕ) → (race_of p.final o (Some place)).won ≡ p.final.won
        lost_won None place = refl
        lost_won (Some (Copied copy d)) place = finish-won (Some place) (record p.final { proposal = None })
        lost_won (Some (Claimed x)) place = finish-won (Some place) (record p.final { proposal = None })

        gained : (o : Proposal) → (race_of p.final (Some o) None).won ≡ p.final.won ++ (proposed_name o, proposed_place o) ∷ []
        gained (Copied copy d) = finish-won (Some copy.place) _
        gained (Claimed x) = finish-won (Some x) _

        learned : (lost : Option ℕ) (place : ℕ) (es : List (ℕ × ℕ)) → known_by_race (Some proposal) lost p.history.known ≡ (proposed_name proposal, place) ∷ p.history.known → find nat_cmp (proposed_name proposal) es ≡ Some place → Each (Found es) p.history.known → Each (Found es) (noted setting p.final (Raced lost) p.history).known
        learned lost place es q f h = subst (λ o. Each (Found es) (known_by_race o lost p.history.known)) (sym e) (subst (Each (Found es)) (sym q) (f, h))

        on : (c : Option ℕ) → find nat_cmp (proposed_name proposal) s.forwarded ≡ c
            → Agree (record s { workers = set s.workers t (after_race p.final c); forwarded = if is_some c then s.forwarded else s.forwarded ++ (proposed_name proposal, proposed_place proposal) ∷ [] }) (set parts t (acted p (Raced c)))
        on (Some place) f =
            record {
              workers = workers_after (Raced (Some place));
              runs = runs_after (Raced (Some place)) (ap is_some e);
              known = Each-set (λ (x : Part). Each (Found s.forwarded) x.history.known) parts t (acted p (Raced (Some place))) (learned (Some place) place s.forwarded refl f known_here) a.known;
              won = won_same (Raced (Some place)) (lost_won p.final.proposal place);
              drawn = drawn_same (Raced (Some place)) refl;
            }
        on None f =
            record {
              workers = workers_after (Raced None);
              runs = runs_after (Raced None) (ap is_some e);
              known = Each-set (λ (x : Part). Each (Found more) x.history.known) parts t (acted p (Raced None))
                  (learned None (proposed_place proposal) more refl (find-new s.forwarded n (proposed_place proposal) f) (grow p.history.known known_here))
                  (Each-map (λ (x : Part). Each (Found s.forwarded) x.history.known) (λ (x : Part). Each (Found more) x.history.known) (λ x h. grow x.history.known h) parts a.known);
              won = won_more;
              drawn = drawn_same (Raced None) refl;
            }
          where
            more : List (ℕ × ℕ)
            more = s.forwarded ++ (proposed_name proposal, proposed_place proposal) ∷ []

            grow : (ks : List (ℕ × ℕ)) → Each (Found s.forwarded) ks → Each (Found (s.forwarded ++ (proposed_name proposal, proposed_place proposal) ∷ [])) ks
            grow ks h = Each-map (Found s.forwarded) (Found (s.forwarded ++ (proposed_name proposal, proposed_place proposal) ∷ [])) (λ q x. find-push s.forwarded (proposed_name proposal) (proposed_place proposal) q.0 q.1 x) ks h

            won_more : (name : ℕ) → total (λ (q : Part). wins_of name q.final.won) (set parts t (acted p (Raced None))) ≡ ones (find nat_cmp name (s.forwarded ++ (proposed_name proposal, proposed_place proposal) ∷ []))
            won_more name =
                let x : total (λ (q : Part). wins_of name q.final.won) (set parts t (acted p (Raced None))) + wins_of name p.final.won ≡ total (λ (q : Part). wins_of name q.final.won) parts + wins_of name (after setting p.final (Raced None)).won = total-set (λ (q : Part). wins_of name q.final.won) parts t p (acted p (Raced None)) there in
                let g : (after_race p.final None).won ≡ p.final.won ++ (proposed_name proposal, proposed_place proposal) ∷ [] = ap (λ o. (race_of p.final o None).won) e ∙ gained proposal in
                let y : wins_of name (after_race p.final None).won ≡ wins_of name p.final.won + one_if (nat_eq (proposed_name proposal) name) = ap (wins_of name) g ∙ total-push (λ (q : ℕ × ℕ). one_if (nat_eq q.0 name)) p.final.won (proposed_name proposal, proposed_place proposal) in
                let z : total (λ (q : Part). wins_of name q.final.won) parts ≡ ones (find nat_cmp name s.forwarded) = a.won name in
                ⊎_elim
                (λ (q : proposed_name proposal ≡ name).
                let u : ones (find nat_cmp name s.forwarded) ≡ 0 = ap ones (ap (λ m. find nat_cmp m s.forwarded) (sym q) ∙ f) in
                let v : ones (find nat_cmp name (s.forwarded ++ (proposed_name proposal, proposed_place proposal) ∷ [])) ≡ 1 = ap ones (ap (λ m. find nat_cmp m (s.forwarded ++ (proposed_name proposal, proposed_place proposal) ∷ [])) (sym q) ∙ find-new s.forwarded (proposed_name proposal) (proposed_place proposal) f) in
                let o : one_if (nat_eq (proposed_name proposal) name) ≡ 1 = ap one_if (eq-eqb (proposed_name proposal) name q) in
                omega arith)
                (λ (q : proposed_name proposal ≢ name).
                let v : ones (find nat_cmp name (s.forwarded ++ (proposed_name proposal, proposed_place proposal) ∷ [])) ≡ ones (find nat_cmp name s.forwarded) = ap ones (find-other_push s.forwarded (proposed_name proposal) (proposed_place proposal) name (λ r. q (sym r))) in
                let o : one_if (nat_eq (proposed_name proposal) name) ≡ 0 = ap one_if (ne_eqb (proposed_name proposal) name q) in
                omega arith)
                (cases_eq (proposed_name proposal) name)
