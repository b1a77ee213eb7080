-- How the seats get their parts.
use Rattle.std.proofs.Common.{◌≡◌, ◌≢◌, ◌≤◌, ℕ, zero, suc, ◌+◌, ◌-◌, ◌<◌, ◌==◌, Bool, true, false, Option, Some, List, [], ◌∷◌, ◌++◌, length, map, set, get_or, sym, refl, ap, ◌∙◌, subst, ⊎_elim, All, arith, eq-eqb, ne_eqb, length-set, length-append, nat_lt, cond, take, option_map, unwrap_or, take_all, length-take-le}
use Rattle.std.proofs.lemmas.Bool.{eqb-true, lt-ltb, le-ltb, cases_order}
use Rattle.std.specs.List.{slice_get}
use Rattle.std.proofs.lemmas.Option.{slice_get_within, get_or_from_slice_get, slice_get-map, slice_get_read}
use Rattle.std.proofs.lemmas.List.{map-append, length-map, take_more}
use Rattle.std.proofs.lemmas.List.Elements.{All-append, All-cons, All-nil, All-pop}
use Rattle.atomic_table.specs.Seated.{TableId}
use Rattle.crossbeam_queue.specs.SegTies.{SegId}
use Rattle.block_pool.specs.BlockValue.{BlockValue}
use Rattle.model.specs.Total.{one_if}
use Rattle.pending_queues.specs.PassValue.{PassValue, first_pass, after_deal, dealt}
use Rattle.pending_queues.specs.TallyValue.{TallySeatValue, unraised}
use Rattle.pending_queues.specs.SeatPass.{AtEach, pass_of}
use Rattle.pending_queues.specs.Seated.{IsSeated, sent_by}
use Rattle.pending_queues.specs.Dealt.{root_of, AreRoots, AreNewPasses, AreHeaps}
use Rattle.pending_queues.proofs.Places.{get-set, get-snoc, map-kept}

pub snoc_each : {X : Type 0} (F : ℕ → X → Type 0) (xs : List X) (x : X) → AtEach F xs → F (length xs) x → AtEach F (xs ++ x ∷ [])
snoc_each F xs x old new i y at =
    ⊎_elim (λ (h : slice_get xs i ≡ Some y). old i y h) (λ (h : (i ≡ length xs) × (x ≡ y)). subst (λ (q : ℕ × _). F q.0 q.1) (λ j. (sym h.0 j, h.1 j)) new) (get-snoc xs x y i at)

senders_after : (u t : ℕ) → cond {A = ℕ} (u == t) 0 (cond (nat_lt u t) 0 1) ≡ cond (nat_lt u (t + 1)) 0 1
senders_after u t = ⊎_elim (λ (h : u ≡ t). rw (eq-eqb u t h) (rw (lt-ltb u (t + 1) (omega arith)) refl))
    (λ h. ⊎_elim (λ (lt : u < t). rw (ne_eqb u t (λ e. absurd (omega arith))) (rw (lt-ltb u t lt) (rw (lt-ltb u (t + 1) (omega arith)) refl)))
    (λ (gt : t < u). rw (ne_eqb u t (λ e. absurd (omega arith))) (rw (le-ltb u t (omega arith)) (rw (le-ltb u (t + 1) (omega arith)) refl))) h)
    (cases_order u t)

nothing : (b : Bool) (xs : List BlockValue) → cond b xs xs ≡ xs
nothing true xs = refl
nothing false xs = refl

pub all-push : {X : Type 0} (P : X → Type 0) (xs : List X) (x : X) → All P xs → P x → All P (xs ++ x ∷ [])
all-push P xs x all h = All-append P xs (x ∷ []) all (All-cons P x [] h (All-nil P))

module _ {A K : Type 0} where
  pub roots-push : (key : K) (lanes : List (SegId A)) (n u : ℕ) (roots : List (PassValue A K)) (lane : SegId A) (root : PassValue A K)
      → AreRoots key lanes n 0 roots → length roots ≡ u → root ≡ first_pass lane key u n → AreRoots key (lanes ++ lane ∷ []) n 0 (roots ++ root ∷ [])
  roots-push key lanes n u roots lane root is len e = record {
    of = map-append (λ p. p.lane) roots (root ∷ []) ∙ (rw (is.of, e) refl);
    roots_are = snoc_each (λ u p. p ≡ root_of p.lane key n 0 u) roots root is.roots_are (rw (len, e) (first u));
  }
    where
      first : (u : ℕ) → first_pass lane key u n ≡ root_of lane key n 0 u
      first u = let all : n - 0 ≡ n = omega arith in rw (le-ltb u 0 (omega arith), all) refl

  pub deal-root : (key : K) (n t u : ℕ) (p q : PassValue A K) → p ≡ root_of p.lane key n t u → q ≡ after_deal p (u == t) → q ≡ root_of q.lane key n (t + 1) u
  deal-root key n t u p q is e =
      let lane = ap (λ (v : PassValue A K). v.lane) e in
      let parts : (n - t) - 1 ≡ n - (t + 1) = omega arith in
      subst (λ (l : SegId A). q ≡ root_of l key n (t + 1) u) (sym lane)
      (e ∙ (ap (λ (v : PassValue A K). after_deal v (u == t)) is ∙ (rw (senders_after u t, parts) refl)))

  pub deal-pass : (key : K) (n t u : ℕ) (p q : PassValue A K) → p ≡ root_of p.lane key n t u → q ≡ dealt p (u == t) → q ≡ pass_of q.lane key n t [] [] u
  deal-pass key n t u p q is e =
      let lane = ap (λ (v : PassValue A K). v.lane) e in
      subst (λ (l : SegId A). q ≡ pass_of l key n t [] [] u) (sym lane)
      (e ∙ (ap (λ (v : PassValue A K). dealt v (u == t)) is ∙ (rw (nothing (u == t) []) refl)))

  pub sends : (key : K) (n t u : ℕ) (p : PassValue A K) → p ≡ root_of p.lane key n t u → (u == t) ≡ true → p.senders ≡ 1
  sends key n t u p is e = let same = eqb-true u t e in ap (λ (v : PassValue A K). v.senders) is ∙ (rw (le-ltb u t (omega arith)) refl)

  pub lasts : (key : K) (n t u : ℕ) (p : PassValue A K) → p ≡ root_of p.lane key n t u → t < n → u < n → p.parts ≡ 1 → p.senders ≡ one_if (u == t)
  lasts key n t u p is lt in' e =
      let parts : p.parts ≡ n - t = ap (λ (v : PassValue A K). v.parts) is in
      let senders : p.senders ≡ cond (nat_lt u t) 0 1 = ap (λ (v : PassValue A K). v.senders) is in
      senders ∙ ⊎_elim (λ (h : u ≡ t). rw (eq-eqb u t h) (rw (le-ltb u t (omega arith)) refl))
      (λ h. ⊎_elim (λ (below : u < t). rw (ne_eqb u t (λ e. absurd (omega arith))) (rw (lt-ltb u t below) refl)) (λ (above : t < u). absurd (omega arith)) h)
      (cases_order u t)

  pub root-there : (lanes : List (SegId A)) (u : ℕ) (roots : List (PassValue A K)) (p : PassValue A K) (lane : SegId A)
      → map (λ p. p.lane) roots ≡ lanes → u < length lanes → p ≡ get_or roots u p → lane ≡ get_or lanes u lane → (slice_get roots u ≡ Some p) × (p.lane ≡ lane)
  root-there lanes u roots p lane of lt at_p at_l =
      let many : length roots ≡ length lanes = sym (length-map roots (λ p. p.lane)) ∙ ap length of in
      let there = slice_get_read roots (length roots) u p refl (omega arith) at_p in
      let its = slice_get_read lanes (length lanes) u lane refl lt at_l in
      let e : Some p.lane ≡ Some lane = sym (slice_get-map (λ p. p.lane) roots u ∙ ap (option_map (λ p. p.lane)) there) ∙ (ap (λ l. slice_get l u) of ∙ its) in
      (there, cc)

  -- so many of the roots have dealt their part to the seat
  pub record AreBetween (key : K) (lanes : List (SegId A)) (n t done : ℕ) (roots : List (PassValue A K)) : Type 0 where
    pub of : map (λ p. p.lane) roots ≡ lanes
    pub before : AtEach (λ u p. u < done → p ≡ root_of p.lane key n (t + 1) u) roots
    pub after : AtEach (λ u p. done ≤ u → p ≡ root_of p.lane key n t u) roots

  pub starts : (key : K) (lanes : List (SegId A)) (n t : ℕ) (roots : List (PassValue A K)) → AreRoots key lanes n t roots → AreBetween key lanes n t 0 roots
  starts key lanes n t roots is = record { of = is.of; before = λ u p at lt. absurd (omega arith); after = λ u p at le. is.roots_are u p at }

  pub ends : (key : K) (lanes : List (SegId A)) (n t done : ℕ) (roots : List (PassValue A K)) → length lanes ≤ done → AreBetween key lanes n t done roots → AreRoots key lanes n (t + 1) roots
  ends key lanes n t done roots le is = record {
    of = is.of;
    roots_are = λ u p at. is.before u p at (let lt = slice_get_within roots u p at in let many : length roots ≡ length lanes = sym (length-map roots (λ p. p.lane)) ∙ ap length is.of in omega arith);
  }

  pub steps : (key : K) (lanes : List (SegId A)) (n t u : ℕ) (roots : List (PassValue A K)) (p q : PassValue A K)
      → AreBetween key lanes n t u roots → slice_get roots u ≡ Some p → q ≡ after_deal p (u == t) → AreBetween key lanes n t (u + 1) (set roots u q)
  steps key lanes n t u roots p q is at e = record {
    of = map-kept (λ p. p.lane) roots u p q at (ap (λ v. v.lane) e) ∙ is.of;
    before = λ v x there lt. ⊎_elim
        (λ (h : (v ≡ u) × (q ≡ x)). subst (λ (y : ℕ × PassValue A K). y.1 ≡ root_of y.1.lane key n (t + 1) y.0) (λ i. (sym h.0 i, h.1 i)) (deal-root key n t u p q (is.after u p at (omega arith)) e))
        (λ (h : (v ≢ u) × (slice_get roots v ≡ Some x)). is.before v x h.1 (let ne = h.0 in omega arith))
        (get-set roots u v q x there);
    after = λ v x there le. ⊎_elim
        (λ (h : (v ≡ u) × (q ≡ x)). absurd (let s = h.0 in omega arith))
        (λ (h : (v ≢ u) × (slice_get roots v ≡ Some x)). is.after v x h.1 (omega arith))
        (get-set roots u v q x there);
  }

  -- the passes that the seat has so far
  pub record AreFirst (key : K) (lanes : List (SegId A)) (n t done : ℕ) (passes : List (PassValue A K)) : Type 0 where
    pub of : map (λ p. p.lane) passes ≡ take done lanes
    pub passes_are : AtEach (λ u p. p ≡ pass_of p.lane key n t [] [] u) passes

  pub no-first : (key : K) (lanes : List (SegId A)) (n t : ℕ) (passes : List (PassValue A K)) → passes ≡ [] → AreFirst key lanes n t 0 passes
  no-first key lanes n t passes none = rw none (record { of = refl; passes_are = λ u p at. cc })

  pub firsts : (key : K) (lanes : List (SegId A)) (n t u : ℕ) (passes : List (PassValue A K)) (p q : PassValue A K) (lane : SegId A)
      → AreFirst key lanes n t u passes → u < length lanes → lane ≡ get_or lanes u lane → p.lane ≡ lane → p ≡ root_of p.lane key n t u → q ≡ dealt p (u == t)
      → AreFirst key lanes n t (u + 1) (passes ++ q ∷ [])
  firsts key lanes n t u passes p q lane is lt at same root e =
      let many : length passes ≡ u = sym (length-map passes (λ p. p.lane)) ∙ (ap length is.of ∙ length-take-le u lanes (omega arith)) in
      let its : q.lane ≡ lane = ap (λ v. v.lane) e ∙ same in record {
        of = map-append (λ p. p.lane) passes (q ∷ []) ∙ (rw (is.of, its) (ap (λ x. take u lanes ++ x ∷ []) at ∙ sym (take_more lanes u lane lt)));
        passes_are = snoc_each (λ u p. p ≡ pass_of p.lane key n t [] [] u) passes q is.passes_are (rw many (deal-pass key n t u p q root e));
      }

  pub all-first : (key : K) (lanes : List (SegId A)) (n t done : ℕ) (passes : List (PassValue A K)) → length lanes ≤ done → AreFirst key lanes n t done passes → AreNewPasses key lanes n t passes
  all-first key lanes n t done passes le is = record { of = is.of ∙ take_all done lanes le; passes_are = is.passes_are }

-- a tally more, with its marks
pub heaps-push : {X : Type 0} (names : List TableId) (left : ℕ) (marks : X → List TallySeatValue) (heaps : List X) (name : TableId) (heap : X)
    → AreHeaps names left marks heaps → length (marks heap) ≡ left → All (λ m. m ≡ unraised name) (marks heap) → AreHeaps (names ++ name ∷ []) left marks (heaps ++ heap ∷ [])
heaps-push {X} names left marks heaps name heap is len all = record {
  many = length-append heaps (heap ∷ []) ∙ (ap (λ n. n + 1) is.many ∙ sym (length-append names (name ∷ [])));
  sizes = snoc_each (λ u h. length (marks h) ≡ left) heaps heap is.sizes len;
  each = λ u n h at_n at_h. ⊎_elim
      (λ (x : slice_get names u ≡ Some n). ⊎_elim
      (λ (y : slice_get heaps u ≡ Some h). is.each u n h x y)
      (λ (y : (u ≡ length heaps) × (heap ≡ h)). absurd (let lt = slice_get_within names u n x in let m = is.many in let e = y.0 in omega arith))
      (get-snoc heaps heap h u at_h))
      (λ (x : (u ≡ length names) × (name ≡ n)). ⊎_elim
      (λ (y : slice_get heaps u ≡ Some h). absurd (let lt = slice_get_within heaps u h y in let m = is.many in let e = x.0 in omega arith))
      (λ (y : (u ≡ length heaps) × (heap ≡ h)). subst (λ (q : TableId × X). All (λ m. m ≡ unraised q.0) (marks q.1)) (λ i. (x.1 i, y.1 i)) all)
      (get-snoc heaps heap h u at_h))
      (get-snoc names name n u at_n);
}

-- so many of the heaps have given a mark to the seat
pub record AreTapped {X : Type 0} (names : List TableId) (left done : ℕ) (marks : X → List TallySeatValue) (heaps : List X) : Type 0 where
  pub many : length heaps ≡ length names
  pub all : (u : ℕ) (name : TableId) (heap : X) → slice_get names u ≡ Some name → slice_get heaps u ≡ Some heap → All (λ m. m ≡ unraised name) (marks heap)
  pub before : AtEach (λ u heap. u < done → length (marks heap) + 1 ≡ left) heaps
  pub after : AtEach (λ u heap. done ≤ u → length (marks heap) ≡ left) heaps

pub tap-starts : {X : Type 0} (names : List TableId) (left : ℕ) (marks : X → List TallySeatValue) (heaps : List X) → AreHeaps names left marks heaps → AreTapped names left 0 marks heaps
tap-starts {X} names left marks heaps is = record {
  many = is.many;
  all = is.each;
  before = λ u heap at lt. absurd (omega arith);
  after = λ u heap at le. is.sizes u heap at;
}

pub tap-ends : {X : Type 0} (names : List TableId) (left done : ℕ) (marks : X → List TallySeatValue) (heaps : List X) → length names ≤ done → AreTapped names left done marks heaps → AreHeaps names (left - 1) marks heaps
tap-ends {X} names left done marks heaps le is = record {
  many = is.many;
  sizes = λ u heap at. let lt = slice_get_within heaps u heap at in let m = is.many in let b = is.before u heap at (omega arith) in omega arith;
  each = is.all;
}

pub tap-steps : {X : Type 0} (names : List TableId) (left u : ℕ) (marks : X → List TallySeatValue) (heaps : List X) (heap rest : X) (mark : TallySeatValue)
    → AreTapped names left u marks heaps → slice_get heaps u ≡ Some heap → marks heap ≡ marks rest ++ mark ∷ [] → AreTapped names left (u + 1) marks (set heaps u rest)
tap-steps {X} names left u marks heaps heap rest mark is at e =
    let len : length (marks heap) ≡ length (marks rest) + 1 = ap length e ∙ length-append (marks rest) (mark ∷ []) in record {
      many = length-set heaps u rest ∙ is.many;
      all = λ v name x at_n at_x. ⊎_elim
          (λ (h : (v ≡ u) × (rest ≡ x)). subst (λ (q : X). All (λ m. m ≡ unraised name) (marks q)) h.1
          (All-pop (λ m. m ≡ unraised name) (marks heap) (marks rest) (Some mark) e (is.all u name heap (subst (λ (j : ℕ). slice_get names j ≡ Some name) h.0 at_n) at)).0)
          (λ (h : (v ≢ u) × (slice_get heaps v ≡ Some x)). is.all v name x at_n h.1)
          (get-set heaps u v rest x at_x);
      before = λ v x at_x lt. ⊎_elim
          (λ (h : (v ≡ u) × (rest ≡ x)). let a = is.after u heap at (omega arith) in let s : length (marks x) ≡ length (marks rest) = ap (λ y. length (marks y)) (sym h.1) in omega arith)
          (λ (h : (v ≢ u) × (slice_get heaps v ≡ Some x)). is.before v x h.1 (let ne = h.0 in omega arith))
          (get-set heaps u v rest x at_x);
      after = λ v x at_x le. ⊎_elim
          (λ (h : (v ≡ u) × (rest ≡ x)). absurd (let s = h.0 in omega arith))
          (λ (h : (v ≢ u) × (slice_get heaps v ≡ Some x)). is.after v x h.1 (omega arith))
          (get-set heaps u v rest x at_x);
    }

-- the mark that a heap gave
pub tapped : {X : Type 0} (names : List TableId) (left u : ℕ) (marks : X → List TallySeatValue) (heaps : List X) (heap rest : X) (mark : TallySeatValue) (name : TableId)
    → AreTapped names left u marks heaps → slice_get heaps u ≡ Some heap → slice_get names u ≡ Some name → marks heap ≡ marks rest ++ mark ∷ [] → mark ≡ unraised name
tapped {X} names left u marks heaps heap rest mark name is at at_n e = (All-pop (λ m. m ≡ unraised name) (marks heap) (marks rest) (Some mark) e (is.all u name heap at_n at)).1

-- the marks that the seat has so far
pub marks-push : (names : List TableId) (u : ℕ) (marks : List TallySeatValue) (mark : TallySeatValue) (name : TableId)
    → marks ≡ map unraised (take u names) → slice_get names u ≡ Some name → mark ≡ unraised name → marks ++ mark ∷ [] ≡ map unraised (take (u + 1) names)
marks-push names u marks mark name is at e =
    rw (take_more names u name (slice_get_within names u name at), get_or_from_slice_get names u name name at) (rw (is, e) (sym (map-append unraised (take u names) (name ∷ []))))

module _ {A K : Type 0} where
  none_sent : (passes : List (PassValue A K)) (i : ℕ) → AtEach (λ u p. p.sent ≡ []) passes → get_or (map (λ p. p.sent) passes) i [] ≡ []
  none_sent [] i h = refl
  none_sent (p ∷ passes) zero h = h 0 p refl
  none_sent (p ∷ passes) (suc i) h = none_sent passes i (λ u q at. h (suc u) q at)

  pub new-sent : (key : K) (lanes : List (SegId A)) (n index : ℕ) (passes : List (PassValue A K)) → AreNewPasses key lanes n index passes → sent_by passes index ≡ []
  new-sent key lanes n index passes is = none_sent passes index (λ u p at. ap (λ v. v.sent) (is.passes_are u p at) ∙ nothing (u == index) [])

  pub fresh-seat : (key : K) (index : ℕ) (passes : List (PassValue A K)) (marks : List TallySeatValue)
      → AreNewPasses key (map (λ p. p.lane) passes) (length passes) index passes → marks ≡ map unraised (map (λ m. m.name) marks) → length marks ≡ length passes
      → IsSeated key index passes marks [] [] [] 0
  fresh-seat key index passes marks is fresh many = let none = new-sent key _ _ index passes is in record {
    passes_are = λ u p at. rw none (is.passes_are u p at);
    many = many;
    one_part = λ u m at.
        let there : Some (unraised m.name) ≡ Some m = sym (slice_get-map unraised (map (λ m. m.name) marks) u ∙ ap (option_map unraised) (slice_get-map (λ m. m.name) marks u ∙ ap (option_map (λ m. m.name)) at)) ∙ (ap (λ l. slice_get l u) (sym fresh) ∙ at) in
        ap (λ (o : Option TallySeatValue). (unwrap_or o (unraised m.name)).parts) (sym there);
    raised = λ u m at.
        let there : Some (unraised m.name) ≡ Some m = sym (slice_get-map unraised (map (λ m. m.name) marks) u ∙ ap (option_map unraised) (slice_get-map (λ m. m.name) marks u ∙ ap (option_map (λ m. m.name)) at)) ∙ (ap (λ l. slice_get l u) (sym fresh) ∙ at) in
        ap (λ (o : Option TallySeatValue). (unwrap_or o (unraised m.name)).raised) (sym there);
    sizes_are = rw none refl;
    logged = refl;
    exporters = λ k d lt. absurd (omega arith);
    cleared_seen = λ u m at own. omega arith;
    cleared_sent = omega arith;
  }

  pub renewed : (key key' : K) (lanes : List (SegId A)) (index : ℕ) (passes : List (PassValue A K)) → key ≡ key' → AreNewPasses key lanes (length lanes) index passes
      → AreNewPasses key' (map (λ p. p.lane) passes) (length passes) index passes
  renewed key key' lanes index passes e is =
      let len : length lanes ≡ length passes = sym (ap length is.of) ∙ length-map passes (λ p. p.lane) in
      record { of = refl; passes_are = subst (λ (q : K × ℕ). AtEach (λ u p. p ≡ pass_of p.lane q.0 q.1 index [] [] u) passes) (λ i. (e i, len i)) is.passes_are }

pub named : (names : List TableId) → map (λ (m : TallySeatValue). m.name) (map unraised names) ≡ names
named [] = refl
named (n ∷ names) = ap (λ l. n ∷ l) (named names)

pub named-marks : (names : List TableId) (marks : List TallySeatValue) → marks ≡ map unraised names → marks ≡ map unraised (map (λ m. m.name) marks)
named-marks names marks is = rw is (ap (map unraised) (sym (named names)))
