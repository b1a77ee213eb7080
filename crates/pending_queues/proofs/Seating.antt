-- What a call changes of a seat.
use mathlib.Core.Logic.{dite}
use Rattle.std.proofs.Math.Decide.{dec_lt}
use Rattle.std.proofs.Common.{None, ◌≡◌, ◌≢◌, ◌≤◌, ℕ, ◌+◌, ◌<◌, true, false, Option, Some, List, [], ◌∷◌, ◌++◌, length, map, set, get_or, sym, refl, ap, ◌∙◌, subst, ⊎_elim, All, arith, eq-eqb, ne_eqb, length-set, length-append, append-nil, unwrap_or}
use Rattle.std.specs.List.{slice_get}
use Rattle.std.proofs.lemmas.Option.{slice_get_within, get_or_from_slice_get, slice_get-map, slice_get_read}
use Rattle.std.specs.Option.{IsSomeAnd}
use Rattle.std.proofs.lemmas.List.{map-append, length-map, get_or-map, get_or_read}
use Rattle.pending_queues.specs.Delivered.{IsLabelledBelow}
use Rattle.std.proofs.lemmas.List.Elements.{filter-append, All-append, All-cons, All-nil}
use Rattle.block_pool.specs.BlockValue.{BlockValue}
use Rattle.pending_queues.specs.PassValue.{About, PassValue, Meets, position_of, Took}
use Rattle.pending_queues.specs.TallyValue.{TallySeatValue}
use Rattle.pending_queues.specs.declared.exports.label.Label.{Label}
use Rattle.pending_queues.specs.SeatPass.{AtEach, pass_of, taken_from, is_from}
use Rattle.pending_queues.specs.Seated.{IsSeated, sent_by}
use Rattle.crossbeam_queue.specs.SegTies.{SegId}
use Rattle.pending_queues.specs.PendingValue.{Source, SeatValue, IsSeatOf, after_export, after_take}
use Rattle.pending_queues.specs.Labelled.{labelled}
use Rattle.pending_queues.proofs.Places.{get-set, get-set_here, set-same, map-kept}
use Rattle.pending_queues.proofs.Kept.{filtered}

-- one more block of that exporter, or of another
from-here : (u : ℕ) (taken : List BlockValue) (b : BlockValue) → is_from u b ≡ true → taken_from u (taken ++ b ∷ []) ≡ taken_from u taken ++ b ∷ []
from-here u taken b e = filter-append (is_from u) taken (b ∷ []) ∙ rw e refl

from-else : (u : ℕ) (taken : List BlockValue) (b : BlockValue) → is_from u b ≡ false → taken_from u (taken ++ b ∷ []) ≡ taken_from u taken
from-else u taken b e = filter-append (is_from u) taken (b ∷ []) ∙ rw e (append-nil (taken_from u taken))

-- a block that was taken from there before has a lower position
pub rises : (u : ℕ) (b : BlockValue) (taken : List BlockValue) → All (λ (t : BlockValue). position_of t < position_of b) (taken_from u taken)
    → All (λ (t : BlockValue). (p : ℕ) → t.sent ≡ Some (u, p) → p < position_of b) taken
rises u b taken h k d lt p label =
    let at : position_of (get_or taken k d) < position_of b = filtered (is_from u) (λ (t : BlockValue). position_of t < position_of b) taken h k d lt (rw label (eq-eqb u u refl)) in
    let place : position_of (get_or taken k d) ≡ p = rw label refl in omega arith

-- a mark stays one part
one-set : (marks : List TallySeatValue) (u : ℕ) (m n : TallySeatValue) → slice_get marks u ≡ Some m → n.parts ≡ m.parts → AtEach (λ i x. x.parts ≡ 1) marks → AtEach (λ i x. x.parts ≡ 1) (set marks u n)
one-set marks u m n at same each v x there = ⊎_elim
    (λ (h : (v ≡ u) × (n ≡ x)). subst (λ (q : TallySeatValue). q.parts ≡ 1) h.1 (same ∙ each u m at))
    (λ (h : (v ≢ u) × (slice_get marks v ≡ Some x)). each v x h.1)
    (get-set marks u v n x there)

-- what a take tells of the block
pub record Learned {K : Type 0} (fits : K → BlockValue → Type 0) (key : K) (index u : ℕ) (sent taken : List BlockValue) (b : BlockValue) : Type 0 where
  pub label : b.sent ≡ Some (u, position_of b)
  pub fact : fits key b
  pub rises : All (λ (t : BlockValue). (p : ℕ) → t.sent ≡ Some (u, p) → p < position_of b) taken
  pub own : u ≡ index → slice_get sent (position_of b) ≡ Some b

module _ {A K : Type 0} where
  -- what the seat's own pass has sent is what the seat has sent
  pub sent-own : (passes : List (PassValue A K)) (index : ℕ) (p : PassValue A K) → slice_get passes index ≡ Some p → sent_by passes index ≡ p.sent
  sent-own passes index p at = get_or_from_slice_get (map (λ p. p.sent) passes) index p.sent [] (slice_get-map (λ p. p.sent) passes index ∙ rw at refl)

  pub sent-set : (passes : List (PassValue A K)) (index : ℕ) (p w : PassValue A K) → slice_get passes index ≡ Some p → sent_by (set passes index w) index ≡ w.sent
  sent-set passes index p w at = sent-own (set passes index w) index w (get-set_here passes index p w at)

  -- the seat's own pass sends
  pub sends-own : (lane : SegId A) (key : K) (n index : ℕ) (sent taken : List BlockValue) (p : PassValue A K) → p ≡ pass_of lane key n index sent taken index → (p.senders ≡ 1) × (p.sent ≡ sent)
  sends-own lane key n index sent taken p is = rw is (rw (eq-eqb index index refl) (refl, refl))

  -- the seat's own pass may send, and its next block is one that may be sent there
  pub record MaySend (fits : K → BlockValue → Type 0) (p : PassValue A K) (b : BlockValue) : Type 0 where
    pub parts : 0 < p.parts
    pub senders : p.senders ≡ 1
    pub meets : Meets fits p.about (length p.sent) b

  pub may-send : (fits : K → BlockValue → Type 0) (key : K) (index : ℕ) (passes : List (PassValue A K)) (marks : List TallySeatValue) (sizes : List ℕ) (log : List Label) (taken : List BlockValue) (cleared : ℕ)
      (p : PassValue A K) (block b : BlockValue) (n : ℕ)
      → IsSeated key index passes marks sizes log taken cleared → slice_get passes index ≡ Some p → b ≡ labelled index n block → n ≡ length sizes → fits key (labelled index (length (sent_by passes index)) block)
      → MaySend fits p b
  may-send fits key index passes marks sizes log taken cleared p block b n seated at eb en fact =
      let sent : List BlockValue = sent_by passes index in
      let is : p ≡ pass_of p.lane key (length passes) index sent taken index = seated.passes_are index p at in
      let parts : p.parts ≡ 1 = ap (λ v. v.parts) is in
      let own : sent ≡ p.sent = sent-own passes index p at in
      let place : n ≡ length sent = en ∙ (ap length seated.sizes_are ∙ length-map sent (λ c. length c.objects)) in
      let e : b ≡ labelled index (length sent) block = eb ∙ ap (λ k. labelled index k block) place in
      record {
        parts = omega arith;
        senders = (sends-own p.lane key (length passes) index sent taken p is).0;
        meets = subst (λ (a : About K). Meets fits a (length p.sent) b) (sym (ap (λ v. v.about) is))
            (record { label = ap (λ c. c.sent) e ∙ ap (λ l. Some (index, length l)) own; fact = subst (fits key) (sym e) fact });
      }

  pub exported : (key : K) (index : ℕ) (passes : List (PassValue A K)) (marks : List TallySeatValue) (sizes : List ℕ) (log : List Label) (taken : List BlockValue) (cleared : ℕ)
      (p w : PassValue A K) (b : BlockValue) (more : List ℕ)
      → IsSeated key index passes marks sizes log taken cleared → slice_get passes index ≡ Some p → w ≡ record p { sent = p.sent ++ b ∷ [] } → more ≡ sizes ++ length b.objects ∷ []
      → IsSeated key index (set passes index w) marks more log taken cleared
  exported key index passes marks sizes log taken cleared p w b more is at e em =
      let n : ℕ = length passes in
      let sent : List BlockValue = sent_by passes index in
      let len : length (set passes index w) ≡ n = length-set passes index w in
      let own : sent ≡ p.sent = sent-own passes index p at in
      let new : sent_by (set passes index w) index ≡ sent ++ b ∷ [] = sent-set passes index p w at ∙ (ap (λ v. v.sent) e ∙ ap (λ l. l ++ b ∷ []) (sym own)) in
      record {
        passes_are = λ u x there. rw (len, new) (⊎_elim
            (λ (h : (u ≡ index) × (w ≡ x)). subst (λ (q : PassValue A K). q ≡ pass_of q.lane key n index (sent ++ b ∷ []) taken u) h.1
            (subst (λ (j : ℕ). w ≡ pass_of w.lane key n index (sent ++ b ∷ []) taken j) (sym h.0)
            (own_pass n sent p w (is.passes_are index p at) e)))
            (λ (h : (u ≢ index) × (slice_get passes u ≡ Some x)). other_pass x u n sent h.0 (is.passes_are u x h.1))
            (get-set passes index u w x there));
        many = is.many ∙ sym len;
        one_part = is.one_part;
        raised = is.raised;
        sizes_are = em ∙ (rw (is.sizes_are, new) (sym (map-append (λ (c : BlockValue). length c.objects) sent (b ∷ []))));
        logged = is.logged;
        exporters = rw len is.exporters;
        cleared_seen = is.cleared_seen;
        cleared_sent = (let c = is.cleared_sent in let l = length-append sent (b ∷ []) in rw new (omega arith));
      }
    where
      own_pass : (n : ℕ) (sent : List BlockValue) (p w : PassValue A K) → p ≡ pass_of p.lane key n index sent taken index → w ≡ record p { sent = p.sent ++ b ∷ [] } → w ≡ pass_of w.lane key n index (sent ++ b ∷ []) taken index
      own_pass n sent p w h e = let lane = ap (λ (v : PassValue A K). v.lane) e in
          subst (λ (l : SegId A). w ≡ pass_of l key n index (sent ++ b ∷ []) taken index) (sym lane)
          (rw (eq-eqb index index refl) (e ∙ ap (λ (q : PassValue A K). record q { sent = q.sent ++ b ∷ [] }) (rw (eq-eqb index index refl) at h)))

      other_pass : (x : PassValue A K) (u n : ℕ) (sent : List BlockValue) → u ≢ index → x ≡ pass_of x.lane key n index sent taken u → x ≡ pass_of x.lane key n index (sent ++ b ∷ []) taken u
      other_pass x u n sent ne h = rw (ne_eqb u index ne) (rw (ne_eqb u index ne) at h)

  -- a seat as callers see it
  abbrev pub seat_view : K → ℕ → List (PassValue A K) → List TallySeatValue → List BlockValue → ℕ → SeatValue A K
  seat_view key index passes marks taken cleared = record {
    source = record { key = key; lanes = map (λ p. p.lane) passes; tallies = map (λ m. m.name) marks };
    index = index;
    sent = sent_by passes index;
    taken = taken;
    cleared = cleared;
  }

  -- the pass at a place is there, and is of the queue there
  pub pass-there : (key : K) (index : ℕ) (passes : List (PassValue A K)) (marks : List TallySeatValue) (taken : List BlockValue) (cleared : ℕ) (seat : SeatValue A K) (source : Source A K) (u : ℕ) (p : PassValue A K)
      → seat_view key index passes marks taken cleared ≡ seat → seat.source ≡ source → u < length source.lanes → p ≡ get_or passes u p → slice_get passes u ≡ Some p
  pass-there key index passes marks taken cleared seat source u p view of lt is =
      let lanes : map (λ p. p.lane) passes ≡ source.lanes = ap (λ s. s.source.lanes) view ∙ ap (λ s. s.lanes) of in
      let many : length passes ≡ length source.lanes = sym (length-map passes (λ p. p.lane)) ∙ ap length lanes in
      slice_get_read passes (length source.lanes) u p (sym many) lt is

  pub own-there : (key : K) (index : ℕ) (passes : List (PassValue A K)) (marks : List TallySeatValue) (taken : List BlockValue) (cleared : ℕ) (seat : SeatValue A K) (source : Source A K) (p : PassValue A K)
      → seat_view key index passes marks taken cleared ≡ seat → IsSeatOf source seat → p ≡ get_or passes index p → slice_get passes index ≡ Some p
  own-there key index passes marks taken cleared seat source p view is at =
      pass-there key index passes marks taken cleared seat source index p view is.of (let e : index ≡ seat.index = ap (λ s. s.index) view in let o = is.own in omega arith) at

  pub exported-view : (key : K) (index : ℕ) (passes : List (PassValue A K)) (marks : List TallySeatValue) (sizes : List ℕ) (log : List Label) (taken : List BlockValue) (cleared : ℕ)
      (seat : SeatValue A K) (p w : PassValue A K) (block b : BlockValue) (n : ℕ)
      → IsSeated key index passes marks sizes log taken cleared → seat_view key index passes marks taken cleared ≡ seat
      → slice_get passes index ≡ Some p → w ≡ record p { sent = p.sent ++ b ∷ [] } → b ≡ labelled index n block → n ≡ length sizes
      → seat_view key index (set passes index w) marks taken cleared ≡ after_export seat block
  exported-view key index passes marks sizes log taken cleared seat p w block b n is view at e eb en =
      let lanes = map-kept (λ p. p.lane) passes index p w at (ap (λ v. v.lane) e) in
      let sent : sent_by (set passes index w) index ≡ sent_by passes index ++ b ∷ [] = sent-set passes index p w at ∙ (ap (λ v. v.sent) e ∙ ap (λ l. l ++ b ∷ []) (sym (sent-own passes index p at))) in
      let place : n ≡ length (sent_by passes index) = en ∙ (ap length is.sizes_are ∙ length-map (sent_by passes index) (λ c. length c.objects)) in
      subst (λ s. seat_view key index (set passes index w) marks taken cleared ≡ after_export s block) view (rw (lanes, sent, eb, place) refl)

  pub mark-there : (key : K) (index : ℕ) (passes : List (PassValue A K)) (marks : List TallySeatValue) (sizes : List ℕ) (log : List Label) (taken : List BlockValue) (cleared : ℕ) (u : ℕ) (p : PassValue A K) (m : TallySeatValue)
      → IsSeated key index passes marks sizes log taken cleared → slice_get passes u ≡ Some p → m ≡ get_or marks u m → slice_get marks u ≡ Some m
  mark-there key index passes marks sizes log taken cleared u p m is at e = slice_get_read marks (length passes) u m (sym is.many) (slice_get_within passes u p at) e

  pub took : (key : K) (index : ℕ) (passes : List (PassValue A K)) (marks : List TallySeatValue) (sizes : List ℕ) (log : List Label) (taken : List BlockValue) (cleared : ℕ)
      (u : ℕ) (p w : PassValue A K) (m n : TallySeatValue) (b : BlockValue) (t : Label) (logs : List Label) (all : List BlockValue)
      → IsSeated key index passes marks sizes log taken cleared → slice_get passes u ≡ Some p → slice_get marks u ≡ Some m
      → w ≡ record p { taken = p.taken ++ b ∷ [] } → n ≡ record m { raised = m.raised + 1 }
      → b.sent ≡ Some (u, position_of b) → b.sent ≡ Some (t.exporter, t.position) → logs ≡ log ++ t ∷ [] → all ≡ taken ++ b ∷ []
      → IsSeated key index (set passes u w) (set marks u n) sizes logs all cleared
  took key index passes marks sizes log taken cleared u p w m n b t logs all is at_p at_m ew en label says el ea =
      let many : ℕ = length passes in
      let sent : List BlockValue = sent_by passes index in
      let len : length (set passes u w) ≡ many = length-set passes u w in
      let same : sent_by (set passes u w) index ≡ sent = ap (λ l. get_or l index []) (map-kept (λ p. p.sent) passes u p w at_p (ap (λ v. v.sent) ew)) in
      let here : is_from u b ≡ true = rw label (eq-eqb u u refl) in
      let others : (v : ℕ) → v ≢ u → is_from v b ≡ false = λ v ne. rw label (ne_eqb u v (λ e. ne (sym e))) in
      let exporter : t.exporter ≡ u = sym (ap (λ (o : Option (ℕ × ℕ)). (unwrap_or o (0, 0)).0) (sym label ∙ says)) in
      rw (el, ea) (record {
        passes_are = λ v x there. rw (len, same) (⊎_elim
            (λ (h : (v ≡ u) × (w ≡ x)). subst (λ (q : PassValue A K). q ≡ pass_of q.lane key many index sent (taken ++ b ∷ []) v) h.1
            (subst (λ (j : ℕ). w ≡ pass_of w.lane key many index sent (taken ++ b ∷ []) j) (sym h.0)
            (mine many sent here (is.passes_are u p at_p))))
            (λ (h : (v ≢ u) × (slice_get passes v ≡ Some x)). rw (from-else v taken b (others v h.0)) (is.passes_are v x h.1))
            (get-set passes u v w x there));
        many = length-set marks u n ∙ (is.many ∙ sym len);
        one_part = one-set marks u m n at_m (ap (λ v. v.parts) en) is.one_part;
        raised = λ v x there. ⊎_elim
            (λ (h : (v ≡ u) × (n ≡ x)). subst (λ (q : TallySeatValue). q.raised ≡ length (taken_from v (taken ++ b ∷ []))) h.1
            (subst (λ (j : ℕ). n.raised ≡ length (taken_from j (taken ++ b ∷ []))) (sym h.0)
            (let r = is.raised u m at_m in let l = length-append (taken_from u taken) (b ∷ []) in let up : n.raised ≡ m.raised + 1 = ap (λ v. v.raised) en in rw (from-here u taken b here) (omega arith))))
            (λ (h : (v ≢ u) × (slice_get marks v ≡ Some x)). rw (from-else v taken b (others v h.0)) (is.raised v x h.1))
            (get-set marks u v n x there);
        sizes_are = rw same is.sizes_are;
        logged = map-append (λ (c : BlockValue). c.sent) taken (b ∷ []) ∙ (rw (is.logged, says) (sym (map-append (λ (l : Label). Some (l.exporter, l.position)) log (t ∷ []))));
        exporters = rw len (All-append (λ (l : Label). l.exporter < many) log (t ∷ []) is.exporters (All-cons (λ (l : Label). l.exporter < many) t [] (let lt = slice_get_within passes u p at_p in omega arith) (All-nil (λ (l : Label). l.exporter < many))));
        cleared_seen = λ v x there own. ⊎_elim
            (λ (h : (v ≡ u) × (n ≡ x)). let s = is.cleared_seen u m at_m (sym h.0 ∙ own) in let e : x.seen ≡ m.seen = ap (λ v. v.seen) (sym h.1 ∙ en) in omega arith)
            (λ (h : (v ≢ u) × (slice_get marks v ≡ Some x)). is.cleared_seen v x h.1 own)
            (get-set marks u v n x there);
        cleared_sent = rw same is.cleared_sent;
      })
    where
      mine : (many : ℕ) (sent : List BlockValue) → is_from u b ≡ true → p ≡ pass_of p.lane key many index sent taken u → w ≡ pass_of w.lane key many index sent (taken ++ b ∷ []) u
      mine many sent here h = let lane = ap (λ (v : PassValue A K). v.lane) ew in
          subst (λ (l : SegId A). w ≡ pass_of l key many index sent (taken ++ b ∷ []) u) (sym lane)
          (rw (from-here u taken b here) (ew ∙ ap (λ (q : PassValue A K). record q { taken = q.taken ++ b ∷ [] }) h))

  pub took-view : (key : K) (index : ℕ) (passes : List (PassValue A K)) (marks : List TallySeatValue) (taken : List BlockValue) (cleared : ℕ)
      (seat : SeatValue A K) (u : ℕ) (p w : PassValue A K) (m n : TallySeatValue) (b : BlockValue) (all : List BlockValue)
      → seat_view key index passes marks taken cleared ≡ seat → slice_get passes u ≡ Some p → slice_get marks u ≡ Some m
      → w ≡ record p { taken = p.taken ++ b ∷ [] } → n ≡ record m { raised = m.raised + 1 } → all ≡ taken ++ b ∷ []
      → seat_view key index (set passes u w) (set marks u n) all cleared ≡ after_take seat b
  took-view key index passes marks taken cleared seat u p w m n b all view at_p at_m ew en ea =
      let lanes = map-kept (λ p. p.lane) passes u p w at_p (ap (λ v. v.lane) ew) in
      let names = map-kept (λ m. m.name) marks u m n at_m (ap (λ v. v.name) en) in
      let sent = map-kept (λ p. p.sent) passes u p w at_p (ap (λ v. v.sent) ew) in
      subst (λ s. seat_view key index (set passes u w) (set marks u n) all cleared ≡ after_take s b) view (rw (lanes, names, sent, ea) refl)

  -- nothing changes where a pass is put back as it was
  pub unchanged : (passes : List (PassValue A K)) (u : ℕ) (p w : PassValue A K) → slice_get passes u ≡ Some p → w ≡ p → set passes u w ≡ passes
  unchanged passes u p w at e = rw e (set-same passes u p at)

  pub learned : (fits : K → BlockValue → Type 0) (key : K) (n index u : ℕ) (sent taken : List BlockValue) (p w : PassValue A K) (b : BlockValue)
      → p ≡ pass_of p.lane key n index sent taken u → Took fits p b w → Learned fits key index u sent taken b
  learned fits key n index u sent taken p w b is took =
      let t : Took fits (pass_of p.lane key n index sent taken u) b w = subst (λ (q : PassValue A K). Took fits q b w) is took in record {
        label = t.meets.label;
        fact = t.meets.fact;
        rises = rises u b taken t.rises;
        own = λ e. (rw (eq-eqb u index e) at t.own) refl;
      }

  -- a count is seen in the tally of the seat's own queue, and so much of it is known to be taken
  pub seen : (key : K) (index : ℕ) (passes : List (PassValue A K)) (marks : List TallySeatValue) (sizes : List ℕ) (log : List Label) (taken : List BlockValue) (cleared : ℕ)
      (m n : TallySeatValue) (count known : ℕ)
      → IsSeated key index passes marks sizes log taken cleared → slice_get marks index ≡ Some m → n ≡ record m { seen = count } → known ≤ count → known ≤ length (sent_by passes index)
      → IsSeated key index passes (set marks index n) sizes log taken known
  seen key index passes marks sizes log taken cleared m n count known is at en le few = record {
    passes_are = is.passes_are;
    many = length-set marks index n ∙ is.many;
    one_part = one-set marks index m n at (ap (λ v. v.parts) en) is.one_part;
    raised = λ u x there. ⊎_elim
        (λ (h : (u ≡ index) × (n ≡ x)). subst (λ (q : ℕ × TallySeatValue). q.1.raised ≡ length (taken_from q.0 taken)) (λ i. (sym h.0 i, h.1 i)) (ap (λ v. v.raised) en ∙ is.raised index m at))
        (λ (h : (u ≢ index) × (slice_get marks u ≡ Some x)). is.raised u x h.1)
        (get-set marks index u n x there);
    sizes_are = is.sizes_are;
    logged = is.logged;
    exporters = is.exporters;
    cleared_seen = λ u x there own. ⊎_elim
        (λ (h : (u ≡ index) × (n ≡ x)). let e : x.seen ≡ count = ap (λ v. v.seen) (sym h.1 ∙ en) in omega arith)
        (λ (h : (u ≢ index) × (slice_get marks u ≡ Some x)). absurd (h.0 own))
        (get-set marks index u n x there);
    cleared_sent = few;
  }

  pub seen-view : (key : K) (index : ℕ) (passes : List (PassValue A K)) (marks : List TallySeatValue) (taken : List BlockValue) (cleared : ℕ)
      (seat : SeatValue A K) (m n : TallySeatValue) (count known : ℕ)
      → seat_view key index passes marks taken cleared ≡ seat → slice_get marks index ≡ Some m → n ≡ record m { seen = count }
      → seat_view key index passes (set marks index n) taken known ≡ record seat { cleared = known }
  seen-view key index passes marks taken cleared seat m n count known view at en =
      let names = map-kept (λ m. m.name) marks index m n at (ap (λ v. v.name) en) in
      subst (λ s. seat_view key index passes (set marks index n) taken known ≡ record s { cleared = known }) view (rw names refl)

  pub many-sent : (key : K) (index : ℕ) (passes : List (PassValue A K)) (marks : List TallySeatValue) (sizes : List ℕ) (log : List Label) (taken : List BlockValue) (cleared : ℕ)
      → IsSeated key index passes marks sizes log taken cleared → length sizes ≡ length (sent_by passes index)
  many-sent key index passes marks sizes log taken cleared is = ap length is.sizes_are ∙ length-map (sent_by passes index) (λ c. length c.objects)

  pub own-mark : (key : K) (index : ℕ) (passes : List (PassValue A K)) (marks : List TallySeatValue) (sizes : List ℕ) (log : List Label) (taken : List BlockValue) (cleared : ℕ) (seat : SeatValue A K) (source : Source A K) (m : TallySeatValue)
      → IsSeated key index passes marks sizes log taken cleared → seat_view key index passes marks taken cleared ≡ seat → IsSeatOf source seat → m ≡ get_or marks index m → slice_get marks index ≡ Some m
  own-mark key index passes marks sizes log taken cleared seat source m is view of at =
      let many : length passes ≡ length source.lanes = sym (length-map passes (λ p. p.lane)) ∙ ap length (ap (λ s. s.source.lanes) view ∙ ap (λ s. s.lanes) of.of) in
      let e : index ≡ seat.index = ap (λ s. s.index) view in
      let o = of.own in
      slice_get_read marks (length source.lanes) index m (sym (is.many ∙ many)) (omega arith) at

-- each block that a seat took has the label that it wrote down
pub labels_below : (n : ℕ) (taken : List BlockValue) (log : List Label)
    → map (λ (b : BlockValue). b.sent) taken ≡ map (λ (t : Label). Some (t.exporter, t.position)) log
    → All (λ (t : Label). t.exporter < n) log → All (IsLabelledBelow n) taken
labels_below n taken log same each k d lt =
    let first : Label = record { exporter = 0; position = 0 } in
    let long : length taken ≡ length log = sym (length-map taken (λ (b : BlockValue). b.sent)) ∙ ap length same ∙ length-map log (λ (t : Label). Some (t.exporter, t.position)) in
    let here : k < length log = omega arith in
    let at : (get_or taken k d).sent ≡ Some ((get_or log k first).exporter, (get_or log k first).position) =
    sym (get_or-map (λ (b : BlockValue). b.sent) taken k d None lt) ∙ ap (λ l. get_or l k None) same ∙ get_or-map (λ (t : Label). Some (t.exporter, t.position)) log k first None here in
    subst (λ o. IsSomeAnd o (λ label. label.0 < n)) (sym at) (each k first here)

-- what holds of the first elements and of the next one
pub one_more : {X : Type 0} (P : X → Type 0) (xs : List X) (i : ℕ) (x : X) → x ≡ get_or xs i x → i < length xs
    → ((k : ℕ) (d : X) → k < i → P (get_or xs k d)) → P x → (k : ℕ) (d : X) → k < i + 1 → P (get_or xs k d)
one_more P xs i x is inside before now k d below =
    dite (dec_lt k i)
    (λ h. before k d h)
    (λ h. let same : i ≡ k = omega arith in subst (λ j. P (get_or xs j d)) same (subst P (get_or_read xs i x inside is d) now))
