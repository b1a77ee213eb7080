-- Each step keeps the rule of a queue, and what the pass that has all parts learns from it.
use Rattle.std.proofs.Common.{◌≡◌, ◌≢◌, ℕ, zero, suc, ◌+◌, ◌<◌, Option, Some, None, List, [], ◌∷◌, ◌++◌, length, get_or, set, nat_lt, slice_get, is_some, true, refl, sym, ap, ◌∙◌, subst, ⊎_elim, append_assoc, append-nil, length-append, arith}
use Rattle.std.proofs.lemmas.List.Elements.{All-nil, All-append}
use Rattle.std.proofs.lemmas.Option.{slice_get_within}
use mathlib.Core.Option.{some, some-ne-none, some-injective}
use mathlib.Core.Logic.{dite}
use native.Mathlib.Decide.{ℕ_discrete}
use lib.ListN.{get_elem?}
use Rattle.crossbeam_queue.specs.Fifo.{Pushes, Pops, Forks, Merges, Learns}
use Rattle.crossbeam_queue.proofs.Lists.{at_set, at_snoc}
use Rattle.model.specs.Total.{total, one_if}
use Rattle.model.proofs.Totals.{total-set, total-snoc, total-same, total-none, total-whole}
use Rattle.block_pool.specs.BlockValue.{BlockValue}
use Rattle.pending_queues.specs.declared.lanes.view.View.{View}
use Rattle.pending_queues.specs.Labelled.{times_at}
use Rattle.pending_queues.specs.PassValue.{Meets, position_on, position_of}
use Rattle.pending_queues.specs.LaneRule.{StandsIn, parts_of, exporter_of, about_in, MeetsIn, opening, spent, named, less_one, part_of, kept, handed, gathered, Sent, TookIn, Settled, FitsIn, IsKeptLane}
use Rattle.pending_queues.proofs.LaneLists.{get_longer, get_middle, get_snoc, stand_grown, stand_more, times_append, times_one, none_below, one_more, total-fork, total-merge, total-two}

module _ {K : Type 0} where
  label_in : (fits : K → BlockValue → Type 0) (about : Option (K × ℕ × ℕ)) (position : ℕ) (block : BlockValue) → MeetsIn fits about position block → block.sent ≡ Some (exporter_of about, position)
  label_in fits None position block m = absurd m
  label_in fits (Some a) position block m = m.label

  pub meets_in : (fits : K → BlockValue → Type 0) (about : Option (K × ℕ × ℕ)) (known : is_some about ≡ true) (position : ℕ) (block : BlockValue) → Meets fits (about_in about known) position block → MeetsIn fits about position block
  meets_in fits None known position block m = absurd (cc)
  meets_in fits (Some a) known position block m = m

  pub meets_out : (fits : K → BlockValue → Type 0) (about : Option (K × ℕ × ℕ)) (known : is_some about ≡ true) (position : ℕ) (block : BlockValue) → MeetsIn fits about position block → Meets fits (about_in about known) position block
  meets_out fits None known position block m = absurd m
  meets_out fits (Some a) known position block m = m

  pub seats_in : (about : Option (K × ℕ × ℕ)) (known : is_some about ≡ true) → (about_in about known).seats ≡ parts_of about
  seats_in None known = absurd (cc)
  seats_in (Some a) known = refl

  pub exporter_in : (about : Option (K × ℕ × ℕ)) (known : is_some about ≡ true) → (about_in about known).exporter ≡ exporter_of about
  exporter_in None known = absurd (cc)
  exporter_in (Some a) known = refl

times_none : (exporter position : ℕ) (xs : List BlockValue) → length xs ≡ 0 → times_at exporter position xs ≡ 0
times_none exporter position [] e = refl
times_none exporter position (x ∷ xs) e = absurd (omega arith)

nothing_at : {A : Type 0} {P : Type 0} (position : ℕ) (x : A) (xs : List A) → xs ≡ [] → slice_get xs position ≡ Some x → P
nothing_at position x [] none e = absurd (cc)
nothing_at position x (y ∷ ys) none e = absurd (cc)

module _ {V : Type 0} (F : V → Type 0) where
  abbrev Each : List V → Type 0
  Each views = (i : ℕ) (v : V) → get_elem? views i ≡ some v → F v

  each_one : (v : V) → F v → Each (v ∷ [])
  each_one v h zero u e = subst F (some-injective v u e) h
  each_one v h (suc i) u e = absurd (some-ne-none u (sym e))

  each_set : (views : List V) (i : ℕ) (w : V) → F w → ((j : ℕ) (u : V) → j ≢ i → get_elem? views j ≡ some u → F u) → Each (set views i w)
  each_set views i w mine others j u e = ⊎_elim (λ (t : (j ≡ i) × (w ≡ u)). subst F t.1 mine)
      (λ (t : (j ≢ i) × (get_elem? views j ≡ some u)). others j u t.0 t.1) (at_set views i j w u e)

  each_snoc : (views : List V) (w : V) → Each views → F w → Each (views ++ w ∷ [])
  each_snoc views w old new j u e = ⊎_elim (λ t. old j u t) (λ (is : w ≡ u). subst F is new) (at_snoc views w u j e)

module _ {K A : Type 0} (fits : K → BlockValue → Type 0) where
  abbrev Kept : List BlockValue → List (View K A) → Type 0
  Kept = IsKeptLane {K = K} {A = A} fits

  -- a view with no part fits whatever was sent
  is_spent : (about : Option (K × ℕ × ℕ)) (sent front : List BlockValue) → FitsIn about sent front (spent {K = K} {A = A})
  is_spent about sent front = record {
    about_is = λ e. absurd (omega arith);
    writer = λ e. absurd (omega arith);
    reader = λ _. refl;
    took = All-nil (StandsIn front);
    idle_taken = λ _. refl;
    idle_senders = λ _ _. refl;
  }

  pub begins : Kept [] (opening ∷ [])
  begins = record {
    about = None;
    sent = [];
    front = [];
    rest = refl;
    labels = λ position block e. absurd (cc);
    senders = refl;
    parts = refl;
    once = λ position. sym (none_below position);
    count = refl;
    each = each_one (FitsIn None [] []) opening (record {
      about_is = λ _. refl;
      writer = λ _. refl;
      reader = λ e. absurd (omega arith);
      took = All-nil (StandsIn []);
      idle_taken = λ _. refl;
      idle_senders = λ _ e. absurd (omega arith);
    });
  }

  -- a step that leaves what was sent, and all sums, as they are
  forked : (items : List BlockValue) (views : List (View K A)) (port : ℕ) (v l r : View K A) → (h : Kept items views) → get_elem? views port ≡ some v
      → l.senders + r.senders ≡ v.senders → l.parts + r.parts ≡ v.parts
      → l.taken ≡ v.taken → r.taken ≡ []
      → FitsIn h.about h.sent h.front l → FitsIn h.about h.sent h.front r
      → Kept items (set views port l ++ r ∷ [])
  forked items views port v l r h at senders parts same none left right = record {
    about = h.about;
    sent = h.sent;
    front = h.front;
    rest = h.rest;
    labels = h.labels;
    senders = total-fork (λ (u : View K A). u.senders) views port v l r at senders ∙ h.senders;
    parts = total-fork (λ (u : View K A). u.parts) views port v l r at parts ∙ h.parts;
    once = λ p. let one : times_at (exporter_of h.about) p l.taken ≡ times_at (exporter_of h.about) p v.taken = ap (times_at (exporter_of h.about) p) same in
        let other : times_at (exporter_of h.about) p r.taken ≡ 0 = ap (times_at (exporter_of h.about) p) none in
        total-fork (λ (u : View K A). times_at (exporter_of h.about) p u.taken) views port v l r at (omega arith) ∙ h.once p;
    count = let one : length l.taken ≡ length v.taken = ap length same in
        let other : length r.taken ≡ 0 = ap length none in
        total-fork (λ (u : View K A). length u.taken) views port v l r at (omega arith) ∙ h.count;
    each = each_snoc (FitsIn h.about h.sent h.front) (set views port l) r
        (each_set (FitsIn h.about h.sent h.front) views port l left (λ j u apart e. h.each j u e))
        right;
  }

  pub cuts : (port : ℕ) (v : View K A) → 0 < v.parts → v.taken ≡ [] → (v.parts ≡ 1 → v.senders ≡ 0) → Forks Kept port v (less_one v) (part_of v)
  cuts port v some_left fresh last items views h at =
      let mine : FitsIn h.about h.sent h.front v = h.each port v at in
      forked items views port v (less_one v) (part_of v) h at (omega arith) (omega arith) refl refl
      (record {
        about_is = λ _. mine.about_is some_left;
        writer = mine.writer;
        reader = mine.reader;
        took = mine.took;
        idle_taken = λ _. fresh;
        idle_senders = λ _ e. last (omega arith);
      })
      (record {
        about_is = λ _. mine.about_is some_left;
        writer = λ e. absurd (omega arith);
        reader = λ _. refl;
        took = All-nil (StandsIn h.front);
        idle_taken = λ _. refl;
        idle_senders = λ _ e. refl;
      })

  pub hands : (port : ℕ) (v : View K A) → 0 < v.parts → v.taken ≡ [] → v.senders ≡ 1 → Forks Kept port v (kept v) (handed v)
  hands port v some_left fresh may items views h at =
      let mine : FitsIn h.about h.sent h.front v = h.each port v at in
      forked items views port v (kept v) (handed v) h at (omega arith) (omega arith) refl refl
      (record {
        about_is = λ _. mine.about_is some_left;
        writer = λ e. absurd (omega arith);
        reader = λ _. refl;
        took = mine.took;
        idle_taken = λ _. fresh;
        idle_senders = λ _ _. refl;
      })
      (record {
        about_is = λ _. mine.about_is some_left;
        writer = mine.writer;
        reader = mine.reader;
        took = All-nil (StandsIn h.front);
        idle_taken = λ _. refl;
        idle_senders = λ _ e. absurd (omega arith);
      })

  pub names : (a : K × ℕ × ℕ) (port : ℕ) → Forks Kept port opening (named (Some a) opening) spent
  names a port items views h at =
      let mine : FitsIn h.about h.sent h.front opening = h.each port opening at in
      let w : View K A = named (Some a) opening in
      let vs : List (View K A) = set views port w in
      let unnamed : None ≡ h.about = mine.about_is (omega arith) in
      let empty : [] ≡ h.sent = mine.writer refl in
      let none_taken : length h.front ≡ 0 = (let n = ap length (empty ∙ h.rest) in let m = length-append h.front items in omega arith) in
      let one : total (λ (u : View K A). u.parts) views ≡ 1 = h.parts ∙ ap parts_of (sym unnamed) in
      let took_none : total (λ (u : View K A). length u.taken) views ≡ 0 = h.count ∙ none_taken in
      record {
        about = Some a;
        sent = h.sent;
        front = h.front;
        rest = h.rest;
        labels = λ position block e. nothing_at position block h.sent (sym empty) e;
        senders = total-fork (λ (u : View K A). u.senders) views port opening w spent at refl ∙ h.senders;
        parts = let s = total-set (λ (u : View K A). u.parts) views port opening w at in let t = total-snoc (λ (u : View K A). u.parts) vs spent in omega arith;
        once = λ p. total-fork (λ (u : View K A). times_at a.1 p u.taken) views port opening w spent at refl
            ∙ (total-none (λ (u : View K A). length u.taken) (λ (u : View K A). times_at a.1 p u.taken) views (λ j u e none. times_none a.1 p u.taken none) took_none
            ∙ (sym (none_below p) ∙ ap (λ n. one_if (nat_lt p n)) (sym none_taken)));
        count = total-fork (λ (u : View K A). length u.taken) views port opening w spent at refl ∙ h.count;
        each = each_snoc (FitsIn (Some a) h.sent h.front) vs spent
            (each_set (FitsIn (Some a) h.sent h.front) views port w
            (record {
              about_is = λ _. refl;
              writer = mine.writer;
              reader = mine.reader;
              took = All-nil (StandsIn h.front);
              idle_taken = λ _. refl;
              idle_senders = λ some_seat e. absurd (omega arith);
            })
            (λ j u apart e.
            let was = h.each j u e in
            let alone = total-two (λ (y : View K A). y.parts) views port j opening u apart at e in
            let silent = total-two (λ (y : View K A). y.senders) views port j opening u apart at e in
            let all = h.senders in
            record {
              about_is = λ some_part. absurd (omega arith);
              writer = was.writer;
              reader = was.reader;
              took = was.took;
              idle_taken = was.idle_taken;
              idle_senders = λ _ _. omega arith;
            }))
            (is_spent (Some a) h.sent h.front);
      }

  pub sends : (n port : ℕ) (v : View K A) (x : BlockValue) → v.senders ≡ 1 → 0 < v.parts → MeetsIn fits v.about (length v.sent) x → Pushes Kept n port v x (Sent v x)
  sends n port v x may some_part meets items views room h at =
      let mine : FitsIn h.about h.sent h.front v = h.each port v at in
      let w : View K A = record v { sent = v.sent ++ x ∷ [] } in
      let sent : List BlockValue = h.sent ++ x ∷ [] in
      let was : v.sent ≡ h.sent = mine.writer may in
      let about : v.about ≡ h.about = mine.about_is some_part in
      let here : MeetsIn fits h.about (length h.sent) x = subst (λ (k : ℕ). MeetsIn fits h.about k x) (ap length was) (subst (λ (a : Option (K × ℕ × ℕ)). MeetsIn fits a (length v.sent) x) about meets) in (
        w,
        record {
          about = h.about;
          sent = sent;
          front = h.front;
          rest = ap (λ l. l ++ x ∷ []) h.rest ∙ append_assoc h.front items (x ∷ []);
          labels = λ k y e. ⊎_elim (λ t. h.labels k y t)
              (λ (t : (k ≡ length h.sent) × (x ≡ y)). subst (λ (b : BlockValue). MeetsIn fits h.about k b) t.1 (subst (λ (j : ℕ). MeetsIn fits h.about j x) (sym t.0) here))
              (get_snoc h.sent x y k e);
          senders = total-same (λ (u : View K A). u.senders) views port v w at refl ∙ h.senders;
          parts = total-same (λ (u : View K A). u.parts) views port v w at refl ∙ h.parts;
          once = λ p. total-same (λ (u : View K A). times_at (exporter_of h.about) p u.taken) views port v w at refl ∙ h.once p;
          count = total-same (λ (u : View K A). length u.taken) views port v w at refl ∙ h.count;
          each = each_set (FitsIn h.about sent h.front) views port w
              (record {
                about_is = mine.about_is;
                writer = λ _. ap (λ l. l ++ x ∷ []) was;
                reader = λ e. absurd (omega arith);
                took = mine.took;
                idle_taken = mine.idle_taken;
                idle_senders = mine.idle_senders;
              })
              (λ j u apart e. let it = h.each j u e in record {
                about_is = it.about_is;
                writer = λ also. absurd (let two = total-two (λ (y : View K A). y.senders) views port j v u apart at e in let one = h.senders in omega arith);
                reader = it.reader;
                took = it.took;
                idle_taken = it.idle_taken;
                idle_senders = it.idle_senders;
              });
        },
        refl,
      )

  pub takes : (port : ℕ) (v : View K A) → 0 < v.parts → Pops Kept port v (TookIn fits v)
  takes port v some_part x items views h at =
      let mine : FitsIn h.about h.sent h.front v = h.each port v at in
      let m : ℕ = length h.front in
      let front : List BlockValue = h.front ++ x ∷ [] in
      let w : View K A = record v { taken = v.taken ++ x ∷ [] } in
      let long : length front ≡ m + 1 = length-append h.front (x ∷ []) ∙ omega arith in
      let there : slice_get h.sent m ≡ Some x = ap (λ l. slice_get l m) h.rest ∙ get_middle h.front items x in
      let good : MeetsIn fits h.about m x = h.labels m x there in
      let label : x.sent ≡ Some (exporter_of h.about, m) = label_in fits h.about m x good in
      let pos : position_of x ≡ m = ap position_on label in
      let there_too : slice_get h.sent (position_of x) ≡ Some x = ap (slice_get h.sent) pos ∙ there in (
        w,
        record {
          about = h.about;
          sent = h.sent;
          front = front;
          rest = h.rest ∙ sym (append_assoc h.front (x ∷ []) items);
          labels = h.labels;
          senders = total-same (λ (u : View K A). u.senders) views port v w at refl ∙ h.senders;
          parts = total-same (λ (u : View K A). u.parts) views port v w at refl ∙ h.parts;
          once = λ p.
              let t = total-set (λ (u : View K A). times_at (exporter_of h.about) p u.taken) views port v w at in
              let a = times_append (exporter_of h.about) p v.taken (x ∷ []) in
              let o = times_one (exporter_of h.about) p m x label in
              let was = h.once p in
              let e = one_more p m (length front) long in omega arith;
          count =
              let t = total-set (λ (u : View K A). length u.taken) views port v w at in
              let a = length-append v.taken (x ∷ []) in
              let was = h.count in omega arith;
          each = each_set (FitsIn h.about h.sent front) views port w
              (record {
                about_is = mine.about_is;
                writer = mine.writer;
                reader = mine.reader;
                took = stand_more h.front x v.taken pos mine.took;
                idle_taken = λ e. absurd (omega arith);
                idle_senders = mine.idle_senders;
              })
              (λ j u apart e. let it = h.each j u e in record {
                about_is = it.about_is;
                writer = it.writer;
                reader = it.reader;
                took = stand_grown h.front x u.taken it.took;
                idle_taken = it.idle_taken;
                idle_senders = it.idle_senders;
              });
        },
        record {
          after = refl;
          meets = subst (λ (a : Option (K × ℕ × ℕ)). MeetsIn fits a (position_of x) x) (sym (mine.about_is some_part)) (subst (λ (k : ℕ). MeetsIn fits h.about k x) (sym pos) good);
          rises = λ k d low. let lt = slice_get_within h.front _ _ (mine.took k d low) in omega arith;
          own = λ may. ap (λ l. slice_get l (position_of x)) (mine.writer may) ∙ there_too;
        },
      )

  pub learns_nothing : (port : ℕ) (v : View K A) → Learns Kept port v (λ _. Unit {0})
  learns_nothing port v items views h at = tt

  pub settles : (port : ℕ) (v : View K A) → Learns Kept port v (Settled v)
  settles port v items views h at all some_part =
      let mine : FitsIn h.about h.sent h.front v = h.each port v at in
      let about : v.about ≡ h.about = mine.about_is some_part in
      let seats : parts_of v.about ≡ parts_of h.about = ap parts_of about in
      let whole : total (λ (u : View K A). u.parts) views ≡ v.parts = h.parts ∙ (sym seats ∙ sym all) in
      let one : total (λ (u : View K A). u.senders) views ≡ v.senders = total-whole (λ (u : View K A). u.parts) (λ (u : View K A). u.senders) views (λ j u e none. (h.each j u e).idle_senders (omega arith) none) port v at whole in
      let one_sender : v.senders ≡ 1 = sym one ∙ h.senders in
      let lengths : total (λ (u : View K A). length u.taken) views ≡ length v.taken = total-whole (λ (u : View K A). u.parts) (λ (u : View K A). length u.taken) views (λ j u e none. ap length ((h.each j u e).idle_taken none)) port v at whole in
      let count : length v.taken ≡ length h.front = sym lengths ∙ h.count in
      let sent : v.sent ≡ h.front ++ items = mine.writer one_sender ∙ h.rest in record {
        one_sender = one_sender;
        as_sent = λ k d low. let p : ℕ = position_of (get_or v.taken k d) in ap (λ l. slice_get l p) sent ∙ get_longer h.front items p _ (mine.took k d low);
        once = λ p. ap (λ a. times_at (exporter_of a) p v.taken) about
            ∙ (sym (total-whole (λ (u : View K A). u.parts) (λ (u : View K A). times_at (exporter_of h.about) p u.taken) views (λ j u e none. ap (times_at (exporter_of h.about) p) ((h.each j u e).idle_taken none)) port v at whole)
            ∙ (h.once p ∙ ap (λ n. one_if (nat_lt p n)) (sym count)));
        left = let n = ap length sent in let m = length-append h.front items in omega arith;
      }

  pub merges : (port : ℕ) (v : View K A) (other : ℕ) (w : View K A) → 0 < v.parts → 0 < w.parts → Merges Kept port v other w (gathered v w) spent
  merges port v other w a b items views h at two at' =
      let mine : FitsIn h.about h.sent h.front v = h.each port v at in
      let both : View K A = gathered v w in
      let vs : List (View K A) = set views port both in
      let was : get_elem? views other ≡ some w = ⊎_elim (λ t. absurd (two t.0)) (λ t. t.1) (at_set views port other both w at') in
      let theirs : FitsIn h.about h.sent h.front w = h.each other w was in
      record {
        about = h.about;
        sent = h.sent;
        front = h.front;
        rest = h.rest;
        labels = h.labels;
        senders = total-merge (λ (u : View K A). u.senders) views port other v w both spent at at' refl refl ∙ h.senders;
        parts = total-merge (λ (u : View K A). u.parts) views port other v w both spent at at' refl refl ∙ h.parts;
        once = λ p. total-merge (λ (u : View K A). times_at (exporter_of h.about) p u.taken) views port other v w both spent at at' (times_append (exporter_of h.about) p v.taken w.taken) refl ∙ h.once p;
        count = total-merge (λ (u : View K A). length u.taken) views port other v w both spent at at' (length-append v.taken w.taken) refl ∙ h.count;
        each = each_set (FitsIn h.about h.sent h.front) vs other spent (is_spent h.about h.sent h.front)
            (λ j u apart e. each_set (FitsIn h.about h.sent h.front) views port both
            (record {
              about_is = λ _. mine.about_is a;
              writer = λ one. dite (ℕ_discrete v.senders 0)
                  (λ none. ap (λ l. l ++ w.sent) (mine.reader none) ∙ theirs.writer (omega arith))
                  (λ some_sent. ap (λ l. v.sent ++ l) (theirs.reader (omega arith)) ∙ (append-nil v.sent ∙ mine.writer (omega arith)));
              reader = λ none. ap (λ l. l ++ w.sent) (mine.reader (omega arith)) ∙ theirs.reader (omega arith);
              took = All-append (StandsIn h.front) v.taken w.taken mine.took theirs.took;
              idle_taken = λ e. absurd (omega arith);
              idle_senders = λ _ e. absurd (omega arith);
            })
            (λ i y _ e'. h.each i y e') j u e);
      }
