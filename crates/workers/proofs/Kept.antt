-- The won lists together are a renaming of the live objects.
use Rattle.std.proofs.Common.{◌≡◌, ◌≢◌, ℕ, ◌+◌, ◌<◌, ◌≤◌, Bool, true, false, not, List, [], ◌∷◌, ◌++◌, Option, Some, None, refl, sym, ap, subst, ◌∙◌, ◌⊎◌, inl, inr, ⊎_elim, arith, nat_eq, nat_le, eq-eqb, ne_eqb, leb-true, true≢false, unwrap_or}
use Rattle.std.proofs.lemmas.Bool.{cases_eq, cond-true, cond-false}
use Rattle.std.specs.Ordering.{nat_cmp}
use Rattle.std.specs.Cmp.{unsigned_tied}
use Rattle.std.specs.FinMap.{find}
use Rattle.std.specs.Option.{option_map_or}
use Rattle.model.specs.Graph.{Graph, Object, object_at, is_large}
use Rattle.model.specs.Reached.{first, later}
use Rattle.model.specs.Live.{Live, IsStart, IsYoung, IsOlder}
use Rattle.model.specs.Destination.{Shape}
use Rattle.model.specs.Collected.{Renaming, IsLiveOrOlder, renamed}
use Rattle.workers.specs.Block.{Block, Copy, has_unscanned}
use Rattle.workers.specs.Setting.{Setting, setting_of, old_field, is_collected, is_large_name}
use Rattle.workers.specs.Worker.{Worker}
use Rattle.workers.specs.Places.{IsPair}
use Rattle.workers.specs.Total.{total, one_if, times, wins_of, ones}
use Rattle.workers.specs.Joined.{Each, OnSome, IsOpening, Part, HasRun, Joined, blocks_of}
use Rattle.workers.specs.Kept.{won_lists, AreFresh, Brought, Kept, IsLeft, IsCopy}
use Rattle.workers.specs.Laid.{Laid}
use Rattle.workers.proofs.Lists.{Each-append, Each-zip, Each-map}
use Rattle.workers.proofs.Totals.{total-append}
use Rattle.workers.proofs.Pointed.{Wholly, HasPlace}
use Rattle.workers.proofs.OnePart.{all_scanned, large_are}
use Rattle.workers.proofs.OwnLive.{OwnLive, BlockLive, ProposalLive, HandLive, run_live}
use Rattle.workers.proofs.Whole.{live_placed, scanned_once, stands_once, all_finished}
use Rattle.workers.proofs.Renamed.{all_laid, block_drawn, copies_placed, zero-Each, one_if-not, won_agrees, won_by_some, placed_collected, large_stays}
use Rattle.workers.proofs.OneToOne.{IsDrawnPlace, one_to_one, small_drawn, numbers_once}

pub total-won : (g : ℕ × ℕ → ℕ) (ps : List Part) → total g (won_lists ps) ≡ total (λ (p : Part). total g p.final.won) ps
total-won g [] = refl
total-won g (p ∷ ps) =
    let a : total g (p.final.won ++ won_lists ps) ≡ total g p.final.won + total g (won_lists ps) = total-append g p.final.won (won_lists ps) in
    let b : total g (won_lists ps) ≡ total (λ (q : Part). total g q.final.won) ps = total-won g ps in
    omega arith

pub Each-won : (P : ℕ × ℕ → Type 0) (ps : List Part) → Each (λ (p : Part). Each P p.final.won) ps → Each P (won_lists ps)
Each-won P [] h = tt
Each-won P (p ∷ ps) h = Each-append P p.final.won (won_lists ps) h.0 (Each-won P ps h.1)

find-won : (f : ℕ → Option ℕ) (name : ℕ) (xs : List (ℕ × ℕ)) → Each (IsPair f) xs → wins_of name xs ≡ ones (f name) → find nat_cmp name xs ≡ f name
find-won f name [] h e = go (f name) e
  where
    go : (o : Option ℕ) → 0 ≡ ones o → None ≡ o
    go None e = refl
    go (Some x) e = absurd (omega arith)
find-won f name (q ∷ xs) h e =
    ⊎_elim
    (λ (s : name ≡ q.0). cond-true _ _ _ (unsigned_tied name q.0 ∙ eq-eqb name q.0 s) ∙ sym h.0 ∙ ap f (sym s))
    (λ (n : name ≢ q.0).
    let z : one_if (nat_eq q.0 name) ≡ 0 = ap one_if (ne_eqb q.0 name (λ s. n (sym s))) in
    cond-false _ _ _ (unsigned_tied name q.0 ∙ ne_eqb name q.0 n) ∙ find-won f name xs h.1 (omega arith))
    (cases_eq name q.0)

module _ (graph : Graph) (g : ℕ) (shape : Shape) (block_words workers : ℕ) where
  abbrev setting : Setting
  setting = setting_of graph g shape block_words workers

  pub collected-young : (name : ℕ) → is_collected setting name ≡ true → IsYoung graph g name
  collected-young name y = go (object_at graph name) refl y
    where
      go : (o : Option Object) → object_at graph name ≡ o → option_map_or (λ (x : Object). nat_le x.generation g) o false ≡ true → IsYoung graph g name
      go None e y = absurd (true≢false (sym y))
      go (Some o) e y = record { object = o; there = e; young = leb-true _ _ y }

  pub young-not_older : (name : ℕ) → IsYoung graph g name → IsOlder graph g name → ⊥
  young-not_older name y o =
      let s : Some y.object ≡ Some o.object = sym y.there ∙ o.there in
      let q : y.object.generation ≡ o.object.generation = (let r : y.object ≡ o.object = cc in ap (λ (x : Object). x.generation) r) in
      let a : y.object.generation ≤ g = y.young in
      let b : g < o.object.generation = o.older in
      absurd (omega arith)

  pub keep : (name i target : ℕ) → IsLiveOrOlder graph g name → old_field setting name i ≡ Some (Some target) → is_collected setting target ≡ true → IsLiveOrOlder graph g target
  keep name i target (inl l) e y = inl (later l (record { i = i; leads = e; young = collected-young target y }))
  keep name i target (inr o) e y = inl (first (collected-young target y, inr (name, (i, record { holder = o; leads = e }))))

  pub opening_live : (w : Worker) → IsOpening w → Each (IsLiveOrOlder graph g) w.starts → OwnLive (IsLiveOrOlder graph g) w
  opening_live w o s =
      record {
        starts = s;
        proposal = subst (OnSome (ProposalLive (IsLiveOrOlder graph g))) (sym o.no_proposal) tt;
        hand = subst (HandLive (IsLiveOrOlder graph g)) (sym o.no_hand) tt;
        allocation = Each-map (λ b. b ≡ None) (OnSome (BlockLive (IsLiveOrOlder graph g))) (λ b e. subst (OnSome (BlockLive (IsLiveOrOlder graph g))) (sym e) tt) w.allocation o.no_allocation;
        aside = subst (Each (BlockLive (IsLiveOrOlder graph g))) (sym o.no_aside) tt;
        done = subst (Each (BlockLive (IsLiveOrOlder graph g))) (sym o.no_done) tt;
        large = subst (Each (IsLiveOrOlder graph g)) (sym o.no_large) tt;
        large_done = subst (Each (IsLiveOrOlder graph g)) (sym o.no_large_done) tt;
        won = subst (Each (λ (q : ℕ × ℕ). IsLiveOrOlder graph g q.0)) (sym o.no_won) tt;
      }

  module _ (f : ℕ → Option ℕ) (parts : List Part) (j : Joined setting f parts)
      (starts : (target : ℕ) → IsStart graph g target → 0 < total (λ (p : Part). times target p.start.starts) parts)
      (only_starts : Each (λ (p : Part). Each (IsLiveOrOlder graph g) p.start.starts) parts)
      (taken_live : Each (λ (p : Part). Each (BlockLive (IsLiveOrOlder graph g)) p.history.taken) parts) where
    won_live : Each (λ (p : Part). Each (λ (q : ℕ × ℕ). IsLiveOrOlder graph g q.0) p.final.won) parts
    won_live =
        Each-map (λ (p : Part). (HasRun setting p × Each (IsLiveOrOlder graph g) p.start.starts) × Each (BlockLive (IsLiveOrOlder graph g)) p.history.taken) _
        (λ p h. (let o : OwnLive (IsLiveOrOlder graph g) p.final = run_live (IsLiveOrOlder graph g) setting keep h.0.0.run h.1 (opening_live p.start h.0.0.opening h.0.1) in o.won))
        parts (Each-zip (λ (p : Part). HasRun setting p × Each (IsLiveOrOlder graph g) p.start.starts) (λ (p : Part). Each (BlockLive (IsLiveOrOlder graph g)) p.history.taken) parts (Each-zip (HasRun setting) (λ (p : Part). Each (IsLiveOrOlder graph g) p.start.starts) parts j.runs only_starts) taken_live)

    -- a name with a place is live
    pub placed_live : (name : ℕ) → HasPlace f name → Live graph g name
    placed_live name h =
        let q = won_by_some setting f parts j (λ (q : ℕ × ℕ). IsLiveOrOlder graph g q.0) won_live name h.0 h.1 in
        let l : IsLiveOrOlder graph g name = subst (IsLiveOrOlder graph g) q.1.0 q.1.1.1 in
        ⊎_elim (λ (x : Live graph g name). x) (λ o. absurd (young-not_older name (collected-young name (placed_collected setting f parts j name h)) o)) l

    -- the won lists know each place
    pub found : (name : ℕ) → find nat_cmp name (won_lists parts) ≡ f name
    found name =
        find-won f name (won_lists parts) (Each-won (IsPair f) parts (won_agrees setting f parts j))
        (total-won (λ (q : ℕ × ℕ). one_if (nat_eq q.0 name)) parts ∙ j.won_once name)

    module _ (small_blocks : block_words ≤ 65536) (fresh : AreFresh setting parts) where
      abbrev Now : ℕ → Type 0
      Now name = (Live graph g name × ((place : ℕ) × (f name ≡ Some place))) ⊎ IsOlder graph g name

      live-now : (name : ℕ) → IsLiveOrOlder graph g name → Now name
      live-now name (inl l) = inl (l, live_placed graph g shape block_words workers f parts j starts name l)
      live-now name (inr o) = inr o

      to_place : (name place : ℕ) → f name ≡ Some place → renamed (won_lists parts) name ≡ place
      to_place name place e = ap (λ x. unwrap_or x name) (found name ∙ e)

      stays : (name : ℕ) → IsOlder graph g name → renamed (won_lists parts) name ≡ name
      stays name o = ap (λ x. unwrap_or x name) (found name) ∙ go (f name) refl
        where
          go : (x : Option ℕ) → f name ≡ x → unwrap_or x name ≡ name
          go None e = refl
          go (Some p) e = absurd (young-not_older name (collected-young name (placed_collected setting f parts j name (p, e))) o)

      older-apart : (a b place : ℕ) → f a ≡ Some place → IsOlder graph g b → place ≡ b → a ≡ b
      older-apart a b place e o s = go (is_large_name setting a) refl
        where
          go : (x : Bool) → is_large_name setting a ≡ x → a ≡ b
          go true l = sym (large_stays setting f parts j a place e l) ∙ s
          go false l =
              let d : IsDrawnPlace parts place = small_drawn setting f parts j small_blocks fresh a place e l in
              let n : None ≡ Some o.object = sym (fresh d.number d.offset d.drawn d.within) ∙ ap (object_at graph) (sym d.is ∙ s) ∙ o.there in
              absurd (cc)

      -- what commit asks for
      pub renaming : Renaming block_words graph g (won_lists parts)
      renaming =
          record {
            only_live = λ name place e. placed_live name (place, sym (found name) ∙ e);
            all_live = λ name l. (let p = live_placed graph g shape block_words workers f parts j starts name l in (p.0, found name ∙ p.1));
            one_to_one = λ a b ka kb e. apart a b (live-now a ka) (live-now b kb) e;
            large_stays = λ name o l t big. (
                let p = live_placed graph g shape block_words workers f parts j starts name l in
                to_place name p.0 p.1 ∙ large_stays setting f parts j name p.0 p.1 (ap (λ x. option_map_or (is_large block_words) x false) t ∙ big));
          }
        where
          apart : (a b : ℕ) → Now a → Now b → renamed (won_lists parts) a ≡ renamed (won_lists parts) b → a ≡ b
          apart a b (inl x) (inl y) e =
              one_to_one setting f parts j small_blocks fresh a b x.1.0 x.1.1 (y.1.1 ∙ ap Some (sym (to_place b y.1.0 y.1.1) ∙ sym e ∙ to_place a x.1.0 x.1.1))
          apart a b (inl x) (inr o) e = older-apart a b x.1.0 x.1.1 o (sym (to_place a x.1.0 x.1.1) ∙ e ∙ stays b o)
          apart a b (inr o) (inl y) e = sym (older-apart b a y.1.0 y.1.1 o (sym (to_place b y.1.0 y.1.1) ∙ sym e ∙ stays a o))
          apart a b (inr o) (inr p) e = sym (stays a o) ∙ e ∙ stays b p

-- parts that were brought together so leave what they should
pub kept : (graph : Graph) (g : ℕ) (shape : Shape) (block_words workers : ℕ) (f : ℕ → Option ℕ) (parts : List Part) → Brought graph g shape block_words workers f parts → Kept graph g shape block_words workers f parts
kept graph g shape block_words workers f parts b =
    record {
      renaming = renaming graph g shape block_words workers f parts b.joined b.starts b.only_starts b.taken_live b.small_blocks b.fresh;
      places = found graph g shape block_words workers f parts b.joined b.starts b.only_starts b.taken_live;
      won_once = λ name. total-won (λ (q : ℕ × ℕ). one_if (nat_eq q.0 name)) parts ∙ b.joined.won_once name;
      scanned_once = λ place. scanned_once s f parts b.joined (λ x. one_if (nat_eq x place)) ∙ sym (total-won (λ (q : ℕ × ℕ). one_if (nat_eq q.1 place)) parts);
      stands_once = stands_once s f parts b.joined;
      large = Each-map (HasRun s) _ (λ p r. Each-map (λ n. one_if (not (is_large_name s n)) ≡ 0) (λ n. is_large_name s n ≡ true) (λ n e. one_if-not _ e) p.final.large_done (zero-Each (λ n. one_if (not (is_large_name s n))) p.final.large_done (large_are s p r))) parts b.joined.runs;
      blocks = blocks;
      one_block = numbers_once s f parts b.joined b.small_blocks b.fresh;
    }
  where
    s : Setting
    s = setting_of graph g shape block_words workers

    blocks : Each (λ (p : Part). Each (IsLeft (setting_of graph g shape block_words workers) f parts) (blocks_of p.final)) parts
    blocks =
        let t : Setting = setting_of graph g shape block_words workers in
        zip4 (HasRun t) (λ p. Each (Laid t) (blocks_of p.final)) (λ p. Each (λ (x : Block). Each (λ (c : Copy). Wholly t f c.name c.pointers) x.copies) (blocks_of p.final)) (λ p. Each (λ (x : Block). Each (λ (c : Copy). f c.name ≡ Some c.place) x.copies) (blocks_of p.final)) (λ p. Each (λ (x : Block). 0 < total (λ (q : Part). times x.number q.history.drawn) parts) (blocks_of p.final)) (λ p. Each (IsLeft t f parts) (blocks_of p.final))
        (λ p r l w c d. zip4 (λ x. has_unscanned x ≡ false) (Laid t) (λ x. Each (λ (y : Copy). Wholly t f y.name y.pointers) x.copies) (λ x. Each (λ (y : Copy). f y.name ≡ Some y.place) x.copies) (λ x. 0 < total (λ (q : Part). times x.number q.history.drawn) parts) (IsLeft t f parts)
        (λ x u v m n k. record { scanned = u; laid = v; copies = Each-map (λ (y : Copy). Wholly t f y.name y.pointers × (f y.name ≡ Some y.place)) (IsCopy t f) (λ y z. record { place = z.1; pointers = z.0.new }) x.copies (Each-zip (λ (y : Copy). Wholly t f y.name y.pointers) (λ (y : Copy). f y.name ≡ Some y.place) x.copies m n); drawn = k })
        (blocks_of p.final) (all_scanned t p r) l w c d)
        parts b.joined.runs (all_laid t f parts b.joined) (all_finished t f parts b.joined) (copies_placed t f parts b.joined) (block_drawn t f parts b.joined)
      where
        zip4 : {A : Type 0} (P Q R S T U : A → Type 0) → ((x : A) → P x → Q x → R x → S x → T x → U x) → (xs : List A) → Each P xs → Each Q xs → Each R xs → Each S xs → Each T xs → Each U xs
        zip4 P Q R S T U k [] a b c d e = tt
        zip4 P Q R S T U k (x ∷ xs) a b c d e = (k x a.0 b.0 c.0 d.0 e.0, zip4 P Q R S T U k xs a.1 b.1 c.1 d.1 e.1)
