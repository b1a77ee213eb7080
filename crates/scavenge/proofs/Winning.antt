-- A race is won: the last object of a block is noted as a copy.
use Rattle.std.proofs.Common.{◌≡◌, ◌≢◌, ℕ, suc, ◌+◌, ◌<◌, List, [], ◌∷◌, ◌++◌, length, map, take, Option, Some, None, refl, sym, ap, subst, ◌∙◌, ⊎_elim, arith, length-append}
use Rattle.std.proofs.lemmas.Bool.{cases_eq}
use Rattle.std.proofs.lemmas.List.Sums.{sum_by-cons}
use Rattle.std.proofs.lemmas.List.{map-append}
use Rattle.std.proofs.lemmas.List.Elements.{All-push}
use Rattle.std.specs.Prelude.{All, slice_get, slice_index}
use Rattle.std.specs.Option.{option_and_then}
use Rattle.model.specs.Destination.{Shape}
use Rattle.layout.specs.declared.place.Place.{Place}
use Rattle.layout.specs.Object.{Raw, raw_size}
use Rattle.layout.specs.Place.{place_word, small_word}
use Rattle.block_pool.specs.BlockValue.{BlockValue, offset_of}
use Rattle.steps.specs.Words.{target_of_word}
use Rattle.steps.specs.declared.heap_values.report.Won.{Won}
use Rattle.steps.specs.Packed.{packed_word}
use Rattle.steps.specs.ReportValue.{renaming_of}
use Rattle.steps.specs.ReportView.{won_value}
use Rattle.workers.specs.Block.{Block, Copy, updated, with_copy}
use Rattle.workers.specs.Worker.{Worker, Proposal, Copied, Claimed, Hand, Nothing, Open, Holding, HoldingLarge, allocation_at}
use Rattle.workers.specs.WorkerSteps.{finish_slot, race_of}
use Rattle.workers.proofs.Lists.{at-updated_same, at-updated_other, get-append, get-lt}
use Rattle.scavenge.specs.Named.{named, named_copies, named_copy}
use Rattle.scavenge.specs.declared.workspace.proposed.Proposed.{Proposed}
use Rattle.workers.specs.Ready.{HasField, CanWrite, CanFinish}
use Rattle.scavenge.specs.Shown.{WorkspaceValue, IsNoted, AreNoted, proposal_of, proposal_at, IsBid, name_of}
use Rattle.scavenge.proofs.Fields.{Last, last_there, over, raced}

-- the proposal is this one
abbrev pub IsFor : Proposal → Place → Place → Option ℕ → Type 0
IsFor (Copied copy d) name place to = (copy.name ≡ place_word name) × (copy.place ≡ place_word place) × (to ≡ Some d)
IsFor (Claimed n) name place to = (n ≡ place_word name) × (to ≡ None)

abbrev pub IsProposed : Option Proposal → Proposed → Type 0
IsProposed None p = ⊥
IsProposed (Some q) p = IsFor q p.name p.place p.destination

named_push : (number offset : ℕ) (origins : List ℕ) (raws : List Raw) (o : ℕ) (raw : Raw) → length raws ≡ length origins + 1 → slice_get raws (length origins) ≡ Some raw
    → named_copies number offset (origins ++ o ∷ []) raws ≡ named_copies number offset origins raws ++ named_copy number (offset + offset_of raws (length origins)) o raw ∷ []
named_push number offset [] [] o raw l e = absurd (omega arith)
named_push number offset [] (r ∷ raws) o raw l e =
    let q : r ≡ raw = cc in
    let n : offset ≡ offset + 0 = omega arith in
    ap (λ x. named_copy number offset o x ∷ []) q ∙ ap (λ k. named_copy number k o raw ∷ []) n
named_push number offset (x ∷ origins) [] o raw l e = absurd (omega arith)
named_push number offset (x ∷ origins) (r ∷ raws) o raw l e =
    let s : offset_of (r ∷ raws) (suc (length origins)) ≡ raw_size r + offset_of raws (length origins) = sum_by-cons raw_size r (take (length origins) raws) in
    let n : (offset + raw_size r) + offset_of raws (length origins) ≡ offset + offset_of (r ∷ raws) (suc (length origins)) = omega arith in
    ap (λ cs. named_copy number offset x r ∷ cs) (named_push number (offset + raw_size r) origins raws o raw (omega arith) e)
    ∙ ap (λ k. named_copy number offset x r ∷ (named_copies number (offset + raw_size r) origins raws ++ named_copy number k o raw ∷ [])) n

-- the block with one more origin noted
abbrev pub noted : BlockValue → ℕ → BlockValue
noted b o = record b { origins = b.origins ++ o ∷ [] }

-- the copy that is proposed
abbrev pub copy_of : Proposed → Raw → Copy
copy_of p raw = record { name = place_word p.name; place = place_word p.place; pointers = map target_of_word raw.pointers; plain = raw.plain }

pub named_noted : (shape : Shape) (slots : List (Option BlockValue)) (p : Proposed) (d : ℕ) (t : Last slots p d) → named shape (noted t.block (place_word p.name)) ≡ with_copy (copy_of p t.raw) (named shape t.block)
named_noted shape slots p d t =
    let n : 0 + offset_of t.block.objects (length t.block.origins) ≡ offset_of t.block.objects (length t.block.origins) = omega arith in
    let w : small_word t.block.number (0 + offset_of t.block.objects (length t.block.origins)) ≡ place_word p.place = ap (small_word t.block.number) n ∙ sym t.place_is in
    ap (λ cs. (let x : Block = record (named shape t.block) { copies = cs } in x))
    (named_push t.block.number 0 t.block.origins t.block.objects (place_word p.name) t.raw t.noted.count t.last
    ∙ ap (λ q. named_copies t.block.number 0 t.block.origins t.block.objects ++ (let y : Copy = record { name = place_word p.name; place = q; pointers = map target_of_word t.raw.pointers; plain = t.raw.plain } in y) ∷ []) w)

pub noted_whole : (b : BlockValue) (o : ℕ) → IsNoted 1 b → IsNoted 0 (noted b o)
noted_whole b o n =
    let l : length (b.origins ++ o ∷ []) ≡ length b.origins + 1 = length-append b.origins (o ∷ []) in
    record { count = omega (arith, n.count); front = omega (arith, n.front) }

-- the slot may still be finished where a copy was added
more_field : (i : ℕ) (copy : Copy) (o : Option Block) → HasField i o → HasField i (option_and_then (λ b. Some (with_copy copy b)) o)
more_field i copy None h = h
more_field i copy (Some b) h = (h.0, get-append b.copies (copy ∷ []) b.front (get-lt b.copies b.front h.0 h.1) ∙ h.1, h.2)

can_win : (w : Worker) (copy : Copy) (d : ℕ) (won : List (ℕ × ℕ)) → CanFinish w w.starts → CanFinish (record w { proposal = None; allocation = updated (λ b. option_and_then (λ x. Some (with_copy copy x)) b) w.allocation d; won = won }) w.starts
can_win w copy d won h = on_starts w.starts h
  where
    w' : Worker
    w' = record w { proposal = None; allocation = updated (λ b. option_and_then (λ x. Some (with_copy copy x)) b) w.allocation d; won = won }

    on_hand : (hand : Hand) → CanWrite w hand → CanWrite (record w { proposal = None; allocation = updated (λ b. option_and_then (λ x. Some (with_copy copy x)) b) w.allocation d; won = won }) hand
    on_hand Nothing k = k
    on_hand (Open e) k =
        ⊎_elim
        (λ (q : e ≡ d). subst (HasField w.fields) (sym (ap (λ z. option_and_then (λ b. b) (slice_get (updated (λ b. option_and_then (λ x. Some (with_copy copy x)) b) w.allocation d) z)) q ∙ at-updated_same (with_copy copy) w.allocation d))
        (more_field w.fields copy (allocation_at w d) (subst (λ z. HasField w.fields (allocation_at w z)) q k)))
        (λ (ne : e ≢ d). subst (HasField w.fields) (sym (at-updated_other (with_copy copy) w.allocation d e ne)) k)
        (cases_eq e d)
    on_hand (Holding b) k = k
    on_hand (HoldingLarge n) k = k

    on_starts : (xs : List ℕ) → CanFinish w xs → CanFinish (record w { proposal = None; allocation = updated (λ b. option_and_then (λ x. Some (with_copy copy x)) b) w.allocation d; won = won }) xs
    on_starts [] k = on_hand w.hand k
    on_starts (x ∷ xs) k = k

pub can_win_of : {V N : WorkspaceValue} → V ≡ N → (a : List (Option Block)) (copy : Copy) (d : ℕ) (large : List ℕ) (won : List (ℕ × ℕ)) → large ≡ V.worker.large → a ≡ updated (λ b. option_and_then (λ x. Some (with_copy copy x)) b) V.worker.allocation d → CanFinish N.worker N.worker.starts
    → CanFinish (record V.worker { proposal = None; allocation = a; large = large; won = won }) V.worker.starts
can_win_of {V = V} same a copy d large won le e h =
    subst (λ x. CanFinish (record V.worker { proposal = None; allocation = a; large = x; won = won }) V.worker.starts) (sym le)
    (subst (λ x. CanFinish (record V.worker { proposal = None; allocation = x; won = won }) V.worker.starts) (sym e) (can_win V.worker copy d won (subst (λ (v : WorkspaceValue). CanFinish v.worker v.worker.starts) (sym same) h)))

pub won_copy : {V N : WorkspaceValue} → V ≡ N → (a : List (Option Block)) (large : List ℕ) (won : List (ℕ × ℕ)) (copy : Copy) (d : ℕ) → a ≡ updated (λ b. option_and_then (λ x. Some (with_copy copy x)) b) V.worker.allocation d
    → large ≡ V.worker.large → won ≡ V.worker.won ++ (copy.name, copy.place) ∷ [] → V.worker.proposal ≡ Some (Copied copy d)
    → over V (finish_slot (Some copy.place) (record V.worker { proposal = None; allocation = a; large = large; won = won })) ≡ raced None N
won_copy {V = V} same a large won copy d ae le we e =
    ap (λ z. over V (finish_slot (Some copy.place) (record V.worker { proposal = None; allocation = z; large = large; won = won }))) ae
    ∙ ap (λ z. over V (finish_slot (Some copy.place) (record V.worker { proposal = None; allocation = updated (λ b. option_and_then (λ y. Some (with_copy copy y)) b) V.worker.allocation d; large = z; won = won }))) le
    ∙ ap (λ z. over V (finish_slot (Some copy.place) (record V.worker { proposal = None; allocation = updated (λ b. option_and_then (λ y. Some (with_copy copy y)) b) V.worker.allocation d; won = z }))) we
    ∙ ap (over V) (sym (ap (λ o. race_of V.worker o None) e))
    ∙ ap (raced None) same

pub won_large : {V N : WorkspaceValue} → V ≡ N → (large : List ℕ) (won : List (ℕ × ℕ)) (name : ℕ) → large ≡ V.worker.large ++ name ∷ [] → won ≡ V.worker.won ++ (name, name) ∷ [] → V.worker.proposal ≡ Some (Claimed name)
    → over V (finish_slot (Some name) (record V.worker { proposal = None; large = large; won = won })) ≡ raced None N
won_large {V = V} same large won name le we e =
    ap (λ z. over V (finish_slot (Some name) (record V.worker { proposal = None; large = z; won = won }))) le
    ∙ ap (λ z. over V (finish_slot (Some name) (record V.worker { proposal = None; large = V.worker.large ++ name ∷ []; won = z }))) we
    ∙ ap (over V) (sym (ap (λ o. race_of V.worker o None) e))
    ∙ ap (raced None) same

-- what a copy is raced for with, and a large object
pub bid_copy : (o : Option Proposal) (claim : Place) (p : Proposed) (d : ℕ) → p.destination ≡ Some d → IsProposed o p → IsBid claim o p.place
bid_copy None claim p d k h = absurd h
bid_copy (Some (Copied copy e)) claim p d k h = sym h.1
bid_copy (Some (Claimed n)) claim p d k h = absurd (let q : Some d ≡ None = sym k ∙ h.1 in cc)

pub bid_large : (o : Option Proposal) (claim bid : Place) (p : Proposed) → p.destination ≡ None → IsProposed o p → bid ≡ claim → IsBid claim o bid
bid_large None claim bid p k h e = absurd h
bid_large (Some (Copied copy d)) claim bid p k h e = absurd (let q : Some d ≡ None = sym h.2 ∙ k in cc)
bid_large (Some (Claimed n)) claim bid p k h e = e

-- what is proposed is shown
pub shown_of : {V N : WorkspaceValue} → V ≡ N → (slots : List (Option BlockValue)) (aside done : List BlockValue) (held : Option BlockValue) (o : Option Proposed) (p : Proposed) → V.worker.proposal ≡ proposal_of slots o → o ≡ Some p → AreNoted slots aside done held o → IsProposed N.worker.proposal p
shown_of {V = V} same slots aside done held o p e is n =
    subst (λ (v : WorkspaceValue). IsProposed v.worker.proposal p) same (subst (λ q. IsProposed q p) (sym (e ∙ ap (proposal_of slots) is)) (go p.destination refl))
  where
    m : AreNoted slots aside done held (Some p)
    m = subst (AreNoted slots aside done held) is n

    go : (to : Option ℕ) → p.destination ≡ to → IsProposed (proposal_of slots (Some p)) p
    go None k = subst (λ q. IsProposed q p) (sym (ap (proposal_at slots p) k)) (refl, k)
    go (Some d) k = let t : Last slots p d = last_there slots aside done held p d k m in subst (λ q. IsProposed q p) (sym t.shown) (refl, refl, k)

pub name_shown : (q : Option Proposal) (p : Proposed) → IsProposed q p → name_of q ≡ place_word p.name
name_shown None p h = absurd h
name_shown (Some (Copied copy d)) p h = h.0
name_shown (Some (Claimed n)) p h = h.0

-- the proposed object's name is the one with that number
pub named_of : {V N : WorkspaceValue} → V ≡ N → (number : ℕ) (p : Proposed) (slots : List (Option BlockValue)) (aside done : List BlockValue) (held : Option BlockValue) (o : Option Proposed) → V.worker.proposal ≡ proposal_of slots o → o ≡ Some p → AreNoted slots aside done held o
    → slice_index N.names number ≡ name_of N.worker.proposal → slice_index V.names number ≡ place_word p.name
named_of same number p slots aside done held o e is n k =
    ap (λ (v : WorkspaceValue). slice_index v.names number) same ∙ k ∙ name_shown _ p (shown_of same slots aside done held o p e is n)

pub names_of : {V N : WorkspaceValue} {number : ℕ} → V ≡ N → number < length N.names → number < length V.names
names_of {number = number} same k = subst (λ (v : WorkspaceValue). number < length v.names) (sym same) k

-- one more object is won
pub numbers_more : (names : List ℕ) (ws : List Won) {ws' : List Won} (w : Won) → All (λ e. e.0 < length names) (map won_value ws) → w.number < length names → ws' ≡ ws ++ w ∷ [] → All (λ e. e.0 < length names) (map won_value ws')
numbers_more names ws w below lt e =
    let all : All (λ (e : ℕ × ℕ). e.0 < length names) (map won_value ws ++ won_value w ∷ []) = All-push (λ (e : ℕ × ℕ). e.0 < length names) (map won_value ws) (won_value w) below lt in
    subst (All (λ (e : ℕ × ℕ). e.0 < length names)) (sym (ap (map won_value) e ∙ map-append won_value ws (w ∷ []))) all

pub won_more : (names : List ℕ) (ws ws' : List Won) (w : Won) (name place : ℕ) → ws' ≡ ws ++ w ∷ [] → slice_index names w.number ≡ name → packed_word w.place ≡ place
    → renaming_of names (map won_value ws') ≡ renaming_of names (map won_value ws) ++ (name, place) ∷ []
won_more names ws ws' w name place e is at =
    ap (renaming_of names) (ap (map won_value) e ∙ map-append won_value ws (w ∷ []))
    ∙ map-append (λ (e : ℕ × ℕ). (slice_index names e.0, e.1)) (map won_value ws) (won_value w ∷ [])
    ∙ ap (λ n. renaming_of names (map won_value ws) ++ (n, packed_word w.place) ∷ []) is
    ∙ ap (λ p. renaming_of names (map won_value ws) ++ (name, p) ∷ []) at
