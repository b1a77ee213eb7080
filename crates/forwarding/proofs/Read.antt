-- The places that are read from the words, and what they say of the passes.
use Rattle.std.proofs.Common.{◌≡◌, ℕ, suc, ◌<◌, ◌≤◌, List, [], ◌∷◌, All, map, get_or, length, take, Some, None, sym, ap, ◌∙◌, subst, arith}
use Rattle.std.specs.Prelude.{Option}
use Rattle.std.proofs.lemmas.List.{get_or_past, get_or-take, length-map, length-take-le}
use Rattle.std.proofs.lemmas.List.Elements.{All-nil, All-cons, All-weaker}
use mathlib.Core.Logic.{dite}
use mathlib.Core.Option.{some}
use native.Mathlib.Decide.{ℕ_discrete, dec_le}
use lib.ListN.{get_elem?}
use Rattle.atomic_table.specs.Table.{Seen}
use Rattle.layout.specs.declared.place.Place.{Place}
use Rattle.layout.specs.Place.{pointer_word}
use Rattle.layout.proofs.Pointers.{pointer_word-one_to_one}
use Rattle.model.proofs.Totals.{total-whole}
use Rattle.forwarding.specs.declared.word_cells.plays.Mind.{Mind}
use Rattle.forwarding.specs.declared.word_cells.plays.Plan.{Plan}
use Rattle.forwarding.specs.Settled.{Pairs, wins_of, ones, all_pairs, KnowsOnly, IsSettled}
use Rattle.forwarding.specs.Kept.{set_count, IsShown, IsKeptWords}
use Rattle.forwarding.specs.Known.{known_in}
use Rattle.forwarding.specs.Forwards.{shown_place}
use Rattle.forwarding.proofs.ShownPlace.{shown_at}
use Rattle.forwarding.specs.Words.{WordPassValue}
use Rattle.forwarding.proofs.PairLemmas.{known_all}
use Rattle.forwarding.proofs.Keeps.{St, pointer_at, set_count-pointer}
use Rattle.forwarding.proofs.Gathered.{All-front, All-back}

past : (plan : Plan) (s : St) → IsKeptWords plan s → (name : ℕ) → plan.count ≤ name → get_or s.words name 0 ≡ 0
past plan s r name high = dite (ℕ_discrete name plan.count)
    (λ is. ap (λ (k : ℕ). get_or s.words k 0) is ∙ r.spare)
    (λ ne. let wide = r.wide in get_or_past s.words name 0 (omega arith))

-- the places are those of the words
pub record IsRead (plan : Plan) (words : List ℕ) (places : List (Option Place)) : Type 0 where
  pub many : length places ≡ plan.count
  pub shown : (name : ℕ) → name < plan.count → (o : Option Place) → pointer_word o ≡ get_or words name 0 → get_or places name None ≡ o

-- the first words show the places
pub is_first : (plan : Plan) (words : List ℕ) → plan.count ≤ length words → IsRead plan words (map shown_place (take plan.count words))
is_first plan words wide = record {
  many = length-map (take plan.count words) shown_place ∙ length-take-le plan.count words wide;
  shown = λ name below o shows. shown_at (take plan.count words) name o (omega (arith, below, length-take-le plan.count words wide)) (shows ∙ sym (get_or-take plan.count words name 0 below));
}

reads : (plan : Plan) (s : St) (places : List (Option Place)) → IsKeptWords plan s → IsRead plan s.words places → (name : ℕ) (o : Option Place) → pointer_word o ≡ get_or s.words name 0 → get_or places name None ≡ o
reads plan s places r are name o shows = dite (dec_le (suc name) plan.count) (λ (l : name < plan.count). are.shown name l o shows)
    (λ high. let m = are.many in get_or_past places name None (omega arith) ∙ pointer_word-one_to_one None o (sym (shows ∙ past plan s r name (omega arith))))

-- who has every part has won each word that is set, once
wins_all : (plan : Plan) (s : St) (id : ℕ) (v : Mind) → IsKeptWords plan s → get_elem? s.views id ≡ some v → v.parts ≡ plan.passes → (name : ℕ) → wins_of name v.won ≡ set_count (get_or s.words name 0)
wins_all plan s id v r at parts name =
    let whole = total-whole (λ (u : Mind). u.parts) (λ (u : Mind). wins_of name u.won) s.views (λ i u e z. ap (wins_of name) ((r.sound i u e).spent z)) id v at (r.whole ∙ sym parts) in
    sym whole ∙ r.once name

-- what holds of all known pairs holds of what each pass knows
each_known : (f : ℕ → Option Place) (ps : List WordPassValue) → All (λ (x : ℕ × Place). f x.0 ≡ Some x.1) (all_pairs (λ (p : WordPassValue). p.known) ps) → All (λ (p : WordPassValue). KnowsOnly (known_in p.known) f) ps
each_known f [] a = All-nil (λ (p : WordPassValue). KnowsOnly (known_in p.known) f)
each_known f (p ∷ ps) a =
    let Q : ℕ × Place → Type 0 = λ x. f x.0 ≡ Some x.1 in
    let rest : Pairs = all_pairs (λ (p : WordPassValue). p.known) ps in
    All-cons (λ (p : WordPassValue). KnowsOnly (known_in p.known) f) p ps (λ name q e. known_all Q p.known name q (All-front Q p.known rest a) e) (each_known f ps (All-back Q p.known rest a))

-- the seat that has every part says what the passes are
module _ (plan : Plan) (id : ℕ) (v : Mind) (words : List ℕ) (places : List (Option Place)) (ps : List WordPassValue)
    (final : (s : St) × Seen (IsKeptWords plan) id v s × (s.words ≡ words)) (are : IsRead plan words places) (parts : v.parts ≡ plan.passes)
    (known : v.known ≡ all_pairs (λ (p : WordPassValue). p.known) ps) (won : v.won ≡ all_pairs (λ (p : WordPassValue). p.won) ps) where
  abbrev last : St
  last = final.0

  abbrev f : ℕ → Option Place
  f name = get_or places name None

  shown_by : (name : ℕ) (o : Option Place) → pointer_word o ≡ get_or last.words name 0 → f name ≡ o
  shown_by = reads plan last places final.1.0 (subst (λ (ws : List ℕ). IsRead plan ws places) (sym final.2) are)

  all_shown : (xs : Pairs) → All (IsShown last.words) xs → All (λ (x : ℕ × Place). f x.0 ≡ Some x.1) xs
  all_shown xs each = All-weaker (IsShown last.words) (λ (x : ℕ × Place). f x.0 ≡ Some x.1) (λ x shown. shown_by x.0 (Some x.1) (sym shown)) xs each

  pub settles : IsSettled (λ (p : WordPassValue). known_in p.known) (λ (p : WordPassValue). p.won) ps plan.count f
  settles =
      let sound = final.1.0.sound id v final.1.1 in
      record {
        known_settled = each_known f ps (subst (λ (xs : Pairs). All (λ (x : ℕ × Place). f x.0 ≡ Some x.1) xs) known (all_shown v.known sound.known));
        won_settled = subst (λ (xs : Pairs). All (λ (x : ℕ × Place). f x.0 ≡ Some x.1) xs) won (all_shown v.won sound.won);
        once = λ name. let t = pointer_at plan last final.1.0 name in
            ap (wins_of name) (sym won) ∙ (wins_all plan last id v final.1.0 final.1.1 parts name ∙ (ap set_count (sym t.1) ∙ (set_count-pointer t.0 ∙ ap ones (sym (shown_by name t.0 t.1)))));
        none_past = λ name high. let m = are.many in get_or_past places name None (omega arith);
      }
