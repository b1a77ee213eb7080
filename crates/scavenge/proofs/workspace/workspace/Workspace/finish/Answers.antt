use Rattle.std.proofs.Common.{◌≡◌, ℕ, ◌+◌, List, [], drop, Option, Some, None, refl, sym, ap, subst, ◌∙◌, arith}
use Rattle.std.specs.Option.{option_map, option_and_then}
use Rattle.layout.specs.declared.place.Place.{Place}
use Rattle.layout.specs.Place.{place_word}
use Rattle.block_pool.specs.BlockValue.{BlockValue}
use Rattle.steps.specs.Words.{target_of_word}
use Rattle.workers.specs.Block.{Block, updated, with_field}
use Rattle.workers.specs.Worker.{Worker, Proposal, Hand, Open, Holding, allocation_at}
use Rattle.scavenge.specs.Named.{named}
use Rattle.workers.specs.Ready.{HasField, CanWrite, CanFinish}
use Rattle.scavenge.specs.Shown.{WorkspaceValue, proposal_of, hand_of, words_of, slots_of, AreNoted, IsNoted, held_in}
use Rattle.workers.specs.Joined.{OnSome}
use Rattle.scavenge.proofs.Fields.{Drops, drops, all_left, finish_start, finish_open, finished, held_finished, value_written, Ready, open_ready, Behind, behind, written, named_written, noted_written, slots_written, slots_noted, no_proposal}
use Rattle.scavenge.proofs.workspace.workspace.Workspace.finish.Goals as goal
use Rattle.scavenge.proofs.Made.{table_made}
use Rattle.scavenge.specs.Shown.{IsMade}

pub returns-then-self-len : goal.returns-then-self-len
returns-then-self-len g c =
    let d : Drops (words_of c.self.inside.starts.items) c.self.inside.started = drops place_word c.self.inside.starts.items c.self.inside.started (omega (arith, c.if-self-len.true, c.len.ensures)) in
    ap (λ (w : Worker). (let x : WorkspaceValue = record { config = c.self.inside.config; claim = c.self.inside.claim; spare = c.self.inside.spare; won_room = c.self.inside.won_room; block_room = c.self.inside.block_room; names = c.self.inside.names.numbers; worker = w } in x)) (sym (finish_start _ (option_map place_word c.args.value) d.first _ d.is))
    ∙ ap (finished c.args.value) c.self.view_is

open_write : (v : WorkspaceValue) (d : ℕ) → CanFinish v.worker v.worker.starts → v.worker.starts ≡ [] → v.worker.hand ≡ Open d → HasField v.worker.fields (allocation_at v.worker d)
open_write v d h e k = subst (CanWrite v.worker) k (subst (CanFinish v.worker) e h)

held_write : (v : WorkspaceValue) (block : Block) → CanFinish v.worker v.worker.starts → v.worker.starts ≡ [] → v.worker.hand ≡ Holding block → HasField v.worker.fields (Some block)
held_write v block h e k = subst (CanWrite v.worker) k (subst (CanFinish v.worker) e h)

-- the whole workspace after a pointer was written
open_finished : {V N : WorkspaceValue} (value : Option Place) (d : ℕ) → V ≡ N → (p : Option Proposal) (h : Hand) (a : List (Option Block)) → p ≡ V.worker.proposal → h ≡ V.worker.hand
    → a ≡ updated (λ b. option_and_then (λ block. Some (with_field V.worker.fields (option_map place_word value) block)) b) V.worker.allocation d → V.worker.starts ≡ [] → V.worker.hand ≡ Open d
    → (let x : WorkspaceValue = record V { worker = record V.worker { fields = V.worker.fields + 1; proposal = p; hand = h; allocation = a } } in x) ≡ finished value N
open_finished {V = V} value d same p h a pe he ae e k =
    ap (λ q. (let x : WorkspaceValue = record V { worker = record V.worker { fields = V.worker.fields + 1; proposal = q; hand = h; allocation = a } } in x)) pe
    ∙ ap (λ z. (let x : WorkspaceValue = record V { worker = record V.worker { fields = V.worker.fields + 1; hand = z; allocation = a } } in x)) he
    ∙ ap (λ z. (let x : WorkspaceValue = record V { worker = record V.worker { fields = V.worker.fields + 1; allocation = z } } in x)) ae
    ∙ ap (λ (w : Worker). (let x : WorkspaceValue = record V { worker = w } in x)) (sym (finish_open V.worker (option_map place_word value) d e k))
    ∙ ap (finished value) same

pub invariant_of-self-in-Open-1 : goal.invariant_of-self-in-Open-1
invariant_of-self-in-Open-1 g c =
    let starts : drop c.self.inside.started (words_of c.self.inside.starts.items) ≡ [] = all_left place_word c.self.inside.starts.items c.self.inside.started (omega (arith, c.if-self-len.false, c.len.ensures)) in
    let field = open_write c.args.self.now c.in-Open.d c.requires.slot (ap (λ (v : WorkspaceValue). v.worker.starts) (sym c.self.view_is) ∙ starts) (ap (λ (v : WorkspaceValue). v.worker.hand) (sym c.self.view_is) ∙ ap (hand_of c.self.inside.config.shape) c.in-Open.is) in
    let r : Ready c.self.inside.allocation c.in-Open.d c.self.inside.fields = open_ready c.self.inside.config.shape c.self.inside.allocation c.in-Open.d c.self.inside.fields (subst (λ (v : WorkspaceValue). HasField v.worker.fields (allocation_at v.worker c.in-Open.d)) (sym c.self.view_is) field) in
    let none : c.self.inside.proposed ≡ None = no_proposal c.self.inside.allocation c.self.inside.aside.items c.self.inside.done.items (held_in c.self.inside.hand) c.self.inside.proposed c.self.invariant.0 (ap (λ (v : WorkspaceValue). v.worker.proposal) c.self.view_is ∙ c.requires.proposal) in
    let n : AreNoted c.self.inside.allocation c.self.inside.aside.items c.self.inside.done.items None None = subst (AreNoted c.self.inside.allocation c.self.inside.aside.items c.self.inside.done.items None) none (subst (λ h. AreNoted c.self.inside.allocation c.self.inside.aside.items c.self.inside.done.items (held_in h) c.self.inside.proposed) c.in-Open.is c.self.invariant.0) in
    let table = c.write_front.ensures r.block r.front.raw r.there r.front.there r.front.field in (
      subst (λ xs. AreNoted xs c.self.inside.aside.items c.self.inside.done.items None c.self.inside.proposed) (sym table)
          (subst (AreNoted _ c.self.inside.aside.items c.self.inside.done.items None) (sym none)
          (slots_noted c.self.inside.allocation c.self.inside.aside.items c.self.inside.done.items None c.in-Open.d r.block (written r.block r.front.raw c.self.inside.fields c.word_of-word.result) r.there
          (λ n. noted_written 0 r.block r.front.raw c.self.inside.fields c.word_of-word.result n) n)),
      table_made c.self.inside.config c.in-Open.d r.block (written r.block r.front.raw c.self.inside.fields c.word_of-word.result) r.there (λ n. record { words = n.words; destination = n.destination }) table refl tt c.self.invariant.1,
      c.self.invariant.2,
      c.self.invariant.3,
    )

pub returns-in-Open : goal.returns-in-Open
returns-in-Open g c =
    let starts : drop c.self.inside.started (words_of c.self.inside.starts.items) ≡ [] = all_left place_word c.self.inside.starts.items c.self.inside.started (omega (arith, c.if-self-len.false, c.len.ensures)) in
    let hand : hand_of c.self.inside.config.shape c.self.inside.hand ≡ Open c.in-Open.d = ap (hand_of c.self.inside.config.shape) c.in-Open.is in
    let field = open_write c.args.self.now c.in-Open.d c.requires.slot (ap (λ (v : WorkspaceValue). v.worker.starts) (sym c.self.view_is) ∙ starts) (ap (λ (v : WorkspaceValue). v.worker.hand) (sym c.self.view_is) ∙ hand) in
    let r : Ready c.self.inside.allocation c.in-Open.d c.self.inside.fields = open_ready c.self.inside.config.shape c.self.inside.allocation c.in-Open.d c.self.inside.fields (subst (λ (v : WorkspaceValue). HasField v.worker.fields (allocation_at v.worker c.in-Open.d)) (sym c.self.view_is) field) in
    let none : c.self.inside.proposed ≡ None = no_proposal c.self.inside.allocation c.self.inside.aside.items c.self.inside.done.items (held_in c.self.inside.hand) c.self.inside.proposed c.self.invariant.0 (ap (λ (v : WorkspaceValue). v.worker.proposal) c.self.view_is ∙ c.requires.proposal) in
    let b' : BlockValue = written r.block r.front.raw c.self.inside.fields c.word_of-word.result in
    let value : target_of_word c.word_of-word.result ≡ option_map place_word c.args.value = value_written c.word_of-word.result c.args.value c.word_of-word.ensures in
    open_finished c.args.value c.in-Open.d c.self.view_is _ _ _
    (ap (proposal_of c.write_front.new.self) none ∙ sym (ap (proposal_of c.self.inside.allocation) none))
    (sym hand)
    (ap (slots_of c.self.inside.config.shape) (c.write_front.ensures r.block r.front.raw r.there r.front.there r.front.field)
    ∙ slots_written c.self.inside.config.shape c.self.inside.allocation c.in-Open.d r.block b' (with_field c.self.inside.fields (option_map place_word c.args.value)) r.there
    (named_written c.self.inside.config.shape r.block r.front.raw c.self.inside.fields c.word_of-word.result r.front.there ∙ ap (λ t. with_field c.self.inside.fields t (named c.self.inside.config.shape r.block)) value))
    starts hand

pub invariant_of-self-in-Holding-1 : goal.invariant_of-self-in-Holding-1
invariant_of-self-in-Holding-1 g c =
    let starts : drop c.self.inside.started (words_of c.self.inside.starts.items) ≡ [] = all_left place_word c.self.inside.starts.items c.self.inside.started (omega (arith, c.if-self-len.false, c.len.ensures)) in
    let hand : hand_of c.self.inside.config.shape c.self.inside.hand ≡ Holding (named c.self.inside.config.shape c.in-Holding.block) = ap (hand_of c.self.inside.config.shape) c.in-Holding.is in
    let field = held_write c.args.self.now (named c.self.inside.config.shape c.in-Holding.block) c.requires.slot (ap (λ (v : WorkspaceValue). v.worker.starts) (sym c.self.view_is) ∙ starts) (ap (λ (v : WorkspaceValue). v.worker.hand) (sym c.self.view_is) ∙ hand) in
    let f : HasField c.self.inside.fields (Some (named c.self.inside.config.shape c.in-Holding.block)) = subst (λ (v : WorkspaceValue). HasField v.worker.fields (Some (named c.self.inside.config.shape c.in-Holding.block))) (sym c.self.view_is) field in
    let r : Behind c.in-Holding.block c.self.inside.fields = behind c.self.inside.config.shape c.in-Holding.block c.self.inside.fields f.0 f.1 f.2 in
    let n : IsNoted 0 c.in-Holding.block = subst (λ h. OnSome (IsNoted 0) (held_in h)) c.in-Holding.is c.self.invariant.0.in_hand in
    let k : IsMade c.self.inside.config c.in-Holding.block = subst (λ h. OnSome (IsMade c.self.inside.config) (held_in h)) c.in-Holding.is c.self.invariant.1.in_hand in (
      record {
        in_slots = c.self.invariant.0.in_slots;
        in_aside = c.self.invariant.0.in_aside;
        in_done = c.self.invariant.0.in_done;
        there = c.self.invariant.0.there;
        in_hand = subst (IsNoted 0) (sym (c.write_front-in-Holding.ensures r.raw r.there r.field)) (noted_written 0 c.in-Holding.block r.raw c.self.inside.fields c.word_of-word.result n);
      },
      record { in_slots = c.self.invariant.1.in_slots; in_aside = c.self.invariant.1.in_aside; in_done = c.self.invariant.1.in_done; in_hand = subst (IsMade c.self.inside.config) (sym (c.write_front-in-Holding.ensures r.raw r.there r.field)) (record { words = k.words; destination = k.destination }) },
      c.self.invariant.2,
      c.self.invariant.3,
    )

pub returns-in-Holding : goal.returns-in-Holding
returns-in-Holding g c =
    let starts : drop c.self.inside.started (words_of c.self.inside.starts.items) ≡ [] = all_left place_word c.self.inside.starts.items c.self.inside.started (omega (arith, c.if-self-len.false, c.len.ensures)) in
    let hand : hand_of c.self.inside.config.shape c.self.inside.hand ≡ Holding (named c.self.inside.config.shape c.in-Holding.block) = ap (hand_of c.self.inside.config.shape) c.in-Holding.is in
    let field = held_write c.args.self.now (named c.self.inside.config.shape c.in-Holding.block) c.requires.slot (ap (λ (v : WorkspaceValue). v.worker.starts) (sym c.self.view_is) ∙ starts) (ap (λ (v : WorkspaceValue). v.worker.hand) (sym c.self.view_is) ∙ hand) in
    let f : HasField c.self.inside.fields (Some (named c.self.inside.config.shape c.in-Holding.block)) = subst (λ (v : WorkspaceValue). HasField v.worker.fields (Some (named c.self.inside.config.shape c.in-Holding.block))) (sym c.self.view_is) field in
    let r : Behind c.in-Holding.block c.self.inside.fields = behind c.self.inside.config.shape c.in-Holding.block c.self.inside.fields f.0 f.1 f.2 in
    let value : target_of_word c.word_of-word.result ≡ option_map place_word c.args.value = value_written c.word_of-word.result c.args.value c.word_of-word.ensures in
    held_finished c.args.value (named c.self.inside.config.shape c.in-Holding.block) c.self.view_is _
    (ap (λ (b : BlockValue). Holding (named c.self.inside.config.shape b)) (c.write_front-in-Holding.ensures r.raw r.there r.field)
    ∙ ap Holding (named_written c.self.inside.config.shape c.in-Holding.block r.raw c.self.inside.fields c.word_of-word.result r.there ∙ ap (λ t. with_field c.self.inside.fields t (named c.self.inside.config.shape c.in-Holding.block)) value))
    starts hand
