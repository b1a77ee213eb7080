use Rattle.std.proofs.Common.{◌≡◌, ◌+◌, ◌<◌, [], length, drop, Some, refl, sym, ap, subst, ◌∙◌, arith}
use Rattle.std.proofs.lemmas.List.{length-set}
use Rattle.std.specs.Option.{option_map}
use Rattle.layout.specs.Object.{Raw}
use Rattle.layout.specs.Place.{place_word}
use Rattle.block_pool.specs.BlockValue.{BlockValue}
use Rattle.steps.specs.Words.{target_of_word}
use Rattle.workers.specs.Block.{with_field}
use Rattle.workers.specs.Worker.{Holding}
use Rattle.scavenge.specs.Named.{named}
use Rattle.scavenge.specs.Shown.{WorkspaceValue, words_of, IsNoted, IsMade}
use Rattle.scavenge.specs.Swept.{left_in, left_in_hand}
use Rattle.scavenge.proofs.Fields.{all_left, held_finished, value_written, Behind, named_written, noted_written}
use Rattle.scavenge.proofs.Swept.{behind_held, field_held}
use Rattle.scavenge.proofs.SweepLeft.{left_written}
use Rattle.scavenge.proofs.sweep.sweep.Sweep.finish.Goals as goal

pub write_at-requires-clause-field : goal.write_at-requires-clause-field
write_at-requires-clause-field g c =
    let starts : drop c.self.inside.started (words_of c.self.inside.starts.items) ≡ [] = all_left place_word c.self.inside.starts.items c.self.inside.started c.self.invariant.5 in
    let r : Behind c.self.inside.held c.self.inside.fields = behind_held c.self.view_is c.self.inside.config.shape c.self.inside.held starts refl c.requires.slot in
    let s = c.self.invariant.6 in
    let same : Some r.raw ≡ Some s.raw = sym r.there ∙ s.there in
    let is : r.raw ≡ s.raw = cc in
    subst (λ n. c.self.inside.fields < n) (ap (λ (x : Raw). length x.pointers) is ∙ sym s.pointers_is) r.field

pub invariant_of-self : goal.invariant_of-self
invariant_of-self g c =
    let starts : drop c.self.inside.started (words_of c.self.inside.starts.items) ≡ [] = all_left place_word c.self.inside.starts.items c.self.inside.started c.self.invariant.5 in
    let r : Behind c.self.inside.held c.self.inside.fields = behind_held c.self.view_is c.self.inside.config.shape c.self.inside.held starts refl c.requires.slot in
    let n = c.self.invariant.0 in
    let k = c.self.invariant.1 in
    let is = c.write_at.ensures.written r.raw r.there in (
      record { in_slots = n.in_slots; in_aside = n.in_aside; in_done = n.in_done; there = n.there; in_hand = subst (IsNoted 0) (sym is) (noted_written 0 c.self.inside.held r.raw c.self.inside.fields c.word_of.result n.in_hand) },
      record { in_slots = k.in_slots; in_aside = k.in_aside; in_done = k.in_done; in_hand = subst (IsMade c.self.inside.config) (sym is) (record { words = k.in_hand.words; destination = k.in_hand.destination }) },
      c.self.invariant.2,
      c.self.invariant.3,
      c.self.invariant.4,
      c.self.invariant.5,
      c.write_at.ensures.stands,
      c.self.invariant.7,
      c.self.invariant.8,
      (let front = ap (λ (b : BlockValue). b.front) is in
          let many = ap (λ (b : BlockValue). length b.objects) is ∙ length-set c.self.inside.held.objects c.self.inside.held.front _ in
          omega (arith, c.self.invariant.9, front, many)),
      c.self.invariant.10,
    )

pub returns-clause-finished : goal.returns-clause-finished
returns-clause-finished g c =
    let starts : drop c.self.inside.started (words_of c.self.inside.starts.items) ≡ [] = all_left place_word c.self.inside.starts.items c.self.inside.started c.self.invariant.5 in
    let r : Behind c.self.inside.held c.self.inside.fields = behind_held c.self.view_is c.self.inside.config.shape c.self.inside.held starts refl c.requires.slot in
    let value : target_of_word c.word_of.result ≡ option_map place_word c.args.value = value_written c.word_of.result c.args.value c.word_of.ensures in
    held_finished c.args.value (named c.self.inside.config.shape c.self.inside.held) c.self.view_is _
    (ap (λ (b : BlockValue). Holding (named c.self.inside.config.shape b)) (c.write_at.ensures.written r.raw r.there)
    ∙ ap Holding (named_written c.self.inside.config.shape c.self.inside.held r.raw c.self.inside.fields c.word_of.result r.there ∙ ap (λ t. with_field c.self.inside.fields t (named c.self.inside.config.shape c.self.inside.held)) value))
    starts
    refl

pub returns-clause-less : goal.returns-clause-less
returns-clause-less g c =
    let starts : drop c.self.inside.started (words_of c.self.inside.starts.items) ≡ [] = all_left place_word c.self.inside.starts.items c.self.inside.started c.self.invariant.5 in
    let r : Behind c.self.inside.held c.self.inside.fields = behind_held c.self.view_is c.self.inside.config.shape c.self.inside.held starts refl c.requires.slot in
    let f = field_held c.self.view_is c.self.inside.config.shape c.self.inside.held starts refl c.requires.slot in
    let is = ap (named c.self.inside.config.shape) (c.write_at.ensures.written r.raw r.there) ∙ named_written c.self.inside.config.shape c.self.inside.held r.raw c.self.inside.fields c.word_of.result r.there in
    let less = left_written (named c.self.inside.config.shape c.self.inside.held) c.self.inside.fields (target_of_word c.word_of.result) f.0 f.1 f.2 in
    subst (λ b. left_in (Holding b) (c.self.inside.fields + 1) < left_in_hand c.args.self.now.worker) (sym is)
    (subst (λ (v : WorkspaceValue). left_in (Holding (with_field c.self.inside.fields (target_of_word c.word_of.result) (named c.self.inside.config.shape c.self.inside.held))) (c.self.inside.fields + 1) < left_in_hand v.worker) c.self.view_is less)
