use Rattle.std.proofs.Common.{sym, ap, ◌∙◌, arith, le-ltb, lt-ltb}
use Rattle.model.specs.Config.{Config}
use Rattle.model.specs.Destination.{dest}
use Rattle.layout.specs.Place.{place_word}
use Rattle.layout.specs.ObjectRef.{raw_of}
use Rattle.workers.specs.Setting.{destination_number}
use Rattle.scavenge.proofs.Placing.{Facts, facts, dest_of}
use Rattle.scavenge.proofs.proposing.goes_to.Goals as goal

pub returns-then-size-block_words : goal.returns-then-size-block_words
returns-then-size-block_words g c =
    let f : Facts c.args.heap.now (place_word c.args.name) (raw_of c.args.found.object) = facts c.args.heap.now (place_word c.args.name) (raw_of c.args.found.object) c.requires.shown in
    f.large ∙ lt-ltb _ _ (omega (arith, c.if-size-block_words.true, c.size.ensures, c.block_words.ensures.value, ap (λ (k : Config). k.block_words) c.config-config.ensures))

pub returns : goal.returns
returns g c =
    let f : Facts c.args.heap.now (place_word c.args.name) (raw_of c.args.found.object) = facts c.args.heap.now (place_word c.args.name) (raw_of c.args.found.object) c.requires.shown in
    let to = c.dest-to.ensures ∙ ap (λ (k : Config). dest k.shape (c.args.found.at.generation, c.args.found.at.step)) c.config-config.ensures in
    let number = c.dest_number.ensures ∙ ap (λ (k : Config). destination_number k.shape (c.dest-to.result.generation, c.dest-to.result.step)) c.config-config.ensures in
    record {
      small = f.large ∙ le-ltb _ _ (omega (arith, c.if-size-block_words.false, c.size.ensures, c.block_words.ensures.value, ap (λ (k : Config). k.block_words) c.config-config.ensures));
      is_destination = ((c.args.found.at.generation, c.args.found.at.step), to);
      number = number;
      of = number ∙ ap (destination_number c.args.heap.now.config.shape) to ∙ sym (dest_of c.args.heap.now (place_word c.args.name) (c.args.found.at.generation, c.args.found.at.step) c.requires.stands);
    }
