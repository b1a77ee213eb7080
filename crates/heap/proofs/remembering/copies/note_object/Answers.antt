use Rattle.std.proofs.Common.{◌≡◌, ◌<◌, false, true, length, map, sym, ap, subst, ◌∙◌, arith}
use Rattle.std.proofs.lemmas.Bool.{true≢false}
use Rattle.std.proofs.lemmas.Result.{on_ok_weaker}
use Rattle.model.specs.Reached.{has}
use Rattle.layout.specs.ObjectRef.{raw_of}
use Rattle.layout.specs.Place.{place_word, small_word}
use Rattle.block_pool.specs.BlockValue.{offset_of}
use Rattle.remembered_set.specs.Sets.{members_of}
use Rattle.steps.specs.Words.{target_of_word}
use Rattle.heap.specs.Lowest.{lowest_in, MayLeadYounger}
use Rattle.heap.proofs.NotedCopies.{noted_without, noted_member}
use Rattle.heap.proofs.Grown.{grown_by_note, noted_has}
use Rattle.heap.proofs.remembering.copies.note_object.Goals as goal

pub returns-then-may_lead_younger-clause-grown : goal.returns-then-may_lead_younger-clause-grown
returns-then-may_lead_younger-clause-grown g c =
    let low : c.generation-generation.result < length c.args.sets.now = omega (arith, c.requires.generation, c.generation-generation.ensures) in
    grown_by_note c.args.sets.now c.generation-generation.result (place_word c.small-place.result) low c.note.result c.note.new.self c.note.ensures.ok c.note.ensures.err

pub returns-then-may_lead_younger-clause-noted : goal.returns-then-may_lead_younger-clause-noted
returns-then-may_lead_younger-clause-noted g c youngest =
    let block = c.args.block.now in
    let generation = c.generation-generation.result in
    let low : generation < length c.args.sets.now = omega (arith, c.requires.generation, c.generation-generation.ensures) in
    let word = place_word c.small-place.result in
    let at : word ≡ small_word block.number (offset_of block.objects c.args.k) = c.small-place.ensures.word ∙ omega (arith, c.number.ensures.value, c.offset.ensures.value) in
    on_ok_weaker c.note.result
    (λ e.
    let member = ap (λ ss. has (members_of ss generation) word) e ∙ noted_has c.args.sets.now generation word low in
    noted_member (lowest_in c.args.lowest.now) youngest c.note.new.self block c.args.k (raw_of c.object-object.result) c.object-object.ensures.object word at (subst (λ h. has (members_of c.note.new.self h) word ≡ true) c.generation-generation.ensures member))
    c.note.ensures.ok

pub returns-clause-noted : goal.returns-clause-noted
returns-clause-noted g c youngest = noted_without (lowest_in c.args.lowest.now) youngest c.args.sets.now c.args.block.now c.args.k (raw_of c.object-object.result) c.object-object.ensures.object
    (λ leads. true≢false (sym (c.may_lead_younger.ensures.1 (subst (λ h. MayLeadYounger (lowest_in c.args.lowest.now) h (map target_of_word (raw_of c.object-object.result).pointers)) (sym c.generation-generation.ensures) leads)) ∙ c.if-may_lead_younger.false))
