use Rattle.std.proofs.Common.{◌<◌, List, map, set, Option, Some, None, refl, sym, ap, subst, ◌∙◌, arith}
use Rattle.std.proofs.lemmas.List.{map-append}
use Rattle.layout.specs.Place.{place_word}
use Rattle.block_pool.specs.BlockValue.{BlockValue}
use Rattle.steps.specs.ReportValue.{renaming_of}
use Rattle.steps.specs.ReportView.{won_value}
use Rattle.workers.specs.Block.{with_copy}
use Rattle.scavenge.specs.Shown.{WorkspaceValue, AreNoted, proposal_of, proposal_at, slots_of, words_of, held_in}
use Rattle.scavenge.proofs.Fields.{Last, last_there, slots_written, slots_decided}
use Rattle.scavenge.proofs.Winning.{noted, copy_of, named_noted, noted_whole, can_win_of, won_copy, won_large, named_of, names_of, numbers_more, won_more}
use Rattle.scavenge.proofs.Made.{table_made}
use Rattle.scavenge.proofs.workspace.workspace.Workspace.win.Goals as goal

pub invariant_of-self : goal.invariant_of-self
invariant_of-self g c =
    let n : AreNoted c.self.inside.allocation c.self.inside.aside.items c.self.inside.done.items (held_in c.self.inside.hand) (Some c.in-Some.p) = subst (AreNoted c.self.inside.allocation c.self.inside.aside.items c.self.inside.done.items (held_in c.self.inside.hand)) c.in-Some.is c.self.invariant.0 in
    let t : Last c.self.inside.allocation c.in-Some.p c.in-Some-destination.d = last_there c.self.inside.allocation c.self.inside.aside.items c.self.inside.done.items (held_in c.self.inside.hand) c.in-Some.p c.in-Some-destination.d c.in-Some-destination.is n in
    let room : 0 < c.self.inside.won_room = subst (λ (v : WorkspaceValue). 0 < v.won_room) (sym c.self.view_is) c.requires.room in
    let r = c.self.invariant.2 in (
      subst (λ xs. AreNoted xs c.self.inside.aside.items c.self.inside.done.items (held_in c.self.inside.hand) None) (sym (c.note.ensures t.block t.there))
          (slots_decided c.self.inside.allocation c.self.inside.aside.items c.self.inside.done.items (held_in c.self.inside.hand) c.in-Some.p c.in-Some-destination.d t.block (noted t.block c.to_word.result) c.in-Some-destination.is t.there (λ m. noted_whole t.block c.to_word.result m) n),
      table_made c.self.inside.config c.in-Some-destination.d t.block (noted t.block c.to_word.result) t.there (λ n. record { words = n.words; destination = n.destination }) (c.note.ensures t.block t.there) refl c.self.invariant.1.in_hand c.self.invariant.1,
      record { in_won = omega (arith, r.in_won, room, c.push_reserved.ensures.len, c.push_reserved.ensures.capacity); in_done = r.in_done; in_aside = r.in_aside; for_spare = r.for_spare; in_claimed = tt },
      numbers_more c.self.inside.names.numbers c.self.inside.won.items (record { number = c.args.number; place = c.new.result }) c.self.invariant.3 (names_of c.self.view_is c.requires.number) c.push_reserved.ensures.items,
    )

pub finish-requires-clause-slot : goal.finish-requires-clause-slot
finish-requires-clause-slot g c =
    let n : AreNoted c.self.inside.allocation c.self.inside.aside.items c.self.inside.done.items (held_in c.self.inside.hand) (Some c.in-Some.p) = subst (AreNoted c.self.inside.allocation c.self.inside.aside.items c.self.inside.done.items (held_in c.self.inside.hand)) c.in-Some.is c.self.invariant.0 in
    let t : Last c.self.inside.allocation c.in-Some.p c.in-Some-destination.d = last_there c.self.inside.allocation c.self.inside.aside.items c.self.inside.done.items (held_in c.self.inside.hand) c.in-Some.p c.in-Some-destination.d c.in-Some-destination.is n in
    let items = c.note.ensures t.block t.there ∙ ap (λ w. (let xs : List (Option BlockValue) = set c.self.inside.allocation c.in-Some-destination.d (Some (noted t.block w)) in xs)) c.to_word.ensures in
    can_win_of c.self.view_is (slots_of c.self.inside.config.shape c.note.new.self) (copy_of c.in-Some.p t.raw) c.in-Some-destination.d (words_of c.self.inside.claimed.items) (renaming_of c.self.inside.names.numbers (map won_value c.push_reserved.new.self.items))
    refl
    (ap (slots_of c.self.inside.config.shape) items ∙ slots_written c.self.inside.config.shape c.self.inside.allocation c.in-Some-destination.d t.block (noted t.block (place_word c.in-Some.p.name)) (with_copy (copy_of c.in-Some.p t.raw)) t.there (named_noted c.self.inside.config.shape c.self.inside.allocation c.in-Some.p c.in-Some-destination.d t))
    c.requires.slot

pub returns-in-Some-destination : goal.returns-in-Some-destination
returns-in-Some-destination g c =
    let n : AreNoted c.self.inside.allocation c.self.inside.aside.items c.self.inside.done.items (held_in c.self.inside.hand) (Some c.in-Some.p) = subst (AreNoted c.self.inside.allocation c.self.inside.aside.items c.self.inside.done.items (held_in c.self.inside.hand)) c.in-Some.is c.self.invariant.0 in
    let t : Last c.self.inside.allocation c.in-Some.p c.in-Some-destination.d = last_there c.self.inside.allocation c.self.inside.aside.items c.self.inside.done.items (held_in c.self.inside.hand) c.in-Some.p c.in-Some-destination.d c.in-Some-destination.is n in
    let items = c.note.ensures t.block t.there ∙ ap (λ w. (let xs : List (Option BlockValue) = set c.self.inside.allocation c.in-Some-destination.d (Some (noted t.block w)) in xs)) c.to_word.ensures in
    c.finish.ensures ∙ won_copy c.self.view_is (slots_of c.self.inside.config.shape c.note.new.self) (words_of c.self.inside.claimed.items) (renaming_of c.self.inside.names.numbers (map won_value c.push_reserved.new.self.items)) (copy_of c.in-Some.p t.raw) c.in-Some-destination.d
    (ap (slots_of c.self.inside.config.shape) items ∙ slots_written c.self.inside.config.shape c.self.inside.allocation c.in-Some-destination.d t.block (noted t.block (place_word c.in-Some.p.name)) (with_copy (copy_of c.in-Some.p t.raw)) t.there (named_noted c.self.inside.config.shape c.self.inside.allocation c.in-Some.p c.in-Some-destination.d t))
    refl
    (won_more c.self.inside.names.numbers c.self.inside.won.items c.push_reserved.new.self.items (record { number = c.args.number; place = c.new.result }) (place_word c.in-Some.p.name) (place_word c.in-Some.p.place) c.push_reserved.ensures.items (named_of c.self.view_is c.args.number c.in-Some.p c.self.inside.allocation c.self.inside.aside.items c.self.inside.done.items (held_in c.self.inside.hand) c.self.inside.proposed refl c.in-Some.is c.self.invariant.0 c.requires.name) c.new.ensures)
    (ap (proposal_of c.self.inside.allocation) c.in-Some.is ∙ t.shown)

pub returns-in-None : goal.returns-in-None
returns-in-None g c =
    c.finish-in-None.ensures ∙ won_large c.self.view_is (words_of c.push_back_reserved.new.self.items) (renaming_of c.self.inside.names.numbers (map won_value c.push_reserved-in-None.new.self.items)) (place_word c.in-Some.p.name)
    (ap words_of c.push_back_reserved.ensures.items ∙ map-append place_word c.self.inside.claimed.items _)
    (won_more c.self.inside.names.numbers c.self.inside.won.items c.push_reserved-in-None.new.self.items (record { number = c.args.number; place = c.new-in-None.result }) (place_word c.in-Some.p.name) (place_word c.in-Some.p.name) c.push_reserved-in-None.ensures.items (named_of c.self.view_is c.args.number c.in-Some.p c.self.inside.allocation c.self.inside.aside.items c.self.inside.done.items (held_in c.self.inside.hand) c.self.inside.proposed refl c.in-Some.is c.self.invariant.0 c.requires.name) c.new-in-None.ensures)
    (ap (proposal_of c.self.inside.allocation) c.in-Some.is ∙ ap (proposal_at c.self.inside.allocation c.in-Some.p) c.in-None.is)
