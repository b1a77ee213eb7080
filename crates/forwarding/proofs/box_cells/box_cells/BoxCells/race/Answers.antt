use Rattle.std.proofs.lemmas.Grind.{common_steps}
use Rattle.std.proofs.Common.{arith, ◌≡◌, ◌∙◌, ap, sym, map, Some, None, rules, length, ◌<◌}
use Rattle.std.specs.Prelude.{Option}
use Rattle.std.specs.Option.{unwrap_or}
use Rattle.forwarding.specs.declared.box_cells.bid.Bid.{Bid}
use Rattle.forwarding.specs.Noted.{bid_of}
use Rattle.forwarding.specs.Boxed.{note_cell, names_of}
use Rattle.forwarding.proofs.Noting.{same_many, has_cell, of_cell, still_of, agrees, noted_set, noted_won, noted_room}
use Rattle.forwarding.proofs.box_cells.box_cells.BoxCells.race.Goals as goal

pub offer-lost-requires : goal.offer-lost-requires
offer-lost-requires c =
    let are : map note_cell c.pass.inside.notes.items ≡ names_of c.self.inside.cells.items = ap (λ v. v.cells) c.pass.view_is ∙ (c.requires.pass ∙ sym c.self.view_is) in
    of_cell _ _ c.args.name _ _ are (has_cell _ _ _ c.self.view_is c.requires.name) c.index.ensures c.index_mut.ensures.value

pub push_reserved-requires : goal.push_reserved-requires
push_reserved-requires c =
    let are : map note_cell c.pass.inside.notes.items ≡ names_of c.self.inside.cells.items = ap (λ v. v.cells) c.pass.view_is ∙ (c.requires.pass ∙ sym c.self.view_is) in
    let within = has_cell _ _ _ c.self.view_is c.requires.name in
    let many = same_many _ _ are in
    let inside : c.args.name < length c.pass.inside.notes.items = omega arith in
    let unknown : c.index_mut.result.now.known ≡ None = c.in-None.ensures.value.0 in
    let bid : c.unwrap_or.result ≡ bid_of c.args.place c.pass.inside.number = c.unwrap_or.ensures ∙ ap (λ (o : Option Bid). unwrap_or o (bid_of c.args.place c.pass.inside.number)) c.in-None.is in
    let mine : c.in_ok-mine.mine.value ≡ bid_of c.args.place c.pass.inside.number = search rules in
    let told : c.offer-lost.new.note.known ≡ Some c.unwrap_or.result = c.in-None.ensures.value.1 ∙ ap Some (mine ∙ sym bid) in
    let lasts : (b : Bid) → c.index_mut.result.now.known ≡ Some b → Some c.unwrap_or.result ≡ Some b = λ b e. absurd (cc) in
    let room = noted_room _ c.args.name _ _ _ _ _ c.pass.invariant inside c.index_mut.ensures.value unknown in
    omega arith

pub invariant_of-pass : goal.invariant_of-pass
invariant_of-pass c =
    let are : map note_cell c.pass.inside.notes.items ≡ names_of c.self.inside.cells.items = ap (λ v. v.cells) c.pass.view_is ∙ (c.requires.pass ∙ sym c.self.view_is) in
    let within = has_cell _ _ _ c.self.view_is c.requires.name in
    let many = same_many _ _ are in
    let inside : c.args.name < length c.pass.inside.notes.items = omega arith in
    let unknown : c.index_mut.result.now.known ≡ None = c.in-None.ensures.value.0 in
    let bid : c.unwrap_or.result ≡ bid_of c.args.place c.pass.inside.number = c.unwrap_or.ensures ∙ ap (λ (o : Option Bid). unwrap_or o (bid_of c.args.place c.pass.inside.number)) c.in-None.is in
    let mine : c.in_ok-mine.mine.value ≡ bid_of c.args.place c.pass.inside.number = search rules in
    let told : c.offer-lost.new.note.known ≡ Some c.unwrap_or.result = c.in-None.ensures.value.1 ∙ ap Some (mine ∙ sym bid) in
    let lasts : (b : Bid) → c.index_mut.result.now.known ≡ Some b → Some c.unwrap_or.result ≡ Some b = λ b e. absurd (cc) in
    noted_won _ c.args.name _ _ _ _ _ _ _ c.pass.invariant inside c.index_mut.ensures.value told lasts c.args.place _ _ c.push_reserved.ensures.items c.push_reserved.ensures.capacity unknown (ap Some bid)

pub invariant_of-pass-in-Some : goal.invariant_of-pass-in-Some
invariant_of-pass-in-Some c =
    let are : map note_cell c.pass.inside.notes.items ≡ names_of c.self.inside.cells.items = ap (λ v. v.cells) c.pass.view_is ∙ (c.requires.pass ∙ sym c.self.view_is) in
    let within = has_cell _ _ _ c.self.view_is c.requires.name in
    let many = same_many _ _ are in
    let inside : c.args.name < length c.pass.inside.notes.items = omega arith in
    let first : c.unwrap_or.result ≡ c.in-Some.first = c.unwrap_or.ensures ∙ ap (λ (o : Option Bid). unwrap_or o (bid_of c.args.place c.pass.inside.number)) c.in-Some.is in
    let told : c.offer-lost.new.note.known ≡ Some c.unwrap_or.result = c.in-Some.ensures.value.0 ∙ ap Some (sym first) in
    let lasts : (b : Bid) → c.index_mut.result.now.known ≡ Some b → Some c.unwrap_or.result ≡ Some b = λ b e. ap Some (first ∙ sym (agrees _ _ b c.in-Some.ensures.value.1 e)) in
    noted_set _ c.args.name _ _ _ _ _ _ _ c.pass.invariant inside c.index_mut.ensures.value told lasts

pub returns-in-None-clause-pass : goal.returns-in-None-clause-pass
returns-in-None-clause-pass c = record {
  number = ap (λ v. v.number) c.pass.view_is;
  cells = still_of _ _ _ _ c.index_mut.ensures.value c.offer-lost.ensures.cell ∙ ap (λ v. v.cells) c.pass.view_is;
}

pub returns-in-Some-clause-pass : goal.returns-in-Some-clause-pass
returns-in-Some-clause-pass c = record {
  number = ap (λ v. v.number) c.pass.view_is;
  cells = still_of _ _ _ _ c.index_mut.ensures.value c.offer-lost.ensures.cell ∙ ap (λ v. v.cells) c.pass.view_is;
}

pub returns-in-Some-clause-known : goal.returns-in-Some-clause-known
returns-in-Some-clause-known c = grind (arith, common_steps)

pub returns-in-Some-clause-won : goal.returns-in-Some-clause-won
returns-in-Some-clause-won c = search rules

pub returns-in-None-clause-won : goal.returns-in-None-clause-won
returns-in-None-clause-won c = grind (arith, common_steps)
