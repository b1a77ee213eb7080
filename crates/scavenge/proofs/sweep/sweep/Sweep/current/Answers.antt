use Rattle.std.proofs.Common.{◌≡◌, [], drop, Some, refl, sym, ap, ◌∙◌}
use Rattle.layout.specs.Place.{place_word}
use Rattle.workers.specs.Worker.{Nothing, Holding}
use Rattle.scavenge.specs.Named.{named}
use Rattle.scavenge.specs.Shown.{WorkspaceValue, words_of, Holds}
use Rattle.scavenge.proofs.Fields.{all_left}
use Rattle.scavenge.proofs.Copying.{held_known, front_pointers, read_of}
use Rattle.scavenge.proofs.sweep.sweep.Sweep.current.Goals as goal

pub pointer_at-requires-clause-pointer : goal.pointer_at-requires-clause-pointer
pointer_at-requires-clause-pointer g c =
    let starts : drop c.self.inside.started (words_of c.self.inside.starts.items) ≡ [] = all_left place_word c.self.inside.starts.items c.self.inside.started c.self.invariant.5 in
    front_pointers c.self.inside.fields (Some c.self.inside.held) (read_of c.self.view_is _ starts (held_known c.self.view_is c.self.inside.config.shape c.self.inside.held starts refl c.self.invariant.0.in_hand) c.requires.pointer)

pub returns-clause-slot : goal.returns-clause-slot
returns-clause-slot g c =
    let starts : drop c.self.inside.started (words_of c.self.inside.starts.items) ≡ [] = all_left place_word c.self.inside.starts.items c.self.inside.started c.self.invariant.5 in
    ap Holds c.pointer_at.ensures ∙ held_known c.self.view_is c.self.inside.config.shape c.self.inside.held starts refl c.self.invariant.0.in_hand

pub returns-clause-started : goal.returns-clause-started
returns-clause-started g c = ap (λ (v : WorkspaceValue). v.worker.starts) (sym c.self.view_is) ∙ all_left place_word c.self.inside.starts.items c.self.inside.started c.self.invariant.5

pub returns-clause-held : goal.returns-clause-held
returns-clause-held g c = λ e.
    let k : Holding (named c.self.inside.config.shape c.self.inside.held) ≡ Nothing = ap (λ (v : WorkspaceValue). v.worker.hand) c.self.view_is ∙ e in
    cc
