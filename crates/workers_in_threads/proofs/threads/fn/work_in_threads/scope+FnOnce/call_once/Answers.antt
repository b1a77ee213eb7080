use Rattle.workers_in_threads.proofs.threads.fn.work_in_threads.scope+FnOnce.call_once.Goals as goal

pub scope-requires : goal.scope-requires
scope-requires g c =
    let lives = c.requires.1.1.1.1 in
    let kits = lives.1 in
    let many = kits.1 in
    let none = many.1 in
    let room = none.1 in
    let own = room.1 in
    let first = own.1 in
    let voice = first.1 in
    let bounds = voice.1 in
    let crossing = bounds.1 in
    (crossing.0, (crossing.1, (crossing.2, (crossing.3, (crossing.4, (crossing.5, (crossing.6, (kits.0, (many.0, (none.0, (room.0, (own.0, (first.0, (voice.0, bounds.0))))))))))))))
