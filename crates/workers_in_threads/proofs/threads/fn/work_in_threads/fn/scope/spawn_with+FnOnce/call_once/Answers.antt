use Rattle.workers_in_threads.proofs.threads.fn.work_in_threads.fn.scope.spawn_with+FnOnce.call_once.Goals as goal

pub spawn_with-requires : goal.spawn_with-requires
spawn_with-requires g c =
    (search c.requires depth 10, (search c.requires depth 10, (search c.requires depth 10, (search c.requires depth 10, (search c.requires depth 10, (search c.requires depth 10, (search c.requires depth 10, search c.requires depth 10)))))))
