use denote.Builtin.{usize}
use denote.Param.Send.{sendable}
use Rattle.std.proofs.Crossing as heap
use Rattle.base_tests.specs.contracts.sharing_tests.queue_tests.test_blocks.OfWords as OfWords
use Rattle.base_tests.specs.contracts.sharing_tests.queue_tests.test_blocks.OfWordsCargo.TheImpl as of_words
use Rattle.pending_queues.proofs.Crossing.{ruled_sync, seat_send}
use Rattle.base_tests.proofs.sharing_tests.queue_tests.thread_tests.fn.export_and_take.scope.Goals as goal

pub spawn_with-requires-send-F : goal.spawn_with-requires-send-F
spawn_with-requires-send-F g c κs within = let shared = ruled_sync OfWords.the_row _ usize of_words.ghosts _ heap.send heap.sync heap.frees in search (sendable, heap.crosses, shared, seat_send, c.requires.runtime) depth 30

pub spawn_with-requires-send-T : goal.spawn_with-requires-send-T
spawn_with-requires-send-T g c κs within = search (sendable, heap.crosses, seat_send) depth 30

pub spawn_with-requires-2-send-F : goal.spawn_with-requires-2-send-F
spawn_with-requires-2-send-F g c κs within = let shared = ruled_sync OfWords.the_row _ usize of_words.ghosts _ heap.send heap.sync heap.frees in search (sendable, heap.crosses, shared, seat_send, c.requires.runtime) depth 30
