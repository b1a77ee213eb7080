-- What a worker takes to its thread and brings back crosses, whatever the cells and the allocator.
use mir.Syntax.{Dict}
use denote.RattleType.{RattleType}
use denote.Param.Send.{IsSend, IsSync, Frees, sendable}
use Rattle.std.specs.declared.alloc.Allocator as alloc
use Rattle.std.proofs.Crossing.{crosses}
use Rattle.std.proofs.CrossingOver.{crosses as over}
use Rattle.pending_queues.proofs.Crossing.{ruled_sync, seat_send}
use Rattle.block_pool.proofs.claims.claims.ClaimSeat.TheSendSync as draws
use Rattle.scavenge.proofs.workspace.workspace.Workspace.TheSendSync as workspace
use Rattle.steps.proofs.heap_values.spare.Spare.TheSendSync as spare
use Rattle.idle_count.proofs.idle.IdleSeat.TheSendSync as rest
use Rattle.idle_count.proofs.verdict.VerdictSeat.TheSendSync as voice
use Rattle.heap.proofs.heap.Heap.TheSendSync as heap
use Rattle.heap.specs.contracts.heap.Heap as Heap
use Rattle.steps.proofs.heap_values.collection.Collection.TheSendSync as collection
use Rattle.steps.specs.contracts.heap_values.collection.Collection as Collection
use Rattle.block_pool.proofs.claims.claims.Claims.TheSendSync as claims
use Rattle.block_pool.specs.contracts.claims.claims.Claims as Claims
use Rattle.idle_count.proofs.idle.Idle.TheSendSync as idle
use Rattle.idle_count.specs.contracts.idle.Idle as Idle
use Rattle.scavenge.specs.contracts.copies.Copies as Copies
use Rattle.scavenge.specs.contracts.copies.CopiesKey as CopiesKey
use Rattle.scavenge.specs.contracts.copies.CopiesCargo.TheImpl as cargo
use Rattle.pending_queues.specs.contracts.ruled_pending.RuledPending as Ruled
use Rattle.workers_in_threads.specs.contracts.kit.Kit as Kit
use Rattle.workers_in_threads.specs.contracts.kit.Brought as Brought

module _ (P A : RattleType) (h : alloc.Ghosts A.Denot) where
  pub kit_send : IsSend P → IsSend A → Frees h h.dealloc_token → IsSend (Kit.the_row P A h)
  kit_send pass alloc frees = search (sendable, crosses, over, seat_send, draws.the_send, workspace.the_send, spare.the_send, rest.the_send, voice.the_send) depth 30

  pub brought_send : IsSend P → IsSend A → Frees h h.dealloc_token → IsSend (Brought.the_row P A h)
  brought_send pass alloc frees = search (sendable, crosses, over, seat_send, draws.the_send, workspace.the_send, voice.the_send) depth 30

module _ (A : RattleType) (h : alloc.Ghosts A.Denot) where
  pub heap_sync : IsSync A → IsSync (Heap.the_row A h)
  heap_sync alloc = search (sendable, over, heap.the_sync) depth 30

  pub collection_sync : IsSend A → IsSync A → Frees h h.dealloc_token → IsSync (Collection.the_row A h)
  collection_sync send sync frees = search (collection.the_sync, over) depth 30

  pub claims_sync : IsSend A → IsSync A → Frees h h.dealloc_token → IsSync (Claims.the_row A h)
  claims_sync send sync frees = search (sendable, over, claims.the_sync) depth 30

  pub idle_sync : IsSend A → IsSync A → Frees h h.dealloc_token → IsSync (Idle.the_row A h)
  idle_sync send sync frees = search (sendable, over, idle.the_sync) depth 30

  pub queues_sync : (d e : Dict) → IsSend A → IsSync A → Frees h h.dealloc_token → IsSync (Ruled.the_row (Copies.the_row A) A (CopiesKey.the_row A h) (cargo.ghosts A h d e) h)
  queues_sync d e send sync frees = ruled_sync (Copies.the_row A) A (CopiesKey.the_row A h) (cargo.ghosts A h d e) h send sync frees
