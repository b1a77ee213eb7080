-- Queues may be shared by threads, and seats go to them, whatever the key.
use denote.RattleType.{RattleType}
use denote.Param.Send.{IsSend, IsSync, Frees, sendable}
use Rattle.std.specs.declared.alloc.Allocator as alloc
use Rattle.std.proofs.Crossing.{crosses}
use Rattle.std.proofs.CrossingOver.{crosses as over}
use Rattle.pending_queues.specs.declared.exports.cargo.Cargo as cargo
use Rattle.pending_queues.specs.contracts.ruled_pending.RuledPending as Ruled
use Rattle.pending_queues.specs.contracts.seat.PendingSeat as Seat
use Rattle.pending_queues.proofs.lanes.lane.Lane.TheSendSync as lane
use Rattle.pending_queues.proofs.lanes.lane_pass.LanePass.TheSendSync as pass
use Rattle.pending_queues.proofs.exports.label.Label.TheSendSync as label
use Rattle.pending_queues.proofs.tally.tally.Tally.TheSendSync as tally
use Rattle.pending_queues.proofs.tally.tally.TallySeat.TheSendSync as mark

module _ (C A K : RattleType) (g : cargo.Ghosts C.Denot K.Denot) (h : alloc.Ghosts A.Denot) where
  pub ruled_sync : IsSend A → IsSync A → Frees h h.dealloc_token → IsSync (Ruled.the_row C A K g h)
  ruled_sync send sync frees = search (sendable, crosses, lane.the_sync, tally.the_sync, over) depth 30

  pub seat_send : IsSend A → Frees h h.dealloc_token → IsSend (Seat.the_row C A K g h)
  seat_send send frees = search (sendable, crosses, pass.the_send, mark.the_send, label.the_send, over) depth 30
