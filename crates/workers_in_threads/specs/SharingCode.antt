-- One worker among several as data.
use Rattle.std.specs.Prelude.{ℕ, List, refl}
use Rattle.std.specs.Coded.{Coded, code_by, coded×, coded_ℕ, coded_list}
use Rattle.atomic_table.specs.Seated.{TableId, table_id_coded}
use Rattle.crossbeam_queue.specs.SegTies.{SegId, seg_id_coded}
use Rattle.block_pool.specs.BlockValue.{BlockValue, block_code}
use Rattle.block_pool.specs.ClaimsValue.{ClaimsValue, SeatValue, claims_code, seat_code}
use Rattle.steps.specs.HeapValue.{HeapValue, heap_code}
use Rattle.steps.specs.CollectionValue.{CollectionValue}
use Rattle.steps.specs.CollectionCode.{collection_code}
use Rattle.pending_queues.specs.PendingValue.{Source}
use Rattle.pending_queues.specs.PendingValue.{SeatValue as QueueSeatValue}
use Rattle.scavenge.specs.Handed.{CopiesKeyValue, key_code}
use Rattle.scavenge.specs.Shown.{WorkspaceValue}
use Rattle.scavenge.specs.Codes.{workspace_code}
use Rattle.workers_in_threads.specs.SharingValue.{SharingValue}

module _ {C P A : Type 0} (c : Coded C) (p : Coded P) (a : Coded A) where
  abbrev source_code : Coded (Source A CopiesKeyValue)
  source_code =
      code_by (CopiesKeyValue × (List (SegId A) × List TableId)) (coded× key_code (coded× (coded_list (seg_id_coded a)) (coded_list table_id_coded)))
      (λ s. (s.key, (s.lanes, s.tallies))) (λ q. record { key = q.0; lanes = q.1.0; tallies = q.1.1 }) (λ _. refl)

  abbrev queue_seat_code : Coded (QueueSeatValue A CopiesKeyValue)
  queue_seat_code =
      code_by (Source A CopiesKeyValue × (ℕ × (List BlockValue × (List BlockValue × ℕ)))) (coded× source_code (coded× coded_ℕ (coded× (coded_list block_code) (coded× (coded_list block_code) coded_ℕ))))
      (λ s. (s.source, (s.index, (s.sent, (s.taken, s.cleared))))) (λ q. record { source = q.0; index = q.1.0; sent = q.1.1.0; taken = q.1.1.1.0; cleared = q.1.1.1.1 }) (λ _. refl)

  abbrev pub sharing_code : Coded (SharingValue C P A)
  sharing_code =
      code_by
      (HeapValue × (CollectionValue × (ClaimsValue × (Source A CopiesKeyValue × (ℕ × (C × (P × (SeatValue × (QueueSeatValue A CopiesKeyValue × WorkspaceValue)))))))))
      (coded× heap_code (coded× collection_code (coded× claims_code (coded× source_code (coded× coded_ℕ (coded× c (coded× p (coded× seat_code (coded× queue_seat_code workspace_code)))))))))
      (λ s. (s.heap, (s.collection, (s.claims, (s.queues, (s.workers, (s.cells, (s.pass, (s.draws, (s.seat, s.workspace))))))))))
      (λ q. record { heap = q.0; collection = q.1.0; claims = q.1.1.0; queues = q.1.1.1.0; workers = q.1.1.1.1.0; cells = q.1.1.1.1.1.0; pass = q.1.1.1.1.1.1.0; draws = q.1.1.1.1.1.1.1.0; seat = q.1.1.1.1.1.1.1.1.0; workspace = q.1.1.1.1.1.1.1.1.1 })
      (λ _. refl)
