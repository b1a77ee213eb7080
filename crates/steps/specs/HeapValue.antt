-- What contracts see of a heap.
use Rattle.std.specs.Prelude.{ℕ, ◌*◌, ◌-◌, List, [], replicate, refl}
use Rattle.std.specs.Ordering.{nat_cmp}
use Rattle.std.specs.FinMap.{FinMap, empty, code}
use Rattle.std.specs.Coded.{Coded, code_by, coded×, coded_ℕ, coded_list}
use Rattle.model.specs.Graph.{Graph, empty_graph}
use Rattle.model.specs.GraphCode.{graph_code}
use Rattle.model.specs.Config.{Config, config_code}
use Rattle.model.specs.Destination.{numbers_from}
use Rattle.model.specs.Room.{Room}
use Rattle.model.specs.Store.{full_rooms}

-- the room of each mutator's nursery; the free blocks, rising; the blocks of each large object; the members of the
-- remembered set of each generation
pub record HeapValue : Type 0 where
  pub config : Config
  pub graph : Graph
  pub rooms : List Room
  pub free : List ℕ
  pub large_blocks : FinMap nat_cmp (List ℕ)
  pub remembered : List (List ℕ)

abbrev pub room_code : Coded Room
room_code = code_by (ℕ × ℕ) (coded× coded_ℕ coded_ℕ) (λ r. (r.left, r.used)) (λ p. record { left = p.0; used = p.1 }) (λ _. refl)

abbrev pub heap_code : Coded HeapValue
heap_code =
    code_by
    (Config × (Graph × (List Room × (List ℕ × (FinMap nat_cmp (List ℕ) × List (List ℕ))))))
    (coded× config_code (coded× graph_code (coded× (coded_list room_code) (coded× (coded_list coded_ℕ) (coded× (code coded_ℕ (coded_list coded_ℕ)) (coded_list (coded_list coded_ℕ)))))))
    (λ h. (h.config, (h.graph, (h.rooms, (h.free, (h.large_blocks, h.remembered))))))
    (λ p. record { config = p.0; graph = p.1.0; rooms = p.1.1.0; free = p.1.1.1.0; large_blocks = p.1.1.1.1.0; remembered = p.1.1.1.1.1 })
    (λ _. refl)

-- how many blocks are set aside for nurseries
abbrev pub nursery_count : Config → ℕ
nursery_count config = config.mutators * config.nursery_blocks

-- a heap with no object: the blocks after those of the nurseries are free
abbrev pub empty_heap : Config → HeapValue
empty_heap config =
    record {
      config = config;
      graph = empty_graph;
      rooms = full_rooms config;
      free = numbers_from (nursery_count config) (config.blocks - nursery_count config);
      large_blocks = empty;
      remembered = replicate config.shape.generations [];
    }
