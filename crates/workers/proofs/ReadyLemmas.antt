-- How callers use what a worker's run tells.
use Rattle.std.proofs.Common.{ℕ, ◌+◌, ◌≤◌, List, [], ◌∷◌, Option, Some, None, arith, length, subst, sym}
use Rattle.std.specs.Option.{option_map_or}
use Rattle.model.specs.Graph.{Graph}
use Rattle.model.specs.Destination.{Shape}
use Rattle.workers.specs.Block.{Block, Copy}
use Rattle.workers.specs.Setting.{Setting, setting_of, words_of, old_pointers}
use Rattle.workers.specs.Worker.{Worker, current_object}
use Rattle.workers.specs.WorkerSteps.{IsFree}
use Rattle.workers.specs.WorkerRun.{Took, CanAct}
use Rattle.workers.specs.Joined.{Each, Part, WasExported}
use Rattle.workers.specs.Laid.{LaidFrom}
use Rattle.workers.specs.Ready.{IsHanded, IsReady}
use Rattle.workers.proofs.Lists.{Each-at}

-- a worker's count of finished pointers is small where objects are
pub few_fields : (setting : Setting) (w : Worker) → IsReady setting w → (most : ℕ) → ((name : ℕ) → length (old_pointers setting name) ≤ most) → w.fields ≤ most
few_fields setting w r most few = go (current_object w) r.fields
  where
    go : (o : Option (ℕ × ℕ)) → w.fields ≤ option_map_or (λ (c : ℕ × ℕ). length (old_pointers setting c.0)) o 0 → w.fields ≤ most
    go None l = omega arith
    go (Some c) l = let k = few c.0 in omega arith

module _ (graph : Graph) (g : ℕ) (shape : Shape) (block_words workers : ℕ) where
  abbrev setting : Setting
  setting = setting_of graph g shape block_words workers

  -- a free worker may take what is handed on
  pub handed_takes : (w : Worker) (block : Block) → IsFree w → IsHanded graph g shape block_words workers block → CanAct setting w (Took block)
  handed_takes w block free h = (free, h.some)

  -- the label doesn't matter
  pub handed_labelled : (block : Block) (sent : Option (ℕ × ℕ)) → IsHanded graph g shape block_words workers block → IsHanded graph g shape block_words workers (record block { sent = sent })
  handed_labelled block sent h = record { live = h.live; laid = record { from = h.laid.from; within = h.laid.within }; rest = h.rest; some = h.some }

  -- what was exported is handed where its exporter's exports are
  pub handed_exported : (parts : List Part) (block : Block) (from : WasExported parts block) → Each (IsHanded graph g shape block_words workers) from.part.history.exported → IsHanded graph g shape block_words workers block
  handed_exported parts block from h =
      subst (IsHanded graph g shape block_words workers) (sym from.same)
      (handed_labelled from.sent (Some (from.u, from.i)) (Each-at (IsHanded graph g shape block_words workers) from.part.history.exported from.i from.sent from.there h))

  -- nor does it matter how many workers there are
  module _ (others : ℕ) where
    laid_alike : (number destination offset : ℕ) (cs : List Copy) → LaidFrom setting number destination offset cs → LaidFrom (setting_of graph g shape block_words others) number destination offset cs
    laid_alike number destination offset [] h = tt
    laid_alike number destination offset (c ∷ cs) h = (record { place = h.0.place; goes = h.0.goes; has_words = h.0.has_words; size = h.0.size; plain = h.0.plain }, laid_alike number destination (offset + words_of setting c.name) cs h.1)

    pub handed_alike : (block : Block) → IsHanded graph g shape block_words workers block → IsHanded graph g shape block_words others block
    handed_alike block h = record { live = h.live; laid = record { from = laid_alike block.number block.destination 0 block.copies h.laid.from; within = h.laid.within }; rest = h.rest; some = h.some }

    pub ready_alike : (w : Worker) → IsReady setting w → IsReady (setting_of graph g shape block_words others) w
    ready_alike w r =
        record {
          look = λ can. r.look (record { no_proposal = can.no_proposal; slot = can.slot });
          race = r.race;
          scan = λ can. r.scan (record { no_proposal = can.no_proposal; hand = can.hand; no_slot = can.no_slot });
          untouched = r.untouched;
          room = r.room;
          young = r.young;
          fields = r.fields;
        }
