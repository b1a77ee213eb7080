-- Word cells and their passes, as contracts see them.
use Rattle.std.specs.Prelude.{◌≡◌, ℕ, ◌+◌, ◌<◌, ◌≤◌, []}
use Rattle.atomic_table.specs.Seated.{TableId}
use Rattle.atomic_table.specs.Table.{Me}
use Rattle.forwarding.specs.Settled.{Pairs}
use Rattle.forwarding.specs.declared.word_cells.plays.Mind.{Mind}
use Rattle.forwarding.specs.declared.word_cells.plays.Plan.{Plan}

-- which cells these are, how many they are, and how many passes were made with them
pub record WordsValue : Type 0 where
  pub id : TableId
  pub count : ℕ
  pub passes : ℕ

-- the cells of which this is a pass, the pairs that it knows, the last first, and those that it won, in order
pub record WordPassValue : Type 0 where
  pub id : TableId
  pub known : Pairs
  pub won : Pairs

-- a pass of these cells that knows nothing and has won nothing
abbrev pub fresh_pass : TableId → WordPassValue
fresh_pass id = record { id = id; known = []; won = [] }

-- what holds of the table of cells, and of the room for zeros that it keeps
pub record AreCells (id : TableId) (key plan : Plan) (room : ℕ) : Type 0 where
  pub keyed : key ≡ plan
  pub wide : id.words ≡ plan.count + 1
  pub no_slots : id.slots ≡ 0
  pub some : 0 < plan.passes
  pub roomy : plan.count ≤ room

-- what holds of a pass's seat: it has one part and no slot
pub record IsOnePass (me : Me (Unit {0}) Mind) : Type 0 where
  pub one : me.0.parts ≡ 1
  pub empty_handed : me.1 ≡ []
