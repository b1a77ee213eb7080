-- A machine of which one member changed.
use Rattle.std.proofs.Common.{◌≡◌, ℕ, Bool, List, map, Some, Result, Ok, Err, refl, sym, ap, subst, ◌∙◌}
use Rattle.std.specs.Prelude.{slice_get, slice_set, slice_index_or, count_by, OnOk, OnErr}
use Rattle.block_pool.specs.ClaimsValue.{SeatValue}
use Rattle.forwarding.specs.Plain.{PlainPassValue}
use Rattle.forwarding.specs.Plain.{PlainValue as PlainCellsValue}
use Rattle.pending_queues.specs.PlainValue.{PlainValue as PlainQueuesValue}
use Rattle.steps.specs.HeapValue.{HeapValue}
use Rattle.steps.specs.CollectionValue.{CollectionValue}
use Rattle.scavenge.specs.Handed.{CopiesKeyValue}
use Rattle.workers.specs.Block.{Block}
use Rattle.workers.specs.Worker.{Worker}
use Rattle.workers.specs.WorkerRun.{History, Act, after, CanAct, noted, go}
use Rattle.workers.specs.System.{System, Event}
use Rattle.workers.specs.Steps.{IsAwake, with_worker, Step}
use Rattle.workers.specs.Lawful.{IsLawful, MayAct}
use Rattle.workers.specs.Joined.{Each}
use Rattle.workers.specs.Ready.{IsHanded}
use Rattle.scavenge.specs.Shown.{WorkspaceValue}
use Rattle.scavenge.specs.Waiting.{left_of}
use Rattle.machine.specs.InterleavedValue.{InterleavedValue, MemberValue, Goes, Stays, worker_of, queue_in, exports_in, forwarded_in, system_of, setting_for, setting_in}
use Rattle.machine.specs.IsInterleaved.{IsInterleaved, IsMember, HasWorked, AreForwarded, AreDrawn, AreQueued, HasReached}
use Rattle.machine.proofs.Places.{found, set-each, length-set, map-set, map-set_same, index-or, set-again}
use Rattle.machine.proofs.Takers.{AreTakers, takers_same}
use Rattle.machine.proofs.Reaching.{reached_by, reached_still}

abbrev pub with_member : InterleavedValue → ℕ → MemberValue → InterleavedValue
with_member v t m = record v { members = slice_set v.members t m }

abbrev pub acting : MemberValue → Worker → MemberValue
acting m w = record m { workspace = record m.workspace { worker = w } }

-- what was taken in a collection is as workers hand it on
abbrev pub AreTaken : HeapValue → CollectionValue → ℕ → History → Type 0
AreTaken heap c n h = Each (IsHanded heap.graph c.generation heap.config.shape heap.config.block_words n) h.taken

-- the worker did one thing more
pub worked_on : (heap : HeapValue) (c : CollectionValue) (n t : ℕ) (w : Worker) (act : Act) → HasWorked heap c n t w → CanAct (setting_for heap c n) w act
    → ((h : History) → AreTaken heap c n h → AreTaken heap c n (noted (setting_for heap c n) w act h)) → HasWorked heap c n t (after (setting_for heap c n) w act)
worked_on heap c n t w act k can handed = record { history = noted (setting_for heap c n) w act k.history; run = go act k.run can; taken = handed k.history k.taken }

-- the member after an act, whose seat, sizes and claim are as before
pub member_on : (heap : HeapValue) (c : CollectionValue) (n t : ℕ) (m : MemberValue) (act : Act) → IsMember heap c n t m → CanAct (setting_for heap c n) m.workspace.worker act
    → ((h : History) → AreTaken heap c n h → AreTaken heap c n (noted (setting_for heap c n) m.workspace.worker act h)) → IsMember heap c n t (acting m (after (setting_for heap c n) m.workspace.worker act))
member_on heap c n t m act k can handed = record { seat = k.seat; config = k.config; names = k.names; claim = k.claim; worked = worked_on heap c n t m.workspace.worker act k.worked can handed }

abbrev pub renewed : InterleavedValue → PlainCellsValue → PlainPassValue → SeatValue → PlainQueuesValue CopiesKeyValue → ℕ → MemberValue → InterleavedValue
renewed v cells pass draws queues t m = record v { cells = cells; pass = pass; draws = draws; queues = queues; members = slice_set v.members t m }

-- what the members share changed, and one of them
pub renews : (v : InterleavedValue) → IsInterleaved v → (t : ℕ) (m m' : MemberValue) → slice_get v.members t ≡ Some m → (cells : PlainCellsValue) (pass : PlainPassValue) (draws : SeatValue) (queues : PlainQueuesValue CopiesKeyValue)
    → AreForwarded v.heap v.collection cells pass → AreDrawn v.heap v.claims draws → AreQueued v.heap v.collection v.workers queues → m'.idle ≡ m.idle → IsMember v.heap v.collection v.workers t m' → AreTakers queues.lanes (slice_set v.members t m') → HasReached (renewed v cells pass draws queues t m') → IsInterleaved (renewed v cells pass draws queues t m')
renews v k t m m' at cells pass draws queues forwarded drawn queued same member takers reached =
    record {
      ready = k.ready;
      some = k.some;
      most = k.most;
      count = length-set v.members t m' ∙ k.count;
      idlers = k.idlers ∙ ap (λ bs. count_by (λ b. b) bs) (sym (map-set_same (λ (x : MemberValue). x.idle) v.members t m m' at same));
      cells = forwarded;
      draws = drawn;
      queue = queued;
      each = set-each (IsMember v.heap v.collection v.workers) v.members t m' k.each member;
      reached = reached;
      takers = takers;
    }

-- neither cells nor draws nor queues had a part in it
pub acted_alone : (v : InterleavedValue) → IsInterleaved v → (t : ℕ) (m : MemberValue) → slice_get v.members t ≡ Some m → (act : Act) → CanAct (setting_in v) m.workspace.worker act
    → ((h : History) → AreTaken v.heap v.collection v.workers h → AreTaken v.heap v.collection v.workers (noted (setting_in v) m.workspace.worker act h)) → HasReached (with_member v t (acting m (after (setting_in v) m.workspace.worker act))) → IsInterleaved (with_member v t (acting m (after (setting_in v) m.workspace.worker act)))
acted_alone v k t m at act can handed reached =
    renews v k t m (acting m (after (setting_in v) m.workspace.worker act)) at v.cells v.pass v.draws v.queues k.cells k.draws k.queue refl (member_on v.heap v.collection v.workers t m act (k.each t m at) can handed)
    (takers_same v.members t m (acting m (after (setting_in v) m.workspace.worker act)) at v.queues.lanes refl k.takers) reached

abbrev system : List (ℕ × ℕ) → List ℕ → List Worker → List (List Block) → List (List Block) → List (List (ℕ × ℕ)) → List Bool → List Bool → System
system forwarded free workers queues exported taken idle ended = record { forwarded = forwarded; free = free; workers = workers; queues = queues; exported = exported; taken = taken; idle = idle; ended = ended }

-- the system after that, of a member whose flags are as before
pub system-renewed : (v : InterleavedValue) (cells : PlainCellsValue) (pass : PlainPassValue) (draws : SeatValue) (queues : PlainQueuesValue CopiesKeyValue) (t : ℕ) (m m' : MemberValue) → slice_get v.members t ≡ Some m → m'.idle ≡ m.idle → m'.ended ≡ m.ended
    → system_of (renewed v cells pass draws queues t m')
    ≡ (let s : System = record (system_of v) {
      forwarded = forwarded_in v.heap v.collection pass;
      free = left_of v.claims.source.free draws.drawn;
      workers = slice_set (system_of v).workers t m'.workspace.worker;
      queues = map (queue_in v.heap.config.shape) queues.lanes;
      exported = map (exports_in v.heap.config.shape) queues.lanes;
      taken = slice_set (system_of v).taken t m'.taken;
    } in s)
system-renewed v cells pass draws queues t m m' at idle ended =
    ap (λ ws. system fs free ws qs es (map (λ (x : MemberValue). x.taken) ms) (map (λ (x : MemberValue). x.idle) ms) (map (λ (x : MemberValue). x.ended) ms)) (map-set worker_of v.members t m')
    ∙ ap (λ ts. system fs free (slice_set (system_of v).workers t m'.workspace.worker) qs es ts (map (λ (x : MemberValue). x.idle) ms) (map (λ (x : MemberValue). x.ended) ms)) (map-set (λ (x : MemberValue). x.taken) v.members t m')
    ∙ ap (λ is. system fs free (slice_set (system_of v).workers t m'.workspace.worker) qs es (slice_set (system_of v).taken t m'.taken) is (map (λ (x : MemberValue). x.ended) ms)) (map-set_same (λ (x : MemberValue). x.idle) v.members t m m' at idle)
    ∙ ap (λ is. system fs free (slice_set (system_of v).workers t m'.workspace.worker) qs es (slice_set (system_of v).taken t m'.taken) (system_of v).idle is) (map-set_same (λ (x : MemberValue). x.ended) v.members t m m' at ended)
  where
    fs : List (ℕ × ℕ)
    fs = forwarded_in v.heap v.collection pass

    free : List ℕ
    free = left_of v.claims.source.free draws.drawn

    qs : List (List Block)
    qs = map (queue_in v.heap.config.shape) queues.lanes

    es : List (List Block)
    es = map (exports_in v.heap.config.shape) queues.lanes

    ms : List MemberValue
    ms = slice_set v.members t m'

-- where its taken list is as before too
pub taken-same : (v : InterleavedValue) (t : ℕ) (m : MemberValue) → slice_get v.members t ≡ Some m → slice_set (system_of v).taken t m.taken ≡ (system_of v).taken
taken-same v t m at = sym (map-set (λ (x : MemberValue). x.taken) v.members t m) ∙ map-set_same (λ (x : MemberValue). x.taken) v.members t m m at refl

pub system-acting : (v : InterleavedValue) (t : ℕ) (m : MemberValue) (w : Worker) → slice_get v.members t ≡ Some m → system_of (with_member v t (acting m w)) ≡ with_worker (system_of v) t w
system-acting v t m w at =
    system-renewed v v.cells v.pass v.draws v.queues t m (acting m w) at refl refl
    ∙ ap (λ ts. (let s : System = record (system_of v) { workers = slice_set (system_of v).workers t w; taken = ts } in s)) (taken-same v t m at)

-- worker t of the system is a member
pub record IsAt (v : InterleavedValue) (t : ℕ) (worker : Worker) : Type 0 where
  pub member : MemberValue
  pub there : slice_get v.members t ≡ Some member
  pub is : worker ≡ worker_of member

pub is_at : (v : InterleavedValue) (t : ℕ) (worker : Worker) → slice_get (system_of v).workers t ≡ Some worker → IsAt v t worker
is_at v t worker e = let f = found worker_of v.members t worker e in record { member = f.0; there = f.1.0; is = f.1.1 }

-- the event came, and what holds of a collection by several workers lasts
abbrev pub Does : Event → InterleavedValue → InterleavedValue → Type 0
Does event v next = IsInterleaved next × Goes event v next

-- worker t of the system is this member, isn't idle, and is in such a state
pub record IsIn (P : Worker → Type 0) (v : InterleavedValue) (t : ℕ) (m : MemberValue) : Type 0 where
  pub there : slice_get v.members t ≡ Some m
  pub awake : IsAwake (system_of v) t m.workspace.worker
  pub can : P m.workspace.worker

pub is_in : (P : Worker → Type 0) (v : InterleavedValue) (t : ℕ) (m : MemberValue) → m ≡ slice_index_or v.members t m → MayAct P (system_of v) t → IsIn P v t m
is_in P v t m is may =
    let a = is_at v t may.worker may.at.is in
    let same : m ≡ a.member = is ∙ index-or v.members t a.member m a.there in
    let one : may.worker ≡ worker_of m = a.is ∙ ap worker_of (sym same) in
    record {
      there = a.there ∙ ap (λ x. Some x) (sym same);
      awake = subst (IsAwake (system_of v) t) one may.at;
      can = subst P one may.can;
    }

-- what came keeps what holds, and so does what didn't
pub doing : (event : Event) (v next : InterleavedValue) → IsInterleaved v → (HasReached next → IsInterleaved next) → Goes event v next → Does event v next
doing event v next k keeps goes = (keeps (reached_by event v next k.reached goes), goes)

pub staying : (v next : InterleavedValue) → IsInterleaved v → (HasReached next → IsInterleaved next) → Stays v next → IsInterleaved next × Stays v next
staying v next k keeps stays = (keeps (reached_still v next k.reached stays), stays)

-- the worker acted by itself
pub does_alone : (event : Event) (v : InterleavedValue) → IsInterleaved v → (t : ℕ) (m : MemberValue) → slice_get v.members t ≡ Some m → (act : Act) → CanAct (setting_in v) m.workspace.worker act
    → ((h : History) → AreTaken v.heap v.collection v.workers h → AreTaken v.heap v.collection v.workers (noted (setting_in v) m.workspace.worker act h))
    → (new : WorkspaceValue) → new ≡ record m.workspace { worker = after (setting_in v) m.workspace.worker act }
    → Step (setting_in v) (system_of v) event (with_worker (system_of v) t (after (setting_in v) m.workspace.worker act)) → Does event v (with_member v t (record m { workspace = new }))
does_alone event v k t m at act can handed new is step =
    subst (λ (w : WorkspaceValue). Does event v (with_member v t (record m { workspace = w }))) (sym is) (doing event v next k (acted_alone v k t m at act can handed) goes)
  where
    next : InterleavedValue
    next = with_member v t (acting m (after (setting_in v) m.workspace.worker act))

    goes : Goes event v next
    goes =
        record {
          heap = refl;
          collection = refl;
          workers = refl;
          step = subst (Step (setting_in v) (system_of v) event) (sym (system-acting v t m (after (setting_in v) m.workspace.worker act) at)) step;
        }

-- what holds of a collection by several workers and what came, of the same machine as its calls see it
pub lawful_as : {v now : InterleavedValue} (event : Event) → v ≡ now → IsLawful (setting_in now) (system_of now) event → IsLawful (setting_in v) (system_of v) event
lawful_as event e lawful = subst (λ (x : InterleavedValue). IsLawful (setting_in x) (system_of x) event) (sym e) lawful

pub goes_as : {v now next : InterleavedValue} {event : Event} → v ≡ now → Goes event v next → Goes event now next
goes_as {next = next} {event = event} e goes = subst (λ (x : InterleavedValue). Goes event x next) e goes

pub stays_as : {v now next : InterleavedValue} → v ≡ now → Stays v next → Stays now next
stays_as {next = next} e stays = subst (λ (x : InterleavedValue). Stays x next) e stays

-- the member behind a reference is the one at its place
pub behind : {shown now : MemberValue} (ms : List MemberValue) (t : ℕ) → shown ≡ now → now ≡ slice_index_or ms t now → shown ≡ slice_index_or ms t shown
behind ms t e is = subst (λ (m : MemberValue). m ≡ slice_index_or ms t m) (sym e) is

-- the call succeeded, or changed nothing
pub either_alone : {X E P : Type 0} (v : InterleavedValue) → IsInterleaved v → (t : ℕ) (m : MemberValue) → slice_get v.members t ≡ Some m → (new : WorkspaceValue) (r : Result X E) → OnOk r P → OnErr r (new ≡ m.workspace)
    → (P → IsInterleaved (with_member v t (record m { workspace = new }))) → IsInterleaved (with_member v t (record m { workspace = new }))
either_alone v k t m at new (Ok x) ok err f = f ok
either_alone v k t m at new (Err e) ok err f =
    subst (λ (w : WorkspaceValue). IsInterleaved (with_member v t (record m { workspace = w }))) (sym err)
    (subst (λ ms. IsInterleaved (record v { members = ms })) (sym (set-again v.members t m at)) k)

pub on_ok : {X E P Q : Type 0} (r : Result X E) → (P → Q) → OnOk r P → OnOk r Q
on_ok (Ok x) f p = f p
on_ok (Err x) f p = p
