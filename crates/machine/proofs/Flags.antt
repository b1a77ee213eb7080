-- A machine of which one member's flag changed.
use Rattle.std.proofs.Common.{◌≡◌, ℕ, ◌+◌, ◌-◌, ◌≤◌, Bool, true, false, List, map, Some, refl, sym, ap, subst, ◌∙◌, arith}
use Rattle.std.specs.Prelude.{slice_get, slice_set, slice_index_or, count_by}
use Rattle.steps.specs.CollectionValue.{young_names}
use Rattle.workers.specs.Worker.{Worker}
use Rattle.workers.specs.System.{System, Idle, Wake, End}
use Rattle.workers.specs.Lawful.{IsLawful}
use Rattle.workers.proofs.Progress.{count-le}
use Rattle.machine.specs.InterleavedValue.{InterleavedValue, MemberValue, worker_of, system_of, setting_in}
use Rattle.layout.specs.Place.{IsLargeAt}
use Rattle.scavenge.specs.Shown.{WorkspaceValue}
use Rattle.machine.specs.IsInterleaved.{IsInterleaved, IsMember, HasWorked, HasReached}
use Rattle.machine.proofs.Places.{found, get-map, set-each, length-set, map-set, map-set_same, set-again, index-or, length-map, count-raised, count-lowered}
use Rattle.machine.proofs.Takers.{takers_same}
use Rattle.machine.proofs.Members.{Does, doing, is_in}

abbrev pub idle_in : MemberValue → Bool
idle_in m = m.idle

abbrev pub ended_in : MemberValue → Bool
ended_in m = m.ended

abbrev pub flagged : InterleavedValue → ℕ → MemberValue → ℕ → InterleavedValue
flagged v t m idlers = record v { idlers = idlers; members = slice_set v.members t m }

-- there a flag is so, and it is the one that stands there
pub there_by : (f : MemberValue → Bool) (b : Bool) (ms : List MemberValue) (t : ℕ) (m : MemberValue) → m ≡ slice_index_or ms t m → slice_get (map f ms) t ≡ Some b → (slice_get ms t ≡ Some m) × (f m ≡ b)
there_by f b ms t m is at =
    let x = found f ms t b at in
    let same : m ≡ x.0 = is ∙ index-or ms t x.0 m x.1.0 in
    (x.1.0 ∙ ap (λ y. Some y) (sym same), ap f same ∙ sym x.1.1)

module _ (v : InterleavedValue) (k : IsInterleaved v) (t : ℕ) (m m' : MemberValue) (at : slice_get v.members t ≡ Some m) (seat : m'.seat ≡ m.seat) (workspace : m'.workspace ≡ m.workspace) (taken : m'.taken ≡ m.taken) where
  member : IsMember v.heap v.collection v.workers t m'
  member =
      let old = k.each t m at in
      record {
        seat = seat ∙ old.seat;
        config = subst (λ (w : WorkspaceValue). w.config ≡ v.heap.config) (sym workspace) old.config;
        names = subst (λ (w : WorkspaceValue). w.names ≡ young_names v.heap.graph v.collection.generation) (sym workspace) old.names;
        claim = subst (λ (w : WorkspaceValue). IsLargeAt w.claim t) (sym workspace) old.claim;
        worked = subst (λ (w : WorkspaceValue). HasWorked v.heap v.collection v.workers t w.worker) (sym workspace) old.worked;
      }

  pub keeps_flagged : (idlers : ℕ) → idlers ≡ count_by (λ b. b) (slice_set (map idle_in v.members) t m'.idle) → HasReached (flagged v t m' idlers) → IsInterleaved (flagged v t m' idlers)
  keeps_flagged idlers is reached =
      record {
        ready = k.ready;
        some = k.some;
        most = k.most;
        count = length-set v.members t m' ∙ k.count;
        idlers = is ∙ ap (λ bs. count_by (λ b. b) bs) (sym (map-set idle_in v.members t m'));
        cells = k.cells;
        draws = k.draws;
        queue = k.queue;
        each = set-each (IsMember v.heap v.collection v.workers) v.members t m' k.each member;
        reached = reached;
        takers = takers_same v.members t m m' at v.queues.lanes taken k.takers;
      }

  system : List Worker → List (List (ℕ × ℕ)) → List Bool → List Bool → System
  system workers taken idle ended = record (system_of v) { workers = workers; taken = taken; idle = idle; ended = ended }

  pub system-flagged : (idlers : ℕ) → system_of (flagged v t m' idlers) ≡ (let s : System = record (system_of v) { idle = slice_set (system_of v).idle t m'.idle; ended = slice_set (system_of v).ended t m'.ended } in s)
  unfolding system
  system-flagged idlers =
      ap (λ ws. system ws (map (λ (x : MemberValue). x.taken) ms) (map idle_in ms) (map ended_in ms)) (map-set_same worker_of v.members t m m' at (ap (λ (w : WorkspaceValue). w.worker) workspace))
      ∙ ap (λ ts. system (system_of v).workers ts (map idle_in ms) (map ended_in ms)) (map-set_same (λ (x : MemberValue). x.taken) v.members t m m' at taken)
      ∙ ap (λ is. system (system_of v).workers (system_of v).taken is (map ended_in ms)) (map-set idle_in v.members t m')
      ∙ ap (λ is. system (system_of v).workers (system_of v).taken (slice_set (system_of v).idle t m'.idle) is) (map-set ended_in v.members t m')
    where
      ms : List MemberValue
      ms = slice_set v.members t m'

module _ (v : InterleavedValue) (k : IsInterleaved v) (t : ℕ) (m : MemberValue) (is : m ≡ slice_index_or v.members t m) where
  going : (at : slice_get v.members t ≡ Some m) → slice_set (system_of v).ended t m.ended ≡ (system_of v).ended
  going at = set-again (system_of v).ended t m.ended (get-map ended_in v.members t m at)

  resting : (at : slice_get v.members t ≡ Some m) → slice_set (system_of v).idle t m.idle ≡ (system_of v).idle
  resting at = set-again (system_of v).idle t m.idle (get-map idle_in v.members t m at)

  pub idle_does : IsLawful (setting_in v) (system_of v) (Idle t) → Does (Idle t) v (flagged v t (record m { idle = true }) (v.idlers + 1))
  idle_does lawful =
      let i = is_in _ v t m is lawful.0 in
      doing (Idle t) v (flagged v t (record m { idle = true }) (v.idlers + 1)) k (keeps_flagged v k t m (record m { idle = true }) i.there refl refl refl (v.idlers + 1)
      (ap (λ n. n + 1) k.idlers ∙ sym (count-raised (λ b. b) (system_of v).idle t false true i.awake.awake refl refl)))
      (record {
        heap = refl;
        collection = refl;
        workers = refl;
        step = record {
          worker = m.workspace.worker;
          at = i.awake;
          out = i.can;
          queue = lawful.1;
          change = system-flagged v k t m (record m { idle = true }) i.there refl refl refl (v.idlers + 1)
              ∙ ap (λ es. (let s : System = record (system_of v) { idle = slice_set (system_of v).idle t true; ended = es } in s)) (going i.there);
        };
      })

  pub some_idle : IsLawful (setting_in v) (system_of v) (Wake t) → 1 ≤ v.idlers
  some_idle lawful =
      let c = count-lowered (λ b. b) (system_of v).idle t true false lawful.is_idle refl refl in
      let e = k.idlers in
      omega (arith, c, e)

  pub wake_does : IsLawful (setting_in v) (system_of v) (Wake t) → Does (Wake t) v (flagged v t (record m { idle = false }) (v.idlers - 1))
  wake_does lawful =
      let i = there_by idle_in true v.members t m is lawful.is_idle in
      doing (Wake t) v (flagged v t (record m { idle = false }) (v.idlers - 1)) k (keeps_flagged v k t m (record m { idle = false }) i.0 refl refl refl (v.idlers - 1)
      (let c = count-lowered (λ b. b) (system_of v).idle t true false lawful.is_idle refl refl in let e = k.idlers in omega (arith, c, e)))
      (record {
        heap = refl;
        collection = refl;
        workers = refl;
        step = record {
          is_idle = lawful.is_idle;
          not_ended = lawful.not_ended;
          some_work = lawful.some_work;
          change = system-flagged v k t m (record m { idle = false }) i.0 refl refl refl (v.idlers - 1)
              ∙ ap (λ es. (let s : System = record (system_of v) { idle = slice_set (system_of v).idle t false; ended = es } in s)) (going i.0);
        };
      })

  pub end_does : IsLawful (setting_in v) (system_of v) (End t) → Does (End t) v (flagged v t (record m { ended = true }) v.idlers)
  end_does lawful =
      let i = there_by idle_in true v.members t m is lawful.is_idle in
      doing (End t) v (flagged v t (record m { ended = true }) v.idlers) k (keeps_flagged v k t m (record m { ended = true }) i.0 refl refl refl v.idlers
      (k.idlers ∙ ap (λ bs. count_by (λ b. b) bs) (sym (resting i.0))))
      (record {
        heap = refl;
        collection = refl;
        workers = refl;
        step = record {
          is_idle = lawful.is_idle;
          not_ended = lawful.not_ended;
          all_idle = lawful.all_idle;
          change = system-flagged v k t m (record m { ended = true }) i.0 refl refl refl v.idlers
              ∙ ap (λ is. (let s : System = record (system_of v) { idle = is; ended = slice_set (system_of v).ended t true } in s)) (resting i.0);
        };
      })

  -- no more are idle than there are
  pub few_idle : v.idlers ≤ 16
  few_idle =
      let c = count-le (system_of v).idle in
      let e = k.idlers in
      let n = length-map idle_in v.members in
      omega (arith, c, e, n, k.count, k.most)
