-- What a worker does by itself.
use Rattle.std.proofs.Common.{◌≡◌, ℕ, refl}
use Rattle.std.specs.Prelude.{slice_index_or}
use Rattle.workers.specs.WorkerSteps.{after_own, after_own_large, after_scan}
use Rattle.workers.specs.WorkerRun.{Owned, OwnedLarge, Scanned}
use Rattle.workers.specs.System.{Own, OwnLarge, Scan}
use Rattle.workers.specs.Lawful.{IsLawful}
use Rattle.scavenge.specs.Shown.{WorkspaceValue}
use Rattle.machine.specs.InterleavedValue.{InterleavedValue, MemberValue, system_of, setting_in}
use Rattle.machine.specs.IsInterleaved.{IsInterleaved}
use Rattle.machine.proofs.Members.{Does, with_member, is_in, does_alone}

module _ (v : InterleavedValue) (k : IsInterleaved v) (t : ℕ) (m : MemberValue) (is : m ≡ slice_index_or v.members t m) (new : WorkspaceValue) where
  pub own_does : (d : ℕ) → IsLawful (setting_in v) (system_of v) (Own t d) → new ≡ record m.workspace { worker = after_own m.workspace.worker d } → Does (Own t d) v (with_member v t (record m { workspace = new }))
  own_does d lawful new_is =
      let i = is_in _ v t m is lawful in
      does_alone (Own t d) v k t m i.there (Owned d) i.can (λ h l. l) new new_is (record { worker = m.workspace.worker; at = i.awake; free = i.can.0; work = i.can.1; change = refl })

  pub own_large_does : IsLawful (setting_in v) (system_of v) (OwnLarge t) → new ≡ record m.workspace { worker = after_own_large m.workspace.worker } → Does (OwnLarge t) v (with_member v t (record m { workspace = new }))
  own_large_does lawful new_is =
      let i = is_in _ v t m is lawful in
      does_alone (OwnLarge t) v k t m i.there OwnedLarge i.can (λ h l. l) new new_is (record { worker = m.workspace.worker; at = i.awake; free = i.can.0; work = i.can.1; change = refl })

  pub scan_does : IsLawful (setting_in v) (system_of v) (Scan t) → new ≡ record m.workspace { worker = after_scan m.workspace.worker } → Does (Scan t) v (with_member v t (record m { workspace = new }))
  scan_does lawful new_is =
      let i = is_in _ v t m is lawful in
      does_alone (Scan t) v k t m i.there Scanned i.can (λ h l. l) new new_is (record { worker = m.workspace.worker; at = i.awake; can = i.can; change = refl })
