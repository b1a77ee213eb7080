-- `refuses_next` and `counts_return` at a call: what they are handed, and what a caller has of it. Assumes `Logic`.
use Rattle.std.proofs.Common.{◌≡◌, ℕ, ◌^◌, ◌<◌, Bool, List, [], ◌∷◌, refl, ap}
use seplogic.Ra.Ura.{Ura}
use mir.Syntax.{w64}
use mir.Val.{Val, vunit, vbool, vint, vptr}
use base.Logic.{SProp, ent, ex, sep, guard, id⊢}
use base.Fml.{Lft, Share, ftrue, fsep, flft}
use prog.Memory.{Memory}
use prog.Routine.{Routine}
use types.Logic.{Logic, sem}
use contract.Monad.{Fun}
use types.Kit.{‵, ◌⊛◌, raw, some, later, ◌$◌, ◌∵◌, !, qed, move, keep, use1, split, join, pick, show, fjoin, feq_i, feq_l, flt_i, check, await, updating, now as at_once, done}
use denote.Memory.{hidden_shr}
use denote.Builtin.{bool, unit}
use denote.Steps.{nothing, only}
use denote.Triple.Statement.{Contract}
use denote.Triple.Spec.{triple_of}
use Rattle.refusing.specs.declared.Requests.{Requests}
use Rattle.refusing.specs.contracts.Requests as RQ
use Rattle.refusing.specs.contracts.refuses_next as RF
use Rattle.refusing.specs.contracts.counts_return as TK

module _ {M : Type 1} {𝓤 : Ura M} (𝓛 : Logic 𝓤) (at_mem : Memory → SProp 𝓤) (run : Routine → Fun 𝓤) where
  abbrev pub Tick : Contract 𝓤
  Tick = triple_of 𝓛 TK.signature (TK.spec 𝓛 at_mem run)

  abbrev pub Asks : Contract 𝓤
  Asks = triple_of 𝓛 RF.signature (RF.spec 𝓛 at_mem run)

  abbrev pub at_tick : Lft → Share → ℕ × ℕ → Requests → ℕ → Tick.Ghost
  at_tick κ q c g s = (((κ, tt), (q, tt), tt, (record { ref_ptr = c; now = g }, (s, tt)), (vptr c.0 c.1 ∷ [], (vint w64 s ∷ [], tt))), tt)

  abbrev pub at_asks : Lft → Share → ℕ × ℕ → Requests → ℕ → Asks.Ghost
  at_asks κ q c g s = (((κ, tt), (q, tt), tt, (record { ref_ptr = c; now = g }, (s, tt)), (vptr c.0 c.1 ∷ [], (vint w64 s ∷ [], tt))), tt)

module _ {M : Type 1} {𝓤 : Ura M} (𝓛 : Logic 𝓤) (at_mem : Memory → SProp 𝓤) (run : Routine → Fun 𝓤) (κ : Lft) (q : Share) (c : ℕ × ℕ) (g : Requests) (s : ℕ) where
  open 𝓛 use {H, A}

  pub Tick-goes : s < 2 ^ 64 → ent 𝓤 (sep 𝓤 (sem 𝓛 (hidden_shr RQ.the_row κ g c.0 c.1)) (A.lft κ q)) ((Tick 𝓛 at_mem run).pre (at_tick 𝓛 at_mem run κ q c g s))
  Tick-goes fits =
      qed 𝓛 (‵ (hidden_shr RQ.the_row κ g c.0 c.1) ∷ ‵ (flft κ q) ∷ []) ∵ nothing ! $ flt_i ! s (2 ^ 64) fits $ feq_i ! (List Val) (vint w64 s ∷ []) (vint w64 s ∷ []) refl $ fjoin ! $ fjoin ! $
      move ! (1 ∷ []) $ feq_i ! (List Val) (vptr c.0 c.1 ∷ []) (vptr c.0 c.1 ∷ []) refl $ fjoin ! $ fjoin ! $ nothing ! $ move ! (2 ∷ []) $ join ! $ join ! $ nothing ! $ move ! (1 ∷ []) $ done !

  pub Asks-goes : s < 2 ^ 64 → ent 𝓤 (sep 𝓤 (sem 𝓛 (hidden_shr RQ.the_row κ g c.0 c.1)) (A.lft κ q)) ((Asks 𝓛 at_mem run).pre (at_asks 𝓛 at_mem run κ q c g s))
  Asks-goes fits =
      qed 𝓛 (‵ (hidden_shr RQ.the_row κ g c.0 c.1) ∷ ‵ (flft κ q) ∷ []) ∵ nothing ! $ flt_i ! s (2 ^ 64) fits $ feq_i ! (List Val) (vint w64 s ∷ []) (vint w64 s ∷ []) refl $ fjoin ! $ fjoin ! $
      move ! (1 ∷ []) $ feq_i ! (List Val) (vptr c.0 c.1 ∷ []) (vptr c.0 c.1 ∷ []) refl $ fjoin ! $ fjoin ! $ nothing ! $ move ! (2 ∷ []) $ join ! $ join ! $ nothing ! $ move ! (1 ∷ []) $ done !

  pub Tick-gives : (v : Val) → ent 𝓤 ((Tick 𝓛 at_mem run).post (at_tick 𝓛 at_mem run κ q c g s) v) (H.⇛ (guard 𝓤 (v ≡ vunit) (A.lft κ q)))
  Tick-gives v =
      qed 𝓛 (raw ((Tick 𝓛 at_mem run).post (at_tick 𝓛 at_mem run κ q c g s) v) ∷ []) ∵ updating ! $
      use1 𝓛 (later (some (λ (r : Unit {0}). ((‵ (flft κ q) ⊛ ‵ ftrue) ⊛ ‵ (unit.own_val r (v ∷ []))) ⊛ some (λ (ws : Unit {0} × (Unit {0} × Unit {0})). ‵ (fsep ftrue (fsep ftrue ftrue)) ⊛ ‵ ftrue)))) (id⊢ 𝓤 _) $ await ! tt $ pick ! (λ r.
      split ! $ split ! $ move ! (1 ∷ []) $ feq_l ! (λ e. split ! $ at_once ! $ check ! (ap only e) $ keep ! (0 ∷ []) $ done !))

  pub Asks-gives : (v : Val) → ent 𝓤 ((Asks 𝓛 at_mem run).post (at_asks 𝓛 at_mem run κ q c g s) v) (H.⇛ (ex 𝓤 (λ (y : Bool). guard 𝓤 (v ≡ vbool y) (A.lft κ q))))
  Asks-gives v =
      qed 𝓛 (raw ((Asks 𝓛 at_mem run).post (at_asks 𝓛 at_mem run κ q c g s) v) ∷ []) ∵ updating ! $
      use1 𝓛 (later (some (λ (r : Bool). ((‵ (flft κ q) ⊛ ‵ ftrue) ⊛ ‵ (bool.own_val r (v ∷ []))) ⊛ some (λ (ws : Unit {0} × (Unit {0} × Unit {0})). ‵ (fsep ftrue (fsep ftrue ftrue)) ⊛ ‵ ftrue)))) (id⊢ 𝓤 _) $ await ! tt $ pick ! (λ r.
      split ! $ split ! $ move ! (1 ∷ []) $ feq_l ! (λ e. split ! $ at_once ! $ show ! (λ (y : Bool). guard 𝓤 (v ≡ vbool y) (A.lft κ q)) r $ check ! (ap only e) $ keep ! (0 ∷ []) $ done !))
