-- What a worker won.
use Rattle.std.proofs.Common.{◌≡◌, ℕ, true, refl, sym, subst, ◌∙◌, true≢false}
use Rattle.workers.specs.Setting.{Setting, is_collected, is_large_name}
use Rattle.workers.specs.Worker.{Worker}
use Rattle.workers.specs.WorkerRun.{History}
use Rattle.workers.specs.Joined.{Each}
use Rattle.workers.proofs.Lists.{Each-append}
use Rattle.workers.proofs.Moves.{Move, Moves, none, more, learns, copies, claims}

module _ (setting : Setting) where
  module _ (Q : ℕ × ℕ → Type 0) where
    move_known : {w w' : Worker} {h h' : History} → Move setting w h w' h' → Each Q h'.known → Each Q h.known
    move_known (learns name place y) a = a.1
    move_known _ a = a

    move_won : {w w' : Worker} {h h' : History} → Move setting w h w' h' → Each Q h.known → Each Q w.won → Each Q w'.won
    move_won {w = w} (copies d b copy rest a i q l z y to) k h = Each-append Q w.won _ h ((subst (Each Q) q k).0, tt)
    move_won {w = w} (claims n rest q l) k h = Each-append Q w.won _ h ((subst (Each Q) q k).0, tt)
    move_won _ k h = h

    -- what was won is known
    pub won_known : {s : Worker} {k : History} {w : Worker} {h : History} → Moves setting s k w h → Each Q h.known → Each Q s.won → Each Q w.won
    won_known none k h = h
    won_known (more ms m) k h = move_won m (move_known m k) (won_known ms (move_known m k) h)

  move_collected : {w w' : Worker} {h h' : History} → Move setting w h w' h' → Each (λ (q : ℕ × ℕ). is_collected setting q.0 ≡ true) h.known → Each (λ (q : ℕ × ℕ). is_collected setting q.0 ≡ true) h'.known
  move_collected (learns name place y) k = (y, k)
  move_collected _ k = k

  pub known_collected : {s : Worker} {k : History} {w : Worker} {h : History} → Moves setting s k w h → Each (λ (q : ℕ × ℕ). is_collected setting q.0 ≡ true) k.known → Each (λ (q : ℕ × ℕ). is_collected setting q.0 ≡ true) h.known
  known_collected none k = k
  known_collected (more ms m) k = move_collected m (known_collected ms k)

  -- a large object stays
  abbrev pub Stays : ℕ × ℕ → Type 0
  Stays q = is_large_name setting q.0 ≡ true → q.1 ≡ q.0

  move_stays : {w w' : Worker} {h h' : History} → Move setting w h w' h' → Each Stays w.won → Each Stays w'.won
  move_stays {w = w} (copies d b copy rest a i q l z y to) h = Each-append Stays w.won _ h ((λ e. absurd (true≢false (sym e ∙ l))), tt)
  move_stays {w = w} (claims n rest q l) h = Each-append Stays w.won _ h ((λ e. refl), tt)
  move_stays _ h = h

  pub won_stays : {s : Worker} {k : History} {w : Worker} {h : History} → Moves setting s k w h → Each Stays s.won → Each Stays w.won
  won_stays none h = h
  won_stays (more ms m) h = move_stays m (won_stays ms h)
