-- Entries whose keys rise are the entries of their map.
use Rattle.std.proofs.Common.{◌≡◌, ◌≢◌, ℕ, true, ◌+◌, ◌<◌, ◌≤◌, List, [], ◌∷◌, ◌++◌, length, None, refl, sym, ap, ◌∙◌, arith}
use Rattle.std.proofs.lemmas.Bool.{lt-ltb}
use Rattle.std.specs.Prelude.{nat_lt}
use Rattle.std.specs.Ordering.{nat_cmp}
use Rattle.std.specs.Cmp.{nat_cmp_total}
use Rattle.std.specs.FinMap.{find, put, empty, entries, from_entries, entries-insert, len-entries, len-empty}
use Rattle.model.proofs.NatMap.{find_other}

-- each key is above those before it, and none is below low
abbrev pub KeysRise : {X : Type 0} → ℕ → List (ℕ × X) → Type 0
KeysRise low [] = Unit {0}
KeysRise low (e ∷ es) = (low ≤ e.0) × KeysRise (e.0 + 1) es

-- each key is below high
abbrev pub KeysBelow : {X : Type 0} → ℕ → List (ℕ × X) → Type 0
KeysBelow high [] = Unit {0}
KeysBelow high (e ∷ es) = (e.0 < high) × KeysBelow high es

module _ {X : Type 0} where
  pub KeysRise-weaker : (low high : ℕ) (es : List (ℕ × X)) → low ≤ high → KeysRise high es → KeysRise low es
  KeysRise-weaker low high [] h r = tt
  KeysRise-weaker low high (e ∷ es) h r = (omega (arith, r.0), r.1)

  pub find_below : (q low : ℕ) (es : List (ℕ × X)) → q < low → KeysRise low es → find nat_cmp q es ≡ None
  find_below q low [] h r = refl
  find_below q low (e ∷ es) h r =
      let ne : q ≢ e.0 = omega (arith, r.0) in
      find_other q e.0 e.1 es ne ∙ find_below q (e.0 + 1) es (omega (arith, r.0)) r.1

  pub put_first : (k : ℕ) (v : X) (es : List (ℕ × X)) → KeysRise (k + 1) es → put nat_cmp k v es ≡ (k, v) ∷ es
  put_first k v [] r = refl
  put_first k v (e ∷ es) r = let lt : nat_lt k e.0 ≡ true = lt-ltb k e.0 (omega (arith, r.0)) in rw lt refl

  no_length : (es : List (ℕ × X)) → length es ≡ 0 → es ≡ []
  no_length [] e = refl
  no_length (x ∷ es) e = absurd (omega arith)

  pub entries-empty : entries (empty {X = X} {R = nat_cmp}) ≡ []
  entries-empty = no_length (entries empty) (sym (len-entries empty) ∙ len-empty nat_cmp X)

  pub entries-from_entries : (low : ℕ) (es : List (ℕ × X)) → KeysRise low es → entries (from_entries {R = nat_cmp} es) ≡ es
  entries-from_entries low [] r = entries-empty
  entries-from_entries low (e ∷ es) r =
      entries-insert nat_cmp_total (from_entries es) e.0 e.1
      ∙ ap (put nat_cmp e.0 e.1) (entries-from_entries (e.0 + 1) es r.1)
      ∙ put_first e.0 e.1 es r.1

  pub KeysRise-append : (low mid : ℕ) (es fs : List (ℕ × X)) → low ≤ mid → KeysRise low es → KeysBelow mid es → KeysRise mid fs → KeysRise low (es ++ fs)
  KeysRise-append low mid [] fs h r b s = KeysRise-weaker low mid fs h s
  KeysRise-append low mid (e ∷ es) fs h r b s = (r.0, KeysRise-append (e.0 + 1) mid es fs (omega (arith, b.0)) r.1 b.1 s)

  pub KeysBelow-weaker : (low high : ℕ) (es : List (ℕ × X)) → low ≤ high → KeysBelow low es → KeysBelow high es
  KeysBelow-weaker low high [] h b = tt
  KeysBelow-weaker low high (e ∷ es) h b = (omega (arith, b.0), KeysBelow-weaker low high es h b.1)

  pub KeysBelow-append : (high : ℕ) (es fs : List (ℕ × X)) → KeysBelow high es → KeysBelow high fs → KeysBelow high (es ++ fs)
  KeysBelow-append high [] fs a b = b
  KeysBelow-append high (e ∷ es) fs a b = (a.0, KeysBelow-append high es fs a.1 b)
