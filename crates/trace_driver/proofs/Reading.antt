-- What the getters of the matches read, by the rows.
use Rattle.std.proofs.Common.{◌≡◌, ◌∙◌, ◌<◌, ◌^◌, ℕ, ap, refl, sym, subst, List, Option, Some, None, IfSome, Bor, codes, ◌↔◌}
use Rattle.std.specs.Prelude.{Box as Boxed}
use Rattle.std.specs.Option.{option_map, unwrap_or}
use Rattle.std.specs.Box.{box_value}
use Rattle.std.specs.Str.Parse.{IsNumeral, without_leading_plus, digits_value}
use Rattle.clap.specs.Walk.{Row, Text, one_of, rows_of}
use Rattle.clap.specs.Matches.{one_text}
use Rattle.clap.specs.Simple.{subcommand_rows}
use Rattle.clap.specs.declared.parser.matches.Found.{Found}
use Rattle.clap.specs.declared.parser.matches.SubCommand.{SubCommand}
use Rattle.clap.specs.declared.parser.matches.ArgMatches.TheViews.{out-SubCommand}
use Rattle.clap.proofs.WalkLemmas.{one_text-rows}
use Rattle.trace_driver.specs.Asked.{AreCellsOf, IsNumberOf}
use Rattle.collector.specs.declared.apart.CellKind.{CellKind}
use Rattle.collector.specs.declared.apart.CellKind.TheVariants.{Box, Word}

-- the number that the text writes
abbrev Writes : Text → ℕ → Type 0
Writes text n = IsNumeral 10 (without_leading_plus text) × (n ≡ digits_value 10 (without_leading_plus text)) × (n < 2 ^ 64)

-- the text is a numeral of 64 bits, as `u64` reads it
abbrev IsWritten : Text → Type 0
IsWritten text = IsNumeral 10 (without_leading_plus text) × (digits_value 10 (without_leading_plus text) < 2 ^ 64)

pub writes : (text : Text) (n : ℕ) → IsWritten text → n ≡ digits_value 10 (without_leading_plus text) → Writes text n
writes text n is e = (is.0, e, subst (λ (k : ℕ). k < 2 ^ 64) (sym e) is.1)

is_written : (text : Text) (n : ℕ) → Writes text n → IsWritten text
is_written text n is = (is.0, subst (λ (k : ℕ). k < 2 ^ 64) is.1 is.2)

-- a number that was read is the number of the option's text
pub number_read : (found : Found) (id : Text) (n : ℕ) → (one_text found id ≡ None → Some n ≡ None) → ((t : Text) → one_text found id ≡ Some t → Writes t n)
    → IsNumberOf (one_of id (rows_of found)) n
number_read found id n none value = subst (λ (o : Option Text). IsNumberOf o n) (one_text-rows found id) (go (one_text found id) none value)
  where
    go : (o : Option Text) → (o ≡ None → Some n ≡ None) → ((t : Text) → o ≡ Some t → Writes t n) → IsNumberOf o n
    go None none value = let e = none refl in cc
    go (Some t) none value = value t refl

-- where no number was read, there is none
pub no_number_read : (found : Found) (id : Text) → ((t : Text) → one_text found id ≡ Some t → IsWritten t → ⊥) → (n : ℕ) → IsNumberOf (one_of id (rows_of found)) n → ⊥
no_number_read found id none n is = go (one_text found id) none (subst (λ (o : Option Text). IsNumberOf o n) (sym (one_text-rows found id)) is)
  where
    go : (o : Option Text) → ((t : Text) → o ≡ Some t → IsWritten t → ⊥) → IsNumberOf o n → ⊥
    go None none is = is
    go (Some t) none is = none t refl (is_written t n is)

-- the cells that were read are those that the value names
by_none : (r : Option CellKind) → r ≡ Some Word → IfSome r (AreCellsOf None)
by_none None e = tt
by_none (Some cells) e = cc

by_text : (text : Text) (r : Option CellKind) → (r ≡ Some Box → text ≡ codes "box") → (r ≡ Some Word → text ≡ codes "word") → IfSome r (AreCellsOf (Some text))
by_text text None boxed words = tt
by_text text (Some Box) boxed words = boxed refl
by_text text (Some Word) boxed words = words refl

pub cells_read : (o : Option (Bor Text)) (found : Option Text) (chosen word : Bor Text) (r : Option CellKind) → option_map (λ s. s.now) o ≡ found → chosen ≡ unwrap_or o word
    → word.now ≡ codes "word" → ((r ≡ Some Box) ↔ (chosen.now ≡ codes "box")) → ((r ≡ Some Word) ↔ (chosen.now ≡ codes "word")) → IfSome r (AreCellsOf found)
cells_read None found chosen word r e is w boxed words =
    subst (λ (t : Option Text). IfSome r (AreCellsOf t)) e (by_none r (words.1 (ap (λ (s : Bor Text). s.now) is ∙ w)))
cells_read (Some s) found chosen word r e is w boxed words =
    let same : chosen.now ≡ s.now = ap (λ (s : Bor Text). s.now) is in
    subst (λ (t : Option Text). IfSome r (AreCellsOf t)) e (by_text s.now r (λ h. sym same ∙ boxed.0 h) (λ h. sym same ∙ words.0 h))

-- where no cells were read, there are none
no_cells_by_text : (text : Text) (r : Option CellKind) → (text ≡ codes "box" → r ≡ Some Box) → (text ≡ codes "word" → r ≡ Some Word) → r ≡ None
    → (cells : CellKind) → AreCellsOf (Some text) cells → ⊥
no_cells_by_text text r boxed words none Box is = let e = sym none ∙ boxed is in cc
no_cells_by_text text r boxed words none Word is = let e = sym none ∙ words is in cc

pub no_cells_read : (o : Option (Bor Text)) (found : Option Text) (chosen word : Bor Text) (r : Option CellKind) → option_map (λ s. s.now) o ≡ found → chosen ≡ unwrap_or o word
    → word.now ≡ codes "word" → ((r ≡ Some Box) ↔ (chosen.now ≡ codes "box")) → ((r ≡ Some Word) ↔ (chosen.now ≡ codes "word")) → r ≡ None
    → (cells : CellKind) → AreCellsOf found cells → ⊥
no_cells_read None found chosen word r e is w boxed words none cells h =
    let e = sym none ∙ words.1 (ap (λ (s : Bor Text). s.now) is ∙ w) in
    cc
no_cells_read (Some s) found chosen word r e is w boxed words none cells h =
    let same : chosen.now ≡ s.now = ap (λ (s : Bor Text). s.now) is in
    no_cells_by_text s.now r (λ h. boxed.1 (same ∙ h)) (λ h. words.1 (same ∙ h)) none cells (subst (λ (t : Option Text). AreCellsOf t cells) (sym e) h)

module _ {Z : Type 0} where
  -- the name and the rows of a subcommand that was met, joined
  pub both_parts : (met : Option (Boxed SubCommand Z)) (name : Text) (rows : List Row) → Some name ≡ option_map (λ b. (out-SubCommand (box_value b)).name.now) met
      → Some rows ≡ option_map (λ p. p.1) (subcommand_rows met) → subcommand_rows met ≡ Some (name, rows)
  both_parts None name rows e f = cc
  both_parts (Some b) name rows e f = cc
