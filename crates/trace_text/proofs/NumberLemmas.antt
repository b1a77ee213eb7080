-- The number that digits write.
use Rattle.std.proofs.Common.{◌≡◌, ℕ, ◌<◌, ◌^◌, true, false, List, length, Result, Ok, Err, refl, rules}
use Rattle.std.specs.Str.{IsUtf8}
use Rattle.std.specs.Str.Parse.{digits_value, ParsesUnsigned}
use Rattle.std.specs.List.{list_all}
use Rattle.std.specs.Char.{is_ascii_digit}
use Rattle.std.proofs.lemmas.Str.Parse.{IsNumeralModel, numerals_by_value, parse_digits}
use Rattle.std.proofs.lemmas.Str.{IsUtf8-from_ascii}
use Rattle.std.proofs.lemmas.Fmt.{IsAscii-from_digits}
use Rattle.model.specs.declared.kind.Kind.TheVariants.{BadNumber}
use Rattle.trace_text.specs.Grammar.{number_of}

own : IsNumeralModel (λ ds. list_all is_ascii_digit ds ≡ true) (digits_value 10)
own = numerals_by_value _ (search rules)

pub digits_are_text : (word : List ℕ) → list_all is_ascii_digit word ≡ true → IsUtf8 word
digits_are_text word digits = IsUtf8-from_ascii word (IsAscii-from_digits word (own.to word digits))

pub not_digits : (word : List ℕ) → list_all is_ascii_digit word ≡ false → number_of word ≡ Err BadNumber
unfolding number_of
not_digits word other = rw other refl

-- a number of digits is what they write, if that is below 2^64
number_of_digits : (word : List ℕ) → list_all is_ascii_digit word ≡ true → 0 < length word → digits_value 10 word < 2 ^ 64 → number_of word ≡ Ok (digits_value 10 word)
unfolding number_of
number_of_digits word digits some fits = rw digits (search rules)

no_number : (word : List ℕ) → list_all is_ascii_digit word ≡ true → ¬ ((0 < length word) × (digits_value 10 word < 2 ^ 64)) → number_of word ≡ Err BadNumber
unfolding number_of
no_number word digits other = rw digits (search rules)

pub parsed_ok : {E : Type 0} (word text : List ℕ) (r : Result ℕ E) (value : ℕ) → text ≡ word → ParsesUnsigned 64 10 text r → r ≡ Ok value → list_all is_ascii_digit word ≡ true → number_of word ≡ Ok value
parsed_ok {E} word text r value same parses ok digits =
    let at_word = rw (same, ok) at parses in
    let found = parse_digits own {E = E} 64 word (Ok value) at_word digits in
    rw found.1 (number_of_digits word digits found.0.0 found.0.1)

pub parsed_err : {E : Type 0} (word text : List ℕ) (r : Result ℕ E) (e : E) → text ≡ word → ParsesUnsigned 64 10 text r → r ≡ Err e → list_all is_ascii_digit word ≡ true → number_of word ≡ Err BadNumber
parsed_err {E} word text r e same parses err digits =
    let at_word = rw (same, err) at parses in
    no_number word digits (parse_digits own {E = E} 64 word (Err e) at_word digits)
