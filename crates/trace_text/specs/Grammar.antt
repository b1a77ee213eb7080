-- One line of a trace: what is read from its bytes, or its first fault.
use Rattle.std.specs.Prelude.{ℕ, ◌-◌, ◌^◌, Bool, not, ◌||◌, ◌==◌, nat_lt, List, [], ◌∷◌, length, take, slice_index, Option, Some, None, Result, Ok, Err, if◌then◌else◌, codes}
use Rattle.std.specs.List.{list_all}
use Rattle.std.specs.Char.{is_ascii_alphanumeric, is_ascii_digit}
use Rattle.std.specs.Str.{bytes_eq}
use Rattle.std.specs.Str.Parse.{digits_value}
use Rattle.trace_text.specs.Words.{words}
use Rattle.model.specs.declared.kind.Kind.{Kind}
use Rattle.model.specs.declared.kind.Kind.TheVariants.{LineTooLong, UnknownCommand, WrongWords, BadName, BadNumber}
use Rattle.model.specs.Commands.{Command, New, Set, Put, Get, Drop, Collect, Census, Heap}

infixl 10 ◌>>=◌
abbrev pub ◌>>=◌ : {A B E : Type 0} → Result A E → (A → Result B E) → Result B E
(Ok x) >>= f = f x
(Err e) >>= f = Err e

-- a byte of a name: a letter, a digit, `_`, `.` or `-`
abbrev pub is_name_byte : ℕ → Bool
is_name_byte byte = ((is_ascii_alphanumeric byte || byte == 95) || byte == 46) || byte == 45

abbrev pub is_nil : List ℕ → Bool
is_nil word = bytes_eq word (codes "nil")

-- 1 to 32 bytes of a name, and not `nil`
unfoldable pub name_of : List ℕ → Result (List ℕ) Kind
name_of word =
    if not (nat_lt 0 (length word)) then Err BadName
    else (if nat_lt 32 (length word) then Err BadName
    else (if is_nil word then Err BadName
    else (if list_all is_name_byte word then Ok word
    else Err BadName)))

-- one or more decimal digits, of a value below 2^64
unfoldable pub number_of : List ℕ → Result ℕ Kind
number_of word =
    if not (list_all is_ascii_digit word) then Err BadNumber
    else (if not (nat_lt 0 (length word)) then Err BadNumber
    else (if nat_lt (digits_value 10 word) (2 ^ 64) then Ok (digits_value 10 word)
    else Err BadNumber))

-- each command has its number of words
abbrev pub none_of : List (List ℕ) → Command → Result Command Kind
none_of [] command = Ok command
none_of _ command = Err WrongWords

abbrev pub one_of : List (List ℕ) → (List ℕ → Result Command Kind) → Result Command Kind
one_of (a ∷ []) f = f a
one_of _ f = Err WrongWords

abbrev pub three_of : List (List ℕ) → (List ℕ → List ℕ → List ℕ → Result Command Kind) → Result Command Kind
three_of (a ∷ b ∷ c ∷ []) f = f a b c
three_of _ f = Err WrongWords

abbrev pub four_of : List (List ℕ) → (List ℕ → List ℕ → List ℕ → List ℕ → Result Command Kind) → Result Command Kind
four_of (a ∷ b ∷ c ∷ d ∷ []) f = f a b c d
four_of _ f = Err WrongWords

unfoldable pub new_of : List ℕ → List ℕ → List ℕ → List ℕ → Result Command Kind
new_of a b c d = do
  name ← name_of a
  mutator ← number_of b
  pointers ← number_of c
  plain ← number_of d
  Ok (New name mutator pointers plain)

-- a name, or `nil`
unfoldable pub target_of : List ℕ → Result (Option (List ℕ)) Kind
target_of word = if is_nil word then Ok None else (name_of word >>= λ name. Ok (Some name))

unfoldable pub set_of : List ℕ → List ℕ → List ℕ → Result Command Kind
set_of a b c = do
  name ← name_of a
  field ← number_of b
  target ← target_of c
  Ok (Set name field target)

unfoldable pub put_of : List ℕ → List ℕ → List ℕ → Result Command Kind
put_of a b c = do
  name ← name_of a
  field ← number_of b
  value ← number_of c
  Ok (Put name field value)

unfoldable pub get_of : List ℕ → List ℕ → List ℕ → Result Command Kind
get_of a b c = do
  new_name ← name_of a
  name ← name_of b
  field ← number_of c
  Ok (Get new_name name field)

unfoldable pub drop_of : List ℕ → Result Command Kind
drop_of a = do
  name ← name_of a
  Ok (Drop name)

unfoldable pub collect_of : List ℕ → Result Command Kind
collect_of a = do
  generation ← number_of a
  Ok (Collect generation)

-- the words after the command's
unfoldable pub command_of : List ℕ → List (List ℕ) → Result Command Kind
command_of command rest =
    if bytes_eq command (codes "new") then four_of rest new_of
    else (if bytes_eq command (codes "set") then three_of rest set_of
    else (if bytes_eq command (codes "put") then three_of rest put_of
    else (if bytes_eq command (codes "get") then three_of rest get_of
    else (if bytes_eq command (codes "drop") then one_of rest drop_of
    else (if bytes_eq command (codes "collect") then one_of rest collect_of
    else (if bytes_eq command (codes "census") then none_of rest Census
    else (if bytes_eq command (codes "heap") then none_of rest Heap
    else Err UnknownCommand)))))))

-- a comment's first word begins with `#`, which is 35
abbrev pub is_comment : List ℕ → Bool
is_comment word = slice_index word 0 == 35

abbrev pub some_command : Result Command Kind → Result (Option Command) Kind
some_command (Ok command) = Ok (Some command)
some_command (Err kind) = Err kind

-- a line without words and a comment have no command
abbrev pub entry_of_words : List (List ℕ) → Result (Option Command) Kind
entry_of_words [] = Ok None
entry_of_words (first ∷ rest) = if is_comment first then Ok None else some_command (command_of first rest)

-- one carriage return at the end, which is 13, is taken off
abbrev pub without_return : List ℕ → List ℕ
without_return line = if slice_index line (length line - 1) == 13 then take (length line - 1) line else line

-- a line without its line feed
unfoldable pub entry_of : List ℕ → Result (Option Command) Kind
entry_of line = if nat_lt 4096 (length line) then Err LineTooLong else entry_of_words (words (without_return line))
