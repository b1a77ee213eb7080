use Rattle.std.proofs.Common.{◌≡◌, ◌<◌, false, length, get_or, rules}
use Rattle.trace_text.specs.Words.{is_blank}
use Rattle.trace_text.proofs.WordLemmas.{first_word, word_has_bytes}
use Rattle.trace_text.proofs.words.split_first_word.Goals as goal

pub returns-clause-some : goal.returns-clause-some
returns-clause-some c =
    let line = c.skip_blanks-line.result.now in
    let len = c.word_len.result in
    let some : 0 < length line = search rules in
    let begins : is_blank (get_or line 0 0) ≡ false = c.skip_blanks-line.ensures.front some in
    let positive : 0 < len = word_has_bytes line len some begins c.word_len.ensures.stops in
    rw (← c.skip_blanks-line.ensures.same, c.split_at.ensures.front, c.split_at.ensures.back)
    (first_word line len positive c.word_len.ensures.in_range c.word_len.ensures.word c.word_len.ensures.stops)
