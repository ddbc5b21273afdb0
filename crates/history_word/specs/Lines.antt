-- The words of a line.
use Rattle.std.specs.Prelude.{◌≡◌, ◌≢◌, ℕ, ◌+◌, Bool, not, ◌==◌, List, [], ◌∷◌, ◌++◌, length, Option, Some, None, All}
use Rattle.std.specs.List.{list_all, slice_split}
use Rattle.history_model.specs.Bytes.{Bytes, is_empty}

-- the words between the spaces
abbrev pub split_words : Bytes → List Bytes
split_words line = slice_split (λ b. b == 32) line

-- the words of the rest of a line; there is no rest after the last word
abbrev pub words_left : Option Bytes → List Bytes
words_left None = []
words_left (Some line) = split_words line

abbrev pub HasNoSpace : Bytes → Type 0
HasNoSpace word = All (λ b. b ≢ 32) word

-- a line, cut at its first space
abbrev pub IsCut : Bytes → Bytes → Option Bytes → Type 0
IsCut line word None = (line ≡ word) × HasNoSpace word
IsCut line word (Some rest) = (line ≡ word ++ 32 ∷ rest) × HasNoSpace word

-- no word is empty
abbrev pub are_nonempty : List Bytes → Bool
are_nonempty words = list_all (λ word. not (is_empty word)) words

-- the length of the words, with one byte after each
abbrev pub words_size : List Bytes → ℕ
words_size [] = 0
words_size (word ∷ words) = length word + (1 + words_size words)

-- at least as many sizes as a line can have, each after the word `path`
abbrev pub max_sizes : ℕ
max_sizes = 586
