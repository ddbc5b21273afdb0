-- What was taken through a buffer, and how many readings that took.
use Rattle.std.proofs.Common.{refl, inl, inr, ◌≡◌, ◌∙◌, ℕ, ◌+◌, ◌-◌, ◌^◌, ◌<◌, ◌≤◌, Option, Result, Ok, Err, List, [], ◌∷◌, ◌++◌, length, subst, sym, arith}
use Rattle.std.proofs.lemmas.List.{length-append}
use Rattle.history_word.specs.declared.buffer.Buffer.{Buffer}
use Rattle.history_word.specs.Buffer.{readings_made, unread}
use Rattle.history_word.specs.Taking.{AsksForMore, Gave, Took, Came}
use Rattle.history_word.proofs.TakingLemmas.{consumes_then, gave_then, took_none}
use Rattle.std.specs.List.{join_with_byte}
use Rattle.history_model.specs.Commands.{Command, Commit, Tag, Move, Rename, Delete, Switch, Pack, Index, Names, Files, Past, Log, Show}
use Rattle.history_model.specs.Spelling.{Part, Line, parts_of, parts_text, spelling}
use Rattle.history_model.specs.Grammar.{Spells}
use Rattle.history.specs.Runs.{MadeReadings, MadeLastReading}

module _ {S : Type 0} (left : S → Option (List ℕ)) (readings : S → ℕ) where
  pub made_by_taking : (s : S) (b : Buffer) (t : S) (c : Buffer) (taken : List ℕ) → Took left readings s b t c taken → MadeReadings left readings s b t c
  made_by_taking s b t c taken h = record { more = h.more; came = h.came; made = h.made; made_through = h.made_through; counted = h.counted; gave = h.gave }

  pub made_by_coming : (s : S) (b : Buffer) (t : S) (c : Buffer) (bytes : List ℕ) → Came left readings s b t c bytes → MadeReadings left readings s b t c
  made_by_coming s b t c bytes h = record { more = h.more; came = h.came; made = h.made; made_through = h.made_through; counted = h.counted; gave = h.gave }

  pub made_none : (s : S) (b : Buffer) → MadeReadings left readings s b s b
  made_none s b = made_by_taking s b s b [] (took_none left readings s b)

  pub made_then : (s : S) (b : Buffer) (t : S) (c : Buffer) (u : S) (d : Buffer) → MadeReadings left readings s b t c → MadeReadings left readings t c u d → MadeReadings left readings s b u d
  made_then s b t c u d h k = record {
    more = h.more ++ k.more;
    came = consumes_then (left s) (left t) (left u) h.more k.more h.came k.came;
    made = h.made + k.made;
    made_through = omega (arith, h.made_through, k.made_through);
    counted = omega (arith, h.counted, k.counted);
    gave = gave_then b c d h.made k.made h.more k.more h.made_through k.made_through h.gave k.gave;
  }

  pub made_last : (s : S) (b : Buffer) (t : S) (c : Buffer) → readings_made b ≡ 0 → MadeReadings left readings s b t c → readings_made c ≡ 2 ^ 64 - 1 → MadeLastReading left readings s t
  made_last s b t c fresh h last = record { read = h.more; came = h.came; many = many h.gave; counted = omega (arith, h.counted, h.made_through, fresh, last) }
    where
      many : Gave b c h.made h.more → 2 ^ 64 - 2 ≤ length h.more
      many (inl g) = omega (arith, g, h.made_through, fresh, last)
      many (inr g) = omega (arith, g.2, h.made_through, fresh, last)

-- the error, if it is one
abbrev pub error_or : {A E : Type 0} → E → Result A E → E
error_or other (Ok value) = other
error_or other (Err error) = error

line_first : (parts : List Part) (words : List (List ℕ)) (more : List Part) → parts ≡ Line words ∷ more → 0 < length (parts_text parts)
line_first parts words more e =
    let text = join_with_byte 32 words in
    let h : 0 < length (parts_text (Line words ∷ more)) = omega (arith, length-append (text ++ 10 ∷ []) (parts_text more), length-append text (10 ∷ [])) in
    let P : List Part → Type 0 = λ ps. 0 < length (parts_text ps) in
    subst P (sym e) h

-- a command's text is not empty
pub spelling_some : (command : Command) → 0 < length (spelling command)
spelling_some (Commit c) = line_first (parts_of (Commit c)) _ _ refl
spelling_some (Tag c) = line_first (parts_of (Tag c)) _ _ refl
spelling_some (Move c) = line_first (parts_of (Move c)) _ _ refl
spelling_some (Rename from to) = line_first (parts_of (Rename from to)) _ _ refl
spelling_some (Delete name at) = line_first (parts_of (Delete name at)) _ _ refl
spelling_some (Switch name) = line_first (parts_of (Switch name)) _ _ refl
spelling_some Pack = line_first (parts_of Pack) _ _ refl
spelling_some Index = line_first (parts_of Index) _ _ refl
spelling_some (Names folder) = line_first (parts_of (Names folder)) _ _ refl
spelling_some (Files word) = line_first (parts_of (Files word)) _ _ refl
spelling_some (Past name) = line_first (parts_of (Past name)) _ _ refl
spelling_some (Log c) = line_first (parts_of (Log c)) _ _ refl
spelling_some (Show word path) = line_first (parts_of (Show word path)) _ _ refl

-- The source is read for a following byte only if the buffer is empty; and a command takes one.
pub asks_when_empty : {S : Type 0} (left : S → Option (List ℕ)) (readings : S → ℕ) (s : S) (b : Buffer) (t : S) (c : Buffer) (u : S) (taken : List ℕ) (command : Command)
    → Took left readings s b t c [] → (0 < length (unread b) → (t ≡ s) × (c ≡ b)) → Spells taken command → AsksForMore t c u taken → AsksForMore s b u taken
asks_when_empty left readings s b t c u taken command took idle spells asks all =
    let some : 0 < length taken = let P : List ℕ → Type 0 = λ xs. 0 < length xs in subst P (sym spells.1) (spelling_some command) in
    let stays = idle (omega (arith, some, all)) in
    let there : length taken ≤ length (unread c) = subst (λ d. length taken ≤ length (unread d)) (sym stays.1) all in
    asks there ∙ stays.0
