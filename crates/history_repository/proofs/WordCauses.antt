-- What words mean, and which of their causes a command reports first.
use Rattle.std.proofs.Common.{◌≡◌, ◌∙◌, ap, refl, sym, Bool, true, false, cond, ◌||◌, List, [], ◌∷◌, map, Option, Some, None, option_map, is_none, Result, Ok, Err}
use Rattle.std.specs.Prelude.{ok_or}
use Rattle.std.specs.List.{filter_map, list_any}
use Rattle.history_model.specs.Bytes.{Bytes}
use Rattle.history_model.specs.Causes.{is_ambiguous, is_no_commit, is_unborn, is_unknown}
use Rattle.history_model.specs.Repository.{Repository, peeled}
use Rattle.history_model.specs.Words.{WordMeaning, ReadsAs, Unborn, Unknown, Ambiguous, commit_of, commit_read, word_meaning}
use Rattle.history_model.specs.declared.Cause.{Cause}
use Rattle.history_model.specs.declared.Cause.TheVariants.{UnknownWord, AmbiguousWord, UnbornHead, NotACommit}
use Rattle.history_repository.specs.Meanings.{commit_in, commit_or_cause, is_ambiguous_word, is_not_a_commit, is_unborn_head, is_unknown_word, meaning_of, stands_for, words_cause}
use Rattle.gix_hash.specs.Id.{Id, id_of}
use Rattle.history_repository.specs.declared.words.WordMeaning as own
use Rattle.history_repository.specs.declared.words.WordMeaning.TheVariants as read

-- ---- one word

module _ (r : Repository) where
  is_unknown_told : (m : WordMeaning) → is_unknown_word (stands_for r m) ≡ is_unknown m
  is_unknown_told (ReadsAs id) = by_peeled (peeled r id)
    where
      by_peeled : (o : Option Id) → is_unknown_word (ok_or o NotACommit) ≡ false
      by_peeled None = refl
      by_peeled (Some t) = refl
  is_unknown_told Unborn = refl
  is_unknown_told Unknown = refl
  is_unknown_told Ambiguous = refl

  is_ambiguous_told : (m : WordMeaning) → is_ambiguous_word (stands_for r m) ≡ is_ambiguous m
  is_ambiguous_told (ReadsAs id) = by_peeled (peeled r id)
    where
      by_peeled : (o : Option Id) → is_ambiguous_word (ok_or o NotACommit) ≡ false
      by_peeled None = refl
      by_peeled (Some t) = refl
  is_ambiguous_told Unborn = refl
  is_ambiguous_told Unknown = refl
  is_ambiguous_told Ambiguous = refl

  is_unborn_told : (m : WordMeaning) → is_unborn_head (stands_for r m) ≡ is_unborn m
  is_unborn_told (ReadsAs id) = by_peeled (peeled r id)
    where
      by_peeled : (o : Option Id) → is_unborn_head (ok_or o NotACommit) ≡ false
      by_peeled None = refl
      by_peeled (Some t) = refl
  is_unborn_told Unborn = refl
  is_unborn_told Unknown = refl
  is_unborn_told Ambiguous = refl

  no_commit_told : (m : WordMeaning) → is_not_a_commit (stands_for r m) ≡ is_no_commit r m
  no_commit_told (ReadsAs id) = by_peeled (peeled r id)
    where
      by_peeled : (o : Option Id) → is_not_a_commit (ok_or o NotACommit) ≡ is_none o
      by_peeled None = refl
      by_peeled (Some t) = refl
  no_commit_told Unborn = refl
  no_commit_told Unknown = refl
  no_commit_told Ambiguous = refl

  -- the commit that a result has
  abbrev in_result : Result Id Cause → Option Id
  in_result (Ok id) = Some id
  in_result (Err cause) = None

  read_so : (m : WordMeaning) → commit_read r m ≡ in_result (stands_for r m)
  read_so (ReadsAs id) = by_peeled (peeled r id)
    where
      by_peeled : (o : Option Id) → o ≡ in_result (ok_or o NotACommit)
      by_peeled None = refl
      by_peeled (Some t) = refl
  read_so Unborn = refl
  read_so Unknown = refl
  read_so Ambiguous = refl

  in_meaning : (m : own.WordMeaning) → in_result (meaning_of m) ≡ option_map id_of (commit_in m)
  in_meaning (read.Commit id) = refl
  in_meaning read.NoCommit = refl
  in_meaning read.Unborn = refl
  in_meaning read.Unknown = refl
  in_meaning read.Ambiguous = refl

  -- a word means the commit that was read
  pub commit_told : (word : Bytes) (m : own.WordMeaning) → meaning_of m ≡ commit_or_cause r word → commit_of r word ≡ option_map id_of (commit_in m)
  commit_told word m is = read_so (word_meaning r word) ∙ ap in_result (sym is) ∙ in_meaning m

  pub commit_is : (word : Bytes) (id : Id) → commit_or_cause r word ≡ Ok id → commit_of r word ≡ Some id
  commit_is word id is = read_so (word_meaning r word) ∙ ap in_result is

  -- by a word that reads so, or for another cause
  abbrev pub by_word : WordMeaning → Option Cause → Option Cause
  by_word m rest =
      cond (is_unknown m || false) (Some UnknownWord) (cond (is_ambiguous m || false) (Some AmbiguousWord) (cond (is_unborn m || false) (Some UnbornHead) (cond (is_no_commit r m || false) (Some NotACommit) rest)))

  pub word_refused : (word : Bytes) (cause : Cause) (rest : Option Cause) → commit_or_cause r word ≡ Err cause → by_word (word_meaning r word) rest ≡ Some cause
  word_refused word cause rest is = go (word_meaning r word) is
    where
      by_peeled : (o : Option Id) → ok_or o NotACommit ≡ Err cause → cond (is_none o || false) (Some NotACommit) rest ≡ Some cause
      by_peeled None e = cc
      by_peeled (Some t) e = cc

      go : (m : WordMeaning) → stands_for r m ≡ Err cause → by_word m rest ≡ Some cause
      go (ReadsAs id) e = by_peeled (peeled r id) e
      go Unborn e = cc
      go Unknown e = cc
      go Ambiguous e = cc

  pub word_passes : (word : Bytes) (id : Id) (rest : Option Cause) → commit_or_cause r word ≡ Ok id → by_word (word_meaning r word) rest ≡ rest
  word_passes word id rest is = go (word_meaning r word) is
    where
      by_peeled : (o : Option Id) → ok_or o NotACommit ≡ Ok id → cond (is_none o || false) (Some NotACommit) rest ≡ rest
      by_peeled None e = cc
      by_peeled (Some t) e = refl

      go : (m : WordMeaning) → stands_for r m ≡ Ok id → by_word m rest ≡ rest
      go (ReadsAs i) e = by_peeled (peeled r i) e
      go Unborn e = cc
      go Unknown e = cc
      go Ambiguous e = cc

-- the commits that words mean are those that were read
pub commits_told : (r : Repository) (meanings : List own.WordMeaning) (words : List Bytes) → map meaning_of meanings ≡ map (commit_or_cause r) words → map id_of (filter_map commit_in meanings) ≡ filter_map (commit_of r) words
commits_told r [] [] e = refl
commits_told r [] (word ∷ words) e = let z : ⊥ = cc in absurd z
commits_told r (m ∷ meanings) [] e = let z : ⊥ = cc in absurd z
commits_told r (m ∷ meanings) (word ∷ words) e =
    let head : meaning_of m ≡ commit_or_cause r word = cc in
    let tail : map meaning_of meanings ≡ map (commit_or_cause r) words = cc in
    go m (commit_told r word m head) (commits_told r meanings words tail)
  where
    go : (m : own.WordMeaning) → commit_of r word ≡ option_map id_of (commit_in m) → map id_of (filter_map commit_in meanings) ≡ filter_map (commit_of r) words → map id_of (filter_map commit_in (m ∷ meanings)) ≡ filter_map (commit_of r) (word ∷ words)
    go (read.Commit id) reads rest = rw (reads, rest) refl
    go read.NoCommit reads rest = rw (reads, rest) refl
    go read.Unborn reads rest = rw (reads, rest) refl
    go read.Unknown reads rest = rw (reads, rest) refl
    go read.Ambiguous reads rest = rw (reads, rest) refl

-- ---- all words of a command

pub any_map : {X Y : Type 0} (p : Y → Bool) (f : X → Y) (xs : List X) → list_any p (map f xs) ≡ list_any (λ x. p (f x)) xs
any_map p f [] = refl
any_map p f (x ∷ xs) = ap (λ b. p (f x) || b) (any_map p f xs)

any_so : (p q : Bytes → Bool) → ((word : Bytes) → p word ≡ q word) → (words : List Bytes) → list_any p words ≡ list_any q words
any_so p q same [] = refl
any_so p q same (word ∷ words) = λ i. same word i || any_so p q same words i

-- the first cause that these results of words have, or another cause
abbrev pub told_by : List (Result Id Cause) → Option Cause → Option Cause
told_by told rest =
    cond (list_any is_unknown_word told) (Some UnknownWord) (cond (list_any is_ambiguous_word told) (Some AmbiguousWord) (cond (list_any is_unborn_head told) (Some UnbornHead) (cond (list_any is_not_a_commit told) (Some NotACommit) rest)))

pub refused : (told : List (Result Id Cause)) (cause : Cause) (rest : Option Cause) → words_cause told ≡ Some cause → told_by told rest ≡ Some cause
refused told cause rest is = go (list_any is_unknown_word told) (list_any is_ambiguous_word told) (list_any is_unborn_head told) (list_any is_not_a_commit told) is
  where
    go : (a b c d : Bool) → cond a (Some UnknownWord) (cond b (Some AmbiguousWord) (cond c (Some UnbornHead) (cond d (Some NotACommit) None))) ≡ Some cause
        → cond a (Some UnknownWord) (cond b (Some AmbiguousWord) (cond c (Some UnbornHead) (cond d (Some NotACommit) rest))) ≡ Some cause
    go true b c d e = e
    go false true c d e = e
    go false false true d e = e
    go false false false true e = e
    go false false false false e = cc

pub passed : (told : List (Result Id Cause)) (rest : Option Cause) → words_cause told ≡ None → told_by told rest ≡ rest
passed told rest is = go (list_any is_unknown_word told) (list_any is_ambiguous_word told) (list_any is_unborn_head told) (list_any is_not_a_commit told) is
  where
    go : (a b c d : Bool) → cond a (Some UnknownWord) (cond b (Some AmbiguousWord) (cond c (Some UnbornHead) (cond d (Some NotACommit) None))) ≡ None
        → cond a (Some UnknownWord) (cond b (Some AmbiguousWord) (cond c (Some UnbornHead) (cond d (Some NotACommit) rest))) ≡ rest
    go true b c d e = cc
    go false true c d e = cc
    go false false true d e = cc
    go false false false true e = cc
    go false false false false e = refl

module _ (r : Repository) (words : List Bytes) where
  -- by the words, or for another cause
  abbrev pub by_words : Option Cause → Option Cause
  by_words rest =
      cond (list_any (λ word. is_unknown (word_meaning r word)) words) (Some UnknownWord)
      (cond (list_any (λ word. is_ambiguous (word_meaning r word)) words) (Some AmbiguousWord)
      (cond (list_any (λ word. is_unborn (word_meaning r word)) words) (Some UnbornHead)
      (cond (list_any (λ word. is_no_commit r (word_meaning r word)) words) (Some NotACommit) rest)))

  -- words have the first cause of their results
  pub words_told : (told : List (Result Id Cause)) → ((test : Result Id Cause → Bool) → list_any test told ≡ list_any (λ word. test (commit_or_cause r word)) words) → (rest : Option Cause) → by_words rest ≡ told_by told rest
  words_told told same rest =
      let unknown = any_so (λ word. is_unknown (word_meaning r word)) (λ word. is_unknown_word (commit_or_cause r word)) (λ word. sym (is_unknown_told r (word_meaning r word))) words ∙ sym (same is_unknown_word) in
      let ambiguous = any_so (λ word. is_ambiguous (word_meaning r word)) (λ word. is_ambiguous_word (commit_or_cause r word)) (λ word. sym (is_ambiguous_told r (word_meaning r word))) words ∙ sym (same is_ambiguous_word) in
      let unborn = any_so (λ word. is_unborn (word_meaning r word)) (λ word. is_unborn_head (commit_or_cause r word)) (λ word. sym (is_unborn_told r (word_meaning r word))) words ∙ sym (same is_unborn_head) in
      let no_commit = any_so (λ word. is_no_commit r (word_meaning r word)) (λ word. is_not_a_commit (commit_or_cause r word)) (λ word. sym (no_commit_told r (word_meaning r word))) words ∙ sym (same is_not_a_commit) in
      λ i. cond (unknown i) (Some UnknownWord) (cond (ambiguous i) (Some AmbiguousWord) (cond (unborn i) (Some UnbornHead) (cond (no_commit i) (Some NotACommit) rest)))
