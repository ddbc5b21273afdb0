-- The commits of the words of edits.
use Rattle.std.proofs.Common.{◌≡◌, ℕ, ◌+◌, ◌<◌, length, take, get_or, ◌∙◌, sym, ap, subst, refl, Bool, true, false, cond, List, [], ◌∷◌, ◌++◌, map, find, Option, Some, None, option_map, inl, inr, ◌⊎◌}
use Rattle.std.specs.Prelude.{IsSome, is_none}
use Rattle.std.specs.List.{AllByRecursion, AllZip, flat_map, list_any}
use Rattle.gix_hash.specs.Id.{Id}
use Rattle.history_repository.specs.Meant.{peeled_id}
use Rattle.history_repository.specs.declared.stored.PeeledCommit.{PeeledCommit}
use Rattle.history_model.specs.Bytes.{Bytes}
use Rattle.history_model.specs.Repository.{Repository, peeled}
use Rattle.history_model.specs.Words.{WordMeaning, ReadsAs, Unborn, Unknown, Ambiguous, commit_of, commit_read, word_meaning}
use Rattle.history_model.specs.Causes.{holds, is_ambiguous, is_no_commit, is_unborn, is_unknown}
use Rattle.history_model.specs.declared.Cause.{Cause}
use Rattle.history_model.specs.declared.Cause.TheVariants.{UnknownWord, AmbiguousWord, UnbornHead, NotACommit}
use Rattle.history_model.specs.Commands.{Commit, CommitCommand, EditLine, PutLine, RemoveLine, RemoveFileLine, GraftLine}
use Rattle.history_model.specs.CommandParts.{at_word, edit_words, words_in}
use Rattle.history_model.proofs.WholeLists.{In, in_left, in_right, none_passes}
use Rattle.std.proofs.lemmas.List.{map-append, take_more}
use Rattle.history_word.specs.Commands.{AreEdits, IsEdit}
use Rattle.history_word.specs.declared.command.Edit.{Edit}
use Rattle.history_word.specs.declared.command.Edit.TheVariants.{Graft}
use Rattle.history_word.specs.declared.command.Graft as received
use Rattle.history_plans.specs.Bases.{IsRootedSource, line_word, source_id}
use Rattle.history_repository.specs.Meanings.{commit_or_cause, meaning_of}
use Rattle.history_repository.specs.declared.words.WordMeaning as own
use Rattle.history_plans.proofs.Zipped.{zip_get, zip_length}
use Rattle.history_plans.specs.CommitCauses.{first_among, name_causes}
use Rattle.history_plans.specs.Files.{HasSource}

module _ (r : Repository) where
  one_read : (line : EditLine) (source : Option PeeledCommit) → option_map peeled_id source ≡ source_id r line → IsRootedSource r source → ((word : Bytes) → In word (edit_words line) → IsSome (commit_of r word)) → HasSource r line source
  one_read (PutLine kind path bytes) source same rooted read = tt
  one_read (RemoveLine path) source same rooted read = tt
  one_read (RemoveFileLine path) source same rooted read = tt
  one_read (GraftLine path word from) (Some commit) same rooted read = (sym same, rooted)
  one_read (GraftLine path word from) None same rooted read = go (commit_of r word) same (read word (inl refl))
    where
      go : (o : Option Id) → None ≡ o → IsSome o → ⊥
      go None e some = cc
      go (Some id) e some = cc

  all_read : (lines : List EditLine) (sources : List (Option PeeledCommit)) → map (option_map peeled_id) sources ≡ map (source_id r) lines → AllByRecursion (IsRootedSource r) sources → ((word : Bytes) → In word (flat_map edit_words lines) → IsSome (commit_of r word)) → AllZip (HasSource r) lines sources
  all_read [] [] same rooted read = tt
  all_read [] (source ∷ sources) same rooted read = cc
  all_read (line ∷ lines) [] same rooted read = cc
  all_read (line ∷ lines) (source ∷ sources) same rooted read = (
    one_read line source (first same) rooted.0 (λ word i. read word (in_left word (edit_words line) (flat_map edit_words lines) i)),
    all_read lines sources (rest same) rooted.1 (λ word i. read word (in_right word (edit_words line) (flat_map edit_words lines) i)),
  )
    where
      first : {a b : Option Id} {xs ys : List (Option Id)} → a ∷ xs ≡ b ∷ ys → a ≡ b
      first e = cc

      rest : {a b : Option Id} {xs ys : List (Option Id)} → a ∷ xs ≡ b ∷ ys → xs ≡ ys
      rest e = cc

-- ---- if no cause of words holds

none_among : {X : Type 0} (test : X → Bool) (xs : List X) → find test xs ≡ None → (x : X) → In x xs → test x ≡ false
none_among test [] e x i = absurd i
none_among {X = X} test (y ∷ ys) e x i = go (test y) refl e i (λ k j. none_among test ys k x j)
  where
    go : (b : Bool) → test y ≡ b → cond b (Some y) (find test ys) ≡ None → (x ≡ y) ⊎ In x ys → (find test ys ≡ None → In x ys → test x ≡ false) → test x ≡ false
    go true f k j rest = cc
    go false f k (inl g) rest = ap test g ∙ f
    go false f k (inr j) rest = rest k j

module _ (r : Repository) (sent : CommitCommand) (none : first_among name_causes r (Commit sent) ≡ None) where
  not_held : (cause : Cause) → In cause name_causes → holds cause r (Commit sent) ≡ false
  not_held cause i = none_among (λ cause. holds cause r (Commit sent)) name_causes none cause i

  word_reads : (word : Bytes) → In word (words_in (Commit sent)) → IsSome (commit_of r word)
  word_reads word i = go (word_meaning r word) (fails UnknownWord (λ w. is_unknown (word_meaning r w)) (inr (inr (inl refl))) refl) (fails AmbiguousWord (λ w. is_ambiguous (word_meaning r w)) (inr (inr (inr (inl refl)))) refl)
      (fails UnbornHead (λ w. is_unborn (word_meaning r w)) (inr (inr (inr (inr (inl refl))))) refl) (fails NotACommit (λ w. is_no_commit r (word_meaning r w)) (inr (inr (inr (inr (inr (inl refl)))))) refl)
    where
      fails : (cause : Cause) (test : Bytes → Bool) → In cause name_causes → holds cause r (Commit sent) ≡ list_any test (words_in (Commit sent)) → test word ≡ false
      fails cause test among is = none_passes test (words_in (Commit sent)) (sym is ∙ not_held cause among) word i

      some_commit : (o : Option Id) → is_none o ≡ false → IsSome o
      some_commit None e = cc
      some_commit (Some id) e = refl

      go : (m : WordMeaning) → is_unknown m ≡ false → is_ambiguous m ≡ false → is_unborn m ≡ false → is_no_commit r m ≡ false → IsSome (commit_read r m)
      go (ReadsAs id) a b c d = some_commit (peeled r id) d
      go Unborn a b c d = cc
      go Unknown a b c d = cc
      go Ambiguous a b c d = cc

  -- so each edit's word reads as the commit that is given
  pub sources_told : (sources : List (Option PeeledCommit)) → map (option_map peeled_id) sources ≡ map (source_id r) sent.edits → AllByRecursion (IsRootedSource r) sources → AllZip (HasSource r) sent.edits sources
  sources_told sources same rooted = all_read r sent.edits sources same rooted (λ word i.
      word_reads word (in_right word (at_word sent.expect) (sent.parents ++ flat_map edit_words sent.edits) (in_right word sent.parents (flat_map edit_words sent.edits) i)))

-- ---- one edit after another

-- the line of an edit among them
pub line_there : (edits : List Edit) (lines : List EditLine) → AreEdits edits lines → (i : ℕ) (edit : Edit) → i < length edits → edit ≡ get_or edits i edit → (line : EditLine) × IsEdit edit line
line_there edits lines are i edit less is = (get_or lines i (RemoveLine []), subst (λ e. IsEdit e (get_or lines i (RemoveLine []))) (sym is) (zip_get IsEdit edits lines are i edit (RemoveLine []) less))

pub source_added : (r : Repository) (edits : List Edit) (lines : List EditLine) → AreEdits edits lines → (i : ℕ) (edit : Edit) (source : Option own.WordMeaning) (sources more : List (Option own.WordMeaning)) → i < length edits → edit ≡ get_or edits i edit
    → ((line : EditLine) → IsEdit edit line → option_map meaning_of source ≡ option_map (commit_or_cause r) (line_word line))
    → map (option_map meaning_of) sources ≡ map (λ line. option_map (commit_or_cause r) (line_word line)) (take i lines) → more ≡ sources ++ source ∷ []
    → map (option_map meaning_of) more ≡ map (λ line. option_map (commit_or_cause r) (line_word line)) (take (i + 1) lines)
source_added r edits lines are i edit source sources more less is read so_far added =
    let line : EditLine = get_or lines i (RemoveLine []) in
    let this : IsEdit edit line = subst (λ e. IsEdit e line) (sym is) (zip_get IsEdit edits lines are i edit (RemoveLine []) less) in
    let within : i < length lines = subst (λ n. i < n) (zip_length IsEdit edits lines are) less in
    ap (map (option_map meaning_of)) added ∙ map-append (option_map meaning_of) sources (source ∷ []) ∙ (λ j. so_far j ++ read line this j ∷ [])
    ∙ sym (ap (map (λ line. option_map (commit_or_cause r) (line_word line))) (take_more lines i (RemoveLine []) within)
    ∙ map-append (λ line. option_map (commit_or_cause r) (line_word line)) (take i lines) (line ∷ []))

-- what the word of a graft reads as
pub source_sent : (r : Repository) (graft : received.Graft) (meaning : own.WordMeaning) (line : EditLine) → IsEdit (Graft graft) line → meaning_of meaning ≡ commit_or_cause r graft.word.items
    → option_map meaning_of (Some meaning) ≡ option_map (commit_or_cause r) (line_word line)
source_sent r graft meaning (PutLine kind path bytes) is reads = absurd is
source_sent r graft meaning (RemoveLine path) is reads = absurd is
source_sent r graft meaning (RemoveFileLine path) is reads = absurd is
source_sent r graft meaning (GraftLine path word source) is reads = ap Some (reads ∙ ap (commit_or_cause r) is.1)
