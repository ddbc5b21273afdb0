-- The words of a log's items, and what they mean.
use Rattle.std.proofs.Common.{◌≡◌, ◌∙◌, ap, refl, sym, ℕ, ◌+◌, ◌<◌, length, List, [], ◌∷◌, ◌++◌, map, take, get_or, Option, Some, None, append-nil}
use Rattle.std.specs.List.{filter_map, cons_option, AllZip}
use Rattle.std.proofs.lemmas.List.{map-append, take_more}
use Rattle.std.proofs.lemmas.List.Elements.{filter_map-append}
use Rattle.history_model.specs.Answers.{hidden_word, tip_word}
use Rattle.history_model.specs.Bytes.{Bytes}
use Rattle.history_model.specs.Repository.{Repository}
use Rattle.history_word.specs.Commands.{IsLogItem}
use Rattle.history_word.specs.declared.command.LogItem.{LogItem}
use Rattle.history_word.specs.declared.command.LogItem.TheVariants.{Tip, Hidden}
use Rattle.history_repository.specs.Meanings.{commit_or_cause, meaning_of}
use Rattle.history_model.specs.Commands as model
use Rattle.history_repository.specs.declared.words.WordMeaning as own

abbrev pub tip_in : LogItem → Option Bytes
tip_in (Tip word) = Some word.items
tip_in (Hidden word) = None

abbrev pub hidden_in : LogItem → Option Bytes
hidden_in (Tip word) = None
hidden_in (Hidden word) = Some word.items

pub tips_told : (items : List LogItem) (lines : List model.LogItem) → AllZip IsLogItem items lines → filter_map tip_in items ≡ filter_map tip_word lines
tips_told [] [] are = refl
tips_told [] (line ∷ lines) are = absurd are
tips_told (item ∷ items) [] are = absurd are
tips_told (Tip word ∷ items) (model.Tip bytes ∷ lines) are = λ i. are.0 i ∷ tips_told items lines are.1 i
tips_told (Hidden word ∷ items) (model.Hidden bytes ∷ lines) are = tips_told items lines are.1
tips_told (Tip word ∷ items) (model.Hidden bytes ∷ lines) are = absurd are.0
tips_told (Hidden word ∷ items) (model.Tip bytes ∷ lines) are = absurd are.0

pub hidden_told : (items : List LogItem) (lines : List model.LogItem) → AllZip IsLogItem items lines → filter_map hidden_in items ≡ filter_map hidden_word lines
hidden_told [] [] are = refl
hidden_told [] (line ∷ lines) are = absurd are
hidden_told (item ∷ items) [] are = absurd are
hidden_told (Tip word ∷ items) (model.Tip bytes ∷ lines) are = hidden_told items lines are.1
hidden_told (Hidden word ∷ items) (model.Hidden bytes ∷ lines) are = λ i. are.0 i ∷ hidden_told items lines are.1 i
hidden_told (Tip word ∷ items) (model.Hidden bytes ∷ lines) are = absurd are.0
hidden_told (Hidden word ∷ items) (model.Tip bytes ∷ lines) are = absurd are.0

-- one item more
module _ (r : Repository) (word_in : LogItem → Option Bytes) (items : List LogItem) (i : ℕ) (item : LogItem) (less : i < length items) (is : item ≡ get_or items i item) where
  words_more : filter_map word_in (take (i + 1) items) ≡ filter_map word_in (take i items) ++ cons_option (word_in item) []
  words_more =
      ap (filter_map word_in) (take_more items i item less) ∙ filter_map-append word_in (take i items) (get_or items i item ∷ [])
      ∙ ap (λ x. filter_map word_in (take i items) ++ cons_option (word_in x) []) (sym is)

  pub another_kept : (meanings : List own.WordMeaning) → word_in item ≡ None → map meaning_of meanings ≡ map (commit_or_cause r) (filter_map word_in (take i items))
      → map meaning_of meanings ≡ map (commit_or_cause r) (filter_map word_in (take (i + 1) items))
  another_kept meanings none so_far =
      so_far ∙ ap (map (commit_or_cause r)) (sym (words_more ∙ ap (λ o. filter_map word_in (take i items) ++ cons_option o []) none ∙ append-nil _))

  pub word_added : (meanings more : List own.WordMeaning) (meaning : own.WordMeaning) (word : Bytes) → word_in item ≡ Some word → meaning_of meaning ≡ commit_or_cause r word → more ≡ meanings ++ meaning ∷ []
      → map meaning_of meanings ≡ map (commit_or_cause r) (filter_map word_in (take i items)) → map meaning_of more ≡ map (commit_or_cause r) (filter_map word_in (take (i + 1) items))
  word_added meanings more meaning word some read added so_far =
      ap (map meaning_of) added ∙ map-append meaning_of meanings (meaning ∷ []) ∙ (λ j. so_far j ++ read j ∷ [])
      ∙ sym (ap (map (commit_or_cause r)) (words_more ∙ ap (λ o. filter_map word_in (take i items) ++ cons_option o []) some) ∙ map-append (commit_or_cause r) (filter_map word_in (take i items)) (word ∷ []))
