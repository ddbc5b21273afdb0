-- What a `delete` is refused for.
use Rattle.std.proofs.Common.{◌≡◌, Bool, true, false, cond, not, ◌||◌, List, [], ◌∷◌, ◌++◌, map, refl, sym, ◌∙◌, ap, subst, Option, Some, None, option_map, is_some}
use Rattle.std.specs.Prelude.{Result, Err}
use Rattle.gix_hash.specs.Id.{Id, id_of}
use Rattle.gix_hash.specs.Order.{id_eq}
use Rattle.gix_hash.specs.declared.object_id.ObjectId.{ObjectId}
use Rattle.history_model.specs.Bytes.{Bytes}
use Rattle.history_model.specs.Repository.{stands}
use Rattle.history_model.specs.Forms.{is_name, is_private}
use Rattle.history_model.specs.Commands.{At, Command, Delete}
use Rattle.history_model.specs.CommandParts.{option_expect}
use Rattle.history_model.specs.Meaning.{name_commit}
use Rattle.history_model.specs.Causes.{first_cause, holds, is_elsewhere, same_id}
use Rattle.history_model.specs.declared.Cause.{Cause}
use Rattle.history_model.specs.declared.Cause.TheVariants.{BadName, PrivateName, NoSuchName, NotExpected}
use Rattle.history_repository.specs.Reads.{IsReadingFault}
use Rattle.history_plans.specs.Bases.{IsExpected, expected_meanings}
use Rattle.history_repository.specs.Meanings.{reads_as, words_cause, commit_in, commit_or_cause, meaning_of}
use Rattle.history_plans.specs.CommitCauses.{first_among, held_causes, name_form_causes, word_causes}
use Rattle.history_repository.specs.NameForms.{form_cause}
use Rattle.history_plans.specs.Deleting.{TestsAll, delete_causes, gone_cause}
use Rattle.history_repository.specs.Held.{IsHeld, held_commit}
use Rattle.history_plans.specs.declared.base.Expected.{Expected}
use Rattle.history_repository.specs.declared.held.Held.{Held}
use Rattle.history_repository.specs.declared.stopped.Stopped.{Stopped}
use Rattle.history_plans.proofs.FirstCauses.{find_after_none, find_in_front}
use Rattle.history_repository.proofs.WordCauses.{any_map, commit_told, words_told as all_words_told}
use Rattle.history_repository.proofs.HeldLemmas.{commit_stands}
use Rattle.history_model.specs.Repository as plain
use Rattle.history_plans.specs.declared.base.Expected.TheVariants as expected
use Rattle.history_repository.specs.declared.words.WordMeaning as meant
use Rattle.history_repository.specs.declared.words.WordMeaning.TheVariants as read
use Rattle.history_repository.specs.declared.stopped.Stopped.TheVariants as why

-- ---- the causes that the name, the word and the files give

module _ (r : plain.Repository) (name : Bytes) where
  form_told : (at : Option Bytes) → first_among name_form_causes r (Delete name at) ≡ form_cause name
  form_told at = two (not (is_name name)) (is_private name)
    where
      two : (a b : Bool) → cond ((a || false) || false) (Some BadName) (cond (b || false) (Some PrivateName) None) ≡ cond a (Some BadName) (cond b (Some PrivateName) None)
      two true b = refl
      two false true = refl
      two false false = refl

  pub words_told : (at : Option Bytes) (what : Expected) → IsExpected r (option_expect at) what → first_among word_causes r (Delete name at) ≡ words_cause (expected_meanings what ++ [])
  words_told None expected.Any is = refl
  words_told (Some word) (expected.At meaning) is =
      let words = word ∷ [] in
      all_words_told r words (map (commit_or_cause r) words) (λ test. any_map test (commit_or_cause r) words) None
      ∙ (λ i. words_cause (sym is i ∷ []))
  words_told None expected.New is = absurd is
  words_told None (expected.At meaning) is = absurd is
  words_told (Some word) expected.Any is = absurd is
  words_told (Some word) expected.New is = absurd is

  compared : (id : Id) (meaning : meant.WordMeaning) → cond (not (same_id (Some id) (option_map id_of (commit_in meaning))) || false) (Some NotExpected) None ≡ reads_as id (meaning_of meaning)
  compared id (read.Commit other) = go (id_eq id (id_of other.id))
    where
      go : (b : Bool) → cond (not b || false) (Some NotExpected) None ≡ cond b None (Some NotExpected)
      go true = refl
      go false = refl
  compared id read.NoCommit = refl
  compared id read.Unborn = refl
  compared id read.Unknown = refl
  compared id read.Ambiguous = refl

  by_held_commit : (at : Option Bytes) (what : Expected) (commit : Option Id) → IsExpected r (option_expect at) what → stands r name ≡ is_some commit → name_commit r name ≡ commit → first_among held_causes r (Delete name at) ≡ gone_cause what commit
  by_held_commit None expected.Any None is there at = ap (λ s. cond (not s || false) (Some NoSuchName) None) there
  by_held_commit None expected.Any (Some id) is there at = ap (λ s. cond (not s || false) (Some NoSuchName) None) there
  by_held_commit (Some word) (expected.At meaning) None is there at =
      ap (λ s. cond (not s || false) (Some NoSuchName) (cond (is_elsewhere r (name, At word) || false) (Some NotExpected) None)) there
  by_held_commit (Some word) (expected.At meaning) (Some id) is there at =
      ap (λ s. cond (not s || false) (Some NoSuchName) (cond (is_elsewhere r (name, At word) || false) (Some NotExpected) None)) there
      ∙ (λ i. cond (not (same_id (at i) (commit_told r word meaning is i)) || false) (Some NotExpected) None)
      ∙ compared id meaning
  by_held_commit None expected.New commit is there at = absurd is
  by_held_commit None (expected.At meaning) commit is there at = absurd is
  by_held_commit (Some word) expected.Any commit is there at = absurd is
  by_held_commit (Some word) expected.New commit is there at = absurd is

  pub held_told : (at : Option Bytes) (what : Expected) (held : Option Held) (commit : Option ObjectId) → IsExpected r (option_expect at) what → IsHeld r name held → option_map id_of commit ≡ option_map held_commit held
      → first_among held_causes r (Delete name at) ≡ gone_cause what (option_map id_of commit)
  held_told at what held commit is held_is same = by_held_commit at what (option_map held_commit held) is (commit_stands r name held held_is) (sym held_is.commit) ∙ ap (gone_cause what) (sym same)

  -- ---- the first of the causes

  module _ (at : Option Bytes) where
    abbrev Tells : List Cause → Option Cause
    Tells causes = first_among causes r (Delete name at)

    abbrev P : Cause → Bool
    P cause = holds cause r (Delete name at)

    first_told : first_cause r (Delete name at) ≡ Tells delete_causes
    first_told = refl

    pub by_form : (cause : Cause) → form_cause name ≡ Some cause → first_cause r (Delete name at) ≡ Some cause
    by_form cause e = first_told ∙ find_in_front P name_form_causes (word_causes ++ held_causes) cause (form_told at ∙ e)

    module _ (named : form_cause name ≡ None) where
      past_form : first_cause r (Delete name at) ≡ Tells (word_causes ++ held_causes)
      past_form = first_told ∙ find_after_none P name_form_causes (word_causes ++ held_causes) (form_told at ∙ named)

      pub by_words : (cause : Cause) → Tells word_causes ≡ Some cause → first_cause r (Delete name at) ≡ Some cause
      by_words cause e = past_form ∙ find_in_front P word_causes held_causes cause e

      pub by_held : Tells word_causes ≡ None → (first : Option Cause) → Tells held_causes ≡ first → first_cause r (Delete name at) ≡ first
      by_held words first e = past_form ∙ find_after_none P word_causes held_causes words ∙ e

-- ---- what is reported

pub refusal_told : (MayFail : Type 0) (r : plain.Repository) (command : Command) (ends : Result (Unit {0}) Stopped) (cause : Cause) → ends ≡ Err (why.Refused cause) → first_cause r command ≡ Some cause → TestsAll MayFail r command ends
refusal_told MayFail r command ends cause is_end first = subst (TestsAll MayFail r command) (sym is_end) first

pub fault_told : (MayFail : Type 0) (r : plain.Repository) (command : Command) (ends : Result (Unit {0}) Stopped) (stopped : Stopped) → ends ≡ Err stopped → IsReadingFault MayFail stopped → TestsAll MayFail r command ends
fault_told MayFail r command ends stopped is_end told = subst (TestsAll MayFail r command) (sym is_end) (by_case stopped told)
  where
    by_case : (stopped : Stopped) → IsReadingFault MayFail stopped → TestsAll MayFail r command (Err stopped)
    by_case (why.Refused cause) h = absurd h
    by_case (why.Fault fault) h = h
