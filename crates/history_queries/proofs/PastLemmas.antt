-- Which name's past a word means, and why it is refused.
use Rattle.std.proofs.Common.{◌≡◌, ℕ, Bool, true, false, cond, not, ◌||◌, [], ◌∷◌, refl, sym, ◌∙◌, ap, Option, Some, None, find, unwrap_or, bytes_eq, codes, Vec, Ok}
use Rattle.std.specs.declared.alloc.Global.{Global}
use Rattle.std.specs.List.{list_any}
use Rattle.history_model.specs.Bytes.{Bytes, begins}
use Rattle.history_model.specs.Repository.{Repository, moves_at, stands}
use Rattle.history_model.specs.Forms.{IsWritten, is_name, is_private}
use Rattle.history_model.specs.Words.{candidates, head_word}
use Rattle.history_model.specs.Commands.{Past}
use Rattle.history_model.specs.Meaning.{past_name}
use Rattle.history_model.specs.Causes.{first_cause}
use Rattle.history_model.specs.Replies.{PastIs, reply_text}
use Rattle.history_model.specs.declared.Cause.{Cause}
use Rattle.history_model.specs.declared.Cause.TheVariants.{BadName, PrivateName, NoSuchName}
use Rattle.history_model.proofs.WholePaths.{begins_parts}
use Rattle.history_repository.specs.Reads.{OnlyAnswers}
use Rattle.history_repository.specs.NameForms.{form_cause}
use Rattle.std.proofs.lemmas.Bool.{and_parts}

-- ---- names

module _ (r : Repository) (word : Bytes) where
  abbrev by_word : Bool → Bool → Option Bytes → Bytes
  by_word head named found = cond head r.branch (cond named word (unwrap_or found word))

  pub head_asked : bytes_eq word head_word ≡ true → r.branch ≡ past_name r word
  head_asked is = sym (ap (λ b. by_word b (is_name word) (find (stands r) (candidates word))) is)

  pub name_asked : bytes_eq word head_word ≡ false → is_name word ≡ true → word ≡ past_name r word
  name_asked other named = sym (ap (λ b. by_word b (is_name word) (find (stands r) (candidates word))) other ∙ ap (λ b. by_word false b (find (stands r) (candidates word))) named)

  pub candidate_asked : bytes_eq word head_word ≡ false → is_name word ≡ false → (found : Option Bytes) → find (stands r) (candidates word) ≡ found → unwrap_or found word ≡ past_name r word
  candidate_asked other unnamed found is =
      sym
      (ap (λ b. by_word b (is_name word) (find (stands r) (candidates word))) other ∙ ap (λ b. by_word false b (find (stands r) (candidates word))) unnamed
      ∙ ap (λ o. by_word false false o) is)

-- ---- causes

abbrev by_tests : Bool → Bool → Bool → Option Cause
by_tests bad private absent = cond bad (Some BadName) (cond private (Some PrivateName) (cond absent (Some NoSuchName) None))

module _ (r : Repository) (written : IsWritten r) where
  branch_parts : (is_name r.branch ≡ true) × (begins (codes "refs/heads/") r.branch ≡ true)
  branch_parts = and_parts (is_name r.branch) (begins (codes "refs/heads/") r.branch) written.branch

  branch_shared : is_private r.branch ≡ false
  branch_shared = ap is_private (begins_parts (codes "refs/heads/") r.branch branch_parts.1)

  -- HEAD is no name of its own, and its branch has a good one
  tested : (head : Bool) (name : Bytes) → (head ≡ true → r.branch ≡ name)
      → by_tests (list_any (λ n. not (is_name n)) (cond head [] (name ∷ [])) || false) (list_any is_private (cond head [] (name ∷ []))) (not (stands r name) || false)
      ≡ by_tests (not (is_name name)) (is_private name) (not (stands r name))
  tested false name same = told (is_name name) (is_private name) (stands r name)
    where
      told : (x y z : Bool) → by_tests ((not x || false) || false) (y || false) (not z || false) ≡ by_tests (not x) y (not z)
      told true true z = refl
      told true false true = refl
      told true false false = refl
      told false y z = refl
  tested true name same = told (is_name name) (is_private name) (stands r name) (ap is_name (sym (same refl)) ∙ branch_parts.0) (ap is_private (sym (same refl)) ∙ branch_shared)
    where
      told : (x y z : Bool) → x ≡ true → y ≡ false → by_tests (false || false) false (not z || false) ≡ by_tests (not x) y (not z)
      told true true z named shared = cc
      told true false true named shared = refl
      told true false false named shared = refl
      told false y z named shared = cc

  module _ (word name : Bytes) (asked : name ≡ past_name r word) where
    causes : first_cause r (Past word) ≡ by_tests (not (is_name name)) (is_private name) (not (stands r name))
    causes =
        tested (bytes_eq word head_word) (past_name r word) (head_asked r word)
        ∙ ap (λ n. by_tests (not (is_name n)) (is_private n) (not (stands r n))) (sym asked)

    pub form_refused : (cause : Cause) → form_cause name ≡ Some cause → first_cause r (Past word) ≡ Some cause
    form_refused cause e = causes ∙ told (is_name name) (is_private name) e
      where
        told : (x y : Bool) → cond (not x) (Some BadName) (cond y (Some PrivateName) None) ≡ Some cause → by_tests (not x) y (not (stands r name)) ≡ Some cause
        told true true h = h
        told true false h = cc
        told false y h = h

    formed : form_cause name ≡ None → first_cause r (Past word) ≡ cond (not (stands r name)) (Some NoSuchName) None
    formed e = causes ∙ told (is_name name) (is_private name) e
      where
        told : (x y : Bool) → cond (not x) (Some BadName) (cond y (Some PrivateName) None) ≡ None → by_tests (not x) y (not (stands r name)) ≡ cond (not (stands r name)) (Some NoSuchName) None
        told true true h = cc
        told true false h = refl
        told false y h = cc

    pub absent_refused : form_cause name ≡ None → stands r name ≡ false → first_cause r (Past word) ≡ Some NoSuchName
    absent_refused e absent = formed e ∙ ap (λ b. cond (not b) (Some NoSuchName) None) absent

    pub past_answered : (MayFail : Type 0) (text : Vec ℕ Global) → form_cause name ≡ None → stands r name ≡ true → text.items ≡ reply_text (PastIs (moves_at r name)) → OnlyAnswers MayFail r (Past word) (Ok text)
    past_answered MayFail text e there written = (
      PastIs (moves_at r (past_name r word)),
      written ∙ ap (λ n. reply_text (PastIs (moves_at r n))) asked,
      formed e ∙ ap (λ b. cond (not b) (Some NoSuchName) None) there,
      refl,
    )
