-- What HEAD says.
use Rattle.std.proofs.Common.{◌≡◌, ℕ, true, false, [], ◌∷◌, ◌++◌, length, Option, Some, None, option_map, sym, ◌∙◌, ap, subst, codes}
use Rattle.std.specs.Prelude.{MatchOption}
use Rattle.std.proofs.lemmas.List.{append_cancel_left, append_cancel_right}
use Rattle.gix_ref_file.specs.Tree.{Tree}
use Rattle.gix_ref_file.specs.History.{History}
use Rattle.history_model.specs.Bytes.{Bytes}
use Rattle.history_model.specs.Forms.{is_branch}
use Rattle.history_model.specs.Places.{file_at, head_place}
use Rattle.history_model.specs.StandsFor.{head_text}
use Rattle.history_store.specs.References.{HeadNames, SpellsBranch}
use Rattle.history_check_names.specs.Causes.{HasBadHead}
use Rattle.history_check_names.specs.Parts.{NamesBranch}

-- what one view of the files says of a path, another one says
pub seen_there : {F : Type 0} (IsHonest : F → Type 0) (history : F → History) (files known : F) (path : Bytes) (size : Option ℕ) → files ≡ known → IsHonest known
    → (IsHonest files → size ≡ option_map length (file_at (history files).tree path)) → size ≡ option_map length (file_at (history known).tree path)
seen_there IsHonest history files known path size e honest told = (subst (λ f. IsHonest f → size ≡ option_map length (file_at (history f).tree path)) e told) honest

same_head : (a b : Bytes) → head_text a ≡ head_text b → a ≡ b
same_head a b e = append_cancel_left (codes "ref: ") a b (append_cancel_right (codes "ref: " ++ a) (codes "ref: " ++ b) (10 ∷ []) e)

abbrev HeadSpells : Option Bytes → Option Bytes → Type 0
HeadSpells o branch = MatchOption o (branch ≡ None) (λ text. SpellsBranch text branch)

-- HEAD was read as no branch's
pub no_branch : (tree : Tree) (text : Bytes) → file_at tree head_place ≡ Some text → HeadNames tree None → HasBadHead tree
no_branch tree text at names =
    let spells = subst (λ o. HeadSpells o None) at names in
    record { text = text; stands = at; bad = λ branch formed. spells branch }

branch_read : (o : Option Bytes) (branch : Bytes) → HeadSpells o (Some branch) → o ≡ Some (head_text branch)
branch_read None branch h = absurd (cc h)
branch_read (Some text) branch h = ap Some h

-- or as this name's, which is no branch
pub other_name : (tree : Tree) (name : Bytes) → HeadNames tree (Some name) → is_branch name ≡ false → HasBadHead tree
other_name tree name names none = record {
  text = head_text name;
  stands = branch_read (file_at tree head_place) name names;
  bad = λ branch formed same. absurd (cc (sym none ∙ ap is_branch (same_head name branch same) ∙ formed));
}

pub branch_named : (tree : Tree) (branch : Bytes) → HeadNames tree (Some branch) → is_branch branch ≡ true → NamesBranch tree branch
branch_named tree branch names formed = record { head = branch_read (file_at tree head_place) branch names; formed = formed }
