-- Names that are listed, and what is known of their files.
use Rattle.std.proofs.Common.{◌≡◌, ◌∙◌, sym, ap, subst, refl, ◌⊎◌, inl, inr, ℕ, Bool, true, false, cond, ◌||◌, List, [], ◌∷◌, Option, Some, None}
use Rattle.std.specs.Prelude.{IsTrue, is_some}
use Rattle.std.specs.Map.{lookup, keys_of}
use Rattle.gix_object_lines.specs.NameTest.{is_full_name}
use Rattle.gix_ref_file.specs.Tree.{Tree, same_path}
use Rattle.gix_ref_file.proofs.Trees.{one_path, same_path_itself}
use Rattle.gix_ref_store.specs.OwnFiles.{Listed, IsOfText, KnowsFiles, BringsMissing}
use Rattle.gix_ref_store.specs.Places.{Base}
use Rattle.gix_ref_store.specs.RefStates.{loose_text_at, read_by}
use Rattle.gix_ref_store.specs.Walks.{has, Keeps, BringsAsked, GathersPlaces}
use Rattle.gix_ref_store.specs.declared.store.file.own.OwnFile.{OwnFile}
use Rattle.gix_ref_store.specs.declared.store.file.own.OwnFile.TheVariants.{Missing}

pub keeps_same : (names : List (List ℕ)) → Keeps names names
keeps_same names name is = is

pub brings_none : (asked : List ℕ → Bool) (names : List (List ℕ)) → BringsAsked asked names names
brings_none asked names name is = inl is

pub keeps_on : (a b c : List (List ℕ)) → Keeps a b → Keeps b c → Keeps a c
keeps_on a b c first then name is = then name (first name is)

pub brings_on : (asked : List ℕ → Bool) (a b c : List (List ℕ)) → BringsAsked asked a b → BringsAsked asked b c → BringsAsked asked a c
brings_on asked a b c first then name is = by_case (then name is)
  where
    by_case : IsTrue (has b name) ⊎ IsTrue (asked name) → IsTrue (has a name) ⊎ IsTrue (asked name)
    by_case (inl in_b) = first name in_b
    by_case (inr is_asked) = inr is_asked

-- ---- one name more
module _ (old new : List (List ℕ)) (added : List ℕ) (updates : (q : List ℕ) → has new q ≡ cond (same_path added q) true (has old q)) where
  pub added_keeps : Keeps old new
  added_keeps name is = updates name ∙ by_case (same_path added name)
    where
      by_case : (b : Bool) → cond b true (has old name) ≡ true
      by_case true = refl
      by_case false = is

  pub added_only : (name : List ℕ) → IsTrue (has new name) → IsTrue (has old name) ⊎ (name ≡ added)
  added_only name is = by_case (same_path added name) refl (sym (updates name) ∙ is)
    where
      by_case : (b : Bool) → same_path added name ≡ b → cond b true (has old name) ≡ true → IsTrue (has old name) ⊎ (name ≡ added)
      by_case true same h = inr (sym (one_path added name same))
      by_case false apart h = inl h

-- names that come are the one that is wanted
pub brings_one : (asked : List ℕ → Bool) (old new : List (List ℕ)) (added : List ℕ) → IsTrue (asked added)
    → ((name : List ℕ) → IsTrue (has new name) → IsTrue (has old name) ⊎ (name ≡ added)) → BringsAsked asked old new
brings_one asked old new added is only name in_new = by_case (only name in_new)
  where
    by_case : IsTrue (has old name) ⊎ (name ≡ added) → IsTrue (has old name) ⊎ IsTrue (asked name)
    by_case (inl in_old) = inl in_old
    by_case (inr same) = inr (ap asked same ∙ is)

-- ---- what is known of a file
some_is : {one other : OwnFile} → Some one ≡ Some other → one ≡ other
some_is e = cc

pub some_name : {one other : List ℕ} → Some one ≡ Some other → one ≡ other
some_name e = cc

pub none_found : (o : Option OwnFile) → is_some o ≡ false → o ≡ None
none_found None is = refl
none_found (Some own) is = cc

-- a name is listed if it is found
pub has_found : (listed : Listed) (q : List ℕ) → has (keys_of listed) q ≡ is_some (lookup (same_path q) listed)
has_found [] q = refl
has_found (e ∷ listed) q = by_case (same_path q e.0) (has_found listed q)
  where
    by_case : (b : Bool) → has (keys_of listed) q ≡ is_some (lookup (same_path q) listed) → (b || has (keys_of listed) q) ≡ is_some (cond b (Some e.1) (lookup (same_path q) listed))
    by_case true h = refl
    by_case false h = h

pub knows_none : (b : Base) (tree : Tree) (listed : Listed) → listed ≡ [] → KnowsFiles b tree listed
knows_none b tree listed none name own is = absurd (cc (sym (ap (λ (l : Listed). is_some (lookup (same_path name) l)) none) ∙ ap is_some is))

-- one name more, or another file
module _ (old new : Listed) (added : List ℕ) (own : OwnFile) (updates : (q : List ℕ) → lookup (same_path q) new ≡ cond (same_path added q) (Some own) (lookup (same_path q) old)) where
  has_updates : (q : List ℕ) → has (keys_of new) q ≡ cond (same_path added q) true (has (keys_of old) q)
  has_updates q = has_found new q ∙ ap is_some (updates q) ∙ by_case (same_path added q) (has_found old q)
    where
      by_case : (b : Bool) → has (keys_of old) q ≡ is_some (lookup (same_path q) old) → is_some (cond b (Some own) (lookup (same_path q) old)) ≡ cond b true (has (keys_of old) q)
      by_case true h = refl
      by_case false h = sym h

  pub put_keeps : Keeps (keys_of old) (keys_of new)
  put_keeps = added_keeps (keys_of old) (keys_of new) added has_updates

  pub put_only : (name : List ℕ) → IsTrue (has (keys_of new) name) → IsTrue (has (keys_of old) name) ⊎ (name ≡ added)
  put_only = added_only (keys_of old) (keys_of new) added has_updates

  pub put_there : IsTrue (has (keys_of new) added)
  put_there = has_updates added ∙ ap (λ b. cond b true (has (keys_of old) added)) (same_path_itself added)

  pub put_known : (b : Base) (tree : Tree) → IsTrue (is_full_name added) → IsOfText b.kind (loose_text_at b tree added) own → KnowsFiles b tree old → KnowsFiles b tree new
  put_known b tree full told knows name found is = by_case (same_path added name) refl (sym (updates name) ∙ is)
    where
      by_case : (s : Bool) → same_path added name ≡ s → cond s (Some own) (lookup (same_path name) old) ≡ Some found → IsTrue (is_full_name name) × IsOfText b.kind (loose_text_at b tree name) found
      by_case true same h =
          let e = one_path added name same in
          (subst (λ n. IsTrue (is_full_name n)) e full, subst (λ o. IsOfText b.kind (loose_text_at b tree name) o) (some_is h) (subst (λ n. IsOfText b.kind (loose_text_at b tree n) own) e told))
      by_case false apart h = knows name found h

  pub put_missing : IsTrue (is_full_name added) → own ≡ Missing → lookup (same_path added) old ≡ None → BringsMissing old new
  put_missing full missing none name found is = by_case (same_path added name) refl (sym (updates name) ∙ is)
    where
      by_case : (s : Bool) → same_path added name ≡ s → cond s (Some own) (lookup (same_path name) old) ≡ Some found
          → (lookup (same_path name) old ≡ Some found) ⊎ ((lookup (same_path name) old ≡ None) × IsTrue (is_full_name name) × (found ≡ Missing))
      by_case true same h =
          let e = one_path added name same in
          inr (subst (λ n. lookup (same_path n) old ≡ None) e none, subst (λ n. IsTrue (is_full_name n)) e full, sym (some_is h) ∙ missing)
      by_case false apart h = inl h

-- ---- names of records
pub missing_none : (listed : Listed) → BringsMissing listed listed
missing_none listed name own is = inl is

pub missing_on : (a b c : Listed) → Keeps (keys_of a) (keys_of b) → BringsMissing a b → BringsMissing b c → BringsMissing a c
missing_on a b c keeps first then name own is = by_case (then name own is)
  where
    none_first : lookup (same_path name) b ≡ None → lookup (same_path name) a ≡ None
    none_first none = by_found (lookup (same_path name) a) refl
      where
        by_found : (o : Option OwnFile) → lookup (same_path name) a ≡ o → lookup (same_path name) a ≡ None
        by_found None e = e
        by_found (Some x) e = absurd (cc (sym (ap is_some none) ∙ sym (has_found b name) ∙ keeps name (has_found a name ∙ ap is_some e)))

    by_case : (lookup (same_path name) b ≡ Some own) ⊎ ((lookup (same_path name) b ≡ None) × IsTrue (is_full_name name) × (own ≡ Missing))
        → (lookup (same_path name) a ≡ Some own) ⊎ ((lookup (same_path name) a ≡ None) × IsTrue (is_full_name name) × (own ≡ Missing))
    by_case (inl here) = first name own here
    by_case (inr (none, full, missing)) = inr (none_first none, full, missing)

-- if all names with files are listed, new ones have none
pub missing_known : (b : Base) (tree : Tree) (asked : List ℕ → Bool) (old new : Listed) → KnowsFiles b tree old → GathersPlaces b tree asked (keys_of old) → BringsMissing old new
    → ((name : List ℕ) → IsTrue (has (keys_of new) name) → IsTrue (asked name)) → KnowsFiles b tree new
missing_known b tree asked old new knows gathers brings only name own is = by_case (brings name own is)
  where
    no_file : lookup (same_path name) old ≡ None → IsTrue (is_full_name name) → loose_text_at b tree name ≡ None
    no_file none full = by_text (loose_text_at b tree name) refl
      where
        by_text : (text : Option (List ℕ)) → loose_text_at b tree name ≡ text → loose_text_at b tree name ≡ None
        by_text None e = e
        by_text (Some text) e = absurd (cc (sym (ap is_some none) ∙ sym (has_found old name) ∙ gathers name (ap is_some e) full (only name (has_found new name ∙ ap is_some is))))

    by_case : (lookup (same_path name) old ≡ Some own) ⊎ ((lookup (same_path name) old ≡ None) × IsTrue (is_full_name name) × (own ≡ Missing))
        → IsTrue (is_full_name name) × IsOfText b.kind (loose_text_at b tree name) own
    by_case (inl here) = knows name own here
    by_case (inr (none, full, missing)) = (full, subst (λ o. IsOfText b.kind (loose_text_at b tree name) o) (sym missing) (λ other. ap (λ text. read_by b.kind text other) (no_file none full)))
