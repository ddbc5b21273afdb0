-- What a look at a folder's two parts finds.
use Rattle.std.proofs.Common.{◌≡◌, ◌≢◌, ◌∙◌, ℕ, ◌<◌, Bool, true, false, List, [], ◌∷◌, ◌++◌, length, Option, Some, None, IsTrue, sym, ap, codes, append_assoc}
use Rattle.std.specs.Prelude.{option_map, unwrap_or}
use Rattle.std.specs.FinMap.{get}
use Rattle.std.proofs.Math.ListN.{get_or}
use Rattle.std.proofs.lemmas.List.{append_cancel_left, append_cancel_right}
use Rattle.gix_hash.specs.declared.kind.Kind.{Kind}
use Rattle.gix_ref_file.specs.Tree.{Tree, Node, bytes_at, bytes_of, file, folder, is_path, node_at, place_of, names_at, under, IsRooted}
use Rattle.gix_ref_file.specs.declared.files.Place.TheVariants as places
use Rattle.gix_ref_file.proofs.Listings.{node_is}
use Rattle.history_texts.specs.declared.parts.Part.{Part}
use Rattle.history_model.specs.Bytes.{Bytes}
use Rattle.history_model.specs.Forms.{is_branch}
use Rattle.history_model.specs.Places.{file_at, head_place}
use Rattle.history_model.specs.StandsFor.{head_text}
use Rattle.history_check_names.specs.Causes.{HasBadHead}
use Rattle.history_check_names.specs.Parts.{NamesBranch}
use Rattle.gix_ref_way.proofs.Walked.{all_below, none_below_file, found_all}
use Rattle.history_actions.specs.Looking.{AreOwn, AreOwnBelow, IsOwnAt, TellsHead, may_have_file}

-- ---- files

-- a path and all below it
abbrev pub IsOwnFrom : Part → Kind → Tree → Bytes → Type 0
IsOwnFrom part kind tree path = IsOwnAt part kind path (get tree path) × AreOwnBelow part kind path tree

module _ (part : Part) (kind : Kind) (tree : Tree) (rooted : IsRooted tree) where
  nothing : (path : Bytes) → IsOwnAt part kind path None
  nothing path = tt

  pub all_own : (place : Bytes) (names : List Bytes) → names ≡ names_at tree place
      → ((i : ℕ) → i < length names → IsOwnFrom part kind tree (under place (get_or names i [])))
      → AreOwnBelow part kind place tree
  all_own place names is all = all_below tree rooted (IsOwnAt part kind) nothing place names is all

  pub own_file : (path : Bytes) (size : ℕ) → place_of (node_at tree path) ≡ places.File size
      → may_have_file part kind path ≡ true → IsOwnFrom part kind tree path
  own_file path size there may =
      (at (get tree path), none_below_file tree rooted (IsOwnAt part kind) nothing path size there)
    where
      at : (o : Option Node) → IsOwnAt part kind path o
      at None = tt
      at (Some (file text)) = may
      at (Some folder) = tt

  pub own_folder : (path : Bytes) → IsTrue (is_path path) → place_of (node_at tree path) ≡ places.Folder
      → AreOwnBelow part kind path tree → IsOwnFrom part kind tree path
  own_folder path is there own = (at (get tree path) (ap place_of (sym (node_is tree path is)) ∙ there), own)
    where
      at : (o : Option Node) → place_of o ≡ places.Folder → IsOwnAt part kind path o
      at None e = tt
      at (Some (file text)) e = cc
      at (Some folder) e = tt

  pub all_at : AreOwnBelow part kind [] tree → AreOwn part kind tree
  all_at own = found_all tree rooted (IsOwnAt part kind) nothing own

-- ---- HEAD

head_parts : (branch : Bytes) → head_text branch ≡ codes "ref: " ++ (branch ++ 10 ∷ [])
head_parts branch = append_assoc (codes "ref: ") branch (10 ∷ [])

pub no_front : (text : Bytes) → ((rest : Bytes) → text ≢ codes "ref: " ++ rest) → TellsHead text false
no_front text lacks = λ branch formed same. lacks (branch ++ 10 ∷ []) (same ∙ head_parts branch)

line_is : (text line branch : Bytes) → text ≡ codes "ref: " ++ line → text ≡ head_text branch
    → line ≡ branch ++ 10 ∷ []
line_is text line branch is same =
    append_cancel_left (codes "ref: ") line (branch ++ 10 ∷ []) (sym is ∙ same ∙ head_parts branch)

pub no_back : (text line : Bytes) → text ≡ codes "ref: " ++ line
    → ((rest : Bytes) → line ≢ rest ++ 10 ∷ []) → TellsHead text false
no_back text line is lacks = λ branch formed same. lacks branch (line_is text line branch is same)

pub by_name : (text line name : Bytes) (b : Bool) → text ≡ codes "ref: " ++ line
    → line ≡ name ++ 10 ∷ [] → b ≡ is_branch name → TellsHead text b
by_name text line name true is ends told =
    (name, sym told, is ∙ ap (λ (l : Bytes). codes "ref: " ++ l) ends ∙ sym (head_parts name))
by_name text line name false is ends told = λ branch formed same.
    let e : name ≡ branch = append_cancel_right name branch (10 ∷ []) (sym ends ∙ line_is text line branch is same) in
    absurd (cc (told ∙ ap is_branch e ∙ formed))

-- what is there, by its kind and size
module _ (tree : Tree) (path : Bytes) where
  pub size_of : (size : ℕ) → place_of (node_at tree path) ≡ places.File size
      → Some size ≡ option_map length (file_at tree path)
  size_of size is = go (node_at tree path) is
    where
      go : (o : Option Node) → place_of o ≡ places.File size → Some size ≡ option_map length (bytes_of o)
      go None e = cc
      go (Some folder) e = cc
      go (Some (file text)) e = cc

  -- and what is read of it
  pub text_of : (size : ℕ) (text : Bytes) → place_of (node_at tree path) ≡ places.File size → text ≡ bytes_at tree path
      → file_at tree path ≡ Some text
  text_of size text is read = go (node_at tree path) is read
    where
      go : (o : Option Node) → place_of o ≡ places.File size → text ≡ unwrap_or (bytes_of o) [] → bytes_of o ≡ Some text
      go None e read = cc
      go (Some folder) e read = cc
      go (Some (file bytes)) e read = ap Some (sym read)

pub head_names : (tree : Tree) (text : Bytes) → file_at tree head_place ≡ Some text → TellsHead text true
    → (branch : Bytes) × NamesBranch tree branch
head_names tree text at (branch, formed, is) =
    (branch, record { head = at ∙ ap Some is; formed = formed })

pub bad_head : (tree : Tree) (text : Bytes) → file_at tree head_place ≡ Some text → TellsHead text false
    → HasBadHead tree
bad_head tree text at bad = record { text = text; stands = at; bad = bad }
