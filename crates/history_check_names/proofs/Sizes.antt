-- How many bytes files have, and what one of many can't hold.
use Rattle.std.proofs.Common.{◌≡◌, ℕ, ◌-◌, ◌<◌, ◌≤◌, Bool, true, false, cond, ◌&&◌, [], ◌∷◌, ◌++◌, length, take, drop, Option, Some, None, option_map, unwrap_or, is_some, refl, ◌∙◌, ap, arith, codes, length-append, length-take, length-drop, nat_le, ◌==◌}
use Rattle.std.proofs.lemmas.Bool.{and_parts}
use Rattle.std.proofs.lemmas.Bool.Decides.{Decides-eqb}
use borrow.Author.Tests.{leb-true}
use Rattle.std.specs.Str.{is_utf8}
use Rattle.gix_hash.specs.Id.{Id}
use Rattle.gix_hash.specs.Kind.{hex_len}
use Rattle.gix_hash.specs.declared.kind.Kind.{Kind}
use Rattle.gix_hash.specs.declared.kind.Kind.TheVariants.{Sha1, Sha256}
use Rattle.gix_object_lines.specs.NameTest.{is_partial_name}
use Rattle.gix_ref_file.specs.Tree.{Tree, Node, bytes_at, bytes_of, file, folder, node_at, place_of}
use Rattle.gix_ref_file.specs.declared.files.Place.TheVariants as places
use Rattle.history_model.specs.Bytes.{Bytes, begins, ends}
use Rattle.history_model.specs.Forms.{heads_front, is_branch, is_name, max_name, refs_front}
use Rattle.history_model.specs.NameStates.{Faulty, loose_line, loose_state}
use Rattle.history_model.specs.PackedNames.{id_from_hex}
use Rattle.history_model.specs.Places.{file_at, head_place}
use Rattle.history_model.specs.StandsFor.{head_text}
use Rattle.history_model.proofs.FormatLemmas.{ends_so}
use Rattle.history_check_names.specs.Causes.{HasBadHead}
use Rattle.history_check_names.specs.Sound.{is_symbolic_line}
use Rattle.history_check_names.proofs.LooseTexts.{none_read}

-- ---- what a path's kind says

pub file_size : (tree : Tree) (path : Bytes) (size : ℕ) → place_of (node_at tree path) ≡ places.File size → Some size ≡ option_map length (file_at tree path)
file_size tree path size there = go (node_at tree path) there
  where
    go : (o : Option Node) → place_of o ≡ places.File size → Some size ≡ option_map length (bytes_of o)
    go None h = cc
    go (Some (file bytes)) h = cc
    go (Some folder) h = cc

pub folder_size : (tree : Tree) (path : Bytes) → place_of (node_at tree path) ≡ places.Folder → None ≡ option_map length (file_at tree path)
folder_size tree path there = go (node_at tree path) there
  where
    go : (o : Option Node) → place_of o ≡ places.Folder → None ≡ option_map length (bytes_of o)
    go None h = refl
    go (Some (file bytes)) h = cc
    go (Some folder) h = refl

pub absent_size : (tree : Tree) (path : Bytes) → place_of (node_at tree path) ≡ places.Absent → None ≡ option_map length (file_at tree path)
absent_size tree path there = go (node_at tree path) there
  where
    go : (o : Option Node) → place_of o ≡ places.Absent → None ≡ option_map length (bytes_of o)
    go None h = refl
    go (Some (file bytes)) h = cc
    go (Some folder) h = refl

pub some_size : (o : Option Bytes) → is_some (option_map length o) ≡ is_some o
some_size None = refl
some_size (Some bytes) = refl

pub size_told : (o : Option Bytes) (size : ℕ) → Some size ≡ option_map length o → size ≡ length (unwrap_or o [])
size_told None size h = absurd (cc h)
size_told (Some bytes) size h = cc

pub size_there : (o : Option Bytes) (size : ℕ) → Some size ≡ option_map length o → o ≡ Some (unwrap_or o [])
size_there None size h = absurd (cc h)
size_there (Some bytes) size h = refl

pub no_size : (o : Option Bytes) → None ≡ option_map length o → o ≡ None
no_size None h = refl
no_size (Some bytes) h = absurd (cc h)

-- ---- names

no : (b : Bool) → (b && false) ≡ false
no true = refl
no false = refl

too_many : (n m : ℕ) → m < n → nat_le n m ≡ false
too_many n m more = by_test (nat_le n m) refl
  where
    by_test : (b : Bool) → nat_le n m ≡ b → nat_le n m ≡ false
    by_test true is = absurd (omega (arith, more, leb-true n m is))
    by_test false is = is

apart : (n m : ℕ) → m < n → (n == m) ≡ false
apart n m more = by_test (n == m) refl
  where
    by_test : (b : Bool) → (n == m) ≡ b → (n == m) ≡ false
    by_test true is = absurd (omega (arith, more, (Decides-eqb n m).0 is))
    by_test false is = is

abbrev by_rules : Bytes → Bool
by_rules name = is_partial_name name && begins refs_front name && is_utf8 name

long_name : (name : Bytes) → max_name < length name → is_name name ≡ false
long_name name long = ap (λ b. by_rules name && b) (too_many (length name) max_name long) ∙ no (by_rules name)

pub name_short : (name : Bytes) → is_name name ≡ true → length name ≤ max_name
name_short name named = leb-true (length name) max_name (and_parts (by_rules name) (nat_le (length name) max_name) named).1

-- ---- a name's file

long_id : (kind : Kind) (digits : Bytes) → 64 < length digits → (length digits == hex_len kind) ≡ false
long_id Sha1 digits long = apart (length digits) 40 (omega (arith, long))
long_id Sha256 digits long = apart (length digits) 64 long

pub no_id : (kind : Kind) (digits : Bytes) → 64 < length digits → id_from_hex kind digits ≡ None
no_id kind digits long = missed _ (length digits == hex_len kind) (long_id kind digits long)
  where
    missed : (o : Option Id) (b : Bool) → b ≡ false → cond b o None ≡ None
    missed o b is = ap (λ b. cond b o None) is

no_symbol : (digits : Bytes) → 1_029 < length digits → is_symbolic_line digits ≡ false
no_symbol digits long =
    ap (λ b. begins (codes "ref: ") digits && b) (long_name (drop 5 digits) (omega (arith, long, length-drop 5 digits))) ∙ no (begins (codes "ref: ") digits)

cut_long : (text : Bytes) → 1_030 < length text → 1_029 < length (take (length text - 1) text)
cut_long text long = omega (arith, long, length-take (length text - 1) text)

-- a text that is too long holds no id and no name
pub long_faulty : (kind : Kind) (text : Bytes) → 1_030 < length text → loose_state kind text ≡ Faulty
long_faulty kind text long = by_end (ends (10 ∷ []) text) refl
  where
    by_end : (b : Bool) → ends (10 ∷ []) text ≡ b → loose_state kind text ≡ Faulty
    by_end true is =
        none_read kind text (take (length text - 1) text) (ends_so text is) (no_symbol (take (length text - 1) text) (cut_long text long)) (no_id kind (take (length text - 1) text) (omega (arith, cut_long text long)))
    by_end false is = ap (λ b. unwrap_or (option_map (loose_line kind) (cond b (Some (take (length text - 1) text)) None)) Faulty) is

-- ---- HEAD

pub long_head : (tree : Tree) (size : ℕ) → Some size ≡ option_map length (file_at tree head_place) → 1_030 < size → HasBadHead tree
long_head tree size told long = record {
  text = bytes_at tree head_place;
  stands = size_there (file_at tree head_place) size told;
  bad = λ branch formed same. absurd (omega (
    arith,
    long,
    size_told (file_at tree head_place) size told,
    ap length same,
    length-append (codes "ref: " ++ branch) (10 ∷ []),
    length-append (codes "ref: ") branch,
    name_short branch (and_parts (is_name branch) (begins heads_front branch) formed).0,
  ));
}
