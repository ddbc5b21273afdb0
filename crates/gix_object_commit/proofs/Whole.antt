-- What follows each part of a commit.
use Rattle.std.proofs.Common.{◌≡◌, ◌∙◌, ap, refl, sym, ℕ, List, [], ◌∷◌, ◌++◌, append_assoc, arith}
use Rattle.std.specs.Prelude.{codes, flat_map, All}
use Rattle.gix_object_lines.specs.HexLine.{hex_line}
use Rattle.gix_object_lines.proofs.Cuts.{cut_once}
use Rattle.gix_object_commit.specs.Commit.{Field, Parts, line, encoding_text, field_text, commit_text, IsField, IsEncodingFirst}
use Rattle.gix_object_lines.specs.Bytes.{IsBeginningOf}
use Rattle.gix_object_lines.specs.Person.{actor_line}
use Rattle.gix_object_commit.proofs.Lines.{line_shape}
use Rattle.gix_object_commit.proofs.Progress.{all_head}

abbrev pub after_encoding : Parts → List ℕ
after_encoding parts = flat_map field_text parts.headers ++ 10 ∷ parts.message

abbrev pub after_committer : Parts → List ℕ
after_committer parts = encoding_text parts.encoding ++ after_encoding parts

abbrev pub after_author : Parts → List ℕ
after_author parts = line (codes "committer") (actor_line parts.committer) ++ after_committer parts

abbrev pub after_parents : Parts → List ℕ
after_parents parts = line (codes "author") (actor_line parts.author) ++ after_author parts

abbrev pub after_tree : Parts → List ℕ
after_tree parts = flat_map (hex_line (codes "parent")) parts.parents ++ after_parents parts

-- no parent is where the author is
pub no_parent : (parts : Parts) → IsBeginningOf (codes "parent ") (after_parents parts) → ⊥
no_parent parts begins = let heads : ◌≡◌ {A = ℕ} 97 112 = cc (begins.1) in omega arith

-- if there is no encoding, there is no line for it
pub no_encoding : (headers : List Field) (message : List ℕ) → All IsField headers → ¬ IsEncodingFirst headers → IsBeginningOf (codes "encoding ") (flat_map field_text headers ++ 10 ∷ message) → ⊥
no_encoding [] message fits none begins = let heads : ◌≡◌ {A = ℕ} 10 101 = cc (begins.1) in omega arith
no_encoding (field ∷ headers) message fits none begins =
    let rest = flat_map field_text headers ++ 10 ∷ message in
    let whole : codes "encoding" ++ 32 ∷ begins.0 ≡ field.name ++ 32 ∷ (field.value ++ 10 ∷ rest) =
    sym begins.1 ∙ append_assoc (field_text field) (flat_map field_text headers) (10 ∷ message) ∙ line_shape field.name field.value rest in
    none (sym (cut_once 32 (codes "encoding") begins.0 field.name (field.value ++ 10 ∷ rest) refl (all_head IsField field headers fits).name_one_word whole).0)

-- a first header of the encoding's name begins as a line for it
pub first_begins : (headers : List Field) (end : List ℕ) → IsEncodingFirst headers → IsBeginningOf (codes "encoding ") (flat_map field_text headers ++ end)
first_begins [] end named = absurd named
first_begins (field ∷ headers) end named =
    let rest = flat_map field_text headers ++ end in
    (field.value ++ 10 ∷ rest, append_assoc (field_text field) (flat_map field_text headers) end ∙ line_shape field.name field.value rest ∙ ap (λ n. n ++ 32 ∷ (field.value ++ 10 ∷ rest)) named)

pub parts_same : (a b : Parts) → a.tree ≡ b.tree → a.parents ≡ b.parents → a.author ≡ b.author → a.committer ≡ b.committer → a.encoding ≡ b.encoding → a.headers ≡ b.headers → a.message ≡ b.message → a ≡ b
parts_same a b t p u c e h m = λ i. record { tree = t i; parents = p i; author = u i; committer = c i; encoding = e i; headers = h i; message = m i }

-- the lines one after the other
pub chain : (input tree : List ℕ) (parts : Parts) (r1 r2 r3 r4 r5 : List ℕ) → input ≡ hex_line (codes "tree") tree ++ r1 → parts.tree ≡ tree
    → r1 ≡ flat_map (hex_line (codes "parent")) parts.parents ++ r2 → r2 ≡ line (codes "author") (actor_line parts.author) ++ r3 → r3 ≡ line (codes "committer") (actor_line parts.committer) ++ r4
    → r4 ≡ encoding_text parts.encoding ++ r5 → r5 ≡ after_encoding parts → input ≡ commit_text parts
chain input tree parts r1 r2 r3 r4 r5 a t b c d e f =
    let end : r4 ≡ after_committer parts = e ∙ ap (λ r. encoding_text parts.encoding ++ r) f in
    let people : r2 ≡ after_parents parts = c ∙ ap (λ r. line (codes "author") (actor_line parts.author) ++ r) (d ∙ ap (λ r. line (codes "committer") (actor_line parts.committer) ++ r) end) in
    a ∙ ap (λ n. hex_line (codes "tree") n ++ r1) (sym t) ∙ ap (λ r. hex_line (codes "tree") parts.tree ++ r) (b ∙ ap (λ r. flat_map (hex_line (codes "parent")) parts.parents ++ r) people)
