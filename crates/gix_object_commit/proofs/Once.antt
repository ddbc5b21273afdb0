-- A text spells one commit.
use Rattle.std.proofs.Common.{◌≡◌, ◌∙◌, ap, refl, sym, subst, ℕ, Option, None, Some, List, [], ◌∷◌, ◌++◌, length, take, drop, append_assoc}
use Rattle.std.specs.Prelude.{codes, flat_map, All, IfSome}
use Rattle.std.proofs.Math.Seq.{take-append_seam, drop-append_seam}
use Rattle.gix_object_lines.specs.Bytes.{IsBeginningOf, Lacks}
use Rattle.gix_object_lines.specs.Actor.{IsCut}
use Rattle.gix_object_lines.specs.HexLine.{hex_line, IsHex}
use Rattle.gix_object_lines.proofs.Cuts.{cut_once}
use Rattle.gix_object_lines.proofs.ActorLemmas.{one_cut}
use Rattle.gix_object_lines.specs.Person.{Person, actor_line}
use Rattle.gix_object_commit.specs.Commit.{Field, Parts, line, encoding_text, field_text, IsPerson, IsField, SpellsCommit}
use Rattle.gix_object_commit.specs.Reading.{IsUnspaced}
use Rattle.gix_object_commit.proofs.Folds.{folded_once}
use Rattle.gix_object_commit.proofs.Lines.{line_shape, hex_shape, behind_same, actor_lacks, person_same, field_same, BeginsMessage, field_no_message, fields_unspaced}
use Rattle.gix_object_commit.proofs.Progress.{all_head, all_tail}
use Rattle.gix_object_commit.proofs.Whole.{after_tree, after_parents, after_author, after_committer, after_encoding, no_parent, no_encoding, parts_same}

-- ---- runs

module _ {X : Type 0} (text : X → List ℕ) (Fits : X → Type 0) (Ends : List ℕ → Type 0) (Next : List ℕ → Type 0)
    (next_of : (xs : List X) (end : List ℕ) → All Fits xs → Ends end → Next (flat_map text xs ++ end))
    (one : (x y : X) (r s : List ℕ) → Fits x → Fits y → Next r → Next s → text x ++ r ≡ text y ++ s → (x ≡ y) × (r ≡ s))
    (none : (x : X) (r end : List ℕ) → Fits x → Ends end → end ≡ text x ++ r → ⊥) where
  run_once : (xs ys : List X) (r s : List ℕ) → All Fits xs → All Fits ys → Ends r → Ends s → flat_map text xs ++ r ≡ flat_map text ys ++ s → (xs ≡ ys) × (r ≡ s)
  run_once [] [] r s f g m n e = (refl, e)
  run_once [] (y ∷ ys) r s f g m n e = absurd (none y (flat_map text ys ++ s) r (all_head Fits y ys g) m (e ∙ append_assoc (text y) (flat_map text ys) s))
  run_once (x ∷ xs) [] r s f g m n e = absurd (none x (flat_map text xs ++ r) s (all_head Fits x xs f) n (sym e ∙ append_assoc (text x) (flat_map text xs) r))
  run_once (x ∷ xs) (y ∷ ys) r s f g m n e =
      let fx = all_tail Fits x xs f in
      let gy = all_tail Fits y ys g in
      let same = one x y (flat_map text xs ++ r) (flat_map text ys ++ s) (all_head Fits x xs f) (all_head Fits y ys g) (next_of xs r fx m) (next_of ys s gy n)
      (sym (append_assoc (text x) (flat_map text xs) r) ∙ e ∙ append_assoc (text y) (flat_map text ys) s) in
      let later = run_once xs ys r s fx gy m n same.1 in
      (ap (λ z. z ∷ xs) same.0 ∙ ap (λ t. y ∷ t) later.0, later.1)

-- ---- single lines

same_front : (a b r s : List ℕ) → length a ≡ length b → a ++ r ≡ b ++ s → (a ≡ b) × (r ≡ s)
same_front a b r s len e = (
  sym (take-append_seam a r) ∙ ap (take (length a)) e ∙ ap (λ n. take n (b ++ s)) len ∙ take-append_seam b s,
  sym (drop-append_seam a r) ∙ ap (drop (length a)) e ∙ ap (λ n. drop n (b ++ s)) len ∙ drop-append_seam b s,
)

pub hex_once : (word a b r s : List ℕ) → length a ≡ length b → hex_line word a ++ r ≡ hex_line word b ++ s → (a ≡ b) × (r ≡ s)
hex_once word a b r s len e =
    let behind = behind_same (hex_line word a ++ r) word (a ++ 10 ∷ r) (b ++ 10 ∷ s) (hex_shape word a r) (e ∙ hex_shape word b s) in
    let fronts = same_front a b (10 ∷ r) (10 ∷ s) len behind in
    (fronts.0, tail r s fronts.1)
  where
    tail : (r s : List ℕ) → 10 ∷ r ≡ 10 ∷ s → r ≡ s
    tail r s e = cc

pub person_once : (word : List ℕ) (p q : Person) (r s : List ℕ) → IsPerson p → IsPerson q → line word (actor_line p) ++ r ≡ line word (actor_line q) ++ s → (p ≡ q) × (r ≡ s)
person_once word p q r s fp fq e =
    let behind = behind_same (line word (actor_line p) ++ r) word (actor_line p ++ 10 ∷ r) (actor_line q ++ 10 ∷ s) (line_shape word (actor_line p) r) (e ∙ line_shape word (actor_line q) s) in
    let same = cut_once 10 (actor_line p) r (actor_line q) s (actor_lacks (actor_line p) p.name p.email p.time fp) (actor_lacks (actor_line q) q.name q.email q.time fq) behind in
    let parts = one_cut (actor_line p) p.name p.email p.time q.name q.email q.time fp.cut (subst (λ t. IsCut t q.name q.email q.time) (sym same.0) fq.cut) in
    (person_same p q parts.0 parts.1 parts.2, same.1)

pub field_once : (f g : Field) (r s : List ℕ) → IsField f → IsField g → IsUnspaced r → IsUnspaced s → field_text f ++ r ≡ field_text g ++ s → (f ≡ g) × (r ≡ s)
field_once f g r s ff fg m n e =
    let names = cut_once 32 f.name (f.value ++ 10 ∷ r) g.name (g.value ++ 10 ∷ s) ff.name_one_word fg.name_one_word (sym (line_shape f.name f.value r) ∙ e ∙ line_shape g.name g.value s) in
    let values = folded_once f.value r g.value s ff.value_folded fg.value_folded m n names.1 in
    (field_same f g names.0 values.0, values.1)

pub encoding_once : (a b : Option (List ℕ)) (r s : List ℕ) → IfSome a (Lacks 10) → IfSome b (Lacks 10) → (a ≡ None → ¬ IsBeginningOf (codes "encoding ") r) → (b ≡ None → ¬ IsBeginningOf (codes "encoding ") s)
    → encoding_text a ++ r ≡ encoding_text b ++ s → (a ≡ b) × (r ≡ s)
encoding_once None None r s la lb na nb e = (refl, e)
encoding_once None (Some b) r s la lb na nb e = absurd (na refl (b ++ 10 ∷ s, e ∙ line_shape (codes "encoding") b s))
encoding_once (Some a) None r s la lb na nb e = absurd (nb refl (a ++ 10 ∷ r, sym e ∙ line_shape (codes "encoding") a r))
encoding_once (Some a) (Some b) r s la lb na nb e =
    let word = codes "encoding" in
    let behind = behind_same (line word a ++ r) word (a ++ 10 ∷ r) (b ++ 10 ∷ s) (line_shape word a r) (e ∙ line_shape word b s) in
    let same = cut_once 10 a r b s la lb behind in
    (ap Some same.0, same.1)

-- ---- the whole

pub spells_once : (n : ℕ) (input : List ℕ) (a b : Parts) → SpellsCommit n input a → SpellsCommit n input b → a ≡ b
spells_once n input a b s t =
    let tree = hex_once (codes "tree") a.tree b.tree (after_tree a) (after_tree b) (s.tree.0 ∙ sym t.tree.0) (sym s.spelled ∙ t.spelled) in
    let parents = run_once (hex_line (codes "parent")) (IsHex n) (λ end. ¬ IsBeginningOf (codes "parent ") end) (λ _. Unit {0}) (λ xs end fits ends. tt)
    (λ x y r q fx fy m k e. hex_once (codes "parent") x y r q (fx.0 ∙ sym fy.0) e)
    (λ x r end fits ends e. ends ((x ++ 10 ∷ []) ++ r, e))
    a.parents b.parents (after_parents a) (after_parents b) s.parents t.parents (no_parent a) (no_parent b) tree.1 in
    let author = person_once (codes "author") a.author b.author (after_author a) (after_author b) s.author t.author parents.1 in
    let committer = person_once (codes "committer") a.committer b.committer (after_committer a) (after_committer b) s.committer t.committer author.1 in
    let encoding = encoding_once a.encoding b.encoding (after_encoding a) (after_encoding b) s.encoding t.encoding
    (λ none. no_encoding a.headers a.message s.headers (s.no_encoding none)) (λ none. no_encoding b.headers b.message t.headers (t.no_encoding none)) committer.1 in
    let headers = run_once field_text IsField BeginsMessage IsUnspaced fields_unspaced field_once
    (λ x r end fits begins e. field_no_message x r begins.0 fits (sym begins.1 ∙ e))
    a.headers b.headers (10 ∷ a.message) (10 ∷ b.message) s.headers t.headers (a.message, refl) (b.message, refl) encoding.1 in
    parts_same a b tree.0 parents.0 author.0 committer.0 encoding.0 headers.0 (tail a.message b.message headers.1)
  where
    tail : (r q : List ℕ) → 10 ∷ r ≡ 10 ∷ q → r ≡ q
    tail r q e = cc
