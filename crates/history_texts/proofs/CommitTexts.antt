-- The plain repository's text of a commit is that of its parts, which determine the commit.
use Rattle.std.proofs.Common.{◌≡◌, ◌≢◌, ◌∙◌, ap, refl, sym, subst, arith, zero, suc, ℕ, ◌<◌, not, ◌&&◌, List, [], ◌∷◌, ◌++◌, map, length, get_or, slice_index, append_assoc, nat_lt}
use Rattle.std.specs.Prelude.{All, IfNone, IsTrue, MatchOption, Option, None, Some, codes, nat_le}
use Rattle.std.specs.Char.{is_ascii_hexdigit}
use Rattle.std.specs.List.{flat_map, list_all}
use Rattle.std.proofs.lemmas.List.Elements.{All-nil, All-cons}
use Rattle.gix_hash.specs.Id.{Id, id_of}
use Rattle.gix_hash.specs.Kind.{hex_len}
use Rattle.gix_hash.specs.Order.{id_eq}
use Rattle.gix_hash.specs.Spelling.{hex_character, hex_text}
use Rattle.gix_hash.specs.declared.kind.Kind.{Kind}
use Rattle.gix_object_lines.specs.HexLine.{IsHex, hex_line, is_hex}
use Rattle.gix_object_commit.specs.Commit.{Parts, SpellsCommit, commit_text}
use Rattle.history_model.specs.Bytes.{Bytes, has_twice, line}
use Rattle.history_model.specs.Forms.{is_id, is_actor, is_commit_form, title, max_parents, max_title}
use Rattle.history_model.specs.Objects.{Actor, CommitValue, hex, actor_text, commit_content, folder_id, tree_text, root}
use Rattle.history_model.proofs.IdLemmas.{digest_is_id, has_kind, id_digits, length-hex, low_digit, hex_tells}
use Rattle.history_texts.specs.Commits.{SaysCommit, IsPlain, IsPlainCommit}
use Rattle.history_texts.specs.Formats.{parts_of, plain_parts}
use Rattle.gix_object_commit.specs.declared.commit.owned.Commit.{Commit}
use Rattle.history_texts.proofs.ActorTexts.{line_of_person, person_formed, person_tells}
use Rattle.history_texts.proofs.Spelled.{and_from}
use Rattle.gix_ref_file.proofs.Rooted.{both}

-- ---- ids

in_table : (table : Bytes) → IsTrue (is_hex table) → (i : ℕ) → i < length table → IsTrue (is_ascii_hexdigit (slice_index table i))
in_table [] are i less = absurd (omega arith)
in_table (c ∷ table) are zero less = (both (is_ascii_hexdigit c) (is_hex table) are).0
in_table (c ∷ table) are (suc i) less = in_table table (both (is_ascii_hexdigit c) (is_hex table) are).1 i (omega arith)

hex_is_hex : (digits : List ℕ) → IsTrue (list_all (λ d. nat_lt d 16) digits) → IsTrue (is_hex (hex_text digits))
hex_is_hex [] are = refl
hex_is_hex (d ∷ digits) are =
    let parts = both (nat_lt d 16) (list_all (λ d. nat_lt d 16) digits) are in
    and_from (is_ascii_hexdigit (hex_character d)) (is_hex (hex_text digits)) (in_table (codes "0123456789abcdef") refl d (low_digit d parts.0)) (hex_is_hex digits parts.1)

pub id_formed : (kind : Kind) (id : Id) → IsTrue (is_id kind id) → IsHex (hex_len kind) (hex id)
id_formed kind id formed = (length-hex id ∙ (has_kind kind id formed).whole, hex_is_hex id.digits (id_digits kind id formed))

pub ids_formed : (kind : Kind) (ids : List Id) → IsTrue (list_all (is_id kind) ids) → All (IsHex (hex_len kind)) (map hex ids)
ids_formed kind [] are = All-nil (IsHex (hex_len kind))
ids_formed kind (id ∷ ids) are =
    let parts = both (is_id kind id) (list_all (is_id kind) ids) are in
    All-cons (IsHex (hex_len kind)) (hex id) (map hex ids) (id_formed kind id parts.0) (ids_formed kind ids parts.1)

pub ids_tell : (kind : Kind) (a b : List Id) → IsTrue (list_all (is_id kind) a) → IsTrue (list_all (is_id kind) b) → map hex a ≡ map hex b → a ≡ b
ids_tell kind [] [] a_are b_are same = refl
ids_tell kind [] (id ∷ ids) a_are b_are same = cc
ids_tell kind (id ∷ ids) [] a_are b_are same = cc
ids_tell kind (a ∷ as_ids) (b ∷ bs_ids) a_are b_are same =
    let a_parts = both (is_id kind a) (list_all (is_id kind) as_ids) a_are in
    let b_parts = both (is_id kind b) (list_all (is_id kind) bs_ids) b_are in
    let head : hex a ≡ hex b = cc in
    let tail : map hex as_ids ≡ map hex bs_ids = cc in
    (λ i. hex_tells kind a b a_parts.0 b_parts.0 head i ∷ ids_tell kind as_ids bs_ids a_parts.1 b_parts.1 tail i)

-- ---- parts

-- such parts are spelled
pub plain_spelled : (kind : Kind) (tree : Id) (parents : List Id) (author committer : Actor) (message : Bytes) → IsTrue (is_id kind tree) → IsTrue (list_all (is_id kind) parents) → IsTrue (is_actor author) → IsTrue (is_actor committer)
    → SpellsCommit (hex_len kind) (commit_text (plain_parts tree parents author committer message)) (plain_parts tree parents author committer message)
plain_spelled kind tree parents author committer message tree_is parents_are author_is committer_is = record {
  spelled = refl;
  tree = id_formed kind tree tree_is;
  parents = ids_formed kind parents parents_are;
  author = person_formed author author_is;
  committer = person_formed committer committer_is;
  encoding = tt;
  headers = All-nil _;
  no_encoding = λ none first. first;
}

-- ---- the plain repository's commits

abbrev pub value_parts : Kind → CommitValue → Parts
value_parts kind value = plain_parts (folder_id kind value.files) value.parents value.author value.committer value.message

-- the content of a commit is the text of its parts
pub content_of_parts : (kind : Kind) (value : CommitValue) → commit_content kind value ≡ commit_text (value_parts kind value)
content_of_parts kind value =
    six_parts (line (codes "tree " ++ hex (folder_id kind value.files))) (parents_text value.parents) (line (codes "author " ++ actor_text value.author)) (line (codes "committer " ++ actor_text value.committer)) (line []) value.message
    ∙ (λ i. line (codes "tree " ++ hex (folder_id kind value.files)) ++ (lines_of_parents value.parents i
    ++ (line (codes "author " ++ sym (line_of_person value.author) i) ++ (line (codes "committer " ++ sym (line_of_person value.committer) i) ++ 10 ∷ value.message))))
  where
    parents_text : List Id → Bytes
    parents_text parents = flat_map (λ parent. line (codes "parent " ++ hex parent)) parents

    six_parts : (t ps a c n m : Bytes) → t ++ ps ++ a ++ c ++ n ++ m ≡ t ++ (ps ++ (a ++ (c ++ (n ++ m))))
    six_parts t ps a c n m = simp append_assoc

    lines_of_parents : (parents : List Id) → flat_map (λ parent. line (codes "parent " ++ hex parent)) parents ≡ flat_map (hex_line (codes "parent")) (map hex parents)
    lines_of_parents [] = refl
    lines_of_parents (parent ∷ parents) = ap (λ text. line (codes "parent " ++ hex parent) ++ text) (lines_of_parents parents)

-- what is written of such a commit is the value's content
pub text_of_commit : (kind : Kind) (commit : Commit) (value : CommitValue) → SaysCommit kind commit value → commit_text (parts_of commit) ≡ commit_content kind value
text_of_commit kind commit value is =
    (λ i. commit_text (plain_parts (is.tree i) (is.parents i) (is.author i) (is.committer i) (is.message i))) ∙ sym (content_of_parts kind value)

pub record ValueForms (kind : Kind) (value : CommitValue) : Type 0 where
  pub tree : IsTrue (is_id kind (folder_id kind value.files))
  pub parents : IsTrue (list_all (is_id kind) value.parents)
  pub author : IsTrue (is_actor value.author)
  pub committer : IsTrue (is_actor value.committer)

pub value_forms : (kind : Kind) (value : CommitValue) → IsTrue (is_commit_form kind value) → ValueForms kind value
value_forms kind value h =
    let ids = list_all (is_id kind) value.parents in
    let count = nat_le (length value.parents) max_parents in
    let once = not (has_twice id_eq value.parents) in
    let a = both (ids && count && once && is_actor value.author && is_actor value.committer) (nat_le (length (title value.message)) max_title) h in
    let b = both (ids && count && once && is_actor value.author) (is_actor value.committer) a.0 in
    let c = both (ids && count && once) (is_actor value.author) b.0 in
    let d = both (ids && count) once c.0 in
    record { tree = digest_is_id kind (tree_text (root kind value.files)); parents = (both ids count d.0).0; author = c.1; committer = b.1 }

-- its content spells its parts
pub value_spelled : (kind : Kind) (value : CommitValue) (content : Bytes) → IsTrue (is_commit_form kind value) → content ≡ commit_content kind value → SpellsCommit (hex_len kind) content (value_parts kind value)
value_spelled kind value content formed is =
    let forms = value_forms kind value formed in
    subst (λ text. SpellsCommit (hex_len kind) text (value_parts kind value)) (sym (is ∙ content_of_parts kind value))
    (plain_spelled kind (folder_id kind value.files) value.parents value.author value.committer value.message forms.tree forms.parents forms.author forms.committer)

pub value_plain : (kind : Kind) (value : CommitValue) (parts : Parts) → IsTrue (is_commit_form kind value) → parts ≡ value_parts kind value → IsPlain kind parts
value_plain kind value parts formed is =
    let forms = value_forms kind value formed in
    subst (IsPlain kind) (sym is) (record {
      tree = folder_id kind value.files;
      parents = value.parents;
      author = value.author;
      committer = value.committer;
      tree_is = forms.tree;
      parents_are = forms.parents;
      author_is = forms.author;
      committer_is = forms.committer;
      parts_are = refl;
    })

-- a commit of these parts says what the value says
pub value_told : (kind : Kind) (value : CommitValue) (commit : Commit) → IsTrue (is_commit_form kind value) → parts_of commit ≡ value_parts kind value → IsPlainCommit kind commit → SaysCommit kind commit value
value_told kind value commit formed is plain =
    let forms = value_forms kind value formed in
    let has = both (is_id kind (id_of commit.tree)) (list_all (is_id kind) (map id_of commit.parents.items)) plain.ids in
    record {
      plain = plain;
      tree = hex_tells kind _ _ has.0 forms.tree (ap (λ p. p.tree) is);
      parents = ids_tell kind _ _ has.1 forms.parents (ap (λ p. p.parents) is);
      author = person_tells _ _ plain.author.actor forms.author (ap (λ p. p.author) is);
      committer = person_tells _ _ plain.committer.actor forms.committer (ap (λ p. p.committer) is);
      message = ap (λ p. p.message) is;
    }

-- so for a text of the value a commit is read that says the same
pub value_answered : (kind : Kind) (value : CommitValue) (parts : Parts) (found : Option Commit) → IsTrue (is_commit_form kind value) → parts ≡ value_parts kind value
    → MatchOption found (¬ IsPlain kind parts) (λ commit. (parts ≡ parts_of commit) × IsPlainCommit kind commit) → MatchOption found ⊥ (λ commit. SaysCommit kind commit value)
value_answered kind value parts None formed is none = none (value_plain kind value parts formed is)
value_answered kind value parts (Some commit) formed is told = value_told kind value commit formed (sym told.0 ∙ is) told.1

-- what is refused spells no such parts
pub none_answered : (kind : Kind) (content : Bytes) (read : Parts) (found : Option Commit) → ((parts : Parts) → SpellsCommit (hex_len kind) content parts → read ≡ parts)
    → MatchOption found (¬ IsPlain kind read) (λ commit. (read ≡ parts_of commit) × IsPlainCommit kind commit) → IfNone found ((parts : Parts) → SpellsCommit (hex_len kind) content parts → ¬ IsPlain kind parts)
none_answered kind content read None same none = λ parts spelled plain. none (subst (IsPlain kind) (sym (same parts spelled)) plain)
none_answered kind content read (Some commit) same told = tt

-- if one text is no id's, the texts aren't those of a list of ids
pub none_told : {X : Type 0} (text : X → Bytes) (kind : Kind) (texts : List X) (at : ℕ) (default : X) → at < length texts → ((id : Id) → IsTrue (is_id kind id) → text (get_or texts at default) ≢ hex id)
    → (ids : List Id) → IsTrue (list_all (is_id kind) ids) → map text texts ≡ map hex ids → ⊥
none_told text kind [] at default less none ids are same = absurd (omega arith)
none_told text kind (t ∷ texts) at default less none [] are same = cc
none_told text kind (t ∷ texts) zero default less none (id ∷ ids) are same =
    let head : text t ≡ hex id = cc in
    none id (both (is_id kind id) (list_all (is_id kind) ids) are).0 head
none_told text kind (t ∷ texts) (suc at) default less none (id ∷ ids) are same =
    let tail : map text texts ≡ map hex ids = cc in
    none_told text kind texts at default (omega arith) none ids (both (is_id kind id) (list_all (is_id kind) ids) are).1 tail
