-- Which parts are a commit's in written form.
use Rattle.std.proofs.Common.{◌≡◌, ◌∙◌, ap, sym, subst, Bool, not, ◌&&◌, List, map, length}
use Rattle.std.specs.Prelude.{IsFalse, IsTrue, MatchOption, Option, None, Some, Vec, nat_le}
use Rattle.std.specs.declared.alloc.Global.{Global}
use Rattle.std.specs.FinMap.{empty}
use Rattle.std.specs.List.{list_all}
use Rattle.gix_hash.specs.Id.{Id, id_of}
use Rattle.gix_hash.specs.Kind.{hex_len}
use Rattle.gix_hash.specs.Order.{id_eq}
use Rattle.gix_hash.specs.declared.kind.Kind.{Kind}
use Rattle.gix_object_commit.specs.Commit.{Parts, SpellsCommit, commit_text}
use Rattle.history_model.specs.Bytes.{Bytes, has_twice}
use Rattle.history_model.specs.Forms.{is_actor, is_commit_form, is_id, max_parents, max_title, title}
use Rattle.history_model.specs.Objects.{CommitValue}
use Rattle.history_texts.specs.Commits.{IsPlain, IsPlainCommit}
use Rattle.history_texts.specs.Formats.{own_actor, parts_of}
use Rattle.history_texts.specs.Written.{NamesByCommit, NamesByParts, Naming, commit_parts, named_by_commit, naming_of}
use Rattle.gix_object_commit.specs.declared.commit.owned.Commit.{Commit}
use Rattle.history_texts.specs.declared.written.Named.{Named}
use Rattle.history_texts.proofs.CommitTexts.{ids_tell, plain_spelled}
use Rattle.history_texts.proofs.Spelled.{and_from}
use Rattle.gix_ref_file.proofs.Rooted.{both}

-- the limits of parents and title, and no parent twice
abbrev pub within_limits : List Id → Bytes → Bool
within_limits parents message = nat_le (length parents) max_parents && not (has_twice id_eq parents) && nat_le (length (title message)) max_title

-- a commit's form part by part
pub record CommitForm (kind : Kind) (value : CommitValue) : Type 0 where
  pub parents : IsTrue (list_all (is_id kind) value.parents)
  pub author : IsTrue (is_actor value.author)
  pub committer : IsTrue (is_actor value.committer)
  pub limits : IsTrue (within_limits value.parents value.message)

pub commit_form : (kind : Kind) (value : CommitValue) → IsTrue (is_commit_form kind value) → CommitForm kind value
commit_form kind value h =
    let ids = list_all (is_id kind) value.parents in
    let count = nat_le (length value.parents) max_parents in
    let once = not (has_twice id_eq value.parents) in
    let a = both (ids && count && once && is_actor value.author && is_actor value.committer) (nat_le (length (title value.message)) max_title) h in
    let b = both (ids && count && once && is_actor value.author) (is_actor value.committer) a.0 in
    let c = both (ids && count && once) (is_actor value.author) b.0 in
    let d = both (ids && count) once c.0 in
    let e = both ids count d.0 in
    record { parents = e.0; author = c.1; committer = b.1; limits = and_from _ _ (and_from _ _ e.1 d.1) a.1 }

pub form_of : (kind : Kind) (value : CommitValue) → CommitForm kind value → IsTrue (is_commit_form kind value)
form_of kind value form =
    let count = nat_le (length value.parents) max_parents in
    let once = not (has_twice id_eq value.parents) in
    let a = both (count && once) (nat_le (length (title value.message)) max_title) form.limits in
    let b = both count once a.0 in
    and_from _ _ (and_from _ _ (and_from _ _ (and_from _ _ (and_from _ _ form.parents b.0) b.1) form.author) form.committer) a.1

-- parts that aren't plain are none of them
pub none_named : (kind : Kind) (parts : Parts) → ¬ IsPlain kind parts → (named : List Naming) → NamesByParts kind parts named → ⊥
none_named kind parts unlike named names =
    let are = names.parts_are in
    let form = commit_form kind names.value are.form in
    unlike (record {
      tree = names.tree;
      parents = names.value.parents;
      author = names.value.author;
      committer = names.value.committer;
      tree_is = are.tree_is;
      parents_are = form.parents;
      author_is = form.author;
      committer_is = form.committer;
      parts_are = are.told ∙ (λ i. commit_parts names.tree (record { parents = names.value.parents; author = names.value.author; committer = names.value.committer; message = sym (ap (λ (p : Parts). p.message) are.told) i; files = names.value.files }));
    })

-- nor are those over a limit
pub over_limit : (kind : Kind) (parts : Parts) (commit : Commit) → parts ≡ parts_of commit → IsPlainCommit kind commit → IsFalse (within_limits (map id_of commit.parents.items) commit.message)
    → (named : List Naming) → NamesByParts kind parts named → ⊥
over_limit kind parts commit told plain over named names =
    let are = names.parts_are in
    let form = commit_form kind names.value are.form in
    let same = sym told ∙ are.told in
    let has = both (is_id kind (id_of commit.tree)) (list_all (is_id kind) (map id_of commit.parents.items)) plain.ids in
    let parents = ids_tell kind _ _ has.1 form.parents (ap (λ (p : Parts). p.parents) same) in
    let message : commit.message ≡ names.value.message = ap (λ (p : Parts). p.message) same in
    cc (sym over ∙ (λ i. within_limits (parents i) (message i)) ∙ form.limits)

-- a commit within the limits names its tree and its parents
pub names_of_commit : (kind : Kind) (parts : Parts) (commit : Commit) (named : List Naming) → parts ≡ parts_of commit → IsPlainCommit kind commit → IsTrue (within_limits (map id_of commit.parents.items) commit.message)
    → named ≡ named_by_commit (id_of commit.tree) (record { parents = map id_of commit.parents.items; author = own_actor commit.author; committer = own_actor commit.committer; message = commit.message; files = empty })
    → NamesByParts kind parts named
names_of_commit kind parts commit named told plain within is =
    let has = both (is_id kind (id_of commit.tree)) (list_all (is_id kind) (map id_of commit.parents.items)) plain.ids in
    let value : CommitValue = record { parents = map id_of commit.parents.items; author = own_actor commit.author; committer = own_actor commit.committer; message = commit.message; files = empty } in
    record {
      tree = id_of commit.tree;
      value = value;
      parts_are = record {
        tree_is = has.0;
        form = form_of kind value (record { parents = has.1; author = plain.author.actor; committer = plain.committer.actor; limits = within });
        told = told;
      };
      named_are = is;
    }

-- a content of such parts spells them
pub spelled_so : (kind : Kind) (content : Bytes) (named : List Naming) (names : NamesByCommit kind content named) → SpellsCommit (hex_len kind) content names.parts
spelled_so kind content named names =
    let by = names.names in
    let are = by.parts_are in
    let form = commit_form kind by.value are.form in
    subst (λ parts. SpellsCommit (hex_len kind) content parts) (sym are.told)
    (subst (λ text. SpellsCommit (hex_len kind) text (commit_parts by.tree by.value)) (sym (names.text ∙ ap commit_text are.told))
    (plain_spelled kind by.tree by.value.parents by.value.author by.value.committer by.value.message are.tree_is form.parents form.author form.committer))

-- what a content's parts name, the content does
pub content_answered : (kind : Kind) (content : Bytes) (read : Parts) (found : Option (Vec Named Global)) → SpellsCommit (hex_len kind) content read → ((parts : Parts) → SpellsCommit (hex_len kind) content parts → read ≡ parts)
    → MatchOption found ((named : List Naming) → NamesByParts kind read named → ⊥) (λ named. NamesByParts kind read (map naming_of named.items))
    → MatchOption found ((named : List Naming) → NamesByCommit kind content named → ⊥) (λ named. NamesByCommit kind content (map naming_of named.items))
content_answered kind content read None spells every none = λ named names. none named (subst (λ parts. NamesByParts kind parts named) (sym (every names.parts (spelled_so kind content named names))) names.names)
content_answered kind content read (Some named) spells every told = record { parts = read; text = spells.spelled; names = told }
