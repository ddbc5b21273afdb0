use Rattle.std.proofs.Common.{◌∙◌, ap, sym, subst, map, ◌++◌, ◌∷◌}
use Rattle.std.specs.Prelude.{All, flat_map}
use Rattle.std.specs.Option.{option_map}
use Rattle.bstr.specs.BStr.{bstr_bytes}
use Rattle.gix_hash.specs.Kind.{hex_len}
use Rattle.gix_object_lines.specs.HexLine.{IsHex}
use Rattle.gix_object_lines.specs.Person.{person_of}
use Rattle.gix_object_commit.specs.Commit.{encoding_text, field_text}
use Rattle.gix_object_commit.specs.Faults.{InAuthor, InCommitter, InEncoding}
use Rattle.gix_object_commit.specs.LineViews.{field_of}
use Rattle.gix_object_commit.proofs.FaultLemmas.{behind_tree, behind_parents, parents_fault, behind_author, behind_committer, behind_encoding, headers_fault}
use Rattle.std.proofs.lemmas.Result.{err_from_is_err_and}
use Rattle.gix_object_commit.proofs.Whole.{after_tree, after_parents, after_author, after_encoding, no_parent, no_encoding, first_begins, parts_same, chain}
use Rattle.gix_object_commit.proofs.commit.CommitRef.from_bytes.Goals as goal

pub returns-in_err-encoding-clause-every : goal.returns-in_err-encoding-clause-every
returns-in_err-encoding-clause-every c = λ parts s.
    let digits = sym c.len_in_hex-digits.ensures in
    let tree = c.in_ok-tree.ensures.back parts.tree (after_tree parts) (subst (λ n. IsHex n parts.tree) digits s.tree) s.spelled in
    let parents = c.in_ok-parents.ensures.every parts.parents (after_parents parts) (subst (λ n. All (IsHex n) parts.parents) digits s.parents) (no_parent parts) tree.1 in
    let author = c.in_ok-author.ensures.every parts.author (after_author parts) s.author parents.1 in
    let committer = c.in_ok-committer.ensures.every parts.committer (encoding_text parts.encoding ++ after_encoding parts) s.committer author.1 in
    absurd (c.in_err-encoding.ensures.every parts.encoding (after_encoding parts) s.encoding (λ none. no_encoding parts.headers parts.message s.headers (s.no_encoding none)) committer.1)

pub returns-in_err-extra_headers-clause-every : goal.returns-in_err-extra_headers-clause-every
returns-in_err-extra_headers-clause-every c = λ parts s.
    let digits = sym c.len_in_hex-digits.ensures in
    let tree = c.in_ok-tree.ensures.back parts.tree (after_tree parts) (subst (λ n. IsHex n parts.tree) digits s.tree) s.spelled in
    let parents = c.in_ok-parents.ensures.every parts.parents (after_parents parts) (subst (λ n. All (IsHex n) parts.parents) digits s.parents) (no_parent parts) tree.1 in
    let author = c.in_ok-author.ensures.every parts.author (after_author parts) s.author parents.1 in
    let committer = c.in_ok-committer.ensures.every parts.committer (encoding_text parts.encoding ++ after_encoding parts) s.committer author.1 in
    let encoding = c.in_ok-encoding.ensures.every parts.encoding (after_encoding parts) s.encoding (λ none. no_encoding parts.headers parts.message s.headers (s.no_encoding none)) committer.1 in
    let fault = c.in_err-extra_headers.ensures.every parts.headers parts.message s.headers encoding.1 in
    let p = err_from_is_err_and c.from_residual-in_err-extra_headers.result c.from_residual-in_err-extra_headers.ensures.1 in
    rw (p.1, p.2) fault

pub returns-in_err-parents-clause-refused : goal.returns-in_err-parents-clause-refused
returns-in_err-parents-clause-refused c =
    let n = hex_len c.args.hash_kind in
    let input = c.args.input.now in
    let p = err_from_is_err_and c.from_residual-in_err-parents.result c.from_residual-in_err-parents.ensures.1 in
    let tree = behind_tree n c.len_in_hex-digits.result input c.len_in_hex-digits.ensures c.in_ok-tree.tree.now c.in_ok-tree.rest.now c.in_ok-tree.ensures.read in
    rw (p.1, p.2) (parents_fault n c.len_in_hex-digits.result input c.len_in_hex-digits.ensures c.in_ok-tree.rest.now _ tree c.in_err-parents.ensures.refused)

pub returns-in_err-author-clause-refused : goal.returns-in_err-author-clause-refused
returns-in_err-author-clause-refused c =
    let n = hex_len c.args.hash_kind in
    let input = c.args.input.now in
    let p = err_from_is_err_and c.from_residual-in_err-author.result c.from_residual-in_err-author.ensures.1 in
    let tree = behind_tree n c.len_in_hex-digits.result input c.len_in_hex-digits.ensures c.in_ok-tree.tree.now c.in_ok-tree.rest.now c.in_ok-tree.ensures.read in
    let parents = behind_parents n c.len_in_hex-digits.result input c.len_in_hex-digits.ensures c.in_ok-tree.rest.now (map bstr_bytes c.in_ok-parents.parents.items) c.in_ok-parents.rest.now tree c.in_ok-parents.ensures.read in
    rw (p.1, p.2) (InAuthor c.in_ok-parents.rest.now parents c.in_err-author.ensures.refused)

pub returns-in_err-committer-clause-refused : goal.returns-in_err-committer-clause-refused
returns-in_err-committer-clause-refused c =
    let n = hex_len c.args.hash_kind in
    let input = c.args.input.now in
    let p = err_from_is_err_and c.from_residual-in_err-committer.result c.from_residual-in_err-committer.ensures.1 in
    let tree = behind_tree n c.len_in_hex-digits.result input c.len_in_hex-digits.ensures c.in_ok-tree.tree.now c.in_ok-tree.rest.now c.in_ok-tree.ensures.read in
    let parents = behind_parents n c.len_in_hex-digits.result input c.len_in_hex-digits.ensures c.in_ok-tree.rest.now (map bstr_bytes c.in_ok-parents.parents.items) c.in_ok-parents.rest.now tree c.in_ok-parents.ensures.read in
    let author = behind_author n input c.in_ok-parents.rest.now (person_of c.in_ok-author.author) c.in_ok-author.rest.now parents c.in_ok-author.ensures.read in
    rw (p.1, p.2) (InCommitter c.in_ok-author.rest.now author c.in_err-committer.ensures.refused)

pub returns-in_err-encoding-clause-refused : goal.returns-in_err-encoding-clause-refused
returns-in_err-encoding-clause-refused c =
    let n = hex_len c.args.hash_kind in
    let input = c.args.input.now in
    let p = err_from_is_err_and c.from_residual-in_err-encoding.result c.from_residual-in_err-encoding.ensures.1 in
    let tree = behind_tree n c.len_in_hex-digits.result input c.len_in_hex-digits.ensures c.in_ok-tree.tree.now c.in_ok-tree.rest.now c.in_ok-tree.ensures.read in
    let parents = behind_parents n c.len_in_hex-digits.result input c.len_in_hex-digits.ensures c.in_ok-tree.rest.now (map bstr_bytes c.in_ok-parents.parents.items) c.in_ok-parents.rest.now tree c.in_ok-parents.ensures.read in
    let author = behind_author n input c.in_ok-parents.rest.now (person_of c.in_ok-author.author) c.in_ok-author.rest.now parents c.in_ok-author.ensures.read in
    let committer = behind_committer n input c.in_ok-author.rest.now (person_of c.in_ok-committer.committer) c.in_ok-committer.rest.now author c.in_ok-committer.ensures.read in
    rw (p.1, p.2) (InEncoding c.in_ok-committer.rest.now committer c.in_err-encoding.ensures.refused)

pub returns-in_err-extra_headers-clause-refused : goal.returns-in_err-extra_headers-clause-refused
returns-in_err-extra_headers-clause-refused c =
    let n = hex_len c.args.hash_kind in
    let input = c.args.input.now in
    let p = err_from_is_err_and c.from_residual-in_err-extra_headers.result c.from_residual-in_err-extra_headers.ensures.1 in
    let tree = behind_tree n c.len_in_hex-digits.result input c.len_in_hex-digits.ensures c.in_ok-tree.tree.now c.in_ok-tree.rest.now c.in_ok-tree.ensures.read in
    let parents = behind_parents n c.len_in_hex-digits.result input c.len_in_hex-digits.ensures c.in_ok-tree.rest.now (map bstr_bytes c.in_ok-parents.parents.items) c.in_ok-parents.rest.now tree c.in_ok-parents.ensures.read in
    let author = behind_author n input c.in_ok-parents.rest.now (person_of c.in_ok-author.author) c.in_ok-author.rest.now parents c.in_ok-author.ensures.read in
    let committer = behind_committer n input c.in_ok-author.rest.now (person_of c.in_ok-committer.committer) c.in_ok-committer.rest.now author c.in_ok-committer.ensures.read in
    let encoding = behind_encoding n input c.in_ok-committer.rest.now (option_map bstr_bytes c.in_ok-encoding.encoding) c.in_ok-encoding.rest.now committer c.in_ok-encoding.ensures.read in
    rw (p.1, p.2) (headers_fault n input c.in_ok-encoding.rest.now _ encoding c.in_err-extra_headers.ensures.refused)

pub returns-clause-read : goal.returns-clause-read
returns-clause-read c = record {
  spelled = chain c.args.input.now c.in_ok-tree.tree.now _ _ _ _ _ _ c.in_ok-tree.ensures.read.0 c.new.ensures c.in_ok-parents.ensures.read.0 c.in_ok-author.ensures.read.0 c.in_ok-committer.ensures.read.0 c.in_ok-encoding.ensures.read.0
      (c.in_ok-extra_headers.ensures.read.0 ∙ ap (λ m. flat_map field_text (map field_of c.in_ok-extra_headers.extra_headers.items) ++ 10 ∷ m) (sym c.new-2.ensures));
  tree = subst (λ n. IsHex n (bstr_bytes c.new.result)) c.len_in_hex-digits.ensures (subst (IsHex c.len_in_hex-digits.result) (sym c.new.ensures) c.in_ok-tree.ensures.read.1);
  parents = subst (λ n. All (IsHex n) (map bstr_bytes c.in_ok-parents.parents.items)) c.len_in_hex-digits.ensures c.in_ok-parents.ensures.read.1;
  author = c.in_ok-author.ensures.read.1;
  committer = c.in_ok-committer.ensures.read.1;
  encoding = c.in_ok-encoding.ensures.read.1;
  headers = c.in_ok-extra_headers.ensures.read.1;
  no_encoding = λ none first. c.in_ok-encoding.ensures.read.2 none
      (let begins = first_begins (map field_of c.in_ok-extra_headers.extra_headers.items) (10 ∷ c.in_ok-extra_headers.message.now) first in
      (begins.0, c.in_ok-encoding.ensures.read.0 ∙ ap (λ e. encoding_text e ++ c.in_ok-encoding.rest.now) none ∙ c.in_ok-extra_headers.ensures.read.0 ∙ begins.1));
}

pub returns-clause-every : goal.returns-clause-every
returns-clause-every c = λ parts s.
    let digits = sym c.len_in_hex-digits.ensures in
    let tree = c.in_ok-tree.ensures.back parts.tree (after_tree parts) (subst (λ n. IsHex n parts.tree) digits s.tree) s.spelled in
    let parents = c.in_ok-parents.ensures.every parts.parents (after_parents parts) (subst (λ n. All (IsHex n) parts.parents) digits s.parents) (no_parent parts) tree.1 in
    let author = c.in_ok-author.ensures.every parts.author (after_author parts) s.author parents.1 in
    let committer = c.in_ok-committer.ensures.every parts.committer (encoding_text parts.encoding ++ after_encoding parts) s.committer author.1 in
    let encoding = c.in_ok-encoding.ensures.every parts.encoding (after_encoding parts) s.encoding (λ none. no_encoding parts.headers parts.message s.headers (s.no_encoding none)) committer.1 in
    let headers = c.in_ok-extra_headers.ensures.every parts.headers parts.message s.headers encoding.1 in
    parts_same _ parts (c.new.ensures ∙ tree.0) parents.0 author.0 committer.0 encoding.0 headers.0 (c.new-2.ensures ∙ headers.1)
