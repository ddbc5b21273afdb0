-- What a word means, by the candidates of gitrevisions(7) for a `<refname>` and a short object
-- name.
use Rattle.std.specs.Prelude.{Bool, not, ◌&&◌, List, [], ◌∷◌, ◌++◌, length, nat_le, filter, find, Option, Some, None, option_map, unwrap_or, bytes_eq, codes, if◌then◌else◌}
use Rattle.std.specs.List.{list_all}
use Rattle.std.specs.FinMap.{keys}
use Rattle.hex.specs.Hex.{is_hex_digit}
use Rattle.history_model.specs.Bytes.{Bytes, begins, lower}
use Rattle.history_model.specs.Objects.{hex}
use Rattle.gix_hash.specs.Id.{Id}
use Rattle.gix_hash.specs.Kind.{hex_len}
use Rattle.gix_hash.specs.declared.kind.Kind.{Kind}
use Rattle.history_model.specs.Forms.{refs_front, heads_front, tags_front, is_private}
use Rattle.history_model.specs.Repository.{Repository, id_at, stands, peeled}

abbrev pub head_word : Bytes
head_word = codes "HEAD"

-- the names that a word may mean, in the order of the search; the word itself only if it begins
-- with `refs/`
abbrev pub candidates : Bytes → List Bytes
candidates word = filter (λ name. begins refs_front name && not (is_private name))
    (word ∷ (refs_front ++ word) ∷ (tags_front ++ word) ∷ (heads_front ++ word)
    ∷ (codes "refs/remotes/" ++ word) ∷ (codes "refs/remotes/" ++ word ++ codes "/HEAD") ∷ [])

-- what a word reads as, before a tag is peeled to its commit
pub data WordMeaning : Type 0 where
  ReadsAs : Id → WordMeaning
  Unborn : WordMeaning
  Unknown : WordMeaning
  Ambiguous : WordMeaning

-- from 4 digits to the kind's full length
abbrev pub is_short_id : Kind → Bytes → Bool
is_short_id kind word =
    nat_le 4 (length word) && nat_le (length word) (hex_len kind) && list_all is_hex_digit word

-- the stored ids that begin with the word, in any letter case
abbrev pub matches : Repository → Bytes → List Id
matches r word = filter (λ id. begins (lower word) (hex id)) (keys r.objects)

abbrev pub only_one : List Id → WordMeaning
only_one [] = Unknown
only_one (id ∷ []) = ReadsAs id
only_one (id ∷ other ∷ ids) = Ambiguous

abbrev pub id_meaning : Repository → Bytes → WordMeaning
id_meaning r word =
    if is_short_id r.kind word then only_one (matches r word) else Unknown

abbrev pub name_meaning : Option Id → WordMeaning
name_meaning None = Unborn
name_meaning (Some id) = ReadsAs id

-- HEAD always exists, and reads as its branch. Any other word means the first of its candidates
-- that exists; only if none exists, it may be an id.
abbrev pub word_meaning : Repository → Bytes → WordMeaning
word_meaning r word =
    if bytes_eq word head_word then name_meaning (id_at r r.branch)
    else unwrap_or
    (option_map (λ name. name_meaning (id_at r name)) (find (stands r) (candidates word)))
    (id_meaning r word)

abbrev pub commit_read : Repository → WordMeaning → Option Id
commit_read r (ReadsAs id) = peeled r id
commit_read r Unborn = None
commit_read r Unknown = None
commit_read r Ambiguous = None

-- the commit that a word means
abbrev pub commit_of : Repository → Bytes → Option Id
commit_of r word = commit_read r (word_meaning r word)
