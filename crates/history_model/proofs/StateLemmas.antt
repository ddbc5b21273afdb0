-- What `files` prints, and what a `pack` leaves.
use Rattle.std.proofs.Common.{◌≡◌, Bool, true, false, not, ◌&&◌, T, List, [], ◌∷◌, map, ap, inl, inr, MatchBool, is_some}
use Rattle.std.specs.List.{AllByRecursion}
use Rattle.std.specs.List.Sorted.{IsStrictlySortedBy}
use Rattle.std.specs.Ordering.{is_lt}
use Rattle.std.specs.declared.cmp.Ordering.TheVariants.{Less}
use Rattle.std.specs.FinMap.{entries, entries_sorted, is_sorted}
use Rattle.std.specs.FinMap.Entries.{below_all}
use Rattle.history_model.specs.Bytes.{Bytes, by_bytes}
use Rattle.history_model.specs.FileMap.{Content}
use Rattle.history_model.specs.Repository.{Repository, id_at, moves_at}
use Rattle.history_model.specs.Commands.{Pack}
use Rattle.history_model.specs.Causes.{first_cause}
use Rattle.history_model.specs.Replies.{Reply, FileLine, FilesAre}
use Rattle.history_model.specs.Answers.{file_line, files_shown}
use Rattle.history_model.specs.Stops.{Between}
use Rattle.history_model.specs.laws.Trees.{FilesAscend}
use Rattle.history_model.specs.laws.Stopping.{PacksChangeNothing, HoldsTheSame}
use Rattle.gix_ref_file.proofs.Entries.{from_lt}

-- ---- `files`

and_left : (a b : Bool) → T (a && b) → T a
and_left true b h = tt
and_left false b h = absurd h

and_right : (a b : Bool) → T (a && b) → T b
and_right true b h = h
and_right false b h = absurd h

module _ (r : Repository) where
  paths : List (Bytes × Content) → List Bytes
  paths es = map (λ (line : FileLine). line.path) (map (file_line r.kind) es)

  below : (path : Bytes) (es : List (Bytes × Content)) → T (below_all by_bytes path es) → AllByRecursion (λ other. by_bytes path other ≡ Less) (paths es)
  unfolding paths
  below path [] h = tt
  below path (e ∷ es) h = (from_lt (by_bytes path e.0) (and_left (is_lt (by_bytes path e.0)) (below_all by_bytes path es) h), below path es (and_right (is_lt (by_bytes path e.0)) (below_all by_bytes path es) h))

  ascend : (es : List (Bytes × Content)) → T (is_sorted by_bytes es) → IsStrictlySortedBy by_bytes (paths es)
  unfolding paths IsStrictlySortedBy
  ascend [] h = tt
  ascend (e ∷ es) h = (below e.0 es (and_left (below_all by_bytes e.0 es) (is_sorted by_bytes es) h), ascend es (and_right (below_all by_bytes e.0 es) (is_sorted by_bytes es) h))

lines_of : Reply → List FileLine
lines_of (FilesAre lines) = lines
lines_of _ = []

pub files_ascend : FilesAscend
unfolding lines_of paths
files_ascend old new word lines step =
    let shown : lines ≡ files_shown old (step.answer.1.files) = ap lines_of step.answer.3 in
    rw shown (ascend old (entries (step.answer.1.files)) (entries_sorted (step.answer.1.files)))

-- ---- `pack`

pub packs_change_nothing : PacksChangeNothing
packs_change_nothing old x left = go (not (is_some (first_cause old Pack))) left.1
  where
    go : (b : Bool) → MatchBool b (Between old Pack x) (x ≡ old) → HoldsTheSame old x
    go true h = record {
      ids = λ name. elim ((h.names name).id) [ inl e ↦ e | inr e ↦ e ];
      moves = λ name. elim ((h.names name).moves) [ inl e ↦ e | inr rest ↦ elim rest [ inl e ↦ e | inr none ↦ cc ] ];
      branch = elim h.branch [ inl e ↦ e | inr e ↦ e ];
    }
    go false e = record {
      ids = λ name. ap (λ r. id_at r name) e;
      moves = λ name. ap (λ r. moves_at r name) e;
      branch = ap (λ (r : Repository). r.branch) e;
    }
