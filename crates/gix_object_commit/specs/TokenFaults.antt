-- Why no part of a commit is next, by what may come next (git-fast-import, "commit"; Git User
-- Manual, "Commit Object").
use Rattle.std.specs.Prelude.{ℕ, ◌≢◌, ◌⊎◌, List, ◌∷◌, codes}
use Rattle.gix_hash.specs.Kind.{hex_len}
use Rattle.gix_hash.specs.declared.kind.Kind.{Kind}
use Rattle.gix_object_lines.specs.HexLine.{HexLineFault}
use Rattle.gix_object_lines.specs.declared.decode.Error.{Error}
use Rattle.gix_object_commit.specs.declared.ref_iter.Stage.{Stage}
use Rattle.gix_object_commit.specs.declared.ref_iter.Stage.TheVariants as at
use Rattle.gix_object_commit.specs.Faults.{PersonFault, EncodingFault, HeaderFault}
use Rattle.gix_object_lines.specs.Bytes.{IsBeginningOf}

-- a parent's line begins, and is none; or none begins, and the author's fails
abbrev pub ParentOrAuthorFault : Kind → List ℕ → Error → Type 0
ParentOrAuthorFault kind input error =
    (IsBeginningOf (codes "parent ") input
    × HexLineFault (codes "parent") (hex_len kind) input error)
    ⊎ ((¬ IsBeginningOf (codes "parent ") input) × PersonFault (codes "author") input error)

-- no empty line begins, and no header
abbrev pub FurtherHeaderFault : List ℕ → Error → Type 0
FurtherHeaderFault input error =
    ((message : List ℕ) → input ≢ 10 ∷ message) × HeaderFault input error

-- the encoding's line begins, and has no end; or it doesn't begin, and nothing comes that may
-- replace it
abbrev pub FirstHeaderFault : List ℕ → Error → Type 0
FirstHeaderFault input error =
    EncodingFault input error
    ⊎ ((¬ IsBeginningOf (codes "encoding ") input) × FurtherHeaderFault input error)

abbrev pub IsFaultAt : Kind → Stage → List ℕ → Error → Type 0
IsFaultAt kind at.Tree input error = HexLineFault (codes "tree") (hex_len kind) input error
IsFaultAt kind at.Parents input error = ParentOrAuthorFault kind input error
IsFaultAt kind at.Committer input error = PersonFault (codes "committer") input error
IsFaultAt kind at.Encoding input error = FirstHeaderFault input error
IsFaultAt kind at.Headers input error = FurtherHeaderFault input error
