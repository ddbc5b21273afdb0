-- The file map without files.
use Rattle.std.proofs.Common.{◌≡◌, List, [], ◌∷◌, length, refl, sym, ◌∙◌, arith}
use Rattle.std.specs.FinMap.{empty, entries, len-empty, len-entries}
use Rattle.gix_hash.specs.declared.kind.Kind.{Kind}
use Rattle.history_model.specs.Bytes.{by_bytes}
use Rattle.history_model.specs.FileMap.{Content}
use Rattle.history_model.specs.Objects.{root, root_within}

no_entries : {X : Type 0} (xs : List X) → length xs ≡ 0 → xs ≡ []
no_entries [] none = refl
no_entries (x ∷ xs) none = absurd (omega (arith, none))

pub entries-empty : entries (empty {X = Content} {R = by_bytes}) ≡ []
entries-empty = no_entries (entries (empty {X = Content} {R = by_bytes})) (sym (len-entries (empty {X = Content} {R = by_bytes})) ∙ len-empty by_bytes Content)

pub root-empty : (kind : Kind) → root kind empty ≡ []
unfolding root root_within
root-empty kind = rw entries-empty refl
