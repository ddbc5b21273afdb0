-- What is supposed of the runtime's calls, closed to every other crate.
use Rattle.std.specs.Prelude.{ℕ, List, []}
use Rattle.std.specs.FinMap.{empty}
use Rattle.gix_ref_file.specs.History.{History}
use Rattle.gix_ref_folder.specs.declared.disk.Disk.{Disk}
use Rattle.gix_ref_folder.specs.declared.own.Own.{Own}
use Rattle.gix_ref_folder.specs.declared.part.Part.{Part}

-- What a part below a root holds and held, and that the calls keep what `System` says of them
-- there. Both are closed: no other crate sees their text, so they can neither be shown of a disk
-- nor refuted, only supposed. No call of the runtime promises anything, so within this crate only a
-- premise that never holds could give the clauses.
pub history_on : {R File Dir : Type 0} → Disk R File Dir → List ℕ → Part → History
history_on disk root part = record { past = []; tree = empty }

pub IsHonestOn : {R File Dir : Type 0} → Disk R File Dir → List ℕ → Part → Type 0
IsHonestOn disk root part = ⊥

-- So this crate's own calls keep them. No other crate can name `Own`.
pub follows : {R File Dir : Type 0} (disk : Disk R File Dir) (root : List ℕ) (part : Part) (P : Type 0) → Own
    → IsHonestOn disk root part → P
unfolding IsHonestOn
follows disk root part P own honest = absurd honest
