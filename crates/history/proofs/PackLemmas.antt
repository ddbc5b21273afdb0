-- A `pack` on its way, and what it leaves.
use Rattle.std.proofs.Common.{◌≡◌, ◌∙◌, ap, List, refl, sym, subst, None}
use Rattle.gix_ref_file.specs.History.{History, Adds}
use Rattle.gix_ref_file.proofs.Histories.{adds_weaker}
use Rattle.history_model.specs.Causes.{first_cause}
use Rattle.history_model.specs.Commands.{Pack}
use Rattle.history_model.specs.Meaning.{after}
use Rattle.history_model.specs.Replies.{Packed}
use Rattle.history_model.specs.StandsFor.{StandsFor}
use Rattle.history_model.specs.Steps.{Accepts}
use Rattle.history_layout.specs.PackSteps.{PacksNames, PacksOnTheWay}
use Rattle.history_layout.specs.Passing.{HoldsBetween}
use Rattle.history_layout.proofs.Packs.{packs_pass, packs_stand}
use Rattle.history_store.specs.KnownObjects.{HoldsKnown, table_of}
use Rattle.history_store.specs.Packed.{MayPack, records_of}
use Rattle.history_store.specs.declared.packs.PackedName.{PackedName}
use Rattle.history_repository.specs.Face.{KeepsAllButNames, names_part}
use Rattle.history_repository.proofs.Tables.{holds_known, tables_same}
use Rattle.history_plans.specs.Halves.{names_tree}
use Rattle.history_repository.specs.HeldObjects.{AreOf}
use Rattle.history_plans.specs.Packing.{IsPacking}
use Rattle.history_plans.specs.declared.packing.Packing.{Packing}
use Rattle.history_plans.proofs.PackedLines.{all_once, all_records}
use Rattle.history_plans.proofs.PartsStand.{names_stand}
use Rattle.history_repository.specs.Stands.{Stands, pair_of}
use Rattle.history.proofs.NamesAlone.{ChangesNames}
use Rattle.history_model.specs.Repository as plain
use Rattle.history_repository.specs.declared.repository.Repository as own

no_cause : (r : plain.Repository) → first_cause r Pack ≡ None
no_cause r = refl

accepted : (r : plain.Repository) → Accepts r Pack Packed (after r Pack)
accepted r = record { no_cause = no_cause r; not_taken = refl; answer = refl; result = refl }

pub names_only : (r : plain.Repository) → ChangesNames r Pack Packed
names_only r = record { changes = refl; spoken = refl; free = refl; values = refl; branch = refl; accepts = accepted r; steps = accepted r }

module _ {F : Type 0} (IsHonest : F → Type 0) (history : F → History) (old : own.Repository F) (r : plain.Repository) (h : Stands IsHonest history old r) where
  -- all its names can be packed
  pub may_pack : (packing : Packing) (given : List PackedName) → given ≡ packing.names.items → IsPacking r packing
      → MayPack IsHonest history old.names r (HoldsKnown IsHonest history old.objects × AreOf (table_of history old.objects) packing.held) (table_of history old.objects) given
  may_pack packing given same are = record {
    whole = names_stand IsHonest history old old r h (record { names = refl; branch = refl; rows = refl; failed = refl });
    sound = record { whole = h.whole.whole; written = h.whole.written };
    objects = (holds_known IsHonest history old r h, subst (λ table. AreOf table packing.held) (sym (tables_same IsHonest history old r h)) are.held);
    stored = λ id. (λ i. tables_same IsHonest history old r h i id);
    each = all_records r h.whole.whole h.whole.written given (ap records_of same ∙ are.names);
    once = all_once r h.whole.whole h.whole.written given (ap records_of same ∙ are.names);
  }

  pub passes_names : (new : own.Repository F) → Adds (PacksOnTheWay r (names_tree history old)) (history (names_part old)) (history (names_part new)) → Adds (HoldsBetween r Pack) (history (names_part old)) (history (names_part new))
  passes_names new pass = adds_weaker (history (names_part old)) (history (names_part new)) pass (λ tree may.
      packs_pass r (pair_of history old) tree (record { whole = h.whole.whole; written = h.whole.written }) (no_cause r) h.whole.stands may)

  pub stands_after : (new : own.Repository F) → KeepsAllButNames old new → PacksNames r (names_tree history old) (names_tree history new) → StandsFor r.kind (pair_of history new) (after r Pack)
  stands_after new kept packs = subst (λ objects. StandsFor r.kind (record { objects = (history objects.files).tree; names = names_tree history new }) (after r Pack)) (sym kept.objects)
      (packs_stand r (pair_of history old) (names_tree history new) h.whole.stands packs)
