-- What a survey of the whole part comes to.
use Rattle.std.proofs.Common.{◌≡◌, ◌∙◌, ℕ, [], Option, Some, None, Vec, ap, option_map, refl, subst, sym, true, unwrap_or}
use Rattle.std.specs.Borrow.{Bor}
use Rattle.std.specs.Prelude.{OnOk, Result, Ok, Err}
use Rattle.std.specs.declared.alloc.Global.{Global}
use Rattle.gix_hash.specs.declared.kind.Kind.{Kind}
use Rattle.gix_ref_file.specs.History.{History}
use Rattle.gix_ref_file.specs.Tree.{Tree, IsRooted, bytes_at}
use Rattle.history_model.specs.Bytes.{Bytes}
use Rattle.history_model.specs.Places.{file_at, packed_place}
use Rattle.history_model.specs.Repository.{Repository}
use Rattle.history_check_names.specs.Causes.{HasCause, IsOpenFault}
use Rattle.history_check_names.specs.Parts.{IsNamesPart, NamesBranch, StandsNames}
use Rattle.history_check_names.specs.Packed.{is_packed_text}
use Rattle.history_check_names.specs.Sound.{AreSoundRecords, IsSound, IsSoundBelow}
use Rattle.history_check_objects.specs.Stored.{Facts, AreFactsOf}
use Rattle.history_texts.specs.declared.open_error.OpenError.{OpenError}
use Rattle.history_check_names.proofs.Accepted.{no_cause}
use Rattle.history_check_names.proofs.Found.{all_at}
use Rattle.history_check_names.proofs.Standing.{is_names_part}

pub all_tested : {T E : Type 0} (kind : Kind) (facts : Facts) (tree : Tree) (r : Result T E) → is_packed_text kind (bytes_at tree packed_place) ≡ true → IsSoundBelow kind facts [] tree → OnOk r (AreSoundRecords kind facts tree) → OnOk r (IsSound kind facts tree)
all_tested kind facts tree (Ok t) packed below records = record { below = below; packed = packed; records = records }
all_tested kind facts tree (Err e) packed below records = records

pub part_stands : (kind : Kind) (facts : Facts) (tree : Tree) (branch : Bytes) → IsRooted tree → IsSound kind facts tree → NamesBranch tree branch → IsNamesPart kind facts tree branch
part_stands kind facts tree branch rooted sound named = is_names_part kind facts tree branch (all_at kind facts tree rooted sound.below) sound.packed sound.records named

-- what holds of one view of the files and of the kind holds of another
pub seen_so : {F : Type 0} (IsHonest : F → Type 0) (What : F → Kind → Type 0) (files known : F) (kind known_kind : Kind) → files ≡ known → kind ≡ known_kind → IsHonest known → (IsHonest files → What files kind) → What known known_kind
seen_so IsHonest What files known kind known_kind e same honest told =
    subst (λ k. What known k) same ((subst (λ f. IsHonest f → What f kind) e told) honest)

-- the bytes that are lent of a file's text, or none, are the file's
pub text_lent : {F : Type 0} (IsHonest : F → Type 0) (history : F → History) (files known : F) (lent : Option (Bor Bytes)) (none : Bor Bytes) (bytes : Bytes) (text : Option (Vec ℕ Global))
    → files ≡ known → bytes ≡ (unwrap_or lent none).now → none.now ≡ [] → option_map (λ (b : Bor Bytes). b.now) lent ≡ option_map (λ (t : Vec ℕ Global). t.items) text
    → (IsHonest known → option_map (λ (t : Vec ℕ Global). t.items) text ≡ file_at (history known).tree packed_place) → IsHonest files → bytes ≡ bytes_at (history files).tree packed_place
text_lent IsHonest history files known lent none bytes text same is empty lends read =
    subst (λ f. IsHonest f → bytes ≡ bytes_at (history f).tree packed_place) (sym same) (λ honest. is ∙ by_lent lent ∙ ap (λ o. unwrap_or o []) (lends ∙ read honest))
  where
    by_lent : (o : Option (Bor Bytes)) → (unwrap_or o none).now ≡ unwrap_or (option_map (λ (b : Bor Bytes). b.now) o) []
    by_lent None = empty
    by_lent (Some b) = refl

-- a repository's names part has none but faults
pub fault_alone : (A : Type 0) (kind : Kind) (facts : Facts) (tree : Tree) (r : Repository) (error : OpenError) → r.kind ≡ kind → AreFactsOf facts r.objects → StandsNames tree r → HasCause A kind facts tree error → IsOpenFault error
fault_alone A kind facts tree r error same are stands wrong = no_cause tree r facts are stands A error (subst (λ k. HasCause A k facts tree error) (sym same) wrong)
