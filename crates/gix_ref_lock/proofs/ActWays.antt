-- What the steps of an act leave on the way of the whole.
use Rattle.std.proofs.Common.{◌≡◌, ◌⊎◌, inl, inr, refl, sym, ◌∙◌, subst}
use Rattle.gix_ref_lock.specs.Contents.{Contents, noted, updated, moved, MayBeNoted, MayBeLogged, IsBetween}
use Rattle.gix_ref_lock.specs.Moments.{IsUpdating, IsForgetting, IsRemoving}
use Rattle.gix_ref_lock.specs.Committing.{Shows, StaysYet, FileStays, LogGone, LocksAlone, shown}
use Rattle.gix_ref_lock.specs.declared.act.Act.{Act}
use Rattle.gix_ref_lock.specs.declared.act.Act.TheVariants.{Put, Note, Pack, Remove, Forget}
use Rattle.gix_ref_lock.proofs.StepEnds.{not_noted, all_noted}

-- ---- before anything
pub begin_between : (act : Act) (c : Contents) → IsBetween act c c
begin_between (Put line) c = record { log = not_noted line c.log; file = inl refl }
begin_between (Note line) c = record { log = not_noted line c.log; file = inl refl }
begin_between (Pack line) c = record { log = not_noted line c.log; file = inl refl }
begin_between Remove c = record { log = inl refl; file = inl refl }
begin_between Forget c = record { log = inl refl; file = inl refl }

pub begin_stays : (act : Act) (c : Contents) → StaysYet act c c
begin_stays (Put line) c = tt
begin_stays (Note line) c = tt
begin_stays (Pack line) c = refl
begin_stays Remove c = (refl, refl)
begin_stays Forget c = (refl, refl)

pub begin_files : (act : Act) (c : Contents) → FileStays act c c
begin_files (Put line) c = tt
begin_files (Note line) c = tt
begin_files (Pack line) c = refl
begin_files Remove c = refl
begin_files Forget c = refl

-- ---- updates
pub up_between : (act : Act) (c d : Contents) → IsUpdating act c d → IsBetween act c d
up_between (Put line) c d (inl (file, log)) = record { log = log; file = inl file }
up_between (Put line) c d (inr (file, log)) = record { log = subst (MayBeNoted line c.log) (sym log) (all_noted line c.log); file = inr (file, log) }
up_between (Note line) c d (file, log) = record { log = log; file = inl file }
up_between (Pack line) c d (file, log) = record { log = log; file = inl file }
up_between Remove c d same = subst (IsBetween Remove c) (sym same) (begin_between Remove c)
up_between Forget c d same = subst (IsBetween Forget c) (sym same) (begin_between Forget c)

pub up_stays : (act : Act) (c d : Contents) → IsUpdating act c d → StaysYet act c d
up_stays (Put line) c d up = tt
up_stays (Note line) c d up = tt
up_stays (Pack line) c d (file, log) = file
up_stays Remove c d same = subst (StaysYet Remove c) (sym same) (refl, refl)
up_stays Forget c d same = subst (StaysYet Forget c) (sym same) (refl, refl)

pub up_files : (act : Act) (c d : Contents) → IsUpdating act c d → FileStays act c d
up_files (Put line) c d up = tt
up_files (Note line) c d up = tt
up_files (Pack line) c d (file, log) = file
up_files Remove c d same = subst (FileStays Remove c) (sym same) refl
up_files Forget c d same = subst (FileStays Forget c) (sym same) refl

-- ---- logs that are removed
updated_between : (act : Act) (c : Contents) → IsBetween act c (updated act c)
updated_between (Put line) c = record { log = all_noted line c.log; file = inr (refl, refl) }
updated_between (Note line) c = record { log = all_noted line c.log; file = inl refl }
updated_between (Pack line) c = record { log = all_noted line c.log; file = inl refl }
updated_between Remove c = begin_between Remove c
updated_between Forget c = begin_between Forget c

pub shown_between : (act : Act) (c : Contents) → IsBetween act c (shown act c)
shown_between (Put line) c = updated_between (Put line) c
shown_between (Note line) c = updated_between (Note line) c
shown_between (Pack line) c = updated_between (Pack line) c
shown_between Remove c = record { log = inr refl; file = inl refl }
shown_between Forget c = record { log = inr refl; file = inl refl }

updated_shows : (act : Act) (c : Contents) → Shows act c (updated act c)
updated_shows (Put line) c = (refl, refl)
updated_shows (Note line) c = refl
updated_shows (Pack line) c = refl
updated_shows Remove c = tt
updated_shows Forget c = tt

pub shown_shows : (act : Act) (c : Contents) → Shows act c (shown act c)
shown_shows (Put line) c = (refl, refl)
shown_shows (Note line) c = refl
shown_shows (Pack line) c = refl
shown_shows Remove c = tt
shown_shows Forget c = tt

pub shown_files : (act : Act) (c : Contents) → FileStays act c (shown act c)
shown_files (Put line) c = tt
shown_files (Note line) c = tt
shown_files (Pack line) c = refl
shown_files Remove c = refl
shown_files Forget c = refl

pub shown_gone : (act : Act) (c : Contents) → LogGone act c (shown act c)
shown_gone (Put line) c = tt
shown_gone (Note line) c = tt
shown_gone (Pack line) c = tt
shown_gone Remove c = refl
shown_gone Forget c = refl

updated_files : (act : Act) (c : Contents) → FileStays act c (updated act c)
updated_files (Put line) c = tt
updated_files (Note line) c = tt
updated_files (Pack line) c = refl
updated_files Remove c = refl
updated_files Forget c = refl

pub forget_between : (act : Act) (c d : Contents) → IsForgetting act (updated act c) d → IsBetween act c d
forget_between act c d (inl same) = subst (IsBetween act c) (sym same) (updated_between act c)
forget_between act c d (inr same) = subst (IsBetween act c) (sym same) (shown_between act c)

pub forget_shows : (act : Act) (c d : Contents) → IsForgetting act (updated act c) d → Shows act c d
forget_shows act c d (inl same) = subst (Shows act c) (sym same) (updated_shows act c)
forget_shows act c d (inr same) = subst (Shows act c) (sym same) (shown_shows act c)

pub forget_files : (act : Act) (c d : Contents) → IsForgetting act (updated act c) d → FileStays act c d
forget_files act c d (inl same) = subst (FileStays act c) (sym same) (updated_files act c)
forget_files act c d (inr same) = subst (FileStays act c) (sym same) (shown_files act c)

-- ---- files that are removed
pub remove_between : (act : Act) (c d : Contents) → IsRemoving act (shown act c) d → IsBetween act c d
remove_between (Put line) c d same = subst (IsBetween (Put line) c) (sym same) (shown_between (Put line) c)
remove_between (Note line) c d same = subst (IsBetween (Note line) c) (sym same) (shown_between (Note line) c)
remove_between (Pack line) c d (inl file, log) = record { log = subst (MayBeNoted line c.log) (sym log) (all_noted line c.log); file = inl file }
remove_between (Pack line) c d (inr file, log) = record { log = subst (MayBeNoted line c.log) (sym log) (all_noted line c.log); file = inr (file, log) }
remove_between Remove c d (inl file, log) = record { log = inr log; file = inl file }
remove_between Remove c d (inr file, log) = record { log = inr log; file = inr (file, log) }
remove_between Forget c d (file, log) = record { log = inr log; file = inl file }

pub remove_shows : (act : Act) (c d : Contents) → IsRemoving act (shown act c) d → Shows act c d
remove_shows (Put line) c d same = subst (Shows (Put line) c) (sym same) (shown_shows (Put line) c)
remove_shows (Note line) c d same = subst (Shows (Note line) c) (sym same) (shown_shows (Note line) c)
remove_shows (Pack line) c d (file, log) = log
remove_shows Remove c d going = tt
remove_shows Forget c d going = tt

pub remove_gone : (act : Act) (c d : Contents) → IsRemoving act (shown act c) d → LogGone act c d
remove_gone (Put line) c d same = tt
remove_gone (Note line) c d same = tt
remove_gone (Pack line) c d going = tt
remove_gone Remove c d (file, log) = log
remove_gone Forget c d (file, log) = log

-- ---- locks alone
pub still_between : (act : Act) (c d e : Contents) → LocksAlone act d e → IsBetween act c d → IsBetween act c e
still_between act c d e (file, log) between = record {
  log = subst (MayBeLogged act c.log) (sym log) between.log;
  file = by_case between.file;
}
  where
    by_case : (d.file ≡ c.file) ⊎ ((d.file ≡ (moved act c).file) × (d.log ≡ (moved act c).log)) → (e.file ≡ c.file) ⊎ ((e.file ≡ (moved act c).file) × (e.log ≡ (moved act c).log))
    by_case (inl same) = inl (file ∙ same)
    by_case (inr (new, noted)) = inr (file ∙ new, log ∙ noted)

pub still_shows : (act : Act) (c d e : Contents) → LocksAlone act d e → Shows act c d → Shows act c e
still_shows (Put line) c d e (file, log) (new, noted) = (file ∙ new, log ∙ noted)
still_shows (Note line) c d e (file, log) noted = log ∙ noted
still_shows (Pack line) c d e (file, log) noted = log ∙ noted
still_shows Remove c d e locks shows = tt
still_shows Forget c d e locks shows = tt

pub still_stays : (act : Act) (c d e : Contents) → LocksAlone act d e → StaysYet act c d → StaysYet act c e
still_stays (Put line) c d e locks stays = tt
still_stays (Note line) c d e locks stays = tt
still_stays (Pack line) c d e (file, log) old = file ∙ old
still_stays Remove c d e (file, log) (old, noted) = (file ∙ old, log ∙ noted)
still_stays Forget c d e (file, log) (old, noted) = (file ∙ old, log ∙ noted)

pub still_files : (act : Act) (c d e : Contents) → LocksAlone act d e → FileStays act c d → FileStays act c e
still_files (Put line) c d e locks stays = tt
still_files (Note line) c d e locks stays = tt
still_files (Pack line) c d e (file, log) old = file ∙ old
still_files Remove c d e (file, log) old = file ∙ old
still_files Forget c d e (file, log) old = file ∙ old

pub still_gone : (act : Act) (c d e : Contents) → LocksAlone act d e → LogGone act c d → LogGone act c e
still_gone (Put line) c d e locks gone = tt
still_gone (Note line) c d e locks gone = tt
still_gone (Pack line) c d e locks gone = tt
still_gone Remove c d e (file, log) gone = log ∙ gone
still_gone Forget c d e (file, log) gone = log ∙ gone
