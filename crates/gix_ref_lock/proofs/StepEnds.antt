-- How steps begin and end.
use Rattle.std.proofs.Common.{inl, inr, refl, sym, ap, ℕ, ◌++◌, length, take_all, arith, [], Option, Some, None, Vec}
use Rattle.std.specs.Prelude.{unwrap_or}
use Rattle.std.specs.declared.alloc.Global.{Global}
use Rattle.gix_ref_way.specs.Ways.{Bytes}
use Rattle.gix_ref_lock.specs.Contents.{Contents, noted, MayBeNoted}
use Rattle.gix_ref_lock.specs.Moments.{IsMaking, made_by}
use Rattle.gix_ref_lock.specs.declared.act.Act.{Act}
use Rattle.gix_ref_lock.specs.declared.act.Act.TheVariants.{Put, Note, Pack}
use Rattle.gix_ref_lock.specs.declared.act.Act.TheVariants as acts
use Rattle.gix_ref_lock.specs.declared.steps.Step.{Step}
use Rattle.gix_ref_lock.specs.declared.steps.Step.TheVariants.{Update, Forget, Remove}

pub not_noted : (line : Option (Vec ℕ Global)) (log : Option Bytes) → MayBeNoted line log log
not_noted None log = refl
not_noted (Some line) log = inl refl

pub all_noted : (line : Option (Vec ℕ Global)) (log : Option Bytes) → MayBeNoted line log (noted line log)
all_noted None log = refl
all_noted (Some line) log = inr (length line.items, ap (λ bs. Some (unwrap_or log [] ++ bs)) (sym (take_all (length line.items) line.items (omega arith))))

pub not_made : (step : Step) (act : Act) (c : Contents) → IsMaking step act c c
not_made Update (Put line) c = inl (refl, not_noted line c.log)
not_made Update (Note line) c = (refl, not_noted line c.log)
not_made Update (Pack line) c = (refl, not_noted line c.log)
not_made Update acts.Remove c = refl
not_made Update acts.Forget c = refl
not_made Forget act c = inl refl
not_made Remove (Put line) c = refl
not_made Remove (Note line) c = refl
not_made Remove (Pack line) c = (inl refl, refl)
not_made Remove acts.Remove c = (inl refl, refl)
not_made Remove acts.Forget c = (refl, refl)

pub all_made : (step : Step) (act : Act) (c : Contents) → IsMaking step act c (made_by step act c)
all_made Update (Put line) c = inr (refl, refl)
all_made Update (Note line) c = (refl, all_noted line c.log)
all_made Update (Pack line) c = (refl, all_noted line c.log)
all_made Update acts.Remove c = refl
all_made Update acts.Forget c = refl
all_made Forget act c = inr refl
all_made Remove (Put line) c = refl
all_made Remove (Note line) c = refl
all_made Remove (Pack line) c = (inr refl, refl)
all_made Remove acts.Remove c = (inr refl, refl)
all_made Remove acts.Forget c = (refl, refl)
