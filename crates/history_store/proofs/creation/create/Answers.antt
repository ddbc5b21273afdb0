use Rattle.std.proofs.Common.{◌≡◌, ◌∙◌, ap, inl, inr, refl, sym, Err, Vec, ℕ}
use Rattle.std.proofs.lemmas.Result.{err_from_is_err_and}
use Rattle.std.specs.declared.alloc.Global.{Global}
use Rattle.gix_ref_file.specs.declared.files.FileError.{FileError}
use Rattle.gix_ref_file.specs.declared.files.FileError.TheVariants as files
use Rattle.gix_ref_file.proofs.Histories.{adds_nothing}
use Rattle.history_store.specs.Creation.{create_fault}
use Rattle.history_store.specs.declared.creation.CreateError.TheVariants.{NotEmpty}
use Rattle.history_store.proofs.FreshParts.{new_stands}
use Rattle.history_store.proofs.HeadMoments.{head_is_last}
use Rattle.history_store.proofs.Honesty.{more_honesty, same_honesty}
use Rattle.history_store.proofs.News.{new_parts}
use Rattle.history_store.proofs.creation.create.Goals as goal

-- a fault names nothing in a part
none_named : (error : FileError) (path : Vec ℕ Global) → create_fault error ≡ NotEmpty path → ⊥
none_named files.Failed path is = cc
none_named files.Memory path is = cc

-- ---- something is in the objects part

pub returns-in_err-refuse_others-clause-leftover : goal.returns-in_err-refuse_others-clause-leftover
returns-in_err-refuse_others-clause-leftover g c =
    let p = err_from_is_err_and c.from_residual.result c.from_residual.ensures.1 in
    record { keeps = same_honesty g.F.Files _ _ _ refl; cleared = λ honest. rw p.1 tt; moments = λ honest. adds_nothing _ }

pub returns-in_err-refuse_others-clause-head : goal.returns-in_err-refuse_others-clause-head
returns-in_err-refuse_others-clause-head g c =
    let p = err_from_is_err_and c.from_residual.result c.from_residual.ensures.1 in
    record { keeps = same_honesty g.F.Files _ _ _ refl; written = λ honest. rw p.1 tt; moments = λ honest. adds_nothing _ }

pub returns-in_err-refuse_others-clause-makes : goal.returns-in_err-refuse_others-clause-makes
returns-in_err-refuse_others-clause-makes g c =
    let p = err_from_is_err_and c.from_residual.result c.from_residual.ensures.1 in
    rw p.1 (record { made = λ objects names. tt; stands = λ objects names. tt; last = λ objects names. inl refl })

pub returns-in_err-refuse_others-clause-refuses : goal.returns-in_err-refuse_others-clause-refuses
returns-in_err-refuse_others-clause-refuses g c =
    let p = err_from_is_err_and c.from_residual.result c.from_residual.ensures.1 in
    record {
      stray = λ objects names path told. inl (c.in_err-refuse_others.ensures.stray objects path (cc (told, p.1, p.2)));
      untouched = λ path told. (refl, refl);
    }

-- ---- something is in the names part

pub returns-in_err-refuse_others-2-clause-leftover : goal.returns-in_err-refuse_others-2-clause-leftover
returns-in_err-refuse_others-2-clause-leftover g c =
    let p = err_from_is_err_and c.from_residual-in_err-refuse_others-2.result c.from_residual-in_err-refuse_others-2.ensures.1 in
    record { keeps = same_honesty g.F.Files _ _ _ refl; cleared = λ honest. rw p.1 tt; moments = λ honest. adds_nothing _ }

pub returns-in_err-refuse_others-2-clause-head : goal.returns-in_err-refuse_others-2-clause-head
returns-in_err-refuse_others-2-clause-head g c =
    let p = err_from_is_err_and c.from_residual-in_err-refuse_others-2.result c.from_residual-in_err-refuse_others-2.ensures.1 in
    record { keeps = same_honesty g.F.Files _ _ _ refl; written = λ honest. rw p.1 tt; moments = λ honest. adds_nothing _ }

pub returns-in_err-refuse_others-2-clause-makes : goal.returns-in_err-refuse_others-2-clause-makes
returns-in_err-refuse_others-2-clause-makes g c =
    let p = err_from_is_err_and c.from_residual-in_err-refuse_others-2.result c.from_residual-in_err-refuse_others-2.ensures.1 in
    rw p.1 (record { made = λ objects names. tt; stands = λ objects names. tt; last = λ objects names. inl refl })

pub returns-in_err-refuse_others-2-clause-refuses : goal.returns-in_err-refuse_others-2-clause-refuses
returns-in_err-refuse_others-2-clause-refuses g c =
    let p = err_from_is_err_and c.from_residual-in_err-refuse_others-2.result c.from_residual-in_err-refuse_others-2.ensures.1 in
    record {
      stray = λ objects names path told. inr (c.in_err-refuse_others-2.ensures.stray names path (cc (told, p.1, p.2)));
      untouched = λ path told. (refl, refl);
    }

-- ---- the leftover stays

pub returns-in_err-remove_leftover-clause-leftover : goal.returns-in_err-remove_leftover-clause-leftover
returns-in_err-remove_leftover-clause-leftover g c =
    let p = err_from_is_err_and c.from_residual-in_err-remove_leftover.result c.from_residual-in_err-remove_leftover.ensures.1 in
    let clears = c.remove_leftover.ensures.clears in
    record {
      keeps = more_honesty g.F.Files _ _ _ _ clears.keeps (λ told. let is : c.in_err-remove_leftover.field-0.0 ≡ files.Failed = cc (told, c.in_err-remove_leftover.was) in p.1 ∙ ap Err (p.2 ∙ ap create_fault is));
      cleared = λ honest. rw p.1 tt;
      moments = clears.moments;
    }

pub returns-in_err-remove_leftover-clause-head : goal.returns-in_err-remove_leftover-clause-head
returns-in_err-remove_leftover-clause-head g c =
    let p = err_from_is_err_and c.from_residual-in_err-remove_leftover.result c.from_residual-in_err-remove_leftover.ensures.1 in
    record { keeps = same_honesty g.F.Files _ _ _ refl; written = λ honest. rw p.1 tt; moments = λ honest. adds_nothing _ }

pub returns-in_err-remove_leftover-clause-makes : goal.returns-in_err-remove_leftover-clause-makes
returns-in_err-remove_leftover-clause-makes g c =
    let p = err_from_is_err_and c.from_residual-in_err-remove_leftover.result c.from_residual-in_err-remove_leftover.ensures.1 in
    rw p.1 (record { made = λ objects names. tt; stands = λ objects names. tt; last = λ objects names. inl refl })

pub returns-in_err-remove_leftover-clause-refuses : goal.returns-in_err-remove_leftover-clause-refuses
returns-in_err-remove_leftover-clause-refuses g c =
    let p = err_from_is_err_and c.from_residual-in_err-remove_leftover.result c.from_residual-in_err-remove_leftover.ensures.1 in
    record {
      stray = λ objects names path told. absurd (none_named c.in_err-remove_leftover.field-0.0 path (cc (told, p.1, p.2)));
      untouched = λ path told. absurd (none_named c.in_err-remove_leftover.field-0.0 path (cc (told, p.1, p.2)));
    }

-- ---- HEAD isn't made

pub returns-in_err-write_head-clause-leftover : goal.returns-in_err-write_head-clause-leftover
returns-in_err-write_head-clause-leftover g c =
    let p = err_from_is_err_and c.from_residual-in_err-write_head.result c.from_residual-in_err-write_head.ensures.1 in
    let clears = c.remove_leftover.ensures.clears in
    record {
      keeps = more_honesty g.F.Files _ _ _ _ clears.keeps (λ told. absurd (cc (told, c.in_ok-remove_leftover.was)));
      cleared = λ honest. rw p.1 tt;
      moments = clears.moments;
    }

pub returns-in_err-write_head-clause-head : goal.returns-in_err-write_head-clause-head
returns-in_err-write_head-clause-head g c =
    let p = err_from_is_err_and c.from_residual-in_err-write_head.result c.from_residual-in_err-write_head.ensures.1 in
    let makes = c.write_head.ensures.makes in
    record {
      keeps = more_honesty g.F.Files _ _ _ _ makes.keeps (λ told. let is : c.in_err-write_head.field-0.0 ≡ files.Failed = cc (told, c.in_err-write_head.was) in p.1 ∙ ap Err (p.2 ∙ ap create_fault is));
      written = λ honest. rw p.1 tt;
      moments = makes.moments;
    }

pub returns-in_err-write_head-clause-makes : goal.returns-in_err-write_head-clause-makes
returns-in_err-write_head-clause-makes g c =
    let p = err_from_is_err_and c.from_residual-in_err-write_head.result c.from_residual-in_err-write_head.ensures.1 in
    rw p.1 (record {
      made = λ objects names. tt;
      stands = λ objects names. tt;
      last = λ objects names.
          head_is_last (g.F.Files.history c.args.objects.now).tree (g.F.Files.history c.remove_leftover.new.objects).tree (g.F.Files.history c.args.names.now) (g.F.Files.history c.write_head.new.names)
          (c.in_ok-refuse_others.ensures.clear objects) (c.in_ok-refuse_others-2.ensures.clear names)
          (c.in_ok-remove_leftover.ensures.clears.cleared objects) (c.in_ok-remove_leftover.ensures.folders objects)
          (c.write_head.ensures.makes.moments names);
    })

pub returns-in_err-write_head-clause-refuses : goal.returns-in_err-write_head-clause-refuses
returns-in_err-write_head-clause-refuses g c =
    let p = err_from_is_err_and c.from_residual-in_err-write_head.result c.from_residual-in_err-write_head.ensures.1 in
    record {
      stray = λ objects names path told. absurd (none_named c.in_err-write_head.field-0.0 path (cc (told, p.1, p.2)));
      untouched = λ path told. absurd (none_named c.in_err-write_head.field-0.0 path (cc (told, p.1, p.2)));
    }

-- ---- the repository is made

pub returns-clause-leftover : goal.returns-clause-leftover
returns-clause-leftover g c =
    let clears = c.in_ok-remove_leftover.ensures.clears in
    record {
      keeps = more_honesty g.F.Files _ _ _ _ c.remove_leftover.ensures.clears.keeps (λ told. absurd (cc (told, c.in_ok-remove_leftover.was)));
      cleared = clears.cleared;
      moments = clears.moments;
    }

pub returns-clause-head : goal.returns-clause-head
returns-clause-head g c =
    let makes = c.in_ok-write_head.ensures.makes in
    record {
      keeps = more_honesty g.F.Files _ _ _ _ c.write_head.ensures.makes.keeps (λ told. absurd (cc (told, c.in_ok-write_head.was)));
      written = makes.written;
      moments = makes.moments;
    }

pub returns-clause-makes : goal.returns-clause-makes
returns-clause-makes g c =
    let clears = c.in_ok-remove_leftover.ensures in
    let head = c.in_ok-write_head.ensures in
    record {
      made = λ objects names.
          new_parts (g.F.Files.history c.args.objects.now).tree (g.F.Files.history c.args.names.now).tree _ _
          (c.in_ok-refuse_others.ensures.clear objects) (c.in_ok-refuse_others-2.ensures.clear names)
          (clears.clears.cleared objects) (clears.folders objects) (head.makes.written names) (head.folders names);
      stands = λ objects names. new_stands c.args.kind _ _
          (new_parts (g.F.Files.history c.args.objects.now).tree (g.F.Files.history c.args.names.now).tree _ _
          (c.in_ok-refuse_others.ensures.clear objects) (c.in_ok-refuse_others-2.ensures.clear names)
          (clears.clears.cleared objects) (clears.folders objects) (head.makes.written names) (head.folders names));
      last = λ objects names. tt;
    }

pub returns-clause-refuses : goal.returns-clause-refuses
returns-clause-refuses g c = record {
  stray = λ objects names path told. absurd (cc told);
  untouched = λ path told. absurd (cc told);
}
