use Rattle.std.proofs.Common.{refl, arith}
use Rattle.std.proofs.lemmas.Result.{err_from_is_err_and}
use Rattle.gix_object_editor.proofs.Walked.{names_length}
use Rattle.gix_object_editor.proofs.tree.editor.state.Editor.cursor_at.Goals as goal

pub returns-in_err-at : goal.returns-in_err-at
returns-in_err-at g c =
    let p = err_from_is_err_and c.from_residual.result c.from_residual.ensures.1 in
    rw (p.1, p.2) (
      (
        refl,
        λ w. tt,
        record {
          files = c.in_err-at.ensures.kept.unchanged;
          entries = c.in_err-at.ensures.kept.same_entries;
          as_read = c.in_err-at.ensures.kept.as_read;
          still = c.in_err-at.ensures.kept.still;
          fault = c.in_err-at.ensures.refused;
          full = c.in_err-at.ensures.kept.full;
          asked = c.in_err-at.ensures.asked;
          counted = omega (arith, c.in_err-at.ensures.kept.counted, names_length c.args.path.now);
          store = c.in_err-at.ensures.kept.store;
        },
      ),
      record {
        left = tt;
        made = tt;
        stands = tt;
        asked = λ honest. tt;
        kept = tt;
        lent = tt;
      },
    )
