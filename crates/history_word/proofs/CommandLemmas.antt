-- The command whose parts have come.
use Rattle.std.proofs.Common.{◌≡◌, ◌≢◌, true, ◌&&◌, List, [], Some, None, refl, ap, subst}
use Rattle.std.specs.List.{list_all}
use Rattle.history_model.specs.Commands as model
use Rattle.history_model.specs.Spelling.{Part, parts_of, parts_text, is_part, has_enough}
use Rattle.history_model.specs.Stage.{opens, is_spoken}
use Rattle.history_model.specs.Grammar.{Spells}
use Rattle.history_word.specs.LineTable as table
use Rattle.history_word.specs.TableRuns.{at, reached}
use Rattle.history_word.proofs.TableLaws.{parts_fit}
use Rattle.history_word.specs.Drafts.{IsDraft}
use Rattle.history_word.specs.Come.{HasEnough}
use Rattle.history_word.specs.declared.place.Place.{Place}
use Rattle.history_word.specs.declared.draft.Draft.{Draft}
use Rattle.history_word.specs.declared.draft.Draft.TheVariants as draft
use Rattle.std.proofs.lemmas.Bool.{and_from}

spoken : (d : Draft) (sent : model.Command) → IsDraft d sent → is_spoken sent ≡ true
spoken (draft.Commit c) (model.Commit sent) h = refl
spoken (draft.Tag c) (model.Tag sent) h = refl
spoken (draft.Move c) (model.Move sent) h = refl
spoken (draft.Rename x) (model.Rename from to) h = refl
spoken (draft.Delete d) (model.Delete name at) h = refl
spoken (draft.Files w) (model.Files word) h = refl
spoken (draft.Show s) (model.Show word path) h = refl
spoken draft.Names (model.Names None) h = refl
spoken (draft.NamesIn f) (model.Names (Some folder)) h = refl
spoken (draft.Past w) (model.Past word) h = refl
spoken (draft.Switch n) (model.Switch name) h = refl
spoken draft.Pack model.Pack h = refl
spoken draft.Index model.Index h = refl
spoken (draft.Log l) (model.Log log) h = refl
spoken d sent h = absurd h

-- at the end, the parts are those of the command that the draft has
pub spells : (parts : List Part) (p : table.Place) (d : Draft) (sent : model.Command) → reached parts ≡ Some (at [] p) → parts ≡ parts_of sent → HasEnough d sent → Spells (parts_text parts) sent
spells parts p d sent e is h =
    let fit = parts_fit opens parts [] table.Start (at [] p) refl e in (
      and_from (list_all is_part (parts_of sent) && has_enough sent) (is_spoken sent)
          (and_from (list_all is_part (parts_of sent)) (has_enough sent) (subst (λ ps. list_all is_part ps ≡ true) is fit.0) h.enough) (spoken d sent h.has),
      ap parts_text is,
    )
