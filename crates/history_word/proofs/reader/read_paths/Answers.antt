use Rattle.std.proofs.Common.{◌≡◌, ◌<◌, ◌+◌, ℕ, List, [], ◌∷◌, ◌++◌, length, map, take, drop, get_or, flat_map, refl, sym, ap, subst, ◌∙◌, append_assoc}
use Rattle.std.specs.Prelude.{IfSome}
use Rattle.std.proofs.lemmas.List.{append-nil, map-append, take_all, take_more, take-append-drop}
use Rattle.std.proofs.lemmas.Grind.{flat_map-append}
use Rattle.std.proofs.lemmas.Result.{err_from_is_err_and}
use Rattle.history_model.specs.Bytes.{Bytes, line}
use Rattle.history_model.specs.Forms.{max_path}
use Rattle.history_word.specs.Commands.{ArePaths}
use Rattle.history_word.specs.Fields.{Keeps}
use Rattle.history_word.specs.LineTable as table
use Rattle.history_word.specs.Progress.{IsNoField, StopsFrom}
use Rattle.history_word.specs.Taking.{Took, AsksForMore}
use Rattle.history_word.proofs.TakingLemmas.{asks_then, took_then, took_none}
use Rattle.history_word.proofs.StopLemmas.{stops_then}
use Rattle.history_word.proofs.PushLemmas.{pushed_zip}
use Rattle.history_word.proofs.LineEndLemmas.{field_later_stops}
use Rattle.history_word.proofs.reader.read_paths.Goals as goal

-- sizes, cut at one of them
cut_at : (sizes done : List ℕ) (k : ℕ) → k < length sizes → done ≡ take k sizes → sizes ≡ done ++ get_or sizes k 0 ∷ drop (k + 1) sizes
cut_at sizes done k within e =
    let rest = drop (k + 1) sizes in
    sym (take-append-drop (k + 1) sizes) ∙ ap (λ t. t ++ rest) (take_more sizes k 0 within) ∙ append_assoc (take k sizes) (get_or sizes k 0 ∷ []) rest ∙ ap (λ t. t ++ get_or sizes k 0 ∷ rest) (sym e)

-- the texts of paths, and of one more
texts_then : (done : List Bytes) (path taken : Bytes) → taken ≡ line path → flat_map line done ++ taken ≡ flat_map line (done ++ path ∷ [])
texts_then done path taken e = ap (λ t. flat_map line done ++ t) (e ∙ sym (append-nil (line path))) ∙ sym (flat_map-append line done (path ∷ []))

pub loop-size-init : goal.loop-size-init
loop-size-init g c = ([], refl, took_none g.R.Source.left g.R.Source.readings c.args.source.now c.args.buffer.now, rw c.new.ensures.items tt, λ _. refl)

pub loop-size-preserved : goal.loop-size-preserved
loop-size-preserved g c =
    let i = c.loop-size.invariant in
    let a = c.in_ok-path.ensures in
    let path = a.2.0 in
    let spelled = texts_then i.0 path a.0 a.2.2 in (
      i.0 ++ path ∷ [],
      map-append length i.0 (path ∷ []) ∙ (λ j. i.1 j ++ a.2.1 j ∷ []) ∙ sym (take_more c.args.sizes.now c.loop-size.size-index 0 c.loop-size-test.true),
      subst (Took g.R.Source.left g.R.Source.readings c.args.source.now c.args.buffer.now c.read_field.new.source c.read_field.new.buffer) spelled
          (took_then g.R.Source.left g.R.Source.readings _ _ _ _ _ _ (flat_map line i.0) a.0 i.2 a.1),
      pushed_zip (Keeps max_path) _ _ _ i.0 path c.pushed-paths.ensures i.3 a.2.3,
      subst (AsksForMore c.args.source.now c.args.buffer.now c.read_field.new.source) spelled (asks_then g.R.Source.left g.R.Source.readings _ _ _ _ _ (flat_map line i.0) a.0 i.2 i.4 a.2.4),
    )

pub returns-in_err-path : goal.returns-in_err-path
returns-in_err-path g c =
    let p = err_from_is_err_and c.from_residual.result c.from_residual.ensures.1 in
    let i = c.loop-size.invariant in
    let k = c.loop-size.size-index in
    let sizes = c.args.sizes.now in
    rw (p.1, p.2) (stops_then g.R.Source.left g.R.Source.has_failed g.R.Source.readings _ _ _ _ _ _ (flat_map line i.0) (IsNoField (get_or sizes k 0))
    (λ bytes cause. (place : table.Place) → StopsFrom sizes place bytes cause)
    (λ ys m bad place. field_later_stops sizes i.0 (get_or sizes k 0) (drop (k + 1) sizes) place (cut_at sizes (map length i.0) k c.loop-size-test.true i.1) ys m bad)
    c.in_err-path.field-0.0 i.2 c.in_err-path.ensures)

pub returns : goal.returns
returns g c =
    let i = c.loop-size.invariant in (
      flat_map line i.0,
      i.2,
      (record { paths = i.0; heads = sym (take_all c.loop-size.size-index c.args.sizes.now c.loop-size-test.false) ∙ sym i.1; spelled = refl; is = i.3 }, i.4),
    )
