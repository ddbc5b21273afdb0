use Rattle.std.proofs.Common.{◌≡◌, ◌∙◌, ap, sym, subst, rules, arith, get_or, ◌<◌, None, Some, Option, Result, Ok, Err}
use Rattle.std.specs.Prelude.{FitsSigned, IfOk}
use Rattle.std.specs.Int.{w32}
use Rattle.std.specs.Result.{result_ok}
use Rattle.std.proofs.lemmas.Bool.Decides.{Decides-eqb}
use Rattle.std.proofs.lemmas.Int.{to_z-of_z}
use Rattle.std.proofs.lemmas.Slice.Eq.{slice_eq-Decides}
use Rattle.gix_object_lines.specs.declared.lines.time.Time.{Time}
use Rattle.history_model.specs.Forms.{is_offset}
use Rattle.history_texts.proofs.Offsets.{offset_of, offset_reads}
use Rattle.history_texts.proofs.actor.parse_offset.Goals as goal
use Rattle.std.proofs.lemmas.Bool.{false_from_ne_true}

none_some : {A : Type 0} (x : A) → ◌≡◌ {A = Option A} None (Some x) → ⊥
none_some x e = cc

pub returns-in_err-time : goal.returns-in_err-time
returns-in_err-time c = rw c.from_residual.ensures (false_from_ne_true (is_offset c.args.word.now) (λ formed.
    let told = offset_reads c.args.word.now formed in
    none_some told.0 (sym c.in_err-time.was ∙ c.ok.ensures.value ∙ ap result_ok (c.read_time.ensures.every told.0 told.1))))

read_of : {E : Type 0} (P : Time → Type 0) (r : Result Time E) (o : Option Time) (t : Time) → o ≡ result_ok r → o ≡ Some t → IfOk r P → P t
read_of P (Ok x) o t is some h = let same : x ≡ t = cc in subst P same h
read_of P (Err e) o t is some h = cc

pub returns : goal.returns
returns c =
    let word = c.args.word.now in
    let time = c.in_ok-time.time in
    let small : FitsSigned w32 time.offset = search rules in
    let spells = read_of _ c.read_time.result c.ok.result time c.ok.ensures.value c.in_ok-time.was c.read_time.ensures.read in
    let tens : get_or word 3 0 < 54 = omega (arith, c.if-c-ge54.false) in
    offset_of word time _ (omega (arith, c.in-len5.len_at_least, c.in-len5.len_below)) spells (to_z-of_z w32 time.offset small) tens
    (λ same. let yes = (slice_eq-Decides Decides-eqb _ _ _ c.if-eq.ensures).1 (same ∙ sym c.as_slice.ensures) in cc (yes, c.if-eq.false))
