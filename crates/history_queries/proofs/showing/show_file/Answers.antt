use Rattle.std.proofs.Common.{◌≡◌, refl, ◌∙◌, ap, Err, Vec, ℕ}
use Rattle.std.specs.declared.alloc.Global.{Global}
use Rattle.std.proofs.lemmas.Result.{err_from_is_err_and}
use Rattle.history_model.specs.Bytes.{Bytes}
use Rattle.history_model.specs.Objects.{StoredBytes}
use Rattle.history_model.specs.Replies.{ShowsContent, reply_text}
use Rattle.history_queries.specs.Shown.{shown_content}
use Rattle.history_repository.proofs.Befores.{gives_stopped}
use Rattle.history_queries.proofs.showing.show_file.Goals as goal

pub returns-in_err-content : goal.returns-in_err-content
returns-in_err-content g c = λ r bytes stands at.
    let stopped = err_from_is_err_and c.from_residual.result c.from_residual.ensures.1 in
    gives_stopped g.F.Files.reading_may_fail (λ (content : Vec ℕ Global). content.items ≡ bytes) (λ (text : Vec ℕ Global). text.items ≡ reply_text (ShowsContent (shown_content c.args.kind c.args.id.now bytes))) c.content.result
    c.from_residual.result c.in_err-content.field-0.0 c.in_err-content.was (stopped.1 ∙ ap Err stopped.2) (c.content.ensures r (StoredBytes bytes) stands at refl)

pub returns : goal.returns
returns g c = λ r bytes stands at.
    c.in_ok-content_text.ensures ∙ ap (λ (shown : Bytes). reply_text (ShowsContent (shown_content c.args.kind c.args.id.now shown))) (c.deref.ensures.value ∙ c.in_ok-content.ensures r (StoredBytes bytes) stands at refl)
