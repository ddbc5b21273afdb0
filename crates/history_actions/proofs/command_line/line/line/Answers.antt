use Rattle.std.proofs.Common.{◌≡◌, ◌||◌, true, false, ap, ap₂, ◌∙◌, codes}
use Rattle.std.proofs.lemmas.Result.{IfOk-weaker}
use Rattle.clap.specs.Words.{App, app_of, new_app, with_subcommand}
use Rattle.clap.specs.Simple.{app_of_fields, on_top}
use Rattle.clap.specs.declared.Command.TheViews.{out-Command}
use Rattle.history_actions.proofs.command_line.line.line.Goals as goal

abbrev top_of : App → App
top_of = on_top (λ top. record top { subcommand_required = true })

abbrev named : App
named = on_top (λ top. record top { has_version = true }) (new_app (codes "wunthavel-history"))

pub returns-clause-read : goal.returns-clause-read
returns-clause-read c =
    let version : app_of c.version.result ≡ named = ap app_of_fields c.version.ensures ∙ ap (on_top (λ top. record top { has_version = true })) c.described.ensures.app in
    let top : app_of c.subcommand_required.result ≡ top_of named = ap app_of_fields c.subcommand_required.ensures ∙ ap top_of version in
    let one = c.in_ok-subcommand.ensures.shape (c.in_ok-action.ensures.local) ∙ ap₂ with_subcommand top (ap (λ (a : App). a.top) c.in_ok-action.ensures.read) in
    let two = c.in_ok-subcommand-2.ensures.shape (c.in_ok-action-2.ensures.local) ∙ ap₂ with_subcommand one (ap (λ (a : App). a.top) c.in_ok-action-2.ensures.read) in
    let three = c.in_ok-subcommand-3.ensures.shape (c.in_ok-action-3.ensures.local) ∙ ap₂ with_subcommand two (ap (λ (a : App). a.top) c.in_ok-action-3.ensures.read) in
    IfOk-weaker c.subcommand-4.result _ _ (λ m adds. adds.shape (c.in_ok-action-4.ensures.local) ∙ ap₂ with_subcommand three (ap (λ (a : App). a.top) c.in_ok-action-4.ensures.read)) c.subcommand-4.ensures

pub returns-clause-local : goal.returns-clause-local
returns-clause-local c =
    let top : (out-Command c.subcommand_required.result).has_globals ≡ false = ap (λ f. f.has_globals) c.subcommand_required.ensures ∙ ap (λ f. f.has_globals) c.version.ensures ∙ c.described.ensures.local in
    let one = c.in_ok-subcommand.ensures.globals ∙ ap₂ (λ a b. a || b) top c.in_ok-action.ensures.local in
    let two = c.in_ok-subcommand-2.ensures.globals ∙ ap₂ (λ a b. a || b) one c.in_ok-action-2.ensures.local in
    let three = c.in_ok-subcommand-3.ensures.globals ∙ ap₂ (λ a b. a || b) two c.in_ok-action-3.ensures.local in
    IfOk-weaker c.subcommand-4.result _ _ (λ m adds. adds.globals ∙ ap₂ (λ a b. a || b) three c.in_ok-action-4.ensures.local) c.subcommand-4.ensures
