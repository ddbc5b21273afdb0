use Rattle.history_texts.proofs.Surveys.{found_root}
use Rattle.history_texts.proofs.parts.survey.Goals as goal

pub returns-clause-found : goal.returns-clause-found
returns-clause-found g c = λ honest. found_root c.args.part c.args.permitted.now (g.F.Files.history c.args.files.now).tree c.survey_folder.result (c.survey_folder.ensures.found honest)
