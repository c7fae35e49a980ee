use Rattle.kit_ruled_views.proofs.programs.FitPrograms.{fit_program}
use Rattle.kit_ruled_views.proofs.rules_make_fit.Goals as goal

pub returns : goal.returns
returns c = λ leads typed numbered same t p law keeps own have is.
    fit_program leads typed numbered same t p law keeps is own have
