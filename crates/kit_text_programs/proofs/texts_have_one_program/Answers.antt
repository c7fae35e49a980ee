use Rattle.std.proofs.Common.{ℕ, sym, ap, ◌∙◌}
use Rattle.ir_forest.specs.Closed.{unlabelled}
use Rattle.ir_print.specs.Pieces.{Entity}
use Rattle.kit.specs.Says.{says}
use Rattle.text_dialect.specs.Seen.{seen}
use Rattle.text_rereading.specs.Rereading.{Named}
use Rattle.kit_text_programs.proofs.SaidModules.{said_so}
use Rattle.kit_text_programs.proofs.SaidPrograms.{program_said, regions_below}
use Rattle.kit_text_programs.proofs.Unlabelled.{unlabelled_tree}
use Rattle.kit_text_programs.proofs.texts_have_one_program.Goals as goal

pub returns : goal.returns
returns c = λ text other_text numbered s z root other numbering others t u p q same own owns stands standing tree trees is
    was.
    said_so s numbering own numbered root (unlabelled text) t p
    (unlabelled_tree says (Named numbering) (seen s) text root stands) tree is
    ∙ ap (λ (module_text : Entity ℕ). program_said numbered (regions_below module_text)) same
    ∙ sym (said_so z others owns numbered other (unlabelled other_text) u q
    (unlabelled_tree says (Named others) (seen z) other_text other standing) trees was)
