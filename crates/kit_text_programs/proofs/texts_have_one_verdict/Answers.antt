use Rattle.std.proofs.Common.{ℕ, subst, sym}
use Rattle.ir_forest.specs.Closed.{unlabelled}
use Rattle.ir_print.specs.Pieces.{Entity}
use Rattle.kit.specs.Says.{says}
use Rattle.text_dialect.specs.Seen.{seen}
use Rattle.text_dialect.specs.Standing.{HasTree}
use Rattle.text_rereading.specs.Rereading.{Named}
use Rattle.kit_text_programs.proofs.Unlabelled.{HasSomeLabel, unlabelled_tree}
use Rattle.kit_text_programs.proofs.SaidTrees.{trees_alike}
use Rattle.kit_text_programs.proofs.Verdicts.{one_verdict}
use Rattle.kit_text_programs.proofs.WrittenTypes.{all_written}
use Rattle.kit_text_programs.proofs.texts_have_one_verdict.Goals as goal

pub returns : goal.returns
returns c = λ text other_text s z root other numbering others t u same own owns stands standing tree trees handles again
    written too.
    let here = unlabelled_tree says (Named numbering) (seen s) text root stands in
    let there =
    subst (λ (plain : Entity ℕ). HasTree says (Named others) HasSomeLabel (seen z) other plain) (sym same)
    (unlabelled_tree says (Named others) (seen z) other_text other standing) in
    one_verdict s z numbering others t u own owns
    (trees_alike s z numbering others own owns (unlabelled text) root other t u here there tree trees
    (all_written s t written) (all_written z u too))
    (trees_alike z s others numbering owns own (unlabelled text) other root u t there here trees tree
    (all_written z u too) (all_written s t written)) handles again
