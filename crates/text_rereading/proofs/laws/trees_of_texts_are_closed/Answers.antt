use Rattle.std.proofs.Common.{sym, subst}
use Rattle.ir_print.specs.Formats.{Formats}
use Rattle.ir_print.specs.Pieces.{Values}
use Rattle.ir_print.specs.Shapes.{SaysTypes, SaysAttributes, SaysOperations}
use Rattle.text_rereading.specs.Rereading.{Named}
use Rattle.text_rereading.proofs.PrintAndRead.{stood_closed}
use Rattle.text_rereading.proofs.laws.trees_of_texts_are_closed.Goals as goal

pub returns : goal.returns
returns g c = λ l can formats values known s root cs tree said stands.
    let d = g.D.TextDialect in
    let m = g.met.D.TextDialect in
    stood_closed l can d.says
    (subst (λ (f : Formats). SaysTypes d.says f l.values) (sym formats)
    (subst (λ (v : Values). SaysTypes d.says d.formats v) (sym values) m.says_types))
    (subst (λ (f : Formats). SaysAttributes d.says f l.values) (sym formats)
    (subst (λ (v : Values). SaysAttributes d.says d.formats v) (sym values) m.says_attributes))
    (subst (λ (f : Formats). SaysOperations d.says f l.values) (sym formats)
    (subst (λ (v : Values). SaysOperations d.says d.formats v) (sym values) m.says_operations)) (Named
    known) s root cs tree said stands
