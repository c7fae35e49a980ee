use Rattle.std.proofs.Common.{refl}
use Rattle.kit_language.specs.Language.{kit_language}
use Rattle.irkit_driver.proofs.CutLemmas.{SaidAreClosed, cut}
use Rattle.irkit_driver.proofs.laws.cut.Goals as goal

pub returns : goal.returns
returns c =
    let closed : SaidAreClosed = c.trees_of_texts_are_closed.ensures kit_language c.kit_can_print.ensures refl refl in
    cut closed c.types_are_numbered.ensures c.texts_say_the_same.ensures.same c.texts_say_the_same.ensures.one
    c.passes_keep_same.ensures.same c.passes_keep_same.ensures.cut
