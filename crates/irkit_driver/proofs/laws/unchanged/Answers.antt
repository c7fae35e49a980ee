use Rattle.std.proofs.Common.{refl}
use Rattle.kit_language.specs.Language.{kit_language}
use Rattle.irkit_driver.proofs.CutLemmas.{SaidAreClosed}
use Rattle.irkit_driver.proofs.UnchangedLemmas.{unchanged}
use Rattle.irkit_driver.proofs.laws.unchanged.Goals as goal

pub returns : goal.returns
returns c =
    let closed : SaidAreClosed = c.trees_of_texts_are_closed.ensures kit_language c.kit_can_print.ensures refl refl in
    unchanged closed c.types_are_numbered.ensures c.texts_say_the_same.ensures.same c.texts_say_the_same.ensures.one
