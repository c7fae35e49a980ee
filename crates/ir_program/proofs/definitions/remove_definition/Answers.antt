use Rattle.std.proofs.Common.{◌≡◌, ◌∙◌, slice_get, Some, sym, ap}
use Rattle.std.proofs.lemmas.Option.{slice_get-get_or}
use Rattle.ir_program.proofs.definitions.remove_definition.Goals as goal

pub forget-requires : goal.forget-requires
forget-requires c =
    let stood : slice_get c.args.definitions.now.items c.args.index ≡ Some c.remove-definition.result = slice_get-get_or c.args.definitions.now.items c.args.index c.remove-definition.result c.requires.within ∙ ap Some (sym c.remove-definition.ensures.value) in record {
      defined = c.requires.defined c.remove-definition.result stood;
      unused = λ p. c.requires.unused c.remove-definition.result p stood;
    }

pub returns : goal.returns
returns c =
    let stood : slice_get c.args.definitions.now.items c.args.index ≡ Some c.remove-definition.result = slice_get-get_or c.args.definitions.now.items c.args.index c.remove-definition.result c.requires.within ∙ ap Some (sym c.remove-definition.ensures.value) in record {
      removed = record { definition = c.remove-definition.result; stood = stood; gone = c.forget.ensures.gone; places = c.forget.ensures.places; removed = c.remove-definition.ensures.items };
      answer = stood;
    }
