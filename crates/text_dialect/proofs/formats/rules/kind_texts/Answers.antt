use Rattle.ir_formats.specs.declared.rules.KindTexts.{KindTexts}
use Rattle.ir_formats.proofs.Numbered.{formats_are}
use Rattle.text_dialect.proofs.formats.rules.kind_texts.Goals as goal

pub returns : goal.returns
returns g c =
    let made : KindTexts = record {
      operations = c.in_ok-operations.operations;
      types = c.in_ok-types.types;
      attributes = c.in_ok-attributes.attributes;
    } in
    formats_are made g.D.TextDialect.formats c.in_ok-operations.ensures c.in_ok-types.ensures c.in_ok-attributes.ensures
