use Rattle.std.proofs.Common.{sym, subst}
use Rattle.text_dialect.specs.Making as made
use Rattle.tiny_texts.specs.declared.dialect.Constant.{Constant}
use Rattle.tiny_texts.specs.Forms.{read_attrs}
use Rattle.tiny_texts.specs.Says.{says, values}
use Rattle.tiny_texts.proofs.Made.{attribute_made}
use Rattle.tiny_texts.proofs.texts.TinyTextTextDialect.make_attr.Goals as goal

pub returns-in-Some-clause-made : goal.returns-in-Some-clause-made
returns-in-Some-clause-made c =
    let types = c.args._ctx.now.types.keys in
    subst (λ (a : Constant). made.MakesAttribute says values read_attrs c.args.kind types types c.args.parts.now a) (sym c.constant_of.ensures)
    (attribute_made c.args.kind types types c.args.parts.now c.in-Some.number (sym c.in-Some.ensures))
