use Rattle.std.proofs.Common.{◌↔◌, IsTrue, ap, sym, subst}
use Rattle.kit_checks.specs.Rules.{IsCommon}
use Rattle.kit_checks.specs.Words.{Every}
use Rattle.kit_checks.proofs.Contents.{label_is}
use Rattle.kit_checks.proofs.attributes.has_common_attributes.Goals as goal

pub returns : goal.returns
returns c b s =
    let notes = label_is c.args.ctx.now.program c.args.block b s c.deref-notes.result.now c.deref-notes.ensures in
    subst (λ l. IsTrue c.are_common.result ↔ Every IsCommon l) (sym (ap (λ n. n.attributes) notes)) c.are_common.ensures
