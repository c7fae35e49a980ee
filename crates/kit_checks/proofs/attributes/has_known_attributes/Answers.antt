use Rattle.std.proofs.Common.{◌↔◌, IsTrue, ap, sym, subst}
use Rattle.kit_checks.specs.Rules.{MayHave}
use Rattle.kit_checks.specs.Words.{Every}
use Rattle.kit_checks.specs.World.{world_of}
use Rattle.kit_checks.proofs.Contents.{content_is}
use Rattle.kit_checks.proofs.attributes.has_known_attributes.Goals as goal

pub returns : goal.returns
returns c u s =
    let notes = content_is c.args.ctx.now.program c.args.op u s (λ d. d.notes) c.deref-notes.result.now c.deref-notes.ensures in
    subst (λ k. IsTrue c.may_have_all.result ↔ Every (MayHave k) ((world_of c.args.ctx.now).attributes u.head.content)) (sym (c.kind_of.ensures u s))
    (subst (λ l. IsTrue c.may_have_all.result ↔ Every (MayHave c.kind_of.result) l) (sym (ap (λ n. n.attributes) notes)) c.may_have_all.ensures)
