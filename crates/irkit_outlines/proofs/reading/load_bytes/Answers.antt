use Rattle.std.proofs.Common.{Bor, List, subst, ℕ}
use Rattle.std.specs.Prelude.{IfErr}
use Rattle.irkit_outlines.specs.Outlined.{IsRefused}
use Rattle.irkit_outlines.proofs.Refused.{refused_load}
use Rattle.irkit_outlines.proofs.reading.load_bytes.Goals as goal

pub returns-clause-refused : goal.returns-clause-refused
returns-clause-refused c =
    subst (λ (b : Bor (List ℕ)). IfErr c.load.result (IsRefused b.now c.args.ctx.now)) c.new.ensures.inner
    (refused_load (λ (b : Bor (List ℕ)). b.now) c.new.result c.load.new.reader c.args.ctx.now c.load.new.ctx c.load.result c.load.ensures.ends)
