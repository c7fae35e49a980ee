use Rattle.std.proofs.Common.{refl}
use Rattle.ir_graph.specs.Sinks.{IsLeft, IsEmpty, Ends}
use Rattle.ir_graph.proofs.sinks.add_end.Goals as goal

pub returns-then-leads_out : goal.returns-then-leads_out
returns-then-leads_out c = IsLeft (c.if-leads_out.ensures.0 refl) refl

pub returns-in_default : goal.returns-in_default
returns-in_default c = IsEmpty c.in_default.ensures refl

pub returns : goal.returns
returns c = Ends c.in-Some.last (λ h. let e = c.if-leads_out.ensures.1 h in cc) c.in-Some.ensures.0 c.in-Some.ensures.1 c.in_ok-push.ensures.items
