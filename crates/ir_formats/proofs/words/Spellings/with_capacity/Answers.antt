use Rattle.std.proofs.Common.{None, Some}
use Rattle.ir_formats.proofs.words.Spellings.with_capacity.Goals as goal

pub returns-clause-signs : goal.returns-clause-signs
returns-clause-signs c = c.in_ok-vec.ensures.items_if_clones_equal (elim [ None ↦ λ h i. None | Some x ↦ λ h. absurd h ])
