use Rattle.std.proofs.Common.{ℕ, take}
use Rattle.std.specs.Prelude.{Contains}
use Rattle.opt_rows.specs.Facts.{RunsWithAny}
use Rattle.opt_rows.specs.FactsFound.{Meets}
use Rattle.opt_rows.proofs.facts_found.Found.enter_all.Given as goal

abbrev pub invariant-loop-block : goal.invariant-loop-block
invariant-loop-block g l = Meets (λ k. (b : ℕ) → Contains (take l.block-index l.blocks) b → RunsWithAny l.problem k b) l.initial.self l.self
