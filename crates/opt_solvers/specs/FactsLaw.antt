-- There is one solution.
use Rattle.std.specs.Prelude.{◌≡◌}
use Rattle.opt_rows.specs.declared.facts_problem.FactsProblem.{FactsProblem}
use Rattle.opt_rows.specs.Facts.{Answers, NumberedFacts, IsMostPreciseSolution}

-- most precise facts of one problem are the same functions, whatever is answered
abbrev pub OneMostPrecise : Type 0 → Type 0
OneMostPrecise A = (ask : Answers A) (p : FactsProblem) (k l : NumberedFacts A) → IsMostPreciseSolution ask p k → IsMostPreciseSolution ask p l → k ≡ l
