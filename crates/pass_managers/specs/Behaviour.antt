-- What is said of passes.
use Rattle.std.specs.Prelude.{ℕ, Bool, List, Result}
use Rattle.ir_context.specs.Views.{ContextView}
use Rattle.ir_program.specs.declared.handles.Operation.{Operation}
use Rattle.ir_program.specs.declared.handles.Ptr.{Ptr}
use Rattle.opt_dialect.specs.declared.status.OptError.{OptError}
use Rattle.pass_analyses.specs.declared.manager.AnalysisManager.{AnalysisManager}
use Rattle.pass_analyses.specs.declared.manager.PassResult.{PassResult}

-- The types that passes are over: what operations and blocks carry and the table of types, analyses and their kinds, and
-- the dialect with its verifiers' faults and its constants.
pub record PassTypes : Type 1 where
  pub operation : Type 0
  pub block : Type 0
  pub types : Type 0
  pub analysis : Type 0
  pub kind : Type 0
  pub dialect : Type 0
  pub fault : Type 0
  pub constant : Type 0

-- their contexts, managers of analyses, and answers
abbrev pub ContextIn : PassTypes → Type 0
ContextIn s = ContextView s.operation s.block s.types

abbrev pub ManagerIn : PassTypes → Type 0
ManagerIn s = AnalysisManager s.analysis s.dialect s.kind s.types s.fault s.operation s.block s.constant

abbrev pub AnswerIn : PassTypes → Type 0
AnswerIn s = PassResult s.analysis s.dialect s.kind s.types s.fault s.operation s.block s.constant

abbrev pub OutcomeIn : PassTypes → Type 0
OutcomeIn s = Result (AnswerIn s) OptError

-- Passes P over these types.
pub record Behaviour (P : Type 0) (s : PassTypes) : Type 1 where
  -- the name of a pass
  pub name_of : P → List ℕ
  -- it runs other passes, as managers do
  pub manages : P → Bool
  -- what one run may do: from the pass, the operation, the context and the analyses to the answer, and the pass, the
  -- context and the analyses afterwards
  pub runs : P → Ptr Operation → ContextIn s → ManagerIn s → OutcomeIn s → P → ContextIn s → ManagerIn s → Type 0
