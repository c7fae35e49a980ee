-- A text is accepted or refused alike in all contexts.
use Rattle.std.proofs.Common.{ℕ, List, refl, subst}
use Rattle.ir_forest.specs.Closed.{IsSameModule}
use Rattle.ir_print.specs.Pieces.{Entity}
use Rattle.ir_program.specs.declared.handles.Operation.{Operation}
use Rattle.ir_program.specs.declared.handles.Ptr.{Ptr}
use Rattle.ir_trees.proofs.OneTree.{one_tree}
use Rattle.kit.specs.Context.{KitContext}
use Rattle.kit_checks.specs.Faults.{KeptEverywhere}
use Rattle.kit_checks.specs.World.{world_of}
use Rattle.kit_checks.specs.declared.rule.Rule.{Rule}
use Rattle.kit_ruled_views.specs.Functions.{KeepsRules}
use Rattle.kit_text_programs.specs.RuleLaws.{TextsHaveOneVerdict, HasVerdictOf}
use Rattle.irkit_refusals.specs.Texts.{HoldsText, IsAccepted, IsAcceptedAs}

module _ (law : TextsHaveOneVerdict) (text other : Entity ℕ) (same : IsSameModule text other) (s z : KitContext)
    (root there : Ptr Operation) (h : HoldsText text s root) (k : HoldsText other z there) where
  -- the two operations have one verdict
  pub one_verdict : HasVerdictOf s z h.tree k.tree
  one_verdict =
      law text other s z root there h.numbering k.numbering h.tree k.tree same h.distinct k.distinct h.stands k.stands h.is_tree k.is_tree
      h.handles k.handles h.types k.types

  -- where the one keeps the rules, so does the other
  pub rules_carry : KeepsRules s root → KeepsRules z there
  rules_carry rules u stands =
      subst (λ w. (r : Rule) → KeptEverywhere (world_of z) w r) (one_tree z.program there k.tree u k.is_tree stands)
      (one_verdict.all_kept (rules h.tree h.is_tree))

-- bytes that are accepted in one context are accepted
pub accepted_anywhere : TextsHaveOneVerdict → (bytes : List ℕ) (s : KitContext) (root : Ptr Operation) → IsAcceptedAs bytes s root
    → IsAccepted bytes
accepted_anywhere law bytes s root (said, rules) = (
  said.text,
  record {
    says_it = said.says_it;
    rules = λ z there held. rules_carry law said.text said.text refl s z root there said.holds held rules;
  },
)
