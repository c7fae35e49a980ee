-- The program of a module that keeps the rules is fit.
use Rattle.std.proofs.Common.{◌≡◌, ℕ, Bool, List, Option, Some, None, refl, sym, subst, arith}
use Rattle.std.specs.Prelude.{reverse}
use Rattle.ir_base.specs.declared.types.TypeHandle.{TypeHandle}
use Rattle.ir_program.specs.declared.handles.Value.{Value}
use Rattle.ir_trees.specs.Stands.{by_handle}
use Rattle.kit.specs.Context.{KitTree}
use Rattle.kit_checks.specs.KitWorld.{HasDeclaredTypes, kit_world}
use Rattle.kit_ops.specs.declared.types.KitType.{KitType}
use Rattle.kit_behaviour.specs.Machine.{Fun, FunctionsByPath}
use Rattle.kit_behaviour.specs.PassLists.{Fit}
use Rattle.kit_behaviour.specs.Places.{Place}
use Rattle.kit_behaviour.specs.Rules.{Rules}
use Rattle.kit_behaviour.proofs.FiniteLemmas.{finite_fit}
use Rattle.kit_checks.specs.declared.rule.Rule.{Rule}
use Rattle.kit_checks.specs.Faults.{KeptEverywhere}
use Rattle.kit_views.specs.FlatView.{IsSameness}
use Rattle.kit_ruled_views.specs.Ruled.{HasOwnNames, type_or_first}
use Rattle.kit_ruled_views.specs.Paths.{locate}
use Rattle.kit_ruled_views.specs.Programs.{HasFunctionView, IsProgramOf}
use Rattle.kit_ruled_views.proofs.programs.RuledSound.{ruled_sound}
use Rattle.kit_ruled_views.proofs.programs.FiniteFunctions.{finite_program}
use Rattle.kit_ruled_views.proofs.programs.RuledFlat.{ruled_rules}
use Rattle.kit_ruled_views.proofs.programs.RuledPaths.{ruled_at}

none_rules : Rules None
none_rules = record {
  terminated = λ b l. absurd (omega (arith, l));
  sees = λ b. tt;
  fits = λ b. tt;
  names = λ b. tt;
  args = λ b. refl;
}

module _ (leads : TypeHandle → Option KitType) (typed : Value → Option TypeHandle) (numbered : List ℕ → ℕ)
    (same : Value → Value → Bool) (t : KitTree) (p : FunctionsByPath Place) (law : IsSameness same)
    (keeps : (r : Rule) → KeptEverywhere (kit_world leads typed) t r)
    (is : IsProgramOf {N = by_handle} same leads numbered t p) where
  rules_at : (path : List ℕ) (o : Option KitTree) → locate numbered (reverse path) t ≡ o → (q : Option (Fun Place)) →
      HasFunctionView {N = by_handle} same leads numbered o q → Rules q
  rules_at path None e q h = subst Rules (sym h) none_rules
  rules_at path (Some u) e q h = subst Rules (sym h.2)
      (ruled_rules leads typed numbered u (ruled_at leads typed numbered t keeps (reverse path) u e) h.0 h.1 same law)

  pub fit_program : HasOwnNames t → HasDeclaredTypes typed t → Fit p
  fit_program own have =
      finite_fit p (λ path. rules_at path (locate numbered (reverse path) t) refl (p path) (is path))
      (finite_program {N = by_handle} same leads numbered (type_or_first typed) t
      (ruled_sound leads typed t keeps numbered own have) p is)
