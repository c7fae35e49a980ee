-- Lists of passes on trees of modules are lists of passes on their programs.
use Rattle.std.proofs.Common.{ℕ, List, [], ◌∷◌, Option, refl, subst}
use Rattle.ir_base.specs.declared.types.TypeHandle.{TypeHandle}
use Rattle.ir_trees.specs.Names.{Names}
use Rattle.ir_trees.specs.Trees.{Root}
use Rattle.kit_ops.specs.declared.types.KitType.{KitType}
use Rattle.kit_behaviour.specs.Machine.{FunctionsByPath}
use Rattle.kit_behaviour.specs.PassLists.{Pass, SccpPass, LeanSccpPass, DcePass, SimplifyPass, IsPass, IsAfter}
use Rattle.kit_behaviour.specs.Places.{Place}
use Rattle.kit_views.specs.Reading.{kit_contents}
use Rattle.kit_ruled_views.specs.ProgramLaws.{AreTold}
use Rattle.kit_ruled_views.specs.Programs.{IsProgramOf}
use Rattle.kit_ruled_views.specs.TreePasses.{IsTreePass, IsSoundTree, IsTreeAfter}
use Rattle.kit_ruled_views.proofs.programs.DceOnPrograms.{dce_on_programs}
use Rattle.kit_ruled_views.proofs.programs.SccpOnPrograms.{sccp_on_programs}
use Rattle.kit_ruled_views.proofs.programs.SimplifyOnPrograms.{simplify_on_programs}
use Rattle.kit_ruled_views.proofs.programs.ProgramsOfTrees.{one_program}

module _ {N : Names} (told : AreTold N) (leads : TypeHandle → Option KitType) (numbered : List ℕ → ℕ) where
  pass_on : (x : Pass) (t u : Root N kit_contents) (p : FunctionsByPath Place) → IsSoundTree {N = N} leads numbered t →
      IsTreePass x t u → IsProgramOf {N = N} told.value leads numbered t p →
      (q : FunctionsByPath Place) × IsProgramOf {N = N} told.value leads numbered u q × IsPass x p q
  pass_on DcePass t u p sound pass is = dce_on_programs told leads numbered sound.0 t sound.1 u pass p is
  pass_on SccpPass t u p sound pass is = absurd pass
  pass_on LeanSccpPass t u p sound pass is = sccp_on_programs told leads numbered sound.0 t sound.1 u pass p is
  pass_on SimplifyPass t u p sound pass is = simplify_on_programs told leads numbered sound.0 t sound.1 u pass p is

  pub list_on : (xs : List Pass) (t r : Root N kit_contents) (p : FunctionsByPath Place) →
      IsTreeAfter {N = N} leads numbered xs t r → IsProgramOf {N = N} told.value leads numbered t p →
      (q : FunctionsByPath Place) × IsProgramOf {N = N} told.value leads numbered r q × IsAfter xs p q
  list_on [] t r p after is = (p, subst (λ z. IsProgramOf {N = N} told.value leads numbered z p) after is, refl)
  list_on (x ∷ xs) t r p (sound, (u, pass, after)) is =
      let n = pass_on x t u p sound pass is in
      let q = list_on xs u r n.0 after n.1 in
      (q.0, q.1, (n.0, n.2, q.2))

  -- so the program of the result is what the list makes
  pub is_after : (xs : List Pass) (t r : Root N kit_contents) (p q : FunctionsByPath Place) →
      IsTreeAfter {N = N} leads numbered xs t r → IsProgramOf {N = N} told.value leads numbered t p →
      IsProgramOf {N = N} told.value leads numbered r q → IsAfter xs p q
  is_after xs t r p q after is end_is =
      let z = list_on xs t r p after is in
      subst (IsAfter xs p) (one_program told.value leads numbered r z.0 q z.1 end_is) z.2
