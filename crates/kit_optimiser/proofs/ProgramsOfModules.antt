-- The programs of a module that a context holds, and of what a list of passes left of it.
use Rattle.std.proofs.Common.{ℕ, List, sym, subst}
use Rattle.ir_program.specs.Program.{type_at}
use Rattle.ir_program.specs.Replacing.{same_value}
use Rattle.ir_program.specs.declared.handles.Operation.{Operation}
use Rattle.ir_program.specs.declared.handles.Ptr.{Ptr}
use Rattle.ir_trees.specs.Stands.{by_handle, StandsFor}
use Rattle.ir_types.specs.Interned.{key_at}
use Rattle.ir_types.specs.Views.{TypesView}
use Rattle.kit.specs.Context.{KitContext, KitTree}
use Rattle.kit.specs.declared.dialect.Unused.{Unused}
use Rattle.kit_behaviour.specs.Machine.{FunctionsByPath}
use Rattle.kit_behaviour.specs.PassLists.{Pass, Fit, IsAfter}
use Rattle.kit_behaviour.specs.Places.{Place}
use Rattle.kit_behaviour.proofs.PassListLemmas.{after_alike, after_goal, after_faces}
use Rattle.kit_ruled_passes.specs.Held.{HoldsModule}
use Rattle.kit_ruled_views.specs.Programs.{IsProgramOf}
use Rattle.kit_ruled_views.specs.Sound.{IsSound}
use Rattle.kit_ruled_views.proofs.programs.ListsOnTrees.{list_on}
use Rattle.kit_ruled_views.proofs.programs.ProgramsOfTrees.{program_exists}
use Rattle.kit_ruled_views.proofs.programs.RuledSound.{ruled_sound}
use Rattle.kit_ruled_views.proofs.programs.SoundFlat.{sound_flat}
use Rattle.kit_ruled_views.specs.Operations.{operations_below}
use Rattle.kit_ruled_views.proofs.programs.FitPrograms.{fit_program}
use Rattle.kit_ruled_views.proofs.programs.FunctionSizes.{one_pass, program_within}
use Rattle.kit_ops.specs.declared.types.KitType.{KitType}
use Rattle.kit_optimiser.specs.Passed.{IsOptimised}
use Rattle.kit_execution.specs.Laws.{IsProgramIn}
use Rattle.kit_execution.specs.Numberings.{NumbersTextsApart}
use Rattle.kit_ruled_views.specs.Ruled.{type_or_first}
use Rattle.kit_ruled_views.proofs.HandleSameness.{values_apart}
use Rattle.kit_optimiser.specs.Programs.{IsOrdinary, PassedPrograms}
use Rattle.kit_optimiser.proofs.HandlesTold.{handles_told}
use Rattle.kit_optimiser.proofs.HeadsKept.{list_keeps}

-- the program of a tree of a context is fit
pub fit : (s : KitContext) (root : Ptr Operation) (t : KitTree) (numbered : List ℕ → ℕ) (p : FunctionsByPath Place)
    → IsProgramIn s root t numbered p → Fit p
fit s root t numbered p given =
    fit_program (key_at s.types) (type_at s.program) numbered same_value t p values_apart
    (given.obeys t given.stands) given.is given.names given.types

module _ (xs : List Pass) (old new : KitContext) (root : Ptr Operation) (t : KitTree) (numbered : List ℕ → ℕ)
    (held : HoldsModule old root) (stands : StandsFor old.program root t) (before : IsOrdinary old root)
    (made : IsOptimised xs old new root) (after : IsOrdinary new root) (numbers : NumbersTextsApart numbered) where
  sound : IsSound {N = by_handle} (key_at old.types) numbered (type_or_first (type_at old.program)) t
  sound = ruled_sound (key_at old.types) (type_at old.program) t (held.rules t stands) numbered (before t stands).0
      (before t stands).1

  first : (p : FunctionsByPath Place) × IsProgramOf {N = by_handle} same_value (key_at old.types) numbered t p
  first = program_exists {N = by_handle} same_value (key_at old.types) numbered t
      (sound_flat {N = by_handle} (key_at old.types) numbered (type_or_first (type_at old.program)) t sound)

  is_first : IsProgramIn old root t numbered first.0
  is_first = record {
    obeys = held.rules;
    stands = stands;
    names = (before t stands).0;
    types = (before t stands).1;
    numbering = numbers;
    is = first.1;
  }

  pub programs : PassedPrograms xs old new root numbered
  programs =
      let u = made.tree t stands in
      let q = list_on {N = by_handle} handles_told (key_at old.types) numbered xs t u.0 first.0 (u.2 numbered) first.1 in
      let p_fit = fit old root t numbered first.0 is_first in
      let alike = after_alike xs first.0 q.0 p_fit q.2 in
      record {
        before = t;
        first = first.0;
        is_first = is_first;
        after = u.0;
        last = q.0;
        is_last = record {
          obeys = made.holds.rules;
          stands = u.1;
          names = (after u.0 u.1).0;
          types = (after u.0 u.1).1;
          numbering = numbers;
          is = subst
              (λ (k : TypesView KitType Unused Unused). IsProgramOf {N = by_handle} same_value (key_at k) numbered u.0 q.0)
              (sym made.types) q.1;
        };
        passed = q.2;
        factor = alike.0;
        alike = alike.1;
        bound = λ x one. one_pass x first.0 q.0 (operations_below t) (operations_below u.0) p_fit.rules
            (subst (λ ys. IsAfter ys first.0 q.0) one q.2)
            (program_within {N = by_handle} same_value (key_at old.types) numbered t first.0 first.1)
            (program_within {N = by_handle} same_value (key_at old.types) numbered u.0 q.0 q.1);
        goal = after_goal xs first.0 q.0 p_fit.rules q.2;
        faces = after_faces xs first.0 q.0 p_fit.rules q.2;
        content = λ path. list_keeps {N = by_handle} (key_at old.types) numbered xs t u.0 (u.2 numbered) path;
      }
