-- What a pass leaves of a module that a context holds, by what is known of the trees before and after.
use Rattle.std.proofs.Common.{◌≡◌, IsSome, refl, sym, subst}
use Rattle.ir_program.specs.Program.{operation_at, type_at}
use Rattle.ir_program.specs.declared.handles.Operation.{Operation}
use Rattle.ir_program.specs.declared.handles.Ptr.{Ptr}
use Rattle.ir_trees.specs.Stands.{by_handle, StandsFor}
use Rattle.ir_trees.proofs.OneTree.{one_tree}
use Rattle.ir_types.specs.Interned.{key_at}
use Rattle.ir_types.specs.Views.{TypesView}
use Rattle.kit.specs.Context.{KitContext, KitProgram, KitTree}
use Rattle.kit_checks.specs.KitWorld.{HasDeclaredTypes, kit_world}
use Rattle.opt_trees.specs.Simplify.{IsLocal, IsSimplify}
use Rattle.kit.specs.declared.dialect.Unused.{Unused}
use Rattle.kit.specs.Meaning.{kit}
use Rattle.kit_behaviour.specs.PassLists.{LeanSccpPass, DcePass, SimplifyPass}
use Rattle.kit_pass_rules.specs.ChainLaws.{DefinersApart, SimplifiedKeepsRules}
use Rattle.kit_ruled_passes.specs.Held.{HoldsModule}
use Rattle.kit_ruled_views.specs.TreePasses.{IsTreePass, IsSccpNamed, IsDceAlone, IsSimplifiedAlone}
use Rattle.kit_ops.specs.declared.types.KitType.{KitType}
use Rattle.kit_pass_rules.specs.Laws as laws
use Rattle.kit_pass_rules.specs.Laws.{IsGood, MakesUpToNames, DceKeepsRules, SccpKeepsRules}
use Rattle.kit_pass_rules.specs.Worlds.{HandlesAreApart, ObeysIn}
use Rattle.kit_ruled_passes.specs.Laws.{LeavesTree}
use Rattle.kit_ruled_passes.specs.Entering.{IsEnteredNowhere}
use Rattle.kit_ruled_views.specs.Functions.{IsSelfContained}
use Rattle.kit_written_trees.specs.PassLaws.{DceStaysWritable, SccpStaysWritable, SimplifyStaysWritable}
use Rattle.kit_writable_trees.specs.Writable.{IsWritableRoot}
use Rattle.kit_optimiser.specs.Passed.{Leaves, IsPassed}

-- an operation that stands for a tree is there
pub live : (c : KitProgram) (root : Ptr Operation) (t : KitTree) → StandsFor c root t → IsSome (operation_at c root)
live c root t stands = subst (λ o. IsSome o) (sym stands.there) refl

-- under any handles, and under names of operations
named : (t u : KitTree) → IsSccpNamed {N = by_handle} t u → laws.IsSccpUpToNames t u
named t u m = record { around = m.around; put_in = m.put; is_sccp = m.is; names = m.names; is = m.same }

simply : (t u : KitTree) (m : IsSimplifiedAlone {N = by_handle} t u) → MakesUpToNames (IsSimplify kit m.around) t u
simply t u m = (m.simplified, m.is, m.names, m.same)

-- what is known before the pass and after it, beside what the pass makes of trees
pub record IsLeft (old new : KitContext) (root : Ptr Operation) : Type 0 where
  pub tree : (t : KitTree) × StandsFor old.program root t
  pub types : new.types ≡ old.types
  pub apart : (t : KitTree) → StandsFor old.program root t → HandlesAreApart t
  pub typed : (t : KitTree) → StandsFor old.program root t → HasDeclaredTypes (type_at old.program) t
  pub typed_after : (t : KitTree) → StandsFor new.program root t → HasDeclaredTypes (type_at new.program) t
  pub entered : IsEnteredNowhere new root
  pub contained : IsSelfContained new root

module _ (old new : KitContext) (root : Ptr Operation) (held : HoldsModule old root) (known : IsLeft old new root) where
  good : (t : KitTree) → StandsFor old.program root t → IsGood (key_at old.types) (type_at old.program) t
  good t stands = record {
    obeys = held.rules t stands;
    typed_in = known.typed t stands;
    apart = known.apart t stands;
  }

  -- the pass makes of good trees such as keep the rules, and of such as can be written others
  record Keeps (Makes : KitTree → KitTree → Type 0) : Type 0 where
    rules : (t u : KitTree) → StandsFor old.program root t → Makes t u → HasDeclaredTypes (type_at new.program) u
        → ObeysIn (kit_world (key_at old.types) (type_at new.program)) u
    writes : (t u : KitTree) → StandsFor old.program root t → Makes t u → IsWritableRoot old.types.keys t
        → IsWritableRoot old.types.keys u

  leaves : (Makes : KitTree → KitTree → Type 0) → Keeps Makes → LeavesTree old.program new.program root Makes
      → Leaves Makes old new root
  leaves Makes keeps made =
      let t = known.tree in
      let u = made t.0 t.1 in
      let obeys : ObeysIn (kit_world (key_at new.types) (type_at new.program)) u.0 =
      subst (λ (k : TypesView KitType Unused Unused). ObeysIn (kit_world (key_at k) (type_at new.program)) u.0)
      (sym known.types) (keeps.rules t.0 u.0 t.1 u.2 (known.typed_after u.0 u.1)) in
      record {
        holds = record {
          live = live new.program root u.0 u.1;
          rules = λ z stands. subst (ObeysIn (kit_world (key_at new.types) (type_at new.program)))
              (one_tree new.program root u.0 z u.1 stands) obeys;
          entered = known.entered;
          contained = known.contained;
        };
        types = known.types;
        tree = λ z stands. let m = made z stands in (m.0, m.1, m.2, keeps.writes z m.0 stands m.2);
      }

  pub propagated : SccpKeepsRules → SccpStaysWritable
      → LeavesTree old.program new.program root (λ t u. IsSccpNamed {N = by_handle} t u)
      → IsPassed LeanSccpPass old new root
  propagated obey write made = leaves (IsTreePass {N = by_handle} LeanSccpPass) (record {
    rules = λ t u stands m typed. obey (key_at old.types) (type_at old.program) (type_at new.program) t u
        (good t stands) (named t u m) typed;
    writes = λ t u stands m w. write old.types.keys (type_at old.program) t u w (good t stands) (named t u m);
  }) made

  pub removed : DceKeepsRules → DceStaysWritable
      → LeavesTree old.program new.program root (λ t u. IsDceAlone {N = by_handle} t u)
      → IsPassed DcePass old new root
  removed obey write made = leaves (IsTreePass {N = by_handle} DcePass) (record {
    rules = λ t u stands m typed. obey m.around (key_at old.types) (type_at old.program) (type_at new.program) t u
        (good t stands) m.is typed;
    writes = λ t u stands m w. write old.types.keys m.around t u w (good t stands).apart.operations m.is;
  }) made

  pub simplified : SimplifiedKeepsRules → SimplifyStaysWritable
      → ((t : KitTree) → StandsFor old.program root t → DefinersApart t)
      → ((t : KitTree) → StandsFor old.program root t → IsLocal t)
      → LeavesTree old.program new.program root (λ t u. IsSimplifiedAlone {N = by_handle} t u)
      → IsPassed SimplifyPass old new root
  simplified obey write apart local made = leaves (IsTreePass {N = by_handle} SimplifyPass) (record {
    rules = λ t u stands m typed. obey m.around (key_at old.types) (type_at old.program) (type_at new.program) t u
        (good t stands) (apart t stands) (simply t u m) typed;
    writes = λ t u stands m w. write old.types.keys m.around t u w (local t stands) (simply t u m);
  }) made
