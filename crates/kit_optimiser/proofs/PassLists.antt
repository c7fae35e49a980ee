-- A pass behind a list of passes.
use Rattle.std.proofs.Common.{◌≡◌, ℕ, ◌+◌, ◌<◌, List, [], ◌∷◌, ◌++◌, map, take, drop, length, get_or, Option, Some, slice_get, refl, sym, ap}
use Rattle.std.proofs.Common.{◌∙◌, subst}
use Rattle.std.proofs.lemmas.List.{map-append, take-append-drop, drop_more}
use Rattle.ir_base.specs.declared.types.TypeHandle.{TypeHandle}
use Rattle.ir_program.specs.declared.handles.Operation.{Operation}
use Rattle.ir_program.specs.declared.handles.Ptr.{Ptr}
use Rattle.ir_program.proofs.made.AddSteps.{take-next}
use Rattle.ir_trees.specs.Stands.{by_handle}
use Rattle.ir_types.specs.Interned.{key_at}
use Rattle.ir_types.specs.Views.{TypesView}
use Rattle.kit.specs.Context.{KitContext, KitTree}
use Rattle.kit.specs.declared.dialect.Unused.{Unused}
use Rattle.kit_behaviour.specs.PassLists.{Pass}
use Rattle.kit_ruled_passes.specs.Held.{HoldsModule}
use Rattle.kit_ruled_views.specs.TreePasses.{IsTreePass, IsTreeAfter, IsSoundTree}
use Rattle.kit_ops.specs.declared.types.KitType.{KitType}
use Rattle.kit_writable_trees.specs.Writable.{IsWritableRoot}
use Rattle.kit_ops.specs.declared.pass.KitPass.{KitPass}
use Rattle.kit_optimiser.specs.Passed.{CountsTo, IsPassed, IsOptimised, IsSoundRoot, ExtendsPasses, RunsPasses, pass_of}

module _ (leads : TypeHandle → Option KitType) (numbered : List ℕ → ℕ) (x : Pass) where
  one_more : (xs : List Pass) (t u r : KitTree) → IsTreeAfter {N = by_handle} leads numbered xs t u
      → IsSoundTree {N = by_handle} leads numbered u → IsTreePass {N = by_handle} x u r
      → IsTreeAfter {N = by_handle} leads numbered (xs ++ x ∷ []) t r
  one_more [] t u r same sound pass = (
    subst (λ (z : KitTree). IsSoundTree {N = by_handle} leads numbered z) (sym same) sound,
    (r, subst (λ (z : KitTree). IsTreePass {N = by_handle} x z r) (sym same) pass, refl),
  )
  one_more (y ∷ ys) t u r (first, (v, done, after)) sound pass = (first, (v, done, one_more ys v u r after sound pass))

-- the types of a context of `kit`
abbrev KitTypes : Type 0
KitTypes = TypesView KitType Unused Unused

-- no pass leaves what was there
pub begins : (s : KitContext) (root : Ptr Operation) → HoldsModule s root → IsOptimised [] s s root
begins s root held = record {
  holds = held;
  types = refl;
  tree = λ t stands. (t, stands, (λ numbered. refl), λ w. w);
}

-- a pass on what a list of passes made, with the numbers of values that it takes
pub runs_on : (xs : List Pass) (x : Pass) (old mid new : KitContext) (root : Ptr Operation) → RunsPasses xs old mid root
    → IsPassed x mid new root → CountsTo x mid root new.program.counter → RunsPasses (xs ++ x ∷ []) old new root
runs_on [] x old mid new root is passed counts =
    subst (λ (s : KitContext). RunsPasses (x ∷ []) s new root) is (new, passed, counts, refl)
runs_on (y ∷ ys) x old mid new root (next, first, counted, rest) passed counts =
    (next, first, counted, runs_on ys x next mid new root rest passed counts)

-- a pass on what a list of passes left
pub goes_on : (x : Pass) (old new : KitContext) (root : Ptr Operation) → IsSoundRoot old root → IsPassed x old new root
    → ExtendsPasses x old new root
goes_on x old new root sound passed start xs before = record {
  holds = passed.holds;
  types = passed.types ∙ before.types;
  tree = λ t stands.
      let u = before.tree t stands in
      let r = passed.tree u.0 u.1 in (
        r.0,
        r.1,
        (λ numbered. one_more (key_at start.types) numbered x xs t u.0 r.0 (u.2 numbered)
            (subst (λ (k : KitTypes). IsSoundTree {N = by_handle} (key_at k) numbered u.0) before.types
            (sound u.0 u.1 numbered)) r.2),
        λ w. subst (λ (k : KitTypes). IsWritableRoot k.keys r.0) before.types
            (r.3 (subst (λ (k : KitTypes). IsWritableRoot k.keys u.0) (sym before.types) (u.3 w))),
      );
}

-- the passes up to an index, and the one there
pub mapped_more : (ps : List KitPass) (i : ℕ) (p : KitPass) → slice_get ps i ≡ Some p
    → map pass_of (take (i + 1) ps) ≡ map pass_of (take i ps) ++ pass_of p ∷ []
mapped_more ps i p there =
    ap (λ l. map pass_of l) (sym (take-next ps i p there)) ∙ map-append pass_of (take i ps) (p ∷ [])

-- the passes up to an index, the one there, and the rest
pub mapped_parts : (ps : List KitPass) (i : ℕ) (d : KitPass) → i < length ps
    → map pass_of (take i ps) ++ pass_of (get_or ps i d) ∷ map pass_of (drop (i + 1) ps) ≡ map pass_of ps
mapped_parts ps i d below =
    sym (map-append pass_of (take i ps) (get_or ps i d ∷ drop (i + 1) ps))
    ∙ ap (λ l. map pass_of (take i ps ++ l)) (sym (drop_more ps i d below))
    ∙ ap (λ l. map pass_of l) (take-append-drop i ps)
