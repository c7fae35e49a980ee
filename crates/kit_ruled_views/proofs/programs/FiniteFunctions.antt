-- The program of a sound module has finitely many functions.
use Rattle.std.proofs.Common.{◌≡◌, ◌⊎◌, ⊎_elim, inl, inr, ℕ, Bool, List, [], ◌∷◌, map, Option, Some, None, refl, sym}
use Rattle.std.proofs.Common.{ap, ◌∙◌, subst}
use Rattle.std.specs.Prelude.{reverse}
use Rattle.ir_base.specs.declared.types.TypeHandle.{TypeHandle}
use Rattle.ir_trees.specs.Names.{Names}
use Rattle.ir_trees.specs.Trees.{Root}
use Rattle.opt_trees.specs.Occurrences.{Has, Occurrence, occurrences_of, at_root}
use Rattle.kit_ops.specs.declared.kinds.KitOp.{KitOp}
use Rattle.kit_ops.specs.declared.kinds.KitOp.TheVariants as ops
use Rattle.kit_ops.specs.declared.types.KitType.{KitType}
use Rattle.kit_behaviour.specs.Machine.{Fun, FunctionsByPath}
use Rattle.kit_behaviour.specs.Numbering.{place_of, place_block}
use Rattle.kit_behaviour.specs.PassLists.{IsFinite}
use Rattle.kit_behaviour.specs.Places.{Place}
use Rattle.kit_behaviour.specs.Scopes.{In}
use Rattle.kit_views.specs.FlatView.{FlattensTo}
use Rattle.kit_views.specs.Reading.{Reading, kit_contents, kit_reading}
use Rattle.kit_ruled_views.proofs.OneView.{one_view}
use Rattle.kit_ruled_views.specs.Paths.{locate}
use Rattle.kit_ruled_views.specs.Programs.{HasFunctionView, IsProgramOf}
use Rattle.kit_ruled_views.specs.Sound.{tree_of, IsSound}
use Rattle.kit_ruled_views.proofs.programs.Located.{located}

function_or_not : (k : KitOp) → (k ≡ ops.Func) ⊎ (k ≡ ops.Func → ⊥)
function_or_not ops.Func = inl refl
function_or_not ops.Module = inr (λ e. cc)
function_or_not ops.Constant = inr (λ e. cc)
function_or_not ops.ForwardRef = inr (λ e. cc)
function_or_not (ops.Arithmetic a) = inr (λ e. cc)
function_or_not (ops.Comparison a) = inr (λ e. cc)
function_or_not ops.Br = inr (λ e. cc)
function_or_not ops.CondBr = inr (λ e. cc)
function_or_not ops.Call = inr (λ e. cc)
function_or_not ops.Emit = inr (λ e. cc)
function_or_not ops.Return = inr (λ e. cc)

-- the function, its values named by their places
abbrev placed : {V : Type 0} → (V → V → Bool) → Fun V → Fun Place
placed same f = map (place_block (place_of same f)) f

module _ {N : Names} (same : N.value → N.value → Bool) (r : Reading kit_contents) where
  -- these have the flat view of each function among the operations, whatever flat view that is
  record Lists (os : List (Occurrence N kit_contents)) : Type 0 where
    functions : List (Fun Place)
    all : (o : Occurrence N kit_contents) → Has o os → o.head.content.kind ≡ ops.Func → (f : Fun N.value) →
        FlattensTo r (tree_of o) f → In (placed same f) functions

  abbrev HaveViews : List (Occurrence N kit_contents) → Type 0
  HaveViews os = (o : Occurrence N kit_contents) → Has o os → o.head.content.kind ≡ ops.Func →
      (f : Fun N.value) × FlattensTo r (tree_of o) f

  listed : (os : List (Occurrence N kit_contents)) → HaveViews os → Lists os
  listed [] views = record { functions = []; all = λ o i. absurd i }
  listed (o ∷ os) views =
      let rest = listed os (λ p i. views p (inr i)) in
      ⊎_elim
      (λ kind.
      let view = views o (inl refl) kind in
      record {
        functions = placed same view.0 ∷ rest.functions;
        all = λ p i k f flat. ⊎_elim
            (λ e.
            let own : FlattensTo r (tree_of o) f =
            subst (λ (x : Occurrence N kit_contents). FlattensTo r (tree_of x) f) e flat in
            inl (ap (placed same) (one_view r (tree_of o) f view.0 own.view view.1.view own.blocks)))
            (λ j. inr (rest.all p j k f flat))
            i;
      })
      (λ other. record {
        functions = rest.functions;
        all = λ p i k f flat. ⊎_elim
            (λ e. absurd (other (ap (λ (x : Occurrence N kit_contents). x.head.content.kind) (sym e) ∙ k)))
            (λ j. rest.all p j k f flat)
            i;
      })
      (function_or_not o.head.content.kind)

module _ {N : Names} (same : N.value → N.value → Bool) (leads : TypeHandle → Option KitType) (numbered : List ℕ → ℕ)
  where
    pub finite_program : (type_at : N.value → TypeHandle) (t : Root N kit_contents) →
        IsSound {N = N} leads numbered type_at t → (p : FunctionsByPath Place) →
        IsProgramOf {N = N} same leads numbered t p → IsFinite p
    finite_program type_at t sound p is = record {
      functions = l.functions;
      all = λ path. by_place path (locate numbered (reverse path) t) refl (p path) (is path);
    }
      where
        l : Lists {N = N} same (kit_reading leads numbered) (occurrences_of t)
        l = listed {N = N} same (kit_reading leads numbered) (occurrences_of t)
            (λ o i kind. let f = sound.functions o i kind in (f.flat, f.is_flat))

        by_place : (path : List ℕ) (o : Option (Root N kit_contents)) → locate numbered (reverse path) t ≡ o →
            (q : Option (Fun Place)) → HasFunctionView {N = N} same leads numbered o q →
            (q ≡ None) ⊎ ((f : Fun Place) × In f l.functions × (q ≡ Some f))
        by_place path None e q h = inl h
        by_place path (Some u) e q h =
            let z = located numbered (reverse path) t (at_root t) u e in
            let flat : FlattensTo (kit_reading leads numbered) (tree_of z.it) h.0 =
            subst (λ x. FlattensTo (kit_reading leads numbered) x h.0) (sym z.is) h.1 in
            inr (placed same h.0, l.all z.it z.stands z.kind h.0 flat, h.2)
