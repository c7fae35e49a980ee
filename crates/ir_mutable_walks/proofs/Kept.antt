-- Where the calls kept all shapes, they are those of a walk of the first tree.
use Rattle.std.proofs.Common.{◌≡◌, List, slice_get, Option, Some, refl, ap, ◌∙◌, subst}
use Rattle.ir_program.specs.Preorder.{nodes_in}
use Rattle.ir_program.specs.Program.{Program}
use Rattle.ir_program.specs.declared.handles.IRNode.{IRNode}
use Rattle.ir_walks.specs.declared.config.WalkConfig.{WalkConfig}
use Rattle.ir_walks.specs.declared.results.WalkContinue.TheVariants.{Advance}
use Rattle.ir_walks.specs.declared.turns.Cursor.{Cursor}
use Rattle.ir_walks.specs.Turns.{node_of, IsKnown}
use Rattle.ir_walks.specs.Walks.{Call}
use Rattle.ir_walks.proofs.Progress.{IsSoFar, begins}
use Rattle.ir_walks.proofs.Trees.{Within, it, deeper, IsTree, tree_of}
use Rattle.ir_mutable_walks.specs.Ways.{Way, start, silent, called, EachKeptShape}
use Rattle.ir_mutable_walks.proofs.Along.{Keeping, bare, known_along}
use Rattle.ir_mutable_walks.proofs.SoFar.{on_silently, on_called, at_within, turn_back}
use Rattle.ir_mutable_walks.proofs.Stays.{live_in}

-- what is in x in the first tree is so in the other, where both have the same in each of these nodes
pub alike_within : {O B : Type 0} (c0 c : Program O B) (x : IRNode) → ((e : IRNode) → Within c0 x e → nodes_in c e ≡ nodes_in c0 e) → (e : IRNode) → Within c0 x e → Within c x e
alike_within c0 c x same _ it = it
alike_within c0 c x same _ (deeper d e k h w) = deeper d e k (ap (λ es. slice_get es k) (same d w) ∙ h) (alike_within c0 c x same d w)

module _ {O B V : Type 0} (tree : V → Program O B) (Made : V → Call → V → Type 0) (config : WalkConfig) (x : IRNode) (v : V) (known : IsKnown (tree v) x) where
  first : IsTree (tree v)
  first = tree_of (tree v) x known

  -- what was called so far, and that all is as in the first tree
  pub record AsFirst (calls : List Call) (at : Option Cursor) (w : V) : Type 0 where
    pub so_far : IsSoFar (tree v) config x at calls
    pub alike : (e : IRNode) → Within (tree v) x e → nodes_in (tree w) e ≡ nodes_in (tree v) e

  pub as_first : (calls : List Call) (at : Option Cursor) (w : V) (way : Way tree (Keeping tree Made x) config x v calls at w) → EachKeptShape tree Made config x v calls at w (bare tree Made config x v calls at w way) → AsFirst calls at w
  as_first _ _ _ start kept = record { so_far = begins (tree v) config x; alike = λ e i. refl }
  as_first _ _ _ (silent calls at w next way s turn) kept =
      let r : AsFirst calls (Some at) w = as_first calls (Some at) w way kept in
      let now : IsTree (tree w) = tree_of (tree w) x (known_along tree Made config x v known calls (Some at) w way) in
      let back = turn_back (tree v) (tree w) config x first now at calls r.so_far (λ d k i h. r.alike d i) (λ e q. r.alike e (subst (λ z. Within (tree v) x (node_of z)) q (at_within (tree v) config x at calls r.so_far))) Advance next turn in
      record { so_far = on_silently (tree v) config x known at calls r.so_far s next back; alike = r.alike }
  as_first _ _ _ (called calls at w n a u next way s made turn) kept =
      let r : AsFirst calls (Some at) w = as_first calls (Some at) w way kept.0 in
      let known_w : IsKnown (tree w) x = known_along tree Made config x v known calls (Some at) w way in
      let alike : (e : IRNode) → Within (tree v) x e → nodes_in (tree u) e ≡ nodes_in (tree v) e = λ e i. kept.1 e (live_in (tree w) x known_w e (alike_within (tree v) (tree w) x r.alike e i)) ∙ r.alike e i in
      let back = turn_back (tree v) (tree u) config x first (tree_of (tree u) x made.1.after) at calls r.so_far (λ d k i h. alike d i) (λ e q. alike e (subst (λ z. Within (tree v) x (node_of z)) q (at_within (tree v) config x at calls r.so_far))) a next turn in
      record { so_far = on_called (tree v) config x known at calls r.so_far n s a next back; alike = alike }
