-- What removing unreached blocks makes of a program.
use Rattle.std.specs.Bool.{◌==◌}
use Rattle.std.proofs.Common.{◌≡◌, inl, ℕ, length, arith, true, false, List, [], ◌∷◌, refl, sym, ap, ◌∙◌}
use Rattle.ir_program.specs.Program.{Program}
use Rattle.ir_program.specs.declared.handles.Ptr.{Ptr}
use Rattle.ir_program.specs.declared.handles.Operation.{Operation}
use Rattle.ir_program.specs.declared.handles.BasicBlock.{BasicBlock}
use Rattle.ir_trees.specs.Stands.{by_handle, in_program, ProgramTree, StandsFor}
use Rattle.opt_trees.specs.Dialect.{Dialect}
use Rattle.opt_trees.specs.Simplify.{StartingRegions}
use Rattle.opt_inside.proofs.Around.{HasLists}
use Rattle.opt_inside.specs.reach.Starts.{IsStartIn}
use Rattle.opt_inside.specs.declared.reach.starts.Start.{Start}
use Rattle.opt_simplify.specs.Phases.{RemovesBlocks}
use Rattle.opt_simplify.specs.Refusals.{AreUnreached, HasNoneUnreached}
use Rattle.opt_simplify.specs.Removed.{is_listed, ErasesPickedBlocks}
use Rattle.opt_simplify.proofs.RemovedAmong.{has_among}
use Rattle.opt_simplify.proofs.RemovedTrees.{blocks_removed, none_lost}

module _ {O B A : Type 0} (d : Dialect (in_program O B) A) (c : Program O B) (lists : HasLists c) (op : Ptr Operation) (start : Start) (row : List (Ptr BasicBlock)) (all : AreUnreached d c op start row) where
  pub all_removed : (new : Program O B) → ErasesPickedBlocks c new (is_listed row) → (p : StartingRegions by_handle) → IsStartIn c start p → (t : ProgramTree O B) → StandsFor c op t → RemovesBlocks d p c new op t
  all_removed new loses p is t stands = blocks_removed c new lists op (is_listed row) all.below loses d p t stands (all.unreached p is t stands) (all.reached t stands)

  pub unchanged_removed : row ≡ [] → (p : StartingRegions by_handle) → IsStartIn c start p → (t : ProgramTree O B) → StandsFor c op t → RemovesBlocks d p c c op t
  unchanged_removed e = all_removed c (none_lost c (is_listed row) (λ b. ap (λ bs. is_listed bs b) e))

  pub none_unreached : row ≡ [] → HasNoneUnreached d c op start
  none_unreached e p is t stands b u = let f : true ≡ false = sym ((all.unreached p is t stands b).1 u) ∙ ap (λ bs. is_listed bs b) e in cc

  pub some_unreached : (row ≡ [] → ⊥) → (p : StartingRegions by_handle) → IsStartIn c start p → (t : ProgramTree O B) → StandsFor c op t → HasNoneUnreached d c op start → ⊥
  some_unreached some p is t stands none = by_list row refl where
    by_list : (bs : List (Ptr BasicBlock)) → row ≡ bs → ⊥
    by_list [] e = some e
    by_list (b ∷ bs) e = none p is t stands b ((all.unreached p is t stands b).0 (ap (λ xs. is_listed xs b) e ∙ has_among (b ∷ bs) b (inl refl)))

-- a list of no length is empty
pub emptied : {X : Type 0} (xs : List X) (n : ℕ) → n ≡ length xs → true ≡ (n == 0) → xs ≡ []
emptied [] n e h = refl
emptied (x ∷ xs) n e h = grind arith

pub not_emptied : {X : Type 0} (xs : List X) (n : ℕ) → n ≡ length xs → false ≡ (n == 0) → xs ≡ [] → ⊥
not_emptied [] n e h s = grind arith
not_emptied (x ∷ xs) n e h s = cc
