-- What constant propagation leaves known of the values of a module.
use Rattle.std.specs.Prelude.{◌≡◌, ℕ, List, [], ◌∷◌, ◌++◌}
use Rattle.ir_trees.specs.Stands.{by_handle}
use Rattle.ir_trees.specs.Trees.{Root}
use Rattle.kit.specs.Context.{KitTree}
use Rattle.kit.specs.Meaning.{kit}
use Rattle.kit_behaviour.specs.ConstantPropagation.{used_wanted, KeepsFunctionFacts}
use Rattle.kit_behaviour.specs.Facts as flat
use Rattle.kit_behaviour.specs.Machine.{FunctionsByPath}
use Rattle.kit_behaviour.specs.Places.{Place}
use Rattle.kit_ops.specs.declared.attributes.IntegerAttr.{IntegerAttr}
use Rattle.kit_ops.specs.declared.pass.KitPass.{KitPass}
use Rattle.kit_ops.specs.declared.pass.KitPass.TheVariants.{Sccp}
use Rattle.kit_views.specs.Reading.{kit_contents}
use Rattle.opt_trees.specs.Dce.{TreeSurroundings}
use Rattle.opt_trees.specs.Facts.{Facts, IsMostPrecise}
use Rattle.opt_trees.specs.Sccp.{fresh, IsSccp, KeepsFacts}
use Rattle.irkit_driver.specs.Programs.{ArePassed}

-- each function of what passes make of a module has most precise facts
abbrev pub FactsExist : Type 0
FactsExist = (passes : List KitPass) (t u : KitTree) (p q : FunctionsByPath Place) → ArePassed passes t u p q →
    (path : List ℕ) → (k : flat.FunctionFacts Place) × flat.AreMostPreciseFacts (q path) k

-- the most precise facts of each function after constant propagation say of each block that was there, and of each value
-- that was there, what the most precise ones before said
abbrev pub PassedFactsStay : Type 0
PassedFactsStay = (t u : KitTree) (p q : FunctionsByPath Place) → ArePassed (Sccp ∷ []) t u p q →
    (path : List ℕ) (k l : flat.FunctionFacts Place) → flat.AreMostPreciseFacts (p path) k → flat.AreMostPreciseFacts (q path) l →
    KeepsFunctionFacts used_wanted (p path) k l

-- the same of trees, under names for the constants that were put in: also of regions inside functions, of any tree, whatever
-- outside it names its values
abbrev pub TreeFactsStay : Type 0
TreeFactsStay = (w : TreeSurroundings by_handle IntegerAttr) (t : KitTree) (after : Root (fresh by_handle) kit_contents) (k : Facts by_handle IntegerAttr)
    (l : Facts (fresh by_handle) IntegerAttr) → IsSccp kit w t after → IsMostPrecise kit t k →
    IsMostPrecise kit after l → KeepsFacts kit w t k l

-- constant propagation right behind constant propagation, at the end of a list of passes, leaves the program as it is
abbrev pub SecondSccpSettles : Type 0
SecondSccpSettles = (passes : List KitPass) (t u v : KitTree) (p q r : FunctionsByPath Place) →
    ArePassed (passes ++ Sccp ∷ []) t u p q → ArePassed (passes ++ Sccp ∷ Sccp ∷ []) t v p r → r ≡ q
