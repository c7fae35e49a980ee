-- Constants put into the tree of a function, and into its flat view.
use Rattle.std.specs.Prelude.{◌≡◌, ◌↔◌, ℕ, List, Option, Some, map}
use Rattle.ir_base.specs.declared.types.TypeHandle.{TypeHandle}
use Rattle.ir_trees.specs.Names.{Names}
use Rattle.ir_trees.specs.Trees.{Root}
use Rattle.opt_trees.specs.Sccp as trees
use Rattle.opt_trees.specs.Sccp.{fresh}
use Rattle.kit_ops.specs.declared.types.KitType.{KitType}
use Rattle.kit_behaviour.specs.Facts.{FunctionFacts, AreMostPreciseFacts}
use Rattle.kit_behaviour.specs.InsertedConstants as flat
use Rattle.kit_behaviour.specs.Machine.{Fun}
use Rattle.kit_behaviour.specs.NamedPasses.{GetsConstant}
use Rattle.kit_behaviour.specs.Renaming.{rename_block}
use Rattle.kit_behaviour.specs.Replacement.{replace}
use Rattle.kit_behaviour.specs.Rules.{uses_in}
use Rattle.kit_behaviour.specs.Scopes.{In}
use Rattle.kit_views.specs.Reading.{kit_contents, kit_reading}
use Rattle.kit_views.specs.FlatView.{FlattensTo}

-- names while constants are put in: those of the flat function as those of the tree
abbrev pub as_name : {V : Type 0} → flat.OldOrNewName V → trees.Name V V
as_name (flat.Old v) = trees.Old v
as_name (flat.New v) = trees.New v

-- g is f with constants for all values that its most precise facts know, that may get one, and that have a use in f; its
-- uses name them
pub record PropagatesUsed {V : Type 0} (f : Option (Fun V)) (g : Option (Fun (flat.OldOrNewName V))) : Type 0 where
  pub facts : FunctionFacts V
  pub best : AreMostPreciseFacts f facts
  pub made : flat.Made V
  pub gets : (v : V) (n : ℕ) → (made v ≡ Some n) ↔ (GetsConstant f facts v n × In v (uses_in f))
  pub is : g ≡ replace (flat.use_of made) (flat.put_in made f)

-- the flat view of the tree with constants is the flat view f with constants: for all values that the most precise
-- facts know, that may get one, and that have a use
pub record IsPropagatedView {N : Names} (leads : TypeHandle → Option KitType) (numbered : List ℕ → ℕ) (f : Fun N.value)
    (after : Root (fresh N) kit_contents) : Type 0 where
  pub put : Fun (flat.OldOrNewName N.value)
  pub propagates : PropagatesUsed (Some f) (Some put)
  pub is_view : FlattensTo (kit_reading leads numbered) after (map (rename_block as_name) put)
