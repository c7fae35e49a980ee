-- Trees of what is made, list by list.
use Rattle.std.specs.Prelude.{ℕ, List, [], ◌∷◌}
use Rattle.ir_program.specs.declared.handles.Ptr.{Ptr}
use Rattle.ir_program.specs.declared.handles.BasicBlock.{BasicBlock}
use Rattle.ir_print.specs.Pieces.{a_region, Entity, entity, Entities, no_entity, an_entity}
use Rattle.ir_print.specs.Shown.{Saying}
use Rattle.text_dialect.specs.Seen.{SeenBlock, Seen}
use Rattle.text_dialect.specs.Standing.{Naming, HaveBlockTrees}

-- entities with one more behind them
abbrev pub with_last : {N : Type 0} → Entities N → Entity N → Entities N
with_last no_entity u = an_entity u no_entity
with_last (an_entity t ts) u = an_entity t (with_last ts u)

-- the blocks of each list have the trees that are in the region beside it
abbrev pub HaveListTrees : {K A T N : Type 0} → Saying K A T → Naming N →
    (Ptr BasicBlock → SeenBlock → List ℕ → Type 0) → Seen K A T → List (List (Ptr BasicBlock)) → Entities N → Type 0
HaveListTrees says Named Labels s [] no_entity = Unit {0}
HaveListTrees says Named Labels s (bs ∷ bss) (an_entity (entity a_region ts) us) =
    HaveBlockTrees says Named Labels s bs ts × HaveListTrees says Named Labels s bss us
HaveListTrees says Named Labels s _ _ = ⊥
