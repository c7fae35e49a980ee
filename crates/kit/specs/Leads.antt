-- Where the parts of lists and choices lead to in the grammar of `kit`.
use Rattle.std.specs.Prelude.{[], ◌∷◌}
use Rattle.ir_formats.specs.Ordered.{PartPositions, leads_with, piece_leads, operands_leads, edge_leads, list_leads}

-- The operands of `kit.return` and of `kit.call`, those of the edges of `kit.br` and of `kit.cond_br`, the inputs and the results
-- of a function type, the numbers of sizes, and given names: for each list its own part, and that of what follows a member. Behind
-- these comes the choice between a name and none.
abbrev pub leads : PartPositions
leads = leads_with
    (operands_leads ∷ operands_leads ∷ operands_leads ∷ operands_leads
    ∷ edge_leads ∷ edge_leads ∷ edge_leads ∷ edge_leads ∷ edge_leads ∷ edge_leads
    ∷ list_leads ∷ list_leads ∷ list_leads ∷ list_leads
    ∷ list_leads ∷ list_leads
    ∷ list_leads ∷ list_leads ∷ piece_leads ∷ [])
