-- How what is built goes with what was read.
use Rattle.std.specs.Prelude.{◌≡◌, List, [], ◌∷◌, ◌++◌}
use Rattle.ir_grammar.specs.declared.grammar.Event.{Event}
use Rattle.ir_grammar.specs.declared.grammar.Event.TheVariants.{Took, Did}
use Rattle.ir_forest.specs.Forest.{Deed, deeds_in}
use Rattle.ir_grammar.specs.Nesting.{Position, move, NestsBy}
use Rattle.ir_forest.specs.Building.{Open, Built, after}

-- the deeds of what is open: of each, the outermost first, those of the trees before it, and that which began it
abbrev pub deeds_around : List Open → List Deed
deeds_around [] = []
deeds_around (o ∷ os) = deeds_around os ++ (deeds_in o.before ++ (o.action, o.first) ∷ [])

-- the deeds of all that is built so far
abbrev pub deeds_so_far : Built → List Deed
deeds_so_far b = deeds_around b.around ++ deeds_in b.here

-- what is built after deeds
abbrev pub run : Built → List Deed → Built
run b [] = b
run b (d ∷ ds) = run (after b d.0 d.1) ds

-- As `Nests` (specs/Nesting.antt), and the events lead to a position, with these positions behind what is begun around it.
abbrev pub Leads : Position → List Position → List Event → Position → List Position → Type 0
Leads here around [] to behind = (here ≡ to) × (around ≡ behind)
Leads here around (Took ∷ es) to behind = Leads here around es to behind
Leads here around (Did a ∷ es) to behind = NestsBy (move here a) around (λ next more. Leads next more es to behind)
