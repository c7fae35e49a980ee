-- What printing a part of an operation says of itself.
use Rattle.std.specs.Prelude.{◌≡◌, ℕ, List, ◌∷◌, take, drop, Option, Some, None}
use Rattle.ir_names.specs.Tree.{node}
use Rattle.ir_program.specs.declared.handles.Ptr.{Ptr}
use Rattle.ir_program.specs.declared.handles.Region.{Region}
use Rattle.ir_program.specs.declared.handles.BasicBlock.{BasicBlock}
use Rattle.ir_program.specs.declared.handles.Value.{Value}
use Rattle.ir_print.specs.declared.format.Part.{Part}
use Rattle.ir_print.specs.Formats.{Formats, Step, Steps}
use Rattle.ir_print.specs.Layout.{Chunk, white, Before, an_id, a_part, Printer, gap_of_part, piece_on, format_on, all_parts_on, operands_on, edge_on, first_region_on, regions_on, IsFlat, AreFlat, AreShallow}
use Rattle.ir_print.specs.Pieces.{operands, successor, region, ValueTree, Pieces, Entities, no_entity, an_entity}
use Rattle.ir_print.specs.Shown.{Saying, Pairs, ShowsPart, ShowsParts}
use Rattle.text_dialect.specs.Seen.{Seen}
use Rattle.text_dialect.specs.Printed.{IsValueName, printed_names}
use Rattle.text_printing.specs.declared.operations.Progress.{Progress}
use Rattle.text_printing.specs.Added.{PrintsRegions}
use Rattle.text_printing.specs.Printing.{before_of, AddsText, IsReadable, AreReadable}

-- How a piece of an operation is printed, with the names of the operands, the labels of the blocks that it may go on to, and the
-- regions that are left.
abbrev pub head_on : Formats → ValueTree → (used labels : List (List ℕ)) → List (List Chunk → List Chunk) → Option Printer
head_on f (node (operands n) ts) us ls rs = operands_on (take n us)
head_on f (node (successor n) ts) us ls rs = Some (edge_on ls (take n us))
head_on f (node region ts) us ls rs = Some (first_region_on rs)
head_on f t us ls rs = Some (piece_on f t)

-- the names of operands that are left behind a piece
abbrev pub names_after : ValueTree → List (List ℕ) → List (List ℕ)
names_after (node (operands n) ts) us = drop n us
names_after (node (successor n) ts) us = drop n us
names_after t us = us

-- the labels that are left behind a piece
abbrev pub labels_after : ValueTree → List (List ℕ) → List (List ℕ)
labels_after (node (successor n) ts) ls = drop 1 ls
labels_after t ls = ls

-- the others but the first
abbrev pub other_entities : {N : Type 0} → Entities N → Entities N
other_entities no_entity = no_entity
other_entities (an_entity t ts) = ts

-- the regions that are left behind a piece
abbrev pub entities_after : {N : Type 0} → ValueTree → Entities N → Entities N
entities_after (node region ts) es = other_entities es
entities_after t es = es

-- a part with the gap before it, where something is printed for it
abbrev pub gapped_on : Before → Step → Option Printer → List Chunk → List Chunk
gapped_on before s None rest = rest
gapped_on before s (Some p) rest = white (gap_of_part before) ∷ p s rest

-- what stands before what follows it
abbrev pub before_after : Before → Option Printer → Before
before_after before None = before
before_after before (Some p) = a_part

-- an operation with these operands, successors and regions, in which at most so many regions, types and attributes stand in one
-- another
module _ {K A T : Type 0} (says : Saying K A T) (s : Seen K A T) (values : List Value) (its_successors : List (Ptr BasicBlock))
    (its_regions : List (Ptr Region)) (left : ℕ) where
  -- The names, labels and regions that are left are those from some places on.
  pub record AreLeft (used_operands used_successors used_regions : ℕ) (us ls : List (List ℕ)) (es : Entities (List ℕ)) :
      Type 0 where
    pub operands : Pairs IsValueName (drop used_operands values) us
    pub successors : Pairs (printed_names s).block (drop used_successors its_successors) ls
    pub regions : PrintsRegions says s (drop used_regions its_regions) es
    pub shallow : AreShallow left es

  -- on a line with this indentation
  module _ (f : Formats) (indent : ℕ) where
    -- A piece was printed at a step: the text has it, and what is left is what the layout has left.
    pub record IsPartPrinted (at : Step) (t : ValueTree) (us ls : List (List ℕ)) (es : Entities (List ℕ)) (before : Before)
        (after : Progress) (rest : List Chunk) (old new : List ℕ) : Type 0 where
      pub text : AddsText old new rest (gapped_on before at (head_on f t us ls (regions_on f indent es)) rest)
      pub before_is : before_of after.before ≡ before_after before (head_on f t us ls (regions_on f indent es))
      pub are_left : AreLeft after.operands after.successors after.regions (names_after t us) (labels_after t ls) (entities_after t es)

    -- The same for each piece that the part shows.
    pub record PartPrinted {D : Type 0} (at : Step) (part : Part D K A T) (progress after : Progress) (old new : List ℕ) :
        Type 0 where
      pub printed : (t : ValueTree) (us ls : List (List ℕ)) (es : Entities (List ℕ)) (rest : List Chunk) →
          ShowsPart says s.types part t → IsFlat left t → IsReadable 64 t →
          AreLeft progress.operands progress.successors progress.regions us ls es →
          IsPartPrinted at t us ls es (before_of progress.before) after rest old new

    -- parts were written behind the id of their operation, one for each step of a format that is no word
    abbrev pub AddsOperationParts : {D : Type 0} → Steps → List (Part D K A T) → (old new : List ℕ) → Type 0
    AddsOperationParts format parts old new =
        (ts : Pieces) (us ls : List (List ℕ)) (es : Entities (List ℕ)) (rest : List Chunk) → ShowsParts says s.types parts ts →
        AreFlat left ts → AreReadable 64 ts → AreLeft 0 0 0 us ls es →
        AddsText old new rest (format_on an_id format (all_parts_on f ts us ls (regions_on f indent es)) rest)
