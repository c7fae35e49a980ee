-- A layout with what reading it does has the chunks of the layout.
use Rattle.std.proofs.Common.{◌≡◌, ℕ, zero, suc, ◌+◌, List, [], ◌∷◌, ◌++◌, map, take, drop, Option, Some, None, slice_get, refl, sym, ap, ◌∙◌, codes}
use Rattle.ir_names.specs.Tree.{node, no_tree, a_tree}
use Rattle.ir_print.specs.Formats as step
use Rattle.ir_print.specs.Formats.{Formats, Kind, Step, Steps, no_steps, kinds_of}
use Rattle.ir_print.specs.Layout as layout
use Rattle.ir_print.specs.Layout.{Chunk, Before, an_id, a_word, a_part, gap_of_word, gap_of_part, line, word_of, member_of, alternative_of, Printer}
use Rattle.ir_print.specs.Pieces.{value_of_kind, list, item, chosen, operands, successor, region, Leaf, leaf, ValueTree, Pieces, EntityHead, operation, a_region, block, Entity, entity, Entities, no_entity, an_entity}
use Rattle.ir_grammar.specs.declared.grammar.Action.{Action}
use Rattle.ir_grammar.specs.declared.grammar.Action.TheVariants as act
use Rattle.ir_print.specs.declared.format.ValueSort.TheVariants as sorts
use Rattle.ir_rereading.proofs.layouts.Marks.{Mark, token, did, chunks, Marker, part_on, step_on, format_on, some_format_on, kind_on, leaf_on, separator_of, some_on, more_members_on, members_on, piece_on, parts_on, more_names_on, names_on, results_on, operands_on, first_region_on, edge_on, all_parts_on, operation_head_on, argument_on, more_arguments_on, arguments_on, block_head_on, operation_on, regions_on, region_on, blocks_on, block_on, operations_on, more_operations_on, marks}

-- a part with what reading it does has the chunks of the part
abbrev IsAlike : Option Marker → Option Printer → Type 0
IsAlike None None = Unit {0}
IsAlike (Some m) (Some p) = (s : Step) (ms : List Mark) → chunks (m s ms) ≡ p s (chunks ms)
IsAlike _ _ = ⊥

-- the same of parts, one after the other
abbrev AreAlike : List (Option Marker) → List (Option Printer) → Type 0
AreAlike [] [] = Unit {0}
AreAlike (m ∷ ms) (p ∷ ps) = IsAlike m p × AreAlike ms ps
AreAlike _ _ = ⊥

-- what comes behind a step, with the parts that are left
abbrev More : Type 0
More = Before → List (Option Marker) → List Mark

-- the same of a layout
abbrev MoreChunks : Type 0
MoreChunks = Before → List (Option Printer) → List Chunk

-- the first has the chunks that are the second
abbrev GoesOnAlike : More → MoreChunks → Type 0
GoesOnAlike more chunked = (b : Before) (qs : List (Option Marker)) (ps : List (Option Printer)) → AreAlike qs ps → chunks (more b qs) ≡ chunked b ps

part_alike : (before : Before) (s : Step) (qs : List (Option Marker)) (ps : List (Option Printer)) (more : More) (chunked : MoreChunks) → AreAlike qs ps → GoesOnAlike more chunked
    → chunks (part_on before s qs more) ≡ layout.part_on before s ps chunked
part_alike before s [] [] more chunked h k = k before [] [] tt
part_alike before s [] (p ∷ ps) more chunked h k = absurd h
part_alike before s (q ∷ qs) [] more chunked h k = absurd h
part_alike before s (None ∷ qs) (None ∷ ps) more chunked h k = k before qs ps h.1
part_alike before s (None ∷ qs) (Some p ∷ ps) more chunked h k = absurd h.0
part_alike before s (Some q ∷ qs) (None ∷ ps) more chunked h k = absurd h.0
part_alike before s (Some q ∷ qs) (Some p ∷ ps) more chunked h k = ap (λ z. layout.white (gap_of_part before) ∷ z) (h.0 s (more a_part qs) ∙ ap (p s) (k a_part qs ps h.1))

step_alike : (w : Option (List ℕ × List ℕ)) (before : Before) (s : Step) (qs : List (Option Marker)) (ps : List (Option Printer)) (more : More) (chunked : MoreChunks) → AreAlike qs ps
    → GoesOnAlike more chunked → chunks (step_on w before s qs more) ≡ layout.step_on w before s ps chunked
step_alike (Some w) before s qs ps more chunked h k = ap (λ z. layout.white (gap_of_word before) ∷ layout.word w.0 w.1 ∷ z) (k a_word qs ps h)
step_alike None before s qs ps more chunked h k = part_alike before s qs ps more chunked h k

format_alike : (before : Before) (ss : Steps) (qs : List (Option Marker)) (ps : List (Option Printer)) (rest : List Mark) → AreAlike qs ps
    → chunks (format_on before ss qs rest) ≡ layout.format_on before ss ps (chunks rest)
format_alike before no_steps qs ps rest h = refl
format_alike before (step.step s ss) qs ps rest h =
    step_alike (word_of s) before s qs ps (λ b q. format_on b ss q rest) (λ b p. layout.format_on b ss p (chunks rest)) h (λ b q p g. format_alike b ss q p rest g)

some_format_alike : (o : Option Steps) (qs : List (Option Marker)) (ps : List (Option Printer)) (rest : List Mark) → AreAlike qs ps
    → chunks (some_format_on o qs rest) ≡ layout.some_format_on o ps (chunks rest)
some_format_alike None qs ps rest h = refl
some_format_alike (Some ss) qs ps rest h = format_alike a_word ss qs ps rest h

kind_alike : (found : Option Kind) (begins ends : Action) (qs : List (Option Marker)) (ps : List (Option Printer)) (rest : List Mark) → AreAlike qs ps
    → chunks (kind_on found begins ends qs rest) ≡ layout.kind_on found ps (chunks rest)
kind_alike None begins ends qs ps rest h = refl
kind_alike (Some k) begins ends qs ps rest h = ap (λ z. layout.token k.id ∷ z) (format_alike an_id k.format qs ps (did ends ∷ rest) h)

leaf_alike : (s : Step) (x : Leaf) (rest : List Mark) → chunks (leaf_on s x rest) ≡ layout.leaf_on s (layout.leaf_chunk x) (chunks rest)
leaf_alike step.symbol_name x rest = refl
leaf_alike _ x rest = refl

separator_alike : (s : Step) (ms : List Mark) → chunks (separator_of s ∷ ms) ≡ layout.separator_of s ∷ chunks ms
separator_alike (step.list_of member printed text) ms = refl
separator_alike _ ms = refl

some_alike : (q : Option Marker) (p : Option Printer) (s : Step) (ms : List Mark) → IsAlike q p → chunks (some_on q s ms) ≡ layout.some_on p s (chunks ms)
some_alike None None s ms h = refl
some_alike None (Some p) s ms h = absurd h
some_alike (Some q) None s ms h = absurd h
some_alike (Some q) (Some p) s ms h = h s ms

more_members_alike : (s : Step) (qs : List (Option Marker)) (ps : List (Option Printer)) (rest : List Mark) → AreAlike qs ps
    → chunks (more_members_on s qs rest) ≡ layout.more_members_on s ps (chunks rest)
more_members_alike s [] [] rest h = refl
more_members_alike s [] (p ∷ ps) rest h = absurd h
more_members_alike s (q ∷ qs) [] rest h = absurd h
more_members_alike s (q ∷ qs) (p ∷ ps) rest h =
    separator_alike s _ ∙ ap (λ z. layout.separator_of s ∷ z) (some_alike q p s _ h.0 ∙ ap (layout.some_on p s) (more_members_alike s qs ps rest h.1))

members_alike : (s : Step) (qs : List (Option Marker)) (ps : List (Option Printer)) (rest : List Mark) → AreAlike qs ps → chunks (members_on s qs rest) ≡ layout.members_on s ps (chunks rest)
members_alike s [] [] rest h = refl
members_alike s [] (p ∷ ps) rest h = absurd h
members_alike s (q ∷ qs) [] rest h = absurd h
members_alike s (q ∷ qs) (p ∷ ps) rest h = some_alike q p s _ h.0 ∙ ap (layout.some_on p s) (more_members_alike s qs ps rest h.1)

more_names_alike : (a : Action) (xs : List (List ℕ)) (rest : List Mark) → chunks (more_names_on a xs rest) ≡ layout.more_names_on xs (chunks rest)
more_names_alike a [] rest = refl
more_names_alike a (x ∷ xs) rest = ap (λ z. layout.comma ∷ layout.token x ∷ z) (more_names_alike a xs rest)

names_alike : (a : Action) (xs : List (List ℕ)) (rest : List Mark) → chunks (names_on a xs rest) ≡ layout.names_on xs (chunks rest)
names_alike a [] rest = refl
names_alike a (x ∷ xs) rest = ap (λ z. layout.token x ∷ z) (more_names_alike a xs rest)

results_alike : (rs : List (List ℕ × ValueTree)) (rest : List Mark) → chunks (results_on rs rest) ≡ layout.results_on rs (chunks rest)
results_alike [] rest = refl
results_alike (r ∷ rs) rest = names_alike act.Result (map (λ (x : List ℕ × ValueTree). x.0) (r ∷ rs)) _

operands_alike : (xs : List (List ℕ)) → IsAlike (operands_on xs) (layout.operands_on xs)
operands_alike [] = tt
operands_alike (x ∷ xs) = λ s ms. names_alike act.Operand (x ∷ xs) (did act.EndOperands ∷ ms)

-- regions with what reading them does have their chunks
abbrev RegionsAlike : List (List Mark → List Mark) → List (List Chunk → List Chunk) → Type 0
RegionsAlike [] [] = Unit {0}
RegionsAlike (r ∷ rs) (q ∷ qs) = ((ms : List Mark) → chunks (r ms) ≡ q (chunks ms)) × RegionsAlike rs qs
RegionsAlike _ _ = ⊥

first_alike : (rs : List (List Mark → List Mark)) (qs : List (List Chunk → List Chunk)) → RegionsAlike rs qs → IsAlike (Some (first_region_on rs)) (Some (layout.first_region_on qs))
first_alike [] [] h = λ s ms. refl
first_alike [] (q ∷ qs) h = absurd h
first_alike (r ∷ rs) [] h = absurd h
first_alike (r ∷ rs) (q ∷ qs) h = λ s ms. h.0 ms

drop_alike : (n : ℕ) (rs : List (List Mark → List Mark)) (qs : List (List Chunk → List Chunk)) → RegionsAlike rs qs → RegionsAlike (drop n rs) (drop n qs)
drop_alike zero rs qs h = h
drop_alike (suc n) [] [] h = tt
drop_alike (suc n) [] (q ∷ qs) h = absurd h
drop_alike (suc n) (r ∷ rs) [] h = absurd h
drop_alike (suc n) (r ∷ rs) (q ∷ qs) h = drop_alike n rs qs h.1

edge_alike : (ls us : List (List ℕ)) → IsAlike (Some (edge_on ls us)) (Some (layout.edge_on ls us))
edge_alike [] us = λ s ms. refl
edge_alike (l ∷ ls) us = λ s ms. ap (λ z. layout.token (codes "^") ∷ layout.token l ∷ layout.token (codes "(") ∷ z)
    (names_alike act.Operand us (token (codes ")") ∷ did act.EndSuccessor ∷ ms))

module _ (f : Formats) where
  mutual
    piece_alike : (t : ValueTree) (s : Step) (rest : List Mark) → chunks (piece_on f t s rest) ≡ layout.piece_on f t s (chunks rest)
    piece_alike (node (value_of_kind sort n) ts) s rest = kind_alike (slice_get (kinds_of f sort) n) (act.Begin sort n) (act.End sort) _ _ rest (parts_alike ts)
    piece_alike (node list ts) s rest = members_alike s (parts_on f ts) (layout.parts_on f ts) (did act.EndList ∷ rest) (parts_alike ts)
    piece_alike (node item ts) s rest = format_alike a_word (member_of s) (parts_on f ts) (layout.parts_on f ts) (did act.EndItem ∷ rest) (parts_alike ts)
    piece_alike (node (chosen n) ts) s rest = some_format_alike (alternative_of s n) (parts_on f ts) (layout.parts_on f ts) (did act.EndChoice ∷ rest) (parts_alike ts)
    piece_alike (node (operands n) ts) s rest = refl
    piece_alike (node (successor n) ts) s rest = refl
    piece_alike (node region ts) s rest = refl
    piece_alike (node (leaf x) ts) s rest = leaf_alike s x rest

    parts_alike : (ts : Pieces) → AreAlike (parts_on f ts) (layout.parts_on f ts)
    parts_alike no_tree = tt
    parts_alike (a_tree t ts) = ((λ s ms. piece_alike t s ms), parts_alike ts)

  all_parts_alike : (ts : Pieces) (us ls : List (List ℕ)) (rs : List (List Mark → List Mark)) (qs : List (List Chunk → List Chunk)) → RegionsAlike rs qs
      → AreAlike (all_parts_on f ts us ls rs) (layout.all_parts_on f ts us ls qs)
  all_parts_alike no_tree us ls rs qs h = tt
  all_parts_alike (a_tree (node (operands n) x) ts) us ls rs qs h = (operands_alike (take n us), all_parts_alike ts (drop n us) ls rs qs h)
  all_parts_alike (a_tree (node (successor n) x) ts) us ls rs qs h = (edge_alike ls (take n us), all_parts_alike ts (drop n us) (drop 1 ls) rs qs h)
  all_parts_alike (a_tree (node region x) ts) us ls rs qs h = (first_alike rs qs h, all_parts_alike ts us ls (drop 1 rs) (drop 1 qs) (drop_alike 1 rs qs h))
  all_parts_alike (a_tree (node p x) ts) us ls rs qs h = ((λ s ms. piece_alike (node p x) s ms), all_parts_alike ts us ls rs qs h)

  operation_head_alike : (h : EntityHead (List ℕ)) (rs : List (List Mark → List Mark)) (qs : List (List Chunk → List Chunk)) (rest : List Mark) → RegionsAlike rs qs
      → chunks (operation_head_on f h rs rest) ≡ layout.operation_head_on f h qs (chunks rest)
  operation_head_alike (operation kind results used successors pieces) rs qs rest h =
      results_alike results _ ∙ ap (layout.results_on results) (kind_alike (slice_get f.operations kind) (act.Operation kind) act.EndOperation _ _ rest (all_parts_alike pieces used successors rs qs h))
  operation_head_alike a_region rs qs rest h = refl
  operation_head_alike (block named label arguments) rs qs rest h = refl

  argument_alike : (x : List ℕ × ValueTree) (rest : List Mark) → chunks (argument_on f x rest) ≡ layout.argument_on f x (chunks rest)
  argument_alike x rest = ap (λ z. layout.token x.0 ∷ layout.word (codes ": ") (codes ":") ∷ z) (piece_alike x.1 (step.a_value sorts.«Type») rest)

  more_arguments_alike : (xs : List (List ℕ × ValueTree)) (rest : List Mark) → chunks (more_arguments_on f xs rest) ≡ layout.more_arguments_on f xs (chunks rest)
  more_arguments_alike [] rest = refl
  more_arguments_alike (x ∷ xs) rest = ap (λ z. layout.comma ∷ z) (argument_alike x _ ∙ ap (layout.argument_on f x) (more_arguments_alike xs rest))

  arguments_alike : (xs : List (List ℕ × ValueTree)) (rest : List Mark) → chunks (arguments_on f xs rest) ≡ layout.arguments_on f xs (chunks rest)
  arguments_alike [] rest = refl
  arguments_alike (x ∷ xs) rest = argument_alike x _ ∙ ap (layout.argument_on f x) (more_arguments_alike xs rest)

  block_head_alike : (h : EntityHead (List ℕ)) (inner : List Mark → List Mark) (printed : List Chunk → List Chunk) (rest : List Mark) → ((ms : List Mark) → chunks (inner ms) ≡ printed (chunks ms))
      → chunks (block_head_on f h inner rest) ≡ layout.block_head_on f h (printed (chunks rest))
  block_head_alike (operation kind results used successors pieces) inner printed rest k = k rest
  block_head_alike a_region inner printed rest k = k rest
  block_head_alike (block named label arguments) inner printed rest k =
      ap (λ z. layout.token (codes "^") ∷ layout.token label ∷ layout.token (codes "(") ∷ z)
      (arguments_alike arguments _ ∙ ap (λ z. layout.arguments_on f arguments (layout.token (codes ")") ∷ layout.token (codes ":") ∷ z)) (k (did act.EndBlock ∷ rest)))

  mutual
    operation_alike : (t : Entity (List ℕ)) (n : ℕ) (rest : List Mark) → chunks (operation_on f n t rest) ≡ layout.operation_on f n t (chunks rest)
    operation_alike (entity h ts) n rest = operation_head_alike h (regions_on f n ts) (layout.regions_on f n ts) rest (regions_alike ts n)

    regions_alike : (ts : Entities (List ℕ)) (n : ℕ) → RegionsAlike (regions_on f n ts) (layout.regions_on f n ts)
    regions_alike no_entity n = tt
    regions_alike (an_entity t ts) n = ((λ ms. region_alike t n ms), regions_alike ts n)

    region_alike : (t : Entity (List ℕ)) (n : ℕ) (rest : List Mark) → chunks (region_on f n t rest) ≡ layout.region_on f n t (chunks rest)
    region_alike (entity h ts) n rest = ap (λ z. layout.white (line n) ∷ layout.token (codes "{") ∷ z) (blocks_alike ts (n + 2) _)

    blocks_alike : (ts : Entities (List ℕ)) (n : ℕ) (rest : List Mark) → chunks (blocks_on f n ts rest) ≡ layout.blocks_on f n ts (chunks rest)
    blocks_alike no_entity n rest = refl
    blocks_alike (an_entity t ts) n rest = ap (λ z. layout.white (line n) ∷ z) (block_alike t n _ ∙ ap (layout.block_on f n t) (blocks_alike ts n rest))

    block_alike : (t : Entity (List ℕ)) (n : ℕ) (rest : List Mark) → chunks (block_on f n t rest) ≡ layout.block_on f n t (chunks rest)
    block_alike (entity h ts) n rest = block_head_alike h (operations_on f (n + 2) ts) (layout.operations_on f (n + 2) ts) rest (λ ms. operations_alike ts (n + 2) ms)

    operations_alike : (ts : Entities (List ℕ)) (n : ℕ) (rest : List Mark) → chunks (operations_on f n ts rest) ≡ layout.operations_on f n ts (chunks rest)
    operations_alike no_entity n rest = refl
    operations_alike (an_entity t ts) n rest = ap (λ z. layout.white (line n) ∷ z) (operation_alike t n _ ∙ ap (layout.operation_on f n t) (more_operations_alike ts n rest))

    more_operations_alike : (ts : Entities (List ℕ)) (n : ℕ) (rest : List Mark) → chunks (more_operations_on f n ts rest) ≡ layout.more_operations_on f n ts (chunks rest)
    more_operations_alike no_entity n rest = refl
    more_operations_alike (an_entity t ts) n rest =
        ap (λ z. layout.token (codes ";") ∷ layout.white (line n) ∷ z) (operation_alike t n _ ∙ ap (layout.operation_on f n t) (more_operations_alike ts n rest))

-- The chunks among the marks of a layout are the layout's.
pub layout_chunks : (f : Formats) (t : Entity (List ℕ)) → chunks (marks f t) ≡ layout.operation_on f 0 t []
layout_chunks f t = operation_alike f t 0 []
