-- A layout derives from the formats' grammar.
use Rattle.std.proofs.Common.{◌≡◌, ℕ, zero, suc, ◌+◌, List, [], ◌∷◌, Some, true, codes, map, length, take, drop, slice_get, refl, sym, subst, ap, ◌∙◌, ◌≤◌, inl, arith, length-take-le, length-drop}
use Rattle.ir_names.specs.Text.{is_identifier}
use Rattle.ir_names.specs.Tree.{node, no_tree, a_tree}
use Rattle.ir_print.specs.Formats as step
use Rattle.ir_print.specs.Formats.{Formats, Kind, Step}
use Rattle.ir_print.specs.Pieces.{operands, successor, region, ValueTree, Pieces, Values, operation, a_region, block, Entity, entity, Entities, no_entity, an_entity}
use Rattle.ir_print.specs.Shapes.{parts_in, TakesOperands, Fits, FitAll, FitArguments}
use Rattle.ir_print.specs.Shown.{operands_said, successors_said}
use Rattle.ir_grammar.specs.declared.grammar.Action.TheVariants as act
use Rattle.ir_grammar.specs.declared.grammar.Symbol.{Symbol}
use Rattle.ir_grammar.specs.declared.grammar.Symbol.TheVariants.{Sign, Part, Act}
use Rattle.ir_grammar.specs.declared.grammar.Grammar.{Grammar}
use Rattle.ir_formats.specs.declared.rules.Sort.TheVariants as sort
use Rattle.ir_grammar.specs.Grammar.{Derives, Finished}
use Rattle.ir_formats.specs.Rules.{IsGrammarOf, up, sign, several, words_of, rules_of, frame_words}
use Rattle.ir_formats.specs.Rules as rules
use Rattle.ir_forest.specs.Closed.{names_of, regions_said, number_in, IsOperation, AreRegions, IsRegion, AreBlocks, IsBlock, AreOperations, FitsTree, FitTrees}
use Rattle.ir_rereading.specs.Printable.{is_printable}
use Rattle.ir_rereading.specs.Outer.{is_plain_step, has_outer_operands}
use Rattle.ir_rereading.proofs.layouts.Marks.{Mark, token, word, tokens, events, marks, kind_by, more_names_on, names_on, results_on, operands_on, first_region_on, edge_on, all_parts_on, argument_on, more_arguments_on, arguments_on, operation_on, regions_on, region_on, blocks_on, block_on, operations_on, more_operations_on, AreIdentifiers, IsSpelt, AreSpelt}
use Rattle.ir_rereading.proofs.layouts.Among.{among_at, frame_among}
use Rattle.ir_rereading.proofs.layouts.PlainWords.{Tested, tested}
use Rattle.ir_rereading.proofs.layouts.PlainKinds.{name_accepted}
use Rattle.ir_rereading.proofs.layouts.FormatRules.{operation_rule, region_rule, block_rule, argument_rule}
use Rattle.ir_rereading.proofs.layouts.MarkSteps.{DerivesMarks, shift, blank, acted, expand, Placed, IsReadAt, AreReadAt, took, took_word, kind_reads}
use Rattle.ir_print.specs.declared.format.ValueSort.TheVariants as sorts
use Rattle.ir_rereading.proofs.layouts.ValuesDerive.{AllPass, Outer, outer, IsInner, HasSeveral, several_none, several_first, several_last, several_more, piece_read}

-- ---- names

taken : (n : ℕ) (xs : List (List ℕ)) → AreIdentifiers xs → AreIdentifiers (take n xs)
taken zero xs h = tt
taken (suc n) [] h = tt
taken (suc n) (x ∷ xs) h = (h.0, taken n xs h.1)

dropped : (n : ℕ) (xs : List (List ℕ)) → AreIdentifiers xs → AreIdentifiers (drop n xs)
dropped zero xs h = h
dropped (suc n) [] h = tt
dropped (suc n) (x ∷ xs) h = dropped n xs h.1

-- The marks of a region, before the rest, derive from the part of regions.
pub record ReadsRegion (g : Grammar) (f : Formats) (r : List Mark → List Mark) : Type 0 where
  pub reads : (ss : List Symbol) (ms : List Mark) → DerivesMarks g f ss ms → DerivesMarks g f (Part rules.region ∷ ss) (r ms)

-- each does
abbrev pub ReadRegions : Grammar → Formats → List (List Mark → List Mark) → Type 0
ReadRegions g f [] = Unit {0}
ReadRegions g f (r ∷ rs) = ReadsRegion g f r × ReadRegions g f rs

module _ (g : Grammar) (f : Formats) (known : IsGrammarOf f g) (t : Tested f) (v : Values) (o : Outer f) where
  -- a name
  named : (x : List ℕ) (ss : List Symbol) (ms : List Mark) → is_identifier x ≡ true → DerivesMarks g f ss ms → DerivesMarks g f (Sign 0 ∷ ss) (token x ∷ ms)
  named x ss ms h d = shift (name_accepted g f known.signs t x h) d

  -- a word of the frame
  framed : (w : List ℕ) (ss : List Symbol) (ms : List Mark) (i : ℕ) → slice_get frame_words i ≡ Some w → DerivesMarks g f ss ms → DerivesMarks g f (sign (words_of f) w ∷ ss) (token w ∷ ms)
  framed w ss ms i e d = took g f known t w ss ms (frame_among f w (among_at w frame_words i e)) d

  framed_word : (w : List ℕ) (ss : List Symbol) (printed : List ℕ) (ms : List Mark) (i : ℕ) → slice_get frame_words i ≡ Some w → DerivesMarks g f ss ms → DerivesMarks g f (sign (words_of f) w ∷ ss) (word printed w ∷ ms)
  framed_word w ss printed ms i e d = took_word g f known t w ss printed ms (frame_among f w (among_at w frame_words i e)) d

  -- ---- results

  more_results_read : (xs : List (List ℕ)) (ss : List Symbol) (ms : List Mark) → AreIdentifiers xs → DerivesMarks g f ss ms → DerivesMarks g f (Part rules.more_results ∷ ss) (more_names_on act.Result xs ms)
  more_results_read [] ss ms h d = expand known rules.more_results [] (operation_rule f _ 3 refl) d
  more_results_read (x ∷ xs) ss ms h d =
      expand known rules.more_results (sign (words_of f) (codes ",") ∷ Sign 0 ∷ Act act.Result ∷ Part rules.more_results ∷ []) (operation_rule f _ 4 refl)
      (framed_word (codes ",") _ (codes ", ") _ 0 refl (named x _ _ h.0 (acted (more_results_read xs ss ms h.1 d))))

  results_read : (results : List (List ℕ × ValueTree)) (ss : List Symbol) (ms : List Mark) → AreIdentifiers (names_of results) → DerivesMarks g f (Part rules.body ∷ ss) ms → DerivesMarks g f (Part rules.operation ∷ ss) (results_on results ms)
  results_read [] ss ms h d = expand known rules.operation (Part rules.body ∷ []) (operation_rule f _ 1 refl) d
  results_read (r ∷ rs) ss ms h d =
      expand known rules.operation (Sign 0 ∷ Act act.Result ∷ Part rules.more_results ∷ sign (words_of f) (codes "=") ∷ Part rules.body ∷ []) (operation_rule f _ 2 refl)
      (named r.0 _ _ h.0 (acted (more_results_read (names_of rs) _ _ h.1 (framed_word (codes "=") _ (codes " = ") _ 1 refl d))))

  -- ---- what operations say

  more_operands_read : (xs : List (List ℕ)) (n : ℕ) (ss : List Symbol) (ms : List Mark) → AreIdentifiers xs → HasSeveral f n (codes ",") (Sign 0 ∷ Act act.Operand ∷ []) → DerivesMarks g f ss ms
      → DerivesMarks g f (Part (up n 1) ∷ ss) (more_names_on act.Operand xs ms)
  more_operands_read [] n ss ms h several d = several_last g f known t n (codes ",") (Sign 0 ∷ Act act.Operand ∷ []) ss ms several d
  more_operands_read (x ∷ xs) n ss ms h several d =
      several_more g f known t n (codes ",") (Sign 0 ∷ Act act.Operand ∷ []) ss (codes ", ") _ several (named x _ _ h.0 (acted (more_operands_read xs n ss ms h.1 several d)))

  operands_several : (n : ℕ) → Placed f step.operands n → HasSeveral f n (codes ",") (Sign 0 ∷ Act act.Operand ∷ [])
  operands_several n placed = record { rules = placed.rules; word = placed.words.among (codes ",") (inl refl) }

  -- names of operands, with commas between them
  names_read : (xs : List (List ℕ)) (n : ℕ) (ss : List Symbol) (ms : List Mark) → AreIdentifiers xs → HasSeveral f n (codes ",") (Sign 0 ∷ Act act.Operand ∷ []) → DerivesMarks g f ss ms
      → DerivesMarks g f (Part n ∷ ss) (names_on act.Operand xs ms)
  names_read [] n ss ms h several d = several_none g f known t n (codes ",") (Sign 0 ∷ Act act.Operand ∷ []) ss ms several d
  names_read (x ∷ xs) n ss ms h several d =
      several_first g f known t n (codes ",") (Sign 0 ∷ Act act.Operand ∷ []) ss _ several (named x _ _ h.0 (acted (more_operands_read xs n ss ms h.1 several d)))

  operands_read : (xs : List (List ℕ)) → AreIdentifiers xs → IsReadAt g f step.operands (operands_on xs)
  operands_read [] h = record { reads = λ n ss ms placed d. acted (names_read [] n _ _ h (operands_several n placed) (acted d)) }
  operands_read (x ∷ xs) h = record { reads = λ n ss ms placed d. acted (names_read (x ∷ xs) n _ _ h (operands_several n placed) (acted d)) }

  edge_read : (l : List ℕ) (ls us : List (List ℕ)) → is_identifier l ≡ true → AreIdentifiers us → IsReadAt g f step.successor (Some (edge_on (l ∷ ls) us))
  edge_read l ls us label h = record {
    reads = λ n ss ms placed d.
        let several : HasSeveral f n (codes ",") (Sign 0 ∷ Act act.Operand ∷ []) = record { rules = placed.rules; word = placed.words.among (codes ",") (inl refl) } in
        framed (codes "^") _ _ 5 refl (named l _ _ label (acted (framed (codes "(") _ _ 6 refl (names_read us n _ _ h several (framed (codes ")") _ _ 7 refl (acted d))))));
  }

  operand_read : (xs : List (List ℕ)) → length xs ≡ 1 → AreIdentifiers xs → IsReadAt g f step.operand (operands_on xs)
  operand_read [] e h = absurd cc
  operand_read (x ∷ []) e h = record { reads = λ n ss ms placed d. acted (named x _ _ h.0 (acted (acted d))) }
  operand_read (x ∷ y ∷ xs) e h = absurd cc

  -- the names for a piece, of which there are as many as it takes
  operands_at : (s : Step) (n : ℕ) (us : List (List ℕ)) → TakesOperands s n → n ≤ length us → AreIdentifiers us → IsReadAt g f s (operands_on (take n us))
  operands_at step.operands n us h le spelt = operands_read (take n us) (taken n us spelt)
  operands_at step.operand n us h le spelt = operand_read (take n us) (length-take-le n us le ∙ h) (taken n us spelt)
  operands_at _ n us h le spelt = absurd h

  region_part : (r : List Mark → List Mark) (rs : List (List Mark → List Mark)) → ReadsRegion g f r → IsReadAt g f step.a_region (Some (first_region_on (r ∷ rs)))
  region_part r rs h = record { reads = λ n ss ms placed d. h.reads ss ms d }

  all_parts_read : (ps : Pieces) (fs : List Step) (us ls : List (List ℕ)) (rs : List (List Mark → List Mark)) → FitAll f v fs ps → AllPass is_plain_step fs → AreIdentifiers us → AreIdentifiers ls
      → operands_said ps ≡ length us → successors_said ps ≡ length ls → regions_said ps ≡ length rs → ReadRegions g f rs → AreReadAt g f fs (all_parts_on f ps us ls rs)
  all_parts_read no_tree [] us ls rs h plain spelt labels used edges count read = tt
  all_parts_read no_tree (s ∷ fs) us ls rs h plain spelt labels used edges count read = absurd h
  all_parts_read (a_tree p ps) [] us ls rs h plain spelt labels used edges count read = absurd h
  all_parts_read (a_tree (node (operands n) ts) ps) (s ∷ fs) us ls rs h plain spelt labels used edges count read =
      let long : n + operands_said ps ≡ length us = used in
      let less : operands_said ps ≡ length (drop n us) = omega (arith, long, length-drop n us) in
      (operands_at s n us h.0 (omega (arith, long)) spelt, all_parts_read ps fs (drop n us) ls rs h.1 plain.1 (dropped n us spelt) labels less edges count read)
  all_parts_read (a_tree (node (successor n) ts) ps) (s ∷ fs) us [] rs h plain spelt labels used edges count read = cc
  all_parts_read (a_tree (node (successor n) ts) ps) (s ∷ fs) us (l ∷ ls) rs h plain spelt labels used edges count read =
      let long : n + operands_said ps ≡ length us = used in
      let less : operands_said ps ≡ length (drop n us) = omega (arith, long, length-drop n us) in (
        subst (λ x. IsReadAt g f x (Some (edge_on (l ∷ ls) (take n us)))) (sym h.0) (edge_read l ls (take n us) labels.0 (taken n us spelt)),
        all_parts_read ps fs (drop n us) ls rs h.1 plain.1 (dropped n us spelt) labels.1 less (omega (arith, edges)) count read,
      )
  all_parts_read (a_tree (node region ts) ps) (s ∷ fs) us ls [] h plain spelt labels used edges count read = cc
  all_parts_read (a_tree (node region ts) ps) (s ∷ fs) us ls (r ∷ rs) h plain spelt labels used edges count read = (
    subst (λ x. IsReadAt g f x (Some (first_region_on (r ∷ rs)))) (sym h.0) (region_part r rs read.0),
    all_parts_read ps fs us ls rs h.1 plain.1 spelt labels used edges (omega (arith, count)) read.1,
  )
  all_parts_read (a_tree p ps) (s ∷ fs) us ls rs h plain spelt labels used edges count read =
      (piece_read g f known t v o p s h.0 plain.0 tt, all_parts_read ps fs us ls rs h.1 plain.1 spelt labels used edges count read)

  -- ---- arguments

  argument_read : (x : List ℕ × ValueTree) (ss : List Symbol) (ms : List Mark) → Fits f v (step.a_value sorts.«Type») x.1 → is_identifier x.0 ≡ true → IsInner x.1 → DerivesMarks g f ss ms → DerivesMarks g f (Part rules.argument ∷ ss) (argument_on f x ms)
  argument_read x ss ms h spelt inner d =
      expand known rules.argument (Sign 0 ∷ Act act.Argument ∷ sign (words_of f) (codes ":") ∷ Part rules.type_part ∷ []) (argument_rule f _ 0 refl)
      (named x.0 _ _ spelt (acted (framed_word (codes ":") _ (codes ": ") _ 8 refl ((piece_read g f known t v o x.1 (step.a_value sorts.«Type») h refl inner).reads 0 ss ms
      (record { rules = record { among = λ r i. absurd i }; words = record { among = λ w i. absurd i } }) d))))

  -- a type is no operand, no edge and no region
  type_inner : (p : ValueTree) → Fits f v (step.a_value sorts.«Type») p → IsInner p
  type_inner (node (operands n) ts) h = absurd h
  type_inner (node (successor n) ts) h = cc
  type_inner (node region ts) h = cc
  type_inner _ h = tt

  more_arguments_read : (xs : List (List ℕ × ValueTree)) (ss : List Symbol) (ms : List Mark) → FitArguments f v xs → AreIdentifiers (names_of xs) → DerivesMarks g f ss ms
      → DerivesMarks g f (Part rules.more_arguments ∷ ss) (more_arguments_on f xs ms)
  more_arguments_read [] ss ms h spelt d = expand known rules.more_arguments [] (argument_rule f _ 3 refl) d
  more_arguments_read (x ∷ xs) ss ms h spelt d =
      expand known rules.more_arguments (sign (words_of f) (codes ",") ∷ Part rules.argument ∷ Part rules.more_arguments ∷ []) (argument_rule f _ 4 refl)
      (framed_word (codes ",") _ (codes ", ") _ 0 refl (argument_read x _ _ h.0 spelt.0 (type_inner x.1 h.0) (more_arguments_read xs ss ms h.1 spelt.1 d)))

  arguments_read : (xs : List (List ℕ × ValueTree)) (ss : List Symbol) (ms : List Mark) → FitArguments f v xs → AreIdentifiers (names_of xs) → DerivesMarks g f ss ms
      → DerivesMarks g f (Part rules.arguments ∷ ss) (arguments_on f xs ms)
  arguments_read [] ss ms h spelt d = expand known rules.arguments [] (argument_rule f _ 1 refl) d
  arguments_read (x ∷ xs) ss ms h spelt d =
      expand known rules.arguments (Part rules.argument ∷ Part rules.more_arguments ∷ []) (argument_rule f _ 2 refl)
      (argument_read x _ _ h.0 spelt.0 (type_inner x.1 h.0) (more_arguments_read xs ss ms h.1 spelt.1 d))

  -- ---- operations, regions and blocks

  many_regions : (n : ℕ) (ts : Entities (List ℕ)) → length (regions_on f n ts) ≡ number_in ts
  many_regions n no_entity = refl
  many_regions n (an_entity t ts) = ap suc (many_regions n ts)

  mutual
    operation_read : (e : Entity (List ℕ)) (n : ℕ) (ss : List Symbol) (ms : List Mark) → IsOperation v e → FitsTree f v e → IsSpelt e → DerivesMarks g f ss ms → DerivesMarks g f (Part rules.operation ∷ ss) (operation_on f n e ms)
    operation_read (entity (operation kind results used successors pieces) ts) n ss ms is fits spelt d =
        let k = fits.0.0 in
        results_read results ss _ spelt.0.0
        (kind_reads g f known t sort.Operation kind (slice_get f.operations kind) k (all_parts_on f pieces used successors (regions_on f n ts)) ss ms fits.0.1 fits.0.1
        (all_parts_read pieces (parts_in k.format) used successors (regions_on f n ts) fits.0.2 (o.operations kind k fits.0.1) spelt.0.1 spelt.0.2 fits.0.4 is.2 (is.1 ∙ sym (many_regions n ts))
        (regions_read ts n is.3 fits.1 spelt.1)) d)
    operation_read (entity a_region ts) n ss ms is fits spelt d = absurd is
    operation_read (entity (block named label arguments) ts) n ss ms is fits spelt d = absurd is

    regions_read : (ts : Entities (List ℕ)) (n : ℕ) → AreRegions v ts → FitTrees f v ts → AreSpelt ts → ReadRegions g f (regions_on f n ts)
    regions_read no_entity n are fit spelt = tt
    regions_read (an_entity e ts) n are fit spelt = (region_read e n are.0 fit.0 spelt.0, regions_read ts n are.1 fit.1 spelt.1)

    region_read : (e : Entity (List ℕ)) (n : ℕ) → IsRegion v e → FitsTree f v e → IsSpelt e → ReadsRegion g f (region_on f n e)
    region_read (entity a_region ts) n is fits spelt = record {
      reads = λ ss ms d. expand known rules.region (sign (words_of f) (codes "{") ∷ Act act.BeginRegion ∷ Part rules.blocks ∷ sign (words_of f) (codes "}") ∷ Act act.EndRegion ∷ []) (region_rule f _ 0 refl)
          (blank (framed (codes "{") _ _ 2 refl (acted (blocks_read ts (n + 2) _ _ is fits.1 spelt.1 (blank (framed (codes "}") _ _ 3 refl (acted d)))))));
    }
    region_read (entity (operation kind results used successors pieces) ts) n is fits spelt = absurd is
    region_read (entity (block named label arguments) ts) n is fits spelt = absurd is

    blocks_read : (ts : Entities (List ℕ)) (n : ℕ) (ss : List Symbol) (ms : List Mark) → AreBlocks v ts → FitTrees f v ts → AreSpelt ts → DerivesMarks g f ss ms → DerivesMarks g f (Part rules.blocks ∷ ss) (blocks_on f n ts ms)
    blocks_read no_entity n ss ms are fit spelt d = expand known rules.blocks [] (region_rule f _ 1 refl) d
    blocks_read (an_entity e ts) n ss ms are fit spelt d =
        expand known rules.blocks (Part rules.block ∷ Part rules.blocks ∷ []) (region_rule f _ 2 refl)
        (blank (block_read e n _ _ are.0 fit.0 spelt.0 (blocks_read ts n ss ms are.1 fit.1 spelt.1 d)))

    block_read : (e : Entity (List ℕ)) (n : ℕ) (ss : List Symbol) (ms : List Mark) → IsBlock v e → FitsTree f v e → IsSpelt e → DerivesMarks g f ss ms → DerivesMarks g f (Part rules.block ∷ ss) (block_on f n e ms)
    block_read (entity (block own label arguments) ts) n ss ms is fits spelt d =
        expand known rules.block
        (sign (words_of f) (codes "^") ∷ Sign 0 ∷ Act act.Label ∷ sign (words_of f) (codes "(") ∷ Part rules.arguments ∷ sign (words_of f) (codes ")") ∷ sign (words_of f) (codes ":") ∷ Act act.Header ∷ Part rules.operations
        ∷ Act act.EndBlock ∷ [])
        (block_rule f _ 0 refl)
        (framed (codes "^") _ _ 5 refl (named label _ _ spelt.0.1 (acted (framed (codes "(") _ _ 6 refl
        (arguments_read arguments _ _ fits.0 spelt.0.2 (framed (codes ")") _ _ 7 refl (framed (codes ":") _ _ 8 refl
        (acted (operations_read ts (n + 2) _ _ is fits.1 spelt.1 (acted d))))))))))
    block_read (entity (operation kind results used successors pieces) ts) n ss ms is fits spelt d = absurd is
    block_read (entity a_region ts) n ss ms is fits spelt d = absurd is

    operations_read : (ts : Entities (List ℕ)) (n : ℕ) (ss : List Symbol) (ms : List Mark) → AreOperations v ts → FitTrees f v ts → AreSpelt ts → DerivesMarks g f ss ms
        → DerivesMarks g f (Part rules.operations ∷ ss) (operations_on f n ts ms)
    operations_read no_entity n ss ms are fit spelt d = expand known rules.operations [] (region_rule f _ 3 refl) d
    operations_read (an_entity e ts) n ss ms are fit spelt d =
        expand known rules.operations (Part rules.operation ∷ Part rules.more_operations ∷ []) (region_rule f _ 4 refl)
        (blank (operation_read e n _ _ are.0 fit.0 spelt.0 (more_operations_read ts n ss ms are.1 fit.1 spelt.1 d)))

    more_operations_read : (ts : Entities (List ℕ)) (n : ℕ) (ss : List Symbol) (ms : List Mark) → AreOperations v ts → FitTrees f v ts → AreSpelt ts → DerivesMarks g f ss ms
        → DerivesMarks g f (Part rules.more_operations ∷ ss) (more_operations_on f n ts ms)
    more_operations_read no_entity n ss ms are fit spelt d = expand known rules.more_operations [] (region_rule f _ 5 refl) d
    more_operations_read (an_entity e ts) n ss ms are fit spelt d =
        expand known rules.more_operations (sign (words_of f) (codes ";") ∷ Part rules.operations ∷ []) (region_rule f _ 6 refl)
        (framed (codes ";") _ _ 4 refl
        (expand known rules.operations (Part rules.operation ∷ Part rules.more_operations ∷ []) (region_rule f _ 4 refl)
        (blank (operation_read e n _ _ are.0 fit.0 spelt.0 (more_operations_read ts n ss ms are.1 fit.1 spelt.1 d)))))

-- The layout of a tree whose parts have the shapes of their formats, and whose names are identifiers, derives from the grammar of the
-- formats, where operands, edges and regions are said by operations alone.
pub layout_derives : (f : Formats) (v : Values) (g : Grammar) (t : Entity (List ℕ)) → IsGrammarOf f g → is_printable f ≡ true → has_outer_operands f ≡ true → FitsTree f v t → IsOperation v t → IsSpelt t
    → Derives g (Part 0 ∷ []) (map (kind_by (words_of f)) (tokens (marks f t))) (events (marks f t))
layout_derives f v g t known printable outside fits is spelt =
    (expand known rules.root (Part rules.operation ∷ []) (operation_rule f _ 0 refl)
    (operation_read g f known (tested f printable) v (outer f outside) t 0 [] [] is fits spelt (record { derived = Finished }))).derived
