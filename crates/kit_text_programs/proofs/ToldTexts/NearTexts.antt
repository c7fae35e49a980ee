-- Texts of trees that say the same are the same but for labels and for the numbers of values.
use Rattle.std.proofs.Common.{◌≡◌, ℕ, suc, List, [], ◌∷◌, ◌++◌, length, map, refl, sym, ap, ◌∙◌}
use Rattle.ir_base.specs.declared.types.TypeHandle.{TypeHandle}
use Rattle.ir_forest.specs.Bare.{AreBareTrees}
use Rattle.ir_print.specs.Pieces.{ValueTree, Entities}
use Rattle.ir_print.specs.Pieces as written
use Rattle.kit.specs.Context.{KitContext}
use Rattle.text_rereading.specs.Rereading.{Numbering}
use Rattle.ir_trees.specs.Renames.{no_names, forget, rename}
use Rattle.ir_trees.specs.Trees.{Head, Label, Sort, Operations, Blocks, Regions, Tree, end, operation, block, region}
use Rattle.opt_meanings.specs.Meanings.{mean}
use Rattle.opt_trees.proofs.NoneDead.{has-left, has-right}
use Rattle.kit_text_programs.proofs.SaidFunctions.{KitPart}
use Rattle.kit_text_programs.specs.SameLaws.{types_of_head, types_in_texts}
use Rattle.kit_text_programs.specs.Meanings.{sayings, meanings}
use Rattle.kit_text_programs.proofs.ToldTexts.Near.{AreAllNear}
use Rattle.kit_text_programs.proofs.ToldTexts.NearHeads.{Each, AreApart, definitions_near, heads_near}
use Rattle.kit_text_programs.proofs.ToldTexts.SaidParts.{AreSaid, no_operations, no_blocks, no_regions, an_operation}
use Rattle.kit_text_programs.proofs.ToldTexts.SaidParts.{a_block}
use Rattle.kit_text_programs.proofs.ToldTexts.SaidParts.{some_blocks}

-- what is said in a tree without names
abbrev pub Shape : Sort → Type 0
Shape k = Tree no_names sayings k

-- what is said of an operation
abbrev pub ShapeHead : Type 0
ShapeHead = Head no_names sayings

-- what is said of a block
abbrev pub ShapeLabel : Type 0
ShapeLabel = Label no_names sayings

-- ---- shapes

-- a list of operations that ends is not one that goes on
no_operation : (h : ShapeHead) (rs : Shape Regions) (rest : Shape Operations)
    → ◌≡◌ {A = Shape Operations} end (operation h rs rest) → ⊥
no_operation h rs rest e = cc

-- nor is a list of blocks
no_block : (l : ShapeLabel) (os : Shape Operations) (rest : Shape Blocks)
    → ◌≡◌ {A = Shape Blocks} end (block l os rest) → ⊥
no_block l os rest e = cc

-- nor is a list of regions
no_region : (bs : Shape Blocks) (rest : Shape Regions) → ◌≡◌ {A = Shape Regions} end (region bs rest) → ⊥
no_region bs rest e = cc

-- the parts of operations of one shape
operations_one : (h g : ShapeHead) (rs qs : Shape Regions) (rest more : Shape Operations)
    → operation h rs rest ≡ operation g qs more → (h ≡ g) × (rs ≡ qs) × (rest ≡ more)
operations_one h g rs qs rest more e =
    let heads : h ≡ g = cc in let inside : rs ≡ qs = cc in let after : rest ≡ more = cc in (heads, inside, after)

-- the parts of blocks of one shape
blocks_one : (l k : ShapeLabel) (os ms : Shape Operations) (rest more : Shape Blocks)
    → block l os rest ≡ block k ms more → (l ≡ k) × (os ≡ ms) × (rest ≡ more)
blocks_one l k os ms rest more e =
    let labels : l ≡ k = cc in let inside : os ≡ ms = cc in let after : rest ≡ more = cc in (labels, inside, after)

-- the parts of regions of one shape
regions_one : (bs cs : Shape Blocks) (rest more : Shape Regions) → region bs rest ≡ region cs more
    → (bs ≡ cs) × (rest ≡ more)
regions_one bs cs rest more e = let inside : bs ≡ cs = cc in let after : rest ≡ more = cc in (inside, after)

-- a list that is mapped is as long
long_map : {X Y : Type 0} (f : X → Y) (xs : List X) → length (map f xs) ≡ length xs
long_map f [] = refl
long_map f (x ∷ xs) = ap suc (long_map f xs)

-- lists without their names are as long
pub units_long : {X : Type 0} (vs us : List X) → map {A = X} {B = Unit {0}} (λ _. tt) vs ≡ map {A = X} {B = Unit {0}} (λ _. tt) us
    → length vs ≡ length us
units_long {X} vs us e =
    sym (long_map {X = X} {Y = Unit {0}} (λ _. tt) vs)
    ∙ (ap length e ∙ long_map {X = X} {Y = Unit {0}} (λ _. tt) us)

-- what is said in a part, without names
abbrev pub shape_in : {k : Sort} → (TypeHandle → ℕ) → KitPart k → Shape k
shape_in code x = rename forget (mean (meanings code) x)

-- ---- types

-- each of the first list is such
front : (P : ValueTree → Type 0) (xs ys : List ValueTree) → Each P (xs ++ ys) → Each P xs
front P xs ys a r is = a r (has-left r xs ys is)

-- each of the second list is such
back : (P : ValueTree → Type 0) (xs ys : List ValueTree) → Each P (xs ++ ys) → Each P ys
back P xs ys a r is = a r (has-right r xs ys is)

-- ---- trees

module _ (s z : KitContext) (numbering others : Numbering) (code other : TypeHandle → ℕ) (A B : ValueTree → Type 0)
    (apart : AreApart s.types.keys z.types.keys code other A B) where
  -- texts of parts of one shape are the same but for labels and numbers
  pub texts_near : (k : Sort) (x y : KitPart k) (ts us : Entities ℕ) → AreSaid s numbering k x ts → AreSaid z others k y us
      → shape_in code x ≡ shape_in other y → Each A (types_in_texts ts) → Each B (types_in_texts us)
      → AreBareTrees ts → AreBareTrees us → AreAllNear ts us
  texts_near k x y ts us no_operations no_operations e a b bare too = tt
  texts_near k x y ts us no_operations (an_operation p v rs rest kind results used successors pieces vs ws head inside after) e a b
      bare too =
      absurd (no_operation _ _ _ e)
  texts_near k x y ts us (an_operation p v rs rest kind results used successors pieces vs ws head inside after) no_operations e a b
      bare too =
      absurd (no_operation _ _ _ (sym e))
  texts_near k x y ts us (an_operation p v rs rest kind results used successors pieces vs ws head inside after)
      (an_operation q u qs more kind_there again taken going said ms os top within behind) e a b bare too =
      let parts = operations_one _ _ (shape_in code rs) (shape_in other qs) (shape_in code rest) (shape_in other more)
      e in
      let firsts = types_of_head (written.operation kind results used successors pieces) in
      let bs = types_of_head (written.operation kind_there again taken going said) in
      let here = front A (firsts ++ types_in_texts vs) (types_in_texts ws) a in
      let there = front B (bs ++ types_in_texts ms) (types_in_texts os) b in (
        (
          heads_near s.types.keys z.types.keys code other A B apart numbering others v u kind kind_there results again used
              taken successors going pieces said head top (ap (λ (h : ShapeHead). h.content) parts.0)
              (ap (λ (h : ShapeHead). h.results) parts.0)
              (units_long v.operands u.operands (ap (λ (h : ShapeHead). h.operands) parts.0))
              (units_long v.successors u.successors (ap (λ (h : ShapeHead). h.successors) parts.0))
              (front A firsts (types_in_texts vs) here) (front B bs (types_in_texts ms) there) bare.0.0 too.0.0,
          texts_near Regions rs qs vs ms inside within parts.1 (back A firsts (types_in_texts vs) here)
              (back B bs (types_in_texts ms) there) bare.0.1 too.0.1,
        ),
        texts_near Operations rest more ws os after behind parts.2
            (back A (firsts ++ types_in_texts vs) (types_in_texts ws) a)
            (back B (bs ++ types_in_texts ms) (types_in_texts os) b) bare.1 too.1,
      )
  texts_near k x y ts us no_blocks no_blocks e a b bare too = tt
  texts_near k x y ts us no_blocks (a_block p v os rest named label arguments vs ws name defines inside after) e a b bare too =
      absurd (no_block _ _ _ e)
  texts_near k x y ts us (a_block p v os rest named label arguments vs ws name defines inside after) no_blocks e a b bare too =
      absurd (no_block _ _ _ (sym e))
  texts_near k x y ts us (a_block p v os rest named label arguments vs ws name defines inside after)
      (a_block q u qs more named_there label_there again ms ns name_there has within behind) e a b bare too =
      let parts = blocks_one _ _ (shape_in code os) (shape_in other qs) (shape_in code rest) (shape_in other more) e in
      let firsts = map (λ (r : ℕ × ValueTree). r.1) arguments in
      let bs = map (λ (r : ℕ × ValueTree). r.1) again in
      let here = front A (firsts ++ types_in_texts vs) (types_in_texts ws) a in
      let there = front B (bs ++ types_in_texts ms) (types_in_texts ns) b in (
        (
          definitions_near s.types.keys z.types.keys code other A B apart numbering others v.arguments u.arguments
              arguments again defines has (ap (λ (l : ShapeLabel). l.arguments) parts.0)
              (front A firsts (types_in_texts vs) here) (front B bs (types_in_texts ms) there),
          texts_near Operations os qs vs ms inside within parts.1 (back A firsts (types_in_texts vs) here)
              (back B bs (types_in_texts ms) there) bare.0.1 too.0.1,
        ),
        texts_near Blocks rest more ws ns after behind parts.2
            (back A (firsts ++ types_in_texts vs) (types_in_texts ws) a)
            (back B (bs ++ types_in_texts ms) (types_in_texts ns) b) bare.1 too.1,
      )
  texts_near k x y ts us no_regions no_regions e a b bare too = tt
  texts_near k x y ts us no_regions (some_blocks bs rest vs ws inside after) e a b bare too =
      absurd (no_region _ _ e)
  texts_near k x y ts us (some_blocks bs rest vs ws inside after) no_regions e a b bare too =
      absurd (no_region _ _ (sym e))
  texts_near k x y ts us (some_blocks bs rest vs ws inside after) (some_blocks cs more ms ns within behind) e a b bare
      too =
      let parts = regions_one (shape_in code bs) (shape_in other cs) (shape_in code rest) (shape_in other more) e in (
        (
          tt,
          texts_near Blocks bs cs vs ms inside within parts.0 (front A (types_in_texts vs) (types_in_texts ws) a)
              (front B (types_in_texts ms) (types_in_texts ns) b) bare.0.1 too.0.1,
        ),
        texts_near Regions rest more ws ns after behind parts.1 (back A (types_in_texts vs) (types_in_texts ws) a)
            (back B (types_in_texts ms) (types_in_texts ns) b) bare.1 too.1,
      )
