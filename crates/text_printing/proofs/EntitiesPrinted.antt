-- What printing an operation, a region or a block adds.
use Rattle.std.proofs.Common.{◌≡◌, ℕ, ◌+◌, Bool, true, length, List, ◌∷◌, ◌++◌, sym, ap, ◌∙◌, subst}
use Rattle.std.specs.Prelude.{Option, Some, slice_get, option_map, codes}
use Rattle.std.proofs.lemmas.List.{append_assoc}
use Rattle.ir_base.specs.declared.types.TypeHandle.{TypeHandle}
use Rattle.ir_names.specs.Tree.{Trees}
use Rattle.ir_program.specs.declared.handles.Ptr.{Ptr}
use Rattle.ir_program.specs.declared.handles.Operation.{Operation}
use Rattle.ir_program.specs.declared.handles.Region.{Region}
use Rattle.ir_program.specs.declared.handles.BasicBlock.{BasicBlock}
use Rattle.ir_program.specs.declared.handles.Value.{Value}
use Rattle.ir_program.specs.Program.{TypedValue}
use Rattle.ir_print.specs.declared.format.Part.{Part}
use Rattle.ir_print.specs.Formats.{Formats, Kind, Steps}
use Rattle.ir_print.specs.Layout.{Chunk, white, token, spell, line, an_id, format_on, kind_on, all_parts_on, results_on, regions_on, block_head_on, blocks_on, operations_on, arguments_on}
use Rattle.ir_print.specs.Nested.{is_nested_little}
use Rattle.ir_print.specs.Pieces.{Pieces, Values, operation, a_region, block, entity, Entities}
use Rattle.ir_print.specs.Shapes.{SaysOperations}
use Rattle.ir_print.specs.Shown.{Saying, Said, ShowsAll, ShowsParts, Pairs}
use Rattle.text_dialect.specs.Seen.{SeenOperation, SeenBlock, Seen, types_of}
use Rattle.text_dialect.specs.Printed.{IsValueName, block_name, label_front, printed_names}
use Rattle.text_printing.specs.Added.{HasName, printed_block, AddsResultList, AddsOperationHead, AddsArgumentList, AddsBlockHead, AddsOperation, AddsRegion, AddsBlock, PrintsRegions, PrintsBlocks, PrintsOperations}
use Rattle.text_printing.specs.PartPrinted.{AreLeft, AddsOperationParts}
use Rattle.text_printing.specs.Printing.{AddsText}
use Rattle.text_printing.proofs.Owed.{Owed, wrote}
use Rattle.text_printing.proofs.Read.{IsOperationRead}
use Rattle.text_printing.proofs.Readable.{readable, operation_nested}
use Rattle.text_printing.proofs.RowsOwed.{Each, ShallowBlock, ShallowOperation, blocks_left, each_block, each_operation}

module _ {K A T : Type 0} (says : Saying K A T) (f : Formats) (s : Seen K A T) (n left : ℕ) where
  -- the head of an operation is printed by its results and its id
  pub operation_head_printed : (vs : List TypedValue) (id a b c : List ℕ) → AddsResultList says f s.types vs a b → c ≡ b ++ id →
      AddsOperationHead says f s.types vs id a c
  operation_head_printed vs id a b c print e rs rest h = wrote b c id (spell rest) e ∙ print rs (token id ∷ rest) h

  -- an operation is printed by its head and its parts
  pub operation_printed : {D : Type 0} (v : Values) (op : Ptr Operation) (kind_at : ℕ → Option K) (text : K → Kind) →
      is_nested_little f ≡ true → SaysOperations says f v →
      ((k : ℕ) → slice_get f.operations k ≡ option_map text (kind_at k)) →
      ((kind : K) (entries : List (List ℕ × A)) (count : ℕ) (tys : List TypeHandle) (k : ℕ) (us : Trees (Said A)) →
      says.of_operation kind entries count tys ≡ Some (k, us) → kind_at k ≡ Some kind) →
      (kind : K) (results : List TypedValue) (values : List Value) (its_successors : List (Ptr BasicBlock))
      (its_regions : List (Ptr Region)) → IsOperationRead s op kind results values its_successors its_regions →
      (parts : List (Part D K A T)) (format : Steps) (a b c : List ℕ) →
      AddsOperationHead says f s.types results (text kind).id a b → format ≡ (text kind).format →
      ((types : List T) → (o : SeenOperation K A) → (k : ℕ) → (us : Trees (Said A)) → (ps : Pieces) → s.operation op ≡ Some o →
      says.of_operation o.kind o.attributes (length o.operands) (types_of o.results) ≡ Some (k, us) →
      ShowsAll says types us ps → ShowsParts says types parts ps) →
      AddsOperationParts says s values its_successors its_regions left f n format parts b c → AddsOperation says s f n left op a c
  operation_printed v op kind_at text little law tie kinds kind results values its_successors its_regions read parts format a b c print_head
      g shows print (entity (operation k rs used successors pieces) ts) rest h q =
      let o = h.0 in
      let at : s.operation op ≡ Some o = h.1 in
      let head = h.2 in
      let was = read.read o at in
      let x = law s.types o.kind o.attributes (length o.operands) (types_of o.results) k head.said pieces head.says_it head.shown in
      let ek : Some o.kind ≡ Some kind = ap Some was.kind in
      let et : slice_get f.operations k ≡ Some (text kind) =
      tie k ∙ ap (option_map text) (kinds o.kind o.attributes (length o.operands) (types_of o.results) k head.said head.says_it ∙ ek) in
      let ps = all_parts_on f pieces used successors (regions_on f n ts) in
      let left_over : AreLeft says s values its_successors its_regions left 0 0 0 used successors ts = record {
        operands = subst (λ vs. Pairs IsValueName vs used) was.operands head.mentions;
        successors = subst (λ bs. Pairs (printed_names s).block bs successors) was.successors head.goes_on;
        regions = subst (λ vs. PrintsRegions says s vs ts) was.regions h.3;
        shallow = q.1;
      } in
      subst (λ y. AddsText b c rest (format_on an_id y ps rest)) g
      (print pieces used successors ts rest (shows s.types o k head.said pieces at head.says_it head.shown) q.0
      (readable says s.types 64 x.kind.format head.said pieces (operation_nested f little k x.kind x.at) x.shaped head.shown) left_over)
      ∙ print_head rs (format_on an_id (text kind).format ps rest)
      (subst (λ ds. Pairs (HasName says s.types) ds rs) was.results head.defines)
      ∙ ap (λ k. a ++ spell (results_on rs (kind_on k ps rest))) (sym et)
  operation_printed v op kind_at text little law tie kinds kind results values its_successors its_regions read parts format a b c print_head
      g shows print (entity a_region ts) rest h q = absurd h
  operation_printed v op kind_at text little law tie kinds kind results values its_successors its_regions read parts format a b c print_head
      g shows print (entity (block named label arguments) ts) rest h q = absurd h

  -- there is nothing between two blocks
  pub any_first : (b : Bool) {all left_over : List (Ptr BasicBlock)} {old now : List ℕ} →
      Owed (Each (ShallowBlock says s f n left)) (blocks_left says s f n left) all left_over b old now →
      Owed (Each (ShallowBlock says s f n left)) (blocks_left says s f n left) all left_over true old now
  any_first b o = record {
    owed = λ whole h. record { tree = (o.owed whole h).tree; shown = (o.owed whole h).shown; text = (o.owed whole h).text };
  }

  -- a region is printed by its blocks in braces
  pub region_lines : (r : Ptr Region) (blocks : List (Ptr BasicBlock)) →
      ((bs : List (Ptr BasicBlock)) → s.region r ≡ Some bs → bs ≡ blocks) → (a b c d : List ℕ) → b ≡ a ++ (line n ++ codes "{") →
      ((ts : Entities (List ℕ)) (rest : List Chunk) → Each (ShallowBlock says s f (n + 2) left) blocks ts →
      AddsText b c rest (blocks_on f (n + 2) ts rest)) →
      d ≡ c ++ (line n ++ codes "}") → AddsRegion says s f n left r a d
  region_lines r blocks read a b c d opened print closed a_region ts rest h k =
      let tail = white (line n) ∷ token (codes "}") ∷ rest in
      let shown : PrintsBlocks says s blocks ts = subst (λ bs. PrintsBlocks says s bs ts) (read h.0 h.1) h.2 in
      wrote c d (line n ++ codes "}") (spell rest) closed ∙ ap (λ x. c ++ x) (append_assoc (line n) (codes "}") (spell rest))
      ∙ print ts tail (each_block says s f (n + 2) left blocks ts shown k)
      ∙ wrote a b (line n ++ codes "{") (spell (blocks_on f (n + 2) ts tail)) opened
      ∙ ap (λ x. a ++ x) (append_assoc (line n) (codes "{") (spell (blocks_on f (n + 2) ts tail)))
  region_lines r blocks read a b c d opened print closed (operation kind results used successors pieces) ts rest h k = absurd h
  region_lines r blocks read a b c d opened print closed (block named label arguments) ts rest h k = absurd h

  -- the head of a block is printed by its label and its arguments
  pub block_head_lines : (bl : Ptr BasicBlock) (arguments : List TypedValue) (a b c d e g : List ℕ) → b ≡ a ++ codes "^" →
      ((v : SeenBlock) → s.block bl ≡ Some v → c ≡ b ++ block_name (label_front v.label) bl.key.slot bl.key.version) →
      d ≡ c ++ codes "(" → AddsArgumentList says f s.types left arguments d e → g ≡ e ++ codes "):" →
      AddsBlockHead says s f left bl arguments a g
  block_head_lines bl arguments a b c d e g o1 o2 o3 args o4 v xs rest at h k =
      let own = block_name (label_front v.label) bl.key.slot bl.key.version in
      let more = arguments_on f xs (token (codes ")") ∷ token (codes ":") ∷ rest) in
      wrote e g (codes "):") (spell rest) o4 ∙ args xs (token (codes ")") ∷ token (codes ":") ∷ rest) h k
      ∙ wrote c d (codes "(") (spell more) o3 ∙ wrote b c own (40 ∷ spell more) (o2 v at)
      ∙ wrote a b (codes "^") (own ++ 40 ∷ spell more) o1

  -- a block is printed by its head and its operations
  pub block_lines : (bl : Ptr BasicBlock) (arguments : List TypedValue) (operations : List (Ptr Operation)) →
      ((v : SeenBlock) → s.block bl ≡ Some v → (v.arguments ≡ arguments) × (v.operations ≡ operations)) →
      (a b c : List ℕ) → AddsBlockHead says s f left bl arguments a b →
      ((ts : Entities (List ℕ)) (rest : List Chunk) → Each (ShallowOperation says s f (n + 2) left) operations ts →
      AddsText b c rest (operations_on f (n + 2) ts rest)) →
      AddsBlock says s f n left bl a c
  block_lines bl arguments operations read a b c head ops (entity (block named label xs) ts) rest h k =
      let v = h.0 in
      let was = read v h.1 in
      let tail = operations_on f (n + 2) ts rest in
      let own = block_name (label_front v.label) bl.key.slot bl.key.version in
      let front : own ≡ label = sym h.2 in
      ops ts rest (each_operation says s f (n + 2) left operations ts
      (subst (λ ps. PrintsOperations says s ps ts) was.1 h.5) k.1)
      ∙ head v xs tail h.1 (subst (λ ds. Pairs (HasName says s.types) ds xs) was.0 h.4) k.0
      ∙ ap (λ y. a ++ spell (block_head_on f (printed_block y xs) tail)) front
  block_lines bl arguments operations read a b c head ops (entity a_region ts) rest h k = absurd h
  block_lines bl arguments operations read a b c head ops (entity (operation kind results used successors pieces) ts) rest h k = absurd h
