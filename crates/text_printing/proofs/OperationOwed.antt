-- What printing an operation adds.
use Rattle.std.proofs.Common.{◌≡◌, ℕ, ◌+◌, ◌≤◌, suc, length, drop, List, [], ◌∷◌, ◌++◌, refl, sym, ap, ◌∙◌, subst, add-one, Bor}
use Rattle.std.specs.Prelude.{Option, Some, None, slice_get}
use Rattle.std.specs.Str.{trim}
use Rattle.std.proofs.lemmas.List.{append_assoc}
use Rattle.std.proofs.Math.ListN.{drop_of_length-le}
use Rattle.ir_names.specs.Tree.{node, no_tree, a_tree}
use Rattle.ir_program.specs.declared.handles.Ptr.{Ptr}
use Rattle.ir_program.specs.declared.handles.Region.{Region}
use Rattle.ir_program.specs.declared.handles.BasicBlock.{BasicBlock}
use Rattle.ir_program.specs.declared.handles.Value.{Value}
use Rattle.text_dialect.specs.Seen.{Seen}
use Rattle.ir_print.specs.declared.format.Directive.{Directive}
use Rattle.ir_print.specs.declared.format.Directive as directive
use Rattle.ir_print.specs.declared.format.Part.{Part}
use Rattle.text_printing.specs.declared.operations.Progress.{Progress}
use Rattle.ir_print.specs.Formats.{Formats, Step, step_of, steps_of}
use Rattle.ir_print.specs.Layout.{Chunk, spell, Before, an_id, a_word, Printer, gap_of_word, format_on, step_on, word_of, all_parts_on, regions_on, AreFlat}
use Rattle.text_printing.specs.PartPrinted.{head_on, names_after, labels_after, entities_after, gapped_on, before_after, AreLeft, PartPrinted}
use Rattle.ir_print.specs.Pieces.{value_of_kind, list, item, chosen, operands, successor, region, leaf, ValueTree, Pieces, Entities, no_entity, an_entity}
use Rattle.text_printing.specs.Printing.{before_of, AddsText, AreReadable}
use Rattle.ir_print.specs.Shown.{Saying, ShowsParts}
use Rattle.ir_print.proofs.FormatSteps.{step_of-Literal}
use Rattle.text_printing.proofs.Owed.{wrote, drop_at}
use Rattle.text_printing.proofs.ValuesOwed.{no_word, word_spelled}

-- what an operation says begins with its first piece
parts_step : (f : Formats) (n : ℕ) (t : ValueTree) (ts : Pieces) (us ls : List (List ℕ)) (es : Entities (List ℕ))
    → all_parts_on f (a_tree t ts) us ls (regions_on f n es)
    ≡ head_on f t us ls (regions_on f n es) ∷ all_parts_on f ts (names_after t us) (labels_after t ls) (regions_on f n (entities_after t es))
parts_step f n (node (value_of_kind sort k) xs) ts us ls es = refl
parts_step f n (node list xs) ts us ls es = refl
parts_step f n (node item xs) ts us ls es = refl
parts_step f n (node (chosen k) xs) ts us ls es = refl
parts_step f n (node (operands k) xs) ts us ls es = refl
parts_step f n (node (successor k) xs) ts us ls es = refl
parts_step f n (node region xs) ts us ls no_entity = refl
parts_step f n (node region xs) ts us ls (an_entity e es) = refl
parts_step f n (node (leaf x) xs) ts us ls es = refl

-- a part at a step that is no word, and what is behind it
gapped : (before : Before) (s : Step) (o : Option Printer) (ps : List (Option Printer)) (more : Before → List (Option Printer) → List Chunk) → word_of s ≡ None
    → step_on (word_of s) before s (o ∷ ps) more ≡ gapped_on before s o (more (before_after before o) ps)
gapped before s None ps more e = ap (λ w. step_on w before s (None ∷ ps) more) e
gapped before s (Some p) ps more e = ap (λ w. step_on w before s (Some p ∷ ps) more) e

nothing_on : (before : Before) (s : Step) (more : Before → List (Option Printer) → List Chunk) → word_of s ≡ None → step_on (word_of s) before s [] more ≡ more before []
nothing_on before s more e = ap (λ w. step_on w before s [] more) e

module _ {D K A T : Type 0} (says : Saying K A T) (f : Formats) (s : Seen K A T) (values : List Value) (its_successors : List (Ptr BasicBlock)) (its_regions : List (Ptr Region))
    (n left : ℕ) where
  -- What stands there, with what the parts that are left say, is the goal.
  pub record IsOperationOwed (parts_left : List (Part D K A T)) (format_left : List Directive) (before : Before) (used_operands used_successors used_regions : ℕ) (rest : List Chunk) (goal now : List ℕ) : Type 0 where
    pub pieces : Pieces
    pub names : List (List ℕ)
    pub labels : List (List ℕ)
    pub entities : Entities (List ℕ)
    pub shown : ShowsParts says s.types parts_left pieces
    pub flat : AreFlat left pieces
    pub readable : AreReadable 64 pieces
    pub are_left : AreLeft says s values its_successors its_regions left used_operands used_successors used_regions names labels entities
    pub text : now ++ spell (format_on before (steps_of format_left) (all_parts_on f pieces names labels (regions_on f n entities)) rest) ≡ goal

  -- the same for each tree that the parts show, where the goal is what stood there with all that they say
  pub record OperationOwed (parts parts_left : List (Part D K A T)) (format format_left : List Directive) (progress : Progress) (old now : List ℕ) : Type 0 where
    pub owed : (ts : Pieces) (us ls : List (List ℕ)) (es : Entities (List ℕ)) (rest : List Chunk) → ShowsParts says s.types parts ts → AreFlat left ts → AreReadable 64 ts → AreLeft says s values its_successors its_regions left 0 0 0 us ls es
        → IsOperationOwed parts_left format_left (before_of progress.before) progress.operands progress.successors progress.regions rest (old ++ spell (format_on an_id (steps_of format) (all_parts_on f ts us ls (regions_on f n es)) rest)) now

  pub operation_start : (parts : List (Part D K A T)) (format : List Directive) (progress : Progress) (old : List ℕ) → before_of progress.before ≡ an_id → progress.operands ≡ 0 → progress.successors ≡ 0 → progress.regions ≡ 0 → OperationOwed parts parts format format progress old old
  operation_start parts format progress old eb eo eg er = record {
    owed = λ ts us ls es rest h k r w. record {
      pieces = ts;
      names = us;
      labels = ls;
      entities = es;
      shown = h;
      flat = k;
      readable = r;
      are_left = rw (eo, eg, er) w;
      text = ap (λ b. old ++ spell (format_on b (steps_of format) (all_parts_on f ts us ls (regions_on f n es)) rest)) eb;
    };
  }

  pub operation_word_at : (parts parts_left : List (Part D K A T)) (format : List Directive) (i : ℕ) (text : Bor (List ℕ)) (progress after : Progress) (old now next : List ℕ)
      → slice_get format i ≡ Some (directive.Literal text) → OperationOwed parts parts_left format (drop i format) progress old now → before_of after.before ≡ a_word → after.operands ≡ progress.operands → after.successors ≡ progress.successors → after.regions ≡ progress.regions
      → next ≡ now ++ (gap_of_word (before_of progress.before) ++ text.now) → OperationOwed parts parts_left format (drop (i + 1) format) after old next
  operation_word_at parts parts_left format i text progress after old now next at o eb eo eg er e = record { owed = λ ts us ls es rest h k r w. worded rest (o.owed ts us ls es rest h k r w) }
    where
      worded : (rest : List Chunk) {goal : List ℕ} → IsOperationOwed parts_left (drop i format) (before_of progress.before) progress.operands progress.successors progress.regions rest goal now
          → IsOperationOwed parts_left (drop (i + 1) format) (before_of after.before) after.operands after.successors after.regions rest goal next
      worded rest w =
          let ps = all_parts_on f w.pieces w.names w.labels (regions_on f n w.entities) in
          let ds = drop (suc i) format in
          let tail = spell (format_on a_word (steps_of ds) ps rest) in
          rw (add-one i, eb, eo, eg, er) (record {
            pieces = w.pieces;
            names = w.names;
            labels = w.labels;
            entities = w.entities;
            shown = w.shown;
            flat = w.flat;
            readable = w.readable;
            are_left = w.are_left;
            text = wrote now next (gap_of_word (before_of progress.before) ++ text.now) tail e ∙ ap (λ cs. now ++ cs) (append_assoc (gap_of_word (before_of progress.before)) text.now tail
                ∙ sym (word_spelled (before_of progress.before) (step_of (directive.Literal text)) text.now (trim text.now) ps (λ b qs. format_on b (steps_of ds) qs rest) (step_of-Literal text)))
                ∙ ap (λ xs. now ++ spell (format_on (before_of progress.before) (steps_of xs) ps rest)) (sym (drop_at format i (directive.Literal text) at)) ∙ w.text;
          })

  pub operation_part_at : (parts : List (Part D K A T)) (k : ℕ) (p : Part D K A T) (format : List Directive) (i : ℕ) (d : Directive) (progress after : Progress) (old now next : List ℕ)
      → slice_get format i ≡ Some d → slice_get parts k ≡ Some p → ((text : Bor (List ℕ)) → d ≡ directive.Literal text → ⊥) → OperationOwed parts (drop k parts) format (drop i format) progress old now
      → PartPrinted says s values its_successors its_regions left f n (step_of d) p progress after now next
      → OperationOwed parts (drop (k + 1) parts) format (drop (i + 1) format) after old next
  operation_part_at parts k p format i d progress after old now next at there other o print = record {
    owed = λ ts us ls es rest h q r w. (let x = o.owed ts us ls es rest h q r w in parted rest x.pieces x.names x.labels x.entities
        (subst (λ ps. ShowsParts says s.types ps x.pieces) (drop_at parts k p there) x.shown) x.flat x.readable x.are_left
        (ap (λ ds. now ++ spell (format_on (before_of progress.before) (steps_of ds) (all_parts_on f x.pieces x.names x.labels (regions_on f n x.entities)) rest)) (sym (drop_at format i d at)) ∙ x.text));
  }
    where
      parted : (rest : List Chunk) {goal : List ℕ} (ts : Pieces) (us ls : List (List ℕ)) (es : Entities (List ℕ)) → ShowsParts says s.types (p ∷ drop (suc k) parts) ts → AreFlat left ts → AreReadable 64 ts
          → AreLeft says s values its_successors its_regions left progress.operands progress.successors progress.regions us ls es
          → now ++ spell (format_on (before_of progress.before) (steps_of (d ∷ drop (suc i) format)) (all_parts_on f ts us ls (regions_on f n es)) rest) ≡ goal
          → IsOperationOwed (drop (k + 1) parts) (drop (i + 1) format) (before_of after.before) after.operands after.successors after.regions rest goal next
      parted rest no_tree us ls es h q r w x = absurd h
      parted rest (a_tree t ts) us ls es h q r w x =
          let ds = drop (suc i) format in
          let head = head_on f t us ls (regions_on f n es) in
          let ps = all_parts_on f ts (names_after t us) (labels_after t ls) (regions_on f n (entities_after t es)) in
          let z = print.printed t us ls es (format_on (before_after (before_of progress.before) head) (steps_of ds) ps rest) h.0 q.0 r.0 w in
          rw (add-one i, add-one k) (record {
            pieces = ts;
            names = names_after t us;
            labels = labels_after t ls;
            entities = entities_after t es;
            shown = h.1;
            flat = q.1;
            readable = r.1;
            are_left = z.are_left;
            text = ap (λ b. next ++ spell (format_on b (steps_of ds) ps rest)) z.before_is ∙ z.text
                ∙ ap (λ cs. now ++ spell cs) (sym (gapped (before_of progress.before) (step_of d) head ps (λ b qs. format_on b (steps_of ds) qs rest) (no_word d other)))
                ∙ ap (λ qs. now ++ spell (format_on (before_of progress.before) (steps_of (d ∷ ds)) qs rest)) (sym (parts_step f n t ts us ls es)) ∙ x;
          })

  pub operation_none_at : (parts : List (Part D K A T)) (k : ℕ) (format : List Directive) (i : ℕ) (d : Directive) (progress : Progress) (old now : List ℕ)
      → slice_get format i ≡ Some d → length parts ≤ k → ((text : Bor (List ℕ)) → d ≡ directive.Literal text → ⊥) → OperationOwed parts (drop k parts) format (drop i format) progress old now
      → OperationOwed parts (drop k parts) format (drop (i + 1) format) progress old now
  operation_none_at parts k format i d progress old now at le other o = record {
    owed = λ ts us ls es rest h q r w. (let x = o.owed ts us ls es rest h q r w in ended rest x.pieces x.names x.labels x.entities
        (subst (λ ps. ShowsParts says s.types ps x.pieces) (drop_of_length-le parts le) x.shown) x.shown x.flat x.readable x.are_left
        (ap (λ ds. now ++ spell (format_on (before_of progress.before) (steps_of ds) (all_parts_on f x.pieces x.names x.labels (regions_on f n x.entities)) rest)) (sym (drop_at format i d at)) ∙ x.text));
  }
    where
      ended : (rest : List Chunk) {goal : List ℕ} (ts : Pieces) (us ls : List (List ℕ)) (es : Entities (List ℕ)) → ShowsParts {D = D} says s.types [] ts → ShowsParts says s.types (drop k parts) ts → AreFlat left ts → AreReadable 64 ts
          → AreLeft says s values its_successors its_regions left progress.operands progress.successors progress.regions us ls es
          → now ++ spell (format_on (before_of progress.before) (steps_of (d ∷ drop (suc i) format)) (all_parts_on f ts us ls (regions_on f n es)) rest) ≡ goal
          → IsOperationOwed (drop k parts) (drop (i + 1) format) (before_of progress.before) progress.operands progress.successors progress.regions rest goal now
      ended rest (a_tree t ts) us ls es h g q r w x = absurd h
      ended rest no_tree us ls es h g q r w x = rw (add-one i) (record {
        pieces = no_tree;
        names = us;
        labels = ls;
        entities = es;
        shown = g;
        flat = q;
        readable = r;
        are_left = w;
        text = ap (λ cs. now ++ spell cs) (sym (nothing_on (before_of progress.before) (step_of d) (λ b qs. format_on b (steps_of (drop (suc i) format)) qs rest) (no_word d other))) ∙ x;
      })

  pub operation_past : (parts parts_left : List (Part D K A T)) (format : List Directive) (i : ℕ) (progress : Progress) (old now : List ℕ) → length format ≤ i → OperationOwed parts parts_left format (drop i format) progress old now
      → (ts : Pieces) (us ls : List (List ℕ)) (es : Entities (List ℕ)) (rest : List Chunk) → ShowsParts says s.types parts ts → AreFlat left ts → AreReadable 64 ts → AreLeft says s values its_successors its_regions left 0 0 0 us ls es
      → AddsText old now rest (format_on an_id (steps_of format) (all_parts_on f ts us ls (regions_on f n es)) rest)
  operation_past parts parts_left format i progress old now le o ts us ls es rest h k r w =
      let x = o.owed ts us ls es rest h k r w in
      ap (λ ds. now ++ spell (format_on (before_of progress.before) (steps_of ds) (all_parts_on f x.pieces x.names x.labels (regions_on f n x.entities)) rest)) (sym (drop_of_length-le format le)) ∙ x.text
