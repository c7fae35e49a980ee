-- What printing types, attributes and their parts adds.
use Rattle.std.proofs.Common.{◌≡◌, ℕ, ◌+◌, ◌≤◌, suc, List, [], ◌∷◌, ◌++◌, length, drop, refl, sym, ap, ◌∙◌, subst, add-one, Bor}
use Rattle.std.specs.Prelude.{Option, Some, None, slice_get}
use Rattle.std.specs.Str.{trim}
use Rattle.std.proofs.lemmas.List.{append_assoc}
use Rattle.std.proofs.Math.ListN.{drop_of_length-le}
use Rattle.ir_names.specs.Tree.{no_tree, a_tree}
use Rattle.ir_print.specs.Formats as step
use Rattle.ir_print.specs.Formats.{Formats, Step, Steps, step_of, steps_of, step_by, list_of}
use Rattle.ir_print.specs.Layout.{Chunk, white, spell, Before, a_word, a_part, Printer, piece_on, parts_on, format_on, word_of, step_on, gap_of_word, gap_of_part, alternative_of, member_of, separator_of, IsFlat, AreFlat}
use Rattle.ir_print.specs.Pieces.{ValueTree, Pieces}
use Rattle.text_printing.specs.Printing.{AddsText, IsReadable, AreReadable}
use Rattle.ir_print.specs.Shown.{Saying, ShowsPart, ShowsParts}
use Rattle.ir_print.specs.declared.format.Directive.{Directive, Directive-F, fold-Directive, map-Directive, fold_out-Directive, out-Directive, roll-Directive, roll-out-Directive}
use Rattle.ir_print.specs.declared.format.Directive as directive
use Rattle.ir_print.specs.declared.format.Directive.TheVariants.{rolls-Literal, rolls-List, rolls-Choice}
use Rattle.ir_print.specs.declared.format.Part.{Part}
use Rattle.ir_print.proofs.FormatSteps.{step_of-Literal}
use Rattle.text_printing.proofs.Owed.{wrote, drop_at}

-- ---- steps that are no words, and steps that are no lists

no_word_by : (l : Directive-F Directive) → ((text : Bor (List ℕ)) → l ≡ Directive-F.Literal text → ⊥) → word_of (step_by (map-Directive Directive Step step_of l)) ≡ None
no_word_by (Directive-F.Literal text) h = absurd (h text refl)
no_word_by _ h = refl

pub no_word : (d : Directive) → ((text : Bor (List ℕ)) → d ≡ directive.Literal text → ⊥) → word_of (step_of d) ≡ None
no_word d h = ap word_of (fold_out-Directive Step step_by d) ∙ no_word_by (out-Directive d) (λ text e. h text (sym (roll-out-Directive d) ∙ ap roll-Directive e ∙ rolls-Literal text))

-- a step at which members of a list, were there any, would be nothing
pub record IsNoList (s : Step) : Type 0 where
  pub separator : separator_of s ≡ white []
  pub member : member_of s ≡ step.no_steps

no_list_by : (l : Directive-F Directive) → ((member : Bor (List Directive)) (text : Bor (List ℕ)) → l ≡ Directive-F.List member text → ⊥) → IsNoList (step_by (map-Directive Directive Step step_of l))
no_list_by (Directive-F.List member text) h = absurd (h member text refl)
no_list_by _ h = record { separator = refl; member = refl }

pub no_list : (d : Directive) → ((member : Bor (List Directive)) (text : Bor (List ℕ)) → d ≡ directive.List member text → ⊥) → IsNoList (step_of d)
no_list d h = subst IsNoList (sym (fold_out-Directive Step step_by d)) (no_list_by (out-Directive d) (λ member text e. h member text (sym (roll-out-Directive d) ∙ ap roll-Directive e ∙ rolls-List member text)))

-- a step that is no choice has no formats to choose from
no_choice_by : (l : Directive-F Directive) → ((alternatives : Bor (List (Bor (List Directive)))) → l ≡ Directive-F.Choice alternatives → ⊥) → (n : ℕ) → alternative_of (step_by (map-Directive Directive Step step_of l)) n ≡ None
no_choice_by (Directive-F.Choice alternatives) h n = absurd (h alternatives refl)
no_choice_by _ h n = refl

pub no_choice : (d : Directive) → ((alternatives : Bor (List (Bor (List Directive)))) → d ≡ directive.Choice alternatives → ⊥) → (n : ℕ) → alternative_of (step_of d) n ≡ None
no_choice d h n = ap (λ s. alternative_of s n) (fold_out-Directive Step step_by d) ∙ no_choice_by (out-Directive d) (λ alternatives e. h alternatives (sym (roll-out-Directive d) ∙ ap roll-Directive e ∙ rolls-Choice alternatives)) n

-- ---- the steps of a format, one after the other

-- the word of a literal, and what is behind it
pub word_spelled : (before : Before) (s : Step) (printed text : List ℕ) (ps : List (Option Printer)) (more : Before → List (Option Printer) → List Chunk) → s ≡ step.word printed text
    → spell (step_on (word_of s) before s ps more) ≡ gap_of_word before ++ (printed ++ spell (more a_word ps))
word_spelled before s printed text ps more e = ap (λ x. spell (step_on (word_of x) before x ps more)) e

-- the next part, and what is behind it
part_spelled : (before : Before) (s : Step) (p : Printer) (ps : List (Option Printer)) (more : Before → List (Option Printer) → List Chunk) → word_of s ≡ None
    → spell (step_on (word_of s) before s (Some p ∷ ps) more) ≡ gap_of_part before ++ spell (p s (more a_part ps))
part_spelled before s p ps more e = ap (λ w. spell (step_on w before s (Some p ∷ ps) more)) e

-- no part, and what is behind it
nothing_spelled : (before : Before) (s : Step) (more : Before → List (Option Printer) → List Chunk) → word_of s ≡ None → spell (step_on (word_of s) before s [] more) ≡ spell (more before [])
nothing_spelled before s more e = ap (λ w. spell (step_on w before s [] more)) e

module _ {D K A T : Type 0} (says : Saying K A T) (types : List T) (f : Formats) (left lists : ℕ) where
  -- What stands there, with what the parts that are left say, is the goal.
  pub record IsFormatOwed (parts_left : List (Part D K A T)) (format_left : List Directive) (before : Before) (rest : List Chunk) (goal now : List ℕ) : Type 0 where
    pub pieces : Pieces
    pub shown : ShowsParts says types parts_left pieces
    pub flat : AreFlat left pieces
    pub readable : AreReadable lists pieces
    pub text : now ++ spell (format_on before (steps_of format_left) (parts_on f pieces) rest) ≡ goal

  -- the same for each tree that the parts show, where the goal is what stood there with all that they say
  pub record FormatOwed (parts parts_left : List (Part D K A T)) (format format_left : List Directive) (from before : Before) (old now : List ℕ) : Type 0 where
    pub owed : (ts : Pieces) (rest : List Chunk) → ShowsParts says types parts ts → AreFlat left ts → AreReadable lists ts
        → IsFormatOwed parts_left format_left before rest (old ++ spell (format_on from (steps_of format) (parts_on f ts) rest)) now

  pub format_end : (parts parts_left : List (Part D K A T)) (format : List Directive) (from before : Before) (old now : List ℕ) → FormatOwed parts parts_left format [] from before old now
      → (ts : Pieces) (rest : List Chunk) → ShowsParts says types parts ts → AreFlat left ts → AreReadable lists ts → AddsText old now rest (format_on from (steps_of format) (parts_on f ts) rest)
  format_end parts parts_left format from before old now o ts rest h k r = (o.owed ts rest h k r).text

  pub format_word : (parts parts_left : List (Part D K A T)) (format format_left : List Directive) (text : Bor (List ℕ)) (from before : Before) (old now next : List ℕ)
      → FormatOwed parts parts_left format (directive.Literal text ∷ format_left) from before old now → next ≡ now ++ (gap_of_word before ++ text.now)
      → FormatOwed parts parts_left format format_left from a_word old next
  format_word parts parts_left format format_left text from before old now next o e = record { owed = λ ts rest h k r. worded rest (o.owed ts rest h k r) }
    where
      worded : (rest : List Chunk) {goal : List ℕ} → IsFormatOwed parts_left (directive.Literal text ∷ format_left) before rest goal now → IsFormatOwed parts_left format_left a_word rest goal next
      worded rest w =
          let ps = parts_on f w.pieces in
          let tail = spell (format_on a_word (steps_of format_left) ps rest) in
          record {
            pieces = w.pieces;
            shown = w.shown;
            flat = w.flat;
            readable = w.readable;
            text = wrote now next (gap_of_word before ++ text.now) tail e ∙ ap (λ s. now ++ s) (append_assoc (gap_of_word before) text.now tail
                ∙ sym (word_spelled before (step_of (directive.Literal text)) text.now (trim text.now) ps (λ b qs. format_on b (steps_of format_left) qs rest) (step_of-Literal text))) ∙ w.text;
          }

  -- printing adds this part at a step
  abbrev pub PrintsPart : Part D K A T → Step → List ℕ → List ℕ → Type 0
  PrintsPart p s now next = (t : ValueTree) (rest : List Chunk) → ShowsPart says types p t → IsFlat left t → IsReadable lists t → AddsText now next rest (piece_on f t s rest)

  pub format_part : (parts : List (Part D K A T)) (p : Part D K A T) (parts_left : List (Part D K A T)) (format : List Directive) (d : Directive) (format_left : List Directive) (from before : Before) (old now mid next : List ℕ)
      → FormatOwed parts (p ∷ parts_left) format (d ∷ format_left) from before old now → word_of (step_of d) ≡ None → mid ≡ now ++ gap_of_part before → PrintsPart p (step_of d) mid next
      → FormatOwed parts parts_left format format_left from a_part old next
  format_part parts p parts_left format d format_left from before old now mid next o none e print = record { owed = λ ts rest h k r. let w = o.owed ts rest h k r in parted rest w.pieces w.shown w.flat w.readable w.text }
    where
      parted : (rest : List Chunk) {goal : List ℕ} (ts : Pieces) → ShowsParts says types (p ∷ parts_left) ts → AreFlat left ts → AreReadable lists ts
          → now ++ spell (format_on before (steps_of (d ∷ format_left)) (parts_on f ts) rest) ≡ goal → IsFormatOwed parts_left format_left a_part rest goal next
      parted rest no_tree h k r x = absurd h
      parted rest (a_tree t ts) h k r x =
          let tail = format_on a_part (steps_of format_left) (parts_on f ts) rest in
          record {
            pieces = ts;
            shown = h.1;
            flat = k.1;
            readable = r.1;
            text = print t tail h.0 k.0 r.0 ∙ wrote now mid (gap_of_part before) (spell (piece_on f t (step_of d) tail)) e
                ∙ ap (λ s. now ++ s) (sym (part_spelled before (step_of d) (piece_on f t) (parts_on f ts) (λ b qs. format_on b (steps_of format_left) qs rest) none)) ∙ x;
          }

  pub format_none : (parts : List (Part D K A T)) (format : List Directive) (d : Directive) (format_left : List Directive) (from before : Before) (old now : List ℕ)
      → FormatOwed parts [] format (d ∷ format_left) from before old now → word_of (step_of d) ≡ None → FormatOwed parts [] format format_left from before old now
  format_none parts format d format_left from before old now o none = record { owed = λ ts rest h k r. let w = o.owed ts rest h k r in ended rest w.pieces w.shown w.flat w.readable w.text }
    where
      ended : (rest : List Chunk) {goal : List ℕ} (ts : Pieces) → ShowsParts {D = D} says types [] ts → AreFlat left ts → AreReadable lists ts
          → now ++ spell (format_on before (steps_of (d ∷ format_left)) (parts_on f ts) rest) ≡ goal → IsFormatOwed [] format_left before rest goal now
      ended rest (a_tree t ts) h k r x = absurd h
      ended rest no_tree h k r x = record {
        pieces = no_tree;
        shown = h;
        flat = k;
        readable = r;
        text = ap (λ s. now ++ s) (sym (nothing_spelled before (step_of d) (λ b qs. format_on b (steps_of format_left) qs rest) none)) ∙ x;
      }

  -- the same, with the places of a loop over the format

  pub format_word_at : (parts parts_left : List (Part D K A T)) (format : List Directive) (i : ℕ) (text : Bor (List ℕ)) (from before : Before) (old now next : List ℕ)
      → slice_get format i ≡ Some (directive.Literal text) → FormatOwed parts parts_left format (drop i format) from before old now → next ≡ now ++ (gap_of_word before ++ text.now)
      → FormatOwed parts parts_left format (drop (i + 1) format) from a_word old next
  format_word_at parts parts_left format i text from before old now next at o e =
      rw (add-one i) (format_word parts parts_left format (drop (suc i) format) text from before old now next
      (subst (λ ds. FormatOwed parts parts_left format ds from before old now) (drop_at format i (directive.Literal text) at) o) e)

  pub format_part_at : (parts : List (Part D K A T)) (k : ℕ) (p : Part D K A T) (format : List Directive) (i : ℕ) (d : Directive) (from before : Before) (old now mid next : List ℕ)
      → slice_get format i ≡ Some d → slice_get parts k ≡ Some p → ((text : Bor (List ℕ)) → d ≡ directive.Literal text → ⊥) → FormatOwed parts (drop k parts) format (drop i format) from before old now
      → mid ≡ now ++ gap_of_part before → PrintsPart p (step_of d) mid next
      → FormatOwed parts (drop (k + 1) parts) format (drop (i + 1) format) from a_part old next
  format_part_at parts k p format i d from before old now mid next at part_at other o e print =
      rw (add-one i, add-one k) (format_part parts p (drop (suc k) parts) format d (drop (suc i) format) from before old now mid next
      (subst (λ ps. FormatOwed parts ps format (d ∷ drop (suc i) format) from before old now) (drop_at parts k p part_at)
      (subst (λ ds. FormatOwed parts (drop k parts) format ds from before old now) (drop_at format i d at) o)) (no_word d other) e print)

  pub format_none_at : (parts : List (Part D K A T)) (k : ℕ) (format : List Directive) (i : ℕ) (d : Directive) (from before : Before) (old now : List ℕ)
      → slice_get format i ≡ Some d → length parts ≤ k → ((text : Bor (List ℕ)) → d ≡ directive.Literal text → ⊥) → FormatOwed parts (drop k parts) format (drop i format) from before old now
      → FormatOwed parts (drop k parts) format (drop (i + 1) format) from before old now
  format_none_at parts k format i d from before old now at le other o =
      let none : drop k parts ≡ [] = drop_of_length-le parts le in
      rw (add-one i) (subst (λ ps. FormatOwed parts ps format (drop (suc i) format) from before old now) (sym none)
      (format_none parts format d (drop (suc i) format) from before old now
      (subst (λ ps. FormatOwed parts ps format (d ∷ drop (suc i) format) from before old now) none
      (subst (λ ds. FormatOwed parts (drop k parts) format ds from before old now) (drop_at format i d at) o)) (no_word d other)))

  pub format_past : (parts parts_left : List (Part D K A T)) (format : List Directive) (i : ℕ) (from before : Before) (old now : List ℕ) → length format ≤ i → FormatOwed parts parts_left format (drop i format) from before old now
      → (ts : Pieces) (rest : List Chunk) → ShowsParts says types parts ts → AreFlat left ts → AreReadable lists ts → AddsText old now rest (format_on from (steps_of format) (parts_on f ts) rest)
  format_past parts parts_left format i from before old now le o = format_end parts parts_left format from before old now (subst (λ ds. FormatOwed parts parts_left format ds from before old now) (drop_of_length-le format le) o)
