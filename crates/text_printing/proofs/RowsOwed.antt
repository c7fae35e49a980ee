-- Rows of names, arguments, blocks and operations.
use Rattle.std.proofs.Common.{◌≡◌, ℕ, ◌<◌, Bool, true, false, cond, length, List, [], ◌∷◌, ◌++◌, map, refl, sym, ap, ◌∙◌, subst, arith}
use Rattle.std.specs.Prelude.{codes}
use Rattle.std.proofs.lemmas.List.{append_assoc, append-nil}
use Rattle.ir_base.specs.declared.types.TypeHandle.{TypeHandle}
use Rattle.ir_program.specs.declared.handles.Ptr.{Ptr}
use Rattle.ir_program.specs.declared.handles.Operation.{Operation}
use Rattle.ir_program.specs.declared.handles.BasicBlock.{BasicBlock}
use Rattle.ir_program.specs.declared.handles.Value.{Value}
use Rattle.ir_program.specs.Program.{TypedValue}
use Rattle.ir_print.specs.Formats.{Formats}
use Rattle.ir_print.specs.Layout.{Chunk, token, word, white, spell, line, type_on, names_on, more_names_on, results_on, argument_on, arguments_on, more_arguments_on, operation_on, operations_on, more_operations_on, block_on, blocks_on, IsFlat, AreFlatArguments, IsShallow, AreShallow}
use Rattle.ir_print.specs.Pieces.{ValueTree, Entity, Entities, no_entity, an_entity}
use Rattle.ir_print.specs.Shown.{Saying, Pairs, ShowsType}
use Rattle.text_dialect.specs.Seen.{Seen}
use Rattle.text_dialect.specs.Printed.{PrintsAs, IsValueName, value_name}
use Rattle.text_printing.specs.Added.{HasName, AddsType, AddsOperation, AddsBlock, PrintsBlock, PrintsBlocks, PrintsOperations}
use Rattle.text_printing.specs.Printing.{AddsText, next_line}
use Rattle.text_printing.proofs.Owed.{IsRow, Prints, wrote}

-- ---- pairs

module _ {X U : Type 0} (R : X → U → Type 0) (on : Bool → List U → List Chunk → List Chunk) (part : U → List Chunk → List Chunk) (separator : List ℕ)
    (ends : (b : Bool) (rest : List Chunk) → on b [] rest ≡ rest)
    (begins : (u : U) (us : List U) (b : Bool) (rest : List Chunk) → spell (on b (u ∷ us) rest) ≡ cond b [] separator ++ spell (part u (on false us rest))) where
  first_of : (x : X) (xs : List X) (us : List U) → Pairs R (x ∷ xs) us → U
  first_of x xs [] h = absurd h
  first_of x xs (u ∷ us) h = u

  others_of : (x : X) (xs : List X) (us : List U) → Pairs R (x ∷ xs) us → List U
  others_of x xs [] h = absurd h
  others_of x xs (u ∷ us) h = us

  shown_of : (x : X) (xs : List X) (us : List U) (h : Pairs R (x ∷ xs) us) → R x (first_of x xs us h)
  unfolding first_of
  shown_of x xs [] h = absurd h
  shown_of x xs (u ∷ us) h = h.0

  shown_others : (x : X) (xs : List X) (us : List U) (h : Pairs R (x ∷ xs) us) → Pairs R xs (others_of x xs us h)
  unfolding others_of
  shown_others x xs [] h = absurd h
  shown_others x xs (u ∷ us) h = h.1

  begins_of : (x : X) (xs : List X) (us : List U) (h : Pairs R (x ∷ xs) us) (b : Bool) (rest : List Chunk) → spell (on b us rest) ≡ cond b [] separator ++ spell (part (first_of x xs us h) (on false (others_of x xs us h) rest))
  unfolding first_of others_of
  begins_of x xs [] h b rest = absurd h
  begins_of x xs (u ∷ us) h b rest = begins u us b rest

  ends_of : (us : List U) (b : Bool) (rest : List Chunk) → Pairs R [] us → on b us rest ≡ rest
  ends_of [] b rest h = ends b rest
  ends_of (u ∷ us) b rest h = absurd h

  pub pairs_row : IsRow R (Pairs R) on part separator
  pairs_row = record { ends = ends_of; first = first_of; others = others_of; shown = shown_of; shown_others = shown_others; begins = begins_of }

-- names, as the first or behind others
abbrev pub names_left : Bool → List (List ℕ) → List Chunk → List Chunk
names_left true xs rest = names_on xs rest
names_left false xs rest = more_names_on xs rest

-- a name, and then the rest
abbrev pub name_then : List ℕ → List Chunk → List Chunk
name_then x rest = token x ∷ rest

pub operands_row : IsRow IsValueName (Pairs IsValueName) names_left name_then (codes ", ")
operands_row = pairs_row IsValueName names_left name_then (codes ", ") (elim [ true ↦ λ rest. refl | false ↦ λ rest. refl ]) (λ u us. elim [ true ↦ λ rest. refl | false ↦ λ rest. refl ])

pub name_printed : (v : Value) (a b : List ℕ) → b ≡ a ++ value_name v.number → Prints IsValueName name_then v a b
name_printed v a b e x rest h = wrote a b (value_name v.number) (spell rest) e ∙ ap (λ y. a ++ (y ++ spell rest)) (sym h)

-- names of results, as the first or behind others
abbrev pub results_left : Bool → List (List ℕ × ValueTree) → List Chunk → List Chunk
results_left b rs rest = names_left b (map (λ x. x.0) rs) rest

module _ {K A T : Type 0} (says : Saying K A T) (types : List T) where
  pub results_row : IsRow (HasName says types) (Pairs (HasName says types)) results_left (λ u rest. name_then u.0 rest) (codes ", ")
  results_row =
      pairs_row (HasName says types) results_left (λ u rest. name_then u.0 rest) (codes ", ") (elim [ true ↦ λ rest. refl | false ↦ λ rest. refl ])
      (λ u us. elim [ true ↦ λ rest. refl | false ↦ λ rest. refl ])

  pub result_printed : (d : TypedValue) (v : Value) (a b : List ℕ) → d.value ≡ v → b ≡ a ++ value_name v.number →
      Prints (HasName says types) (λ u rest. name_then u.0 rest) d a b
  result_printed d v a b ev e u rest h = name_printed v a b e u.0 rest (h.0 ∙ ap (λ x. value_name x.number) ev)

  -- results, and `=` behind them
  pub all_results : (ds : List TypedValue) (a b c : List ℕ) → 0 < length ds →
      ((rs : List (List ℕ × ValueTree)) (rest : List Chunk) → Pairs (HasName says types) ds rs → AddsText a b rest (results_left true rs rest)) →
      c ≡ b ++ codes " = " → (rs : List (List ℕ × ValueTree)) (rest : List Chunk) → Pairs (HasName says types) ds rs →
      AddsText a c rest (results_on rs rest)
  all_results [] a b c lt print e rs rest h = absurd (omega arith)
  all_results (d ∷ ds) a b c lt print e [] rest h = absurd h
  all_results (d ∷ ds) a b c lt print e (r ∷ rs) rest h =
      wrote b c (codes " = ") (spell rest) e ∙ print (r ∷ rs) (word (codes " = ") (codes "=") ∷ rest) h

  module _ (f : Formats) (left : ℕ) where
    -- an argument whose type can be printed
    abbrev pub HasFlat : TypedValue → List ℕ × ValueTree → Type 0
    HasFlat d x = HasName says types d x × IsFlat left x.1

    -- arguments, as the first or behind others
    abbrev pub arguments_left : Bool → List (List ℕ × ValueTree) → List Chunk → List Chunk
    arguments_left true xs rest = arguments_on f xs rest
    arguments_left false xs rest = more_arguments_on f xs rest

    pub arguments_row : IsRow HasFlat (Pairs HasFlat) arguments_left (argument_on f) (codes ", ")
    arguments_row =
        pairs_row HasFlat arguments_left (argument_on f) (codes ", ") (elim [ true ↦ λ rest. refl | false ↦ λ rest. refl ])
        (λ u us. elim [ true ↦ λ rest. refl | false ↦ λ rest. refl ])

    pub flat_pairs : (ds : List TypedValue) (xs : List (List ℕ × ValueTree)) → Pairs (HasName says types) ds xs → AreFlatArguments left xs →
        Pairs HasFlat ds xs
    flat_pairs [] [] h k = tt
    flat_pairs [] (x ∷ xs) h k = absurd h
    flat_pairs (d ∷ ds) [] h k = absurd h
    flat_pairs (d ∷ ds) (x ∷ xs) h k = ((h.0, k.0), flat_pairs ds xs h.1 k.1)

    pub argument_printed : (d : TypedValue) (v : Value) (ty : TypeHandle) (a b c e : List ℕ) → d.value ≡ v → d.ty ≡ ty →
        b ≡ a ++ value_name v.number → c ≡ b ++ codes ": " → AddsType says f types left ty c e → Prints HasFlat (argument_on f) d a e
    argument_printed d v ty a b c e ev et g h print x rest k =
        print x.1 rest (subst (λ y. ShowsType says types y x.1) et k.0.1) k.1 ∙ wrote b c (codes ": ") (spell (type_on f x.1 rest)) h
        ∙ name_printed v a b g x.0 (word (codes ": ") (codes ":") ∷ type_on f x.1 rest) (k.0.0 ∙ ap (λ y. value_name y.number) ev)

-- what stands before an operation of a block
pub next_lined : (b : Bool) (n : ℕ) (x y z : List ℕ) → y ≡ x ++ cond b [] (codes ";") → z ≡ y ++ line n → z ≡ x ++ next_line b n
next_lined true n x y z e h = h ∙ ap (λ xs. xs ++ line n) (e ∙ append-nil x)
next_lined false n x y z e h = h ∙ ap (λ xs. xs ++ line n) e ∙ append_assoc x (codes ";") (line n)

-- ---- entities

-- each of some entities is one of these
abbrev pub Each : {X N : Type 0} → (X → Entity N → Type 0) → List X → Entities N → Type 0
Each R [] no_entity = Unit {0}
Each R (x ∷ xs) (an_entity t ts) = R x t × Each R xs ts
Each R _ _ = ⊥

module _ {X : Type 0} (R : X → Entity (List ℕ) → Type 0) (on : Bool → Entities (List ℕ) → List Chunk → List Chunk) (part : Entity (List ℕ) → List Chunk → List Chunk) (separator : List ℕ)
    (ends : (b : Bool) (rest : List Chunk) → on b no_entity rest ≡ rest)
    (begins : (u : Entity (List ℕ)) (us : Entities (List ℕ)) (b : Bool) (rest : List Chunk) → spell (on b (an_entity u us) rest) ≡ cond b [] separator ++ spell (part u (on false us rest))) where
  first_one : (x : X) (xs : List X) (us : Entities (List ℕ)) → Each R (x ∷ xs) us → Entity (List ℕ)
  first_one x xs no_entity h = absurd h
  first_one x xs (an_entity u us) h = u

  other_ones : (x : X) (xs : List X) (us : Entities (List ℕ)) → Each R (x ∷ xs) us → Entities (List ℕ)
  other_ones x xs no_entity h = absurd h
  other_ones x xs (an_entity u us) h = us

  one_shown : (x : X) (xs : List X) (us : Entities (List ℕ)) (h : Each R (x ∷ xs) us) → R x (first_one x xs us h)
  unfolding first_one
  one_shown x xs no_entity h = absurd h
  one_shown x xs (an_entity u us) h = h.0

  others_shown : (x : X) (xs : List X) (us : Entities (List ℕ)) (h : Each R (x ∷ xs) us) → Each R xs (other_ones x xs us h)
  unfolding other_ones
  others_shown x xs no_entity h = absurd h
  others_shown x xs (an_entity u us) h = h.1

  one_begins : (x : X) (xs : List X) (us : Entities (List ℕ)) (h : Each R (x ∷ xs) us) (b : Bool) (rest : List Chunk) → spell (on b us rest) ≡ cond b [] separator ++ spell (part (first_one x xs us h) (on false (other_ones x xs us h) rest))
  unfolding first_one other_ones
  one_begins x xs no_entity h b rest = absurd h
  one_begins x xs (an_entity u us) h b rest = begins u us b rest

  none_ends : (us : Entities (List ℕ)) (b : Bool) (rest : List Chunk) → Each R [] us → on b us rest ≡ rest
  none_ends no_entity b rest h = ends b rest
  none_ends (an_entity u us) b rest h = absurd h

  pub each_row : IsRow R (Each R) on part separator
  each_row = record { ends = none_ends; first = first_one; others = other_ones; shown = one_shown; shown_others = others_shown; begins = one_begins }

module _ {K A T : Type 0} (says : Saying K A T) (s : Seen K A T) (f : Formats) (n left : ℕ) where
  -- a block that can be printed
  abbrev pub ShallowBlock : Ptr BasicBlock → Entity (List ℕ) → Type 0
  ShallowBlock b t = PrintsBlock says s b t × IsShallow left t

  -- an operation that can be printed
  abbrev pub ShallowOperation : Ptr Operation → Entity (List ℕ) → Type 0
  ShallowOperation p t = PrintsAs says s p t × IsShallow left t

  -- blocks, each from a new line on
  abbrev pub blocks_left : Bool → Entities (List ℕ) → List Chunk → List Chunk
  blocks_left b ts rest = blocks_on f n ts rest

  -- a block from a new line on
  abbrev pub lined_block : Entity (List ℕ) → List Chunk → List Chunk
  lined_block t rest = white (line n) ∷ block_on f n t rest

  -- operations, as the first or behind others
  abbrev pub operations_left : Bool → Entities (List ℕ) → List Chunk → List Chunk
  operations_left true ts rest = operations_on f n ts rest
  operations_left false ts rest = more_operations_on f n ts rest

  -- an operation from a new line on
  abbrev pub lined_operation : Entity (List ℕ) → List Chunk → List Chunk
  lined_operation t rest = white (line n) ∷ operation_on f n t rest

  pub blocks_row : IsRow ShallowBlock (Each ShallowBlock) blocks_left lined_block []
  blocks_row =
      each_row ShallowBlock blocks_left lined_block [] (λ b rest. refl) (λ u us. elim [ true ↦ λ rest. refl | false ↦ λ rest. refl ])

  pub operations_row : IsRow ShallowOperation (Each ShallowOperation) operations_left lined_operation (codes ";")
  operations_row =
      each_row ShallowOperation operations_left lined_operation (codes ";") (elim [ true ↦ λ rest. refl | false ↦ λ rest. refl ])
      (λ u us. elim [ true ↦ λ rest. refl | false ↦ λ rest. refl ])

  pub each_block : (bs : List (Ptr BasicBlock)) (ts : Entities (List ℕ)) → PrintsBlocks says s bs ts → AreShallow left ts →
      Each ShallowBlock bs ts
  each_block [] no_entity h k = tt
  each_block [] (an_entity t ts) h k = absurd h
  each_block (b ∷ bs) no_entity h k = absurd h
  each_block (b ∷ bs) (an_entity t ts) h k = ((h.0, k.0), each_block bs ts h.1 k.1)

  pub each_operation : (ps : List (Ptr Operation)) (ts : Entities (List ℕ)) → PrintsOperations says s ps ts → AreShallow left ts →
      Each ShallowOperation ps ts
  each_operation [] no_entity h k = tt
  each_operation [] (an_entity t ts) h k = absurd h
  each_operation (p ∷ ps) no_entity h k = absurd h
  each_operation (p ∷ ps) (an_entity t ts) h k = ((h.0, k.0), each_operation ps ts h.1 k.1)

  pub block_lined : (b : Ptr BasicBlock) (x y z : List ℕ) → y ≡ x ++ line n → AddsBlock says s f n left b y z →
      Prints ShallowBlock lined_block b x z
  block_lined b x y z e print t rest h = print t rest h.0 h.1 ∙ wrote x y (line n) (spell (block_on f n t rest)) e

  operation_lined : (p : Ptr Operation) (x y z : List ℕ) → y ≡ x ++ line n → AddsOperation says s f n left p y z →
      Prints ShallowOperation lined_operation p x z
  operation_lined p x y z e print t rest h = print t rest h.0 h.1 ∙ wrote x y (line n) (spell (operation_on f n t rest)) e

  pub operation_next : (b : Bool) (p : Ptr Operation) (x y z : List ℕ) → y ≡ x ++ next_line b n → AddsOperation says s f n left p y z →
      Prints ShallowOperation lined_operation p (x ++ cond b [] (codes ";")) z
  operation_next true p x y z e print = operation_lined p (x ++ []) y z (e ∙ ap (λ xs. xs ++ line n) (sym (append-nil x))) print
  operation_next false p x y z e print =
      operation_lined p (x ++ codes ";") y z (e ∙ sym (append_assoc x (codes ";") (line n))) print
