-- Which pieces the parts of attributes can be: numbers without a sign, texts in quotes, choices, and lists.
use Rattle.std.proofs.Common.{◌≡◌, ℕ, ◌≤◌, ◌^◌, Bool, true, false, cond, List, Option, Some, None, Vec, chars, string_bytes, nat_lt, refl, sym, ap, ◌∙◌, subst, arith}
use Rattle.std.proofs.lemmas.Bool.Decides.{nat_tests}
use Rattle.std.proofs.lemmas.Option.{some_pair_parts}
use Rattle.std.specs.Global.{Global}
use Rattle.ir_base.specs.declared.types.TypeHandle.{TypeHandle}
use Rattle.ir_names.specs.Tree.{node, no_tree, a_tree}
use Rattle.ir_print.specs.declared.format.Part.{Part}
use Rattle.ir_print.specs.declared.format.Part.TheVariants.{outs-List, outs-Type, outs-Attribute, outs-Operands, outs-Successor, outs-Region, outs-Leaf, outs-Choice}
use Rattle.ir_print.specs.declared.format.Part.TheVariants as part
use Rattle.ir_print.specs.declared.format.LeafValue.{LeafValue}
use Rattle.ir_print.specs.declared.format.LeafValue.TheVariants as read
use Rattle.ir_print.specs.declared.format.ValueSort.TheVariants as sorts
use Rattle.ir_print.specs.Pieces.{Leaf, value_of_kind, list, item, chosen, operands, successor, region, leaf, name, number, unsigned, width, quoted, mark, ValueTree, Pieces}
use Rattle.ir_print.specs.Shown.{Saying, IsLeaf, ShowsPart, ShowsParts}
use Rattle.kit.specs.Parts.{size_part, text_part, choice_part, list_part}
use Rattle.kit.specs.Says.{is_size, is_text, refused_list}
use Rattle.kit.proofs.Shapes.{a_list}

none_some : {X Y : Type 0} (x : X) → None ≡ Some x → Y
none_some x e = cc

-- ---- choices

module _ {D K A T : Type 0} where
  pub a_choice : (n : ℕ) (ps : Vec (Part D K A T) Global) → choice_part (part.Choice n ps) ≡ Some (n, ps)
  a_choice n ps = rw outs-Choice refl

  no_choice-List : (ms : Vec (Vec (Part D K A T) Global) Global) → choice_part (part.List ms) ≡ None
  no_choice-List ms = rw outs-List refl

  no_choice-Type : (x : TypeHandle) → choice_part {D = D} {A = K} {K = A} {T = T} (part.Type x) ≡ None
  no_choice-Type x = rw outs-Type refl

  no_choice-Attribute : (x : A) → choice_part {D = D} {A = K} {K = A} {T = T} (part.Attribute x) ≡ None
  no_choice-Attribute x = rw outs-Attribute refl

  no_choice-Operands : (x : ℕ) → choice_part {D = D} {A = K} {K = A} {T = T} (part.Operands x) ≡ None
  no_choice-Operands x = rw outs-Operands refl

  no_choice-Successor : (x : ℕ) → choice_part {D = D} {A = K} {K = A} {T = T} (part.Successor x) ≡ None
  no_choice-Successor x = rw outs-Successor refl

  no_choice-Region : choice_part {D = D} {A = K} {K = A} {T = T} part.Region ≡ None
  no_choice-Region = rw outs-Region refl

  no_choice-Leaf : (x : LeafValue) → choice_part {D = D} {A = K} {K = A} {T = T} (part.Leaf x) ≡ None
  no_choice-Leaf x = rw outs-Leaf refl

-- ---- leaves

where_small : (b : Bool) (m n : ℕ) → cond b (Some m) None ≡ Some n → (m ≡ n) × (b ≡ true)
where_small true m n e = (cc, refl)
where_small false m n e = none_some n e

where_great : (b : Bool) (m : ℕ) → cond b (Some m) None ≡ None → b ≡ false
where_great true m e = none_some m (sym e)
where_great false m e = refl

past_64_bits : (m : ℕ) → 2 ^ 64 ≤ m → nat_lt m (2 ^ 32) ≡ false
past_64_bits m h = grind (arith, nat_tests)

module _ {D K A T : Type 0} where
  size_leaf : (p : Part D K A T) (l : LeafValue) (x : Leaf) (n : ℕ) → p ≡ part.Leaf l → size_part p ≡ Some n → IsLeaf l x → (x ≡ unsigned n) × (nat_lt n (2 ^ 32) ≡ true)
  size_leaf p (read.Digits (Some k)) (unsigned m) n q e h =
      let small = where_small (nat_lt k (2 ^ 32)) k n (sym (ap size_part q) ∙ e) in
      (ap unsigned (sym h ∙ small.0), ap (λ (i : ℕ). nat_lt i (2 ^ 32)) (sym small.0) ∙ small.1)
  size_leaf p (read.Digits None) x n q e h = none_some n (sym (ap size_part q) ∙ e)
  size_leaf p (read.Digits o) (name cs) n q e h = absurd h
  size_leaf p (read.Digits o) (number b m) n q e h = absurd h
  size_leaf p (read.Digits o) (width sign bits) n q e h = absurd h
  size_leaf p (read.Digits o) (quoted cs) n q e h = absurd h
  size_leaf p (read.Digits o) (mark m) n q e h = absurd h
  size_leaf p (read.Name i) x n q e h = none_some n (sym (ap size_part q) ∙ e)
  size_leaf p (read.Number o) x n q e h = none_some n (sym (ap size_part q) ∙ e)
  size_leaf p (read.Width s o) x n q e h = none_some n (sym (ap size_part q) ∙ e)
  size_leaf p (read.Text s) x n q e h = none_some n (sym (ap size_part q) ∙ e)
  size_leaf p (read.Mark o) x n q e h = none_some n (sym (ap size_part q) ∙ e)

  great_leaf : (p : Part D K A T) (l : LeafValue) (m : ℕ) → p ≡ part.Leaf l → size_part p ≡ None → IsLeaf l (unsigned m) → nat_lt m (2 ^ 32) ≡ false
  great_leaf p (read.Digits (Some k)) m q e h = ap (λ (i : ℕ). nat_lt i (2 ^ 32)) (sym h) ∙ where_great (nat_lt k (2 ^ 32)) k (sym (ap size_part q) ∙ e)
  great_leaf p (read.Digits None) m q e h = past_64_bits m h
  great_leaf p (read.Name i) m q e h = absurd h
  great_leaf p (read.Number o) m q e h = absurd h
  great_leaf p (read.Width s o) m q e h = absurd h
  great_leaf p (read.Text s) m q e h = absurd h
  great_leaf p (read.Mark o) m q e h = absurd h

  text_leaf : (p : Part D K A T) (l : LeafValue) (x : Leaf) (bytes : List ℕ) → p ≡ part.Leaf l → text_part p ≡ Some bytes → IsLeaf l x → x ≡ quoted (chars bytes)
  text_leaf p (read.Text s) (quoted cs) bytes q e h =
      let f : Some (string_bytes s) ≡ Some bytes = sym (ap text_part q) ∙ e in
      let same : string_bytes s ≡ bytes = cc in
      ap quoted (sym h ∙ ap chars same)
  text_leaf p (read.Text s) (name cs) bytes q e h = absurd h
  text_leaf p (read.Text s) (number b m) bytes q e h = absurd h
  text_leaf p (read.Text s) (unsigned m) bytes q e h = absurd h
  text_leaf p (read.Text s) (width sign bits) bytes q e h = absurd h
  text_leaf p (read.Text s) (mark m) bytes q e h = absurd h
  text_leaf p (read.Name i) x bytes q e h = none_some bytes (sym (ap text_part q) ∙ e)
  text_leaf p (read.Number o) x bytes q e h = none_some bytes (sym (ap text_part q) ∙ e)
  text_leaf p (read.Digits o) x bytes q e h = none_some bytes (sym (ap text_part q) ∙ e)
  text_leaf p (read.Width s o) x bytes q e h = none_some bytes (sym (ap text_part q) ∙ e)
  text_leaf p (read.Mark o) x bytes q e h = none_some bytes (sym (ap text_part q) ∙ e)

  no_text : (p : Part D K A T) (l : LeafValue) (cs : List ℕ) → p ≡ part.Leaf l → text_part p ≡ None → IsLeaf l (quoted cs) → ⊥
  no_text p (read.Text s) cs q e h = none_some (string_bytes s) (sym e ∙ ap text_part q)
  no_text p (read.Name i) cs q e h = h
  no_text p (read.Number o) cs q e h = h
  no_text p (read.Digits o) cs q e h = h
  no_text p (read.Width s o) cs q e h = h
  no_text p (read.Mark o) cs q e h = h

module _ {D K A T : Type 0} (says : Saying K A T) (types : List T) where
  -- a number of at most 32 bits is that piece
  pub size_shown : (p : Part D K A T) (n : ℕ) (t : ValueTree) → size_part p ≡ Some n → ShowsPart says types p t → (ts : Pieces) × (t ≡ node (leaf (unsigned n)) ts) × (nat_lt n (2 ^ 32) ≡ true)
  size_shown p n (node (value_of_kind sorts.«Type» k) ts) e h = none_some n (sym (ap size_part h.1) ∙ e)
  size_shown p n (node (value_of_kind sorts.Attribute k) ts) e h = none_some n (sym (ap size_part h.1) ∙ e)
  size_shown p n (node list ts) e h = none_some n (sym (ap size_part h.1) ∙ e)
  size_shown p n (node item ts) e h = absurd h
  size_shown p n (node (chosen k) ts) e h = none_some n (sym (ap size_part h.1) ∙ e)
  size_shown p n (node (operands k) ts) e h = none_some n (sym (ap size_part h) ∙ e)
  size_shown p n (node (successor k) ts) e h = none_some n (sym (ap size_part h) ∙ e)
  size_shown p n (node region ts) e h = none_some n (sym (ap size_part h) ∙ e)
  size_shown p n (node (leaf l) ts) e h =
      let shown = size_leaf p h.0 l n h.1 e h.2 in
      (ts, ap (λ (k : Leaf). node (leaf k) ts) shown.0, shown.1)

  -- what is none is no such piece
  pub not_size : (p : Part D K A T) (t : ValueTree) → size_part p ≡ None → ShowsPart says types p t → is_size t ≡ false
  not_size p (node (leaf (unsigned m)) ts) e h = great_leaf p h.0 m h.1 e h.2
  not_size p (node (leaf (name cs)) ts) e h = refl
  not_size p (node (leaf (number b m)) ts) e h = refl
  not_size p (node (leaf (width sign bits)) ts) e h = refl
  not_size p (node (leaf (quoted cs)) ts) e h = refl
  not_size p (node (leaf (mark m)) ts) e h = refl
  not_size p (node _ ts) e h = refl

  -- a text in quotes is that piece
  pub text_shown : (p : Part D K A T) (bytes : List ℕ) (t : ValueTree) → text_part p ≡ Some bytes → ShowsPart says types p t → (ts : Pieces) × (t ≡ node (leaf (quoted (chars bytes))) ts)
  text_shown p bytes (node (value_of_kind sorts.«Type» k) ts) e h = none_some bytes (sym (ap text_part h.1) ∙ e)
  text_shown p bytes (node (value_of_kind sorts.Attribute k) ts) e h = none_some bytes (sym (ap text_part h.1) ∙ e)
  text_shown p bytes (node list ts) e h = none_some bytes (sym (ap text_part h.1) ∙ e)
  text_shown p bytes (node item ts) e h = absurd h
  text_shown p bytes (node (chosen k) ts) e h = none_some bytes (sym (ap text_part h.1) ∙ e)
  text_shown p bytes (node (operands k) ts) e h = none_some bytes (sym (ap text_part h) ∙ e)
  text_shown p bytes (node (successor k) ts) e h = none_some bytes (sym (ap text_part h) ∙ e)
  text_shown p bytes (node region ts) e h = none_some bytes (sym (ap text_part h) ∙ e)
  text_shown p bytes (node (leaf l) ts) e h = (ts, ap (λ (k : Leaf). node (leaf k) ts) (text_leaf p h.0 l bytes h.1 e h.2))

  -- what is none is no such piece
  pub not_text : (p : Part D K A T) (t : ValueTree) → text_part p ≡ None → ShowsPart says types p t → is_text t ≡ false
  not_text p (node (leaf (quoted cs)) ts) e h = absurd (no_text p h.0 cs h.1 e h.2)
  not_text p (node (leaf (name cs)) ts) e h = refl
  not_text p (node (leaf (number b m)) ts) e h = refl
  not_text p (node (leaf (unsigned m)) ts) e h = refl
  not_text p (node (leaf (width sign bits)) ts) e h = refl
  not_text p (node (leaf (mark m)) ts) e h = refl
  not_text p (node _ ts) e h = refl

  -- a choice is the piece of what is chosen
  pub choice_shown : (p : Part D K A T) (n : ℕ) (vs : Vec (Part D K A T) Global) (t : ValueTree) → choice_part p ≡ Some (n, vs) → ShowsPart says types p t → (ts : Pieces) × (t ≡ node (chosen n) ts) × ShowsParts says types vs.items ts
  choice_shown p n vs (node (value_of_kind sorts.«Type» k) ts) e h = none_some (n, vs) (sym (no_choice-Type h.0) ∙ (sym (ap choice_part h.1) ∙ e))
  choice_shown p n vs (node (value_of_kind sorts.Attribute k) ts) e h = none_some (n, vs) (sym (no_choice-Attribute h.0) ∙ (sym (ap choice_part h.1) ∙ e))
  choice_shown p n vs (node list ts) e h = none_some (n, vs) (sym (no_choice-List h.0) ∙ (sym (ap choice_part h.1) ∙ e))
  choice_shown p n vs (node item ts) e h = absurd h
  choice_shown p n vs (node (chosen k) ts) e h =
      let f : ◌≡◌ {A = Option (ℕ × Vec (Part D K A T) Global)} (Some (k, h.0)) (Some (n, vs)) = sym (a_choice k h.0) ∙ (sym (ap choice_part h.1) ∙ e) in
      let same = some_pair_parts k n h.0 vs f in
      (ts, ap (λ (i : ℕ). node (chosen i) ts) same.0, subst (λ (ws : Vec (Part D K A T) Global). ShowsParts says types ws.items ts) same.1 h.2)
  choice_shown p n vs (node (operands k) ts) e h = none_some (n, vs) (sym (no_choice-Operands k) ∙ (sym (ap choice_part h) ∙ e))
  choice_shown p n vs (node (successor k) ts) e h = none_some (n, vs) (sym (no_choice-Successor k) ∙ (sym (ap choice_part h) ∙ e))
  choice_shown p n vs (node region ts) e h = none_some (n, vs) (sym no_choice-Region ∙ (sym (ap choice_part h) ∙ e))
  choice_shown p n vs (node (leaf l) ts) e h = none_some (n, vs) (sym (no_choice-Leaf h.0) ∙ (sym (ap choice_part h.1) ∙ e))

  -- what is no list is refused as one
  pub not_list : (test : ValueTree → Bool) (p : Part D K A T) (t : ValueTree) → list_part p ≡ None → ShowsPart says types p t → refused_list test (a_tree t no_tree) ≡ Some 0
  not_list test p (node list ts) e h = none_some h.0 (sym e ∙ (ap list_part h.1 ∙ a_list h.0))
  not_list test p (node _ ts) e h = refl

-- so are two pieces
pub two_lists_refused : (test : ValueTree → Bool) (t u : ValueTree) (us : Pieces) → refused_list test (a_tree t (a_tree u us)) ≡ Some 0
two_lists_refused test (node list ts) u us = refl
two_lists_refused test (node _ ts) u us = refl
