-- The labels whose blocks aren't made yet, and the blocks of the others.
use Rattle.std.proofs.Common.{◌≡◌, ◌∙◌, inl, inr, ℕ, List, [], ◌∷◌, ◌++◌, map, length, Some, slice_get, Vec, sym, ap, subst, append_assoc, append-nil, length-append, arith}
use Rattle.std.specs.Global.{Global}
use Rattle.ir_program.specs.declared.handles.BasicBlock.{BasicBlock}
use Rattle.ir_program.specs.declared.handles.Ptr.{Ptr}
use Rattle.text_frames.specs.building.Loose.{IsDefinedBlock}
use Rattle.text_frames.specs.declared.opened.Body.{Body}
use Rattle.text_frames.specs.declared.opened.Open.{Open}
use Rattle.text_frames.specs.Worlds.{joined}
use Rattle.text_frames.proofs.Rising.{get_last}
use Rattle.text_assembling.specs.declared.assembling.Assembler.{Assembler}
use Rattle.text_assembling.specs.Assembling.{AreLabelled, Stage, all_open, unmade_label, unmade_labels}
use Rattle.text_assembling.proofs.Lists.{concat_put, concat_two, get_either, only_one}

module _ {D K A T : Type 0} where
  -- the label of what is open, if it is a block that isn't made
  abbrev pub label_in : Open D K A T → List ℕ
  label_in f = unmade_label f.body f.first

  -- the labels of what is around, and then that of what is innermost
  pub unmade_split : (a : Assembler D K A T) → unmade_labels (all_open a) ≡ unmade_labels a.around.items ++ label_in a.here
  unmade_split a = concat_put label_in a.around.items a.here

  unmade_split_two : (a : Assembler D K A T) (front : List (Open D K A T)) (g : Open D K A T) → a.around.items ≡ front ++ g ∷ []
      → unmade_labels (all_open a) ≡ unmade_labels front ++ (label_in g ++ label_in a.here)
  unmade_split_two a front g e =
      ap (λ (fs : List (Open D K A T)). joined (map label_in (fs ++ a.here ∷ []))) e ∙ concat_two label_in front g a.here

  -- the same body at the same token
  pub unmade_same : (f g : Open D K A T) → g.body ≡ f.body → g.first ≡ f.first → label_in g ≡ label_in f
  unmade_same f g e k = ap (λ (b : Body D K A T). unmade_label b g.first) e ∙ ap (unmade_label f.body) k

  -- where what is innermost has the same label
  pub unmade_here : (a c : Assembler D K A T) → c.around.items ≡ a.around.items → label_in c.here ≡ label_in a.here → unmade_labels (all_open c) ≡ unmade_labels (all_open a)
  unmade_here a c e k =
      unmade_split c ∙ (ap (λ (fs : List (Open D K A T)). unmade_labels fs ++ label_in c.here) e
      ∙ (ap (λ (ns : List ℕ). unmade_labels a.around.items ++ ns) k ∙ sym (unmade_split a)))

  -- where something begins
  pub unmade_begun : (a c : Assembler D K A T) (ls : List ℕ) → c.around.items ≡ a.around.items ++ a.here ∷ [] → label_in c.here ≡ ls
      → unmade_labels (all_open c) ≡ unmade_labels (all_open a) ++ ls
  unmade_begun a c ls e k =
      ap (λ (fs : List (Open D K A T)). joined (map label_in (fs ++ c.here ∷ []))) e
      ∙ (concat_put label_in (a.around.items ++ a.here ∷ []) c.here ∙ ap (λ (ns : List ℕ). unmade_labels (all_open a) ++ ns) k)

  -- where something ends that has no label, and what was around it keeps its own
  pub unmade_ended : (a c : Assembler D K A T) (g : Open D K A T) → a.around.items ≡ c.around.items ++ g ∷ [] → label_in c.here ≡ label_in g → label_in a.here ≡ []
      → unmade_labels (all_open c) ≡ unmade_labels (all_open a)
  unmade_ended a c g e k none =
      unmade_split c ∙ (ap (λ (ns : List ℕ). unmade_labels c.around.items ++ ns) (k ∙ (sym (append-nil (label_in g)) ∙ ap (λ (ns : List ℕ). label_in g ++ ns) (sym none)))
      ∙ sym (unmade_split_two a c.around.items g e))

  -- ---- blocks of labels

  pub labelled_same : (s t : Stage K A T) (a c : Assembler D K A T) (labels : List ℕ) → unmade_labels (all_open c) ≡ unmade_labels (all_open a) → c.made.blocks ≡ a.made.blocks
      → ((b : Ptr BasicBlock) → IsDefinedBlock s.ctx b → IsDefinedBlock t.ctx b) → AreLabelled s a labels → AreLabelled t c labels
  labelled_same s t a c labels unmade same keeps h =
      let items : c.made.blocks.items ≡ a.made.blocks.items = ap (λ (v : Vec (Ptr BasicBlock) Global). v.items) same in
      record {
        made = h.made;
        all = h.all ∙ ap (λ (ns : List ℕ). h.made ++ ns) (sym unmade);
        many = h.many ∙ ap (λ (bs : List (Ptr BasicBlock)). length bs) (sym items);
        there = λ n b e. keeps b (h.there n b (ap (λ (bs : List (Ptr BasicBlock)). slice_get bs n) (sym items) ∙ e));
      }

  -- what begins may bring a label, whose block isn't made
  pub labelled_begun : (s : Stage K A T) (a c : Assembler D K A T) (labels ls : List ℕ) → unmade_labels (all_open c) ≡ unmade_labels (all_open a) ++ ls → c.made.blocks ≡ a.made.blocks
      → AreLabelled s a labels → AreLabelled s c (labels ++ ls)
  labelled_begun s a c labels ls unmade same h =
      let items : c.made.blocks.items ≡ a.made.blocks.items = ap (λ (v : Vec (Ptr BasicBlock) Global). v.items) same in
      record {
        made = h.made;
        all = ap (λ (ns : List ℕ). ns ++ ls) h.all ∙ (append_assoc h.made (unmade_labels (all_open a)) ls ∙ ap (λ (ns : List ℕ). h.made ++ ns) (sym unmade));
        many = h.many ∙ ap (λ (bs : List (Ptr BasicBlock)). length bs) (sym items);
        there = λ n b e. h.there n b (ap (λ (bs : List (Ptr BasicBlock)). slice_get bs n) (sym items) ∙ e);
      }

  -- the block of the innermost label is made, which is the only one without block
  module _ (s t : Stage K A T) (a c : Assembler D K A T) (labels : List ℕ) (k : ℕ) (p : Ptr BasicBlock) (h : AreLabelled s a labels) (none : unmade_labels a.around.items ≡ []) (last : label_in a.here ≡ k ∷ [])
      (more : c.made.blocks.items ≡ a.made.blocks.items ++ p ∷ []) where
    labels_were : labels ≡ h.made ++ k ∷ []
    labels_were = h.all ∙ ap (λ (ns : List ℕ). h.made ++ ns) (unmade_split a ∙ (ap (λ (ns : List ℕ). ns ++ label_in a.here) none ∙ last))

    -- its label has its number
    pub label_numbered : slice_get labels (length h.made) ≡ Some k
    label_numbered = ap (λ (ns : List ℕ). slice_get ns (length h.made)) labels_were ∙ get_last h.made k

    pub block_numbered : slice_get c.made.blocks.items (length h.made) ≡ Some p
    block_numbered = ap (λ (bs : List (Ptr BasicBlock)). slice_get bs (length h.made)) more
        ∙ (ap (λ (n : ℕ). slice_get (a.made.blocks.items ++ p ∷ []) n) h.many ∙ get_last a.made.blocks.items p)

    pub labelled_made : c.around.items ≡ a.around.items → label_in c.here ≡ [] → ((b : Ptr BasicBlock) → IsDefinedBlock s.ctx b → IsDefinedBlock t.ctx b) → IsDefinedBlock t.ctx p → AreLabelled t c labels
    labelled_made around own keeps new = record {
      made = h.made ++ k ∷ [];
      all = labels_were ∙ (sym (append-nil (h.made ++ k ∷ [])) ∙ ap (λ (ns : List ℕ). (h.made ++ k ∷ []) ++ ns)
          (sym (unmade_split c ∙ (ap (λ (fs : List (Open D K A T)). unmade_labels fs ++ label_in c.here) around ∙ (ap (λ (ns : List ℕ). ns ++ label_in c.here) none ∙ own)))));
      many = length-append h.made (k ∷ []) ∙ (let m = h.many in let l = ap (λ (bs : List (Ptr BasicBlock)). length bs) more ∙ length-append a.made.blocks.items (p ∷ []) in omega (arith, m, l));
      there = λ n b e. elim (get_either a.made.blocks.items (p ∷ []) n b (ap (λ (bs : List (Ptr BasicBlock)). slice_get bs n) (sym more) ∙ e)) [
        | inl f ↦ keeps b (h.there n b f)
        | inr f ↦ subst (λ (q : Ptr BasicBlock). IsDefinedBlock t.ctx q) (only_one p f.0 b f.1).1 new
      ];
    }
