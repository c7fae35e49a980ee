-- Operations and blocks that stand for texts mean what the texts say.
use Rattle.std.proofs.Common.{◌≡◌, inl, inr, ℕ, List, [], ◌∷◌, ◌++◌, map, length, refl, sym, ap, ◌∙◌}
use Rattle.std.specs.Prelude.{unwrap_or}
use Rattle.ir_base.specs.declared.types.TypeHandle.{TypeHandle}
use Rattle.ir_print.specs.Pieces.{ValueTree, Pieces}
use Rattle.ir_print.specs.Shown.{Pairs}
use Rattle.ir_program.specs.Program.{OperationView, BlockView, TypedValue}
use Rattle.ir_program.specs.declared.handles.BasicBlock.{BasicBlock}
use Rattle.ir_program.specs.declared.handles.Operation.{Operation}
use Rattle.ir_program.specs.declared.handles.Ptr.{Ptr}
use Rattle.ir_program.specs.declared.handles.Value.{Value}
use Rattle.ir_trees.specs.Renames.{rename_defined, rename_head, rename_label, names_of, values_at, forget}
use Rattle.ir_trees.specs.Stands.{head_of, label_of, defined_by}
use Rattle.ir_trees.proofs.Alike.{nothing}
use Rattle.opt_meanings.specs.Meanings.{mean_defined, mean_head, mean_label}
use Rattle.text_dialect.specs.Seen.{seen_operation, types_of}
use Rattle.text_dialect.specs.Standing.{HasDefinition, HasHead}
use Rattle.text_rereading.specs.Rereading.{Numbering, Named}
use Rattle.kit.specs.Meaning.{KitOperation, KitBlock}
use Rattle.kit_ops.specs.declared.kinds.KitOp.{KitOp}
use Rattle.kit_ops.specs.declared.kinds.KitOp.TheVariants as ops
use Rattle.kit_ops.specs.declared.types.KitType.{KitType}
use Rattle.kit.specs.Says.{says}
use Rattle.kit.specs.Readable.{numbered_kind}
use Rattle.kit_text_programs.proofs.SaidHeads.{said_parts}
use Rattle.kit_text_programs.proofs.SaidPrograms.{numbers_in}
use Rattle.kit_text_programs.proofs.AlikeLists.{pairs_joined}
use Rattle.kit_text_programs.specs.SameLaws.{types_among}
use Rattle.kit_text_programs.specs.Meanings.{entries_meant, meanings, operation_meant}
use Rattle.kit_text_programs.proofs.SaidTexts.AttributeMaps.{no_entries}
use Rattle.kit_text_programs.proofs.SaidTexts.SaidAttributes.{Numbered, numbered_front, attributes_meant}
use Rattle.kit_text_programs.proofs.SaidTexts.SaidMeanings.{Written, kind_said, attributes_said, operation_said}
use Rattle.kit_text_programs.proofs.SaidTexts.SaidMeanings.{defined_said}
use Rattle.kit_text_programs.proofs.SaidTexts.SaidMeanings.{head_said, label_said}

-- the types of results or arguments
abbrev pub types_in : Written → List ValueTree
types_in rs = map (λ (r : ℕ × ValueTree). r.1) rs

module _ (number : ValueTree → ℕ) (code : TypeHandle → ℕ) (keys : List KitType) (numbering : Numbering) where
  abbrev Defines : List TypedValue → Written → Type 0
  Defines vs rs = Pairs (HasDefinition says (Named numbering) keys) vs rs

  -- definitions have types with the numbers of those that are written
  defined_meant : (vs : List TypedValue) (rs : Written) → Defines vs rs → Numbered number code keys (types_in rs)
      → map (rename_defined (nothing {X = Value})) (map (mean_defined code) (map defined_by vs))
      ≡ map (defined_said number) rs
  defined_meant [] [] d n = refl
  defined_meant [] (r ∷ rs) d n = absurd d
  defined_meant (v ∷ vs) [] d n = absurd d
  defined_meant (v ∷ vs) (r ∷ rs) d n =
      let type : code v.ty ≡ number r.1 = n v.ty r.1 d.0.1 (inl refl) in
      let rest = defined_meant vs rs d.1 (λ h q shown has. n h q shown (inr has)) in
      λ i. record { name = tt; holds = type i } ∷ rest i

  -- and values with the numbers that are written
  pub defined_named : (vs : List TypedValue) (rs : Written) → Defines vs rs
      → Pairs (Named numbering).value (names_of (map (mean_defined code) (map defined_by vs))) (numbers_in rs)
  defined_named [] [] d = tt
  defined_named [] (r ∷ rs) d = absurd d
  defined_named (v ∷ vs) [] d = absurd d
  defined_named (v ∷ vs) (r ∷ rs) d = (d.0.0, defined_named vs rs d.1)

  -- operands and successors are as many as are written
  used_meant : {X : Type 0} (R : X → ℕ → Type 0) (vs : List X) (ns : List ℕ) → Pairs R vs ns
      → map (nothing {X = X}) vs ≡ map (nothing {X = ℕ}) ns
  used_meant R [] [] h = refl
  used_meant R [] (n ∷ ns) h = absurd h
  used_meant R (v ∷ vs) [] h = absurd h
  used_meant R (v ∷ vs) (n ∷ ns) h = let rest = used_meant R vs ns h.1 in λ i. tt ∷ rest i

  module _ (p : Ptr Operation) (v : OperationView KitOperation) (kind : ℕ) (results : Written) (used successors : List ℕ)
      (pieces : Pieces) (h : HasHead says (Named numbering) keys (seen_operation v) kind results used successors pieces) where
    -- values of the operation have the numbers that are written
    pub head_named : Pairs (Named numbering).value (values_at (mean_head (meanings code) (head_of p v)))
        (numbers_in results ++ used)
    head_named = pairs_joined (Named numbering).value (names_of (map (mean_defined code) (map defined_by v.results))) v.operands
        (numbers_in results) used (defined_named v.results results h.defines) h.mentions

    module _ (n : Numbered number code keys (types_in results ++ types_among pieces)) where
      kind_is : v.payload.kind ≡ kind_said kind
      kind_is = let parts = said_parts v.payload.kind v.payload.notes.attributes (length v.operands) (types_of v.results)
          kind h.said h.says_it in
          sym (ap (λ o. unwrap_or o ops.Module) (numbered_kind v.payload.kind kind parts.2))

      content_meant : operation_meant code v.payload ≡ operation_said number kind results pieces
      content_meant =
          let at = attributes_meant number code (Named numbering) keys v.payload.notes.attributes (length v.operands) kind
          v.results h.said pieces results h.shown h.defines n v.payload.kind h.says_it in
          λ i. record {
            kind = kind_is i;
            attributes = λ key. (at key ∙ ap (λ (k : KitOp). attributes_said number k results pieces key) kind_is) i;
          }

      -- the operation means what is written
      pub head_meant : rename_head forget (mean_head (meanings code) (head_of p v))
          ≡ head_said number kind results used successors pieces
      head_meant =
          let defined = defined_meant v.results results h.defines
          (numbered_front number code keys (types_in results) (types_among pieces) n) in
          let operands = used_meant (Named numbering).value v.operands used h.mentions in
          let goes = used_meant (Named numbering).block v.successors successors h.goes_on in
          λ i. record {
            name = tt;
            content = content_meant i;
            results = defined i;
            operands = operands i;
            successors = goes i;
          }

  -- a block without attributes means what is written
  pub label_meant : (b : Ptr BasicBlock) (v : BlockView KitBlock) (arguments : Written)
      → length v.payload.attributes ≡ 0 → Defines v.arguments arguments → Numbered number code keys (types_in arguments)
      → rename_label forget (mean_label (meanings code) (label_of b v)) ≡ label_said number arguments
  label_meant b v arguments none d n =
      let defined = defined_meant v.arguments arguments d n in
      let bare = ap (entries_meant code) (no_entries v.payload.attributes none) in
      λ i. record { name = tt; content = bare i; arguments = defined i }
