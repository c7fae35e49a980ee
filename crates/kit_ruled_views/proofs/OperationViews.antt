-- An operation that keeps the rules is one of a flat function.
use Rattle.std.proofs.Common.{◌≡◌, ℕ, zero, suc, ◌+◌, true, List, [], ◌∷◌, map, take, drop, length, Option, Some}
use Rattle.std.proofs.Common.{option_and_then, slice_get, refl, sym, ap, ◌∙◌, subst, arith}
use Rattle.std.specs.Prelude.{slice_index}
use Rattle.std.proofs.lemmas.Bool.{false≢true}
use Rattle.std.proofs.lemmas.List.{append-nil}
use Rattle.ir_base.specs.declared.types.TypeHandle.{TypeHandle}
use Rattle.ir_program.specs.declared.handles.BasicBlock.{BasicBlock}
use Rattle.ir_program.specs.declared.handles.Ptr.{Ptr}
use Rattle.ir_program.specs.declared.handles.Value.{Value}
use Rattle.ir_trees.specs.Renames.{names_of}
use Rattle.ir_trees.specs.Trees.{Defined, end, block}
use Rattle.kit.specs.Context.{KitTree}
use Rattle.kit_checks.specs.KitWorld.{kit_world}
use Rattle.kit_ops.specs.declared.attributes.KitAttr.{KitAttr}
use Rattle.kit_ops.specs.declared.attributes.KitAttr.TheVariants as attrs
use Rattle.kit_ops.specs.declared.kinds.KitOp.{KitOp}
use Rattle.kit_ops.specs.declared.kinds.KitOp.TheVariants as ops
use Rattle.kit_ops.specs.declared.types.KitType.{KitType}
use Rattle.kit_ops.specs.Keys as keys
use Rattle.ir_names.specs.Dictionary.{attribute_at}
use Rattle.kit.specs.Meaning.{KitOperation, KitBlock, sizes_in}
use Rattle.kit_behaviour.specs.Machine.{Arith, Calculated, Compared, AllEdges, Edge, Plain, Nonzero}
use Rattle.kit_behaviour.specs.Machine.{Op, Const, Calc, Emit, Call, Branch, Return}
use Rattle.kit_checks.specs.Rules.{Counts, HasOperands, FitsKind}
use Rattle.kit_checks.specs.Sites.{block_list}
use Rattle.kit_checks.specs.Words as words
use Rattle.kit_checks.specs.Words.{is_instruction, is_branch, along_edge, segment_sizes, sizes_or_none}
use Rattle.kit_checks.specs.World.{World}
use Rattle.kit_views.specs.FlatView.{kind_of, IsOp, names_in}
use Rattle.kit_views.specs.Reading.{Reading, kit_contents, kit_reading}
use Rattle.kit_ruled_views.proofs.FunctionSites.{KitBlocks, KitBody}
use Rattle.kit_ruled_views.proofs.SmallLists.{none_of, one_of, two_of, some_of, in_two, taken}

-- ---- kinds

-- the sizes of segments, as the rules and as the optimisations read them
pub same_sizes : (o : Option KitAttr) (sizes : List ℕ) → option_and_then words.sizes_in o ≡ Some sizes → sizes_in o
    ≡ sizes
same_sizes (Some (attrs.SegmentSizes x)) sizes h = cc
same_sizes _ sizes h = cc

-- ---- edges

-- an edge that leads to the block with this index and forwards as many values as this has arguments
abbrev pub Leads : KitBlocks → Edge Value → Type 0
Leads blocks e = (body : KitBody) × (slice_get (block_list blocks) e.target ≡ Some body)
    × (length e.forwards ≡ length body.label.arguments)

-- each edge of an operation does
abbrev pub OpLeads : KitBlocks → Op Value → Type 0
OpLeads blocks (Branch s xs e es) = AllEdges (Leads blocks) (e ∷ es)
OpLeads blocks _ = Unit {0}

pub name_at : (bs : KitBlocks) (j : ℕ) (body : KitBody) → slice_get (block_list bs) j ≡ Some body
    → slice_get (names_in bs) j ≡ Some body.label.name
name_at end j body h = cc
name_at (block l os rest) zero body h =
    let mine : KitBody = record { label = l; operations = os } in
    let same : mine ≡ body = cc in
    ap (λ (x : KitBody). Some x.label.name) same
name_at (block l os rest) (suc j) body h = name_at rest j body h

-- these values are handed on to this block of the function
pub record HandsOn (blocks : KitBlocks) (vs : List Value) (target : Ptr BasicBlock) : Type 0 where
  pub place : ℕ
  pub body : KitBody
  pub here : slice_get (block_list blocks) place ≡ Some body
  pub named : body.label.name ≡ target
  pub count : length vs ≡ length body.label.arguments

module _ (blocks : KitBlocks) (vs : List Value) (target : Ptr BasicBlock) (h : HandsOn blocks vs target) where
  abbrev edge_to : Edge Value
  edge_to = record { target = h.place; forwards = vs }

  leads_to : Leads blocks edge_to
  leads_to = (h.body, h.here, h.count)

  leads_there : Some target ≡ slice_get (names_in blocks) h.place
  leads_there = sym (name_at blocks h.place h.body h.here ∙ ap Some h.named)

-- ---- operations

module _ (leads : TypeHandle → Option KitType) (typed : Value → Option TypeHandle) (blocks : KitBlocks) (op : KitTree)
  where
    abbrev world : World KitOperation KitBlock
    world = kit_world leads typed

    -- what an operation of this kind hands on along an edge
    abbrev pub handed : KitOp → ℕ → List Value
    handed k edge = along_edge k (sizes_or_none (segment_sizes world op)) op.head.operands edge

    -- what the rules say of an operation of this kind
    pub record IsRuled (k : KitOp) : Type 0 where
      pub instruction : is_instruction k ≡ true
      pub format : FitsKind world op k
      pub edges : is_branch k ≡ true → (edge : ℕ) (target : Ptr BasicBlock) →
          slice_get op.head.successors edge ≡ Some target → HandsOn blocks (handed k edge) target

    module _ (numbered : List ℕ → ℕ) where
      abbrev reading : Reading kit_contents
      reading = kit_reading leads numbered

      -- it is this operation of a flat function
      pub record OpView : Type 0 where
        pub flat : Op Value
        pub is : IsOp reading (names_in blocks) op.head flat
        pub goes : OpLeads blocks flat

      calc_view : (f : Arith) → op.head.content.kind ≡ kind_of f → Counts op 1 0 0 → HasOperands op 2 → OpView
      calc_view f kind counts operands =
          let d = one_of op.head.results counts.results in
          let x = two_of op.head.operands operands in
          record {
            flat = Calc f (reading.width d.0.holds) d.0.name x.0 x.1;
            is = (
              record {
                kind = kind;
                results = ap names_of d.1;
                operands = x.2;
                successors = ap (map Some) (none_of op.head.successors counts.successors);
              },
              ap (λ (ds : List (Defined Value TypeHandle)). map reading.width (words.types_of ds)) d.1,
            );
            goes = tt;
          }

      br_view : op.head.content.kind ≡ ops.Br → IsRuled ops.Br → OpView
      br_view kind ruled =
          let d = one_of op.head.successors ruled.format.successors in
          let h = ruled.edges refl 0 d.0 (ap (λ l. slice_get l 0) d.1) in
          record {
            flat = Branch Plain [] (edge_to blocks op.head.operands d.0 h) [];
            is = (
              record {
                kind = kind;
                results = ap names_of (none_of op.head.results ruled.format.results);
                operands = sym (append-nil op.head.operands);
                successors = ap (map Some) d.1 ∙ ap (λ o. o ∷ []) (leads_there blocks op.head.operands d.0 h);
              },
              refl,
              refl,
            );
            goes = (leads_to blocks op.head.operands d.0 h, tt);
          }

      cond_br_view : op.head.content.kind ≡ ops.CondBr → IsRuled ops.CondBr → OpView
      cond_br_view kind ruled =
          let z = ruled.format.1 in
          let first : ℕ = z.2.0 in
          let second : ℕ = z.2.1 in
          let sizes : segment_sizes world op ≡ Some (1 ∷ first ∷ second ∷ []) = z.1 ∙ ap Some z.2.2 in
          let d = two_of op.head.successors ruled.format.0.successors in
          let x = some_of op.head.operands (first + second) (omega (arith, z.2.3)) in
          let many : length x.1 ≡ first + second = let e = ap length x.2 in omega (arith, e, z.2.3) in
          let gives : (edge : ℕ) → handed ops.CondBr edge
          ≡ along_edge ops.CondBr (1 ∷ first ∷ second ∷ []) (x.0 ∷ x.1) edge =
          λ edge. ap (λ o. along_edge ops.CondBr (sizes_or_none o) op.head.operands edge) sizes
          ∙ ap (λ l. along_edge ops.CondBr (1 ∷ first ∷ second ∷ []) l edge) x.2 in
          let one : HandsOn blocks (take first x.1) d.0 =
          subst (λ l. HandsOn blocks l d.0) (gives 0) (ruled.edges refl 0 d.0 (ap (λ l. slice_get l 0) d.2)) in
          let two : HandsOn blocks (take second (drop first x.1)) d.1 =
          subst (λ l. HandsOn blocks l d.1) (gives 1) (ruled.edges refl 1 d.1 (ap (λ l. slice_get l 1) d.2)) in
          record {
            flat = Branch Nonzero (x.0 ∷ []) (edge_to blocks (take first x.1) d.0 one)
                (edge_to blocks (take second (drop first x.1)) d.1 two ∷ []);
            is = (
              record {
                kind = kind;
                results = ap names_of (none_of op.head.results ruled.format.0.results);
                operands = x.2 ∙ ap (λ l. x.0 ∷ l) (sym (in_two first second x.1 many));
                successors = ap (map Some) d.2 ∙ λ i. leads_there blocks (take first x.1) d.0 one i
                    ∷ leads_there blocks (take second (drop first x.1)) d.1 two i ∷ [];
              },
              refl,
              refl,
              ap (λ l. slice_index l 1)
                  (same_sizes (attribute_at op.head.content.notes.attributes keys.segment_sizes)
                  (1 ∷ first ∷ second ∷ []) sizes)
                  ∙ sym (taken first second x.1 many),
            );
            goes = (
              leads_to blocks (take first x.1) d.0 one,
              (leads_to blocks (take second (drop first x.1)) d.1 two, tt),
            );
          }

      view_of : (k : KitOp) → op.head.content.kind ≡ k → IsRuled k → OpView
      view_of ops.Module kind ruled = absurd (false≢true ruled.instruction)
      view_of ops.Func kind ruled = absurd (false≢true ruled.instruction)
      view_of ops.ForwardRef kind ruled = absurd (false≢true ruled.instruction)
      view_of ops.Constant kind ruled =
          let d = one_of op.head.results ruled.format.0.results in
          record {
            flat = Const d.0.name (reading.number op.head.content);
            is = (
              record {
                kind = kind;
                results = ap names_of d.1;
                operands = none_of op.head.operands ruled.format.1;
                successors = ap (map Some) (none_of op.head.successors ruled.format.0.successors);
              },
              refl,
            );
            goes = tt;
          }
      view_of (ops.Arithmetic a) kind ruled =
          calc_view (Calculated a) kind ruled.format.0 ruled.format.1
      view_of (ops.Comparison a) kind ruled =
          calc_view (Compared a) kind ruled.format.0 ruled.format.1
      view_of ops.Br kind ruled = br_view kind ruled
      view_of ops.CondBr kind ruled = cond_br_view kind ruled
      view_of ops.Call kind ruled = record {
        flat = Call (names_of op.head.results) (reading.callee op.head.content) op.head.operands;
        is = (
          record {
            kind = kind;
            results = refl;
            operands = refl;
            successors = ap (map Some) (none_of op.head.successors ruled.format.numbers.0.successors);
          },
          refl,
        );
        goes = tt;
      }
      view_of ops.Emit kind ruled =
          let x = one_of op.head.operands ruled.format.1 in
          record {
            flat = Emit x.0;
            is = record {
              kind = kind;
              results = ap names_of (none_of op.head.results ruled.format.0.results);
              operands = x.1;
              successors = ap (map Some) (none_of op.head.successors ruled.format.0.successors);
            };
            goes = tt;
          }
      view_of ops.Return kind ruled = record {
        flat = Return op.head.operands;
        is = record {
          kind = kind;
          results = ap names_of (none_of op.head.results ruled.format.results);
          operands = refl;
          successors = ap (map Some) (none_of op.head.successors ruled.format.successors);
        };
        goes = tt;
      }

      pub op_view : IsRuled op.head.content.kind → OpView
      op_view ruled = view_of op.head.content.kind refl ruled
