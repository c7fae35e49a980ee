-- Which segments there are.
use Rattle.std.proofs.Common.{◌≡◌, ℕ, ◌+◌, ◌<◌, List, Option, Some, IfSome, length, sum, take, refl, sym, ◌∙◌, subst}
use Rattle.ir_program.specs.Program.{Program}
use Rattle.ir_program.specs.declared.handles.Ptr.{Ptr}
use Rattle.ir_program.specs.declared.handles.Operation.{Operation}
use Rattle.ir_context.specs.declared.notes.OperationData.{OperationData}
use Rattle.builtin_ifaces.specs.Segments.{HasSegment, HasSegments, expected_segments}

module _ {D TypeKind AttrKind TypeBody Saved Location OpKind Attr TypeKey B : Type 0} (held_sizes : Attr → Option (List ℕ)) (segment_count : OpKind → List (List ℕ × Attr) → ℕ) (c : Program (OperationData D TypeKind AttrKind TypeBody Saved Location OpKind Attr TypeKey) B) (op : Ptr Operation) where
  -- a segment is one of those that the dialect expects
  pub within_count : (s start end n : ℕ) → HasSegment held_sizes segment_count c op s start end → expected_segments held_sizes segment_count c op ≡ Some n → s < n
  within_count s start end n has e =
      let both : Some (length has.sizes) ≡ Some n = sym has.are.many ∙ e in
      let same : length has.sizes ≡ n = cc in
      subst (λ (k : ℕ). s < k) same has.within.there

  -- where the operands are in segments, there are those that the dialect expects
  pub segment_there : (s : ℕ) (rule : HasSegments held_sizes segment_count c op) → IfSome (expected_segments held_sizes segment_count c op) (λ n. s < n) → HasSegment held_sizes segment_count c op s (sum (take s rule.0)) (sum (take (s + 1) rule.0))
  segment_there s rule within = record {
    sizes = rule.0;
    are = rule.1;
    within = record {
      there = subst (λ (o : Option ℕ). IfSome o (λ n. s < n)) rule.1.many within;
      begins = refl;
      ends = refl;
    };
  }
