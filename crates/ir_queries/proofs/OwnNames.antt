-- Values and blocks with one unique name are the same.
use Rattle.std.proofs.Common.{◌≡◌, ℕ, ◌<◌, ◌+◌, ◌^◌, List, [], ◌∷◌, ◌++◌, Option, Some, None, refl, sym, ap, ◌∙◌, arith, append_assoc, decimal}
use Rattle.ir_program.specs.Program.{Program, IsLiveValue}
use Rattle.ir_program.specs.declared.handles.Ptr.{Ptr}
use Rattle.ir_program.specs.declared.handles.BasicBlock.{BasicBlock}
use Rattle.ir_program.specs.declared.handles.Value.{Value}
use Rattle.ir_program.proofs.made.Frames.{same_handle}
use Rattle.ir_program.proofs.made.Lent.{same_key}
use Rattle.ir_context.specs.declared.notes.OperationData.{OperationData}
use Rattle.ir_context.specs.declared.notes.BlockNotes.{BlockNotes}
use Rattle.ir_queries.specs.Naming.{value, block, HasProgramNumbers, id_text, with_id, HaveOwnNames}
use Rattle.ir_queries.proofs.DigitLemmas.{decimal_same, next_low, low_enough}
use Rattle.ir_queries.proofs.Splits.{decimal_low, split_once, ends_apart, empty_apart}

-- what stands before an id
front : Option (List ℕ) → List ℕ
front None = []
front (Some name) = name ++ 95 ∷ []

-- what stands before the slot of a block
abbrev before_slot : Option (List ℕ) → List ℕ
before_slot name = front name ++ 98 ∷ 108 ∷ 111 ∷ 99 ∷ []

-- what stands before the last `v` of a block's unique name
abbrev before_version : Option (List ℕ) → Ptr BasicBlock → List ℕ
before_version name b = before_slot name ++ 107 ∷ decimal (b.key.slot + 1)

value-written : (name : Option (List ℕ)) (v : Value) → with_id name (id_text (value v)) ≡ front name ++ 118 ∷ decimal v.number
unfolding front
value-written None v = refl
value-written (Some name) v = refl

block-written : (name : Option (List ℕ)) (b : Ptr BasicBlock) → with_id name (id_text (block b)) ≡ before_version name b ++ 118 ∷ decimal b.key.version
unfolding front
block-written None b = append_assoc (98 ∷ 108 ∷ 111 ∷ 99 ∷ 107 ∷ decimal (b.key.slot + 1)) (118 ∷ []) (decimal b.key.version)
block-written (Some name) b =
    ap (λ t. (name ++ 95 ∷ []) ++ t) (append_assoc (98 ∷ 108 ∷ 111 ∷ 99 ∷ 107 ∷ decimal (b.key.slot + 1)) (118 ∷ []) (decimal b.key.version))
    ∙ sym (append_assoc (name ++ 95 ∷ []) (98 ∷ 108 ∷ 111 ∷ 99 ∷ 107 ∷ decimal (b.key.slot + 1)) (118 ∷ decimal b.key.version))
    ∙ ap (λ t. t ++ 118 ∷ decimal b.key.version) (sym (append_assoc (name ++ 95 ∷ []) (98 ∷ 108 ∷ 111 ∷ 99 ∷ []) (107 ∷ decimal (b.key.slot + 1))))

front-apart : (name : Option (List ℕ)) (xs : List ℕ) (n : ℕ) → n < 10 ^ 64 → front name ≡ xs ++ 107 ∷ decimal n → ⊥
unfolding front
front-apart None xs n low same = empty_apart xs (decimal n) 107 same
front-apart (Some name) xs n low same = ends_apart 95 107 (omega arith) (λ e. omega (arith, e)) name xs (decimal n) (decimal_low n low) same

same-number : (p q : Option (List ℕ)) (v w : Value) → v.number < 2 ^ 64 → w.number < 2 ^ 64 → with_id p (id_text (value v)) ≡ with_id q (id_text (value w)) → v.number ≡ w.number
same-number p q v w v-low w-low same = decimal_same v.number w.number (low_enough v.number v-low) (low_enough w.number w-low)
    (split_once 118 (omega arith) (front p) (front q) (decimal v.number) (decimal w.number) (decimal_low v.number (low_enough v.number v-low)) (decimal_low w.number (low_enough w.number w-low)) (sym (value-written p v) ∙ same ∙ value-written q w)).1

same-slot : (m n : ℕ) → m < 2 ^ 64 → n < 2 ^ 64 → decimal (m + 1) ≡ decimal (n + 1) → m ≡ n
same-slot m n m-low n-low same = let next : m + 1 ≡ n + 1 = decimal_same (m + 1) (n + 1) (next_low m m-low) (next_low n n-low) same in omega (arith, next)

same-block : (p q : Option (List ℕ)) (b d : Ptr BasicBlock) → HasProgramNumbers (block b) → HasProgramNumbers (block d) → with_id p (id_text (block b)) ≡ with_id q (id_text (block d)) → b ≡ d
same-block p q b d b-low d-low same =
    let at_v : (before_version p b ≡ before_version q d) × (decimal b.key.version ≡ decimal d.key.version) =
    split_once 118 (omega arith) (before_version p b) (before_version q d) (decimal b.key.version) (decimal d.key.version) (decimal_low b.key.version (low_enough b.key.version b-low.1)) (decimal_low d.key.version (low_enough d.key.version d-low.1)) (sym (block-written p b) ∙ same ∙ block-written q d) in
    let at_k : (before_slot p ≡ before_slot q) × (decimal (b.key.slot + 1) ≡ decimal (d.key.slot + 1)) =
    split_once 107 (omega arith) (before_slot p) (before_slot q) (decimal (b.key.slot + 1)) (decimal (d.key.slot + 1)) (decimal_low (b.key.slot + 1) (next_low b.key.slot b-low.0)) (decimal_low (d.key.slot + 1) (next_low d.key.slot d-low.0)) at_v.0 in
    same_handle b d (same_key b.key d.key (same-slot b.key.slot d.key.slot b-low.0 d-low.0 at_k.1) (decimal_same b.key.version d.key.version (low_enough b.key.version b-low.1) (low_enough d.key.version d-low.1) at_v.1))

never-same : (p q : Option (List ℕ)) (v : Value) (b : Ptr BasicBlock) → v.number < 2 ^ 64 → HasProgramNumbers (block b) → with_id p (id_text (value v)) ≡ with_id q (id_text (block b)) → ⊥
never-same p q v b v-low b-low same = front-apart p (before_slot q) (b.key.slot + 1) (next_low b.key.slot b-low.0)
    (split_once 118 (omega arith) (front p) (before_version q b) (decimal v.number) (decimal b.key.version) (decimal_low v.number (low_enough v.number v-low)) (decimal_low b.key.version (low_enough b.key.version b-low.1)) (sym (value-written p v) ∙ same ∙ block-written q b)).0

module _ {D TypeKind AttrKind TypeBody Saved Location OpKind Attr TypeKey : Type 0} (key : List ℕ) (names_in : Attr → Option (List (Option (List ℕ))))
    (c : Program (OperationData D TypeKind AttrKind TypeBody Saved Location OpKind Attr TypeKey) (BlockNotes D TypeKind AttrKind TypeBody Saved Location OpKind Attr TypeKey)) where
  -- where values with one number are the same
  pub own_names : ((v w : Value) → IsLiveValue c v → IsLiveValue c w → v.number ≡ w.number → v ≡ w) → HaveOwnNames key names_in c
  own_names own (value v) (value w) text v-live w-live v-low w-low p q = ap value (own v w v-live w-live (same-number p.name q.name v w v-low w-low (sym p.joined ∙ q.joined)))
  own_names own (block b) (block d) text b-live d-live b-low d-low p q = ap block (same-block p.name q.name b d b-low d-low (sym p.joined ∙ q.joined))
  own_names own (value v) (block b) text v-live b-live v-low b-low p q = absurd (never-same p.name q.name v b v-low b-low (sym p.joined ∙ q.joined))
  own_names own (block b) (value v) text b-live v-live b-low v-low p q = absurd (never-same q.name p.name v b v-low b-low (sym q.joined ∙ p.joined))
