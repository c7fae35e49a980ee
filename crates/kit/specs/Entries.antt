-- What changes of attributes under names change.
use Rattle.std.proofs.Common.{◌≡◌, ℕ, Bool, true, false, List, [], ◌∷◌, Option, Some, None, refl, sym, ap, ◌∙◌}
use Rattle.std.specs.Prelude.{if◌then◌else◌, slice_index}
use Rattle.std.specs.Str.{bytes_eq}
use Rattle.ir_names.specs.Dictionary.{attribute_at, with_attribute}
use Rattle.kit_ops.specs.declared.attributes.KitAttr.{KitAttr}
use Rattle.kit_ops.specs.declared.attributes.KitAttr.TheVariants as attrs
use Rattle.kit_ops.specs.declared.kinds.KitOp.{KitOp}
use Rattle.kit_ops.specs.declared.kinds.KitOp.TheVariants as ops
use Rattle.kit.specs.Dropped.{kept, second_left, all_sizes, all_names}
use Rattle.kit_ops.specs.Keys.{segment_sizes}
use Rattle.kit.specs.Meaning.{Entries, sizes_in, first_size, changed_to, changed_at, without_operands}
use Rattle.kit.specs.Meaning.{without_names, dropped_of}

none_some : {A X : Type 0} {a : A} → None ≡ Some a → X
none_some e = cc

-- what is there, put there again, changes nothing
pub with_same : (es : Entries) (key : List ℕ) (a : KitAttr) → attribute_at es key ≡ Some a
    → with_attribute es key a ≡ es
with_same [] key a e = none_some e
with_same (x ∷ es) key a e = step (bytes_eq key x.0) e (with_same es key a)
  where
    step : (b : Bool) → (if b then Some x.1 else attribute_at es key) ≡ Some a
        → (attribute_at es key ≡ Some a → with_attribute es key a ≡ es)
        → (if b then (x.0, a) ∷ es else x ∷ with_attribute es key a) ≡ x ∷ es
    step true e rest = let f : x.1 ≡ a = cc in ap (λ z. (x.0, z) ∷ es) (sym f)
    step false e rest = ap (λ ys. x ∷ ys) (rest e)

-- what is put under a name is there
with_there : (es : Entries) (key : List ℕ) (a b : KitAttr) → attribute_at es key ≡ Some a
    → attribute_at (with_attribute es key b) key ≡ Some b
with_there [] key a b e = none_some e
with_there (x ∷ es) key a b e = step (bytes_eq key x.0) refl e (with_there es key a b)
  where
    step : (y : Bool) → bytes_eq key x.0 ≡ y → (if y then Some x.1 else attribute_at es key) ≡ Some a
        → (attribute_at es key ≡ Some a → attribute_at (with_attribute es key b) key ≡ Some b)
        → attribute_at (if y then (x.0, b) ∷ es else x ∷ with_attribute es key b) key ≡ Some b
    step true same e rest = ap (λ (y : Bool). if y then Some b else attribute_at es key) same
    step false same e rest =
        ap (λ (y : Bool). if y then Some x.1 else attribute_at (with_attribute es key b) key) same ∙ rest e

changed_same : (es : Entries) (key : List ℕ) (f : KitAttr → KitAttr) → ((a : KitAttr) → f a ≡ a)
    → changed_at es key f ≡ es
changed_same es key f h = by_case (attribute_at es key) refl
  where
    by_case : (o : Option KitAttr) → attribute_at es key ≡ o → changed_to es key f o ≡ es
    by_case None e = refl
    by_case (Some a) e = ap (with_attribute es key) (h a) ∙ with_same es key a e

all_operands : (a : KitAttr) → without_operands (λ i. false) a ≡ a
all_operands (attrs.SegmentSizes v) = ap attrs.SegmentSizes (all_sizes v)
all_operands a = refl

all_arguments : (a : KitAttr) → without_names (λ i. false) a ≡ a
all_arguments (attrs.GivenNames v) = ap attrs.GivenNames (all_names v)
all_arguments a = refl

pub drops_nothing : (k : KitOp) (es : Entries) → dropped_of k (λ i. false) es ≡ es
drops_nothing ops.CondBr es = changed_same es segment_sizes (without_operands (λ i. false)) all_operands
drops_nothing k es = refl

pub loses_no_names : (es : Entries) (key : List ℕ) → changed_at es key (without_names (λ i. false)) ≡ es
loses_no_names es key = changed_same es key (without_names (λ i. false)) all_arguments

-- how many operands a conditional branch forwards to its first successor, after some went
abbrev first_of : Option KitAttr → ℕ
first_of o = slice_index (sizes_in o) 1

first_less : (p : ℕ → Bool) (a : KitAttr) → first_of (Some (without_operands p a)) ≡ kept p 1 (first_of (Some a))
first_less p (attrs.SegmentSizes v) = second_left p v.items _
first_less p a = refl

pub first_left : (p : ℕ → Bool) (es : Entries)
    → first_size (changed_at es segment_sizes (without_operands p)) ≡ kept p 1 (first_size es)
first_left p es = by_case (attribute_at es segment_sizes) refl
  where
    by_case : (o : Option KitAttr) → attribute_at es segment_sizes ≡ o
        → first_size (changed_to es segment_sizes (without_operands p) o) ≡ kept p 1 (first_of o)
    by_case None e = ap first_of e
    by_case (Some a) e =
        ap first_of (with_there es segment_sizes a (without_operands p a) e) ∙ first_less p a
