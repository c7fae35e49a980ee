-- What the dialect says of what is said is what `kit` says of operations.
use Rattle.std.proofs.Common.{◌≡◌, ℕ, zero, suc, Bool, true, false, cond, List, [], ◌∷◌, length, map, Option, Some}
use Rattle.std.proofs.Common.{None, refl, sym, ap, ◌∙◌}
use Rattle.std.specs.Prelude.{bytes_eq, if◌then◌else◌, nat_eq, nat_le, option_and_then, option_map, replicate}
use Rattle.std.specs.Prelude.{slice_index, ◌&&◌}
use Rattle.std.proofs.lemmas.Bool.Decides.{same_from_decides, Decides-eqb, Decides-like}
use Rattle.std.proofs.lemmas.Slice.Eq.{bytes_eq-Decides}
use Rattle.ir_base.specs.declared.types.TypeHandle.{TypeHandle}
use Rattle.ir_names.specs.Dictionary.{attribute_at}
use Rattle.ir_names.proofs.Entries.{attribute_at-with_attribute}
use Rattle.opt_meanings.specs.Meanings.{IsMeant, Bijection, all_to, all_from, worded}
use Rattle.kit_ops.specs.Arithmetic.{calc, compare}
use Rattle.kit_ops.specs.Keys.{constant_value, given_names, segment_sizes}
use Rattle.kit_ops.specs.declared.attributes.IntegerAttr.{IntegerAttr}
use Rattle.kit_ops.specs.declared.attributes.KitAttr.{KitAttr}
use Rattle.kit_ops.specs.declared.attributes.KitAttr.TheVariants as attrs
use Rattle.kit_ops.specs.declared.arithmetic.Arithmetic.{Arithmetic}
use Rattle.kit_ops.specs.declared.arithmetic.Comparison.{Comparison}
use Rattle.kit_ops.specs.declared.kinds.KitOp.{KitOp}
use Rattle.kit_ops.specs.declared.kinds.KitOp.TheVariants as ops
use Rattle.kit.specs.Meaning.{Entries, kit}
use Rattle.kit.specs.Meaning as kits
use Rattle.kit_text_programs.specs.Meanings.{Number, Attribute, Integer, integers, kit_said, meanings, number_meant}
use Rattle.kit_text_programs.specs.Meanings.{attribute_meant, entries_meant, number_in, are_numbers, with_bits}
use Rattle.kit_text_programs.specs.Meanings.{calculated, bit_of, compared}
use Rattle.kit_text_programs.specs.Meanings.{of_both, value_of, if_of_type, fold_of, edge_of, feasible_of, sizes_in}
use Rattle.kit_text_programs.specs.Meanings.{without_operands, changed_at, dropped_of, alone_at}

-- a choice between two, where both ways are the same
chosen : {X : Type 0} (b c : Bool) (x y z : X) → b ≡ c → x ≡ y → (if b then x else z) ≡ (if c then y else z)
chosen b c x y z e f = λ i. if e i then f i else z

none_mapped : {X Y : Type 0} (f : X → Y) (n : ℕ) → map (option_map f) (replicate n None) ≡ replicate n None
none_mapped f zero = refl
none_mapped f (suc n) = ap (λ l. None ∷ l) (none_mapped f n)

long_mapped : {X Y : Type 0} (f : X → Y) (xs : List X) → length (map f xs) ≡ length xs
long_mapped f [] = refl
long_mapped f (x ∷ xs) = ap suc (long_mapped f xs)

module _ (w : Bijection TypeHandle ℕ) where
  abbrev meant : IntegerAttr → Number
  meant = number_meant w.to

  abbrev told : Number → IntegerAttr
  told = (integers w).from

  abbrev said : Entries → List ℕ → Option Attribute
  said = entries_meant w.to

  -- types are told apart by their numbers
  same_types : (x y : TypeHandle) → nat_eq (w.to x) (w.to y) ≡ nat_eq x.number y.number
  same_types x y = same_from_decides (nat_eq (w.to x) (w.to y)) (nat_eq x.number y.number)
      (Decides-like (nat_eq (w.to x) (w.to y)) (λ e. sym (w.there x) ∙ ap w.from e ∙ w.there y) (λ e. ap w.to e) (Decides-eqb (w.to x) (w.to y)))
      (Decides-like (nat_eq x.number y.number) (λ e i. record { number = e i }) (λ e i. (e i).number) (Decides-eqb x.number y.number))

  same_told : (m n : ℕ) → nat_eq m n ≡ nat_eq (w.from m).number (w.from n).number
  same_told m n = sym (λ i. nat_eq (w.back m i) (w.back n i)) ∙ same_types (w.from m) (w.from n)

  -- 1. folds

  if_typed : (t : TypeHandle) (q : Option IntegerAttr) →
      if_of_type (w.to t) (option_map meant q) ≡ option_map meant (kits.if_of_type t q)
  if_typed t None = refl
  if_typed t (Some a) = by (nat_eq (w.to a.ty) (w.to t)) (nat_eq a.ty.number t.number) (same_types a.ty t)
    where
      by : (b c : Bool) → b ≡ c → (if b then Some (meant a) else None) ≡ option_map meant (if c then Some a else None)
      by true true e = refl
      by false false e = refl
      by true false e = cc e
      by false true e = cc e

  numbers_told : (a b : Number) → are_numbers a b ≡ kits.are_numbers (told a) (told b)
  numbers_told a b = ap (λ c. c && (nat_le 1 a.integer.width && nat_le a.integer.width 64)) (same_told a.ty b.ty)

  bits_put : (a : Number) (q : Option ℕ) → with_bits a q ≡ option_map meant (kits.with_bits (told a) q)
  bits_put a None = refl
  bits_put a (Some n) = λ i. Some (record { ty = sym (w.back a.ty) i; integer = a.integer; bits = n })

  calculated_told : (k : Arithmetic) (a b : Number) → calculated k a b ≡ option_map meant (kits.calculated k (told a) (told b))
  calculated_told k a b = by (are_numbers a b) (kits.are_numbers (told a) (told b)) (numbers_told a b)
    where
      by : (c d : Bool) → c ≡ d → (if c then with_bits a (calc k a.integer.width a.bits b.bits) else None)
          ≡ option_map meant (if d then kits.with_bits (told a) (calc k a.integer.width a.bits b.bits) else None)
      by true true e = bits_put a (calc k a.integer.width a.bits b.bits)
      by false false e = refl
      by true false e = cc e
      by false true e = cc e

  compared_told : (k : Comparison) (t : TypeHandle) (a b : Number) →
      compared k (w.to t) a b ≡ option_map meant (kits.compared k t (told a) (told b))
  compared_told k t a b = by (are_numbers a b) (kits.are_numbers (told a) (told b)) (numbers_told a b)
    where
      by : (c d : Bool) → c ≡ d → (if c then Some (bit_of (w.to t) (compare k a.bits b.bits)) else None)
          ≡ option_map meant (if d then Some (kits.bit_of t (compare k a.bits b.bits)) else None)
      by true true e = refl
      by false false e = refl
      by true false e = cc e
      by false true e = cc e

  both_told : (f : Number → Number → Option Number) (g : IntegerAttr → IntegerAttr → Option IntegerAttr) →
      ((a b : Number) → f a b ≡ option_map meant (g (told a) (told b))) → (xs : List (Option Number)) →
      of_both f xs ≡ option_map meant (kits.of_both g (all_from (integers w) xs))
  both_told f g same [] = refl
  both_told f g same (None ∷ xs) = refl
  both_told f g same (Some a ∷ []) = refl
  both_told f g same (Some a ∷ (None ∷ xs)) = refl
  both_told f g same (Some a ∷ (Some b ∷ [])) = same a b
  both_told f g same (Some a ∷ (Some b ∷ (x ∷ xs))) = refl

  number_said : (q : Option KitAttr) → number_in (option_and_then (attribute_meant w.to) q) ≡ option_map meant (kits.integer_in q)
  number_said None = refl
  number_said (Some (attrs.Integer a)) = refl
  number_said (Some (attrs.Identifier name)) = refl
  number_said (Some (attrs.«Type» ty)) = refl
  number_said (Some (attrs.SegmentSizes sizes)) = refl
  number_said (Some (attrs.GivenNames names)) = refl
  number_said (Some (attrs.Note text)) = refl
  number_said (Some (attrs.Origin text)) = refl

  value_told : (k : KitOp) (es : Entries) (t : TypeHandle) (xs : List (Option Number)) →
      value_of k (said es) (w.to t) xs ≡ option_map meant (kits.value_of k es t (all_from (integers w) xs))
  value_told ops.Constant es t xs = number_said (attribute_at es constant_value)
  value_told (ops.Arithmetic k) es t xs = both_told (calculated k) (kits.calculated k) (calculated_told k) xs
  value_told (ops.Comparison k) es t xs = both_told (compared k (w.to t)) (kits.compared k t) (compared_told k t) xs
  value_told ops.Module es t xs = refl
  value_told ops.Func es t xs = refl
  value_told ops.ForwardRef es t xs = refl
  value_told ops.Br es t xs = refl
  value_told ops.CondBr es t xs = refl
  value_told ops.Call es t xs = refl
  value_told ops.Emit es t xs = refl
  value_told ops.Return es t xs = refl

  fold_told : (k : KitOp) (es : Entries) (ts : List TypeHandle) (xs : List (Option Number)) →
      fold_of k (said es) (map w.to ts) xs ≡ all_to (integers w) (kits.fold_of k es ts (all_from (integers w) xs))
  fold_told k es [] xs = refl
  fold_told k es (t ∷ []) xs =
      ap (λ q. q ∷ []) (ap (if_of_type (w.to t)) (value_told k es t xs) ∙ if_typed t (kits.value_of k es t (all_from (integers w) xs)))
  fold_told k es (t ∷ (u ∷ ts)) xs =
      ap (λ n. replicate (suc (suc n)) None) (long_mapped w.to ts) ∙ sym (none_mapped meant (suc (suc (length ts))))

  -- 2. branches

  edge_told : (k : KitOp) (xs : List (Option Number)) → edge_of k xs ≡ kits.edge_of k (all_from (integers w) xs)
  edge_told ops.CondBr [] = refl
  edge_told ops.CondBr (None ∷ xs) = refl
  edge_told ops.CondBr (Some a ∷ xs) = refl
  edge_told ops.Br xs = refl
  edge_told ops.Module xs = refl
  edge_told ops.Func xs = refl
  edge_told ops.Constant xs = refl
  edge_told ops.ForwardRef xs = refl
  edge_told (ops.Arithmetic k) xs = refl
  edge_told (ops.Comparison k) xs = refl
  edge_told ops.Call xs = refl
  edge_told ops.Emit xs = refl
  edge_told ops.Return xs = refl

  feasible_told : (k : KitOp) (xs : List (Option Number)) (i : ℕ) →
      feasible_of k xs i ≡ kits.feasible_of k (all_from (integers w) xs) i
  feasible_told ops.CondBr [] i = refl
  feasible_told ops.CondBr (None ∷ xs) i = refl
  feasible_told ops.CondBr (Some a ∷ xs) i = refl
  feasible_told ops.Br xs i = refl
  feasible_told ops.Module xs i = refl
  feasible_told ops.Func xs i = refl
  feasible_told ops.Constant xs i = refl
  feasible_told ops.ForwardRef xs i = refl
  feasible_told (ops.Arithmetic k) xs i = refl
  feasible_told (ops.Comparison k) xs i = refl
  feasible_told ops.Call xs i = refl
  feasible_told ops.Emit xs i = refl
  feasible_told ops.Return xs i = refl

  sizes_said : (q : Option KitAttr) → sizes_in (option_and_then (attribute_meant w.to) q) ≡ kits.sizes_in q
  sizes_said None = refl
  sizes_said (Some (attrs.Integer a)) = refl
  sizes_said (Some (attrs.Identifier name)) = refl
  sizes_said (Some (attrs.«Type» ty)) = refl
  sizes_said (Some (attrs.SegmentSizes sizes)) = refl
  sizes_said (Some (attrs.GivenNames names)) = refl
  sizes_said (Some (attrs.Note text)) = refl
  sizes_said (Some (attrs.Origin text)) = refl

  -- 3. what goes, and what is made

  less_said : (p : ℕ → Bool) (a : KitAttr) →
      option_map (without_operands p) (attribute_meant w.to a) ≡ attribute_meant w.to (kits.without_operands p a)
  less_said p (attrs.Integer a) = refl
  less_said p (attrs.Identifier name) = refl
  less_said p (attrs.«Type» ty) = refl
  less_said p (attrs.SegmentSizes sizes) = refl
  less_said p (attrs.GivenNames names) = refl
  less_said p (attrs.Note text) = refl
  less_said p (attrs.Origin text) = refl

  -- names of values mean nothing, whichever of them go
  names_said : (p : ℕ → Bool) (a : KitAttr) →
      option_map (λ x. x) (attribute_meant w.to a) ≡ attribute_meant w.to (kits.without_names p a)
  names_said p (attrs.Integer a) = refl
  names_said p (attrs.Identifier name) = refl
  names_said p (attrs.«Type» ty) = refl
  names_said p (attrs.SegmentSizes sizes) = refl
  names_said p (attrs.GivenNames names) = refl
  names_said p (attrs.Note text) = refl
  names_said p (attrs.Origin text) = refl

  -- attributes of which one changes mean what they meant, but for the one
  module _ (f : Attribute → Attribute) (g : KitAttr → KitAttr)
      (less : (a : KitAttr) → option_map f (attribute_meant w.to a) ≡ attribute_meant w.to (g a)) where
    changed_said : (es : Entries) (key other : List ℕ) →
        changed_at (said es) key f other ≡ said (kits.changed_at es key g) other
    changed_said es key other = by (attribute_at es key) refl
      where
        at_other : (q : Option KitAttr) (b : Bool) →
            (if b then option_map f (option_and_then (attribute_meant w.to) q) else said es other)
            ≡ option_and_then (attribute_meant w.to) (if b then option_map g q else attribute_at es other)
        at_other None true = refl
        at_other (Some a) true = less a
        at_other q false = refl

        same_key : (b : Bool) → bytes_eq key other ≡ b → attribute_at es key ≡ None →
            (if b then None else attribute_at es other) ≡ attribute_at es other
        same_key true f e = sym e ∙ ap (attribute_at es) ((bytes_eq-Decides key other).0 f)
        same_key false f e = refl

        by : (q : Option KitAttr) → attribute_at es key ≡ q →
            changed_at (said es) key f other ≡ said (kits.changed_at es key g) other
        by None e =
            ap (λ z. if bytes_eq key other then option_map f (option_and_then (attribute_meant w.to) z) else said es other) e
            ∙ at_other None (bytes_eq key other)
            ∙ ap (option_and_then (attribute_meant w.to)) (same_key (bytes_eq key other) refl e)
            ∙ ap (λ z. said (kits.changed_to es key g z) other) (sym e)
        by (Some a) e =
            ap (λ z. if bytes_eq key other then option_map f (option_and_then (attribute_meant w.to) z) else said es other) e
            ∙ at_other (Some a) (bytes_eq key other)
            ∙ ap (option_and_then (attribute_meant w.to)) (sym (attribute_at-with_attribute es key (g a) other))
            ∙ ap (λ z. said (kits.changed_to es key g z) other) (sym e)

  -- a map of which one attribute is put again is the map
  put_again : (at : List ℕ → Option Attribute) (key other : List ℕ) → changed_at at key (λ a. a) other ≡ at other
  put_again at key other = by (bytes_eq key other) refl
    where
      whole : (q : Option Attribute) → option_map (λ a. a) q ≡ q
      whole None = refl
      whole (Some a) = refl

      by : (b : Bool) → bytes_eq key other ≡ b → (if b then option_map (λ a. a) (at key) else at other) ≡ at other
      by true e = whole (at key) ∙ ap at ((bytes_eq-Decides key other).0 e)
      by false e = refl

  -- attributes mean what they meant when names of values go
  unnamed_said : (es : Entries) (p : ℕ → Bool) (key : List ℕ) →
      said es key ≡ said (kits.changed_at es given_names (kits.without_names p)) key
  unnamed_said es p key = sym (put_again (said es) given_names key)
      ∙ changed_said (λ a. a) (kits.without_names p) (names_said p) es given_names key

  dropped_said : (k : KitOp) (p : ℕ → Bool) (es : Entries) (key : List ℕ) →
      dropped_of k p (said es) key ≡ said (kits.dropped_of k p es) key
  dropped_said ops.CondBr p es key =
      changed_said (without_operands p) (kits.without_operands p) (less_said p) es segment_sizes key
  dropped_said ops.Br p es key = refl
  dropped_said ops.Module p es key = refl
  dropped_said ops.Func p es key = refl
  dropped_said ops.Constant p es key = refl
  dropped_said ops.ForwardRef p es key = refl
  dropped_said (ops.Arithmetic k) p es key = refl
  dropped_said (ops.Comparison k) p es key = refl
  dropped_said ops.Call p es key = refl
  dropped_said ops.Emit p es key = refl
  dropped_said ops.Return p es key = refl

  alone_said : (a : Number) (key : List ℕ) →
      alone_at constant_value (Integer a) key ≡ said ((constant_value, attrs.Integer (told a)) ∷ []) key
  alone_said a key = by (bytes_eq key constant_value)
    where
      by : (b : Bool) → (if b then Some (Integer a) else None)
          ≡ option_and_then (attribute_meant w.to) (cond b (Some (attrs.Integer (told a))) None)
      by true = λ i. Some (Integer (record { ty = sym (w.back a.ty) i; integer = a.integer; bits = a.bits }))
      by false = refl

  pub kit_meant : IsMeant (meanings w.to) (worded (integers w) kit) kit_said
  kit_meant = record {
    is_foldable = λ c. refl;
    fold = λ c ts xs. fold_told c.kind c.notes.attributes ts xs;
    is_branch = λ c. refl;
    feasible = λ c xs i. feasible_told c.kind xs i;
    edge = λ c xs. edge_told c.kind xs;
    forwards = λ c n s. ap (λ xs. kits.forwards_of c.kind (slice_index xs 1) n s) (sizes_said (attribute_at c.notes.attributes segment_sizes));
    is_terminator = λ c. refl;
    has_effects = λ c. refl;
    can_remove = λ c region first. refl;
    plain = refl;
    is_plain = λ c. refl;
    constant = λ a i. Some (record { kind = ops.Constant; attributes = λ key. alone_said a key i });
    constant_type = λ a. sym (w.back a.ty);
    is_constant = λ c. refl;
    is_ssa = λ c region. refl;
    drop_operands = λ c p i. record { kind = c.kind; attributes = λ key. dropped_said c.kind p c.notes.attributes key i };
    drop_names = λ b p i. λ key. unnamed_said b.attributes p key i;
  }
