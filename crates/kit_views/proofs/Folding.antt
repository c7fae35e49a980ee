-- Folding on attributes and folding on numbers.
use Rattle.std.proofs.Common.{◌≡◌, ℕ, ◌^◌, ◌<◌, ◌≤◌, Bool, true, false, List, [], ◌∷◌, Option, Some, None, refl, sym, ap, ◌∙◌, subst, arith}
use Rattle.std.specs.Prelude.{nat_le, option_map, if◌then◌else◌, ◌&&◌}
use Rattle.ir_base.specs.declared.types.TypeHandle.{TypeHandle}
use Rattle.opt_rows.specs.declared.known.Known.{Known}
use Rattle.opt_rows.specs.declared.known.Known.TheVariants as known
use Rattle.opt_rows.specs.Known.{asked}
use Rattle.kit_behaviour.specs.Facts.{Fact, Unknown, fold_known, folds_to}
use Rattle.kit_behaviour.specs.Facts as flat
use Rattle.kit_behaviour.specs.Machine.{Arith, Calculated, Compared, calc}
use Rattle.kit_ops.specs.Arithmetic.{compare, bit}
use Rattle.kit_ops.specs.Arithmetic as whole
use Rattle.kit_ops.proofs.Operators.{calc_below}
use Rattle.kit_ops.specs.declared.attributes.IntegerAttr.{IntegerAttr}
use Rattle.kit_ops.specs.declared.arithmetic.Arithmetic.{Arithmetic}
use Rattle.kit_ops.specs.declared.arithmetic.Comparison.{Comparison}
use Rattle.kit_ops.specs.declared.kinds.KitOp.TheVariants as ops
use Rattle.kit_ops.specs.declared.types.KitType.{KitType}
use Rattle.kit.specs.Folded.{same_number}
use Rattle.kit.specs.Meaning.{Entries, are_numbers, with_bits, bit_of, if_of_type, fold_of}
use Rattle.kit_views.specs.Reading.{integer_of}
use Rattle.kit_views.specs.FlatView.{kind_of}
use Rattle.kit_views.specs.Typed.{number_as, width_at, IsMachineInteger, LeadsToBit}

some_bit : (b : Bool) → (if b then 1 else 0) ≡ bit b
some_bit true = refl
some_bit false = refl

module _ (leads : TypeHandle → Option KitType) where
  -- which types arithmetic and comparisons have
  abbrev pub Fits : Arith → TypeHandle → TypeHandle → Type 0
  Fits (Calculated a) tx tr = tx ≡ tr
  Fits (Compared c) tx tr = LeadsToBit leads tr

  integer_width : (ty : TypeHandle) → IsMachineInteger leads ty → (1 ≤ width_at leads ty) × (width_at leads ty ≤ 64)
  integer_width ty i =
      let e : width_at leads ty ≡ i.0.width = ap (λ z. (integer_of z).width) i.1 in (omega (arith, e, i.2), omega (arith, e, i.3))

  le_true : (a b : ℕ) → a ≤ b → nat_le a b ≡ true
  le_true a b h = grind (arith, h)

  numbers : (ty : TypeHandle) (n m : ℕ) → IsMachineInteger leads ty → are_numbers (number_as leads ty n) (number_as leads ty m) ≡ true
  numbers ty n m i =
      let w = integer_width ty i in
      λ j. same_number ty.number j && (le_true 1 (width_at leads ty) w.0 j && le_true (width_at leads ty) 64 w.1 j)

  pub of_type : (ty : TypeHandle) (n : ℕ) → if_of_type ty (Some (number_as leads ty n)) ≡ Some (number_as leads ty n)
  of_type ty n = ap (λ b. if b then Some (number_as leads ty n) else None) (same_number ty.number)

  -- arithmetic on two numbers of one type
  fold_arith : (k : Arithmetic) (es : Entries) (ty : TypeHandle) (n m : ℕ) (o : Option ℕ) → IsMachineInteger leads ty → whole.calc k (width_at leads ty) n m ≡ o → fold_of (ops.Arithmetic k) es (ty ∷ []) (Some (number_as leads ty n) ∷ Some (number_as leads ty m) ∷ []) ≡ option_map (number_as leads ty) o ∷ []
  fold_arith k es ty n m o i e =
      let a = number_as leads ty n in
      ap (λ b. if_of_type ty (if b then with_bits a (whole.calc k (width_at leads ty) n m) else None) ∷ []) (numbers ty n m i)
      ∙ (ap (λ z. if_of_type ty (with_bits a z) ∷ []) e ∙ step o)
    where
      step : (o : Option ℕ) → if_of_type ty (with_bits (number_as leads ty n) o) ∷ [] ≡ option_map (number_as leads ty) o ∷ []
      step None = refl
      step (Some c) = ap (λ z. z ∷ []) (of_type ty c)

  bit_is : (tr : TypeHandle) (b : Bool) (c : ℕ) → LeadsToBit leads tr → (if b then 1 else 0) ≡ c → bit_of tr b ≡ number_as leads tr c
  bit_is tr b c i e = λ j. record { ty = tr; integer = ap integer_of (sym i) j; bits = e j }

  fold_compare : (k : Comparison) (es : Entries) (ty tr : TypeHandle) (n m : ℕ) → IsMachineInteger leads ty → LeadsToBit leads tr → fold_of (ops.Comparison k) es (tr ∷ []) (Some (number_as leads ty n) ∷ Some (number_as leads ty m) ∷ []) ≡ Some (number_as leads tr (bit (compare k n m))) ∷ []
  fold_compare k es ty tr n m i t =
      ap (λ b. if_of_type tr (if b then Some (bit_of tr (compare k n m)) else None) ∷ []) (numbers ty n m i)
      ∙ (ap (λ z. if_of_type tr (Some z) ∷ []) (bit_is tr (compare k n m) (bit (compare k n m)) t (some_bit (compare k n m))) ∙ ap (λ z. z ∷ []) (of_type tr (bit (compare k n m))))

  -- of known operands both fold alike
  fold_numbers : (a : Arith) (es : Entries) (tx tr : TypeHandle) (n m : ℕ) → IsMachineInteger leads tx → Fits a tx tr → fold_of (kind_of a) es (tr ∷ []) (Some (number_as leads tx n) ∷ Some (number_as leads tx m) ∷ []) ≡ option_map (number_as leads tr) (calc a (width_at leads tr) n m) ∷ []
  fold_numbers (Calculated a) es tx tr n m i t =
      subst (λ z. fold_of (ops.Arithmetic a) es (z ∷ []) (Some (number_as leads tx n) ∷ Some (number_as leads tx m) ∷ []) ≡ option_map (number_as leads z) (whole.calc a (width_at leads z) n m) ∷ []) t
      (fold_arith a es tx n m (whole.calc a (width_at leads tx) n m) i refl)
  fold_numbers (Compared c) es tx tr n m i t = fold_compare c es tx tr n m i t

  -- and what comes out fits
  bit_small : (tr : TypeHandle) (b : Bool) → LeadsToBit leads tr → bit b < 2 ^ width_at leads tr
  bit_small tr b t = subst (λ w. bit b < 2 ^ w) (sym (ap (λ z. (integer_of z).width) t)) (small b)
    where
      small : (b : Bool) → bit b < 2 ^ 1
      small true = omega arith
      small false = omega arith

  abbrev pub Below : TypeHandle → Option ℕ → Type 0
  Below tr None = Unit {0}
  Below tr (Some c) = c < 2 ^ width_at leads tr

  below_all : (tr : TypeHandle) (o : Option ℕ) → ((c : ℕ) → o ≡ Some c → c < 2 ^ width_at leads tr) → Below tr o
  below_all tr None h = tt
  below_all tr (Some c) h = h c refl

  fold_below : (a : Arith) (tx tr : TypeHandle) (n m : ℕ) → Fits a tx tr → n < 2 ^ width_at leads tx → Below tr (calc a (width_at leads tr) n m)
  fold_below (Calculated a) tx tr n m t h = below_all tr (whole.calc a (width_at leads tr) n m)
      (λ c e. calc_below a (width_at leads tr) n m c (subst (λ z. n < 2 ^ width_at leads z) t h) e)
  fold_below (Compared c) tx tr n m t h = bit_small tr (compare c n m) t

  -- a value is known alike in both: as a number of its type, or as any
  pub data Det (ty : TypeHandle) (k : Known IntegerAttr) (l : Fact) : Type 0 where
    number : (n : ℕ) → k ≡ known.One (number_as leads ty n) → l ≡ flat.Known n → n < 2 ^ width_at leads ty → Det ty k l
    any : k ≡ known.Any → l ≡ Unknown → Det ty k l

  -- what both make of two operands
  pub record FoldPair (a : Arith) (es : Entries) (tr : TypeHandle) (kx ky : Known IntegerAttr) (lx ly : Fact) : Type 0 where
    pub qs : List (Option IntegerAttr)
    pub asks : asked (kx ∷ ky ∷ []) ≡ Some qs
    pub o : Option ℕ
    pub folds : fold_of (kind_of a) es (tr ∷ []) qs ≡ option_map (number_as leads tr) o ∷ []
    pub numbers_fold : folds_to a (width_at leads tr) lx ly ≡ fold_known o
    pub below : Below tr o

  second_open : (a : Arith) (es : Entries) (tr : TypeHandle) (x : IntegerAttr) → fold_of (kind_of a) es (tr ∷ []) (Some x ∷ None ∷ []) ≡ None ∷ []
  second_open (Calculated a) es tr x = refl
  second_open (Compared c) es tr x = refl

  first_open : (a : Arith) (es : Entries) (tr : TypeHandle) (y : Option IntegerAttr) → fold_of (kind_of a) es (tr ∷ []) (None ∷ y ∷ []) ≡ None ∷ []
  first_open (Calculated a) es tr y = refl
  first_open (Compared c) es tr y = refl

  pub fold_pair : (a : Arith) (es : Entries) (tx tr : TypeHandle) (kx ky : Known IntegerAttr) (lx ly : Fact) → IsMachineInteger leads tx → Fits a tx tr → Det tx kx lx → Det tx ky ly → FoldPair a es tr kx ky lx ly
  fold_pair a es tx tr kx ky lx ly i t (number n e f h) (number m p q j) = record {
    qs = Some (number_as leads tx n) ∷ Some (number_as leads tx m) ∷ [];
    asks = λ z. asked (e z ∷ p z ∷ []);
    o = calc a (width_at leads tr) n m;
    folds = fold_numbers a es tx tr n m i t;
    numbers_fold = λ z. folds_to a (width_at leads tr) (f z) (q z);
    below = fold_below a tx tr n m t h;
  }
  fold_pair a es tx tr kx ky lx ly i t (number n e f h) (any p q) = record {
    qs = Some (number_as leads tx n) ∷ None ∷ [];
    asks = λ z. asked (e z ∷ p z ∷ []);
    o = None;
    folds = second_open a es tr (number_as leads tx n);
    numbers_fold = λ z. folds_to a (width_at leads tr) (f z) (q z);
    below = tt;
  }
  fold_pair a es tx tr kx ky lx ly i t (any e f) (number m p q j) = record {
    qs = None ∷ Some (number_as leads tx m) ∷ [];
    asks = λ z. asked (e z ∷ p z ∷ []);
    o = None;
    folds = first_open a es tr (Some (number_as leads tx m));
    numbers_fold = λ z. folds_to a (width_at leads tr) (f z) (q z);
    below = tt;
  }
  fold_pair a es tx tr kx ky lx ly i t (any e f) (any p q) = record {
    qs = None ∷ None ∷ [];
    asks = λ z. asked (e z ∷ p z ∷ []);
    o = None;
    folds = first_open a es tr None;
    numbers_fold = λ z. folds_to a (width_at leads tr) (f z) (q z);
    below = tt;
  }
