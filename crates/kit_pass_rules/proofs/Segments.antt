-- Segments of operands of which some go.
use Rattle.std.proofs.Common.{◌≡◌, ℕ, zero, suc, ◌+◌, ◌-◌, ◌<◌, Bool, true, false, List, [], ◌∷◌, ◌++◌, map, take, length, Option, Some, option_and_then, slice_get, refl, sym, ap, ◌∙◌, arith}
use Rattle.std.specs.Prelude.{if◌then◌else◌, min, nat_eq}
use Rattle.std.specs.Prelude as std
use Rattle.std.specs.Global.{Vec}
use Rattle.ir_names.specs.Dictionary.{attribute_at}
use Rattle.ir_names.proofs.Entries.{attribute_at-with_attribute}
use Rattle.kit.specs.Dropped.{kept, less_sizes}
use Rattle.kit.specs.Meaning.{Entries, changed_to, changed_at, without_operands, range, forwards_of, first_size}
use Rattle.kit.specs.Meaning as kit_meaning
use Rattle.kit_checks.specs.Words.{segment, sizes_in}
use Rattle.kit_ops.specs.declared.attributes.KitAttr.{KitAttr}
use Rattle.kit_ops.specs.declared.attributes.KitAttr.TheVariants as attrs
use Rattle.kit_ops.specs.declared.kinds.KitOp.TheVariants as ops
use Rattle.kit_ops.specs.Keys as keys
use Rattle.kit_checks.proofs.Down.{both}
use Rattle.opt_trees.specs.Dialect.{drop}
use Rattle.opt_trees.proofs.Lists.{some_same, none_some}

-- ---- what is left of lists

pub drop_same : {X : Type 0} (p q : ℕ → Bool) (xs : List X) → ((i : ℕ) → i < length xs → p i ≡ q i) → drop p xs ≡ drop q xs
drop_same p q [] h = refl
drop_same p q (x ∷ xs) h =
    (λ j. if h 0 (omega arith) j then drop (λ i. p (suc i)) xs else x ∷ drop (λ i. p (suc i)) xs)
    ∙ ap (λ l. if q 0 then l else x ∷ l) (drop_same (λ i. p (suc i)) (λ i. q (suc i)) xs (λ i less. h (suc i) (omega (arith, less))))

pub drop_map : {X Y : Type 0} (p : ℕ → Bool) (f : X → Y) (xs : List X) → drop p (map f xs) ≡ map f (drop p xs)
drop_map p f [] = refl
drop_map {X} {Y} p f (x ∷ xs) = step (p 0) (drop_map (λ i. p (suc i)) f xs)
  where
    step : (b : Bool) → drop (λ i. p (suc i)) (map f xs) ≡ map f (drop (λ i. p (suc i)) xs) →
        (if b then drop (λ i. p (suc i)) (map f xs) else f x ∷ drop (λ i. p (suc i)) (map f xs)) ≡ map f (if b then drop (λ i. p (suc i)) xs else x ∷ drop (λ i. p (suc i)) xs)
    step true e = e
    step false e = ap (λ l. f x ∷ l) e

-- a predicate from an index on
abbrev pub from : (ℕ → Bool) → ℕ → ℕ → Bool
from p s i = p (s + i)

from_suc : (p : ℕ → Bool) (s i : ℕ) → from p (suc s) i ≡ from p s (suc i)
from_suc p s i = let e : suc s + i ≡ s + suc i = omega arith in ap p e

pub drop_append : {X : Type 0} (p : ℕ → Bool) (s : ℕ) (xs ys : List X) → drop (from p s) (xs ++ ys) ≡ drop (from p s) xs ++ drop (from p (s + length xs)) ys
drop_append p s [] ys = drop_same (from p s) (from p (s + 0)) ys (λ i less. let e : s + i ≡ (s + 0) + i = omega arith in ap p e)
drop_append {X} p s (x ∷ xs) ys = step (p (s + 0)) (behind ∙ (drop_append p (suc s) xs ys ∙ joined_same))
  where
    behind : drop (λ i. from p s (suc i)) (xs ++ ys) ≡ drop (from p (suc s)) (xs ++ ys)
    behind = drop_same (λ i. from p s (suc i)) (from p (suc s)) (xs ++ ys) (λ i less. sym (from_suc p s i))

    joined_same : drop (from p (suc s)) xs ++ drop (from p (suc s + length xs)) ys ≡ drop (λ i. from p s (suc i)) xs ++ drop (from p (s + length (x ∷ xs))) ys
    joined_same =
        ap (λ l. l ++ drop (from p (suc s + length xs)) ys) (drop_same (from p (suc s)) (λ i. from p s (suc i)) xs (λ i less. from_suc p s i))
        ∙ ap (λ l. drop (λ i. from p s (suc i)) xs ++ l) (drop_same (from p (suc s + length xs)) (from p (s + length (x ∷ xs))) ys
        (λ i less. let e : (suc s + length xs) + i ≡ (s + length (x ∷ xs)) + i = omega arith in ap p e))

    step : (b : Bool) → drop (λ i. from p s (suc i)) (xs ++ ys) ≡ drop (λ i. from p s (suc i)) xs ++ drop (from p (s + length (x ∷ xs))) ys →
        (if b then drop (λ i. from p s (suc i)) (xs ++ ys) else x ∷ drop (λ i. from p s (suc i)) (xs ++ ys))
        ≡ (if b then drop (λ i. from p s (suc i)) xs else x ∷ drop (λ i. from p s (suc i)) xs) ++ drop (from p (s + length (x ∷ xs))) ys
    step true e = e
    step false e = ap (λ l. x ∷ l) e

pub drop_count : {X : Type 0} (p : ℕ → Bool) (s : ℕ) (xs : List X) → length (drop (from p s) xs) ≡ kept p s (length xs)
drop_count p s [] = refl
drop_count {X} p s (x ∷ xs) =
    step (p (s + 0)) (ap length (drop_same (λ i. from p s (suc i)) (from p (suc s)) xs (λ i less. sym (from_suc p s i))) ∙ drop_count p (suc s) xs)
    ∙ (let e : s + 0 ≡ s = omega arith in ap (λ z. if p z then kept p (suc s) (length xs) else suc (kept p (suc s) (length xs))) e)
  where
    step : (b : Bool) → length (drop (λ i. from p s (suc i)) xs) ≡ kept p (suc s) (length xs) →
        length (if b then drop (λ i. from p s (suc i)) xs else x ∷ drop (λ i. from p s (suc i)) xs) ≡ (if b then kept p (suc s) (length xs) else suc (kept p (suc s) (length xs)))
    step true e = e
    step false e = ap suc e

-- ---- runs

pub take_front : {X : Type 0} (xs ys : List X) (n : ℕ) → length xs ≡ n → take n (xs ++ ys) ≡ xs
take_front [] ys zero e = refl
take_front [] ys (suc n) e = absurd (omega (arith, e))
take_front (x ∷ xs) ys zero e = absurd (omega (arith, e))
take_front (x ∷ xs) ys (suc n) e = ap (λ l. x ∷ l) (take_front xs ys n (omega (arith, e)))

pub drop_front : {X : Type 0} (xs ys : List X) (n : ℕ) → length xs ≡ n → std.drop n (xs ++ ys) ≡ ys
drop_front [] ys zero e = refl
drop_front [] ys (suc n) e = absurd (omega (arith, e))
drop_front (x ∷ xs) ys zero e = absurd (omega (arith, e))
drop_front (x ∷ xs) ys (suc n) e = drop_front xs ys n (omega (arith, e))

take_whole : {X : Type 0} (xs : List X) (n : ℕ) → length xs ≡ n → take n xs ≡ xs
take_whole [] zero e = refl
take_whole [] (suc n) e = absurd (omega (arith, e))
take_whole (x ∷ xs) zero e = absurd (omega (arith, e))
take_whole (x ∷ xs) (suc n) e = ap (λ l. x ∷ l) (take_whole xs n (omega (arith, e)))

-- a list in two parts
pub record Parts {X : Type 0} (xs : List X) (a b : ℕ) : Type 0 where
  pub front : List X
  pub back : List X
  pub is : xs ≡ front ++ back
  pub front_count : length front ≡ a
  pub back_count : length back ≡ b

pub parts_of : {X : Type 0} (xs : List X) (a b : ℕ) → length xs ≡ a + b → Parts xs a b
parts_of xs zero b e = record { front = []; back = xs; is = refl; front_count = refl; back_count = (let f : length xs ≡ b = omega (arith, e) in f) }
parts_of [] (suc a) b e = absurd (omega (arith, e))
parts_of (x ∷ xs) (suc a) b e = let p = parts_of xs a b (omega (arith, e)) in record {
  front = x ∷ p.front;
  back = p.back;
  is = ap (λ l. x ∷ l) p.is;
  front_count = ap suc p.front_count;
  back_count = p.back_count;
}

-- the operands of a conditional branch: the condition, and those of its edges
pub record Condition {X : Type 0} (xs : List X) (a b : ℕ) : Type 0 where
  pub condition : X
  pub first : List X
  pub second : List X
  pub is : xs ≡ condition ∷ (first ++ second)
  pub first_count : length first ≡ a
  pub second_count : length second ≡ b

pub condition_of : {X : Type 0} (xs : List X) (a b : ℕ) → length xs ≡ 1 + a + b → Condition xs a b
condition_of [] a b e = absurd (omega (arith, e))
condition_of (x ∷ xs) a b e = let p = parts_of xs a b (omega (arith, e)) in
    record { condition = x; first = p.front; second = p.back; is = ap (λ l. x ∷ l) p.is; first_count = p.front_count; second_count = p.back_count }

module _ {X : Type 0} (x : X) (fs ss : List X) (a b : ℕ) (ea : length fs ≡ a) (eb : length ss ≡ b) where
  pub first_segment : segment (x ∷ (fs ++ ss)) (1 ∷ a ∷ b ∷ []) 1 ≡ fs
  first_segment = take_front fs ss a ea

  pub second_segment : segment (x ∷ (fs ++ ss)) (1 ∷ a ∷ b ∷ []) 2 ≡ ss
  second_segment = ap (take b) (drop_front fs ss a ea) ∙ take_whole ss b eb

  -- what is left, where the condition stays
  pub condition_left : (p : ℕ → Bool) → p 0 ≡ false → drop p (x ∷ (fs ++ ss)) ≡ x ∷ (drop (from p 1) fs ++ drop (from p (1 + a)) ss)
  condition_left p q =
      ap (λ (z : Bool). if z then drop (λ i. p (suc i)) (fs ++ ss) else x ∷ drop (λ i. p (suc i)) (fs ++ ss)) q
      ∙ ap (λ l. x ∷ l) (drop_same (λ i. p (suc i)) (from p 1) (fs ++ ss) (λ i less. let e : suc i ≡ 1 + i = omega arith in ap p e)
      ∙ (drop_append p 1 fs ss ∙ ap (λ n. drop (from p 1) fs ++ drop (from p (1 + n)) ss) ea))

-- ---- sizes

sizes_case : (o : KitAttr) (sizes : List ℕ) → sizes_in o ≡ Some sizes → (v : Vec ℕ) × (o ≡ attrs.SegmentSizes v) × (v.items ≡ sizes)
sizes_case (attrs.SegmentSizes v) sizes e = (v, refl, some_same v.items sizes e)
sizes_case o sizes e = absurd (none_some sizes e)

pub sizes_held : (es : Entries) (sizes : List ℕ) → option_and_then sizes_in (attribute_at es keys.segment_sizes) ≡ Some sizes →
    (v : Vec ℕ) × (attribute_at es keys.segment_sizes ≡ Some (attrs.SegmentSizes v)) × (v.items ≡ sizes)
sizes_held es sizes e =
    let x = both sizes_in (attribute_at es keys.segment_sizes) sizes e in
    let v = sizes_case x.0 sizes x.2 in
    (v.0, x.1 ∙ ap Some v.1, v.2)

changed_here : (es : Entries) (p : ℕ → Bool) (v : Vec ℕ) (o : Option KitAttr) → o ≡ Some (attrs.SegmentSizes v) →
    attribute_at (changed_to es keys.segment_sizes (without_operands p) o) keys.segment_sizes ≡ Some (attrs.SegmentSizes (less_sizes p v))
changed_here es p v o e =
    ap (λ z. attribute_at (changed_to es keys.segment_sizes (without_operands p) z) keys.segment_sizes) e
    ∙ attribute_at-with_attribute es keys.segment_sizes (attrs.SegmentSizes (less_sizes p v)) keys.segment_sizes

-- the sizes afterwards: the condition, and what is left of the others
pub sizes_left : (es : Entries) (p : ℕ → Bool) (a b : ℕ) (sizes : List ℕ) → option_and_then sizes_in (attribute_at es keys.segment_sizes) ≡ Some sizes → sizes ≡ 1 ∷ a ∷ b ∷ [] →
    option_and_then sizes_in (attribute_at (changed_at es keys.segment_sizes (without_operands p)) keys.segment_sizes) ≡ Some (1 ∷ kept p 1 a ∷ kept p (1 + a) b ∷ [])
sizes_left es p a b sizes e is =
    let v = sizes_held es sizes e in
    ap (option_and_then sizes_in) (changed_here es p v.0 (attribute_at es keys.segment_sizes) v.1)
    ∙ ap (λ l. Some (std.slice_set (std.slice_set l 1 (kept p 1 (std.slice_index l 1))) 2 (kept p (1 + std.slice_index l 1) (std.slice_index l 2)))) (v.2 ∙ is)

pub first_is : (es : Entries) (a b : ℕ) (sizes : List ℕ) → option_and_then sizes_in (attribute_at es keys.segment_sizes) ≡ Some sizes → sizes ≡ 1 ∷ a ∷ b ∷ [] → first_size es ≡ a
first_is es a b sizes e is =
    let v = sizes_held es sizes e in
    ap (λ o. std.slice_index (kit_meaning.sizes_in o) 1) v.1 ∙ ap (λ l. std.slice_index l 1) (v.2 ∙ is)

-- ---- what is forwarded

pub range_get : (s n i : ℕ) → i < n → slice_get (range s n) i ≡ Some (s + i)
range_get s zero i less = absurd (omega (arith, less))
range_get s (suc n) zero less = let e : s ≡ s + 0 = omega arith in ap Some e
range_get s (suc n) (suc i) less = let e : suc s + i ≡ s + suc i = omega arith in range_get (suc s) n i (omega (arith, less)) ∙ ap Some e

pub first_forwarded : (a b n i : ℕ) → n ≡ 1 + a + b → i < a → slice_get (forwards_of ops.CondBr a n 0) i ≡ Some (1 + i)
first_forwarded a b n i e less = range_get 1 (min a (n - 1)) i (omega (arith, e, less))

pub second_forwarded : (a b n i : ℕ) → n ≡ 1 + a + b → i < b → slice_get (forwards_of ops.CondBr a n 1) i ≡ Some ((1 + a) + i)
second_forwarded a b n i e less = range_get (1 + a) (n - (1 + a)) i (omega (arith, e, less))
