-- A list is gone through, item by item, as long as each passes.
use Rattle.std.proofs.Common.{◌≡◌, ℕ, zero, suc, ◌<◌, List, [], ◌∷◌, ◌++◌, length, Some, slice_get, refl, sym, ap, ◌∙◌, subst, arith, append_assoc, Result, Ok, Err}
use Rattle.std.specs.List.{AllByRecursion, flat_map}
use Rattle.std.proofs.lemmas.List.{append-nil}
use Rattle.ir_program.specs.Preorder.{AreInside}
use Rattle.ir_program.specs.Program.{Program}
use Rattle.ir_program.specs.declared.handles.IRNode.{IRNode}
use Rattle.ir_core.specs.verification.Tests.{NodeIsLive}
use Rattle.ir_core.specs.verification.Verified.{IsFirstTestFault, AnswersTests}

module _ {T : Type 0} where
  -- the items before the ones that are left pass
  pub record HasPassed (P : T → Type 0) (all left : List T) : Type 0 where
    pub before : List T
    pub parts : all ≡ before ++ left
    pub passed : AllByRecursion P before

  module _ (P : T → Type 0) where
    pub all-append : (xs ys : List T) → AllByRecursion P xs → AllByRecursion P ys → AllByRecursion P (xs ++ ys)
    all-append [] ys a b = b
    all-append (x ∷ xs) ys a b = (a.0, all-append xs ys a.1 b)

    pub all-left : (xs ys : List T) → AllByRecursion P (xs ++ ys) → AllByRecursion P xs
    all-left [] ys a = tt
    all-left (x ∷ xs) ys a = (a.0, all-left xs ys a.1)

    pub all-right : (xs ys : List T) → AllByRecursion P (xs ++ ys) → AllByRecursion P ys
    all-right [] ys a = a
    all-right (x ∷ xs) ys a = all-right xs ys a.1

    -- by the index
    pub all-at : (xs : List T) → AllByRecursion P xs → (k : ℕ) (x : T) → slice_get xs k ≡ Some x → P x
    all-at [] a k x h = cc
    all-at (y ∷ xs) a zero x h = let s : Some y ≡ Some x = h in let q : y ≡ x = cc in subst P q a.0
    all-at (y ∷ xs) a (suc k) x h = all-at xs a.1 k x h

    pub all-from : (xs : List T) → ((k : ℕ) (x : T) → slice_get xs k ≡ Some x → P x) → AllByRecursion P xs
    all-from [] h = tt
    all-from (x ∷ xs) h = (h 0 x refl, all-from xs (λ k y at. h (suc k) y at))

    pub passed-first : (all left : List T) → left ≡ all → HasPassed P all left
    passed-first all left is = record { before = []; parts = sym is; passed = tt }

    pub passed-next : (all was left : List T) (x : T) → was ≡ x ∷ left → P x → HasPassed P all was → HasPassed P all left
    passed-next all was left x is here done = record {
      before = done.before ++ x ∷ [];
      parts = done.parts ∙ ap (λ l. done.before ++ l) is ∙ sym (append_assoc done.before (x ∷ []) left);
      passed = all-append done.before (x ∷ []) done.passed (here, tt);
    }

    pub passed-over : (all was : List T) → was ≡ [] → HasPassed P all was → AllByRecursion P all
    passed-over all was is done = subst (AllByRecursion P) (sym (done.parts ∙ ap (λ l. done.before ++ l) is ∙ append-nil done.before)) done.passed

    middle : (before after : List T) (x : T) → slice_get (before ++ x ∷ after) (length before) ≡ Some x
    middle [] after x = refl
    middle (y ∷ before) after x = middle before after x

    -- the next item stands somewhere in the list
    pub passed-at : (all was left : List T) (x : T) → was ≡ x ∷ left → HasPassed P all was → (k : ℕ) × (slice_get all k ≡ Some x)
    passed-at all was left x is done = (length done.before, ap (λ l. slice_get l (length done.before)) (done.parts ∙ ap (λ l. done.before ++ l) is) ∙ middle done.before left x)

-- what the tests answer
module _ {T F : Type 0} (accepts : T → Type 0) (answers : T → F → Type 0) where
  pub fault-left : (xs ys : List T) (f : F) → IsFirstTestFault accepts answers xs f → IsFirstTestFault accepts answers (xs ++ ys) f
  fault-left xs ys f r = record {
    before = r.before;
    test = r.test;
    after = r.after ++ ys;
    parts = ap (λ l. l ++ ys) r.parts ∙ append_assoc r.before (r.test ∷ r.after) ys;
    accepted = r.accepted;
    refused = r.refused;
    answered = r.answered;
  }

  pub fault-right : (xs ys : List T) (f : F) → AllByRecursion accepts xs → IsFirstTestFault accepts answers ys f → IsFirstTestFault accepts answers (xs ++ ys) f
  fault-right xs ys f all r = record {
    before = xs ++ r.before;
    test = r.test;
    after = r.after;
    parts = ap (λ l. xs ++ l) r.parts ∙ sym (append_assoc xs r.before (r.test ∷ r.after));
    accepted = all-append accepts xs r.before all r.accepted;
    refused = r.refused;
    answered = r.answered;
  }

  -- one list of tests behind another
  pub answers-both : (xs ys : List T) (r : Result Unit F) → AllByRecursion accepts xs → AnswersTests accepts answers ys r → AnswersTests accepts answers (xs ++ ys) r
  answers-both xs ys (Ok u) all a = all-append accepts xs ys all a
  answers-both xs ys (Err f) all a = fault-right xs ys f all a

  -- the next test of a list refuses
  pub fault-next : (all was left : List T) (t : T) (f : F) → was ≡ t ∷ left → HasPassed accepts all was → (accepts t → ⊥) → answers t f → IsFirstTestFault accepts answers all f
  fault-next all was left t f is done refused answered = record {
    before = done.before;
    test = t;
    after = left;
    parts = done.parts ∙ ap (λ l. done.before ++ l) is;
    accepted = done.passed;
    refused = refused;
    answered = answered;
  }

  -- the test at an index refuses, and all before it accept
  pub fault-at : (all : List T) (i : ℕ) (t : T) (f : F) → slice_get all i ≡ Some t → ((k : ℕ) (s : T) → k < i → slice_get all k ≡ Some s → accepts s) → (accepts t → ⊥) → answers t f → IsFirstTestFault accepts answers all f
  fault-at [] i t f here passed refused answered = cc
  fault-at (x ∷ all) zero t f here passed refused answered =
      let s : Some x ≡ Some t = here in
      let q : x ≡ t = cc in
      record { before = []; test = t; after = all; parts = ap (λ y. y ∷ all) q; accepted = tt; refused = refused; answered = answered }
  fault-at (x ∷ all) (suc i) t f here passed refused answered =
      fault-right (x ∷ []) all f (passed 0 x (omega arith) refl, tt) (fault-at all i t f here (λ k s lt at. passed (suc k) s (omega arith) at) refused answered)

  -- the tests of several items, each with its own
  module _ {E : Type 0} (tests : E → List T) where
    -- all tests of the item accept
    abbrev pub AcceptsAll : E → Type 0
    AcceptsAll e = AllByRecursion accepts (tests e)

    flat-append : (xs ys : List E) → flat_map tests (xs ++ ys) ≡ flat_map tests xs ++ flat_map tests ys
    flat-append [] ys = refl
    flat-append (x ∷ xs) ys = ap (λ l. tests x ++ l) (flat-append xs ys) ∙ sym (append_assoc (tests x) (flat_map tests xs) (flat_map tests ys))

    pub all-flat : (es : List E) → AllByRecursion AcceptsAll es → AllByRecursion accepts (flat_map tests es)
    all-flat [] a = tt
    all-flat (e ∷ es) a = all-append accepts (tests e) (flat_map tests es) a.0 (all-flat es a.1)

    pub flat-all : (es : List E) → AllByRecursion accepts (flat_map tests es) → AllByRecursion AcceptsAll es
    flat-all [] a = tt
    flat-all (e ∷ es) a = (all-left accepts (tests e) (flat_map tests es) a, flat-all es (all-right accepts (tests e) (flat_map tests es) a))

    -- the next item has a test that refuses
    pub fault-inside : (all was left : List E) (e : E) (f : F) → was ≡ e ∷ left → HasPassed AcceptsAll all was → IsFirstTestFault accepts answers (tests e) f → IsFirstTestFault accepts answers (flat_map tests all) f
    fault-inside all was left e f is done fault =
        subst (λ l. IsFirstTestFault accepts answers l f) (sym (ap (flat_map tests) (done.parts ∙ ap (λ l. done.before ++ l) is) ∙ flat-append done.before (e ∷ left)))
        (fault-right (flat_map tests done.before) (flat_map tests (e ∷ left)) f (all-flat done.before done.passed) (fault-left (tests e) (flat_map tests left) f fault))

-- the next of the entities inside one is there
pub node_there : {O B : Type 0} (c : Program O B) (x : IRNode) (P : IRNode → Type 0) (all was left : List IRNode) (node : IRNode) → AreInside c x all → HasPassed P all was → was ≡ node ∷ left → NodeIsLive c node
node_there c x P all was left node inside done is =
    let at : (k : ℕ) × (slice_get all k ≡ Some node) = passed-at P all was left node is done in
    record { live = inside.live at.0 node at.1 }
