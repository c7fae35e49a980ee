-- One more decision carried out.
use Rattle.std.proofs.Common.{◌≡◌, ◌≢◌, ◌⊎◌, inl, inr, ⊎_elim, ℕ, zero, suc, ◌+◌, ◌<◌, Bool, true, false, cond, List, [], ◌∷◌, ◌++◌, map, length, take, Option, Some, None, option_map, unwrap_or, slice_get, refl, sym, ap, ◌∙◌, subst, arith}
use Rattle.std.proofs.lemmas.Option.{slice_get-map}
use Rattle.std.proofs.lemmas.Bool.{eq-eqb}
use Rattle.std.specs.Prelude.{nat_eq, IsSome, is_some, if◌then◌else◌, ◌&&◌, not}
use Rattle.ir_program.specs.Erased.{IsGone}
use Rattle.ir_program.specs.Lists.{StandsInBlock, StandsInside, itself, in_block, in_region, in_operation, IsLinkedOperation, regions_in}
use Rattle.ir_program.specs.Program.{Program, OperationView, BlockView, operation_at, block_at, results_at}
use Rattle.ir_program.specs.Rows.{operands_at}
use Rattle.ir_program.specs.declared.handles.IRNode.{IRNode}
use Rattle.ir_program.specs.declared.handles.IRNode.TheVariants.{Operation as OperationNode}
use Rattle.ir_program.specs.declared.handles.Ptr.{Ptr}
use Rattle.ir_program.specs.declared.handles.Operation.{Operation}
use Rattle.ir_program.specs.declared.handles.BasicBlock.{BasicBlock}
use Rattle.ir_program.proofs.made.Frames.{same_or_not}
use Rattle.ir_trees.specs.Searched.{Lists}
use Rattle.ir_trees.specs.Stands.{in_program}
use Rattle.ir_trees.proofs.HandleTests.{operation_yes, operation_no}
use Rattle.opt_trees.specs.Dialect.{Dialect}
use Rattle.opt_trees.specs.Simplify.{is_empty}
use Rattle.opt_handles.proofs.Handles.{erased_none, erased_twice}
use Rattle.opt_decide.specs.Phase.{IsUndecided, IsDecidedBranch, HasDecided}
use Rattle.opt_decide.specs.Planned.{can_decide, edge_if, known_alone, picked_edge, decided_edge, AreDecisions}
use Rattle.opt_decide.specs.Replaced.{in_place_of, along, DecidesBranch, LeadsAlikeForGood}
use Rattle.opt_decide.specs.declared.plan.Decision.{Decision}
use Rattle.opt_decide.proofs.Filled.{take_next}
use Rattle.opt_decide.proofs.Folded.{same_some}

map_same : {X : Type 0} (xs : List X) → map (λ x. x) xs ≡ xs
map_same [] = refl
map_same (x ∷ xs) = ap (λ ys. x ∷ ys) (map_same xs)

map_both : {X : Type 0} (f g : X → X) (xs : List X) → map f (map g xs) ≡ map (λ x. f (g x)) xs
map_both f g [] = refl
map_both f g (x ∷ xs) = ap (λ ys. f (g x) ∷ ys) (map_both f g xs)

pub none_taken : {X : Type 0} (xs : List X) → take 0 xs ≡ []
none_taken [] = refl
none_taken (x ∷ xs) = refl

-- a list with one more behind it
front_or_last : {X : Type 0} (xs : List X) (y x : X) (k : ℕ) → slice_get (xs ++ y ∷ []) k ≡ Some x → Lists xs x ⊎ (x ≡ y)
front_or_last [] y x zero h = let s : Some y ≡ Some x = h in let e : x ≡ y = cc in inr e
front_or_last [] y x (suc k) h = cc
front_or_last (z ∷ xs) y x zero h = inl (zero, h)
front_or_last (z ∷ xs) y x (suc k) h = ⊎_elim (λ l. inl (suc l.0, l.1)) (λ e. inr e) (front_or_last xs y x k h)

pub in_front : {X : Type 0} (xs : List X) (y x : X) (k : ℕ) → slice_get xs k ≡ Some x → Lists (xs ++ y ∷ []) x
in_front [] y x k h = cc
in_front (z ∷ xs) y x zero h = (zero, h)
in_front (z ∷ xs) y x (suc k) h = let l = in_front xs y x k h in (suc l.0, l.1)

at_last : {X : Type 0} (xs : List X) (y : X) → Lists (xs ++ y ∷ []) y
at_last [] y = (zero, refl)
at_last (z ∷ xs) y = let l = at_last xs y in (suc l.0, l.1)

-- a decision of which f makes this, or none
pub found_or_not : (f : Decision → Ptr Operation) (ds : List Decision) (p : Ptr Operation)
    → ((x : Decision) × Lists ds x × (f x ≡ p)) ⊎ ((x : Decision) → Lists ds x → f x ≢ p)
found_or_not f [] p = inr (λ x l e. let s = l.1 in cc)
found_or_not f (y ∷ ds) p = ⊎_elim
    (λ (e : f y ≡ p). inl (y, (zero, refl), e))
    (λ (ne : f y ≢ p). ⊎_elim
    (λ h. inl (h.0, (suc h.1.0, h.1.1), h.2))
    (λ none. inr (λ x l e. first_or_later x l.0 l.1 ne none e))
    (found_or_not f ds p))
    (same_or_not (f y) p)
  where
    first_or_later : (x : Decision) (k : ℕ) → slice_get (y ∷ ds) k ≡ Some x → f y ≢ p
        → ((z : Decision) → Lists ds z → f z ≢ p) → f x ≡ p → ⊥
    first_or_later x zero h ne none e = let s : Some y ≡ Some x = h in let q : y ≡ x = cc in ne (ap f q ∙ e)
    first_or_later x (suc k) h ne none e = none x (k, h) e

-- a decision of this operation, or none
pub among_or_not : (ds : List Decision) (p : Ptr Operation) → ((x : Decision) × Lists ds x × (x.op ≡ p)) ⊎ IsUndecided ds p
among_or_not ds p = found_or_not (λ x. x.op) ds p

module _ {O B A : Type 0} (d : Dialect (in_program O B) A) (old : Program O B) where
  -- nothing carried out
  pub none_decided : HasDecided d old old []
  none_decided = record {
    names = λ p. p;
    same = λ p none. refl;
    done = λ x l. let s = l.1 in cc;
    apart = λ x y l m e. let s = l.1 in cc;
    others = λ p v there none. there;
    came = λ p v there. inl there;
    blocks = λ b. blocks (block_at old b);
    regions = λ r. refl;
    erased = erased_none old;
  }
    where
      blocks : (o : Option (BlockView B)) → o ≡ option_map (λ (l : BlockView B). record l { operations = map (λ p. p) l.operations }) o
      blocks None = refl
      blocks (Some l) = let e = map_same l.operations in λ i. Some (record l { operations = sym e i })

module _ {O B A : Type 0} (d : Dialect (in_program O B) A) (old mid new : Program O B) (ds : List Decision) (has : HasDecided d old mid ds) (x : Decision) (q : Ptr Operation) (none : IsUndecided ds x.op) (v : OperationView O) (was : operation_at old x.op ≡ Some v) (step : DecidesBranch d mid new x q) where
  abbrev renamed : Ptr Operation → Ptr Operation
  renamed p = in_place_of x.op q (has.names p)

  stays : (p : Ptr Operation) → p ≢ x.op → in_place_of x.op q p ≡ p
  stays p ne = ap (λ b. cond b q p) (operation_no p x.op ne)

  goes : (p : Ptr Operation) → p ≡ x.op → in_place_of x.op q p ≡ q
  goes p e = ap (λ b. cond b q p) (operation_yes p x.op e)

  -- the branch is there from the start
  at_start : operation_at old x.op ≡ Some step.view
  at_start = was ∙ ap Some (sym (same_some step.view v (sym step.there ∙ has.others x.op v was none)))

  fresh_from : (o : Option (OperationView O)) → operation_at old q ≡ o → o ≡ None
  fresh_from None e = refl
  fresh_from (Some u) e = ⊎_elim
      (λ h. absurd (step.puts.unspent (subst (λ z. IsGone mid (OperationNode z)) h.2 (has.done h.0 h.1).gone)))
      (λ undecided. let n : Some u ≡ None = sym (has.others q u e undecided) ∙ step.puts.fresh in cc)
      (among_or_not ds q)

  -- its new name led nowhere from the start
  fresh : operation_at old q ≡ None
  fresh = fresh_from (operation_at old q) refl

  -- names that are given
  given_other : (y : Decision) → Lists ds y → (has.names y.op ≢ x.op) × (has.names y.op ≢ q)
  given_other y l =
      let m = has.done y l in (
        λ e. let n : Some step.view ≡ None = sym at_start ∙ ap (operation_at old) (sym e) ∙ m.fresh in cc,
        λ e. let n : None ≡ Some (along d m.view y.edge m.payload) = sym step.puts.fresh ∙ ap (operation_at mid) (sym e) ∙ m.made in cc,
      )

  kept : (y : Decision) → Lists ds y → renamed y.op ≡ has.names y.op
  kept y l = stays (has.names y.op) (given_other y l).0

  here : renamed x.op ≡ q
  here = goes (has.names x.op) (has.same x.op none)

  done_before : (y : Decision) → Lists ds y → IsDecidedBranch d old new y (renamed y.op)
  done_before y l =
      let m = has.done y l in
      let o = given_other y l in
      let ne : y.op ≢ x.op = none y l in
      let other : y.op ≢ q = λ e. step.puts.unspent (subst (λ z. IsGone mid (OperationNode z)) e m.gone) in
      subst (λ z. IsDecidedBranch d old new y z) (sym (kept y l)) (record {
        payload = m.payload;
        plain = m.plain;
        view = m.view;
        there = m.there;
        fresh = m.fresh;
        made = step.puts.others (has.names y.op) o.0 o.1 ∙ m.made;
        gone = (step.puts.others y.op ne other ∙ m.gone.0, step.puts.erased.operations y.op.key m.gone.1);
      })

  done_now : IsDecidedBranch d old new x (renamed x.op)
  done_now = subst (λ z. IsDecidedBranch d old new x z) (sym here) (record {
    payload = step.payload;
    plain = step.plain;
    view = step.view;
    there = at_start;
    fresh = fresh;
    made = step.puts.made;
    gone = step.puts.gone;
  })

  before_or_now : (y : Decision) → Lists (ds ++ x ∷ []) y → Lists ds y ⊎ (y ≡ x)
  before_or_now y l = front_or_last ds x y l.0 l.1

  abbrev IsApart : Decision → Decision → Type 0
  IsApart y z = renamed y.op ≡ renamed z.op → y.op ≡ z.op

  apart_last : (y : Decision) → Lists ds y → renamed y.op ≡ renamed x.op → ⊥
  apart_last y l e = (given_other y l).1 (sym (kept y l) ∙ e ∙ here)

  apart_all : (y z : Decision) → Lists (ds ++ x ∷ []) y → Lists (ds ++ x ∷ []) z → IsApart y z
  apart_all y z l m e = ⊎_elim
      (λ (first : Lists ds y). ⊎_elim
      (λ (second : Lists ds z). has.apart y z first second (sym (kept y first) ∙ e ∙ kept z second))
      (λ (now : z ≡ x). absurd (apart_last y first (e ∙ ap (λ (w : Decision). renamed w.op) now)))
      (before_or_now z m))
      (λ (now : y ≡ x). ⊎_elim
      (λ (second : Lists ds z). absurd (apart_last z second (sym e ∙ ap (λ (w : Decision). renamed w.op) now)))
      (λ (too : z ≡ x). ap (λ (w : Decision). w.op) (now ∙ sym too))
      (before_or_now z m))
      (before_or_now y l)

  both_lists : (o : Option (BlockView B)) → option_map (λ (l : BlockView B). record l { operations = map (in_place_of x.op q) l.operations }) (option_map (λ (l : BlockView B). record l { operations = map has.names l.operations }) o)
      ≡ option_map (λ (l : BlockView B). record l { operations = map renamed l.operations }) o
  both_lists None = refl
  both_lists (Some l) = let e = map_both (in_place_of x.op q) has.names l.operations in λ i. Some (record l { operations = e i })

  undecided : (p : Ptr Operation) → IsUndecided (ds ++ x ∷ []) p → IsUndecided ds p
  undecided p none_of y l = none_of y (in_front ds x y l.0 l.1)

  other : (p : Ptr Operation) → IsUndecided (ds ++ x ∷ []) p → p ≢ x.op
  other p none_of e = none_of x (at_last ds x) (sym e)

  -- what is there was there, or is a new branch
  came_all : (p : Ptr Operation) (u : OperationView O) → operation_at new p ≡ Some u
      → (operation_at old p ≡ Some u) ⊎ ((y : Decision) × Lists (ds ++ x ∷ []) y × (renamed y.op ≡ p))
  came_all p u there = ⊎_elim
      (λ (e : p ≡ q). inr (x, at_last ds x, here ∙ sym e))
      (λ (no : p ≢ q). ⊎_elim
      (λ (e : p ≡ x.op). let n : Some u ≡ None = sym there ∙ ap (operation_at new) e ∙ step.puts.gone.0 in cc)
      (λ (ne : p ≢ x.op). ⊎_elim
      (λ was_there. inl was_there)
      (λ h. inr (h.0, in_front ds x h.0 h.1.0 h.1.1, kept h.0 h.1 ∙ h.2))
      (has.came p u (sym (step.puts.others p ne no) ∙ there)))
      (same_or_not p x.op))
      (same_or_not p q)

  pub one_more_decided : HasDecided d old new (ds ++ x ∷ [])
  one_more_decided = record {
    names = renamed;
    same = λ p none_of. ap (in_place_of x.op q) (has.same p (undecided p none_of)) ∙ stays p (other p none_of);
    done = λ y l. ⊎_elim (λ m. done_before y m) (λ (e : y ≡ x). subst (λ (z : Decision). IsDecidedBranch d old new z (renamed z.op)) (sym e) done_now) (before_or_now y l);
    apart = apart_all;
    others = λ p u there none_of.
        let now = has.others p u there (undecided p none_of) in
        step.puts.others p (other p none_of) (λ e. let n : Some u ≡ None = sym now ∙ ap (operation_at mid) e ∙ step.puts.fresh in cc) ∙ now;
    came = came_all;
    blocks = λ b. step.puts.blocks b ∙ ap (option_map (λ (l : BlockView B). record l { operations = map (in_place_of x.op q) l.operations })) (has.blocks b) ∙ both_lists (block_at old b);
    regions = λ r. step.puts.regions r ∙ has.regions r;
    erased = erased_twice old mid new has.erased step.puts.erased;
  }

-- where each handle leads to what it led to, what was carried out is so still
pub carried_alike : {O B A : Type 0} (d : Dialect (in_program O B) A) (old mid new : Program O B) (ds : List Decision) → HasDecided d old mid ds → LeadsAlikeForGood mid new → HasDecided d old new ds
carried_alike d old mid new ds has alike = record {
  names = has.names;
  same = has.same;
  done = λ x l. let m = has.done x l in record {
    payload = m.payload;
    plain = m.plain;
    view = m.view;
    there = m.there;
    fresh = m.fresh;
    made = alike.operations (has.names x.op) ∙ m.made;
    gone = (alike.operations x.op ∙ m.gone.0, alike.erased.operations x.op.key m.gone.1);
  };
  apart = has.apart;
  others = λ p v there none. alike.operations p ∙ has.others p v there none;
  came = λ p v there. has.came p v (sym (alike.operations p) ∙ there);
  blocks = λ b. alike.blocks b ∙ has.blocks b;
  regions = λ r. alike.regions r ∙ has.regions r;
  erased = erased_twice old mid new has.erased alike.erased;
}

-- what a decision tells of its branch
module _ {O B A : Type 0} (d : Dialect (in_program O B) A) (old : Program O B) (p : Ptr Operation) (i : ℕ) where
  plain_if : (b : Bool) (o : Option ℕ) → (if b then o else None) ≡ Some i → (b ≡ true) × (o ≡ Some i)
  plain_if true o e = (refl, e)
  plain_if false o e = cc

  pub both_true : (a b : Bool) → (a && b) ≡ true → (a ≡ true) × (b ≡ true)
  both_true true b e = (refl, e)
  both_true false b e = cc

  empty_is : {X : Type 0} (xs : List X) → is_empty xs ≡ true → xs ≡ []
  empty_is [] e = refl
  empty_is (x ∷ xs) e = cc

  pub record IsBareBranch : Type 0 where
    pub view : OperationView O
    pub there : operation_at old p ≡ Some view
    pub decides : can_decide d (Some view) ≡ true
    pub results : view.results ≡ []
    pub regions : view.regions ≡ []
    pub plain : IsSome d.plain
    pub picks : picked_edge d old p ≡ Some i

  bare_from : (o : Option (OperationView O)) → operation_at old p ≡ o → can_decide d o ≡ true → IsSome d.plain → picked_edge d old p ≡ Some i → IsBareBranch
  bare_from None e holds plain picks = absurd (cc)
  bare_from (Some v) e holds plain picks =
      let one = both_true (d.is_branch v.payload) _ holds in
      let two = both_true (not (d.is_plain v.payload)) _ one.1 in
      let three = both_true (is_empty v.results) (is_empty v.regions) two.1 in
      record { view = v; there = e; decides = holds; results = empty_is v.results three.0; regions = empty_is v.regions three.1; plain = plain; picks = picks }

  pub bare_branch : decided_edge d old p ≡ Some i → IsBareBranch
  bare_branch e =
      let one = plain_if (is_some d.plain) (picked_edge d old p) e in
      let two = plain_if (can_decide d (operation_at old p)) (edge_if d (map (known_alone d old) (operands_at old p)) (operation_at old p)) one.1 in
      bare_from (operation_at old p) refl two.0 one.0 one.1

-- the next decision can be carried out
module _ {O B A : Type 0} (d : Dialect (in_program O B) A) (old : Program O B) (op : Ptr Operation) (all : List Decision) (are : AreDecisions d old op all) (mid : Program O B) (n : ℕ) (x : Decision) (at : slice_get all n ≡ Some x) (has : HasDecided d old mid (take n all)) where
  in_take : {X : Type 0} (xs : List X) (m k : ℕ) (y : X) → slice_get (take m xs) k ≡ Some y → (k < m) × (slice_get xs k ≡ Some y)
  in_take [] zero k y h = let n : None ≡ Some y = h in absurd (cc)
  in_take [] (suc m) k y h = let n : None ≡ Some y = h in absurd (cc)
  in_take (z ∷ xs) zero k y h = let n : None ≡ Some y = h in absurd (cc)
  in_take (z ∷ xs) (suc m) zero y h = (omega arith, h)
  in_take (z ∷ xs) (suc m) (suc k) y h = let r = in_take xs m k y h in let l = r.0 in (omega arith, r.1)

  pub undecided_yet : IsUndecided (take n all) x.op
  undecided_yet y l e = let r = in_take all n l.0 y l.1 in let s = are.once l.0 n y x r.1 at e in let less = r.0 in omega arith

  pub bare : IsBareBranch d old x.op x.edge
  bare = bare_branch d old x.op x.edge (are.sound x (n, at))

  kept_view : operation_at mid x.op ≡ Some bare.view
  kept_view = has.others x.op bare.view bare.there undecided_yet

  around : (e : IRNode) → StandsInside old (OperationNode op) e → (p : Ptr Operation) → e ≡ OperationNode p → p ≢ op → (b : Ptr BasicBlock) × StandsInBlock old p b
  around _ itself p e ne = let s : p ≡ op = cc in absurd (ne s)
  around _ (in_block z b s i) p e ne = let same : z ≡ p = cc in (b, subst (λ w. StandsInBlock old w b) same s)
  around _ (in_region b r s i) p e ne = cc
  around _ (in_operation r z s i) p e ne = cc

  listed : (o : Option (BlockView B)) (k : ℕ) → slice_get (unwrap_or (option_map (λ (v : BlockView B). v.operations) o) []) k ≡ Some x.op
      → slice_get (unwrap_or (option_map (λ (v : BlockView B). v.operations) (option_map (λ (l : BlockView B). record l { operations = map has.names l.operations }) o)) []) k ≡ Some x.op
  listed None k h = cc
  listed (Some l) k h = slice_get-map has.names l.operations k ∙ ap (option_map has.names) h ∙ ap Some (has.same x.op undecided_yet)

  mapped_there : {X : Type 0} (f : X → X) (o : Option X) → IsSome o → IsSome (option_map f o)
  mapped_there f None h = cc
  mapped_there f (Some y) h = refl

  pub linked_yet : IsLinkedOperation mid x.op
  linked_yet =
      let below = are.below x (n, at) in
      let b = around (OperationNode x.op) below.inside x.op refl below.other in (
        b.0,
        record {
          operation = subst IsSome (sym kept_view) refl;
          block = subst IsSome (sym (has.blocks b.0)) (mapped_there (λ (l : BlockView B). record l { operations = map has.names l.operations }) (block_at old b.0) b.1.block);
          index = b.1.index;
          here = ap (λ o. slice_get (unwrap_or (option_map (λ (v : BlockView B). v.operations) o) []) b.1.index) (has.blocks b.0) ∙ listed (block_at old b.0) b.1.index b.1.here;
        },
      )

  pub results_yet : results_at mid x.op ≡ []
  results_yet = ap (λ o. unwrap_or (option_map (λ (v : OperationView O). v.results) o) []) kept_view ∙ bare.results

  pub regions_yet : regions_in mid x.op ≡ []
  regions_yet = ap (λ o. unwrap_or (option_map (λ (v : OperationView O). v.regions) o) []) kept_view ∙ bare.regions

  pub next_decided : (new : Program O B) (q : Ptr Operation) → DecidesBranch d mid new x q → HasDecided d old new (take (n + 1) all)
  next_decided new q step = subst (HasDecided d old new) (sym (take_next all n x at)) (one_more_decided d old mid new (take n all) has x q undecided_yet bare.view bare.there step)

pub empty_list : {X : Type 0} (xs : List X) → (length xs ≡ 0) → xs ≡ []
empty_list [] e = refl
empty_list (x ∷ xs) e = cc

pub no_empty : {X : Type 0} (xs : List X) (n : ℕ) → n ≡ length xs → nat_eq n 0 ≡ false → xs ≡ [] → ⊥
no_empty xs n len unequal e = let z : n ≡ 0 = len ∙ ap length e in let yes_zero : nat_eq n 0 ≡ true = eq-eqb n 0 z in let t : true ≡ false = sym yes_zero ∙ unequal in cc
