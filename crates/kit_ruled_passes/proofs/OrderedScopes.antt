-- Where the rules are kept, each operation takes earlier values of its block or, outside the entry block, values of
-- that; and only operations of entry blocks have regions.
use Rattle.std.proofs.Common.{◌≡◌, ◌⊎◌, inl, inr, ⊎_elim, ℕ, zero, suc, ◌+◌, ◌++◌, Bool, true, false, cond, ◌==◌}
use Rattle.std.proofs.Common.{List, [], ◌∷◌, map, take, Some, None, option_map, slice_get, refl, sym, ap, ◌∙◌, subst}
use Rattle.std.proofs.Common.{arith}
use Rattle.std.proofs.lemmas.Option.{slice_get-map, slice_get_within}
use Rattle.ir_program.specs.declared.handles.Value.{Value}
use Rattle.ir_trees.specs.Renames.{names_of}
use Rattle.ir_trees.specs.Trees.{Sort, Operations, Blocks, Regions, end, operation, block, region}
use Rattle.ir_trees.proofs.Members.{at_has, has_at, has_back, has_either, has_front}
use Rattle.kit.specs.Context.{KitContext, KitTree}
use Rattle.opt_trees.specs.Occurrences.{Has}
use Rattle.kit.specs.Meaning.{KitOperation, KitBlock}
use Rattle.kit_checks.specs.declared.rule.Rule.{Rule}
use Rattle.kit_checks.specs.declared.rule.Rule.TheVariants as rule
use Rattle.kit_checks.specs.Faults.{KeptEverywhere}
use Rattle.kit_checks.specs.Sites.{Site, Around, operation_list, block_list, region_list, site_at}
use Rattle.kit_checks.specs.Words as words
use Rattle.kit_checks.specs.Words.{results_of, values_before, values_if, first_body, visible}
use Rattle.kit_checks.specs.World.{world_of}
use Rattle.kit_checks.proofs.Down.{step_to}
use Rattle.kit_ruled_views.proofs.FunctionSites.{KitBody, outer_if, inner_place, no_region}
use Rattle.kit_ruled_passes.specs.Scopes.{Part, IsOfBlock, IsOfEntry, IsNone}
use Rattle.kit_ruled_passes.proofs.RuledSites.{has_regions}
use Rattle.kit_ruled_passes.proofs.ScopesOfRules.{if_outside}

-- none of the operations has regions
abbrev pub AreBare : Part Operations → Type 0
AreBare end = Unit {0}
AreBare (operation h rs rest) = (rs ≡ end) × AreBare rest

-- so ordered: where a part begins with an entry block this is said
abbrev pub Ordered : {s : Sort} → Part s → Bool → (Value → Type 0) → Type 0
Ordered end first P = Unit {0}
Ordered (operation h rs rest) first P = ((x : Value) → Has x h.operands → P x) × Ordered rs true IsNone
    × Ordered rest true (λ x. Has x (names_of h.results) ⊎ P x)
Ordered (block l os rest) true P = Ordered os true (λ x. Has x (names_of l.arguments))
    × Ordered rest false (IsOfBlock l os)
Ordered (block l os rest) false P = Ordered os true (λ x. Has x (names_of l.arguments) ⊎ P x) × AreBare os
    × Ordered rest false P
Ordered (region bs rest) first P = Ordered bs true IsNone × Ordered rest true IsNone

-- a result among one operation more
one_more : (n : ℕ) (us : List KitTree) (u : KitTree) (x : Value) → slice_get us n ≡ Some u
    → Has x (results_of (take (suc n) us)) → Has x (names_of u.head.results) ⊎ Has x (results_of (take n us))
one_more n [] u x at has = cc
one_more zero (v ∷ us) u x at has =
    let same : v ≡ u = cc in
    ⊎_elim
    (λ i. inl (subst (λ (z : KitTree). Has x (names_of z.head.results)) same i))
    (λ none. absurd none)
    (has_either (names_of v.head.results) [] x has)
one_more (suc n) (v ∷ us) u x at has = ⊎_elim
    (λ i. inr (in_front i))
    (λ i. ⊎_elim (λ a. inl a) (λ b. inr (behind b)) (one_more n us u x at i))
    (has_either (names_of v.head.results) (results_of (take (suc n) us)) x has)
  where
    in_front : Has x (names_of v.head.results) → Has x (names_of v.head.results ++ results_of (take n us))
    in_front i = has_front (names_of v.head.results) (results_of (take n us)) x i

    behind : Has x (results_of (take n us)) → Has x (names_of v.head.results ++ results_of (take n us))
    behind i = has_back (names_of v.head.results) (results_of (take n us)) x i

-- the list is the rest of the other from this index on
abbrev pub AreFrom : {X : Type 0} → List X → ℕ → List X → Type 0
AreFrom {X} xs n all = (k : ℕ) (x : X) → slice_get xs k ≡ Some x → slice_get all (n + k) ≡ Some x

at_first : {X : Type 0} (x : X) (xs all : List X) (n : ℕ) → AreFrom (x ∷ xs) n all → slice_get all n ≡ Some x
at_first x xs all n from = ap (slice_get all) (let e : n ≡ n + 0 = omega arith in e) ∙ from 0 x refl

at_rest : {X : Type 0} (x : X) (xs all : List X) (n : ℕ) → AreFrom (x ∷ xs) n all → AreFrom xs (suc n) all
at_rest x xs all n from k y h =
    ap (slice_get all) (let e : suc n + k ≡ n + suc k = omega arith in e) ∙ from (suc k) y h

whole : {X : Type 0} (xs : List X) → AreFrom xs 0 xs
whole xs k x h = ap (slice_get xs) (let e : 0 + k ≡ k = omega arith in e) ∙ h

module _ (s : KitContext) (t : KitTree) (keeps : (r : Rule) → KeptEverywhere (world_of s) t r) where
  -- a block of a region of the operation at a site
  pub record InBody (x : Site KitOperation KitBlock) (place : List ℕ) (all : Part Blocks) (body : KitBody)
      : Type 0 where
    pub there : site_at t place ≡ Some x
    pub region : ℕ
    pub region_here : slice_get (region_list x.op.regions) region ≡ Some all
    pub number : ℕ
    pub block_here : slice_get (block_list all) number ≡ Some body

  module _ (x : Site KitOperation KitBlock) (place : List ℕ) (all : Part Blocks) (body : KitBody)
      (at : InBody x place all body) (k : ℕ) (u : KitTree)
      (here : slice_get (operation_list body.operations) k ≡ Some u) where
    abbrev inner_site : Site KitOperation KitBlock
    inner_site = step_to x (outer_if x.around) all at.number body k u

    abbrev inner_at : List ℕ
    inner_at = place ++ at.region ∷ at.number ∷ k ∷ []

    inner_there : site_at t inner_at ≡ Some inner_site
    inner_there = inner_place t x place at.there at.region at.number k all body u at.region_here at.block_here here

    abbrev inner_around : Around KitOperation KitBlock
    inner_around = record {
      owner = x.op;
      outer = outer_if x.around;
      blocks = all;
      number = at.number;
      body = body;
      index = k;
    }

    sees : (v : Value) → Has v u.head.operands
        → Has v (values_before body k) ⊎ Has v (cond (at.number == 0) [] (values_if (first_body all)))
    sees v i =
        let l = has_at u.head.operands v i in
        let r = (keeps rule.OperandsAreVisible inner_at inner_site inner_there).inside inner_around refl l.0 v l.1 in
        has_either (values_before body k) (cond (at.number == 0) [] (values_if (first_body all))) v
        (at_has (visible inner_around) r.0 v r.1)

    -- outside the entry block an operation has no regions
    bare_outside : (n : ℕ) → at.number ≡ suc n → u.regions ≡ end
    bare_outside n later = ⊎_elim
        (λ is_module.
        let b = (keeps rule.ModuleHolds place x at.there).body is_module in
        let lists : slice_get (map block_list (region_list x.op.regions)) at.region ≡ Some (block_list all) =
        slice_get-map block_list (region_list x.op.regions) at.region
        ∙ ap (λ o. option_map block_list o) at.region_here in
        absurd (one_block at.region (block_list all) b.body
        (ap (λ l. slice_get l at.region) (sym b.one) ∙ lists)
        (ap (slice_get (block_list all)) (sym later) ∙ at.block_here)))
        (λ is_function. no_region u.regions
        ((keeps rule.FunctionHolds inner_at inner_site inner_there) inner_around (refl, is_function)).1)
        (has_regions s x.op (words.kind_of (world_of s) x.op) (keeps rule.FitsFormat place x at.there)
        (let w = slice_get_within (region_list x.op.regions) at.region all at.region_here in omega (arith, w)))
      where
        one_block : (r : ℕ) (bodies : List KitBody) (one : KitBody)
            → slice_get ((one ∷ []) ∷ []) r ≡ Some bodies → slice_get bodies (suc n) ≡ Some body → ⊥
        one_block zero bodies one a b =
            let same : one ∷ [] ≡ bodies = cc in
            let e : slice_get (one ∷ []) (suc n) ≡ Some body = ap (λ l. slice_get l (suc n)) same ∙ b in
            cc
        one_block (suc r) bodies one a b = cc

  bare_part : (x : Site KitOperation KitBlock) (place : List ℕ) (all : Part Blocks) (body : KitBody)
      (at : InBody x place all body) (m : ℕ) → at.number ≡ suc m → (os : Part Operations) (n : ℕ)
      → AreFrom (operation_list os) n (operation_list body.operations) → AreBare os
  bare_part x place all body at m later end n from = tt
  bare_part x place all body at m later (operation h rs rest) n from =
      let u : KitTree = record { head = h; regions = rs } in (
        bare_outside x place all body at n u
            (at_first u (operation_list rest) (operation_list body.operations) n from) m later,
        bare_part x place all body at m later rest (suc n)
            (at_rest u (operation_list rest) (operation_list body.operations) n from),
      )

  abbrev PartAt : (o : Sort) → Part o → Type 1
  PartAt Operations os = (x : Site KitOperation KitBlock) (place : List ℕ) (all : Part Blocks) (body : KitBody)
      (at : InBody x place all body) (n : ℕ) (P : Value → Type 0) → AreFrom (operation_list os) n
      (operation_list body.operations) → ((v : Value) → Has v (values_before body n) → P v)
      → ((v : Value) → Has v (cond (at.number == 0) [] (values_if (first_body all))) → P v) → Ordered os true P
  PartAt Blocks bs = (P : Value → Type 0)
      → ((x : Site KitOperation KitBlock) (place : List ℕ) (r : ℕ) → site_at t place ≡ Some x
      → slice_get (region_list x.op.regions) r ≡ Some bs → Ordered bs true IsNone)
      × ((x : Site KitOperation KitBlock) (place : List ℕ) (all : Part Blocks) (r n : ℕ) → site_at t place ≡ Some x
      → slice_get (region_list x.op.regions) r ≡ Some all → AreFrom (block_list bs) (suc n) (block_list all)
      → Ordered bs false (IsOfEntry all))
  PartAt Regions rs = (P : Value → Type 0)
      → (x : Site KitOperation KitBlock) (place : List ℕ) (n : ℕ) → site_at t place ≡ Some x
      → AreFrom (region_list rs) n (region_list x.op.regions) → Ordered rs true IsNone

  arguments_first : (body : KitBody) (v : Value) → Has v (values_before body 0) → Has v (names_of body.label.arguments)
  arguments_first body v has = ⊎_elim
      (λ i. i)
      (λ none. absurd none)
      (has_either (names_of body.label.arguments) [] v has)

  ordered_part : {o : Sort} (part : Part o) → PartAt o part
  ordered_part {o = Operations} end = λ x place all body at n P from before entry. tt
  ordered_part {o = Blocks} end = λ P. (λ x place r there here. tt, λ x place all r n there here from. tt)
  ordered_part {o = Regions} end = λ P x place n there from. tt
  ordered_part (operation h rs rest) = λ x place all body at n P from before entry.
      let u : KitTree = record { head = h; regions = rs } in
      let here = at_first u (operation_list rest) (operation_list body.operations) n from in (
        λ v i. ⊎_elim (before v) (entry v) (sees x place all body at n u here v i),
        ordered_part rs IsNone (inner_site x place all body at n u here) (inner_at x place all body at n u here) 0
            (inner_there x place all body at n u here) (whole (region_list rs)),
        ordered_part rest x place all body at (suc n) (λ v. Has v (names_of h.results) ⊎ P v)
            (at_rest u (operation_list rest) (operation_list body.operations) n from)
            (λ v i. ⊎_elim
            (λ a. inr (before v (has_front (names_of body.label.arguments)
            (results_of (take n (operation_list body.operations))) v a)))
            (λ r. ⊎_elim
            (λ own. inl own)
            (λ old. inr (before v (has_back (names_of body.label.arguments)
            (results_of (take n (operation_list body.operations))) v old)))
            (one_more n (operation_list body.operations) u v here r))
            (has_either (names_of body.label.arguments) (results_of (take (suc n) (operation_list body.operations))) v
            i))
            (λ v i. inr (entry v i)),
      )
  ordered_part (block l os rest) = λ P. (
    λ x place r there here.
        let body : KitBody = record { label = l; operations = os } in
        let all : Part Blocks = block l os rest in (
          ordered_part os x place all body
              (record { there = there; region = r; region_here = here; number = 0; block_here = refl }) 0
              (λ v. Has v (names_of l.arguments)) (whole (operation_list os)) (arguments_first body)
              (λ v none. absurd none),
          (ordered_part rest IsNone).1 x place all r 0 there here
              (at_rest body (block_list rest) (block_list all) 0 (whole (block_list all))),
        ),
    λ x place all r n there here from.
        let body : KitBody = record { label = l; operations = os } in
        let at : InBody x place all body = record {
          there = there;
          region = r;
          region_here = here;
          number = suc n;
          block_here = at_first body (block_list rest) (block_list all) (suc n) from;
        } in (
          ordered_part os x place all body at 0 (λ v. Has v (names_of l.arguments) ⊎ IsOfEntry all v)
              (whole (operation_list os)) (λ v i. inl (arguments_first body v i))
              (λ v i. inr (if_outside all v (suc n == 0) i)),
          bare_part x place all body at n refl os 0 (whole (operation_list os)),
          (ordered_part rest IsNone).1 x place all r (suc n) there here
              (at_rest body (block_list rest) (block_list all) (suc n) from),
        ),
  )
  ordered_part (region bs rest) = λ P x place n there from. (
    (ordered_part bs IsNone).0 x place n there (at_first bs (region_list rest) (region_list x.op.regions) n from),
    ordered_part rest IsNone x place (suc n) there (at_rest bs (region_list rest) (region_list x.op.regions) n from),
  )

  -- the operands of all operations below the root are so
  pub ordered_by_rules : Ordered t.regions true IsNone
  ordered_by_rules =
      ordered_part t.regions IsNone (record { op = t; around = None }) [] 0 refl (whole (region_list t.regions))
