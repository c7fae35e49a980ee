-- Steps along all chains of numbers, as steps on blocks, join all chains of blocks.
use Rattle.std.proofs.Common.{◌≡◌, ◌≢◌, ◌⊎◌, inl, inr, ⊎_elim, ℕ, zero, suc, ◌<◌, true, false, List, [], ◌∷◌, ◌++◌, length, take, Option, Some, None, slice_get, refl, sym, ap, ◌∙◌, subst, arith}
use Rattle.std.specs.Prelude.{if◌then◌else◌}
use Rattle.ir_program.specs.Lists.{operations_in, StandsInRegion}
use Rattle.ir_program.specs.Program.{Program}
use Rattle.ir_program.specs.Rows.{successors_at}
use Rattle.ir_program.specs.declared.handles.Ptr.{Ptr}
use Rattle.ir_program.specs.declared.handles.Operation.{Operation}
use Rattle.ir_program.specs.declared.handles.Region.{Region}
use Rattle.ir_program.specs.declared.handles.BasicBlock.{BasicBlock}
use Rattle.ir_program.proofs.made.Frames.{same_or_not}
use Rattle.ir_trees.proofs.HandleTests.{block_no}
use Rattle.ir_trees.specs.Searched.{AreDistinct}
use Rattle.ir_trees.specs.Stands.{by_handle, in_program, ProgramTree}
use Rattle.opt_inside.proofs.Around.{HasLists}
use Rattle.opt_trees.specs.Dialect.{Dialect}
use Rattle.opt_trees.specs.Simplify.{StartingRegions, Joinable}
use Rattle.opt_chains.specs.Chained.{AreChains}
use Rattle.opt_chains.specs.ChainSteps.{behind, end_of, IsFirst, IsBehind, AreLinks, AreSteps, no_steps, one_step, AreWalked}
use Rattle.opt_chains.specs.Exits.{IsBareExit}
use Rattle.opt_chains.specs.Merging.{front, held, is_taken, last_of, AreTogether, AreJoins}
use Rattle.opt_chains.specs.declared.chain_steps.ChainStep.{ChainStep}
use Rattle.opt_chains.specs.declared.merging.Join.{Join}
use Rattle.opt_chains.proofs.ChainHandles.{AreMatched, none_matched, one_matched, end_key, held_keys, matched_taken, matched_at, taken_key, key_taken, IsStepAt, step_at}
use Rattle.opt_chains.proofs.ChainRows.{IsRow, rows}
use Rattle.opt_chains.proofs.MergeLists.{none_listed, same_some, not_true, last_at}
use Rattle.opt_chains.proofs.MergeValues.{below_taken}
use Rattle.opt_chains.proofs.MergeWhole.{none_held}

in_length : {X : Type 0} (xs : List X) (k : ℕ) (x : X) → slice_get xs k ≡ Some x → k < length xs
in_length [] k x h = absurd (none_listed k x h)
in_length (y ∷ xs) zero x h = omega arith
in_length (y ∷ xs) (suc k) x h = let l = in_length xs k x h in omega (arith, l)

taken_before : {X : Type 0} (xs : List X) (n k : ℕ) (x : X) → slice_get (take n xs) k ≡ Some x → k < n
taken_before xs zero k x h = absurd (none_listed k x h)
taken_before [] (suc n) k x h = absurd (none_listed k x h)
taken_before (y ∷ xs) (suc n) zero x h = omega arith
taken_before (y ∷ xs) (suc n) (suc k) x h = let l = taken_before xs n k x h in omega (arith, l)

-- what the first steps have behind a number is a row
steps_taken : (next : List (Option ℕ)) (ss : List ChainStep) → AreSteps next ss → (k : ℕ) → AreSteps next (take k ss)
steps_taken next _ no_steps zero = no_steps
steps_taken next _ no_steps (suc k) = no_steps
steps_taken next _ (one_step ss s all steps first leads from is) k = subst (λ l. AreSteps next (take k l)) (sym is) (⊎_elim
    (λ (e : take k (ss ++ s ∷ []) ≡ take k ss). subst (AreSteps next) (sym e) (steps_taken next ss steps k))
    (λ (e : take k (ss ++ s ∷ []) ≡ ss ++ s ∷ []). subst (AreSteps next) (sym e) (one_step ss s (ss ++ s ∷ []) steps first leads from refl))
    (either ss s k))
  where
    take_none : (x : ChainStep) (n : ℕ) → take (suc n) (x ∷ []) ≡ x ∷ []
    take_none x zero = refl
    take_none x (suc n) = refl

    either : (xs : List ChainStep) (x : ChainStep) (n : ℕ) → (take n (xs ++ x ∷ []) ≡ take n xs) ⊎ (take n (xs ++ x ∷ []) ≡ xs ++ x ∷ [])
    either [] x zero = inl refl
    either [] x (suc n) = inr (take_none x n)
    either (y ∷ xs) x zero = inl refl
    either (y ∷ xs) x (suc n) = ⊎_elim (λ l. inl (ap (λ w. y ∷ w) l)) (λ r. inr (ap (λ w. y ∷ w) r)) (either xs x n)

pub rows_taken : (next : List (Option ℕ)) (ss : List ChainStep) → AreSteps next ss → (k f : ℕ) → IsRow next f (behind (take k ss) f)
rows_taken next ss steps k f = rows next (take k ss) (steps_taken next ss steps k) f

-- what is known of the numbers of blocks, of what they lead to, and of the steps
pub record AreNamed {O B A : Type 0} (d : Dialect (in_program O B) A) (place : StartingRegions by_handle) (c : Program O B) (t : ProgramTree O B) (keys : List (Ptr BasicBlock)) (next : List (Option ℕ)) (ss : List ChainStep) (js : List Join) : Type 0 where
  pub once : AreDistinct keys
  pub len : length next ≡ length keys
  pub links : AreLinks next
  pub walked : AreWalked next ss
  pub matched : AreMatched keys once ss js
  -- the numbers lead where blocks are joinable
  pub named : (n m : ℕ) → slice_get next n ≡ Some (Some m) → (x : Ptr BasicBlock) × (y : Ptr BasicBlock) × (slice_get keys n ≡ Some x) × (slice_get keys m ≡ Some y) × Joinable d place t x y
  pub all : (x y : Ptr BasicBlock) → Joinable d place t x y → (n : ℕ) × (m : ℕ) × (slice_get keys n ≡ Some x) × (slice_get keys m ≡ Some y) × (slice_get next n ≡ Some (Some m))
  -- each number that leads somewhere is behind a first
  pub from_first : (n m : ℕ) → slice_get next n ≡ Some (Some m) → (f : ℕ) × (f < length next) × IsFirst next f × IsBehind next f n
  -- each step has the branch at the end of the block before
  pub exits : (k : ℕ) (j : Join) (s : ChainStep) (z : Ptr BasicBlock) → slice_get js k ≡ Some j → slice_get ss k ≡ Some s → slice_get keys s.before ≡ Some z → IsBareExit d c z j.branch j.block
  -- of the program: nothing else leads to a block that is joinable, and it is in the region of the one before
  pub single : (x y : Ptr BasicBlock) (p : Ptr Operation) → Joinable d place t x y → IsBareExit d c x p y → (q : Ptr Operation) (k : ℕ) → slice_get (successors_at c q) k ≡ Some y → q ≡ p
  pub beside : (x y : Ptr BasicBlock) → Joinable d place t x y → AreTogether c x y

module _ {O B A : Type 0} (d : Dialect (in_program O B) A) (place : StartingRegions by_handle) (c : Program O B) (t : ProgramTree O B) (lists : HasLists c) (keys : List (Ptr BasicBlock)) (next : List (Option ℕ)) (ss : List ChainStep) (js : List Join) (by : AreNamed d place c t keys next ss js) where
  steps : AreSteps next ss
  steps = by.walked.steps

  -- the block before a step's is the end of the chain by then
  before_is : (k : ℕ) (j : Join) (s : ChainStep) → slice_get ss k ≡ Some s → slice_get keys s.first ≡ Some j.first → slice_get keys s.before ≡ Some (last_of j.first (held (take k js) j.first))
  before_is k j s here first =
      ap (slice_get keys) (step_at next ss steps k s here).from
      ∙ end_key keys by.once s.first j.first (behind (take k ss) s.first) (held (take k js) j.first) first (held_keys keys by.once (take k ss) (take k js) (matched_taken keys by.once ss js by.matched k) s.first j.first first)

  sound : (k : ℕ) (j : Join) → slice_get js k ≡ Some j → Joinable d place t (last_of j.first (held (take k js) j.first)) j.block
  sound k j here =
      let m = matched_at keys by.once ss js by.matched k j here in
      let i = step_at next ss steps k m.0 m.1 in
      let n = by.named m.0.before m.0.to i.leads in
      let a = same_some (slice_get keys m.0.before) n.0 (last_of j.first (held (take k js) j.first)) n.2 (before_is k j m.0 m.1 m.2) in
      let b = same_some (slice_get keys m.0.to) n.1 j.block n.3 m.3 in
      subst (λ x. Joinable d place t x j.block) a (subst (Joinable d place t n.0) b n.4)

  every : (a b : Ptr BasicBlock) → Joinable d place t a b → is_taken js b ≡ true
  every a b joins =
      let n = by.all a b joins in
      let f = by.from_first n.0 n.1 n.4 in
      taken_key keys by.once ss js by.matched f.0 n.1 b n.3 (by.walked.all f.0 n.0 n.1 f.1 f.2 f.3 n.4)

  -- the number of a block behind which something is held
  first_key : (us : List ChainStep) (is : List Join) → AreMatched keys by.once us is → (b : Ptr BasicBlock) → (held is b ≡ []) ⊎ ((f : ℕ) × (slice_get keys f ≡ Some b))
  first_key _ _ none_matched b = inl refl
  first_key _ _ (one_matched s j us is first to rest) b = ⊎_elim
      (λ (e : j.first ≡ b). inr (s.first, first ∙ ap Some e))
      (λ (ne : j.first ≢ b). ⊎_elim (λ none. inl (ap (λ x. if x then j.block ∷ held is b else held is b) (block_no j.first b ne) ∙ none)) (λ r. inr r) (first_key us is rest b))
      (same_or_not j.first b)

  ends : (b x : Ptr BasicBlock) → is_taken js b ≡ false → Joinable d place t (last_of b (held js b)) x → ⊥
  ends b x left joins =
      let n = by.all (last_of b (held js b)) x joins in
      let f = ⊎_elim {C = (f : ℕ) × (slice_get keys f ≡ Some b)} (λ (none : held js b ≡ []). (n.0, n.2 ∙ ap (λ l. Some (last_of b l)) none)) (λ r. r) (first_key ss js by.matched b) in
      let first : IsFirst next f.0 = λ a e.
      let m = by.named a f.0 e in
      let same = same_some (slice_get keys f.0) m.1 b m.3 f.1 in
      let y : is_taken js b ≡ true = every m.0 b (subst (Joinable d place t m.0) same m.4) in
      let g : true ≡ false = sym y ∙ left in cc in
      let within : f.0 < length next = subst (λ l. f.0 < l) (sym by.len) (in_length keys f.0 b f.1) in
      let end = end_key keys by.once f.0 b (behind ss f.0) (held js b) f.1 (held_keys keys by.once ss js by.matched f.0 b f.1) in
      let at : end_of f.0 (behind ss f.0) ≡ n.0 = by.once (end_of f.0 (behind ss f.0)) n.0 (last_of b (held js b)) end n.2 in
      let g : Some (Some n.1) ≡ Some None = sym n.4 ∙ ap (slice_get next) (sym at) ∙ by.walked.ends f.0 within first in
      cc

  -- a row of numbers is in one region
  back_to : (a : ℕ) (ns : List ℕ) (x w : Ptr BasicBlock) (r : Ptr Region) → IsRow next a ns → slice_get keys a ≡ Some x → slice_get keys (end_of a ns) ≡ Some w → StandsInRegion c w r → StandsInRegion c x r
  back_to a [] x w r row ea ew s = subst (λ y. StandsInRegion c y r) (same_some (slice_get keys a) w x ew ea) s
  back_to a (n ∷ ns) x w r row ea ew s =
      let m = by.named a n row.0 in
      let sn = back_to n ns m.1 w r row.1 m.3 ew s in
      let both = by.beside m.0 m.1 m.4 in
      let same : both.0 ≡ r = (lists.blocks_once m.1 both.0 r both.2.index sn.index both.2.here sn.here).0 in
      subst (λ y. StandsInRegion c y r) (same_some (slice_get keys a) m.0 x m.2 ea) (subst (StandsInRegion c m.0) same both.1)

  module _ (k : ℕ) (j : Join) (here : slice_get js k ≡ Some j) where
    abbrev z : Ptr BasicBlock
    z = last_of j.first (held (take k js) j.first)

    joins : Joinable d place t z j.block
    joins = sound k j here

    abbrev it : (s : ChainStep) × (slice_get ss k ≡ Some s) × (slice_get keys s.first ≡ Some j.first) × (slice_get keys s.to ≡ Some j.block)
    it = matched_at keys by.once ss js by.matched k j here

    at : IsStepAt next ss k it.0
    at = step_at next ss steps k it.0 it.1

    exit : IsBareExit d c z j.branch j.block
    exit = by.exits k j it.0 z here it.1 (before_is k j it.0 it.1 it.2)

    other : j.first ≢ j.block
    other e =
        let same : it.0.to ≡ it.0.first = by.once it.0.to it.0.first j.block it.3 (it.2 ∙ ap Some e) in
        at.first it.0.before (at.leads ∙ ap (λ n. Some (Some n)) same)

    together : AreTogether c j.first j.block
    together =
        let both = by.beside z j.block joins in
        (both.0, back_to it.0.first (behind (take k ss) it.0.first) j.first z both.0 row it.2 (ap (slice_get keys) (sym at.from) ∙ before_is k j it.0 it.1 it.2) both.1, both.2)
      where
        row : IsRow next it.0.first (behind (take k ss) it.0.first)
        row = rows_taken next ss steps k it.0.first

    kept : is_taken (take k js) j.first ≡ false
    kept = not_true (is_taken (take k js) j.first) (λ h.
        let u = key_taken keys by.once (take k ss) (take k js) (matched_taken keys by.once ss js by.matched k) it.0.first j.first it.2 h in
        let i = step_at next ss steps u.0 u.1 (below_taken ss k u.0 u.1 u.2) in
        at.first u.1.before (i.leads ∙ ap (λ n. Some (Some n)) u.3))

    fresh : is_taken (take k js) j.block ≡ false
    fresh = not_true (is_taken (take k js) j.block) (λ h.
        let u = key_taken keys by.once (take k ss) (take k js) (matched_taken keys by.once ss js by.matched k) it.0.to j.block it.3 h in
        let same = by.walked.once u.0 k u.1 it.0 (below_taken ss k u.0 u.1 u.2) it.1 u.3 in
        let less = taken_before ss k u.0 u.1 u.2 in
        absurd (omega (arith, same, less)))

    whole : held (take k js) j.block ≡ []
    whole = none_held (take k js) j.block (λ n i h e.
        let u = matched_at keys by.once ss js by.matched n i (below_taken js k n i h) in
        let same : it.0.to ≡ u.0.first = by.once it.0.to u.0.first j.block it.3 (u.2 ∙ ap Some e) in
        (step_at next ss steps n u.0 u.1).first it.0.before (at.leads ∙ ap (λ x. Some (Some x)) same))

    branch_left : (i : Join) (n : ℕ) → slice_get (take k js) n ≡ Some i → i.branch ≢ j.branch
    branch_left i n h e =
        let below = below_taken js k n i h in
        let u = matched_at keys by.once ss js by.matched n i below in
        let y = last_of i.first (held (take n js) i.first) in
        let ey = before_is n i u.0 u.1 u.2 in
        let other_exit = by.exits n i u.0 y below u.1 ey in
        let sy : slice_get (operations_in c y) (length (front (operations_in c y))) ≡ Some j.branch = ap (λ l. slice_get l (length (front (operations_in c y)))) other_exit.ends ∙ last_at (front (operations_in c y)) i.branch ∙ ap Some e in
        let sz : slice_get (operations_in c z) (length (front (operations_in c z))) ≡ Some j.branch = ap (λ l. slice_get l (length (front (operations_in c z)))) exit.ends ∙ last_at (front (operations_in c z)) j.branch in
        let same : y ≡ z = (lists.operations_once j.branch y z (length (front (operations_in c y))) (length (front (operations_in c z))) sy sz).0 in
        let number : u.0.before ≡ it.0.before = by.once u.0.before it.0.before z (ey ∙ ap Some same) (before_is k j it.0 it.1 it.2) in
        let lead = (step_at next ss steps n u.0 u.1).leads in
        let to : Some (Some u.0.to) ≡ Some (Some it.0.to) = sym lead ∙ ap (slice_get next) number ∙ at.leads in
        let same_to : u.0.to ≡ it.0.to = cc in
        let index = by.walked.once n k u.0 it.0 u.1 it.1 same_to in
        let less = taken_before js k n i h in
        omega (arith, index, less)

  can_join : AreJoins c js
  can_join k j here = record {
    other = other k j here;
    together = together k j here;
    joint =
        let x = exit k j here in
        record { ends = x.ends; view = x.view; there = x.there; results = x.results; regions = x.regions; single = by.single (z k j here) j.block j.branch (joins k j here) x };
    kept = kept k j here;
    fresh = fresh k j here;
    whole = whole k j here;
    branch_left = branch_left k j here;
  }

  -- so these are all chains
  pub chains_found : AreChains d place c t js
  chains_found = record { joins = can_join; sound = sound; all = every; ends = ends }
