-- From the rules to what the laws ask.
use Rattle.std.proofs.Common.{◌≡◌, ◌⊎◌, ⊎_elim, inl, inr, ℕ, zero, suc, ◌+◌, ◌*◌, ◌<◌, ◌≤◌, Bool, true, false, List, [], ◌∷◌, ◌++◌, length, Option, Some, None, refl, sym, ap, ◌∙◌, subst, arith}
use Rattle.std.specs.Prelude.{map, slice_get, if◌then◌else◌}
use Rattle.kit_behaviour.specs.Machine.{AllEdges, Edge, Op, Const, Calc, Emit, Call, Branch, Return, Fun, FunctionsByPath, left_in, arguments_in, Alike}
use Rattle.kit_behaviour.specs.Scopes.{EdgeScoped, In, AllIn, defs, all_defs, entry_values, at_start, OpScoped, OpsWith, BlocksWith}
use Rattle.kit_behaviour.specs.Facts.{Fact, Undetermined, Known, Unknown, FunctionFacts, AreMostPreciseFacts, all_forwarded}
use Rattle.kit_behaviour.specs.RemovedValues.{goes, going, FewGo}
use Rattle.kit_behaviour.specs.InsertedConstants.{is_new, same_name, Made, put_in, use_of, AllUnmade, OpsUnmade, MayPut}
use Rattle.kit_behaviour.specs.Places.{Place, Arg, Res, same_place}
use Rattle.kit_behaviour.specs.Rules.{EdgeFits, operands, is_terminator, EndsWell, EdgesOfOpFit, AllEdgesFit, results_at, OpsPlaced, Rules, BlocksBelow}
use Rattle.kit_behaviour.specs.ConstantPropagation.{Wants, known_at, number_of, number_at, made_of, sccp, IsSccpOfFunctions}
use Rattle.kit_behaviour.specs.Replacement.{replace_op, replace}
use Rattle.kit_behaviour.proofs.Behaviour.SizeLemmas.{some_end}
use Rattle.kit_behaviour.proofs.Propagation.ScopeLemmas.{in_split, in_append}
use Rattle.kit_behaviour.proofs.Numbering.NumberingBehaviour.{place_left}
use Rattle.kit_behaviour.proofs.Lattice.ReplacementBehaviour.{replace_left}
use Rattle.kit_behaviour.proofs.Propagation.PropagationBehaviour.{same_name_law, sccp_placed_alike}
use Rattle.kit_behaviour.proofs.Numbering.PlaceEquality.{place_law}

module _ {V : Type 0} (f : Option (Fun V)) where
  abbrev pub Sees : List V → Op V → Type 0
  Sees a op = AllIn (operands op) a

  front_in : (xs ys a : List V) → AllIn (xs ++ ys) a → AllIn xs a
  front_in [] ys a h = tt
  front_in (x ∷ xs) ys a h = (h.0, front_in xs ys a h.1)

  back_in : (xs ys a : List V) → AllIn (xs ++ ys) a → AllIn ys a
  back_in [] ys a h = h
  back_in (x ∷ xs) ys a h = back_in xs ys a h.1

  -- each of these is in scope
  all_of : (xs a : List V) → ((x : V) → In x xs → In x a) → AllIn xs a
  all_of [] a h = tt
  all_of (x ∷ xs) a h = (h x (inl refl), all_of xs a (λ y i. h y (inr i)))

  abbrev pub Coming : List V → List (Op V) → Type 0
  Coming a ops = (x : V) → In x (entry_values f) → In x (all_defs ops) ⊎ In x a

  edges_scoped : (a : List V) (es : List (Edge V)) → AllIn (entry_values f) a → AllIn (all_forwarded es) a → AllEdges (EdgeFits f) es → AllEdges (EdgeScoped f a) es
  edges_scoped a [] ent s g = tt
  edges_scoped a (e ∷ es) ent s g = ((front_in e.forwards (all_forwarded es) a s, ent, g.0.count), edges_scoped a es ent (back_in e.forwards (all_forwarded es) a s) g.1)

  last_scoped : (a : List V) (op : Op V) → is_terminator op ≡ true → Sees a op → EdgesOfOpFit f op → Coming a (op ∷ []) → OpScoped f a op
  last_scoped a (Branch t xs e es) w s g c =
      let ent = all_of (entry_values f) a (λ x i. ⊎_elim (λ l. absurd l) (λ r. r) (c x i)) in
      (front_in xs (all_forwarded (e ∷ es)) a s, edges_scoped a (e ∷ es) ent (back_in xs (all_forwarded (e ∷ es)) a s) g)
  last_scoped a (Return xs) t s g c = s
  last_scoped a (Const r n) t s g c = absurd (cc t)
  last_scoped a (Calc o w r x y) t s g c = absurd (cc t)
  last_scoped a (Emit x) t s g c = absurd (cc t)
  last_scoped a (Call rs k xs) t s g c = absurd (cc t)

  inner_scoped : (a : List V) (op : Op V) → is_terminator op ≡ false → Sees a op → OpScoped f a op
  inner_scoped a (Const r n) t s = tt
  inner_scoped a (Calc o w r x y) t s = (s.0, s.1.0)
  inner_scoped a (Emit x) t s = s.0
  inner_scoped a (Call rs k xs) t s = s
  inner_scoped a (Branch u xs e es) t s = absurd (cc t)
  inner_scoped a (Return xs) t s = absurd (cc t)

  later : (a : List V) (op : Op V) (ops : List (Op V)) → Coming a (op ∷ ops) → Coming (defs op ++ a) ops
  later a op ops c x i =
      ⊎_elim
      (λ l. ⊎_elim (λ d. inr (in_append x (defs op) a (inl d))) (λ r. inl r) (in_split x (defs op) (all_defs ops) l))
      (λ r. inr (in_append x (defs op) a (inr r)))
      (c x i)

  ops_scoped : (a : List V) (op : Op V) (ops : List (Op V)) → EndsWell (op ∷ ops) → OpsWith Sees a (op ∷ ops) → AllEdgesFit f (op ∷ ops) → Coming a (op ∷ ops) → OpsWith (OpScoped f) a (op ∷ ops)
  ops_scoped a op [] e s g c = (last_scoped a op e s.0 g.0 c, tt)
  ops_scoped a op (next ∷ ops) e s g c = (inner_scoped a op e.0 s.0, ops_scoped (defs op ++ a) next ops e.1 s.1 g.1 (later a op (next ∷ ops) c))

  pub any_scoped : (a : List V) (ops : List (Op V)) → (0 < length ops → EndsWell ops) → OpsWith Sees a ops → AllEdgesFit f ops → Coming a ops → OpsWith (OpScoped f) a ops
  any_scoped a [] e s g c = tt
  any_scoped a (op ∷ ops) e s g c = ops_scoped a op ops (e (omega arith)) s g c

  pub start_coming : (b : ℕ) → Coming (at_start f b) (left_in f b 0)
  start_coming zero x i = ⊎_elim (λ l. inr l) (λ r. inl r) (in_split x (arguments_in f 0) (all_defs (left_in f 0 0)) i)
  start_coming (suc b) x i = inr (in_append x (arguments_in f (suc b)) (entry_values f) (inr i))

pub rules_scoped : (f : Option (Fun Place)) → Rules f → BlocksWith f (OpScoped f)
rules_scoped f r b = any_scoped f (at_start f b) (left_in f b 0) (some_end f r.terminated b) (r.sees b) (r.fits b) (start_coming f b)

-- what gets no constant

number_known : (t : Fact) (n : ℕ) → number_of t ≡ Some n → t ≡ Known n
number_known (Known m) n e = let x : m ≡ n = cc e in ap Known x
number_known Undetermined n e = absurd (cc e)
number_known Unknown n e = absurd (cc e)

number_at_known : (o : Option (Op Place)) (t : Fact) (n : ℕ) → number_at o t ≡ Some n → t ≡ Known n
number_at_known None t n e = absurd (cc e)
number_at_known (Some (Calc a w r x y)) t n e = number_known t n e
number_at_known (Some (Const r m)) t n e = absurd (cc e)
number_at_known (Some (Emit x)) t n e = absurd (cc e)
number_at_known (Some (Call rs c xs)) t n e = absurd (cc e)
number_at_known (Some (Branch s xs e es)) t n q = absurd (cc q)
number_at_known (Some (Return xs)) t n e = absurd (cc e)

if_some : (b : Bool) (o : Option ℕ) (n : ℕ) → (if b then o else None) ≡ Some n → o ≡ Some n
if_some true o n e = e
if_some false o n e = absurd (cc e)

if_none : (b : Bool) (o : Option ℕ) → o ≡ None → (if b then o else None) ≡ None
if_none true o e = e
if_none false o e = refl

module _ (f : Option (Fun Place)) (k : FunctionFacts Place) where
  known_known : (v : Place) (n : ℕ) → known_at f k v ≡ Some n → k.of v ≡ Known n
  known_known (Arg b i) n e = number_known (k.of (Arg b i)) n (if_some (k.runs b) (number_of (k.of (Arg b i))) n e)
  known_known (Res b o i) n e = number_at_known (slice_get (left_in f b 0) o) (k.of (Res b o i)) n (if_some (k.runs b) _ n e)

module _ (want : Wants) (f : Option (Fun Place)) (k : FunctionFacts Place) where
  pub made_known : (v : Place) (n : ℕ) → made_of want f k v ≡ Some n → k.of v ≡ Known n
  made_known v n e = known_known f k v n (if_some (want f v) (known_at f k v) n e)

  none_at : (b o i : ℕ) (op : Op Place) → slice_get (left_in f b 0) o ≡ Some op → ((t : Fact) → number_at (Some op) t ≡ None) → made_of want f k (Res b o i) ≡ None
  none_at b o i op at none =
      if_none (want f (Res b o i)) (known_at f k (Res b o i))
      (if_none (k.runs b) (number_at (slice_get (left_in f b 0) o) (k.of (Res b o i))) (ap (λ z. number_at z (k.of (Res b o i))) at ∙ none (k.of (Res b o i))))

  all_none : (b o i n : ℕ) (op : Op Place) → slice_get (left_in f b 0) o ≡ Some op → ((t : Fact) → number_at (Some op) t ≡ None) → AllUnmade (made_of want f k) (results_at b o i n)
  all_none b o i zero op at none = tt
  all_none b o i (suc n) op at none = (none_at b o i op at none, all_none b o (suc i) n op at none)

  -- from o on
  ops_unmade : (b o : ℕ) (ops : List (Op Place)) → ((n : ℕ) → slice_get (left_in f b 0) (o + n) ≡ slice_get ops n) → OpsPlaced b o ops → OpsUnmade (made_of want f k) ops
  ops_unmade b o [] at h = tt
  ops_unmade b o (op ∷ ops) at h = by_kind (ops_unmade b (suc o) ops (λ n. let e : suc o + n ≡ o + suc n = omega arith in ap (slice_get (left_in f b 0)) e ∙ at (suc n)) h.1) op refl
    where
      here : slice_get (left_in f b 0) o ≡ Some op
      here = let e : o ≡ o + 0 = omega arith in ap (slice_get (left_in f b 0)) e ∙ at 0

      by_kind : OpsUnmade (made_of want f k) ops → (q : Op Place) → op ≡ q → OpsUnmade (made_of want f k) (q ∷ ops)
      by_kind rest (Const r n) e =
          let d : r ∷ [] ≡ results_at b o 0 1 = subst (λ z. defs z ≡ results_at b o 0 (length (defs z))) e h.0 in
          let u = subst (AllUnmade (made_of want f k)) (sym d) (all_none b o 0 1 (Const r n) (here ∙ ap Some e) (λ t. refl)) in
          (u.0, rest)
      by_kind rest (Call rs c xs) e =
          let d : rs ≡ results_at b o 0 (length rs) = subst (λ z. defs z ≡ results_at b o 0 (length (defs z))) e h.0 in
          (subst (AllUnmade (made_of want f k)) (sym d) (all_none b o 0 (length rs) (Call rs c xs) (here ∙ ap Some e) (λ t. refl)), rest)
      by_kind rest (Calc a w r x y) e = rest
      by_kind rest (Emit x) e = rest
      by_kind rest (Branch s xs y ys) e = rest
      by_kind rest (Return xs) e = rest

  pub made_may_put : Rules f → MayPut (made_of want f k) k f
  made_may_put r =
      record {
        known = made_known;
        others = λ b. ops_unmade b 0 (left_in f b 0) (λ n. let e : 0 + n ≡ n = omega arith in ap (slice_get (left_in f b 0)) e) (r.names b);
      }

-- fewer operations go than there are

pub going_few : {V : Type 0} (d : V → Bool) (ops : List (Op V)) → going d ops ≤ length ops
going_few d [] = omega arith
going_few d (op ∷ ops) = by_test (goes d op) (going_few d ops)
  where
    by_test : (b : Bool) → going d ops ≤ length ops → (if b then suc (going d ops) else going d ops) ≤ length (op ∷ ops)
    by_test true h = omega (arith, h)
    by_test false h = omega (arith, h)

length-map : {A B : Type 0} (g : A → B) (xs : List A) → length (map g xs) ≡ length xs
length-map g [] = refl
length-map g (x ∷ xs) = ap suc (length-map g xs)

-- the whole pass

module _ (want : Wants) (p : FunctionsByPath Place) (k : List ℕ → FunctionFacts Place) (best : (path : List ℕ) → AreMostPreciseFacts (p path) (k path)) (rules : (path : List ℕ) → Rules (p path)) where
  abbrev made : List ℕ → Made Place
  made path = made_of want (p path) (k path)

  length_after : (path : List ℕ) (b : ℕ) → length (left_in (sccp want k p path) b 0) ≡ length (left_in (put_in (made path) (p path)) b 0)
  length_after path b =
      let g = put_in (made path) (p path) in
      let u = use_of (made path) in
      ap length (place_left (same_name same_place) (same_name_law same_place place_law) (replace u g) b) ∙ length-map _ (left_in (replace u g) b 0) ∙ ap length (replace_left u g b 0) ∙ length-map (replace_op u) (left_in g b 0)

  few_put : (c : ℕ) → BlocksBelow c (sccp want k p) → FewGo c (λ path. is_new) (λ path. put_in (made path) (p path))
  few_put c below path b = omega (arith, going_few is_new (left_in (put_in (made path) (p path)) b 0), length_after path b, below path b)

  pub pass_alike : (c : ℕ) → BlocksBelow c (sccp want k p) → Alike same_place same_place c p (sccp want k p)
  pass_alike c below =
      let e : 1 * c * 1 * 1 ≡ c = omega arith in
      subst (λ n. Alike same_place same_place n p (sccp want k p)) e
      (sccp_placed_alike same_place place_law p k made (λ path. (best path).closed) (λ path. rules_scoped (p path) (rules path)) (λ path. made_may_put want (p path) (k path) (rules path)) c (few_put c below))

pub sccp_is_alike : (want : Wants) (p q : FunctionsByPath Place) (c : ℕ) → ((path : List ℕ) → Rules (p path)) → IsSccpOfFunctions want p q → BlocksBelow c q → Alike same_place same_place c p q
sccp_is_alike want p q c rules is below =
    let e : q ≡ sccp want is.facts p = λ i path. is.is path i in
    subst (λ r. Alike same_place same_place c p r) (sym e) (pass_alike want p is.facts is.best rules c (subst (BlocksBelow c) e below))

pub with_unit : {V : Type 0} (f : Option (Fun V)) (a : List V) (ops : List (Op V)) → OpsWith (OpScoped f) a ops → OpsWith (λ a op. OpScoped f a op × Unit {0}) a ops
with_unit f a [] h = tt
with_unit f a (op ∷ ops) h = ((h.0, tt), with_unit f (defs op ++ a) ops h.1)
